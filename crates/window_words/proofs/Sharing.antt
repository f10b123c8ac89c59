-- Handing out a window and taking in a seat keep the rule.
use Rattle.std.proofs.Common.{◌≡◌, ℕ, zero, suc, ◌+◌, ◌*◌, ◌<◌, ◌≤◌, ◌≢◌, ◌⊎◌, eqb, eq-eqb, ne_eqb, Bool, true, false, ◌||◌, if◌then◌else◌, List, [], ◌∷◌, ◌++◌, map, length, get_or, set, replicate, sym, refl, ap, ◌∙◌, inl, inr, ⊎_elim, subst, arith, nat_lt, nat_eq}
use Rattle.std.specs.Prelude.{All, Option, Some, None, max}
use Rattle.std.specs.List.{list_any, range_with_len, Contains}
use Rattle.std.proofs.lemmas.List.Elements.{All-append, All-cons, All-nil, All-weaker}
use mathlib.Core.Option.{some, some-injective, some-ne-none}
use lib.ListN.{get_elem?}
use Rattle.window_words.proofs.Listed.{both_all}
use Rattle.atomic_table.specs.Table.{State, Splits, Joins}
use Rattle.atomic_table.proofs.Lists.{set_else}
use Rattle.window_words.specs.Views.{add_once, last_of}
use Rattle.window_words.specs.Conditions.{HasClosed}
use Rattle.window_words.specs.Rule.{stamp, Account, Knows, Windows}
use Rattle.window_words.specs.Seating.{no_view, one_more_dealt, next_owner, add_all, accepted_of_both, accepted_by_both, united, deals, dealt_out, joined, leaders_of, nobody}
use Rattle.window_words.specs.declared.views.View.{View}
use Rattle.window_words.specs.declared.views.Known.{Known}
use Rattle.window_words.specs.declared.views.Owned.{Owned}
use Rattle.window_words.specs.declared.views.Pending.{Pending}
use Rattle.window_words.proofs.Keeping.{each_seat_after, each_pair_after}

-- where an item of a longer list stands
pub at_end : {A : Type 0} (l : List A) (a b : A) (j : ℕ) → get_elem? (l ++ a ∷ []) j ≡ some b → (get_elem? l j ≡ some b) ⊎ ((a ≡ b) × (j ≡ length l))
at_end [] a b zero e = inr (some-injective a b e, refl)
at_end [] a b (suc j) e = absurd (some-ne-none b (sym e))
at_end (x ∷ xs) a b zero e = inl e
at_end (x ∷ xs) a b (suc j) e = ⊎_elim (λ h. inl h) (λ h. inr (h.0, ap suc h.1)) (at_end xs a b j e)

-- a function changed at one number
abbrev changed : (ℕ → ℕ) → ℕ → ℕ → ℕ → ℕ
changed f w j x = if eqb x w then j else f x

changed_here : (f : ℕ → ℕ) (w j : ℕ) → changed f w j w ≡ j
changed_here f w j = ap (λ (b : Bool). if b then j else f w) (eq-eqb w w refl)

changed_else : (f : ℕ → ℕ) (w j x : ℕ) → x ≢ w → changed f w j x ≡ f x
changed_else f w j x other = ap (λ (b : Bool). if b then j else f x) (ne_eqb x w other)

-- a function with one of its values renamed
abbrev renamed : (ℕ → ℕ) → ℕ → ℕ → ℕ → ℕ
renamed f old new x = if eqb (f x) old then new else f x

renamed_here : (f : ℕ → ℕ) (old new x : ℕ) → f x ≡ old → renamed f old new x ≡ new
renamed_here f old new x e = ap (λ (b : Bool). if b then new else f x) (eq-eqb (f x) old e)

renamed_else : (f : ℕ → ℕ) (old new x : ℕ) → f x ≢ old → renamed f old new x ≡ f x
renamed_else f old new x other = ap (λ (b : Bool). if b then new else f x) (ne_eqb (f x) old other)

-- a seat that accepted nothing meets every fact on its accepted entries
pub none_accepted : (P : ℕ → Type 0) (n i : ℕ) → All P (get_or (replicate n []) i [])
none_accepted P zero i = All-nil P
none_accepted P (suc n) zero = All-nil P
none_accepted P (suc n) (suc i) = none_accepted P n i

-- a fact on one list of those made by number
made_at : (P : ℕ → Type 0) (f : ℕ → List ℕ) (a n w : ℕ) → ((x : ℕ) → x ≡ a + w → All P (f x)) → All P (get_or (map f (range_with_len a n)) w [])
made_at P f a zero w h = All-nil P
made_at P f a (suc n) zero h = h a (omega arith)
made_at P f a (suc n) (suc w) h = made_at P f (a + 1) n w (λ x e. h x (omega arith))

one_added : (P : ℕ → Type 0) (j : ℕ) (ks : List ℕ) (b : Bool) → P j → All P ks → All P (if b then ks else (ks ++ j ∷ []))
one_added P j ks true p all = all
one_added P j ks false p all = All-append P ks (j ∷ []) all (All-cons P j [] p (All-nil P))

all_added : (P : ℕ → Type 0) (js ks : List ℕ) → All P js → All P ks → All P (add_all js ks)
all_added P [] ks more all = all
all_added P (j ∷ js) ks more all = all_added P js (add_once j ks) (λ k d l. more (suc k) d (omega arith)) (one_added P j ks (list_any (λ i. nat_eq i j) ks) (more 0 j (omega arith)) all)

either_list : (P : ℕ → Type 0) (b c : Bool) (ks js : List ℕ) → All P ks → All P js → All P (if b then (if c then js else ks) else add_all js ks)
either_list P true true ks js p q = q
either_list P true false ks js p q = p
either_list P false c ks js p q = all_added P js ks q p

-- what holds of the entries of a window that two seats accepted holds of those that they accepted together
both_accepted : (P : ℕ → Type 0) (leaders : ℕ) (kss jss : List (List ℕ)) (w : ℕ) → All P (get_or kss w []) → All P (get_or jss w []) → All P (get_or (accepted_by_both leaders kss jss) w [])
both_accepted P leaders kss jss w p q = made_at P (λ x. accepted_of_both leaders x (get_or kss x []) (get_or jss x [])) 0 (max (length kss) (length jss)) w
    (λ x e. let same : x ≡ w = omega arith in subst (λ (z : ℕ). All P (accepted_of_both leaders z (get_or kss z []) (get_or jss z []))) (sym same)
    (either_list P (nat_lt w leaders) (nat_lt (last_of (get_or kss w [])) (last_of (get_or jss w []))) (get_or kss w []) (get_or jss w []) p q))

-- the number of the hub's seat, after seat id takes in another, which was the hub's or not
abbrev hub_after : Bool → ℕ → ℕ → ℕ
hub_after true id h = id
hub_after false id h = h

either_hub : (a b : Bool) (id other h d n vd ud vs us : ℕ) → (a ≡ true → (id ≡ h) × (vd ≡ d) × (vs ≡ n)) → (b ≡ true → (other ≡ h) × (ud ≡ d) × (us ≡ n)) → (a || b) ≡ true
    → (id ≡ hub_after b id h) × ((if a then vd else ud) ≡ d) × ((if a then vs else us) ≡ n)
either_hub true true id other h d n vd ud vs us p q e = (refl, (p refl).1, (p refl).2)
either_hub true false id other h d n vd ud vs us p q e = p refl
either_hub false true id other h d n vd ud vs us p q e = (refl, (q refl).1, (q refl).2)
either_hub false false id other h d n vd ud vs us p q e = absurd cc

hub_stays : (b : Bool) (id other h j : ℕ) → (b ≡ true → other ≡ h) → j ≢ other → j ≡ h → j ≡ hub_after b id h
hub_stays true id other h j q apart e = absurd (apart (e ∙ sym (q refl)))
hub_stays false id other h j q apart e = e

module _ {M : Type 0} (entry : ℕ → ℕ → List ℕ) (wide : ℕ → ℕ) (count lead most : ℕ) (of : M) where
  abbrev Rule : State ℕ (Known M) → Type 0
  Rule = Windows entry wide count lead most of

  abbrev K : List ℕ → ℕ → ℕ → (ℕ → ℕ) → ℕ → View → Type 0
  K = Knows entry wide count

  abbrev Acc : ℕ → List ℕ → (ℕ → ℕ) → ℕ → Option Pending → Owned → Type 0
  Acc = Account entry wide

  abbrev Listed : Known M → Known M → Type 0
  Listed b d = All (HasClosed b.view) d.view.owned

  -- the hub's seat hands out the next window
  module _ (s : State ℕ (Known M)) (r : Rule s) (id : ℕ) (v : Known M) (at : get_elem? s.views id ≡ some v) (hub : v.view.hub ≡ true) (more : v.view.dealt < count) where
    abbrev number : ℕ
    number = length (set s.views id (deals v))

    abbrev owner : ℕ → ℕ
    owner = changed r.owner r.dealt number

    mine : (id ≡ r.hub) × (v.view.dealt ≡ r.dealt) × (v.view.stopped ≡ get_or s.words 0 0)
    mine = (r.each id v at).hubs hub

    account_kept : (j : ℕ) (o : Option Pending) (a : Owned) → Acc r.dealt s.words r.owner j o a → Acc (r.dealt + 1) s.words owner j o a
    account_kept j o a h = let low = h.below in record {
      below = omega arith;
      owned = changed_else r.owner r.dealt number a.window (λ e. omega arith) ∙ h.owned;
      stamped = h.stamped;
      part = h.part;
    }

    hub_seat_knows : K s.words r.hub (r.dealt + 1) owner id (one_more_dealt v.view)
    hub_seat_knows = let k = r.each id v at in record {
      hubs = λ h. (mine.0, ap (λ (z : ℕ). z + 1) mine.1, mine.2);
      owns = All-weaker (Acc r.dealt s.words r.owner id v.view.pending) (Acc (r.dealt + 1) s.words owner id v.view.pending) (account_kept id v.view.pending) v.view.owned k.owns;
      reads = k.reads;
      accepted = k.accepted;
      from_one = k.from_one;
    }

    other_seat_knows : (j : ℕ) (d : Known M) → j ≢ id → get_elem? s.views j ≡ some d → K s.words r.hub (r.dealt + 1) owner j d.view
    other_seat_knows j d other e = let k = r.each j d e in record {
      hubs = λ h. absurd (other ((k.hubs h).0 ∙ sym mine.0));
      owns = All-weaker (Acc r.dealt s.words r.owner j d.view.pending) (Acc (r.dealt + 1) s.words owner j d.view.pending) (account_kept j d.view.pending) d.view.owned k.owns;
      reads = k.reads;
      accepted = k.accepted;
      from_one = k.from_one;
    }

    new_seat_knows : K s.words r.hub (r.dealt + 1) owner number (next_owner v.view)
    new_seat_knows = let m = mine.1 in let unused : stamp wide s.words r.dealt ≡ 0 = r.new r.dealt (omega arith) (omega arith) in record {
      hubs = λ h. cc;
      owns = subst (λ (z : ℕ). All (Acc (r.dealt + 1) s.words owner number None) (record { window = z; closed = [] } ∷ [])) (sym m)
          (All-cons (Acc (r.dealt + 1) s.words owner number None) record { window = r.dealt; closed = [] } []
          record { below = omega arith; owned = changed_here r.owner r.dealt number; stamped = unused; part = tt }
          (All-nil (Acc (r.dealt + 1) s.words owner number None)));
      reads = tt;
      accepted = λ w. none_accepted (λ k. 2 * k ≤ stamp wide s.words w) (length v.view.accepted) w;
      from_one = λ w. none_accepted (λ k. 1 ≤ k) (length v.view.accepted) w;
    }

    abbrev old_views : List (Known M)
    old_views = set s.views id (deals v)

    abbrev all_views : List (Known M)
    all_views = old_views ++ dealt_out v ∷ []

    each_old : (j : ℕ) (d : Known M) → get_elem? old_views j ≡ some d → K s.words r.hub (r.dealt + 1) owner j d.view
    each_old = each_seat_after entry wide count lead most of (λ j d. K s.words r.hub (r.dealt + 1) owner j d.view) s.views id (deals v) hub_seat_knows other_seat_knows

    -- nobody accepted an entry of the window that is handed out
    untouched : (j : ℕ) (d : Known M) → get_elem? old_views j ≡ some d → Listed d (dealt_out v)
    untouched j d e = let k = each_old j d e in let m = mine.1 in let unused : stamp wide s.words r.dealt ≡ 0 = r.new r.dealt (omega arith) (omega arith) in
        let unused' : stamp wide s.words v.view.dealt ≡ 0 = ap (stamp wide s.words) m ∙ unused in
        All-cons (HasClosed d.view) record { window = v.view.dealt; closed = [] } []
        (both_all (λ n. 2 * n ≤ stamp wide s.words v.view.dealt) (λ n. 1 ≤ n) (λ n. (1 ≤ n) × Contains [] n) (λ n low pos. absurd (omega arith)) (get_or d.view.accepted v.view.dealt []) (k.accepted v.view.dealt) (k.from_one v.view.dealt))
        (All-nil (HasClosed d.view))

    knows_nothing : (d : Known M) → Listed (dealt_out v) d
    knows_nothing d = λ k x l. let a : Owned = get_or d.view.owned k x in none_accepted (λ n. (1 ≤ n) × Contains a.closed n) (length v.view.accepted) a.window

    old_listed : (i j : ℕ) (b d : Known M) → get_elem? old_views i ≡ some b → get_elem? old_views j ≡ some d → Listed b d
    old_listed = each_pair_after entry wide count lead most of Listed s.views id (deals v) (λ j d _ e. (r.listed id j v d at e, r.listed j id d v e at)) (r.listed id id v v at at) r.listed

    pub handed_out : Rule record { words = s.words; homes = s.homes; views = all_views }
    handed_out = let m = mine.1 in record {
      hub = r.hub;
      dealt = r.dealt + 1;
      owner = owner;
      long = r.long;
      in_range = omega arith;
      new = λ w l b. r.new w (omega arith) b;
      top = r.top;
      whole = r.whole;
      same = λ j d o e is. ⊎_elim
          (λ (h : get_elem? old_views j ≡ some d). each_seat_after entry wide count lead most of (λ j d. (o : M) → d.of ≡ Some o → o ≡ of) s.views id (deals v) (λ o is. r.same id v o at is) (λ j d _ e o is. r.same j d o e is) j d h o is)
          (λ (h : (dealt_out v ≡ d) × (j ≡ number)). r.same id v o at (ap (λ (z : Known M). z.of) h.0 ∙ is)) (at_end old_views (dealt_out v) d j e);
      each = λ j d e. ⊎_elim (each_old j d)
          (λ (h : (dealt_out v ≡ d) × (j ≡ number)). subst (λ (z : Known M × ℕ). K s.words r.hub (r.dealt + 1) owner z.1 z.0.view) (λ i. (h.0 i, sym h.1 i)) new_seat_knows) (at_end old_views (dealt_out v) d j e);
      following = r.following;
      listed = λ i j b d e f. ⊎_elim
          (λ (h : get_elem? old_views i ≡ some b). ⊎_elim (λ (g : get_elem? old_views j ≡ some d). old_listed i j b d h g)
          (λ (g : (dealt_out v ≡ d) × (j ≡ number)). subst (Listed b) g.0 (untouched i b h)) (at_end old_views (dealt_out v) d j f))
          (λ (h : (dealt_out v ≡ b) × (i ≡ number)). subst (λ (z : Known M). Listed z d) h.0 (knows_nothing d)) (at_end old_views (dealt_out v) b i e);
    }

  pub dealing_keeps : (id : ℕ) (v : Known M) → v.view.hub ≡ true → v.view.dealt < count → Splits Rule id v (deals v) (dealt_out v)
  dealing_keeps id v hub more s r at = handed_out s r id v at hub more

  -- one seat takes in another
  module _ (s : State ℕ (Known M)) (r : Rule s) (id other : ℕ) (v u : Known M) (at : get_elem? s.views id ≡ some v) (at_u : get_elem? s.views other ≡ some u) (apart : other ≢ id) (free : v.view.pending ≡ None) (free_u : u.view.pending ≡ None) (w : Known M) (leaders : ℕ) (is : w.view ≡ united leaders v.view u.view) (same : w.of ≡ v.of) where
    abbrev new_hub : ℕ
    new_hub = hub_after u.view.hub id r.hub

    abbrev new_owner : ℕ → ℕ
    new_owner = renamed r.owner other id

    kept_account : (j : ℕ) (o : Option Pending) (a : Owned) → j ≢ other → Acc r.dealt s.words r.owner j o a → Acc r.dealt s.words new_owner j o a
    kept_account j o a third h = record {
      below = h.below;
      owned = renamed_else r.owner other id a.window (λ e. third (sym h.owned ∙ e)) ∙ h.owned;
      stamped = h.stamped;
      part = h.part;
    }

    passed_account : (a : Owned) → Acc r.dealt s.words r.owner other None a → Acc r.dealt s.words new_owner id None a
    passed_account a h = record { below = h.below; owned = renamed_here r.owner other id a.window h.owned; stamped = h.stamped; part = h.part }

    both_know : K s.words new_hub r.dealt new_owner id (united leaders v.view u.view)
    both_know = let k = r.each id v at in let j = r.each other u at_u in record {
      hubs = λ h. either_hub v.view.hub u.view.hub id other r.hub r.dealt (get_or s.words 0 0) v.view.dealt u.view.dealt v.view.stopped u.view.stopped k.hubs j.hubs h;
      owns = All-append (Acc r.dealt s.words new_owner id None) v.view.owned u.view.owned
          (All-weaker (Acc r.dealt s.words r.owner id None) (Acc r.dealt s.words new_owner id None) (λ a h. kept_account id None a (λ e. apart (sym e)) h) v.view.owned (subst (λ (z : Option Pending). All (Acc r.dealt s.words r.owner id z) v.view.owned) free k.owns))
          (All-weaker (Acc r.dealt s.words r.owner other None) (Acc r.dealt s.words new_owner id None) passed_account u.view.owned (subst (λ (z : Option Pending). All (Acc r.dealt s.words r.owner other z) u.view.owned) free_u j.owns));
      reads = tt;
      accepted = λ x. both_accepted (λ n. 2 * n ≤ stamp wide s.words x) leaders v.view.accepted u.view.accepted x (k.accepted x) (j.accepted x);
      from_one = λ x. both_accepted (λ n. 1 ≤ n) leaders v.view.accepted u.view.accepted x (k.from_one x) (j.from_one x);
    }

    third_knows : (j : ℕ) (d : Known M) → j ≢ id → j ≢ other → get_elem? s.views j ≡ some d → K s.words new_hub r.dealt new_owner j d.view
    third_knows j d not_id third e = let k = r.each j d e in record {
      hubs = λ h. let a = k.hubs h in (hub_stays u.view.hub id other r.hub j (λ b. ((r.each other u at_u).hubs b).0) third a.0, a.1, a.2);
      owns = All-weaker (Acc r.dealt s.words r.owner j d.view.pending) (Acc r.dealt s.words new_owner j d.view.pending) (λ a h. kept_account j d.view.pending a third h) d.view.owned k.owns;
      reads = k.reads;
      accepted = k.accepted;
      from_one = k.from_one;
    }

    spent_knows : K s.words new_hub r.dealt new_owner other no_view
    spent_knows = record { hubs = λ h. cc; owns = All-nil (Acc r.dealt s.words new_owner other None); reads = tt; accepted = λ x. All-nil (λ n. 2 * n ≤ stamp wide s.words x); from_one = λ x. All-nil (λ n. 1 ≤ n) }

    -- every owner has closed what both accepted, and both have closed what anyone accepted of their windows
    both_listed : (j : ℕ) (d : Known M) → get_elem? s.views j ≡ some d → All (HasClosed (united leaders v.view u.view)) d.view.owned
    both_listed j d e = both_all (HasClosed v.view) (HasClosed u.view) (HasClosed (united leaders v.view u.view))
        (λ a p q. both_accepted (λ n. (1 ≤ n) × Contains a.closed n) leaders v.view.accepted u.view.accepted a.window p q) d.view.owned (r.listed id j v d at e) (r.listed other j u d at_u e)

    listed_both : (P : Owned → Type 0) → All P v.view.owned → All P u.view.owned → All P w.view.owned
    listed_both P p q = subst (λ (z : View). All P z.owned) (sym is) (All-append P v.view.owned u.view.owned p q)

    w_listed : (j : ℕ) (d : Known M) → get_elem? s.views j ≡ some d → Listed w d
    w_listed j d e = subst (λ (z : View). All (HasClosed z) d.view.owned) (sym is) (both_listed j d e)

    abbrev joined_views : List (Known M)
    joined_views = set s.views id w

    joined_listed : (i j : ℕ) (b d : Known M) → get_elem? joined_views i ≡ some b → get_elem? joined_views j ≡ some d → Listed b d
    joined_listed = each_pair_after entry wide count lead most of Listed s.views id w
        (λ j d _ e. (w_listed j d e, listed_both (HasClosed d.view) (r.listed j id d v e at) (r.listed j other d u e at_u)))
        (listed_both (HasClosed w.view) (w_listed id v at) (w_listed other u at_u)) r.listed

    each_joined : (j : ℕ) (d : Known M) → j ≢ other → get_elem? joined_views j ≡ some d → K s.words new_hub r.dealt new_owner j d.view
    each_joined j d third e = each_seat_after entry wide count lead most of (λ j d. j ≢ other → K s.words new_hub r.dealt new_owner j d.view) s.views id w
        (λ _. subst (K s.words new_hub r.dealt new_owner id) (sym is) both_know) (λ j d not_id e third. third_knows j d not_id third e) j d e third

    same_joined : (j : ℕ) (d : Known M) (o : M) → get_elem? joined_views j ≡ some d → d.of ≡ Some o → o ≡ of
    same_joined j d o e = each_seat_after entry wide count lead most of (λ j d. (o : M) → d.of ≡ Some o → o ≡ of) s.views id w (λ o e. r.same id v o at (sym same ∙ e)) (λ j d _ e o is. r.same j d o e is) j d e o

    pub taken_in : Rule record { words = s.words; homes = s.homes; views = set joined_views other nobody }
    taken_in = record {
      hub = new_hub;
      dealt = r.dealt;
      owner = new_owner;
      long = r.long;
      in_range = r.in_range;
      new = r.new;
      top = r.top;
      whole = r.whole;
      same = λ j d o e is. each_seat_after entry wide count lead most of (λ j d. (o : M) → d.of ≡ Some o → o ≡ of) joined_views other nobody (λ o e. absurd cc) (λ j d _ e o is. same_joined j d o e is) j d e o is;
      each = each_seat_after entry wide count lead most of (λ j d. K s.words new_hub r.dealt new_owner j d.view) joined_views other nobody spent_knows (λ j d third e. each_joined j d third e);
      following = r.following;
      listed = each_pair_after entry wide count lead most of Listed joined_views other nobody
          (λ j d _ e. ((λ k x l. All-nil (λ n. (1 ≤ n) × Contains (get_or d.view.owned k x).closed n)), All-nil (HasClosed d.view)))
          (All-nil (HasClosed no_view)) joined_listed;
    }

  pub joining_keeps : (L : M → ℕ) (id other : ℕ) (v u : Known M) → v.view.pending ≡ None → u.view.pending ≡ None → Joins Rule id v other u (joined L v u) nobody
  joining_keeps L id other v u free free_u s r at apart at_u =
      taken_in s r id other v u at (sym (set_else s.views id other (joined L v u) apart) ∙ at_u) apart free free_u (joined L v u) (leaders_of L v.of) refl refl
