-- What every step keeps: the facts of the other seats, and the rule after a store in a seat's own window or after a load.
use Rattle.std.proofs.Common.{◌≡◌, ℕ, ◌+◌, ◌*◌, ◌/◌, ◌<◌, ◌≤◌, ◌≢◌, List, [], get_or, set, sym, ap, ◌∙◌, subst, arith, ⊎_elim, length-set}
use Rattle.std.proofs.lemmas.List.{set-get_or}
use Rattle.std.specs.Prelude.{All, Option, Some, None}
use Rattle.std.specs.List.{Contains}
use Rattle.std.proofs.lemmas.List.Elements.{All-weaker, All-cons, All-nil, All-head}
use mathlib.Core.Option.{some}
use mathlib.Core.Logic.{dite}
use native.Mathlib.Decide.{ℕ_discrete}
use lib.ListN.{get_elem?}
use Rattle.atomic_table.specs.Table.{State, keeps, stepped}
use Rattle.atomic_table.proofs.Lists.{at_set}
use Rattle.window_words.specs.Views.{one, with_owned, stamp_of}
use Rattle.window_words.specs.Conditions.{HasClosed}
use Rattle.window_words.specs.Rule.{start, stamp, word, PartStands, HasRead, Account, Knows, Windows}
use Rattle.window_words.specs.declared.views.View.{View}
use Rattle.window_words.specs.declared.views.Known.{Known}
use Rattle.window_words.specs.declared.views.Owned.{Owned}
use Rattle.window_words.specs.declared.views.Pending.{Pending}
use Rattle.window_words.specs.declared.views.Reading.{Reading}
use Rattle.window_words.proofs.WindowPlaces.{stop_word_stays, other_stamp_stays, other_word_stays}

module _ {M : Type 0} (entry : ℕ → ℕ → List ℕ) (wide : ℕ → ℕ) (count lead most : ℕ) (of : M) where
  abbrev Rule : State ℕ (Known M) → Type 0
  Rule = Windows entry wide count lead most of

  abbrev K : List ℕ → ℕ → ℕ → (ℕ → ℕ) → ℕ → View → Type 0
  K = Knows entry wide count

  abbrev Acc : ℕ → List ℕ → (ℕ → ℕ) → ℕ → Option Pending → Owned → Type 0
  Acc = Account entry wide

  pub reading_lasts : (now now' : ℕ → ℕ) → ((w : ℕ) → now w ≤ now' w) → (r : Option Reading) → HasRead entry wide count now r → HasRead entry wide count now' r
  reading_lasts now now' up None h = tt
  reading_lasts now now' up (Some r) h = let a = h.1 in let b = up r.window in (h.0, omega arith, h.2, λ k pos e is. h.3 k pos e (omega arith))

  pub accepted_lasts : (now now' : ℕ → ℕ) → ((w : ℕ) → now w ≤ now' w) → (w : ℕ) (ks : List ℕ) → All (λ k. 2 * k ≤ now w) ks → All (λ k. 2 * k ≤ now' w) ks
  accepted_lasts now now' up w ks all = All-weaker (λ k. 2 * k ≤ now w) (λ k. 2 * k ≤ now' w) (λ k h. let b = up w in omega arith) ks all

  pub each_seat_after : (P : ℕ → Known M → Type 0) (vs : List (Known M)) (me : ℕ) (w : Known M) → P me w → ((j : ℕ) (d : Known M) → j ≢ me → get_elem? vs j ≡ some d → P j d)
      → (j : ℕ) (d : Known M) → get_elem? (set vs me w) j ≡ some d → P j d
  each_seat_after P vs me w mine others j d e = ⊎_elim (λ (t : (j ≡ me) × (w ≡ d)). subst (λ (x : ℕ × Known M). P x.0 x.1) (λ i. (sym t.0 i, t.1 i)) mine)
      (λ (t : (j ≢ me) × (get_elem? vs j ≡ some d)). others j d t.0 t.1) (at_set vs me j w d e)

  -- what a seat with a new view accepted and owns, and all others as before
  pub each_pair_after : (P : Known M → Known M → Type 0) (vs : List (Known M)) (me : ℕ) (w : Known M) → ((j : ℕ) (d : Known M) → j ≢ me → get_elem? vs j ≡ some d → P w d × P d w) → P w w
      → ((i j : ℕ) (b d : Known M) → get_elem? vs i ≡ some b → get_elem? vs j ≡ some d → P b d)
      → (i j : ℕ) (b d : Known M) → get_elem? (set vs me w) i ≡ some b → get_elem? (set vs me w) j ≡ some d → P b d
  each_pair_after P vs me w mixed mine others i j b d at_b at_d = each_seat_after (λ i b. P b d) vs me w
      (each_seat_after (λ j d. P w d) vs me w mine (λ j d other e. (mixed j d other e).0) j d at_d)
      (λ i b other e. each_seat_after (λ j d. P b d) vs me w (mixed i b other e).1 (λ j d _ e'. others i j b d e e') j d at_d) i b at_b

  abbrev Listed : Known M → Known M → Type 0
  Listed b d = All (HasClosed b.view) d.view.owned

  pub meaning_after : (s : State ℕ (Known M)) (r : Rule s) (me : ℕ) (w : Known M) → ((m : M) → w.of ≡ Some m → m ≡ of) → (j : ℕ) (v : Known M) (m : M) → get_elem? (set s.views me w) j ≡ some v → v.of ≡ Some m → m ≡ of
  meaning_after s r me w mine j v m at = each_seat_after (λ j v. (m : M) → v.of ≡ Some m → m ≡ of) s.views me w mine (λ j v _ at m. r.same j v m at) j v at m

  -- after a load all words are as they were, so the rule asks only for the facts of the seat that loaded
  pub after_load : (s : State ℕ (Known M)) (r : Rule s) (i me : ℕ) (cs : List (ℕ × ℕ)) (v w : Known M) → get_elem? s.views me ≡ some v → w.view.owned ≡ v.view.owned → ((m : M) → w.of ≡ Some m → m ≡ of)
      → ((j : ℕ) (d : Known M) → get_elem? s.views j ≡ some d → Listed w d) → K s.words r.hub r.dealt r.owner me w.view → Rule (stepped s i (get_or s.words i 0) me cs w keeps)
  after_load s r i me cs v w at owned same closed mine = subst (λ (ws : List ℕ). Rule record { words = ws; homes = s.homes; views = set s.views me w }) (sym (set-get_or s.words i 0)) record {
    hub = r.hub;
    dealt = r.dealt;
    owner = r.owner;
    long = r.long;
    in_range = r.in_range;
    new = r.new;
    top = r.top;
    whole = r.whole;
    same = meaning_after s r me w same;
    each = each_seat_after (λ j v. K s.words r.hub r.dealt r.owner j v.view) s.views me w mine (λ j d _. r.each j d);
    following = r.following;
    listed = each_pair_after Listed s.views me w (λ j d _ e. (closed j d e, subst (All (HasClosed d.view)) (sym owned) (r.listed j me d v e at))) (subst (All (HasClosed w.view)) (sym owned) (closed me v at)) r.listed;
  }

  -- seat me stores n in place p of its own window w
  module _ (s : State ℕ (Known M)) (r : Rule s) (w x p n me : ℕ) (here : p ≡ start wide w + x) (in_window : x ≤ wide w) (own : r.owner w ≡ me) (below : w < r.dealt) where
    abbrev ws : List ℕ
    ws = set s.words p n

    abbrev Up : Type 0
    Up = stamp wide s.words w ≤ stamp wide ws w

    stamps_rise : Up → (w' : ℕ) → stamp wide s.words w' ≤ stamp wide ws w'
    stamps_rise up w' = dite (ℕ_discrete w' w) (λ e. subst (λ (z : ℕ). stamp wide s.words z ≤ stamp wide ws z) (sym e) up)
        (λ other. let a = other_stamp_stays wide s.words w x p n here in_window w' other in omega arith)

    other_part_lasts : (w' : ℕ) → w' ≢ w → (o : Option Pending) → PartStands entry wide s.words w' o → PartStands entry wide ws w' o
    other_part_lasts w' other None h = tt
    other_part_lasts w' other (Some q) h = let a = h.1 in (h.0, a, λ i l. other_word_stays wide s.words w x p n here in_window w' i other (omega arith) ∙ h.2 i l)

    other_account_lasts : (j : ℕ) → j ≢ me → (o : Option Pending) (a : Owned) → Acc r.dealt s.words r.owner j o a → Acc r.dealt ws r.owner j o a
    other_account_lasts j other o a h = let places_differ : a.window ≢ w = λ e. other (sym h.owned ∙ (ap r.owner e ∙ own)) in record {
      below = h.below;
      owned = h.owned;
      stamped = other_stamp_stays wide s.words w x p n here in_window a.window places_differ ∙ h.stamped;
      part = other_part_lasts a.window places_differ o h.part;
    }

    other_seat_knows : Up → (j : ℕ) (v : View) → j ≢ me → K s.words r.hub r.dealt r.owner j v → K ws r.hub r.dealt r.owner j v
    other_seat_knows up j v other k = record {
      hubs = λ h. let a = k.hubs h in (a.0, a.1, a.2 ∙ sym (stop_word_stays wide s.words w x p n here in_window));
      owns = All-weaker (Acc r.dealt s.words r.owner j v.pending) (Acc r.dealt ws r.owner j v.pending) (other_account_lasts j other v.pending) v.owned k.owns;
      reads = reading_lasts (stamp wide s.words) (stamp wide ws) (stamps_rise up) v.reading k.reads;
      accepted = λ w'. accepted_lasts (stamp wide s.words) (stamp wide ws) (stamps_rise up) w' _ (k.accepted w');
      from_one = k.from_one;
    }

    -- the rule holds again where the new stamp, words and account of that window are right
    pub after_store : (cs : List (ℕ × ℕ)) (v : Known M) (was closed : List ℕ) (o : Option Pending) → Up → stamp wide ws w ≤ 2 * most
        → v.view.owned ≡ one w was → ((k : ℕ) → Contains was k → Contains closed k) → (lead ≤ w → (u : ℕ) → u < lead → (stamp wide ws w + 1) / 2 ≤ stamp wide s.words u / 2)
        → ((k : ℕ) → 1 ≤ k → stamp wide ws w ≡ 2 * k → (i : ℕ) → i < wide w → word wide ws w i ≡ get_or (entry w k) i 0)
        → get_elem? s.views me ≡ some v → stamp wide ws w ≡ stamp_of o closed → PartStands entry wide ws w o
        → Rule (stepped s p n me cs record { of = v.of; view = with_owned v.view (one w closed) o } keeps)
    after_store cs v was closed o up top owned longer behind whole at stamped part = let k = r.each me v at in record {
      hub = r.hub;
      dealt = r.dealt;
      owner = r.owner;
      long = length-set s.words p n ∙ r.long;
      in_range = r.in_range;
      new = λ w' l b. other_stamp_stays wide s.words w x p n here in_window w' (λ e. omega arith) ∙ r.new w' l b;
      top = λ w' b. dite (ℕ_discrete w' w) (λ e. subst (λ (z : ℕ). stamp wide ws z ≤ 2 * most) (sym e) top)
          (λ other. let a = other_stamp_stays wide s.words w x p n here in_window w' other in let t = r.top w' b in omega arith);
      whole = λ w' k' b pos e i l. dite (ℕ_discrete w' w)
          (λ is. let e' : stamp wide ws w ≡ 2 * k' = subst (λ (z : ℕ). stamp wide ws z ≡ 2 * k') is e in let l' : i < wide w = subst (λ (z : ℕ). i < wide z) is l in
          subst (λ (z : ℕ). word wide ws z i ≡ get_or (entry z k') i 0) (sym is) (whole k' pos e' i l'))
          (λ other. other_word_stays wide s.words w x p n here in_window w' i other l ∙ r.whole w' k' b pos (sym (other_stamp_stays wide s.words w x p n here in_window w' other) ∙ e) i l);
      same = meaning_after s r me record { of = v.of; view = with_owned v.view (one w closed) o } (λ m e. r.same me v m at e);
      each = each_seat_after (λ j v. K ws r.hub r.dealt r.owner j v.view) s.views me record { of = v.of; view = with_owned v.view (one w closed) o } record {
        hubs = λ h. let a = k.hubs h in (a.0, a.1, a.2 ∙ sym (stop_word_stays wide s.words w x p n here in_window));
        owns = All-cons (Acc r.dealt ws r.owner me o) record { window = w; closed = closed } [] record { below = below; owned = own; stamped = stamped; part = part } (All-nil (Acc r.dealt ws r.owner me o));
        reads = reading_lasts (stamp wide s.words) (stamp wide ws) (stamps_rise up) v.view.reading k.reads;
        accepted = λ w'. accepted_lasts (stamp wide s.words) (stamp wide ws) (stamps_rise up) w' _ (k.accepted w');
        from_one = k.from_one;
      } (λ j d other a. other_seat_knows up j d.view other (r.each j d a));
      following = λ w' u past b l. dite (ℕ_discrete w' w)
          (λ e. let at_u = other_stamp_stays wide s.words w x p n here in_window u (λ h. omega arith) in let f = behind (omega arith) u l in
          let e' : stamp wide ws w' ≡ stamp wide ws w = ap (stamp wide ws) e in omega arith)
          (λ other. let at_w = other_stamp_stays wide s.words w x p n here in_window w' other in let f = r.following w' u past b l in let rise = stamps_rise up u in omega arith);
      listed = each_pair_after Listed s.views me record { of = v.of; view = with_owned v.view (one w closed) o }
          (λ j d other e. (r.listed me j v d at e, all_longer d.view (r.listed j me d v e at))) (all_longer v.view (r.listed me me v v at at)) r.listed;
    }
      where
        all_longer : (d : View) → All (HasClosed d) v.view.owned → All (HasClosed d) (one w closed)
        all_longer d all = let old = All-head (HasClosed d) record { window = w; closed = was } [] (subst (All (HasClosed d)) owned all) in
            All-cons (HasClosed d) record { window = w; closed = closed } []
            (All-weaker (λ k. (1 ≤ k) × Contains was k) (λ k. (1 ≤ k) × Contains closed k) (λ k h. (h.0, longer k h.1)) (get_or d.accepted w []) old) (All-nil (HasClosed d))

  -- a seat with one window: what the rule says of it
  pub own_account : (s : State ℕ (Known M)) (r : Rule s) (me : ℕ) (v : Known M) (w : ℕ) (closed : List ℕ) (o : Option Pending) → get_elem? s.views me ≡ some v → v.view.owned ≡ one w closed → v.view.pending ≡ o
      → Acc r.dealt s.words r.owner me o record { window = w; closed = closed }
  own_account s r me v w closed o at owned is =
      let all = subst (λ (z : List Owned × Option Pending). All (Acc r.dealt s.words r.owner me z.1) z.0) (λ i. (owned i, is i)) (r.each me v at).owns in
      All-head (Acc r.dealt s.words r.owner me o) record { window = w; closed = closed } [] all
