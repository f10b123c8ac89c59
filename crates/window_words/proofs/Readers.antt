-- The reader's steps keep the rule: beginning a reading, reading a word, ending it.
use Rattle.std.proofs.Common.{◌≡◌, ℕ, suc, ◌+◌, ◌-◌, ◌*◌, ◌/◌, ◌<◌, ◌≤◌, true, List, [], ◌∷◌, length, get_or, sym, refl, ap, ◌∙◌, subst, arith, Bool, false, if◌then◌else◌}
use Rattle.std.specs.Prelude.{All, Option, Some, None}
use Rattle.std.specs.List.{Contains}
use Rattle.std.proofs.lemmas.List.Elements.{All-weaker}
use mathlib.Core.Option.{none, some}
use lib.ListN.{get_elem?}
use mathlib.Core.Logic.{dite}
use native.Mathlib.Decide.{ℕ_discrete}
use Rattle.atomic_table.specs.Table.{State, Me, step, keeps, Allows}
use Rattle.base_words.proofs.FirstAnswers.{same_some}
use Rattle.window_words.specs.Views.{begun, last_of, longer, accept, ended, is_whole, stamp_of, with_reading, with_accepted}
use Rattle.window_words.specs.Conditions.{AcceptedBelow, AcceptedOwn, HasClosed, IsBehindOwn, OwnStamp}
use Rattle.window_words.specs.Rule.{start, stamp, HasRead, Account, Knows, Windows}
use Rattle.window_words.specs.Steps.{Gains, begins, reads, ends, IsEntry}
use Rattle.window_words.specs.declared.views.View.{View}
use Rattle.window_words.specs.declared.views.Known.{Known}
use Rattle.window_words.specs.declared.views.Owned.{Owned}
use Rattle.window_words.specs.declared.views.Pending.{Pending}
use Rattle.window_words.specs.declared.views.Reading.{Reading}
use Rattle.window_words.specs.declared.views.Call.TheVariants.{Begin, End}
use Rattle.window_words.proofs.WindowPlaces.{start_tells}
use Rattle.window_words.proofs.Stamps.{whole_tells}
use Rattle.window_words.proofs.Listed.{both_all, each_accept, has_last, length_push, push_at, push_before}
use Rattle.window_words.proofs.Keeping.{after_load}

abbrev some_or : {A : Type 0} → A → Option A → A
some_or d None = d
some_or d (Some x) = x

-- lists of numbers are the same where their lengths and their items are
same_items : (xs ys : List ℕ) → length xs ≡ length ys → ((i : ℕ) → i < length xs → get_or xs i 0 ≡ get_or ys i 0) → xs ≡ ys
same_items [] [] e at = refl
same_items [] (y ∷ ys) e at = absurd (omega arith)
same_items (x ∷ xs) [] e at = absurd (omega arith)
same_items (x ∷ xs) (y ∷ ys) e at = λ j. at 0 (omega arith) j ∷ same_items xs ys (omega arith) (λ i l. at (suc i) (omega arith)) j

-- the end of a reading changes no account
owned_either : (leaders n : ℕ) (v : View) (r : Reading) (b : Bool) → (if b then with_accepted v (accept leaders r.window (n / 2) v.accepted) else with_reading v None).owned ≡ v.owned
owned_either leaders n v r true = refl
owned_either leaders n v r false = refl

pub owned_stays : (leaders n : ℕ) (v : View) (o : Option Reading) → (ended leaders n v o).owned ≡ v.owned
owned_stays leaders n v None = refl
owned_stays leaders n v (Some r) = owned_either leaders n v r (is_whole r.first n)

module _ {M : Type 0} (E : M → ℕ → ℕ → List ℕ) (W : M → ℕ → ℕ) (C Ld L : M → ℕ) (of : M) (fits : (w k : ℕ) → w < C of → 1 ≤ k → k ≤ L of → length (E of w k) ≡ W of w) where
  abbrev Rule : State ℕ (Known M) → Type 0
  Rule = Windows (E of) (W of) (C of) (Ld of) (L of) of

  abbrev K : List ℕ → ℕ → ℕ → (ℕ → ℕ) → ℕ → View → Type 0
  K = Knows (E of) (W of) (C of)

  abbrev Acc : ℕ → List ℕ → (ℕ → ℕ) → ℕ → Option Pending → Owned → Type 0
  Acc = Account (E of) (W of)

  pub beginning_keeps : (slots id p w : ℕ) (me : Me ℕ (Known M)) → p ≡ start (W of) w → w < C of → Allows Rule slots id me p (λ n. n) (begins W (step slots p 0 0 none) me)
  beginning_keeps slots id p w me place low s r _ at _ = let n : ℕ = get_or s.words p 0 in let k = r.each id me.0 at in
      let now : n ≡ stamp (W of) s.words w = ap (λ (z : ℕ). get_or s.words z 0) place in
      let v : Known M = record { of = me.0.of; view = with_reading me.0.view (Some (begun w n)) } in
      let below : AcceptedBelow me.0.view w n = All-weaker (λ j. 2 * j ≤ stamp (W of) s.words w) (λ j. 2 * j ≤ n) (λ j h. omega arith) (get_or me.0.view.accepted w []) (k.accepted w) in
      let own : OwnStamp me.0.view w n = All-weaker (Acc r.dealt s.words r.owner id me.0.view.pending) (λ a. a.window ≡ w → n ≡ stamp_of me.0.view.pending a.closed)
      (λ a h e. now ∙ (ap (stamp (W of) s.words) (sym e) ∙ h.stamped)) me.0.view.owned k.owns in
      let listed : AcceptedOwn me.0.view w = All-weaker (HasClosed me.0.view) (λ a. a.window ≡ w → HasClosed me.0.view a) (λ a h _. h) me.0.view.owned (r.listed id id me.0 me.0 at at) in (
        v,
        keeps,
        tt,
        after_load (E of) (W of) (C of) (Ld of) (L of) of s r p id me.1 me.0 v at refl (λ m e. r.same id me.0 m at e) (λ j d e. r.listed id j me.0 d at e)
            record { hubs = k.hubs; owns = k.owns; reads = (low, omega arith, omega arith, λ k' pos e is i l. absurd (omega arith)); accepted = k.accepted; from_one = k.from_one },
        λ of' w' e there. let same : of ≡ of' = sym (r.same id me.0 of' at e) in
            let one : w ≡ w' = start_tells (W of) w w' (sym place ∙ (there ∙ ap (λ (z : M). start (W z) w') (sym same))) in
            subst (λ (z : ℕ). Gains 0 (Begin z) n me (v, me.1) × AcceptedBelow me.0.view z n × OwnStamp me.0.view z n × AcceptedOwn me.0.view z) one (refl, below, own, listed),
      )

  pub reading_keeps : (slots id p : ℕ) (me : Me ℕ (Known M)) (q : Reading) → me.0.view.reading ≡ Some q → length q.words < W of q.window → p ≡ start (W of) q.window + 1 + length q.words
      → Allows Rule slots id me p (λ n. n) (reads (step slots p 0 0 none) me)
  reading_keeps slots id p me q is more place s r _ at _ = let n : ℕ = get_or s.words p 0 in let k = r.each id me.0 at in
      let known = subst (HasRead (E of) (W of) (C of) (stamp (W of) s.words)) is k.reads in let grown = length_push q.words n in
      let v : Known M = record { of = me.0.of; view = with_reading me.0.view (longer n me.0.view.reading) } in
      let done : K s.words r.hub r.dealt r.owner id (with_reading me.0.view (longer n (Some q))) = record {
        hubs = k.hubs;
        owns = k.owns;
        reads = (
          known.0,
          known.1,
          omega arith,
          λ k' pos e now i l. dite (ℕ_discrete i (length q.words))
              (λ here. let there : p ≡ start (W of) q.window + 1 + i = omega arith in
              push_at q.words n i here ∙ (ap (λ (z : ℕ). get_or s.words z 0) there ∙ r.whole q.window k' known.0 pos (sym now ∙ e) i (omega arith)))
              (λ other. push_before q.words n i (omega arith) ∙ known.3 k' pos e now i (omega arith)),
        );
        accepted = k.accepted;
        from_one = k.from_one;
      } in (
        v,
        keeps,
        tt,
        after_load (E of) (W of) (C of) (Ld of) (L of) of s r p id me.1 me.0 v at refl (λ m e. r.same id me.0 m at e) (λ j d e. r.listed id j me.0 d at e)
            (subst (λ (o : Option Reading). K s.words r.hub r.dealt r.owner id (with_reading me.0.view (longer n o))) (sym is) done),
        refl,
      )

  knows_after_end : (words : List ℕ) (hub dealt : ℕ) (owner : ℕ → ℕ) (seat n : ℕ) (v : View) (q : Reading) (b : Bool) → is_whole q.first n ≡ b → n ≡ stamp (W of) words q.window → K words hub dealt owner seat v
      → K words hub dealt owner seat (if b then with_accepted v (accept (Ld of) q.window (n / 2) v.accepted) else with_reading v None)
  knows_after_end words hub dealt owner seat n v q true is now k = record {
    hubs = k.hubs;
    owns = k.owns;
    reads = tt;
    accepted = each_accept (λ w j. 2 * j ≤ stamp (W of) words w) (Ld of) q.window (n / 2) v.accepted k.accepted (omega arith);
    from_one = each_accept (λ w j. 1 ≤ j) (Ld of) q.window (n / 2) v.accepted k.from_one (whole_tells q.first n is).2;
  }
  knows_after_end words hub dealt owner seat n v q false is now k = record { hubs = k.hubs; owns = k.owns; reads = tt; accepted = k.accepted; from_one = k.from_one }

  -- an entry whose even stamp stands in a window is the last that the window's owner closed
  closed_there : (words : List ℕ) (dealt : ℕ) (owner : ℕ → ℕ) (j k : ℕ) (o : Option Pending) (a : Owned) → Acc dealt words owner j o a → 1 ≤ k → stamp (W of) words a.window ≡ 2 * k → Contains a.closed k
  closed_there words dealt owner j k None a h pos e = let stamped = h.stamped in has_last a.closed k pos (omega arith)
  closed_there words dealt owner j k (Some p) a h pos e = let stamped : stamp (W of) words a.window ≡ 2 * p.entry - 1 = h.stamped in let part = h.part in let one : 1 ≤ p.entry = part.0 in absurd (omega arith)

  -- the owner of a window has closed each entry that is accepted of it
  closed_after_end : (v : View) (q : Reading) (n : ℕ) (a : Owned) (b : Bool) → is_whole q.first n ≡ b → ((k : ℕ) → a.window ≡ q.window → 1 ≤ k → n ≡ 2 * k → Contains a.closed k) → HasClosed v a
      → HasClosed (if b then with_accepted v (accept (Ld of) q.window (n / 2) v.accepted) else with_reading v None) a
  closed_after_end v q n a false is there old = old
  closed_after_end v q n a true is there old = let t = whole_tells q.first n is in
      All-weaker (λ k. a.window ≡ a.window → (1 ≤ k) × Contains a.closed k) (λ k. (1 ≤ k) × Contains a.closed k) (λ k h. h refl) (get_or (accept (Ld of) q.window (n / 2) v.accepted) a.window [])
      (each_accept (λ j k. a.window ≡ j → (1 ≤ k) × Contains a.closed k) (Ld of) q.window (n / 2) v.accepted
      (λ j k d l e. (subst (λ (z : ℕ). All (λ k. (1 ≤ k) × Contains a.closed k) (get_or v.accepted z [])) e old) k d l)
      (λ e. (t.2, there (n / 2) e t.2 t.1)) a.window)

  pub ending_keeps : (slots id p : ℕ) (me : Me ℕ (Known M)) (q : Reading) → me.0.view.reading ≡ Some q → p ≡ start (W of) q.window
      → Allows Rule slots id me p (λ n. n) (ends E W Ld L (step slots p 0 0 none) me)
  ending_keeps slots id p me q is place s r _ at _ = let n : ℕ = get_or s.words p 0 in let k = r.each id me.0 at in
      let known = subst (HasRead (E of) (W of) (C of) (stamp (W of) s.words)) is k.reads in let top = r.top q.window known.0 in
      let now : n ≡ stamp (W of) s.words q.window = ap (λ (z : ℕ). get_or s.words z 0) place in
      let v : Known M = record { of = me.0.of; view = ended (Ld of) n me.0.view me.0.view.reading } in
      let whole : Bool = is_whole q.first n in
      let closed : (j : ℕ) (d : Known M) → get_elem? s.views j ≡ some d → All (HasClosed (if whole then with_accepted me.0.view (accept (Ld of) q.window (n / 2) me.0.view.accepted) else with_reading me.0.view None)) d.view.owned =
      λ j d e. both_all (Acc r.dealt s.words r.owner j d.view.pending) (HasClosed me.0.view) (HasClosed (if whole then with_accepted me.0.view (accept (Ld of) q.window (n / 2) me.0.view.accepted) else with_reading me.0.view None))
      (λ a h old. closed_after_end me.0.view q n a whole refl
      (λ m at_q pos two. closed_there s.words r.dealt r.owner j m d.view.pending a h pos (ap (stamp (W of) s.words) at_q ∙ (sym now ∙ two))) old)
      d.view.owned (r.each j d e).owns (r.listed id j me.0 d at e) in
      let same_owned : v.view.owned ≡ me.0.view.owned = owned_stays (Ld of) n me.0.view me.0.view.reading in
      let behind : IsBehindOwn (Ld of) me.0.view q.window n = λ q' m is' first last past free.
      All-weaker (Acc r.dealt s.words r.owner id me.0.view.pending) (λ a. a.window < Ld of → m ≤ last_of a.closed)
      (λ a h l. let stamped : stamp (W of) s.words a.window ≡ 2 * last_of a.closed = h.stamped ∙ ap (λ (z : Option Pending). stamp_of z a.closed) free in
      let f = r.following q.window a.window past known.0 l in omega arith)
      me.0.view.owned k.owns in (
        v,
        keeps,
        tt,
        after_load (E of) (W of) (C of) (Ld of) (L of) of s r p id me.1 me.0 v at same_owned (λ m e. r.same id me.0 m at e)
            (λ j d e. subst (λ (o : Option Reading). All (HasClosed (ended (Ld of) n me.0.view o)) d.view.owned) (sym is) (closed j d e))
            (subst (λ (o : Option Reading). K s.words r.hub r.dealt r.owner id (ended (Ld of) n me.0.view o)) (sym is) (knows_after_end s.words r.hub r.dealt r.owner id n me.0.view q whole refl now k)),
        λ of' q' e is'. let same : of ≡ of' = sym (r.same id me.0 of' at e) in let one : q ≡ q' = same_some (sym is ∙ is') in
            subst (λ (z : M × Reading). Gains (Ld z.0) (End z.1.window) n me (v, me.1) × IsEntry E W L z.0 n z.1 × IsBehindOwn (Ld z.0) me.0.view z.1.window n) (λ i. (same i, one i)) (
              refl,
              λ k' pos first last. (omega arith, λ full. same_items q.words (E of q.window k') (full ∙ sym (fits q.window k' known.0 pos (omega arith))) (λ i l. known.3 k' pos first (sym last ∙ now) i l)),
              behind,
            ),
      )
