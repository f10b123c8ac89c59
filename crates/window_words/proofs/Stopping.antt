-- The steps on word 0 keep the rule: the hub's stop, and asking for it.
use Rattle.std.proofs.Common.{◌≡◌, ℕ, ◌≤◌, true, List, [], get_or, set, sym, refl, ap, ◌∙◌, subst, arith, length-set, get_or-set_same}
use Rattle.std.specs.Prelude.{All, Option, Some, None}
use Rattle.std.proofs.lemmas.List.Elements.{All-weaker}
use mathlib.Core.Option.{none}
use Rattle.atomic_table.specs.Table.{State, Me, step, keeps, stepped, Allows}
use Rattle.window_words.specs.Views.{with_stopped}
use Rattle.window_words.specs.Conditions.{HasClosed}
use Rattle.window_words.specs.Rule.{stamp, PartStands, Account, Knows, Windows}
use Rattle.window_words.specs.Steps.{stops, asks}
use Rattle.window_words.specs.declared.views.View.{View}
use Rattle.window_words.specs.declared.views.Known.{Known}
use Rattle.window_words.specs.declared.views.Owned.{Owned}
use Rattle.window_words.specs.declared.views.Pending.{Pending}
use Rattle.window_words.proofs.WindowPlaces.{start_above_zero, stamp_apart, word_apart}
use Rattle.window_words.proofs.Keeping.{after_load, reading_lasts, accepted_lasts, each_pair_after, each_seat_after, meaning_after}

module _ {M : Type 0} (entry : ℕ → ℕ → List ℕ) (wide : ℕ → ℕ) (count lead most : ℕ) (of : M) where
  abbrev Rule : State ℕ (Known M) → Type 0
  Rule = Windows entry wide count lead most of

  abbrev K : List ℕ → ℕ → ℕ → (ℕ → ℕ) → ℕ → View → Type 0
  K = Knows entry wide count

  abbrev Acc : ℕ → List ℕ → (ℕ → ℕ) → ℕ → Option Pending → Owned → Type 0
  Acc = Account entry wide

  part_apart : (ws : List ℕ) (n w : ℕ) (o : Option Pending) → PartStands entry wide ws w o → PartStands entry wide (set ws 0 n) w o
  part_apart ws n w None h = tt
  part_apart ws n w (Some q) h = (h.0, h.1, λ i l. word_apart wide ws n w i ∙ h.2 i l)

  account_apart : (ws : List ℕ) (n dealt : ℕ) (owner : ℕ → ℕ) (seat : ℕ) (o : Option Pending) (a : Owned) → Acc dealt ws owner seat o a → Acc dealt (set ws 0 n) owner seat o a
  account_apart ws n dealt owner seat o a h = record { below = h.below; owned = h.owned; stamped = stamp_apart wide ws n a.window ∙ h.stamped; part = part_apart ws n a.window o h.part }

  -- what a seat knows stays where word 0 changes, but for the number of the stop
  knows_apart : (ws : List ℕ) (n hub dealt : ℕ) (owner : ℕ → ℕ) (seat last : ℕ) (v : View) → (v.hub ≡ true → (seat ≡ hub) × (v.dealt ≡ dealt) × (last ≡ get_or (set ws 0 n) 0 0))
      → K ws hub dealt owner seat v → K (set ws 0 n) hub dealt owner seat (with_stopped v last)
  knows_apart ws n hub dealt owner seat last v hubs k =
      let up : (w : ℕ) → stamp wide ws w ≤ stamp wide (set ws 0 n) w = λ w. let a = stamp_apart wide ws n w in omega arith in record {
        hubs = hubs;
        owns = All-weaker (Acc dealt ws owner seat v.pending) (Acc dealt (set ws 0 n) owner seat v.pending) (account_apart ws n dealt owner seat v.pending) v.owned k.owns;
        reads = reading_lasts entry wide count lead most of (stamp wide ws) (stamp wide (set ws 0 n)) up v.reading k.reads;
        accepted = λ w. accepted_lasts entry wide count lead most of (stamp wide ws) (stamp wide (set ws 0 n)) up w (get_or v.accepted w []) (k.accepted w);
        from_one = k.from_one;
      }

  pub stopping_keeps : (slots id n p : ℕ) (me : Me ℕ (Known M)) → me.0.view.hub ≡ true → p ≡ 0 → Allows Rule slots id me p (λ _. n) (λ _. stops (step slots p n 0 none) me n)
  stopping_keeps slots id n p me hub place s r _ at _ = let k = r.each id me.0 at in let mine = k.hubs hub in let long = r.long in let first = start_above_zero wide count in
      let v : Known M = record { of = me.0.of; view = with_stopped me.0.view n } in let ws : List ℕ = set s.words 0 n in
      let now : get_or ws 0 0 ≡ n = get_or-set_same s.words 0 n 0 (omega arith) in
      let done : Rule (stepped s 0 n id me.1 v keeps) = record {
        hub = r.hub;
        dealt = r.dealt;
        owner = r.owner;
        long = length-set s.words 0 n ∙ r.long;
        in_range = r.in_range;
        new = λ w l b. stamp_apart wide s.words n w ∙ r.new w l b;
        top = λ w b. let a = stamp_apart wide s.words n w in let t = r.top w b in omega arith;
        whole = λ w j b pos e i l. word_apart wide s.words n w i ∙ r.whole w j b pos (sym (stamp_apart wide s.words n w) ∙ e) i l;
        same = meaning_after entry wide count lead most of s r id v (λ m e. r.same id me.0 m at e);
        each = each_seat_after entry wide count lead most of (λ j d. K ws r.hub r.dealt r.owner j d.view) s.views id v
            (knows_apart s.words n r.hub r.dealt r.owner id n me.0.view (λ h. (mine.0, mine.1, sym now)) k)
            (λ j d other e. knows_apart s.words n r.hub r.dealt r.owner j d.view.stopped d.view (λ h. absurd (other (((r.each j d e).hubs h).0 ∙ sym mine.0))) (r.each j d e));
        following = λ w u past b l. let at_w = stamp_apart wide s.words n w in let at_u = stamp_apart wide s.words n u in let f = r.following w u past b l in omega arith;
        listed = each_pair_after entry wide count lead most of (λ b d. All (HasClosed b.view) d.view.owned) s.views id v (λ j d _ e. (r.listed id j me.0 d at e, r.listed j id d me.0 e at)) (r.listed id id me.0 me.0 at at) r.listed;
      } in (
        v,
        keeps,
        tt,
        subst (λ (z : ℕ). Rule (stepped s z n id me.1 v keeps)) (sym place) done,
        refl,
      )

  pub asking_keeps : (slots id p : ℕ) (me : Me ℕ (Known M)) → p ≡ 0 → Allows Rule slots id me p (λ n. n) (asks (step slots p 0 0 none) me)
  asking_keeps slots id p me place s r _ at _ = let k = r.each id me.0 at in (
    me.0,
    keeps,
    tt,
    after_load entry wide count lead most of s r p id me.1 me.0 me.0 at refl (λ m e. r.same id me.0 m at e) (λ j d e. r.listed id j me.0 d at e) k,
    (refl, λ hub. ap (λ (z : ℕ). get_or s.words z 0) place ∙ sym (k.hubs hub).2),
  )
