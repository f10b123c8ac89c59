-- The writer's steps keep the rule: opening an entry, putting a word, closing it.
use Rattle.std.proofs.Common.{◌≡◌, ℕ, ◌+◌, ◌-◌, ◌*◌, ◌/◌, ◌<◌, ◌≤◌, List, [], ◌∷◌, ◌++◌, get_or, set, sym, refl, ap, ◌∙◌, subst, arith, get_or-set_other, get_or-set_same}
use Rattle.std.specs.Prelude.{Option, Some, None}
use Rattle.std.proofs.lemmas.List.Elements.{Contains-append_left}
use mathlib.Core.Option.{none}
use mathlib.Core.Logic.{dite}
use native.Mathlib.Decide.{ℕ_discrete}
use Rattle.atomic_table.specs.Table.{State, Me, step, keeps, stepped, Allows}
use Rattle.window_words.specs.Views.{one, pending, last_of, with_owned, one_more, close_first, entry_of}
use Rattle.window_words.specs.Rule.{start, stamp, Windows}
use Rattle.window_words.specs.Steps.{opens, puts, closes}
use Rattle.window_words.specs.declared.views.Known.{Known}
use Rattle.window_words.specs.declared.views.Owned.{Owned}
use Rattle.window_words.specs.declared.views.Pending.{Pending}
use Rattle.window_words.proofs.WindowPlaces.{lies_inside}
use Rattle.window_words.specs.Conditions.{HasFollowed}
use Rattle.window_words.proofs.Listed.{last_below, last_push}
use Rattle.window_words.proofs.Keeping.{own_account, after_store}

module _ {M : Type 0} (entry : ℕ → ℕ → List ℕ) (wide : ℕ → ℕ) (count lead most : ℕ) (of : M) where
  abbrev Rule : State ℕ (Known M) → Type 0
  Rule = Windows entry wide count lead most of

  pub opening_keeps : (slots id w k n p : ℕ) (closed : List ℕ) (me : Me ℕ (Known M)) → me.0.view.owned ≡ one w closed → me.0.view.pending ≡ None → 1 ≤ k → k ≤ most → last_of closed < k
      → (lead ≤ w → HasFollowed lead me.0.view k) → n + 1 ≡ 2 * k → p ≡ start wide w → Allows Rule slots id me p (λ _. n) (λ _. opens (step slots p n 0 none) me n)
  opening_keeps slots id w k n p closed me owned free pos below above followed is place s r _ at _ = let a = own_account entry wide count lead most of s r id me.0 w closed None at owned free in
      let here : p ≡ start wide w + 0 = omega arith in let low = a.below in let range = r.in_range in let long = r.long in let in_all = lies_inside wide w count 0 (omega arith) (omega arith) in
      let was : stamp wide s.words w ≡ 2 * last_of closed = a.stamped in
      let now : stamp wide (set s.words p n) w ≡ n = subst (λ (z : ℕ). get_or (set s.words z n) (start wide w) 0 ≡ n) (sym place) (get_or-set_same s.words (start wide w) n 0 (omega arith)) in
      let half : (n + 1) / 2 ≡ k = omega arith in
      let done : Rule (stepped s p n id me.1 record { of = me.0.of; view = with_owned me.0.view (one w closed) (Some (pending k 0)) } keeps) =
      after_store entry wide count lead most of s r w 0 p n id here (omega arith) a.owned low me.1 me.0 closed closed (Some (pending k 0)) (omega arith) (omega arith) owned (λ j h. h)
      (λ past u l. let f = followed past u l in let low = last_below (get_or me.0.view.accepted u []) (stamp wide s.words u) ((r.each id me.0 at).accepted u) in omega arith) (λ k' pos' e i l. absurd (omega arith)) at (omega arith) (pos, omega arith, λ i l. absurd (omega arith)) in (
        record { of = me.0.of; view = with_owned me.0.view me.0.view.owned (Some (pending ((n + 1) / 2) 0)) },
        keeps,
        tt,
        subst (λ (z : List Owned × ℕ). Rule (stepped s p n id me.1 record { of = me.0.of; view = with_owned me.0.view z.0 (Some (pending z.1 0)) } keeps)) (λ i. (sym owned i, sym half i)) done,
        refl,
      )

  pub putting_keeps : (slots id w k c n p : ℕ) (closed : List ℕ) (me : Me ℕ (Known M)) → me.0.view.owned ≡ one w closed → me.0.view.pending ≡ Some (pending k c) → c < wide w → n ≡ get_or (entry w k) c 0
      → p ≡ start wide w + 1 + c → Allows Rule slots id me p (λ _. n) (λ _. puts (step slots p n 0 none) me n)
  putting_keeps slots id w k c n p closed me owned writes more said place s r _ at _ = let a = own_account entry wide count lead most of s r id me.0 w closed (Some (pending k c)) at owned writes in
      let low = a.below in let range = r.in_range in let long = r.long in let part = a.part in let pos : 1 ≤ k = part.0 in
      let room = lies_inside wide w count (1 + c) (omega arith) (omega arith) in let here : p ≡ start wide w + (1 + c) = omega arith in
      let was : stamp wide s.words w ≡ 2 * k - 1 = a.stamped in let full = r.top w (omega arith) in
      let kept : stamp wide (set s.words p n) w ≡ stamp wide s.words w = get_or-set_other s.words p (start wide w) n 0 (λ e. omega arith) in
      let put : get_or (set s.words p n) (start wide w + 1 + c) 0 ≡ get_or (entry w k) c 0 =
      subst (λ (z : ℕ). get_or (set s.words p n) z 0 ≡ get_or (entry w k) c 0) place (get_or-set_same s.words p n 0 (omega arith) ∙ said) in
      let done : Rule (stepped s p n id me.1 record { of = me.0.of; view = with_owned me.0.view (one w closed) (Some (pending k (c + 1))) } keeps) =
      after_store entry wide count lead most of s r w (1 + c) p n id here (omega arith) a.owned low me.1 me.0 closed closed (Some (pending k (c + 1))) (omega arith) (omega arith) owned (λ j h. h)
      (λ past u l. let f = r.following w u past (omega arith) l in omega arith) (λ k' pos' e i l. absurd (omega arith)) at (kept ∙ was) (
        pos,
        omega arith,
        λ i l. dite (ℕ_discrete i c)
            (λ e. subst (λ (z : ℕ). get_or (set s.words p n) (start wide w + 1 + z) 0 ≡ get_or (entry w k) z 0) (sym e) put)
            (λ other. get_or-set_other s.words p (start wide w + 1 + i) n 0 (λ e. other (omega arith)) ∙ part.2 i (omega arith)),
      ) in (
        record { of = me.0.of; view = with_owned me.0.view me.0.view.owned (one_more me.0.view.pending) },
        keeps,
        tt,
        subst (λ (z : List Owned × Option Pending). Rule (stepped s p n id me.1 record { of = me.0.of; view = with_owned me.0.view z.0 (one_more z.1) } keeps)) (λ i. (sym owned i, sym writes i)) done,
        refl,
      )

  pub closing_keeps : (slots id w k c n p : ℕ) (closed : List ℕ) (me : Me ℕ (Known M)) → me.0.view.owned ≡ one w closed → me.0.view.pending ≡ Some (pending k c) → c ≡ wide w → n ≡ 2 * k
      → p ≡ start wide w → Allows Rule slots id me p (λ _. n) (λ _. closes (step slots p n 0 none) me n)
  closing_keeps slots id w k c n p closed me owned writes all two place s r _ at _ = let a = own_account entry wide count lead most of s r id me.0 w closed (Some (pending k c)) at owned writes in
      let low = a.below in let range = r.in_range in let long = r.long in let part = a.part in let pos : 1 ≤ k = part.0 in
      let in_all = lies_inside wide w count 0 (omega arith) (omega arith) in let here : p ≡ start wide w + 0 = omega arith in
      let was : stamp wide s.words w ≡ 2 * k - 1 = a.stamped in let full = r.top w (omega arith) in
      let now : stamp wide (set s.words p n) w ≡ n = subst (λ (z : ℕ). get_or (set s.words z n) (start wide w) 0 ≡ n) (sym place) (get_or-set_same s.words (start wide w) n 0 (omega arith)) in
      let done : Rule (stepped s p n id me.1 record { of = me.0.of; view = with_owned me.0.view (one w (closed ++ k ∷ [])) None } keeps) =
      after_store entry wide count lead most of s r w 0 p n id here (omega arith) a.owned low me.1 me.0 closed (closed ++ k ∷ []) None (omega arith) (omega arith) owned (λ j h. Contains-append_left closed (k ∷ []) j h)
      (λ past u l. let f = r.following w u past (omega arith) l in omega arith)
      (λ k' pos' e i l. let same : k ≡ k' = omega arith in get_or-set_other s.words p (start wide w + 1 + i) n 0 (λ e. omega arith) ∙ (part.2 i (omega arith) ∙ ap (λ (z : ℕ). get_or (entry w z) i 0) same))
      at (now ∙ (two ∙ ap (λ (z : ℕ). 2 * z) (sym (last_push closed k)))) tt in (
        record { of = me.0.of; view = with_owned me.0.view (close_first (entry_of me.0.view.pending) me.0.view.owned) None },
        keeps,
        tt,
        subst (λ (z : List Owned × Option Pending). Rule (stepped s p n id me.1 record { of = me.0.of; view = with_owned me.0.view (close_first (entry_of z.1) z.0) None } keeps)) (λ i. (sym owned i, sym writes i)) done,
        refl,
      )
