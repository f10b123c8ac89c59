-- A step that a table allows is one of the plain board.
use Rattle.std.proofs.Common.{◌≡◌, ℕ, zero, suc, ◌<◌, List, [], ◌∷◌, map, length, get_or, set, sym, refl, ap, subst, arith}
use Rattle.std.proofs.lemmas.List.{set-get_or, map-set}
use mathlib.Core.Option.{Option, some}
use lib.ListN.{get_elem?}
use Rattle.atomic_table.specs.Table.{Me, Act, stepped, Allows}
use Rattle.window_words.specs.Views.{after}
use Rattle.window_words.specs.Rule.{Windows}
use Rattle.window_words.specs.Steps.{known, Gains}
use Rattle.window_words.specs.declared.views.View.{View}
use Rattle.window_words.specs.declared.views.Known.{Known}
use Rattle.window_words.specs.declared.views.Call.{Call}
use Rattle.plain_board.specs.Plain.{no_view, state}

-- the rule doesn't speak of slots
rehomed : {M : Type 0} (E : ℕ → ℕ → List ℕ) (W : ℕ → ℕ) (C D L : ℕ) (of : M) (ws : List ℕ) (hs ks : List (Option ℕ)) (vs : List (Known M)) → Windows E W C D L of record { words = ws; homes = hs; views = vs } → Windows E W C D L of record { words = ws; homes = ks; views = vs }
rehomed E W C D L of ws hs ks vs r = record { hub = r.hub; dealt = r.dealt; owner = r.owner; long = r.long; in_range = r.in_range; new = r.new; top = r.top; whole = r.whole; same = r.same; each = r.each; following = r.following; listed = r.listed }

pub at_known : {M : Type 0} (of : M) (vs : List View) (at : ℕ) (v : View) → at < length vs → get_or vs at no_view ≡ v → get_elem? (map (known of) vs) at ≡ some (known of v)
at_known of [] at v l e = absurd (omega arith)
at_known of (x ∷ xs) zero v l e = ap (λ (z : View). some (known of z)) e
at_known of (x ∷ xs) (suc at) v l e = at_known of xs at v (omega arith) e

-- the board after a step that gives the selected seat what the call adds
gained : {M : Type 0} (E : ℕ → ℕ → List ℕ) (W : ℕ → ℕ) (C D L : ℕ) (of : M) (words : List ℕ) (views : List View) (at p n leaders k : ℕ) (call : Call) (v : View) (x : Known M) (act : Act ℕ) (c : List (ℕ × ℕ))
    → Gains leaders call k (known of v, []) (x, c) → Windows E W C D L of (stepped (state of words views) p n at [] x act) → Windows E W C D L of (state of (set words p n) (set views at (after leaders call k v)))
gained {M} E W C D L of words views at p n leaders k call v x act c gains rule =
    let w : x ≡ known of (after leaders call k v) = ap (λ (m : Me ℕ (Known M)). m.0) gains in
    let moved = subst (λ (z : Known M). Windows E W C D L of (stepped (state of words views) p n at [] z act)) w rule in
    subst (λ (vs : List (Known M)). Windows E W C D L of record { words = set words p n; homes = []; views = vs }) (sym (map-set (known of) views at (after leaders call k v)))
    (rehomed E W C D L of (set words p n) _ [] (set (map (known of) views) at (known of (after leaders call k v))) moved)

module _ {M : Type 0} (E : ℕ → ℕ → List ℕ) (W : ℕ → ℕ) (C D L : ℕ) (of : M) (words : List ℕ) (views : List View) (at : ℕ) (v : View) (r : Windows E W C D L of (state of words views)) (low : at < length views) (is : get_or views at no_view ≡ v) where
  -- a store
  pub plain_store : (p n leaders k : ℕ) (call : Call) → get_or words p 0 < 18446744073709551616 → Allows (Windows E W C D L of) 0 at (known of v, []) p (λ _. n) (λ _ m. Gains leaders call k (known of v, []) m)
      → Windows E W C D L of (state of (set words p n) (set views at (after leaders call k v)))
  plain_store p n leaders k call small allows = let t = allows (state of words views) r refl (at_known of views at v low is) small in
      gained E W C D L of words views at p n leaders k call v t.0 t.1 _ t.4 t.3

  -- a load, and what it tells
  pub plain_load : (p leaders : ℕ) (call : Call) (tells : ℕ → Me ℕ (Known M) → Type 0) → get_or words p 0 < 18446744073709551616 → ((m : Me ℕ (Known M)) → tells (get_or words p 0) m → Gains leaders call (get_or words p 0) (known of v, []) m)
      → Allows (Windows E W C D L of) 0 at (known of v, []) p (λ n. n) tells
      → ((m : Me ℕ (Known M)) × tells (get_or words p 0) m) × Windows E W C D L of (state of words (set views at (after leaders call (get_or words p 0) v)))
  plain_load p leaders call tells small gains allows = let t = allows (state of words views) r refl (at_known of views at v low is) small in
      let n : ℕ = get_or words p 0 in (
        ((t.0, _), t.4),
        subst (λ (ws : List ℕ). Windows E W C D L of (state of ws (set views at (after leaders call n v)))) (set-get_or words p 0)
            (gained E W C D L of words views at p n leaders n call v t.0 t.1 _ (gains _ t.4) t.3),
      )
