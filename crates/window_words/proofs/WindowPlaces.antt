-- Where windows lie, and which words a store leaves as they are.
use Rattle.std.proofs.Common.{◌≡◌, ℕ, zero, suc, ◌+◌, ◌<◌, ◌≤◌, ◌≢◌, List, get_or, set, sym, subst, arith, get_or-set_other}
use mathlib.Core.Logic.{dite}
use native.Mathlib.Decide.{dec_le, ℕ_discrete}
use Rattle.window_words.specs.Rule.{start, stamp, word}

pub start_above_zero : (wide : ℕ → ℕ) (w : ℕ) → 1 ≤ start wide w
start_above_zero wide zero = omega arith
start_above_zero wide (suc w) = let a = start_above_zero wide w in omega arith

-- windows lie one behind the other
ends_before : (wide : ℕ → ℕ) (w w' : ℕ) → w < w' → start wide w + wide w + 1 ≤ start wide w'
ends_before wide w zero h = absurd (omega arith)
ends_before wide w (suc w') h = dite (ℕ_discrete w w')
    (λ e. subst (λ (z : ℕ). start wide w + wide w + 1 ≤ start wide z + wide z + 1) e (omega arith))
    (λ other. let a = ends_before wide w w' (omega arith) in omega arith)

pub places_differ : (wide : ℕ → ℕ) (w w' x y : ℕ) → w ≢ w' → x ≤ wide w → y ≤ wide w' → start wide w' + y ≢ start wide w + x
places_differ wide w w' x y other lx ly e = dite (dec_le (suc w) w')
    (λ less. let a = ends_before wide w w' (omega arith) in absurd (omega arith))
    (λ more. let a = ends_before wide w' w (omega arith) in absurd (omega arith))

pub start_tells : (wide : ℕ → ℕ) (w w' : ℕ) → start wide w ≡ start wide w' → w ≡ w'
start_tells wide w w' e = dite (ℕ_discrete w w') (λ same. same) (λ other. absurd (places_differ wide w' w 0 0 (λ h. other (sym h)) (omega arith) (omega arith) (omega arith)))

pub lies_inside : (wide : ℕ → ℕ) (w count x : ℕ) → w < count → x ≤ wide w → start wide w + x < start wide count
lies_inside wide w count x h l = let a = ends_before wide w count h in omega arith

module _ (wide : ℕ → ℕ) (ws : List ℕ) (w x p n : ℕ) (here : p ≡ start wide w + x) (in_window : x ≤ wide w) where
  pub stop_word_stays : get_or (set ws p n) 0 0 ≡ get_or ws 0 0
  stop_word_stays = let a = start_above_zero wide w in get_or-set_other ws p 0 n 0 (λ e. omega arith)

  pub other_stamp_stays : (w' : ℕ) → w' ≢ w → stamp wide (set ws p n) w' ≡ stamp wide ws w'
  other_stamp_stays w' other = get_or-set_other ws p (start wide w') n 0 (λ e. places_differ wide w w' x 0 (λ h. other (sym h)) in_window (omega arith) (omega arith))

  pub other_word_stays : (w' i : ℕ) → w' ≢ w → i < wide w' → word wide (set ws p n) w' i ≡ word wide ws w' i
  other_word_stays w' i other l = get_or-set_other ws p (start wide w' + 1 + i) n 0 (λ e. places_differ wide w w' x (i + 1) (λ h. other (sym h)) in_window (omega arith) (omega arith))

-- a store in word 0 changes no window
module _ (wide : ℕ → ℕ) (ws : List ℕ) (n : ℕ) where
  pub stamp_apart : (w : ℕ) → stamp wide (set ws 0 n) w ≡ stamp wide ws w
  stamp_apart w = let a = start_above_zero wide w in get_or-set_other ws 0 (start wide w) n 0 (λ e. omega arith)

  pub word_apart : (w i : ℕ) → word wide (set ws 0 n) w i ≡ word wide ws w i
  word_apart w i = get_or-set_other ws 0 (start wide w + 1 + i) n 0 (λ e. omega arith)
