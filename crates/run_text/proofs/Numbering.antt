-- The lines of spokes that are numbered in their order.
use Rattle.std.proofs.Common.{arith, ◌≡◌, List, [], ◌∷◌, ℕ, ◌+◌, ◌<◌, ◌++◌, sym, ap, ◌∙◌, subst, length, take, drop, get_or, append-nil, append_assoc, take-append-drop, length-take}
use Rattle.std.proofs.lemmas.List.{take_more}
use Rattle.std.proofs.lemmas.List.Folds.{concat-append}
use Rattle.std.specs.List.{concat}
use Rattle.io_edge.proofs.Writing.{appended_twice, front_after}
use Rattle.io_edge.specs.Sinks.{AppendsFront, appended}
use Rattle.log_words.specs.declared.log.SpokeLog.{SpokeLog}
use Rattle.run_text.proofs.Putting.{Written, cut_before}
use Rattle.run_text.specs.RunLines.{spoke_lines_of, spokes_lines_from}

-- spokes behind others
lines-append : (j : ℕ) (xs ys : List SpokeLog) → spokes_lines_from j (xs ++ ys) ≡ spokes_lines_from j xs ++ spokes_lines_from (j + length xs) ys
lines-append j [] ys = ap (λ n. spokes_lines_from n ys) (omega arith)
lines-append j (x ∷ xs) ys =
    let at : (j + 1) + length xs ≡ j + length (x ∷ xs) = omega arith in
    ap (λ lines. spoke_lines_of j x ++ lines) (lines-append (j + 1) xs ys ∙ ap (λ n. spokes_lines_from (j + 1) xs ++ spokes_lines_from n ys) at)
    ∙ sym (append_assoc (spoke_lines_of j x) (spokes_lines_from (j + 1) xs) (spokes_lines_from (j + length (x ∷ xs)) ys))

-- the text of the first n spokes
abbrev pub first_spokes : List SpokeLog → ℕ → List ℕ
first_spokes spokes n = concat (spokes_lines_from 0 (take n spokes))

-- one spoke more
spokes_more : (spokes : List SpokeLog) (n : ℕ) (d : SpokeLog) → n < length spokes → first_spokes spokes (n + 1) ≡ first_spokes spokes n ++ concat (spoke_lines_of n (get_or spokes n d))
spokes_more spokes n d inside =
    let at : 0 + length (take n spokes) ≡ n = omega (arith, length-take n spokes) in
    ap (λ xs. concat (spokes_lines_from 0 xs)) (take_more spokes n d inside)
    ∙ ap concat (lines-append 0 (take n spokes) (get_or spokes n d ∷ []) ∙ ap (λ m. spokes_lines_from 0 (take n spokes) ++ spokes_lines_from m (get_or spokes n d ∷ [])) at)
    ∙ concat-append (spokes_lines_from 0 (take n spokes)) (spoke_lines_of n (get_or spokes n d) ++ [])
    ∙ ap (λ lines. first_spokes spokes n ++ concat lines) (append-nil (spoke_lines_of n (get_or spokes n d)))

-- the lines of one spoke more were put
pub spoke_put : (spokes : List SpokeLog) (n : ℕ) (d spoke : SpokeLog) (old mid new : Written) → n < length spokes → spoke ≡ get_or spokes n d → mid ≡ appended old (first_spokes spokes n) → new ≡ appended mid (concat (spoke_lines_of n spoke)) → new ≡ appended old (first_spokes spokes (n + 1))
spoke_put spokes n d spoke old mid new inside is begun put =
    appended_twice old mid new (first_spokes spokes n) (concat (spoke_lines_of n spoke)) begun put
    ∙ ap (appended old) (ap (λ last. first_spokes spokes n ++ concat (spoke_lines_of n last)) is ∙ sym (spokes_more spokes n d inside))

-- the first spokes and the others
spokes_split : (spokes : List SpokeLog) (n : ℕ) → concat (spokes_lines_from 0 spokes) ≡ first_spokes spokes n ++ concat (spokes_lines_from (0 + length (take n spokes)) (drop n spokes))
spokes_split spokes n =
    ap (λ xs. concat (spokes_lines_from 0 xs)) (sym (take-append-drop n spokes))
    ∙ ap concat (lines-append 0 (take n spokes) (drop n spokes))
    ∙ concat-append (spokes_lines_from 0 (take n spokes)) (spokes_lines_from (0 + length (take n spokes)) (drop n spokes))

-- the lines of a spoke were cut
pub spoke_cut : (spokes : List SpokeLog) (n : ℕ) (d spoke : SpokeLog) (old mid new : Written) → n < length spokes → spoke ≡ get_or spokes n d → mid ≡ appended old (first_spokes spokes n) → AppendsFront mid new (concat (spoke_lines_of n spoke)) → AppendsFront old new (concat (spokes_lines_from 0 spokes))
spoke_cut spokes n d spoke old mid new inside is begun cut =
    let upto = front_after old mid new (first_spokes spokes n) (concat (spoke_lines_of n spoke)) begun cut in
    let so_far = subst (AppendsFront old new) (ap (λ last. first_spokes spokes n ++ concat (spoke_lines_of n last)) is ∙ sym (spokes_more spokes n d inside)) upto in
    subst (AppendsFront old new) (sym (spokes_split spokes (n + 1)))
    (cut_before (first_spokes spokes (n + 1)) (concat (spokes_lines_from (0 + length (take (n + 1) spokes)) (drop (n + 1) spokes))) old new so_far)
