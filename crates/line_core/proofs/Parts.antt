-- the parts of bytes between separators, from a place on
use Rattle.std.proofs.Common.{◌≡◌, ℕ, ◌+◌, ◌-◌, ◌≤◌, Bool, List, [], ◌∷◌, ◌++◌, length, take, drop, position, Some, None, refl, ap, ◌∙◌, arith, append_assoc, append-nil, sym}
use Rattle.std.specs.List.{slice_split}
use Rattle.std.proofs.lemmas.Grind.{common_steps}
use Rattle.std.proofs.lemmas.Bool.Decides.{nat_tests}
use Rattle.std.proofs.lemmas.List.{drop-drop}
use Rattle.std.proofs.lemmas.List.Splits.{slice_split_first}
use Rattle.line_core.specs.Fields.{is_blank, run_span, part_spans, fields_at}
use Rattle.line_core.specs.declared.field_list.Span.{Span}

-- where an element passes, the first part ends there
split_some : {X : Type 0} (p : X → Bool) (xs : List X) (k : ℕ) (d : X) → position p xs ≡ Some k → slice_split p xs ≡ take k xs ∷ slice_split p (drop (k + 1) xs)
split_some p xs k d e = grind (arith, common_steps, slice_split_first p xs d)

-- where none passes, the list is the one part
pub split_none : {X : Type 0} (p : X → Bool) (xs : List X) → position p xs ≡ None → slice_split p xs ≡ xs ∷ []
split_none p [] e = refl
split_none p (x ∷ xs) e = grind (arith, nat_tests, split_none p xs)

-- the same at a place of a longer list
pub split_at : {X : Type 0} (p : X → Bool) (xs : List X) (at k : ℕ) (d : X) → position p (drop at xs) ≡ Some k → slice_split p (drop at xs) ≡ take k (drop at xs) ∷ slice_split p (drop (at + (k + 1)) xs)
split_at p xs at k d e =
    split_some p (drop at xs) k d e ∙ ap (λ ys. take k (drop at xs) ∷ slice_split p ys) (drop-drop (k + 1) at xs)

pub length-taken : {X : Type 0} (xs : List X) (at k : ℕ) → at + k ≤ length xs → length (take k (drop at xs)) ≡ k
length-taken xs at k h = grind (arith, common_steps)

-- a turn of the loop over the fields
pub fields_turn : (start at k : ℕ) (text : List ℕ) → position is_blank (drop at text) ≡ Some k → at + k ≤ length text → fields_at (start + at) (drop at text) ≡ run_span (start + at) k ++ fields_at (start + (at + (k + 1))) (drop (at + (k + 1)) text)
fields_turn start at k text e h =
    let next : start + at + k + 1 ≡ start + (at + (k + 1)) = omega arith in
    ap (part_spans (start + at)) (split_at is_blank text at k 0 e)
    ∙ ap (λ n. run_span (start + at) n ++ part_spans (start + at + n + 1) (slice_split is_blank (drop (at + (k + 1)) text))) (length-taken text at k h)
    ∙ ap (λ n. run_span (start + at) k ++ part_spans n (slice_split is_blank (drop (at + (k + 1)) text))) next

-- the same of what was found before
pub fields_next : (start at k : ℕ) (text : List ℕ) (found new : List Span) → position is_blank (drop at text) ≡ Some k → at + k ≤ length text → new ≡ found ++ run_span (start + at) k → found ++ fields_at (start + at) (drop at text) ≡ fields_at start text → new ++ fields_at (start + (at + (k + 1))) (drop (at + (k + 1)) text) ≡ fields_at start text
fields_next start at k text found new e h pushed before =
    let rest = fields_at (start + (at + (k + 1))) (drop (at + (k + 1)) text) in
    ap (λ spans. spans ++ rest) pushed
    ∙ append_assoc found (run_span (start + at) k) rest
    ∙ ap (λ spans. found ++ spans) (sym (fields_turn start at k text e h))
    ∙ before

-- its end
pub fields_end : (start at : ℕ) (text : List ℕ) → position is_blank (drop at text) ≡ None → at ≤ length text → fields_at (start + at) (drop at text) ≡ run_span (start + at) (length text - at)
fields_end start at text e h =
    let long : length (drop at text) ≡ length text - at = grind (arith, common_steps) in
    ap (part_spans (start + at)) (split_none is_blank (drop at text) e) ∙ append-nil _ ∙ ap (run_span (start + at)) long

pub fields_last : (start at : ℕ) (text : List ℕ) (found new : List Span) → position is_blank (drop at text) ≡ None → at ≤ length text → new ≡ found ++ run_span (start + at) (length text - at) → found ++ fields_at (start + at) (drop at text) ≡ fields_at start text → new ≡ fields_at start text
fields_last start at text found new e h pushed before =
    pushed ∙ ap (λ spans. found ++ spans) (sym (fields_end start at text e h)) ∙ before
