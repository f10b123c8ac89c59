-- The columns of a core have the ends that the lines of its file come to.
use Rattle.std.proofs.Common.{◌≡◌, subst, ap, ◌∙◌, ℕ, ◌<◌, List, length, map, get_or, arith}
use Rattle.std.specs.List.{range_with_len}
use Rattle.std.proofs.lemmas.List.FromFn.{get_or-map-range_with_len, length-map-range_with_len}
use Rattle.smps_words.specs.TextLines.{TextLine}
use Rattle.smps_words.specs.declared.core_data.CoreColumn.{CoreColumn}
use Rattle.smps_words.specs.declared.core_file.Core.{Core}
use Rattle.core_lines.specs.Lines.{before_of}
use Rattle.core_lines.specs.Parts.{Before}
use Rattle.smps_core.specs.BoxLines.{HasEnds}
use Rattle.smps_core.specs.CoreData.{IsCoreOf, column_of}

pub have_ends : (lines : List TextLine) (core : Core) → IsCoreOf (before_of lines) core → (j : ℕ) (d : CoreColumn) → j < length core.columns → HasEnds lines (get_or core.columns j d) j
have_ends lines core is j d lt =
    let said : Before = before_of lines in
    let count : ℕ = length said.columns.names in
    let columns : core.columns ≡ map (column_of said) (range_with_len 0 count) = is.columns in
    let small : j < count = subst (λ (n : ℕ). j < n) (ap (λ (l : List CoreColumn). length l) columns ∙ length-map-range_with_len (column_of said) 0 count) lt in
    let at : get_or core.columns j d ≡ column_of said j = ap (λ (l : List CoreColumn). get_or l j d) columns ∙ get_or-map-range_with_len (column_of said) 0 count j j d small (omega arith) in
    (ap (λ (c : CoreColumn). c.lower) at, ap (λ (c : CoreColumn). c.upper) at)
