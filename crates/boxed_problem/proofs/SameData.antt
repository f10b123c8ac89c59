-- Problems with the same parts are the same.
use Rattle.std.proofs.Common.{◌≡◌, ◌∙◌, ap, List, ℤ}
use Rattle.boxed_problem.specs.Data.{Problem}
use Rattle.boxed_problem.specs.declared.parts.Entry.{Entry}
use Rattle.boxed_problem.specs.declared.parts.Limits.{Limits}
use Rattle.boxed_problem.specs.declared.parts.Side.{Side}

abbrev problem_with : List Side → List Limits → List Entry → ℤ → List ℤ → List ℤ → Problem
problem_with columns rows entries constant line square = record { columns = columns; rows = rows; entries = entries; constant = constant; line = line; square = square }

pub same_data : (p q : Problem) → p.columns ≡ q.columns → p.rows ≡ q.rows → p.entries ≡ q.entries → p.constant ≡ q.constant → p.line ≡ q.line → p.square ≡ q.square → p ≡ q
same_data p q columns rows entries constant line square =
    ap (λ x. problem_with x p.rows p.entries p.constant p.line p.square) columns
    ∙ (ap (λ x. problem_with q.columns x p.entries p.constant p.line p.square) rows
    ∙ (ap (λ x. problem_with q.columns q.rows x p.constant p.line p.square) entries
    ∙ (ap (λ x. problem_with q.columns q.rows q.entries x p.line p.square) constant
    ∙ (ap (λ x. problem_with q.columns q.rows q.entries q.constant x p.square) line
    ∙ ap (problem_with q.columns q.rows q.entries q.constant q.line) square))))
