-- Facts for the writer of lines: what is written is the lines, or a front of them.
use Rattle.std.proofs.Common.{◌≡◌, ℕ, ◌+◌, ◌<◌, List, length, take, get_or, Option, Result, Ok, Err, OnErr, sym, ap, ◌∙◌}
use Rattle.std.proofs.lemmas.List.Concat.{concat_is}
use Rattle.std.specs.List.{concat, flat_map}
use Rattle.io_edge.specs.declared.faults.EdgeFault.{EdgeFault}
use Rattle.io_edge.specs.Sinks.{appended, AppendsFront, PutLeaves}
use Rattle.io_edge.proofs.Writing.{item_written, front_of_item_put}

-- the first lines, one after another, by the name that the facts on writers use
begun_by : (lines : List (List ℕ)) (i : ℕ) (old mid : Option (List ℕ)) → mid ≡ appended old (concat (take i lines)) → mid ≡ appended old (flat_map (λ line. line) (take i lines))
begun_by lines i old mid begun = begun ∙ ap (appended old) (concat_is (take i lines))

-- one line more is written
pub line_written : (lines : List (List ℕ)) (i : ℕ) (d piece : List ℕ) (old mid new : Option (List ℕ)) → i < length lines → piece ≡ get_or lines i d → mid ≡ appended old (concat (take i lines)) → new ≡ appended mid piece → new ≡ appended old (concat (take (i + 1) lines))
line_written lines i d piece old mid new inside is begun written =
    item_written (λ line. line) lines i d old mid new piece inside is (begun_by lines i old mid begun) written
    ∙ ap (appended old) (sym (concat_is (take (i + 1) lines)))

-- where the put of a line is refused, a front of all lines is written
pub front_of_line_put : (lines : List (List ℕ)) (i : ℕ) (d piece : List ℕ) (old mid new : Option (List ℕ)) (answer : Result (Unit {0}) EdgeFault) → i < length lines → piece ≡ get_or lines i d → mid ≡ appended old (concat (take i lines)) → PutLeaves mid new piece answer → AppendsFront old new (concat lines)
front_of_line_put lines i d piece old mid new answer inside is begun left =
    let front = front_of_item_put (λ line. line) lines i d old mid new piece answer inside is (begun_by lines i old mid begun) left in
    (front.0, front.1 ∙ ap (λ text. appended old (take front.0 text)) (sym (concat_is lines)))

-- what holds anyway holds of an error
pub on_err : {T E P : Type 0} (answer : Result T E) → P → OnErr answer P
on_err (Ok value) fact = tt
on_err (Err fault) fact = fact
