-- Texts put part after part: what was written where a part was put whole, and where one was cut.
use Rattle.std.proofs.Common.{◌≡◌, List, [], ◌∷◌, ℕ, ◌+◌, ◌<◌, ◌++◌, Option, Result, Ok, Err, refl, sym, ap, ◌∙◌, subst, length, take, get_or, map, append-nil, append_assoc}
use Rattle.std.specs.List.{concat, flat_map}
use Rattle.std.proofs.lemmas.List.Folds.{concat-append}
use Rattle.io_edge.proofs.Writing.{appended_twice, front_after, front_of_front, front_of_item_put, item_written}
use Rattle.io_edge.specs.Sinks.{AppendsFront, appended}
use Rattle.io_edge.specs.declared.faults.EdgeFault.TheVariants as edge
use Rattle.run_log.specs.declared.log.Log.{Log}
use Rattle.run_text.specs.Bodies.{body_lines_of, first_line, last_lines}
use Rattle.run_text.specs.Puts.{PutsText}
use Rattle.run_text.specs.RunLines.{end_text, event_lines_of, spokes_lines_from}
use Rattle.run_text.specs.declared.fault.TextFault.{TextFault}
use Rattle.run_text.specs.declared.worth.Worth.{Worth}
use Rattle.text_lines.specs.Lines.{line_of}

abbrev pub Written : Type 0
Written = Option (List ℕ)

-- a text that was cut, of which a further part wasn't begun
pub cut_before : (first second : List ℕ) (old new : Written) → AppendsFront old new first → AppendsFront old new (first ++ second)
cut_before first second old new front = front_of_front old new first second (first ++ second) refl front

-- a part behind one that was put whole
pub put_after : {U : Type 0} (first second : List ℕ) (old mid new : Written) (result : Result U TextFault) → mid ≡ appended old first → PutsText second mid new result → PutsText (first ++ second) old new result
put_after first second old mid new (Ok u) begun put = appended_twice old mid new first second begun put
put_after first second old mid new (Err fault) begun cut = front_after old mid new first second begun cut

-- two lines, the second behind the first
pub put_two : {U : Type 0} (first second : List ℕ) (old mid new : Written) (result : Result U TextFault) → mid ≡ appended old first → PutsText second mid new result → PutsText (concat (first ∷ second ∷ [])) old new result
put_two first second old mid new result begun put =
    subst (λ text. PutsText (first ++ text) old new result) (sym (append-nil second)) (put_after first second old mid new result begun put)

-- the lines of items, one after another
pub lines_of_items : {X : Type 0} (f : X → List ℕ) (items : List X) → concat (map f items) ≡ flat_map f items
lines_of_items f [] = refl
lines_of_items f (item ∷ items) = ap (λ text. f item ++ text) (lines_of_items f items)

-- the line of one item more was put
pub item_put : {X : Type 0} (f : X → List ℕ) (items : List X) (i : ℕ) (d : X) (old mid new : Written) → i < length items → mid ≡ appended old (concat (map f (take i items))) → new ≡ appended mid (f (get_or items i d)) → new ≡ appended old (concat (map f (take (i + 1) items)))
item_put f items i d old mid new inside begun put =
    item_written f items i d old mid new (f (get_or items i d)) inside refl (begun ∙ ap (appended old) (lines_of_items f (take i items))) put
    ∙ ap (appended old) (sym (lines_of_items f (take (i + 1) items)))

-- the line of an item was cut
pub item_cut : {X : Type 0} (f : X → List ℕ) (items : List X) (i : ℕ) (d : X) (old mid new : Written) → i < length items → mid ≡ appended old (concat (map f (take i items))) → AppendsFront mid new (f (get_or items i d)) → AppendsFront old new (concat (map f items))
item_cut f items i d old mid new inside begun cut =
    subst (AppendsFront old new) (sym (lines_of_items f items))
    (front_of_item_put f items i d old mid new (f (get_or items i d)) (Err edge.Failed) inside refl (begun ∙ ap (appended old) (lines_of_items f (take i items))) cut)

-- the text of a run in its three parts
pub body_is : (log : Log) (lower : Worth) (upper : Option Worth) → concat (body_lines_of log lower upper) ≡ (first_line log.first ++ concat (event_lines_of log.events)) ++ ((line_of (end_text log.end) ++ concat (spokes_lines_from 0 log.spokes)) ++ concat (last_lines lower upper))
body_is log lower upper =
    let begin = first_line log.first ∷ event_lines_of log.events in
    let answered = line_of (end_text log.end) ∷ spokes_lines_from 0 log.spokes in
    concat-append (begin ++ answered) (last_lines lower upper)
    ∙ ap (λ text. text ++ concat (last_lines lower upper)) (concat-append begin answered)
    ∙ append_assoc (concat begin) (concat answered) (concat (last_lines lower upper))

-- a text that was cut behind a part that was put whole
pub cut_after : (first second : List ℕ) (old mid new : Written) → mid ≡ appended old first → AppendsFront mid new second → AppendsFront old new (first ++ second)
cut_after first second old mid new begun cut = front_after old mid new first second begun cut
