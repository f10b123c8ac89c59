-- Texts put part after part: what was written where a part was put whole, and where one was cut.
use Rattle.std.proofs.Common.{arith, ◌≡◌, ◌≤◌, inl, inr, ℤ, List, [], ◌∷◌, ℕ, ◌+◌, ◌++◌, Option, Some, Result, Ok, Err, refl, sym, ap, ◌∙◌, subst, take, drop, add-one, append-nil, append_assoc, take-append-drop}
use Rattle.std.specs.List.{concat, flat_map, range_with_len}
use Rattle.std.proofs.lemmas.Grind.{flat_map-append}
use Rattle.std.proofs.lemmas.List.Folds.{concat-append}
use Rattle.base_words.proofs.ListSumsByNumber.{range_more, take_range}
use Rattle.io_edge.proofs.Writing.{appended_twice, front_after, front_of_front, front_whole}
use Rattle.io_edge.specs.Sinks.{AppendsFront, appended}
use Rattle.run_words.specs.declared.command.Action.{Action}
use Rattle.run_words.specs.declared.command.Action.TheVariants.{Wait, Show, Drive}
use Rattle.run_log.specs.Runs.{IsRun}
use Rattle.run_log.specs.declared.log.Log.{Log}
use Rattle.run_text.specs.Bodies.{IsBody}
use Rattle.drive_words.specs.Driving.{IsDriven}
use Rattle.sp_model.specs.Problems.{wait_and_see_of}
use Rattle.sppy_cli.specs.Texts.{CutsBound, CutsText, IsDriveRest, IsWaitRest, PutsBound, PutsLog, PutsText, Writes, WritesBoundFront, WritesFront, WritesRest, heading_text, row_places_of, show_rest}
use Rattle.sppy_cli.specs.declared.instance.Instance.{Instance}
use Rattle.sppy_cli.specs.declared.status.Status.{Status}
use Rattle.sppy_cli.specs.declared.status.Status.TheVariants as status
use Rattle.text_lines.specs.BoundLines.{IsBoundText}
use Rattle.text_lines.specs.Headings.{unit_of}
use Rattle.text_lines.specs.ShowLines.{all_scenario_lines, column_lines_of, row_lines_of}

abbrev pub Written : Type 0
Written = Option (List ℕ)

-- a text that was cut, of which a further part wasn't begun
pub cut_before : (first second : List ℕ) (old new : Written) (s : Status) → CutsText first old new s → CutsText (first ++ second) old new s
cut_before first second old new (status.WriteFault faults) front = front_of_front old new first second (first ++ second) refl front
cut_before first second old new status.Memory front = front_of_front old new first second (first ++ second) refl front
cut_before first second old new status.Done never = never
cut_before first second old new status.Words never = never
cut_before first second old new (status.Input fault) never = never
cut_before first second old new (status.Infeasible scenario) never = never
cut_before first second old new (status.Spent scenario opened) never = never
cut_before first second old new (status.Wide reach) never = never
cut_before first second old new (status.ReadFault faults) never = never

-- a text that was cut behind a part that was put whole
pub cut_after : (first second : List ℕ) (old mid new : Written) (s : Status) → mid ≡ appended old first → CutsText second mid new s → CutsText (first ++ second) old new s
cut_after first second old mid new (status.WriteFault faults) begun front = front_after old mid new first second begun front
cut_after first second old mid new status.Memory begun front = front_after old mid new first second begun front
cut_after first second old mid new status.Done begun never = never
cut_after first second old mid new status.Words begun never = never
cut_after first second old mid new (status.Input fault) begun never = never
cut_after first second old mid new (status.Infeasible scenario) begun never = never
cut_after first second old mid new (status.Spent scenario opened) begun never = never
cut_after first second old mid new (status.Wide reach) begun never = never
cut_after first second old mid new (status.ReadFault faults) begun never = never

-- a part behind one that was put whole
pub put_after : {U : Type 0} (first second : List ℕ) (old mid new : Written) (result : Result U Status) → mid ≡ appended old first → PutsText second mid new result → PutsText (first ++ second) old new result
put_after first second old mid new (Ok u) begun put = appended_twice old mid new first second begun put
put_after first second old mid new (Err s) begun cut = cut_after first second old mid new s begun cut

-- the text of the parts below n
abbrev pub parts_below : (ℕ → List (List ℕ)) → ℕ → List ℕ
parts_below f n = concat (flat_map f (range_with_len 0 n))

-- one part more
pub parts_more : (f : ℕ → List (List ℕ)) (n : ℕ) → parts_below f (n + 1) ≡ parts_below f n ++ concat (f n)
parts_more f n =
    let at : 0 + n ≡ n = omega arith in
    ap (λ ns. concat (flat_map f ns)) (ap (range_with_len 0) (add-one n) ∙ range_more 0 n ∙ ap (λ m. range_with_len 0 n ++ m ∷ []) at)
    ∙ ap concat (flat_map-append f (range_with_len 0 n) (n ∷ []))
    ∙ concat-append (flat_map f (range_with_len 0 n)) (f n ++ [])
    ∙ ap (λ lines. parts_below f n ++ concat lines) (append-nil (f n))

-- the parts from m on
abbrev parts_from : (ℕ → List (List ℕ)) → ℕ → ℕ → List ℕ
parts_from f m n = concat (flat_map f (drop m (range_with_len 0 n)))

parts_split : (f : ℕ → List (List ℕ)) (m n : ℕ) → m ≤ n → parts_below f n ≡ parts_below f m ++ parts_from f m n
parts_split f m n h =
    ap (λ ns. concat (flat_map f ns)) (sym (take-append-drop m (range_with_len 0 n)))
    ∙ ap concat (flat_map-append f (take m (range_with_len 0 n)) (drop m (range_with_len 0 n)))
    ∙ concat-append (flat_map f (take m (range_with_len 0 n))) (flat_map f (drop m (range_with_len 0 n)))
    ∙ ap (λ ns. concat (flat_map f ns) ++ parts_from f m n) (take_range 0 n m h)

-- part m more was put
pub part_put : (f : ℕ → List (List ℕ)) (m : ℕ) (old mid new : Written) → mid ≡ appended old (parts_below f m) → new ≡ appended mid (concat (f m)) → new ≡ appended old (parts_below f (m + 1))
part_put f m old mid new begun put = appended_twice old mid new (parts_below f m) (concat (f m)) begun put ∙ ap (appended old) (sym (parts_more f m))

-- part m was cut
pub part_cut : (f : ℕ → List (List ℕ)) (m n : ℕ) (old mid new : Written) (s : Status) → m + 1 ≤ n → mid ≡ appended old (parts_below f m) → CutsText (concat (f m)) mid new s → CutsText (parts_below f n) old new s
part_cut f m n old mid new s h begun cut =
    let upto = cut_after (parts_below f m) (concat (f m)) old mid new s begun cut in
    let all = cut_before (parts_below f m ++ concat (f m)) (parts_from f (m + 1) n) old new s upto in
    subst (λ text. CutsText text old new s) (ap (λ part. part ++ parts_from f (m + 1) n) (sym (parts_more f m)) ∙ sym (parts_split f (m + 1) n h)) all

-- the text of `show` in its three parts
pub show_is : (i : Instance) → show_rest i ≡ concat (column_lines_of i.triple.core i.run) ++ (concat (row_lines_of i.triple.core i.run (row_places_of i)) ++ concat (all_scenario_lines i.triple.core i.run))
show_is i =
    let columns = column_lines_of i.triple.core i.run in
    let rows = row_lines_of i.triple.core i.run (row_places_of i) in
    let scenarios = all_scenario_lines i.triple.core i.run in
    concat-append (columns ++ rows) scenarios
    ∙ ap (λ text. text ++ concat scenarios) (concat-append columns rows)
    ∙ append_assoc (concat columns) (concat rows) (concat scenarios)

-- how `show` ends where its text was cut
pub show_cut : (i : Instance) (old new : Written) (s : Status) → CutsText (show_rest i) old new s → WritesRest Show i old new s
show_cut i old new (status.WriteFault faults) front = (show_rest i, refl, front)
show_cut i old new status.Memory front = inr (show_rest i, refl, front)
show_cut i old new status.Done never = absurd never
show_cut i old new status.Words never = absurd never
show_cut i old new (status.Input fault) never = absurd never
show_cut i old new (status.Infeasible scenario) never = absurd never
show_cut i old new (status.Spent scenario opened) never = absurd never
show_cut i old new (status.Wide reach) never = absurd never
show_cut i old new (status.ReadFault faults) never = absurd never

-- the lines of a bound, and how their put ended
pub bound_put : {U : Type 0} (i : Instance) (bound : ℤ) (lines : List (List ℕ)) (old new : Written) (result : Result U Status) → IsBoundText bound (unit_of i.run) lines → PutsText (concat lines) old new result → PutsBound i bound old new result
bound_put i bound lines old new (Ok u) h put = (lines, h, put)
bound_put i bound lines old new (Err (status.WriteFault faults)) h put = (lines, h, put)
bound_put i bound lines old new (Err status.Memory) h put = inr (lines, h, put)
bound_put i bound lines old new (Err status.Done) h never = never
bound_put i bound lines old new (Err status.Words) h never = never
bound_put i bound lines old new (Err (status.Input fault)) h never = never
bound_put i bound lines old new (Err (status.Infeasible scenario)) h never = never
bound_put i bound lines old new (Err (status.Spent scenario opened)) h never = never
bound_put i bound lines old new (Err (status.Wide reach)) h never = never
bound_put i bound lines old new (Err (status.ReadFault faults)) h never = never

-- how `wait` ends where the lines of its bound were put, and where they were cut
pub bound_written : (i : Instance) (bound : ℤ) (old new : Written) → wait_and_see_of i.run ≡ Some bound → (lines : List (List ℕ)) × IsBoundText bound (unit_of i.run) lines × (new ≡ appended old (concat lines)) →
    (rest : List ℕ) × IsWaitRest i rest × (new ≡ appended old rest)
bound_written i bound old new b (lines, h, e) = (concat lines, (bound, lines, b, h, refl), e)

bound_front : (i : Instance) (bound : ℤ) (old new : Written) → wait_and_see_of i.run ≡ Some bound → WritesBoundFront i bound old new → (rest : List ℕ) × IsWaitRest i rest × AppendsFront old new rest
bound_front i bound old new b (lines, h, front) = (concat lines, (bound, lines, b, h, refl), front)

pub bound_cut : (i : Instance) (bound : ℤ) (old new : Written) (s : Status) → wait_and_see_of i.run ≡ Some bound → CutsBound i bound old new s → WritesRest Wait i old new s
bound_cut i bound old new (status.WriteFault faults) b front = bound_front i bound old new b front
bound_cut i bound old new status.Memory b (inl same) = inl same
bound_cut i bound old new status.Memory b (inr front) = inr (bound_front i bound old new b front)
bound_cut i bound old new status.Done b never = absurd never
bound_cut i bound old new status.Words b never = absurd never
bound_cut i bound old new (status.Input fault) b never = absurd never
bound_cut i bound old new (status.Infeasible scenario) b never = absurd never
bound_cut i bound old new (status.Spent scenario opened) b never = absurd never
bound_cut i bound old new (status.Wide reach) b never = absurd never
bound_cut i bound old new (status.ReadFault faults) b never = absurd never

-- how `drive` ends where the lines of its log were put, and where they were cut
pub log_written : {U : Type 0} (i : Instance) (log : Log) (old new : Written) (u : U) → IsRun i.run log → IsDriven i.run i.schedule.turns log → PutsLog i.run log old new (Ok u) →
    (rest : List ℕ) × IsDriveRest i rest × (new ≡ appended old rest)
log_written i log old new u run driven (lines, h, e) = (concat lines, (log, lines, run, driven, h, refl), e)

pub log_cut : (U : Type 0) (i : Instance) (log : Log) (old new : Written) (s : Status) → IsRun i.run log → IsDriven i.run i.schedule.turns log → PutsLog {U = U} i.run log old new (Err s) → WritesRest Drive i old new s
log_cut U i log old new (status.WriteFault faults) run driven (lines, h, front) = (concat lines, (log, lines, run, driven, h, refl), front)
log_cut U i log old new status.Memory run driven (lines, h, front) = inr (concat lines, (log, lines, run, driven, h, refl), front)
log_cut U i log old new status.Done run driven (lines, h, never) = absurd never
log_cut U i log old new status.Words run driven (lines, h, never) = absurd never
log_cut U i log old new (status.Input fault) run driven (lines, h, never) = absurd never
log_cut U i log old new (status.Infeasible scenario) run driven (lines, h, never) = absurd never
log_cut U i log old new (status.Spent scenario opened) run driven (lines, h, never) = absurd never
log_cut U i log old new (status.Wide reach) run driven (lines, h, never) = absurd never
log_cut U i log old new (status.ReadFault faults) run driven (lines, h, never) = absurd never

-- the heading and what was written behind it
pub text_written : (action : Action) (i : Instance) (old mid new : Written) (s : Status) → mid ≡ appended old (heading_text i) → WritesRest action i mid new s → Writes action i old new s
text_written action i old mid new status.Done begun (rest, is, e) = (heading_text i ++ rest, (rest, is, refl), appended_twice old mid new (heading_text i) rest begun e)
text_written action i old mid new (status.Infeasible scenario) begun (a, first, e) = (a, first, e ∙ begun)
text_written action i old mid new (status.Spent scenario opened) begun (a, spent, e) = (a, spent, e ∙ begun)
text_written action i old mid new (status.WriteFault faults) begun (rest, is, front) = inr (heading_text i ++ rest, (rest, is, refl), front_after old mid new (heading_text i) rest begun front)
text_written action i old mid new status.Memory begun (inl same) = subst (WritesFront action i old) (sym same) (inl (front_whole old mid (heading_text i) begun))
text_written action i old mid new status.Memory begun (inr (rest, is, front)) = inr (heading_text i ++ rest, (rest, is, refl), front_after old mid new (heading_text i) rest begun front)
text_written action i old mid new status.Words begun never = absurd never
text_written action i old mid new (status.Input fault) begun never = absurd never
text_written action i old mid new (status.Wide reach) begun never = absurd never
text_written action i old mid new (status.ReadFault faults) begun never = absurd never

-- the heading alone, cut
pub heading_cut : (action : Action) (i : Instance) (old new : Written) (s : Status) → CutsText (heading_text i) old new s → Writes action i old new s
heading_cut action i old new (status.WriteFault faults) front = inl front
heading_cut action i old new status.Memory front = inl front
heading_cut action i old new status.Done never = absurd never
heading_cut action i old new status.Words never = absurd never
heading_cut action i old new (status.Input fault) never = absurd never
heading_cut action i old new (status.Infeasible scenario) never = absurd never
heading_cut action i old new (status.Spent scenario opened) never = absurd never
heading_cut action i old new (status.Wide reach) never = absurd never
heading_cut action i old new (status.ReadFault faults) never = absurd never
