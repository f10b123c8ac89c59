-- The text of an instance, and what of it stands written by the status.
use Rattle.std.specs.Prelude.{◌≡◌, ◌⊎◌, ⊤, ℕ, ℤ, List, ◌++◌, Option, Some, Result, Ok, Err}
use Rattle.std.specs.List.{concat}
use Rattle.io_edge.specs.Sinks.{AppendsFront, appended}
use Rattle.join_words.specs.Framing.{frame_of, joined}
use Rattle.run_words.specs.declared.command.Action.{Action}
use Rattle.run_words.specs.declared.command.Action.TheVariants.{Wait, Show, Drive}
use Rattle.run_log.specs.Runs.{IsRun}
use Rattle.run_log.specs.declared.log.Log.{Log}
use Rattle.run_text.specs.Bodies.{IsBody}
use Rattle.drive_words.specs.Driving.{IsDriven}
use Rattle.sp_model.specs.Problems.{wait_and_see_of}
use Rattle.sp_model.specs.ScenarioPoints.{IsFirstInfeasible}
use Rattle.sp_model.specs.declared.run.Run.{Run}
use Rattle.sppy_cli.specs.declared.instance.Instance.{Instance}
use Rattle.sppy_cli.specs.declared.status.Status.{Status}
use Rattle.sppy_cli.specs.declared.status.Status.TheVariants as status
use Rattle.text_lines.specs.BoundLines.{IsBoundText}
use Rattle.text_lines.specs.Headings.{heading_of, unit_of}
use Rattle.text_lines.specs.ShowLines.{show_lines_of}
use Rattle.wait_and_see.specs.Spending.{IsSpent}

-- the text of the heading
abbrev pub heading_text : Instance → List ℕ
heading_text i = concat (heading_of i.triple.core i.run)

-- the places of the power of ten by which each row was multiplied
abbrev pub row_places_of : Instance → List ℕ
row_places_of i =
    (frame_of
    (joined i.triple.core i.triple.periods i.triple.stoch i.run.options.missing)).row_places

-- the text of `wait` behind the heading: the wait-and-see bound as the first pair and the last
abbrev pub IsWaitRest : Instance → List ℕ → Type 0
IsWaitRest i rest =
    (bound : ℤ) × (lines : List (List ℕ))
    × (wait_and_see_of i.run ≡ Some bound)
    × IsBoundText bound (unit_of i.run) lines
    × (rest ≡ concat lines)

-- the text of `show` behind the heading: columns, rows, and scenarios with the limits of their rows
abbrev pub show_rest : Instance → List ℕ
show_rest i = concat (show_lines_of i.triple.core i.run (row_places_of i))

-- the text of `drive` behind the heading: that of a log which the run may have, and which its
-- schedule gives
abbrev pub IsDriveRest : Instance → List ℕ → Type 0
IsDriveRest i rest =
    (log : Log) × (lines : List (List ℕ))
    × IsRun i.run log
    × IsDriven i.run i.schedule.turns log
    × IsBody i.run log lines
    × (rest ≡ concat lines)

-- the text of a command behind the heading
abbrev pub IsRest : Action → Instance → List ℕ → Type 0
IsRest Wait i rest = IsWaitRest i rest
IsRest Show i rest = rest ≡ show_rest i
IsRest Drive i rest = IsDriveRest i rest

-- a command that solves each scenario for its first pair of bounds
abbrev pub Solves : Action → Type 0
Solves Wait = ⊤
Solves Show = ⊥
Solves Drive = ⊤

-- the whole text of a command
abbrev pub IsText : Action → Instance → List ℕ → Type 0
IsText action i text = (rest : List ℕ) × IsRest action i rest × (text ≡ heading_text i ++ rest)

-- a front of the text was written: of the heading, or, where the command has a text, of the whole
abbrev pub WritesFront : Action → Instance → Option (List ℕ) → Option (List ℕ) → Type 0
WritesFront action i old new =
    AppendsFront old new (heading_text i)
    ⊎ ((text : List ℕ) × IsText action i text × AppendsFront old new text)

-- how a command ends that has its run, and what of its text was written then
abbrev pub Writes : Action → Instance → Option (List ℕ) → Option (List ℕ) → Status → Type 0
Writes action i old new status.Done =
    (text : List ℕ) × IsText action i text × (new ≡ appended old text)
Writes action i old new (status.Infeasible scenario) =
    Solves action × IsFirstInfeasible i.run scenario × (new ≡ appended old (heading_text i))
Writes action i old new (status.Spent scenario opened) =
    Solves action × IsSpent i.run scenario opened × (new ≡ appended old (heading_text i))
Writes action i old new (status.WriteFault faults) = WritesFront action i old new
Writes action i old new status.Memory = WritesFront action i old new
Writes action i old new _ = ⊥

-- a text was cut where a put failed or memory was refused: a front of it was written
abbrev pub CutsText : List ℕ → Option (List ℕ) → Option (List ℕ) → Status → Type 0
CutsText text old new (status.WriteFault faults) = AppendsFront old new text
CutsText text old new status.Memory = AppendsFront old new text
CutsText text old new _ = ⊥

-- a text was put, or cut
abbrev pub PutsText : {U : Type 0} → List ℕ → Option (List ℕ) → Option (List ℕ) → Result U Status
    → Type 0
PutsText text old new (Ok _) = new ≡ appended old text
PutsText text old new (Err status) = CutsText text old new status

-- how the rest of a text ends: it was put whole; a front of it was put, or nothing; or nothing, for
-- this reason
abbrev pub WritesRest : Action → Instance → Option (List ℕ) → Option (List ℕ) → Status → Type 0
WritesRest action i old new status.Done =
    (rest : List ℕ) × IsRest action i rest × (new ≡ appended old rest)
WritesRest action i old new (status.Infeasible scenario) =
    Solves action × IsFirstInfeasible i.run scenario × (new ≡ old)
WritesRest action i old new (status.Spent scenario opened) =
    Solves action × IsSpent i.run scenario opened × (new ≡ old)
WritesRest action i old new (status.WriteFault faults) =
    (rest : List ℕ) × IsRest action i rest × AppendsFront old new rest
WritesRest action i old new status.Memory =
    (new ≡ old) ⊎ ((rest : List ℕ) × IsRest action i rest × AppendsFront old new rest)
WritesRest action i old new _ = ⊥

-- a front of the lines of a bound was written
abbrev pub WritesBoundFront : Instance → ℤ → Option (List ℕ) → Option (List ℕ) → Type 0
WritesBoundFront i bound old new =
    (lines : List (List ℕ)) × IsBoundText bound (unit_of i.run) lines
    × AppendsFront old new (concat lines)

-- the lines of a bound were cut so; none of them was put where there was no memory to make them
abbrev pub CutsBound : Instance → ℤ → Option (List ℕ) → Option (List ℕ) → Status → Type 0
CutsBound i bound old new (status.WriteFault faults) = WritesBoundFront i bound old new
CutsBound i bound old new status.Memory = (new ≡ old) ⊎ WritesBoundFront i bound old new
CutsBound i bound old new _ = ⊥

-- the lines of a bound were put, or cut
abbrev pub PutsBound : {U : Type 0} → Instance → ℤ → Option (List ℕ) → Option (List ℕ)
    → Result U Status → Type 0
PutsBound i bound old new (Ok _) =
    (lines : List (List ℕ)) × IsBoundText bound (unit_of i.run) lines
    × (new ≡ appended old (concat lines))
PutsBound i bound old new (Err status) = CutsBound i bound old new status

-- the lines of a log were put, or cut
abbrev pub PutsLog : {U : Type 0} → Run → Log → Option (List ℕ) → Option (List ℕ)
    → Result U Status → Type 0
PutsLog run log old new result =
    (lines : List (List ℕ)) × IsBody run log lines × PutsText (concat lines) old new result
