-- How a text is put, and what of it stands written where it was cut.
use Rattle.std.specs.Prelude.{◌≡◌, ℕ, List, Option, Some, None, Result, Ok, Err}
use Rattle.std.specs.List.{concat}
use Rattle.io_edge.specs.Sinks.{AppendsFront, appended}
use Rattle.run_log.specs.declared.log.Log.{Log}
use Rattle.run_text.specs.Bodies.{IsBody}
use Rattle.run_text.specs.declared.fault.TextFault.{TextFault}
use Rattle.run_text.specs.declared.fault.TextFault.TheVariants as text
use Rattle.sp_model.specs.declared.run.Run.{Run}

-- the fault that a writer reports: a put that failed, and not want of memory
abbrev pub text_fault : {U : Type 0} → Result U TextFault → Option TextFault
text_fault (Ok _) = None
text_fault (Err text.Failed) = Some text.Failed
text_fault (Err text.Memory) = None

-- a text was put whole, or a front of it where a put failed or memory was refused
abbrev pub PutsText : {U : Type 0} → List ℕ → Option (List ℕ) → Option (List ℕ)
    → Result U TextFault → Type 0
PutsText text old new (Ok _) = new ≡ appended old text
PutsText text old new (Err fault) = AppendsFront old new text

-- the same of the text of a run
abbrev pub PutsBody : {U : Type 0} → Run → Log → Option (List ℕ) → Option (List ℕ)
    → Result U TextFault → Type 0
PutsBody run log old new result =
    (lines : List (List ℕ)) × IsBody run log lines × PutsText (concat lines) old new result
