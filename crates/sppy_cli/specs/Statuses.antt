-- What a status is, as the user sees it and as the other definitions ask it.
use Rattle.std.specs.Prelude.{ℕ, List, [], ◌+◌, ◌++◌, codes, decimal, Option, Some, None, Result, Ok, Err}
use Rattle.sppy_cli.specs.Kinds.{file_word, kind_word}
use Rattle.sppy_cli.specs.declared.status.InputFault.{InputFault}
use Rattle.sppy_cli.specs.declared.status.Status.{Status}
use Rattle.sppy_cli.specs.declared.status.Status.TheVariants as status
use Rattle.text_lines.specs.Lines.{line_of}

-- the exit status; 1 is of no status here
abbrev pub code_of : Status → ℕ
code_of status.Done = 0
code_of status.Words = 2
code_of (status.Input fault) = 3
code_of (status.Infeasible scenario) = 4
code_of (status.Spent scenario opened) = 5
code_of (status.Wide reach) = 6
code_of (status.ReadFault faults) = 7
code_of (status.WriteFault faults) = 8
code_of status.Memory = 9

-- a fault of a file, its line and its kind
abbrev pub fault_text : InputFault → List ℕ
fault_text fault =
    codes "input " ++ file_word fault.file ++ codes " line " ++ decimal fault.line ++ codes " "
    ++ kind_word fault.kind

-- the line on standard error; nothing where all was done. Scenarios are counted from 1
abbrev pub status_line : Status → List ℕ
status_line status.Done = []
status_line status.Words = line_of (codes "sppy: words")
status_line (status.Input fault) = line_of (codes "sppy: " ++ fault_text fault)
status_line (status.Infeasible scenario) =
    line_of (codes "sppy: infeasible " ++ decimal (scenario + 1))
status_line (status.Spent scenario opened) = line_of
    (codes "sppy: spent " ++ decimal (scenario + 1) ++ codes " opened " ++ decimal opened)
status_line (status.Wide reach) = line_of (codes "sppy: wide " ++ decimal reach)
status_line (status.ReadFault faults) = line_of (codes "sppy: read fault " ++ decimal faults)
status_line (status.WriteFault faults) = line_of (codes "sppy: write fault " ++ decimal faults)
status_line status.Memory = line_of (codes "sppy: memory")

-- the count of faults that a read fault reports; no other status reports one
abbrev pub read_fault_of : Status → Option ℕ
read_fault_of (status.ReadFault faults) = Some faults
read_fault_of _ = None

-- the count of faults that a write fault reports; no other status reports one
abbrev pub write_fault_of : Status → Option ℕ
write_fault_of (status.WriteFault faults) = Some faults
write_fault_of _ = None

-- the count that a call reports where it ends by a fault
abbrev pub reported : {X E : Type 0} → (E → Option ℕ) → Result X E → Option ℕ
reported count_of (Ok x) = None
reported count_of (Err fault) = count_of fault
