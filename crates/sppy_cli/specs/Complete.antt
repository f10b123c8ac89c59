-- Which status must come: where the files make an instance and no fault is counted, and where there
-- is a cause why they make none.
use Rattle.std.specs.Prelude.{◌≡◌, ℕ, Option, Some, IfSome}
use Rattle.io_edge.specs.Faults.{Rises}
use Rattle.io_edge.specs.Shelves.{FileTable}
use Rattle.run_words.specs.Words.{Request}
use Rattle.run_words.specs.declared.command.Action.{Action}
use Rattle.sp_model.specs.declared.run.Run.{Run}
use Rattle.sp_model.specs.ScenarioPoints.{IsFirstInfeasible}
use Rattle.sppy_cli.specs.Causes.{IsCause, IsInstanceOf}
use Rattle.sppy_cli.specs.Texts.{Solves}
use Rattle.sppy_cli.specs.declared.instance.Instance.{Instance}
use Rattle.sppy_cli.specs.declared.status.Status.{Status}
use Rattle.sppy_cli.specs.declared.status.Status.TheVariants as status
use Rattle.wait_and_see.specs.Spending.{IsSpent}
use Rattle.wait_and_see.specs.WaitAnswers.{AllHavePoints}

-- a count of faults doesn't rise
abbrev pub IsCalm : ℕ → ℕ → Type 0
IsCalm before after = Rises before after → ⊥

-- how a command ends by its run alone: it is done, and where it solves, each scenario has a
-- feasible point then; or it solves, and this scenario is the first one without a feasible
-- point, or used up its budget before one was met; want of memory is free
abbrev pub EndsBy : Action → Run → Status → Type 0
EndsBy action run status.Done = Solves action → AllHavePoints run
EndsBy action run (status.Infeasible scenario) = Solves action × IsFirstInfeasible run scenario
EndsBy action run (status.Spent scenario opened) = Solves action × IsSpent run scenario opened
EndsBy action run status.Memory = Unit {0}
EndsBy action run _ = ⊥

-- a request with an instance ends by its run
abbrev pub EndsByRun : FileTable → Request → Status → Type 0
EndsByRun table request status = (instance : Instance) × IsInstanceOf (Some table) request instance
    × EndsBy request.action instance.run status

-- where the files make an instance, and neither the shelf's count nor the sink's rises, the command
-- ends by its run
abbrev pub CompletesIn : FileTable → Request → ℕ → ℕ → ℕ → ℕ → Status → Type 0
CompletesIn table request read read_after written written_after status =
    (instance : Instance) → IsInstanceOf (Some table) request instance → IsCalm read read_after
    → IsCalm written written_after → EndsByRun table request status

-- the same where the files are told and the words are well formed
abbrev pub Completes : Option FileTable → Option Request → ℕ → ℕ → ℕ → ℕ → Status → Type 0
Completes files asked read read_after written written_after status =
    IfSome files (λ table. IfSome asked
    (λ request. CompletesIn table request read read_after written written_after status))

-- what a cause leaves: its own status, unless a load failed or memory was refused
abbrev pub EndsByCause : Status → Status → Type 0
EndsByCause cause (status.ReadFault faults) = Unit {0}
EndsByCause cause status.Memory = Unit {0}
EndsByCause cause status = status ≡ cause

-- a cause why there is no instance is answered as it is
abbrev pub RefusesIn : FileTable → Request → Status → Type 0
RefusesIn table request status =
    (cause : Status) → IsCause table request cause → EndsByCause cause status

-- the same where the files are told and the words are well formed
abbrev pub RefusesAsked : Option FileTable → Option Request → Status → Type 0
RefusesAsked files asked status =
    IfSome files (λ table. IfSome asked (λ request. RefusesIn table request status))
