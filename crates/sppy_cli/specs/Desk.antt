-- Why the top call answers a status, and what was written then.
use Rattle.std.specs.Prelude.{◌≡◌, ◌⊎◌, ℕ, List, Option, None, Some, IfSome, Result, Ok, Err}
use Rattle.io_edge.specs.Shelves.{FileTable}
use Rattle.run_words.specs.Words.{Request}
use Rattle.join_words.specs.Joining.{IsJoined, IsRefused, source_of}
use Rattle.join_words.specs.declared.fault.JoinFault.{JoinFault}
use Rattle.sp_model.specs.declared.program.Options.{Options}
use Rattle.sp_model.specs.declared.run.Run.{Run}
use Rattle.sppy_cli.specs.Causes.{AreReadFrom, IsCause, IsInstanceOf, status_of_join}
use Rattle.sppy_cli.specs.Texts.{Writes}
use Rattle.sppy_cli.specs.declared.instance.Triple.{Triple}
use Rattle.sppy_cli.specs.declared.instance.Instance.{Instance}
use Rattle.sppy_cli.specs.declared.status.Status.{Status}
use Rattle.sppy_cli.specs.declared.status.Status.TheVariants as status

-- why a request has no instance: a cause in its files, where these are told; a failed load; or want
-- of memory
abbrev pub HasNoInstance : Option FileTable → Request → Status → Type 0
HasNoInstance files request (status.Input fault) =
    IfSome files (λ table. IsCause table request (status.Input fault))
HasNoInstance files request (status.Wide reach) =
    IfSome files (λ table. IsCause table request (status.Wide reach))
HasNoInstance files request (status.ReadFault faults) = Unit {0}
HasNoInstance files request status.Memory = Unit {0}
HasNoInstance files request _ = ⊥

-- the data of a request's files, or why there is no run
abbrev pub LoadsFiles : Option FileTable → Request → Result Triple Status → Type 0
LoadsFiles files request (Ok triple) = AreReadFrom files request triple
LoadsFiles files request (Err status) = HasNoInstance files request status

-- the run that data make with options, or the status of a refusal
abbrev pub MakesRun : Triple → Options → Result Run Status → Type 0
MakesRun triple options (Ok run) =
    IsJoined (source_of triple.core triple.periods triple.stoch options) options run
MakesRun triple options (Err status) =
    (fault : JoinFault)
    × IsRefused (source_of triple.core triple.periods triple.stoch options) options fault
    × (status ≡ status_of_join fault)

-- the instance of a request, or why there is none
abbrev pub LoadsInstance : Option FileTable → Request → Result Instance Status → Type 0
LoadsInstance files request (Ok instance) = IsInstanceOf files request instance
LoadsInstance files request (Err status) = HasNoInstance files request status

-- a request is answered by its instance, of which the text is written; or there is none, and nothing
-- is written
abbrev pub AnswersRequest : Option FileTable → Request → Option (List ℕ) → Option (List ℕ) → Status
    → Type 0
AnswersRequest files request old new status =
    ((instance : Instance) × IsInstanceOf files request instance
    × Writes request.action instance old new status)
    ⊎ (HasNoInstance files request status × (new ≡ old))

-- nothing is written where the words ask for nothing
abbrev pub Answers : Option FileTable → Option Request → Option (List ℕ) → Option (List ℕ) → Status
    → Type 0
Answers files None old new status = new ≡ old
Answers files (Some request) old new status = AnswersRequest files request old new status
