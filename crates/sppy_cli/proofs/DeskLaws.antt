-- What the top call answers, from what the loads gave and what was written.
use Rattle.std.proofs.Common.{◌≡◌, inl, inr, ℕ, Option, Some, None, refl, sym, subst}
use Rattle.io_edge.specs.Faults.{CountsTo}
use Rattle.io_edge.specs.Shelves.{FileTable}
use Rattle.run_words.specs.Words.{Request}
use Rattle.run_words.specs.declared.command.Action.{Action}
use Rattle.sppy_cli.specs.Causes.{IsInstanceOf}
use Rattle.sppy_cli.specs.Desk.{Answers, HasNoInstance}
use Rattle.sppy_cli.specs.InTurn.{LoadsAll, LoadsInTurn, LoadsNames}
use Rattle.sppy_cli.specs.Statuses.{write_fault_of}
use Rattle.sppy_cli.specs.Texts.{Writes}
use Rattle.sppy_cli.specs.declared.instance.Instance.{Instance}
use Rattle.sppy_cli.specs.declared.status.Status.{Status}
use Rattle.sppy_cli.specs.declared.status.Status.TheVariants as status
use Rattle.sppy_cli.proofs.Turns.{Names, all_to_some}
use Rattle.sppy_cli.proofs.TextLaws.{Written}

-- the answers of a request with an instance, and of one without
pub answers_from_run : (files : Option FileTable) (asked : Option Request) (request : Request) (i : Instance) (old new : Written) (s : Status) → asked ≡ Some request → IsInstanceOf files request i → Writes request.action i old new s → Answers files asked old new s
answers_from_run files asked request i old new s e is wrote =
    subst (λ asked. Answers files asked old new s) (sym e) (inl (i, is, wrote))

pub answers_from_none : (files : Option FileTable) (asked : Option Request) (request : Request) (old : Written) (s : Status) → asked ≡ Some request → HasNoInstance files request s → Answers files asked old old s
answers_from_none files asked request old s e never =
    subst (λ asked. Answers files asked old old s) (sym e) (inr (never, refl))

in_turn : (files : Option FileTable) (request : Request) (action : Action) (i : Instance) (old new : Written) (before after : Names) (s : Status) → LoadsAll files request before after → Writes action i old new s → LoadsInTurn files request before after s
in_turn files request action i old new before after status.Done loaded wrote = loaded
in_turn files request action i old new before after (status.Infeasible scenario) loaded wrote = loaded
in_turn files request action i old new before after (status.Spent scenario opened) loaded wrote = loaded
in_turn files request action i old new before after (status.WriteFault faults) loaded wrote = loaded
in_turn files request action i old new before after status.Memory loaded wrote = inr (all_to_some files request before after loaded)
in_turn files request action i old new before after status.Words loaded never = absurd never
in_turn files request action i old new before after (status.Input fault) loaded never = absurd never
in_turn files request action i old new before after (status.Wide reach) loaded never = absurd never
in_turn files request action i old new before after (status.ReadFault faults) loaded never = absurd never

-- the loads of a request with an instance, and of one without
pub names_from_run : (files : Option FileTable) (asked : Option Request) (request : Request) (i : Instance) (old new : Written) (before after : Names) (s : Status) → asked ≡ Some request → LoadsAll files request before after → Writes request.action i old new s → LoadsNames files asked before after s
names_from_run files asked request i old new before after s e loaded wrote =
    subst (λ asked. LoadsNames files asked before after s) (sym e) (in_turn files request request.action i old new before after s loaded wrote)

pub names_from_none : (files : Option FileTable) (asked : Option Request) (request : Request) (before after : Names) (s : Status) → asked ≡ Some request → LoadsInTurn files request before after s → LoadsNames files asked before after s
names_from_none files asked request before after s e turn =
    subst (λ asked. LoadsNames files asked before after s) (sym e) turn

-- no fault is reported of the shelf where there is an instance, nor of the sink where there is none
pub reads_kept : (before after : ℕ) (reported : Option ℕ) → CountsTo before after None → reported ≡ None → CountsTo before after reported
reads_kept before after reported same none = subst (CountsTo before after) (sym none) same

pub writes_kept : (files : Option FileTable) (request : Request) (count : ℕ) (s : Status) → HasNoInstance files request s → CountsTo count count (write_fault_of s)
writes_kept files request count (status.WriteFault faults) never = absurd never
writes_kept files request count status.Done never = (refl, tt)
writes_kept files request count status.Words never = (refl, tt)
writes_kept files request count (status.Input fault) never = (refl, tt)
writes_kept files request count (status.Infeasible scenario) never = (refl, tt)
writes_kept files request count (status.Spent scenario opened) never = (refl, tt)
writes_kept files request count (status.Wide reach) never = (refl, tt)
writes_kept files request count (status.ReadFault faults) never = (refl, tt)
writes_kept files request count status.Memory never = (refl, tt)
