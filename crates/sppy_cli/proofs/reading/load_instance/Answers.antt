use Rattle.std.proofs.Common.{◌∙◌, ap, subst, sym, Ok, Err}
use Rattle.io_edge.specs.Faults.{CountsTo}
use Rattle.run_words.specs.Words.{request_of}
use Rattle.sp_model.specs.declared.program.Options.{Options}
use Rattle.sppy_cli.specs.Loads.{LoadsSchedule, load_fault_of}
use Rattle.sppy_cli.specs.Statuses.{read_fault_of}
use Rattle.sppy_cli.specs.declared.instance.Instance.{Instance}
use Rattle.sppy_cli.specs.declared.status.InputFile.TheVariants as file
use Rattle.sppy_cli.proofs.Turns.{every_file_loaded, fault_told, instance_is, no_schedule, none_is, run_refused, refused_turn, schedule_ends, turn_is}
use Rattle.sppy_cli.proofs.reading.load_instance.Goals as goal

-- no run
pub returns-in-Err-run_of-clause-gives : goal.returns-in-Err-run_of-clause-gives
returns-in-Err-run_of-clause-gives g c =
    run_refused (g.S.Shelf.files c.args.shelf.now) (request_of c.args.command.now) c.in-Ok.triple c.in-Err-run_of.status c.in-Ok.ensures.gives c.in-Err-run_of.ensures.gives

pub returns-in-Err-run_of-clause-names : goal.returns-in-Err-run_of-clause-names
returns-in-Err-run_of-clause-names g c =
    refused_turn (g.S.Shelf.files c.args.shelf.now) (request_of c.args.command.now) c.in-Ok.triple (g.S.Shelf.names c.args.shelf.now) (g.S.Shelf.names c.load_files.new.shelf) c.in-Err-run_of.status c.in-Ok.ensures.names c.in-Err-run_of.ensures.gives

pub returns-in-Err-run_of-clause-count : goal.returns-in-Err-run_of-clause-count
returns-in-Err-run_of-clause-count g c =
    subst (CountsTo (g.S.Shelf.count c.args.shelf.now) (g.S.Shelf.count c.load_files.new.shelf)) (sym c.in-Err-run_of.ensures.read) c.in-Ok.ensures.count

-- an instance
pub returns-in-Ok-load_schedule_if_any-clause-gives : goal.returns-in-Ok-load_schedule_if_any-clause-gives
returns-in-Ok-load_schedule_if_any-clause-gives g c =
    let request = request_of c.args.command.now in
    let i : Instance = record { triple = c.in-Ok.triple; run = c.in-Ok-run_of.run'; schedule = c.in-Ok-load_schedule_if_any.schedule } in
    instance_is (g.S.Shelf.files c.args.shelf.now) request i c.in-Ok.ensures.gives c.in-Ok-run_of.ensures.gives
    (subst (λ files. LoadsSchedule files request.schedule c.in-Ok-run_of.run'.options (Ok c.in-Ok-load_schedule_if_any.schedule)) c.in-Ok.ensures.files c.in-Ok-load_schedule_if_any.ensures.gives)

pub returns-in-Ok-load_schedule_if_any-clause-keeps : goal.returns-in-Ok-load_schedule_if_any-clause-keeps
returns-in-Ok-load_schedule_if_any-clause-keeps g c =
    let joined = c.in-Ok-run_of.ensures.gives in
    record { facts = c.in-Ok.ensures.keeps; crew = c.in-Ok-load_schedule_if_any.ensures.crew; alone = ap (λ (o : Options). o.xhat) joined.options_are ∙ c.requires.alone }

pub returns-in-Ok-load_schedule_if_any-clause-names : goal.returns-in-Ok-load_schedule_if_any-clause-names
returns-in-Ok-load_schedule_if_any-clause-names g c =
    let request = request_of c.args.command.now in
    let i : Instance = record { triple = c.in-Ok.triple; run = c.in-Ok-run_of.run'; schedule = c.in-Ok-load_schedule_if_any.schedule } in
    every_file_loaded (g.S.Shelf.files c.args.shelf.now) request i (g.S.Shelf.names c.args.shelf.now) (g.S.Shelf.names c.load_files.new.shelf) (g.S.Shelf.names c.load_schedule_if_any.new.shelf)
    c.in-Ok.ensures.names c.in-Ok-load_schedule_if_any.ensures.names (returns-in-Ok-load_schedule_if_any-clause-gives g c)

-- a schedule that fails
pub returns-in-Err-load_schedule_if_any-clause-gives : goal.returns-in-Err-load_schedule_if_any-clause-gives
returns-in-Err-load_schedule_if_any-clause-gives g c =
    let files = g.S.Shelf.files c.args.shelf.now in
    let request = request_of c.args.command.now in
    let failure = c.in-Err-load_schedule_if_any.failure in
    let said = subst (λ files. LoadsSchedule files request.schedule c.in-Ok-run_of.run'.options (Err failure)) c.in-Ok.ensures.files c.in-Err-load_schedule_if_any.ensures.gives in
    none_is files request c.status.result _ c.status.ensures (no_schedule files request c.in-Ok.triple c.in-Ok-run_of.run' failure c.in-Ok.ensures.gives c.in-Ok-run_of.ensures.gives said)

pub returns-in-Err-load_schedule_if_any-clause-names : goal.returns-in-Err-load_schedule_if_any-clause-names
returns-in-Err-load_schedule_if_any-clause-names g c =
    let files = g.S.Shelf.files c.args.shelf.now in
    let request = request_of c.args.command.now in
    let failure = c.in-Err-load_schedule_if_any.failure in
    let old = g.S.Shelf.names c.args.shelf.now in
    let mid = g.S.Shelf.names c.load_files.new.shelf in
    let new = g.S.Shelf.names c.load_schedule_if_any.new.shelf in
    let said = subst (λ files. LoadsSchedule files request.schedule c.in-Ok-run_of.run'.options (Err failure)) c.in-Ok.ensures.files c.in-Err-load_schedule_if_any.ensures.gives in
    turn_is files request old new c.status.result _ c.status.ensures
    (schedule_ends files request c.in-Ok.triple c.in-Ok-run_of.run' old mid new failure c.in-Ok.ensures.names c.in-Ok.ensures.gives c.in-Ok-run_of.ensures.gives said c.in-Err-load_schedule_if_any.ensures.names)

pub returns-in-Err-load_schedule_if_any-clause-count : goal.returns-in-Err-load_schedule_if_any-clause-count
returns-in-Err-load_schedule_if_any-clause-count g c =
    let old = g.S.Shelf.count c.args.shelf.now in
    let new = g.S.Shelf.count c.load_schedule_if_any.new.shelf in
    let failure = c.in-Err-load_schedule_if_any.failure in
    subst (CountsTo old new) (sym (ap read_fault_of c.status.ensures ∙ fault_told file.Schedule failure))
    (subst (λ n. CountsTo n new (load_fault_of failure)) c.in-Ok.ensures.count.0 c.in-Err-load_schedule_if_any.ensures.count)
