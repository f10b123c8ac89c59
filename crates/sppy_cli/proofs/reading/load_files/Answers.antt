use Rattle.std.proofs.Common.{◌∙◌, ap, inr, sym, subst, Ok, Err}
use Rattle.io_edge.specs.Faults.{CountsTo}
use Rattle.run_words.specs.Words.{request_of}
use Rattle.sppy_cli.specs.Files.{ShowsPeriods, ShowsStoch, stoch_file, time_file}
use Rattle.sppy_cli.specs.Loads.{Loads, load_fault_of}
use Rattle.sppy_cli.specs.Statuses.{read_fault_of}
use Rattle.sppy_cli.specs.declared.status.InputFile.TheVariants as file
use Rattle.sppy_cli.proofs.Turns.{all_loaded, all_read, core_loaded, fault_told, no_stoch, no_time, none_is, stoch_loaded, time_loaded, turn_ends, turn_is}
use Rattle.sppy_cli.proofs.reading.load_files.Goals as goal

-- what was loaded before a file, and what its load adds
pub returns-in-Err-load_time-clause-names : goal.returns-in-Err-load_time-clause-names
returns-in-Err-load_time-clause-names g c =
    let files = g.S.Shelf.files c.args.shelf.now in
    let request = request_of c.args.command.now in
    let old = g.S.Shelf.names c.args.shelf.now in
    let mid = g.S.Shelf.names c.load_core.new.shelf in
    let new = g.S.Shelf.names c.load_time.new.shelf in
    turn_is files request old new c.status-in-Err-load_time.result _ c.status-in-Err-load_time.ensures
    (turn_ends files request file.Time request.time old mid new c.in-Err-load_time.failure
    (inr (file.Core, core_loaded files request old mid c.in-Ok.ensures.names))
    (time_loaded files request c.in-Ok.core old mid new c.in-Ok.ensures.names c.in-Ok.ensures.gives)
    c.in-Err-load_time.ensures.names)

pub returns-in-Err-load_stoch-clause-names : goal.returns-in-Err-load_stoch-clause-names
returns-in-Err-load_stoch-clause-names g c =
    let files = g.S.Shelf.files c.args.shelf.now in
    let request = request_of c.args.command.now in
    let old = g.S.Shelf.names c.args.shelf.now in
    let first = g.S.Shelf.names c.load_core.new.shelf in
    let mid = g.S.Shelf.names c.load_time.new.shelf in
    let new = g.S.Shelf.names c.load_stoch.new.shelf in
    let periods = subst (λ files. Loads (time_file c.in-Ok.core) ShowsPeriods files request.time (Ok c.in-Ok-load_time.periods)) c.in-Ok.ensures.files c.in-Ok-load_time.ensures.gives in
    turn_is files request old new c.status-in-Err-load_stoch.result _ c.status-in-Err-load_stoch.ensures
    (turn_ends files request file.Stoch request.stoch old mid new c.in-Err-load_stoch.failure
    (inr (file.Time, time_loaded files request c.in-Ok.core old first mid c.in-Ok.ensures.names c.in-Ok.ensures.gives c.in-Ok-load_time.ensures.names))
    (stoch_loaded files request c.in-Ok.core c.in-Ok-load_time.periods old first mid new c.in-Ok.ensures.names c.in-Ok-load_time.ensures.names c.in-Ok.ensures.gives periods)
    c.in-Err-load_stoch.ensures.names)

pub returns-in-Ok-load_stoch-clause-gives : goal.returns-in-Ok-load_stoch-clause-gives
returns-in-Ok-load_stoch-clause-gives g c =
    let files = g.S.Shelf.files c.args.shelf.now in
    let request = request_of c.args.command.now in
    let periods = subst (λ files. Loads (time_file c.in-Ok.core) ShowsPeriods files request.time (Ok c.in-Ok-load_time.periods)) c.in-Ok.ensures.files c.in-Ok-load_time.ensures.gives in
    let stoch = subst (λ files. Loads (stoch_file c.in-Ok.core c.in-Ok-load_time.periods) ShowsStoch files request.stoch (Ok c.in-Ok-load_stoch.stoch)) c.in-Ok.ensures.files
    (subst (λ files. Loads (stoch_file c.in-Ok.core c.in-Ok-load_time.periods) ShowsStoch files request.stoch (Ok c.in-Ok-load_stoch.stoch)) c.in-Ok-load_time.ensures.files c.in-Ok-load_stoch.ensures.gives) in
    all_read files request (record { core = c.in-Ok.core; periods = c.in-Ok-load_time.periods; stoch = c.in-Ok-load_stoch.stoch }) c.in-Ok.ensures.gives periods stoch

pub returns-in-Ok-load_stoch-clause-names : goal.returns-in-Ok-load_stoch-clause-names
returns-in-Ok-load_stoch-clause-names g c =
    let files = g.S.Shelf.files c.args.shelf.now in
    let request = request_of c.args.command.now in
    all_loaded files request (record { core = c.in-Ok.core; periods = c.in-Ok-load_time.periods; stoch = c.in-Ok-load_stoch.stoch }) (g.S.Shelf.names c.args.shelf.now) (g.S.Shelf.names c.load_core.new.shelf) (g.S.Shelf.names c.load_time.new.shelf) (g.S.Shelf.names c.load_stoch.new.shelf)
    c.in-Ok.ensures.names c.in-Ok-load_time.ensures.names (returns-in-Ok-load_stoch-clause-gives g c) c.in-Ok-load_stoch.ensures.names

pub returns-in-Err-load_time-clause-gives : goal.returns-in-Err-load_time-clause-gives
returns-in-Err-load_time-clause-gives g c =
    let files = g.S.Shelf.files c.args.shelf.now in
    let request = request_of c.args.command.now in
    let periods = subst (λ files. Loads (time_file c.in-Ok.core) ShowsPeriods files request.time (Err c.in-Err-load_time.failure)) c.in-Ok.ensures.files c.in-Err-load_time.ensures.gives in
    none_is files request c.status-in-Err-load_time.result _ c.status-in-Err-load_time.ensures (no_time files request c.in-Ok.core c.in-Err-load_time.failure c.in-Ok.ensures.gives periods)

pub returns-in-Err-load_stoch-clause-gives : goal.returns-in-Err-load_stoch-clause-gives
returns-in-Err-load_stoch-clause-gives g c =
    let files = g.S.Shelf.files c.args.shelf.now in
    let request = request_of c.args.command.now in
    let core = c.in-Ok.core in
    let periods = c.in-Ok-load_time.periods in
    let failure = c.in-Err-load_stoch.failure in
    let times = subst (λ files. Loads (time_file core) ShowsPeriods files request.time (Ok periods)) c.in-Ok.ensures.files c.in-Ok-load_time.ensures.gives in
    let stochs = subst (λ files. Loads (stoch_file core periods) ShowsStoch files request.stoch (Err failure)) c.in-Ok.ensures.files
    (subst (λ files. Loads (stoch_file core periods) ShowsStoch files request.stoch (Err failure)) c.in-Ok-load_time.ensures.files c.in-Err-load_stoch.ensures.gives) in
    none_is files request c.status-in-Err-load_stoch.result _ c.status-in-Err-load_stoch.ensures (no_stoch files request core periods failure c.in-Ok.ensures.gives times stochs)

pub returns-in-Err-load_stoch-clause-count : goal.returns-in-Err-load_stoch-clause-count
returns-in-Err-load_stoch-clause-count g c =
    let old = g.S.Shelf.count c.args.shelf.now in
    let new = g.S.Shelf.count c.load_stoch.new.shelf in
    let failure = c.in-Err-load_stoch.failure in
    let same = c.in-Ok-load_time.ensures.count.0 ∙ c.in-Ok.ensures.count.0 in
    subst (CountsTo old new) (sym (ap read_fault_of c.status-in-Err-load_stoch.ensures ∙ fault_told file.Stoch failure))
    (subst (λ n. CountsTo n new (load_fault_of failure)) same c.in-Err-load_stoch.ensures.count)
