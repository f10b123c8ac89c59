use Rattle.std.proofs.Common.{sym, subst, ◌++◌, List, ℕ}
use Rattle.std.specs.List.{concat}
use Rattle.sppy_cli.specs.Texts.{CutsText, PutsText, row_places_of}
use Rattle.sppy_cli.proofs.TextLaws.{cut_after, cut_before, put_after, show_is}
use Rattle.sppy_cli.proofs.showing.put_show.Goals as goal
use Rattle.text_lines.specs.ShowLines.{all_scenario_lines, column_lines_of, row_lines_of}

pub returns-clause-text : goal.returns-clause-text
returns-clause-text g c =
    let i = c.args.instance.now in
    let columns = concat (column_lines_of i.triple.core i.run) in
    let rows = concat (row_lines_of i.triple.core i.run (row_places_of i)) in
    let scenarios = concat (all_scenario_lines i.triple.core i.run) in
    let old = g.K.Sink.written c.args.out.now in
    let first = g.K.Sink.written c.put_columns.new.out in
    let second = g.K.Sink.written c.put_rows.new.out in
    let new = g.K.Sink.written c.put_scenarios.new.out in
    subst (λ (text : List ℕ). PutsText text old new c.put_scenarios.result) (sym (show_is i))
    (put_after columns (rows ++ scenarios) old first new c.put_scenarios.result c.in-Ok.ensures.text
    (put_after rows scenarios first second new c.put_scenarios.result c.in-Ok-put_rows.ensures.text c.put_scenarios.ensures.text))

pub returns-in-Err-clause-text : goal.returns-in-Err-clause-text
returns-in-Err-clause-text g c =
    let i = c.args.instance.now in
    let columns = concat (column_lines_of i.triple.core i.run) in
    let rows = concat (row_lines_of i.triple.core i.run (row_places_of i)) in
    let scenarios = concat (all_scenario_lines i.triple.core i.run) in
    let old = g.K.Sink.written c.args.out.now in
    let first = g.K.Sink.written c.put_columns.new.out in
    subst (λ (text : List ℕ). CutsText text old first c.in-Err.status) (sym (show_is i))
    (cut_before columns (rows ++ scenarios) old first c.in-Err.status c.in-Err.ensures.text)

pub returns-in-Err-put_rows-clause-text : goal.returns-in-Err-put_rows-clause-text
returns-in-Err-put_rows-clause-text g c =
    let i = c.args.instance.now in
    let columns = concat (column_lines_of i.triple.core i.run) in
    let rows = concat (row_lines_of i.triple.core i.run (row_places_of i)) in
    let scenarios = concat (all_scenario_lines i.triple.core i.run) in
    let old = g.K.Sink.written c.args.out.now in
    let first = g.K.Sink.written c.put_columns.new.out in
    let second = g.K.Sink.written c.put_rows.new.out in
    subst (λ (text : List ℕ). CutsText text old second c.in-Err-put_rows.status) (sym (show_is i))
    (cut_after columns (rows ++ scenarios) old first second c.in-Err-put_rows.status c.in-Ok.ensures.text
    (cut_before rows scenarios first second c.in-Err-put_rows.status c.in-Err-put_rows.ensures.text))
