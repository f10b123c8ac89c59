use Rattle.std.proofs.Common.{ℕ, subst, sym, ap, ◌∙◌}
use Rattle.window_words.specs.Views.{gained}
use Rattle.window_words.specs.Conditions.{IsEntryWhole}
use Rattle.window_words.specs.declared.views.Call.TheVariants as call
use Rattle.stamped_read.proofs.Standing.{begin_stands, end_tells, read_stands, some_left}
use Rattle.stamped_read.proofs.puts.StampedReader.step.Goals as goal

pub returns-then-not-is_begun-clause-reads : goal.returns-then-not-is_begun-clause-reads
returns-then-not-is_begun-clause-reads g c =
    let knows = c.begin_read-stamp.ensures.view ∙ ap (λ (w : ℕ). gained (call.Begin w) c.begin_read-stamp.result (g.B.Board.view c.args.board.now)) c.window-window.ensures.window in
    begin_stands _ _ _ _ _ _ _ _ c.requires c.window-window.ensures.facts knows c.begin.ensures.next

pub returns-then-is_full-clause-whole : goal.returns-then-is_full-clause-whole
returns-then-is_full-clause-whole g c =
    let whole = subst (λ (w : ℕ). IsEntryWhole g.B.Of.Meaning.entry g.B.Of.Meaning.last (g.B.Board.of c.args.board.now) (g.B.Board.view c.args.board.now) w c.end_read-stamp.result) c.window-window.ensures.window c.end_read-stamp.ensures.whole in
    end_tells _ _ _ _ _ _ _ _ _ c.requires c.window-window.ensures.facts (sym c.is_begun.ensures ∙ c.if-not-is_begun.false) whole c.end.ensures.next c.end.ensures.told

pub returns-else-is_full-clause-reads : goal.returns-else-is_full-clause-reads
returns-else-is_full-clause-reads g c =
    let left = some_left c.is_full.result _ c.is_full.ensures.1 c.if-is_full.false in
    read_stands _ _ _ _ _ _ _ _ c.requires c.window-window.ensures.facts (sym c.is_begun.ensures ∙ c.if-not-is_begun.false) left c.read_word-word.ensures.view c.take.ensures
