use Rattle.std.proofs.Common.{◌≡◌}
use Rattle.window_words.specs.Seating.{dealing_view}
use Rattle.table_board.specs.Tables.{seated}
use Rattle.table_board.proofs.Tabling.{owners}
use Rattle.table_board.proofs.table.TableBoard.deal_all.Given as goal

abbrev pub invariant-loop-window : goal.invariant-loop-window
invariant-loop-window g l = record {
  hub : l.hub ≡ seated l.self.0 l.self.1 (dealing_view (g.M.Meaning.count l.self.1) l.window);
  owners : l.seats.items ≡ owners l.self.0 l.self.1 (g.M.Meaning.count l.self.1) l.window;
}
