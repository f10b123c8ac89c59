use Rattle.std.proofs.Common.{◌≡◌, sym, subst}
use Rattle.atomic_table.specs.Seated.{TableId}
use Rattle.std.specs.Prelude.{IfOk}
use Rattle.table_board.specs.Tables.{IsFirst, all_seats}
use Rattle.table_board.proofs.table.TableBoard.seats.Goals as goal

pub deal_all-requires : goal.deal_all-requires
deal_all-requires g c = record {
  given = c.take_hub-hub.ensures.given;
  first = subst (λ (z : TableId × g.row.M.Denot). IsFirst z.0 z.1 (g.M.Meaning.count z.1) c.take_hub-hub.result) (λ i. (sym c.take_hub-hub.ensures.same.0 i, sym c.take_hub-hub.ensures.same.1 i)) c.take_hub-hub.ensures.first;
}

pub returns : goal.returns
returns g c = subst (λ (z : TableId × g.row.M.Denot). IfOk c.deal_all.result (λ seats. seats ≡ all_seats z.0 z.1 (g.M.Meaning.count z.1))) (λ i. (c.take_hub-hub.ensures.same.0 i, c.take_hub-hub.ensures.same.1 i)) c.deal_all.ensures
