use Rattle.std.proofs.Common.{◌≡◌, Bool, true, sym, ap, ◌∙◌, subst}
use Rattle.std.specs.Prelude.{is_some}
use Rattle.atomic_table.specs.Seated.{TableId}
use Rattle.table_board.specs.Tables.{IsFirst}
use Rattle.table_board.proofs.Tabling.{given_out, held}
use Rattle.table_board.proofs.table.TableBoard.take_hub.Goals as goal

pub unwrap-requires : goal.unwrap-requires
unwrap-requires g c = held c.self.inside.hub c.take.result (subst (λ (z : TableId × g.row.M.Denot × Bool). z.2 ≡ true) (sym c.self.view_is) c.requires) c.take.ensures.value

pub invariant_of-self : goal.invariant_of-self
invariant_of-self g c = given_out g.M.Meaning.wide g.M.Meaning.count _ _ _ _ _ _ c.self.invariant c.take.ensures.after

pub returns : goal.returns
returns g c = record {
  same = (ap (λ (z : TableId × g.row.M.Denot × Bool). z.0) c.self.view_is, ap (λ (z : TableId × g.row.M.Denot × Bool). z.1) c.self.view_is);
  given = ap is_some c.take.ensures.after;
  first = subst (λ (z : TableId × g.row.M.Denot × Bool). IsFirst z.0 z.1 (g.M.Meaning.count z.1) c.unwrap.result) c.self.view_is (c.self.invariant.first c.unwrap.result (sym c.take.ensures.value ∙ c.unwrap.ensures));
}
