use Rattle.std.proofs.Common.{sym, ap, subst, ◌∙◌}
use Rattle.put_codec.specs.declared.run_meaning.RunMeaning.{RunMeaning}
use Rattle.put_read.specs.Reads.{ReadsPuts}
use Rattle.sp_model.specs.declared.run.Run.{Run}
use Rattle.board_tests.proofs.solo.ReadingSeat.step.Goals as goal

pub step-requires : goal.step-requires
step-requires c = subst (λ (r : Run). ReadsPuts r c.self.inside.seat.2 c.self.inside.reader) (sym c.self.invariant.run_is) c.self.invariant.reads

pub invariant_of-self : goal.invariant_of-self
invariant_of-self c = record {
  run_is = ap (λ (m : RunMeaning). m.run.value) c.step.ensures.same ∙ c.self.invariant.run_is;
  reads = subst (λ (r : Run). ReadsPuts r c.step.new.board.2 c.step.new.self) c.self.invariant.run_is c.step.ensures.reads;
}
