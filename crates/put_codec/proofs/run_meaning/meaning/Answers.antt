use Rattle.std.proofs.Common.{sym, refl, subst, ◌+◌}
use Rattle.put_codec.specs.Entries.{MeansRun}
use Rattle.put_codec.proofs.Fitting.{run_means}
use Rattle.put_codec.proofs.run_meaning.meaning.Goals as goal

pub invariant_of-result : goal.invariant_of-result
invariant_of-result c = record {
  facts = subst (λ run. MeansRun run c.layout_of.result (c.args.run.now.options.iterations + 1)) (sym c.of.ensures) (run_means c.args.run.now c.layout_of.result (c.args.run.now.options.iterations + 1) c.layout_of.ensures refl c.requires);
}
