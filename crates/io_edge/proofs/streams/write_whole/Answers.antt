use Rattle.std.proofs.Common.{rules, take, drop, subst, sym}
use Rattle.std.proofs.Math.Seq.{take-add}
use Rattle.std.proofs.lemmas.List.{take_rest}
use Rattle.std.proofs.KnownBytes.{Appends-trans}
use Rattle.std.specs.Io.KnownBytes.{Appends}
use Rattle.io_edge.proofs.streams.write_whole.Goals as goal

pub loop-at-preserved : goal.loop-at-preserved
loop-at-preserved g c = record {
  inside = search rules;
  taken =
      let old = g.W.Write.contents c.args.out.now in
      let mid = g.W.Write.contents c.loop-at.out in
      let new = g.W.Write.contents c.write.new.self in
      let more : Appends mid new (take c.in-Ok.len (drop c.loop-at.at c.args.bytes.now)) = simp take_rest at c.in-Ok.ensures.bytes in
      let both = Appends-trans old mid new _ _ c.loop-at.invariant.taken more in
      subst (Appends old new) (sym (take-add c.loop-at.at c.in-Ok.len c.args.bytes.now)) both;
}
