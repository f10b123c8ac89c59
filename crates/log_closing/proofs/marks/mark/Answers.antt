use Rattle.std.proofs.Common.{arith, ap, ◌∙◌, true, set}
use Rattle.log_closing.proofs.Marking.{mark_set}
use Rattle.log_closing.proofs.marks.mark.Goals as goal

pub returns : goal.returns
returns c =
    mark_set c.args.marks.now c.args.most c.args.spoke c.args.put c.requires.put (omega (arith, c.requires.there, c.requires.put)) c.set.new.self
    (c.set.ensures.after ∙ ap (λ n. set c.args.marks.now n true) c.place-index.ensures.is)
