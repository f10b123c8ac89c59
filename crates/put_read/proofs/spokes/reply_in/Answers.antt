use Rattle.std.proofs.Common.{rules, sym, ◌∙◌, FitsSigned}
use Rattle.std.specs.Int.{w128}
use Rattle.std.specs.Option.{IfSome}
use Rattle.put_codec.proofs.ReplyWords.{reply_once}
use Rattle.put_read.proofs.SpokeReading.{never_off}
use Rattle.put_read.proofs.spokes.reply_in.Goals as goal

pub returns-in-Ok : goal.returns-in-Ok
returns-in-Ok c = λ reply fits is.
    let own : IfSome c.in-Ok.value (FitsSigned w128) = search rules in
    reply_once c.in-Ok.value reply own fits (sym c.in-Ok.ensures.ok ∙ is)

pub returns-in-Err : goal.returns-in-Err
returns-in-Err c = λ reply fits is. absurd (never_off reply c.args.words c.in-Err.field-0.word fits is c.in-Err.ensures.err)
