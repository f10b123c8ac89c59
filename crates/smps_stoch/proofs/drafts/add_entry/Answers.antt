use Rattle.std.proofs.Common.{arith}
use Rattle.std.proofs.lemmas.Result.{on_ok_weaker}
use Rattle.smps_stoch.proofs.Entries.{draft_pushed, drafts_stay}
use Rattle.smps_stoch.proofs.drafts.add_entry.Goals as goal

pub returns-then-owned-len : goal.returns-then-owned-len
returns-then-owned-len c =
    drafts_stay c.args.drafts.now.items c.args.owned.now (omega (arith, c.len.ensures, c.if-owned-len.true, c.args.drafts.now.ok.0))

pub returns : goal.returns
returns c =
    on_ok_weaker c.push.result
    (draft_pushed c.args.drafts.now.items c.args.owned.now c.index_mut.result.now c.push.new.self (omega (arith, c.len.ensures, c.if-owned-len.false, c.args.drafts.now.ok.0)) c.index_mut.ensures.value)
    c.push.ensures.ok
