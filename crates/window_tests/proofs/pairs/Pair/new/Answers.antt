use Rattle.std.proofs.Common.{◌≡◌, ◌<◌, sym, ◌∙◌, arith}
use Rattle.window_tests.proofs.Ranking.{fresh_free, hub_joins, owner_free, reads_leaders, seat_reads, taken_apart}
use Rattle.window_tests.proofs.pairs.Pair.new.Goals as goal

pub join-requires : goal.join-requires
join-requires c =
    let t = taken_apart c.args.board.now.0 c.args.board.now.1 c.args.meaning.now _ _ _ _ c.in-Some.last c.in-Some-pop.owner c.in-Some-pop-2.hub c.requires.same c.requires.windows.0 (c.into_vec-seats.ensures ∙ c.in_ok-seats.ensures) c.in-Some.ensures.items c.in-Some-pop.ensures.items c.in-Some-pop-2.ensures.items in
    let two = c.requires.windows.0 in record {
      table = (t.3 ∙ sym t.4, t.1.0 ∙ sym t.2.0);
      free = (fresh_free c.in-Some-pop-2.hub c.args.meaning.now t.2, owner_free c.in-Some-pop.owner c.args.meaning.now t.1 (omega (arith, two)));
    }

pub at_hub-rank-requires : goal.at_hub-rank-requires
at_hub-rank-requires c =
    let t = taken_apart c.args.board.now.0 c.args.board.now.1 c.args.meaning.now _ _ _ _ c.in-Some.last c.in-Some-pop.owner c.in-Some-pop-2.hub c.requires.same c.requires.windows.0 (c.into_vec-seats.ensures ∙ c.in_ok-seats.ensures) c.in-Some.ensures.items c.in-Some-pop.ensures.items c.in-Some-pop-2.ensures.items in
    let one = c.requires.windows.1 in
    let j = hub_joins c.in-Some-pop-2.hub c.in-Some-pop.owner c.join.result c.args.meaning.now t.2 t.1 (omega (arith, one)) c.requires.small c.join.ensures in
    record { fresh = j.0; runs = j.1 }

pub new-follower-requires : goal.new-follower-requires
new-follower-requires c =
    let t = taken_apart c.args.board.now.0 c.args.board.now.1 c.args.meaning.now _ _ _ _ c.in-Some.last c.in-Some-pop.owner c.in-Some-pop-2.hub c.requires.same c.requires.windows.0 (c.into_vec-seats.ensures ∙ c.in_ok-seats.ensures) c.in-Some.ensures.items c.in-Some-pop.ensures.items c.in-Some-pop-2.ensures.items in record {
      reads = seat_reads c.in-Some.last c.args.meaning.now 2 _ t.0 c.in_ok-reader.ensures.reads;
      ranks = reads_leaders c.args.meaning.now _ c.in_ok-reader.ensures.fresh;
    }
