use Rattle.std.proofs.Common.{arith, ◌<◌, length}
use Rattle.board_tests.proofs.Meanings.{puts_have_points}
use Rattle.board_tests.proofs.given.Given.new.Goals as goal

pub meaning-of-requires : goal.meaning-of-requires
meaning-of-requires c =
    let some : 0 < length c.in_ok-puts.puts = omega (arith, c.len.ensures, c.if-len-eq0.false) in
    puts_have_points c.args.run c.in_ok-puts.puts c.in_ok-puts.ensures some

pub returns : goal.returns
returns c =
    let some : 0 < length c.in_ok-puts.puts = omega (arith, c.len.ensures, c.if-len-eq0.false) in record {
      of = c.meaning-of.ensures;
      puts = c.in_ok-puts.ensures;
      spokes = omega (arith, c.if-run-lt3.false);
      points = puts_have_points c.args.run c.in_ok-puts.puts c.in_ok-puts.ensures some;
    }
