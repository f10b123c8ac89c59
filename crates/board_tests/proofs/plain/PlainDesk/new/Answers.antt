use Rattle.std.proofs.Common.{ap, ◌∙◌}
use Rattle.plain_board.specs.Plain.{fresh_board}
use Rattle.put_codec.specs.Layouts.{width_of, windows_of}
use Rattle.put_codec.specs.declared.run_meaning.RunMeaning.{RunMeaning}
use Rattle.board_tests.proofs.Desking.{fresh_desk}
use Rattle.board_tests.proofs.plain.PlainDesk.new.Goals as goal

pub invariant_of-result : goal.invariant_of-result
invariant_of-result c = fresh_desk c.args.given.now c.in_ok-board.board c.in_ok-actors.actors.items c.requires
    (c.in_ok-board.ensures ∙ ap (λ (m : RunMeaning). fresh_board (λ (z : RunMeaning). width_of z.layout) (λ (z : RunMeaning). windows_of z.layout) m) c.meaning.ensures) c.in_ok-actors.ensures
