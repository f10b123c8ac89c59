use denote.Exit.{no}
use denote.Ref.{NamedLft}
use denote.Param.Send.{IsSend, sendable, param_send, arg_send}
use denote.Param.SendFields.{as_row_send, declared_send}
use Rattle.std.proofs.Crossing.{crosses}
use Rattle.board_tests.specs.contracts.solo.ReadingSeat as reading
use Rattle.board_tests.specs.contracts.threads.Tally as tally
use Rattle.board_tests.proofs.Crossing.{reading_send}
use Rattle.board_tests.proofs.threads.fn.Crew.beside.join+arg3.Goals as goal

tally_send : (a : NamedLft) → IsSend (tally.the_row a)
tally_send a =
    let seat_there = as_row_send (reading.the_field a) (reading_send a) in
    declared_send (tally.the_type a) (seat_there, (search (sendable, crosses) depth 20, (search sendable, (search sendable, (search sendable, tt)))))

pub join-requires-send-F : goal.join-requires-send-F
join-requires-send-F g c κs within = search (sendable, crosses, tally_send) depth 20 fits 20000

pub join-requires-send-A : goal.join-requires-send-A
join-requires-send-A g c κs within = param_send 3 _ (arg_send _ no _ (tally_send _))
