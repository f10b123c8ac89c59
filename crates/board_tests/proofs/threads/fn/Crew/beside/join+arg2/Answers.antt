use denote.Param.Send.{sendable}
use Rattle.std.proofs.Crossing.{crosses}
use Rattle.board_tests.proofs.Crossing.{writing_send}
use Rattle.board_tests.proofs.threads.fn.Crew.beside.join+arg2.Goals as goal

pub join-requires-send-F : goal.join-requires-send-F
join-requires-send-F g c κs within = search (sendable, crosses, writing_send) depth 20 fits 20000

pub join-requires-send-A : goal.join-requires-send-A
join-requires-send-A g c κs within = search (sendable, crosses, writing_send) depth 20 fits 20000
