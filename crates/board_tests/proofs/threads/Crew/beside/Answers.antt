use denote.Param.Send.{sendable}
use Rattle.std.proofs.Crossing.{crosses}
use Rattle.board_tests.proofs.Crossing.{writing_send}
use Rattle.board_tests.proofs.threads.Crew.beside.Goals as goal

pub join-ranks-requires-send-F : goal.join-ranks-requires-send-F
join-ranks-requires-send-F g c κs within = search (sendable, crosses, writing_send) depth 20 fits 20000

pub join-ranks-requires-send-A : goal.join-ranks-requires-send-A
join-ranks-requires-send-A g c κs within = search (sendable, crosses, writing_send) depth 20 fits 20000
