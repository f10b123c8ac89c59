-- Which seats of a table may go to a thread of their own.
use denote.Ref.{NamedLft}
use denote.Param.Send.{IsSend, IsSync, sendable, shr_send, view_send}
use denote.Struct.Field.{shr_ref_field}
use denote.Param.SendFields.{as_row_send, declared_send}
use Rattle.std.proofs.Crossing.{crosses}
use Rattle.atomic_table.proofs.shared.Seat.TheSendSync.{the_send as mark_send}
use Rattle.atomic_table.proofs.shared.Shared.TheSendSync.{the_sync as shared_sync}
use Rattle.sp_model.specs.contracts.run.Run as run
use Rattle.put_codec.specs.contracts.run_meaning.RunMeaning as meaning
use Rattle.put_codec.specs.contracts.run_meaning.RunMeaningMeaning.TheImpl.{ghosts}
use Rattle.put_read.specs.contracts.reader.PutReader as puts
use Rattle.rank_writer.specs.contracts.writer.RankWriter as writer
use Rattle.table_board.specs.contracts.seat.TableSeat as seat
use Rattle.board_tests.specs.contracts.given.Given as given
use Rattle.board_tests.specs.contracts.solo.ReadingSeat as reading
use Rattle.board_tests.specs.contracts.solo.ReadingSeat.TheInside as at_reading
use Rattle.board_tests.specs.contracts.solo.WritingSeat as writing
use Rattle.board_tests.specs.contracts.solo.WritingSeat.TheInside as at_writing

run_sync : IsSync run.the_row
run_sync = search (sendable, crosses) depth 40 fits 20000

given_sync : IsSync given.the_row
given_sync = search (sendable, crosses) depth 40 fits 20000

meaning_sync : IsSync meaning.the_row
meaning_sync = search (sendable, crosses) depth 40 fits 20000

puts_send : IsSend puts.the_row
puts_send = search (sendable, crosses) depth 40 fits 20000

writer_send : IsSend writer.the_row
writer_send = search (sendable, crosses) depth 40 fits 20000

seat_send : (a : NamedLft) → IsSend (seat.the_row a meaning.the_row ghosts)
seat_send a = search (sendable, crosses, mark_send, shared_sync, meaning_sync) depth 40 fits 20000

pub reading_send : (a : NamedLft) → IsSend (reading.the_row a)
reading_send a =
    let run_there = as_row_send (shr_ref_field a run.the_row tt) (shr_send a.mir a.lft run.the_row run_sync) in
    let seat_there = as_row_send (seat.the_field a meaning.the_row ghosts) (seat_send a) in
    view_send (at_reading.the_row a) _ _ _ _ (declared_send (at_reading.the_type a) (run_there, (seat_there, (puts_send, tt))))

pub writing_send : (a : NamedLft) → IsSend (writing.the_row a)
writing_send a =
    let given_there = as_row_send (shr_ref_field a given.the_row tt) (shr_send a.mir a.lft given.the_row given_sync) in
    let seat_there = as_row_send (seat.the_field a meaning.the_row ghosts) (seat_send a) in
    view_send (at_writing.the_row a) _ _ _ _ (declared_send (at_writing.the_type a) (given_there, (seat_there, (writer_send, tt))))
