use denote.Param.Send.{sendable}
use Rattle.std.proofs.Crossing.{crosses}
use Rattle.mpi_model.proofs.layout.Layout.TheSendSync as layout
use Rattle.node_tests.proofs.Crossing.{board_sync}
use Rattle.node_tests.proofs.board.two_readers.Goals as goal

pub join-requires-send-F : goal.join-requires-send-F
join-requires-send-F g c κs within = let r = c.type_bounds.sync-R in search (sendable, crosses, board_sync, layout.the_sync) depth 40
