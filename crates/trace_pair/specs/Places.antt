-- Where an operation stands: its rank, its call there, and its part of the call. Order is kept within a rank alone (MPI
-- 4.0, 3.5), a nonblocking operation counts where it is started (3.7.4), and the parts of one Startall start in any
-- order (3.9).
use Rattle.std.specs.Prelude.{Bool, ◌&&◌, ◌||◌, ◌==◌, not, nat_lt}
use Rattle.mpi_model.specs.declared.event.OpName.{OpName}
use Rattle.mpi_model.specs.declared.message.Message.{Message}
use Rattle.mpi_model.specs.declared.message.Receive.{Receive}

-- the sender of a message, the number of the call there, and its part
abbrev pub sent_at : Message → OpName
sent_at m = record { rank = m.from; call = m.name.call; part = m.name.part }

-- the rank that receives, the number of the call there, and its part
abbrev pub posted_at : Receive → OpName
posted_at q = record { rank = q.at; call = q.name.call; part = q.name.part }

-- an earlier call of the rank
abbrev pub earlier : OpName → OpName → Bool
earlier a b = (a.rank == b.rank) && nat_lt a.call b.call

-- another part of the same call
abbrev pub together : OpName → OpName → Bool
together a b = (a.rank == b.rank) && (a.call == b.call) && not (a.part == b.part)

-- another operation of the rank whose call isn't later: it may have been started first
abbrev pub no_later : OpName → OpName → Bool
no_later a b = earlier a b || together a b

-- another message of the same sender, of an earlier call or of the same one
abbrev pub sent_no_later : Message → Message → Bool
sent_no_later a b = no_later (sent_at a) (sent_at b)

-- another receive of the same rank, of an earlier call or of the same one
abbrev pub posted_no_later : Receive → Receive → Bool
posted_no_later a b = no_later (posted_at a) (posted_at b)

-- another message of the same call
abbrev pub sent_together : Message → Message → Bool
sent_together a b = together (sent_at a) (sent_at b)

-- another receive of the same call
abbrev pub posted_together : Receive → Receive → Bool
posted_together a b = together (posted_at a) (posted_at b)
