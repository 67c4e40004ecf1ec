-- What the devices of this crate hold.
use Rattle.std.specs.Prelude.{ℕ, List, Option, None, Some, length, min}
use Rattle.mpi_model.specs.declared.device.Device.{Device}
use Rattle.mpi_model.specs.declared.memory.reader.MemoryReader.{MemoryReader}
use Rattle.mpi_model.specs.declared.memory.reader.EndlessReader.{EndlessReader}
use Rattle.mpi_model.specs.declared.memory.writer.MemoryWriter.{MemoryWriter}

-- the reader, writer or stream of std on which a device stands
abbrev pub inside : {T : Type 0} → Device T → T
inside d = d.inner

-- how often reads and writes of a device have failed
abbrev pub failed_reads : {T : Type 0} → Device T → ℕ
failed_reads d = d.read_failures

-- how many writes failed
abbrev pub failed_writes : {T : Type 0} → Device T → ℕ
failed_writes d = d.write_failures

-- ---- a reader in memory

-- the bytes that it still has
abbrev pub bytes_left : MemoryReader → List ℕ
bytes_left r = r.bytes.now

-- the most bytes that a call gives
abbrev pub most_read : MemoryReader → ℕ
most_read r = r.most

-- how many bytes it still gives before it fails, where it is to fail
abbrev pub until_failure : MemoryReader → Option ℕ
until_failure r = r.until_failure

-- the fewer of these bytes and those before it fails
abbrev pub before_failure : Option ℕ → ℕ → ℕ
before_failure None count = count
before_failure (Some until) count = min count until

-- how many bytes it gives to a buffer of this length: all that the buffer takes, up to its limits and its end
abbrev pub count_given : MemoryReader → ℕ → ℕ
count_given r room = before_failure (until_failure r) (min (min room (most_read r)) (length (bytes_left r)))

-- how many reads of a reader in memory failed
abbrev pub failures_of_reader : MemoryReader → ℕ
failures_of_reader r = r.failures

-- the byte that an endless reader gives
abbrev pub repeated : EndlessReader → ℕ
repeated r = r.byte

-- ---- a writer in memory

-- the bytes that it has taken
abbrev pub bytes_written : MemoryWriter → List ℕ
bytes_written w = w.bytes.items

-- the most bytes that a call takes
abbrev pub most_written : MemoryWriter → ℕ
most_written w = w.most

-- how many bytes it still takes
abbrev pub room_of : MemoryWriter → ℕ
room_of w = w.room

-- how many bytes it takes of a piece of this length: all of it, up to its limits
abbrev pub count_taken : MemoryWriter → ℕ → ℕ
count_taken w length_of_piece = min (min length_of_piece (most_written w)) (room_of w)

-- how many writes of a writer in memory failed
abbrev pub failures_of_writer : MemoryWriter → ℕ
failures_of_writer w = w.failures
