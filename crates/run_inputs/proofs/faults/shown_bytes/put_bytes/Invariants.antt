use Rattle.std.specs.Prelude.{take}
use Rattle.std.specs.Fmt.{HasWritten, IsPlainFormatter}
use Rattle.run_inputs.specs.ShownBytes.{shown_bytes}
use Rattle.run_inputs.proofs.faults.shown_bytes.put_bytes.Given as goal

abbrev pub invariant-loop-byte : goal.invariant-loop-byte
invariant-loop-byte g l =
    IsPlainFormatter l.fn.f → HasWritten g.W.Write.write_str_gives l.fn.f (shown_bytes (take l.byte-index l.bytes)) l.f
