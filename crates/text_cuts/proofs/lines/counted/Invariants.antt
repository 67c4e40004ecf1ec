use Rattle.std.proofs.Common.{◌≡◌, ◌+◌, ◌-◌, ◌^◌, ◌≤◌, drop, min}
use Rattle.text_cuts.specs.Lines.{bytes_of_lines, missing_lines}
use Rattle.text_cuts.proofs.lines.counted.Given as goal

abbrev pub invariant-loop-byte : goal.invariant-loop-byte
invariant-loop-byte l = record {
  bytes : min (l.bytes + bytes_of_lines l.missing (drop l.byte-index l.chunk)) (2 ^ 64 - 1) ≡ min (l.fn.before.bytes + bytes_of_lines l.fn.before.missing l.chunk) (2 ^ 64 - 1);
  fits : l.bytes ≤ 2 ^ 64 - 1;
  missing : missing_lines l.missing (drop l.byte-index l.chunk) ≡ missing_lines l.fn.before.missing l.chunk;
}
