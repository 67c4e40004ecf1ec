use Rattle.std.proofs.Common.{◌≡◌, ◌+◌, ◌<◌, length, arith, ◌∙◌}
use Rattle.std.specs.FinMap.{entries}
use Rattle.trace_wire.proofs.Payloads.{all_read, no_count, no_parts, none_held, some_held, some_rest}
use Rattle.trace_wire.proofs.Windows.{taken_then}
use Rattle.trace_wire.proofs.read.payload.read_all.Goals as goal
use Rattle.trace_wire.proofs.read.payload.read_all.Goals.{then-not-is_empty-via-then-not-is_empty, then-not-is_empty-via-else-not-is_empty+then-coming-gt0}

pub returns-in-Err-clause-err : goal.returns-in-Err-clause-err
returns-in-Err-clause-err g c = no_count _ _ _ _ _ _ c.args.version c.in-Err.fault c.in-Err.ensures.err

pub returns-in-Err-read_parts-clause-err : goal.returns-in-Err-read_parts-clause-err
returns-in-Err-read_parts-clause-err g c = no_parts _ _ _ _ _ _ _ _ _ c.args.version c.in-Ok.found c.in-Err-read_parts.fault c.in-Ok.ensures.ok c.in-Ok.ensures.no_failure c.in-Err-read_parts.ensures.err

pub returns-in-Err-read_parts-clause-taken : goal.returns-in-Err-read_parts-clause-taken
returns-in-Err-read_parts-clause-taken g c = taken_then _ _ _ _ _ _ c.in-Ok.ensures.ok c.in-Err-read_parts.ensures.taken

pub returns-clause-taken : goal.returns-clause-taken
returns-clause-taken g c = taken_then _ _ _ _ _ _ c.in-Ok.ensures.ok c.in-Ok-read_parts.ensures.taken

pub returns-then-not-is_empty-clause-err : goal.returns-then-not-is_empty-clause-err
returns-then-not-is_empty-clause-err g c =
    let some : 0 < length c.read_parts.new.window.bytes + c.read_parts.new.window.coming = elim c.then-not-is_empty.branch [
      | then-not-is_empty-via-then-not-is_empty w ↦ omega (arith, some_held _ _ _ c.held.ensures.value c.is_empty.ensures w.if-not-is_empty.true)
      | then-not-is_empty-via-else-not-is_empty+then-coming-gt0 w ↦ omega (arith, w.coming.ensures, w.if-coming-gt0.true)
    ] in
    some_rest _ _ _ _ _ _ _ _ c.args.version c.in-Ok.found (entries c.in-Ok-read_parts.found) c.in-Ok.ensures.ok c.in-Ok-read_parts.ensures.ok some (c.in-Ok-read_parts.ensures.no_failure ∙ c.in-Ok.ensures.no_failure)

pub returns-then-not-is_empty-clause-taken : goal.returns-then-not-is_empty-clause-taken
returns-then-not-is_empty-clause-taken g c = taken_then _ _ _ _ _ _ c.in-Ok.ensures.ok c.in-Ok-read_parts.ensures.taken

pub returns-clause-ok : goal.returns-clause-ok
returns-clause-ok g c =
    let none = none_held _ _ _ c.held.ensures.value c.is_empty.ensures c.if-not-is_empty.false in
    let end : c.read_parts.new.window.coming ≡ 0 = omega (arith, c.coming.ensures, c.if-coming-gt0.false) in
    all_read _ _ _ _ _ _ c.args.version c.in-Ok.found (entries c.in-Ok-read_parts.found) c.in-Ok.ensures.ok c.in-Ok-read_parts.ensures.ok none end
