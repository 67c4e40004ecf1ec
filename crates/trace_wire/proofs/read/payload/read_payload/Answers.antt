use Rattle.std.proofs.Common.{inl}
use Rattle.std.proofs.lemmas.Result.{err_from_is_err_and}
use Rattle.std.specs.FinMap.{entries}
use Rattle.trace_wire.proofs.Payloads.{read_whole, refused_whole, rest_missing, rest_taken}
use Rattle.trace_wire.proofs.read.payload.read_payload.Goals as goal

pub returns-in-Ok-clause-ok : goal.returns-in-Ok-clause-ok
returns-in-Ok-clause-ok g c = read_whole _ _ c.read_all.new.window c.args.len c.args.version (entries c.in-Ok.knowledge) (rw c.new-window.ensures at c.in-Ok.ensures.ok) c.in-Ok.ensures.end

pub returns-in_err-drain-in-Err-Payload-clause-err : goal.returns-in_err-drain-in-Err-Payload-clause-err
returns-in_err-drain-in-Err-Payload-clause-err g c =
    let p = err_from_is_err_and c.from_residual.result c.from_residual.ensures.1 in
    rw (p.1, p.2) (inl (rest_missing _ _ _ _ _ c.read_all.new.window c.args.len c.args.version c.in-Err-Payload.fault _ (rw (c.new-window.ensures, c.in-Err-Payload.field-0-is) at c.in-Err-Payload.ensures.err) c.in_err-drain-in-Err-Payload.ensures.err))

pub returns-in_err-drain-in-Err-Payload-clause-taken : goal.returns-in_err-drain-in-Err-Payload-clause-taken
returns-in_err-drain-in-Err-Payload-clause-taken g c = rest_taken _ _ _ _ _ c.read_all.new.window c.args.len c.args.version c.in-Err-Payload.fault (rw (c.new-window.ensures, c.in-Err-Payload.field-0-is) at c.in-Err-Payload.ensures.err) c.in_err-drain-in-Err-Payload.ensures.taken

pub returns-clause-err : goal.returns-clause-err
returns-clause-err g c =
    let rest = c.in_ok-drain-in-Err-Payload.ensures.ok in
    refused_whole _ _ _ _ _ _ c.read_all.new.window c.args.len c.args.version c.in-Err-Payload.fault rest.0 (rw (c.new-window.ensures, c.in-Err-Payload.field-0-is) at c.in-Err-Payload.ensures.err) rest.1 rest.2 c.in_ok-drain-in-Err-Payload.ensures.no_failure

pub returns-clause-taken : goal.returns-clause-taken
returns-clause-taken g c = rest_taken _ _ _ _ _ c.read_all.new.window c.args.len c.args.version c.in-Err-Payload.fault (rw (c.new-window.ensures, c.in-Err-Payload.field-0-is) at c.in-Err-Payload.ensures.err) c.in_ok-drain-in-Err-Payload.ensures.taken
