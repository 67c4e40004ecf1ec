use Rattle.std.proofs.Common.{refl}
use Rattle.std.specs.FinMap.{entries}
use Rattle.trace_wire.proofs.Bodies.{read_body, refused_body}
use Rattle.trace_wire.proofs.Heads.{bad_head}
use Rattle.trace_wire.proofs.packed.next.behind_head.Goals as goal

pub returns-in-Err-clause-err : goal.returns-in-Err-clause-err
returns-in-Err-clause-err g c = λ left taken. bad_head left (g.R.Read.left c.args.reader.now) c.args.head.now _ _ c.in-Err.fault c.requires.len taken refl c.in-Err.ensures.cause c.in-Err.ensures.value

pub returns-in-Err-read_payload-clause-err : goal.returns-in-Err-read_payload-clause-err
returns-in-Err-read_payload-clause-err g c = λ left taken.
    refused_body left (g.R.Read.left c.args.reader.now) _ c.args.head.now c.in-Ok.found _ (g.R.Read.failures c.args.reader.now) _ c.in-Err-read_payload.fault c.requires.len taken refl c.in-Ok.ensures.value c.in-Err-read_payload.ensures.err

pub returns-clause-ok : goal.returns-clause-ok
returns-clause-ok g c = λ left taken.
    read_body left (g.R.Read.left c.args.reader.now) _ c.args.head.now c.in-Ok.found (entries c.in-Ok-read_payload.found) c.requires.len c.are_bytes.ensures taken c.in-Ok.ensures.value c.in-Ok-read_payload.ensures.ok
