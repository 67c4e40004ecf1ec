use Rattle.std.proofs.Common.{◌≡◌, ℕ, length, rules, subst}
use Rattle.std.specs.FinMap.{entries}
use Rattle.trace_wire.specs.Reading.{IsUnfilled}
use Rattle.trace_wire.proofs.Bodies.{read_body, refused_body}
use Rattle.trace_wire.proofs.Heads.{no_head, bad_head, read_fits}
use Rattle.trace_wire.proofs.Taking.{within_frame}
use Rattle.trace_wire.proofs.read.read_frame.Goals as goal

pub returns-in-Err-clause-err : goal.returns-in-Err-clause-err
returns-in-Err-clause-err g c =
    let len : length c.fill.new.buffer ≡ 10 = search rules in
    no_head _ _ _ _ (subst (λ (n : ℕ). IsUnfilled n (g.R.Read.left c.args.reader.now) (g.R.Read.failures c.args.reader.now) (g.R.Read.failures c.fill.new.reader) c.in-Err.fault) len c.in-Err.ensures.err)

pub returns-in-Err-payload_len-clause-err : goal.returns-in-Err-payload_len-clause-err
returns-in-Err-payload_len-clause-err g c =
    let len : length c.fill.new.buffer ≡ 10 = search rules in
    bad_head _ (g.R.Read.left c.fill.new.reader) c.fill.new.buffer _ _ c.in-Err-payload_len.fault len c.in-Ok.ensures.ok c.in-Ok.ensures.no_failure c.in-Err-payload_len.ensures.cause c.in-Err-payload_len.ensures.value

pub returns-in-Err-read_payload-clause-err : goal.returns-in-Err-read_payload-clause-err
returns-in-Err-read_payload-clause-err g c =
    let len : length c.fill.new.buffer ≡ 10 = search rules in
    refused_body _ (g.R.Read.left c.fill.new.reader) _ c.fill.new.buffer c.in-Ok-payload_len.found _ (g.R.Read.failures c.fill.new.reader) _ c.in-Err-read_payload.fault len c.in-Ok.ensures.ok c.in-Ok.ensures.no_failure c.in-Ok-payload_len.ensures.value c.in-Err-read_payload.ensures.err

pub returns-clause-ok : goal.returns-clause-ok
returns-clause-ok g c =
    let len : length c.fill.new.buffer ≡ 10 = search rules in
    read_body _ (g.R.Read.left c.fill.new.reader) _ c.fill.new.buffer c.in-Ok-payload_len.found (entries c.in-Ok-read_payload.found) len c.are_bytes.ensures c.in-Ok.ensures.ok c.in-Ok-payload_len.ensures.value c.in-Ok-read_payload.ensures.ok

pub returns-in-Err-read_payload-clause-taken : goal.returns-in-Err-read_payload-clause-taken
returns-in-Err-read_payload-clause-taken g c =
    let len : length c.fill.new.buffer ≡ 10 = search rules in
    within_frame _ (g.R.Read.left c.fill.new.reader) _ c.fill.new.buffer c.in-Ok-payload_len.found len c.in-Ok.ensures.ok c.in-Ok-payload_len.ensures.value c.in-Err-read_payload.ensures.taken

pub returns-clause-taken : goal.returns-clause-taken
returns-clause-taken g c =
    let len : length c.fill.new.buffer ≡ 10 = search rules in
    within_frame _ (g.R.Read.left c.fill.new.reader) _ c.fill.new.buffer c.in-Ok-payload_len.found len c.in-Ok.ensures.ok c.in-Ok-payload_len.ensures.value c.in-Ok-read_payload.ensures.taken

pub returns-clause-fits : goal.returns-clause-fits
returns-clause-fits g c = read_fits _ _ (entries c.in-Ok-read_payload.found) (returns-clause-ok g c)
