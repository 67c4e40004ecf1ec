use Rattle.std.proofs.Common.{[], take, drop, sym, refl, arith, take-append-drop, length-drop, append-nil}
use Rattle.trace_wire.proofs.Sending.{skipped}
use Rattle.trace_wire.proofs.write.direct.DirectSink.put.Goals as goal

pub returns-in-Ok : goal.returns-in-Ok
returns-in-Ok g c =
    let bytes = c.args.bytes.now in
    record {
      sent = bytes;
      rest = [];
      whole = sym (append-nil bytes);
      out = c.in-Ok.ensures.ok;
      fine = λ h. (h, refl, c.in-Ok.ensures.failures.1);
      first = λ h k. absurd (cc (h, k));
      stays = λ h. absurd (cc (h, c.if-not-self.true));
      later = c.in-Ok.ensures.failures.0;
      beside = c.write_all.ensures.beside;
      lent = refl;
    }

pub returns-in-Err : goal.returns-in-Err
returns-in-Err g c =
    let bytes = c.args.bytes.now in
    let n = c.in-Err.fault.written in
    record {
      sent = take n bytes;
      rest = drop n bytes;
      whole = sym (take-append-drop n bytes);
      out = c.in-Err.ensures.err;
      fine = λ h. absurd (cc h);
      first = λ h k. (omega (arith, c.in-Err.ensures.part, length-drop n bytes), c.in-Err.ensures.failures.1);
      stays = λ h. absurd (cc (h, c.if-not-self.true));
      later = c.in-Err.ensures.failures.0;
      beside = c.write_all.ensures.beside;
      lent = refl;
    }

pub returns-else-not-self : goal.returns-else-not-self
returns-else-not-self g c = skipped _ c.args.bytes.now c.if-not-self.false
