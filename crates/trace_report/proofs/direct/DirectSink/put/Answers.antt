use Rattle.std.proofs.Common.{[], take, drop, sym, refl, arith, take-append-drop, length-drop, append-nil}
use Rattle.trace_report.proofs.Counted.{count_part, count_all}
use Rattle.trace_report.proofs.Printing.{skipped}
use Rattle.trace_report.proofs.direct.DirectSink.put.Goals as goal

pub returns-in-Ok : goal.returns-in-Ok
returns-in-Ok g c =
    let text = c.args.text.now in
    record {
      sent = text;
      rest = [];
      whole = sym (append-nil text);
      out = c.in-Ok.ensures.ok;
      count = count_all c.args.self.now.written c.saturating_add-self.result text c.saturating_add-self.ensures;
      fine = λ h. (h, refl, c.in-Ok.ensures.failures.1);
      first = λ h k. absurd (cc (h, k));
      stays = λ h. absurd (cc (h, c.if-not-self.true));
      later = c.in-Ok.ensures.failures.0;
      beside = c.in-Ok.ensures.beside;
      lent = refl;
    }

pub returns-in-Err : goal.returns-in-Err
returns-in-Err g c =
    let text = c.args.text.now in
    let n = c.in-Err.fault.written in
    record {
      sent = take n text;
      rest = drop n text;
      whole = sym (take-append-drop n text);
      out = c.in-Err.ensures.err;
      count = count_part c.args.self.now.written c.saturating_add-self-in-Err.result n text c.in-Err.ensures.part c.saturating_add-self-in-Err.ensures;
      fine = λ h. absurd (cc h);
      first = λ h k. (omega (arith, c.in-Err.ensures.part, length-drop n text), c.in-Err.ensures.failures.1);
      stays = λ h. absurd (cc (h, c.if-not-self.true));
      later = c.in-Err.ensures.failures.0;
      beside = c.in-Err.ensures.beside;
      lent = refl;
    }

pub returns-else-not-self : goal.returns-else-not-self
returns-else-not-self g c = skipped _ c.args.text.now c.if-not-self.false
