use Rattle.std.proofs.Common.{◌≡◌, ℕ, length, Err, ap, rules, subst}
use Rattle.trace_wire.specs.Reading.{IsUnfilled}
use Rattle.trace_wire.proofs.Framing.{unbegun}
use Rattle.trace_wire.proofs.packed.next.next_frame.Goals as goal

pub returns-in-Err-clause-err : goal.returns-in-Err-clause-err
returns-in-Err-clause-err g c =
    let len : length c.begin.new.head ≡ 10 = search rules in
    unbegun _ _ _ c.in-Err.fault (subst (λ (n : ℕ). IsUnfilled n (g.R.Read.left c.args.reader.now) (g.R.Read.failures c.args.reader.now) (g.R.Read.failures c.begin.new.reader) c.in-Err.fault) len c.in-Err.ensures.err) (λ e. c.in-Err.ensures.some (ap (λ f. Err f) e))
