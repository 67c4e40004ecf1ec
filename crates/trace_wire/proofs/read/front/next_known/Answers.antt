use Rattle.std.proofs.Common.{◌∙◌}
use Rattle.trace_wire.specs.Windows.{Comes, IsLeft}
use Rattle.trace_wire.proofs.Windows.{comes_then, leaves_both, taken_then}
use Rattle.trace_wire.proofs.read.front.next_known.Goals as goal

pub loop-known-preserved : goal.loop-known-preserved
loop-known-preserved g c =
    let far : Comes (g.R.Read.left c.args.reader.now) (g.R.Read.left c.loop-known.reader) c.args.window.now c.held_known.new.window IsLeft = rw c.in-Err-Content.ensures.kept c.loop-known.invariant.far in
    record {
      far = comes_then _ _ _ _ _ _ IsLeft IsLeft IsLeft far c.in-Ok-widen.ensures.ok (λ x y z m n. m ∙ n);
      no_failure = c.in-Ok-widen.ensures.no_failure ∙ c.loop-known.invariant.no_failure;
      beside = leaves_both _ _ _ c.loop-known.invariant.beside c.in-Ok-widen.ensures.beside;
    }

pub returns-in-Err-widen-clause-taken : goal.returns-in-Err-widen-clause-taken
returns-in-Err-widen-clause-taken g c =
    let far : Comes (g.R.Read.left c.args.reader.now) (g.R.Read.left c.loop-known.reader) c.args.window.now c.held_known.new.window IsLeft = rw c.in-Err-Content.ensures.kept c.loop-known.invariant.far in
    taken_then _ _ _ _ _ IsLeft far c.widen.ensures.taken
