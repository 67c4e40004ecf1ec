use Rattle.std.proofs.Common.{◌∙◌}
use Rattle.trace_wire.specs.Windows.{IsLeft}
use Rattle.trace_wire.proofs.Windows.{comes_then, leaves_both, taken_then}
use Rattle.trace_wire.proofs.read.filling.fill_to.Goals as goal

pub loop-window-preserved : goal.loop-window-preserved
loop-window-preserved g c = record {
  far = comes_then _ _ _ _ _ _ IsLeft IsLeft IsLeft c.loop-window.invariant.far c.in_ok-more.ensures.ok (λ x y z m n. m ∙ n);
  no_failure = c.in_ok-more.ensures.no_failure ∙ c.loop-window.invariant.no_failure;
  beside = leaves_both _ _ _ c.loop-window.invariant.beside c.in_ok-more.ensures.beside;
}

pub returns-in_err-more-clause-taken : goal.returns-in_err-more-clause-taken
returns-in_err-more-clause-taken g c = taken_then _ _ _ _ _ IsLeft c.loop-window.invariant.far c.in_err-more.ensures.taken
