use Rattle.std.proofs.Common.{◌∙◌, ap, sym}
use Rattle.std.specs.Prelude.{not}
use Rattle.trace_pair.specs.After.{comes_after}
use Rattle.trace_pair.proofs.Partners.{open_is, void_fits_none}
use Rattle.trace_pair.proofs.batch.Batch.does_open_fit.Goals as goal

pub returns-then-not-is_void : goal.returns-then-not-is_void
returns-then-not-is_void c = λ ms qs s.
    open_is (comes_after c.args.reaches.now) ms qs _ _ _ _ s.held c.args.m.now (ap not (sym c.is_void.ensures ∙ c.if-not-is_void.true)) c.is_hidden.result
    (λ h. c.is_hidden.ensures.yes h s.opened s.last) (λ h. c.is_hidden.ensures.no h s.opened s.last)

-- a void message fits nothing
pub returns-else-not-is_void : goal.returns-else-not-is_void
returns-else-not-is_void c = λ ms qs s.
    ap not c.if-not-is_void.false ∙ void_fits_none (comes_after c.args.reaches.now) ms qs _ _ _ _ s.held c.args.m.now (ap not (sym c.is_void.ensures ∙ c.if-not-is_void.false))
