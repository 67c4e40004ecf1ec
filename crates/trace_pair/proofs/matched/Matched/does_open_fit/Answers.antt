use Rattle.std.proofs.Common.{◌∙◌, ap, sym}
use Rattle.std.specs.Prelude.{not}
use Rattle.trace_pair.specs.After.{comes_after}
use Rattle.trace_pair.proofs.Partners.{open_is, void_fits_none}
use Rattle.trace_pair.proofs.matched.Matched.does_open_fit.Goals as goal

pub returns-then-not-is_void : goal.returns-then-not-is_void
returns-then-not-is_void c = λ ms qs held.
    open_is (comes_after c.args.reaches.now) ms qs _ _ _ _ held.sets c.args.m.now (ap not (sym c.is_void.ensures ∙ c.if-not-is_void.true)) c.hides.result
    c.hides.ensures.yes c.hides.ensures.no

-- a void message fits nothing
pub returns-else-not-is_void : goal.returns-else-not-is_void
returns-else-not-is_void c = λ ms qs held.
    ap not c.if-not-is_void.false ∙ void_fits_none (comes_after c.args.reaches.now) ms qs _ _ _ _ held.sets c.args.m.now (ap not (sym c.is_void.ensures ∙ c.if-not-is_void.false))
