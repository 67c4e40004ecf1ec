use Rattle.std.proofs.Common.{true, false, arith, ap, Err}
use Rattle.trace_world.proofs.Moving.{joins, stale_at, layout_at}
use Rattle.trace_world.proofs.moves.hold_all.Goals as goal

pub unreachable-requires : goal.unreachable-requires
unreachable-requires c = let h = c.in-Err-Rank.ensures.rank.0 (ap Err c.in-Err-Rank.field-0-is) in let lt = c.requires.within c.index_mut-place.result.now.layout (layout_at _ _ _ c.requires.there c.index_mut-place.ensures.value) h.0 h.1 h.3 in omega (arith, lt, h.2)

pub returns-in-Ok : goal.returns-in-Ok
returns-in-Ok c = (
  c.hold_all.new.self.is_stale,
  joins _ _ _ _ _ _ c.requires.there c.index_mut-place.ensures.value c.in-Ok.ensures.ok,
  λ e. stale_at _ _ _ c.requires.there c.index_mut-place.ensures.value (c.in-Ok.ensures.fresh e),
)
