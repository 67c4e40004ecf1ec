use Rattle.std.proofs.Common.{true, false, arith, ap, Err}
use Rattle.trace_world.proofs.Moving.{joins, layout_at}
use Rattle.trace_world.proofs.moves.hold.Goals as goal

pub unreachable-requires : goal.unreachable-requires
unreachable-requires c = let lt = c.requires.within c.index_mut-place.result.now.layout (layout_at _ _ _ c.requires.there c.index_mut-place.ensures.value) in let le = c.in-Err-Rank.ensures.rank.0 (ap Err c.in-Err-Rank.field-0-is) in omega (arith, lt, le)

pub returns-in-Ok : goal.returns-in-Ok
returns-in-Ok c = (true, joins _ _ _ _ _ true c.requires.there c.index_mut-place.ensures.value c.in-Ok.ensures.ok, λ e. absurd (cc e))
