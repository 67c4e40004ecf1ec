use Rattle.std.proofs.Common.{◌≡◌, ◌∙◌, sym}
use Rattle.std.proofs.lemmas.List.{map-id}
use Rattle.std.proofs.lemmas.Iterator.Adapters.{YieldsList-from_vec}
use Rattle.std.proofs.lemmas.Iterator.Consumers.{YieldsList-end}
use Rattle.command_runs.proofs.pieces.segments.shared.Goals as goal

pub returns : goal.returns
returns c =
    let b = c.into_iter-segment-iterator.ensures.into_iter_gives in
    let road = YieldsList-from_vec {s = c.into_iter-segment-iterator.result} c.args.segments.items b.0 (b.1 ∙ c.args.segments.ok.0) in
    let all = YieldsList-end road c.loop-segment.yielded _ c.loop-segment.yielded_by _ c.next.new.self c.in-None.is c.next.ensures.steps in
    let same : c.loop-segment.yielded ≡ c.args.segments.items = sym (map-id c.loop-segment.yielded) ∙ all.0 in
    c.loop-segment.invariant ∙ same
