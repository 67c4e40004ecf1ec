use Rattle.std.proofs.Common.{◌∙◌}
use Rattle.trace_diagnosis.specs.Ways.{why_of}
use Rattle.trace_diagnosis.proofs.Telling.{receives_told}
use Rattle.trace_diagnosis.proofs.unmatched.push_near_receives.Goals as goal

pub returns : goal.returns
returns c = let of = c.args.by_thing.now in
    receives_told c.why.result (why_of of.0) c.args.m.now c.receives.result.now of.1 c.deref.result.now c.args.near.now.items _ c.why.ensures c.receives.ensures (c.deref.ensures.value ∙ c.in_ok-places.ensures) c.in_ok-push_receives.ensures.exact
