use Rattle.std.proofs.Common.{◌∙◌, ap, false}
use Rattle.std.specs.List.{list_any}
use Rattle.trace_wait.specs.Parts.{Run}
use Rattle.trace_wait.specs.Matching.{unpaired_messages}
use Rattle.trace_wait.specs.Patterns.{offers, pattern_of}
use Rattle.trace_wait.proofs.overview.Overview.is_offered.Goals as goal

pub returns : goal.returns
returns c =
    let p = pattern_of c.args.q.now in
    c.contains.ensures ∙ c.self.invariant.0 p
    ∙ ap (λ (s : Run). list_any (λ m. offers false m p) (unpaired_messages s.ops s.pairs)) c.self.view_is
