use Rattle.std.proofs.Common.{◌∙◌, ap, true}
use Rattle.std.specs.List.{list_any}
use Rattle.trace_wait.specs.Parts.{Run}
use Rattle.trace_wait.specs.Matching.{unpaired_messages}
use Rattle.trace_wait.specs.Patterns.{offers, pattern_of}
use Rattle.trace_wait.proofs.overview.Overview.is_withdrawn.Goals as goal

pub returns : goal.returns
returns c =
    let p = pattern_of c.args.q.now in
    c.contains.ensures ∙ c.self.invariant.5 p
    ∙ ap (λ (s : Run). list_any (λ m. offers true m p) (unpaired_messages s.ops s.pairs)) c.self.view_is
