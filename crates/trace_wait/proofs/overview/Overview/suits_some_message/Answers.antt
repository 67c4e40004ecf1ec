use Rattle.std.proofs.Common.{true, false}
use Rattle.std.specs.List.{list_any}
use Rattle.mpi_model.specs.Fit.{envelopes_fit}
use Rattle.trace_wait.specs.Matching.{unpaired_messages}
use Rattle.trace_wait.specs.Patterns.{offers, pattern_of}
use Rattle.trace_wait.proofs.Keys.{any_or, either_kind, by_either, by_other}
use Rattle.trace_wait.proofs.overview.Overview.suits_some_message.Goals as goal

pub returns-then-is_offered : goal.returns-then-is_offered
returns-then-is_offered c =
    let q = c.args.q.now in
    let ms = unpaired_messages c.args.self.now.ops c.args.self.now.pairs in
    by_either (list_any (λ m. offers false m (pattern_of q)) ms) (list_any (λ m. offers true m (pattern_of q)) ms) (list_any (λ m. envelopes_fit m q) ms) _
    (any_or _ _ (λ m. envelopes_fit m q) (λ m. either_kind m q) ms) c.is_offered.ensures c.if-is_offered.true

pub returns-else-is_offered : goal.returns-else-is_offered
returns-else-is_offered c =
    let q = c.args.q.now in
    let ms = unpaired_messages c.args.self.now.ops c.args.self.now.pairs in
    by_other (list_any (λ m. offers false m (pattern_of q)) ms) (list_any (λ m. offers true m (pattern_of q)) ms) (list_any (λ m. envelopes_fit m q) ms) _ _
    (any_or _ _ (λ m. envelopes_fit m q) (λ m. either_kind m q) ms) c.is_offered.ensures c.if-is_offered.false c.is_withdrawn.ensures
