use Rattle.std.proofs.Common.{◌∙◌, ap, sym, false}
use Rattle.std.specs.Prelude.{not}
use Rattle.mpi_model.specs.Trusts.{is_void}
use Rattle.trace_wait.specs.Matching.{unpaired_messages}
use Rattle.trace_wait.specs.Patterns.{offers, pattern_of}
use Rattle.trace_wait.proofs.Keys.{all_pass, none_pass}
use Rattle.trace_wait.proofs.overview.Overview.fits_some_message.Goals as goal

pub returns-then-not-is_void : goal.returns-then-not-is_void
returns-then-not-is_void c =
    let q = c.args.q.now in
    c.is_offered.ensures
    ∙ all_pass (λ m. offers false m (pattern_of q)) (not (is_void q.trust)) (unpaired_messages c.args.self.now.ops c.args.self.now.pairs) (ap not (sym c.is_void.ensures ∙ c.if-not-is_void.true))

pub returns-else-not-is_void : goal.returns-else-not-is_void
returns-else-not-is_void c =
    let q = c.args.q.now in
    ap not c.if-not-is_void.false
    ∙ none_pass (λ m. offers false m (pattern_of q)) (not (is_void q.trust)) (unpaired_messages c.args.self.now.ops c.args.self.now.pairs) (ap not (sym c.is_void.ensures ∙ c.if-not-is_void.false))
