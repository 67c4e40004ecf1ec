use Rattle.std.proofs.Common.{◌≡◌, ◌∙◌, List, ap, subst, length, arith, string_bytes}
use Rattle.std.proofs.lemmas.List.FromFn.{length-map-range_with_len}
use Rattle.std.proofs.lemmas.Result.{IfOk-weaker}
use Rattle.trace_ops.specs.Ops.{Ops}
use Rattle.trace_ops.specs.RankOps.{all_ops, ops_of}
use Rattle.trace_check.specs.Checker.{Held, IsCheckBy, IsCheckOf}
use Rattle.trace_check.proofs.checker.Checker.lines.Goals as goal

pub lines_of-requires-clause-few : goal.lines_of-requires-clause-few
lines_of-requires-clause-few c =
    let wide = ap length (c.deref-2.ensures.value ∙ c.in_ok-ops.ensures) ∙ length-map-range_with_len (ops_of c.self.inside.layout.now c.self.inside.know) 0 c.self.inside.layout.now.ranks in
    omega (arith, wide, c.known.ensures.few_ranks)

pub returns-clause-text : goal.returns-clause-text
returns-clause-text c =
    let ops : c.deref-2.result.now ≡ all_ops c.self.inside.layout.now c.self.inside.know = c.deref-2.ensures.value ∙ c.in_ok-ops.ensures in
    IfOk-weaker c.lines_of.result _ _ (λ told h. subst (λ (k : Held). IsCheckOf k.layout k.know (string_bytes told.0)) c.self.view_is
    (subst (λ (l : List Ops). IsCheckBy c.self.inside.layout.now l (string_bytes told.0)) ops h)) c.lines_of.ensures.text
