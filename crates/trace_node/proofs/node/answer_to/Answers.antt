use Rattle.std.proofs.Common.{◌≡◌, ◌∙◌, ap, length, arith, subst, sym, List, ℕ}
use Rattle.std.proofs.lemmas.List.FromFn.{length-map-range_with_len}
use Rattle.trace_ops.specs.Ops.{Ops}
use Rattle.trace_ops.specs.RankOps.{all_ops, ops_of}
use Rattle.trace_node.specs.Answer.{IsAnswerBy}
use Rattle.trace_node.specs.ByRank.{AreWalls}
use Rattle.trace_node.proofs.ByRank.{walls_tell}
use Rattle.trace_node.proofs.node.answer_to.Goals as goal

pub answer_of-requires-clause-few : goal.answer_of-requires-clause-few
answer_of-requires-clause-few c =
    let n = ap length (c.ops-own.ensures ∙ c.requires.ops) ∙ length-map-range_with_len (ops_of c.args.layout.now c.args.know.now) 0 c.args.layout.now.ranks in
    omega (arith, n, c.known.ensures.few_ranks)

pub returns : goal.returns
returns c =
    let layout = c.args.layout.now in
    let know = c.args.know.now in
    let own : c.ops-own.result.now ≡ all_ops layout know = c.ops-own.ensures ∙ c.requires.ops in
    let tell = walls_tell know c.ops-own.result.now c.in_ok-walls.walls.items layout.ranks c.requires.within c.in_ok-walls.ensures in
    let told : AreWalls know c.ops-own.result.now c.deref.result.now = subst (λ (l : List ℕ). AreWalls know c.ops-own.result.now l) (sym c.deref.ensures.value) tell in
    subst (λ (l : List Ops). IsAnswerBy layout know l c.in_ok-answer.answer) own (c.in_ok-answer.ensures know c.in_ok-reading.ensures told)
