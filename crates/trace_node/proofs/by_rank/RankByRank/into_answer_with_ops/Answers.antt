use Rattle.std.proofs.Common.{◌≡◌, ◌∙◌, ap, arith, length, subst, sym, List, ℕ}
use Rattle.std.proofs.lemmas.List.FromFn.{length-map-range_with_len}
use Rattle.trace_ops.specs.Ops.{AreOwn, Ops}
use Rattle.trace_ops.specs.RankOps.{ops_of}
use Rattle.trace_node.specs.Answer.{IsAnswerBy}
use Rattle.trace_node.specs.ByRank.{AreWalls}
use Rattle.trace_node.proofs.ByRank.{walls_alike, walls_tell}
use Rattle.trace_node.proofs.by_rank.RankByRank.into_answer_with_ops.Goals as goal

pub of_all-requires : goal.of_all-requires
of_all-requires c = record { own = subst (λ (l : List Ops). AreOwn 0 l) (sym c.requires.1.ops) (c.ops_laws.ensures.all c.args.layout.now c.requires.0) }

pub answer_of-requires-clause-few : goal.answer_of-requires-clause-few
answer_of-requires-clause-few c =
    let n = ap length (c.ops-own.ensures ∙ c.in_ok-index.ensures ∙ c.requires.1.ops) ∙ length-map-range_with_len (ops_of c.args.layout.now c.requires.0) 0 c.args.layout.now.ranks in
    omega (arith, n, c.known.ensures.few_ranks)

pub returns : goal.returns
returns c view told =
    let layout = c.args.layout.now in
    let ops = c.args.self.ops.items in
    let walls = c.args.self.walls.items in
    let own : c.ops-own.result.now ≡ ops = c.ops-own.ensures ∙ c.in_ok-index.ensures in
    let tell = walls_tell view ops walls layout.ranks told.below (told.walls ∙ walls_alike layout view ops layout.ranks told.ops) in
    let here : AreWalls view c.ops-own.result.now c.deref.result.now = subst (λ (l : List ℕ). AreWalls view c.ops-own.result.now l) (sym c.deref.ensures.value)
    (subst (λ (l : List Ops). AreWalls view l walls) (sym own) tell) in
    (subst (λ (l : List Ops). IsAnswerBy layout view l c.in_ok-answer.answer) (own ∙ told.ops) (c.in_ok-answer.ensures view told.reading here), c.in_ok-index.ensures ∙ told.ops)
