use Rattle.std.proofs.Common.{◌∙◌, List, ap, length, set, arith}
use Rattle.std.proofs.lemmas.List.FromFn.{length-map-range_with_len}
use Rattle.trace_ops.specs.Ops.{Ops}
use Rattle.trace_ops.specs.RankOps.{ops_of}
use Rattle.trace_check.proofs.Elsewhere.{followed_all, followed_none}
use Rattle.trace_check.proofs.checker.Checker.reading.Goals as goal
use Rattle.trace_check.proofs.checker.Checker.reading.Goals.{then-rank-ranks+in_ok-ops_of+in_ok-set, else-rank-ranks}

pub set-requires-clause-rank : goal.set-requires-clause-rank
set-requires-clause-rank c =
    let wide = ap length c.self.invariant ∙ length-map-range_with_len (ops_of c.self.inside.layout.now c.self.inside.know) 0 c.self.inside.layout.now.ranks in
    let inside = c.if-rank-ranks.true in
    let ranks = c.ranks.ensures.value in
    omega (arith, wide, inside, ranks)

pub invariant_of-result : goal.invariant_of-result
invariant_of-result c =
    let layout = c.self.inside.layout.now in
    let know = c.self.inside.know in
    elim c.if-rank-ranks.branch [
      | then-rank-ranks+in_ok-ops_of+in_ok-set w ↦ (
          let inside = w.if-rank-ranks.true in
          let ranks = c.ranks.ensures.value in
          w.index-is ∙ w.in_ok-set.ensures.ok ∙ ap (λ (l : List Ops). set l c.rank-rank.result w.in_ok-ops_of.field-0) c.self.invariant
          ∙ followed_all c.join_laws.ensures.cells c.view_laws.ensures.cells c.prefix_laws.ensures.events c.prefix_laws.ensures.one_list c.prefix_laws.ensures.beyond
          layout know c.take_piece.new.self c.args.piece c.in_ok-take_piece.ensures.ok c.rank-rank.result w.in_ok-ops_of.field-0 c.rank-rank.ensures
          (omega (arith, inside, ranks)) w.in_ok-ops_of.ensures)
      | else-rank-ranks w ↦ (
          let outside = w.if-rank-ranks.false in
          let ranks = c.ranks.ensures.value in
          w.index-is ∙ c.self.invariant
          ∙ followed_none c.join_laws.ensures.cells c.view_laws.ensures.cells c.prefix_laws.ensures.events c.prefix_laws.ensures.one_list c.prefix_laws.ensures.beyond
          layout know c.take_piece.new.self c.args.piece c.in_ok-take_piece.ensures.ok c.rank-rank.result c.rank-rank.ensures (omega (arith, outside, ranks)))
    ]
