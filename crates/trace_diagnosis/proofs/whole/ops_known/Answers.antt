use Rattle.std.proofs.Common.{◌∙◌, List, ap, arith, length, subst, sym}
use Rattle.std.proofs.lemmas.List.FromFn.{length-map-range_with_len}
use Rattle.trace_ops.specs.Ops.{AreOwn, Ops}
use Rattle.trace_ops.specs.RankOps.{ops_of}
use Rattle.trace_diagnosis.proofs.whole.ops_known.Goals as goal

pub returns-clause-few : goal.returns-clause-few
returns-clause-few c =
    let n = ap length c.requires ∙ length-map-range_with_len (ops_of c.args.layout.now c.args.know.now) 0 c.args.layout.now.ranks in
    omega (arith, n, c.known.ensures.few_ranks)

pub returns-clause-own : goal.returns-clause-own
returns-clause-own c = subst (λ (os : List Ops). AreOwn 0 os) (sym c.requires) (c.ops_laws.ensures.all c.args.layout.now c.args.know.now)

pub returns-clause-ranks : goal.returns-clause-ranks
returns-clause-ranks c = ap length c.requires ∙ length-map-range_with_len (ops_of c.args.layout.now c.args.know.now) 0 c.args.layout.now.ranks
