use Rattle.std.proofs.Common.{Bool, ℕ, ◌≡◌, nat_lt, rules, true, false, arith}
use Rattle.std.proofs.lemmas.Bool.{ltb-true, ltb-false}
use Rattle.std.proofs.lemmas.List.Sorted.{IsPartitionPoint-from_clause, IsPartitionedBy-ltb}
use Rattle.run_files.specs.Manifests.{PieceParts}
use Rattle.command_runs.proofs.pieces.rank_reads.start_of_rank.Goals as goal

pub returns : goal.returns
returns c =
    let lower : PieceParts → Bool = λ p. nat_lt p.rank c.args.rank in
    let point = IsPartitionPoint-from_clause lower c.args.pieces.now c.partition_point.result c.partition_point.ensures.partitioned
    (IsPartitionedBy-ltb (λ (p : PieceParts). p.rank) c.args.pieces.now c.args.rank c.requires) (λ a r q k. search rules) in
    record {
      bound = c.partition_point.ensures.bound;
      lower = λ k d low lt. ltb-true _ _ (point.0 k d low lt);
      next = λ lt d. let no = ltb-false _ _ (point.1 c.partition_point.result d (omega arith) lt) in omega (arith, no);
    }
