use Rattle.std.proofs.Common.{◌≡◌, ℕ, ◌<◌, true, false, length, take, get_or, arith, ◌∙◌, sym}
use Rattle.std.proofs.lemmas.Grind.{common_steps}
use Rattle.comm_groups.specs.Groups.{has, has_double}
use Rattle.comm_groups.proofs.Doubles.{doubled_at, has_more, single_more}
use Rattle.comm_groups.proofs.group.has_double.Goals as goal

pub returns-then-not-is_new : goal.returns-then-not-is_new
returns-then-not-is_new c =
    let below : c.loop-rank.rank-index < length c.args.ranks.now = omega arith in
    let seen : has (take c.loop-rank.rank-index c.args.ranks.now) (get_or c.args.ranks.now c.loop-rank.rank-index 0) ≡ true = grind (arith, common_steps, c.loop-rank.invariant.seen (get_or c.args.ranks.now c.loop-rank.rank-index 0)) in
    sym (doubled_at c.args.ranks.now c.loop-rank.rank-index below seen)

pub loop-rank-preserved : goal.loop-rank-preserved
loop-rank-preserved c =
    let below : c.loop-rank.rank-index < length c.args.ranks.now = omega arith in
    let unseen : has (take c.loop-rank.rank-index c.args.ranks.now) (get_or c.args.ranks.now c.loop-rank.rank-index 0) ≡ false = grind (arith, common_steps, c.loop-rank.invariant.seen (get_or c.args.ranks.now c.loop-rank.rank-index 0)) in
    record {
      seen = λ q. grind (arith, common_steps, c.loop-rank.invariant.seen q);
      single = single_more c.args.ranks.now c.loop-rank.rank-index below c.loop-rank.invariant.single unseen;
    }
