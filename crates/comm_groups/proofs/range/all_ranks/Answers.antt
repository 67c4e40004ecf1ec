use Rattle.std.proofs.Common.{◌≡◌, ℕ, ◌+◌, ◌<◌, ◌≤◌, List, ◌++◌, true, length, take, get_or, arith, ap, sym, ◌∙◌}
use Rattle.std.specs.List.{flat_map}
use Rattle.comm_groups.specs.declared.range.RankRange.{RankRange}
use Rattle.comm_groups.specs.Ranges.{count_of, is_range, ranks_of}
use Rattle.comm_groups.proofs.Spans.{are_more, count_more, long_ranges, no_range, ranks_more}
use Rattle.comm_groups.proofs.range.all_ranks.Goals as goal

pub returns-then-count_of-size-clause-none : goal.returns-then-count_of-size-clause-none
returns-then-count_of-size-clause-none c =
    let ranges : List RankRange = c.args.ranges.now in
    let i : ℕ = c.loop-range.range-index in
    let below : i < length ranges = omega arith in
    let count : c.count_of.result ≡ count_of (get_or ranges i no_range) = c.count_of.ensures in
    let items : length c.loop-range.ranks.items ≡ length (flat_map ranks_of (take i ranges)) = ap (λ (l : List ℕ). length l) c.loop-range.invariant.ranks in
    let long : c.args.size < length (flat_map ranks_of (take i ranges)) + count_of (get_or ranges i no_range)
    = omega (arith, count, items, c.len.ensures, c.if-count_of-size.true, c.loop-range.ranks.ok, c.loop-range.invariant.few) in
    long_ranges c.args.size ranges i below long

pub loop-range-preserved : goal.loop-range-preserved
loop-range-preserved c =
    let ranges : List RankRange = c.args.ranges.now in
    let i : ℕ = c.loop-range.range-index in
    let below : i < length ranges = omega arith in
    let is : is_range (get_or ranges i no_range) ≡ true = sym c.is_range.ensures ∙ c.if-not-is_range.false in
    let count : c.count_of.result ≡ count_of (get_or ranges i no_range) = c.count_of.ensures in
    let items : length c.loop-range.ranks.items ≡ length (flat_map ranks_of (take i ranges)) = ap (λ (l : List ℕ). length l) c.loop-range.invariant.ranks in
    let pushed : c.push_ranks.new.ranks.items ≡ flat_map ranks_of (take (i + 1) ranges)
    = c.in_ok-push_ranks.ensures ∙ ap (λ (l : List ℕ). l ++ ranks_of (get_or ranges i no_range)) c.loop-range.invariant.ranks ∙ sym (ranks_more ranges i below) in
    let length' : length c.push_ranks.new.ranks.items ≡ length (flat_map ranks_of (take i ranges)) + count_of (get_or ranges i no_range)
    = ap (λ (l : List ℕ). length l) pushed ∙ count_more ranges i below in
    record {
      all = are_more ranges i below c.loop-range.invariant.all is;
      ranks = pushed;
      few = omega (arith, count, items, length', c.len.ensures, c.if-count_of-size.false, c.loop-range.ranks.ok, c.loop-range.invariant.few);
    }
