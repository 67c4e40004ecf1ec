use Rattle.std.proofs.Common.{◌∙◌, ap, sym, Vec, Global, ℕ}
use Rattle.trace_stuck.proofs.Orders.{is_equal}
use Rattle.trace_stuck.proofs.Kept.{alike_ranks, alike_one, alike_all}
use Rattle.trace_stuck.proofs.distinct.is_repeated.Goals as goal

pub returns-in-Rank-Rank : goal.returns-in-Rank-Rank
returns-in-Rank-Rank c = λ h.
    alike_ranks c.args.first.now c.args.second.now c.in-Rank-Rank.r c.in-Rank-Rank.s c.in-Rank-Rank.is-0 c.in-Rank-Rank.is-1 (is_equal c.in-Rank-Rank.r c.in-Rank-Rank.s h)

pub returns-in-OneRank-OneRank : goal.returns-in-OneRank-OneRank
returns-in-OneRank-OneRank c = λ h.
    alike_one c.args.first.now c.args.second.now c.in-OneRank-OneRank.ranks c.in-OneRank-OneRank.others c.in-OneRank-OneRank.is-0 c.in-OneRank-OneRank.is-1
    (sym (c.deref-in-OneRank-OneRank.ensures.value ∙ ap (λ (v : Vec ℕ Global). v.items) c.deref.ensures) ∙ c.are_equal.ensures h
    ∙ (c.deref-in-OneRank-OneRank-3.ensures.value ∙ ap (λ (v : Vec ℕ Global). v.items) c.deref-in-OneRank-OneRank-2.ensures))

pub returns-in-AllRanks-AllRanks : goal.returns-in-AllRanks-AllRanks
returns-in-AllRanks-AllRanks c = λ h.
    alike_all c.args.first.now c.args.second.now c.in-AllRanks-AllRanks.ranks c.in-AllRanks-AllRanks.others c.in-AllRanks-AllRanks.is-0 c.in-AllRanks-AllRanks.is-1
    (sym (c.deref-in-AllRanks-AllRanks-2.ensures.value ∙ ap (λ (v : Vec ℕ Global). v.items) c.deref-in-AllRanks-AllRanks.ensures) ∙ c.are_equal-in-AllRanks-AllRanks.ensures h
    ∙ (c.deref-in-AllRanks-AllRanks-4.ensures.value ∙ ap (λ (v : Vec ℕ Global). v.items) c.deref-in-AllRanks-AllRanks-3.ensures))
