use Rattle.std.proofs.Common.{OnOk, ◌≡◌, ◌++◌, ◌∙◌, List, ap, sym, subst, append-nil, map}
use Rattle.trace_stuck.specs.declared.condition.Condition.{Condition}
use Rattle.trace_stuck.specs.Shape.{shape}
use Rattle.std.specs.List.{flat_map}
use Rattle.trace_diagnosis.specs.Holding.{going}
use Rattle.trace_diagnosis.specs.Needs.{needs_of}
use Rattle.trace_diagnosis.specs.Parts.{of_parts, of_rank, of_ranks, unmet}
use Rattle.diagnosis_value.specs.declared.diagnosis.Need.{Need}
use Rattle.trace_diagnosis.proofs.Needing.{needs_Yes, needs_Rank, needs_Mismatched, needs_All, needs_One, needs_OneRank, needs_AllRanks}
use Rattle.trace_diagnosis.proofs.holding.+needs.Goals as goal

pub push_needs-returns-in-Yes : goal.push_needs-returns-in-Yes
push_needs-returns-in-Yes t c =
    sym (ap (λ (l : List Need). c.args.needs.now.items ++ l) (ap (λ (x : Condition). needs_of (going c.args.others.now) (shape x)) c.in-Yes.is ∙ needs_Yes (going c.args.others.now)) ∙ append-nil c.args.needs.now.items)

pub push_needs-returns-in-Mismatched : goal.push_needs-returns-in-Mismatched
push_needs-returns-in-Mismatched t c =
    subst (λ (l : List Need). OnOk c.push_need.result (c.push_need.new.needs.items ≡ c.args.needs.now.items ++ l))
    (sym (ap (λ (x : Condition). needs_of (going c.args.others.now) (shape x)) c.in-Mismatched.is ∙ needs_Mismatched (going c.args.others.now) c.in-Mismatched.round)) c.push_need.ensures

pub push_needs-returns-in-Rank : goal.push_needs-returns-in-Rank
push_needs-returns-in-Rank t c =
    subst (λ (l : List Need). OnOk c.push_need-in-Rank.result (c.push_need-in-Rank.new.needs.items ≡ c.args.needs.now.items ++ l))
    (sym (ap (λ (x : Condition). needs_of (going c.args.others.now) (shape x)) c.in-Rank.is ∙ needs_Rank (going c.args.others.now) c.in-Rank.rank)) c.push_need-in-Rank.ensures

pub push_needs-returns-in-All : goal.push_needs-returns-in-All
push_needs-returns-in-All t c =
    subst (λ (l : List Need). OnOk c.push_of_all.result (c.push_of_all.new.needs.items ≡ c.args.needs.now.items ++ l))
    (ap (λ (l : List Condition). flat_map (λ p. unmet (going c.args.others.now) (shape p)) l) c.deref.ensures.value
    ∙ sym (ap (λ (x : Condition). needs_of (going c.args.others.now) (shape x)) c.in-All.is ∙ needs_All (going c.args.others.now) c.in-All.parts)) c.push_of_all.ensures

pub push_needs-returns-in-One : goal.push_needs-returns-in-One
push_needs-returns-in-One t c =
    subst (λ (l : List Need). OnOk c.push_of_one.result (c.push_of_one.new.needs.items ≡ c.args.needs.now.items ++ l))
    (ap (λ (l : List Condition). of_parts (going c.args.others.now) l) c.deref-in-One.ensures.value
    ∙ sym (ap (λ (x : Condition). needs_of (going c.args.others.now) (shape x)) c.in-One.is ∙ needs_One (going c.args.others.now) c.in-One.parts)) c.push_of_one.ensures

pub push_needs-returns-in-OneRank : goal.push_needs-returns-in-OneRank
push_needs-returns-in-OneRank t c =
    let a = needs_OneRank (going c.args.others.now) c.in-OneRank.ranks in
    let b = ap (λ (x : Condition). needs_of (going c.args.others.now) (shape x)) c.in-OneRank.is in
    let e : of_ranks (going c.args.others.now) c.deref-in-OneRank-2.result.now ≡ needs_of (going c.args.others.now) (shape c.args.condition.now)
    = cc (a, b, c.deref-in-OneRank.ensures, c.deref-in-OneRank-2.ensures.value) in
    subst (λ (l : List Need). OnOk c.push_one.result (c.push_one.new.needs.items ≡ c.args.needs.now.items ++ l)) e c.push_one.ensures

pub push_needs-returns-in-AllRanks : goal.push_needs-returns-in-AllRanks
push_needs-returns-in-AllRanks t c =
    let a = needs_AllRanks (going c.args.others.now) c.in-AllRanks.ranks in
    let b = ap (λ (x : Condition). needs_of (going c.args.others.now) (shape x)) c.in-AllRanks.is in
    let e : map of_rank c.deref-in-AllRanks-2.result.now ≡ needs_of (going c.args.others.now) (shape c.args.condition.now)
    = cc (a, b, c.deref-in-AllRanks.ensures, c.deref-in-AllRanks-2.ensures.value) in
    subst (λ (l : List Need). OnOk c.push_all.result (c.push_all.new.needs.items ≡ c.args.needs.now.items ++ l)) e c.push_all.ensures
