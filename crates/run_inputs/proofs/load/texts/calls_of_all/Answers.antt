use Rattle.std.proofs.Common.{rules, arith, ◌≡◌, ◌∙◌, ◌+◌, ◌-◌, ◌^◌, ◌<◌, ◌++◌, ◌∷◌, [], ℕ, List, Option, inr, ap, sym, subst, length, min, take}
use Rattle.comm_makings.specs.declared.calls.RankCalls.{RankCalls}
use Rattle.text_layouts.specs.Seats.{kept}
use Rattle.run_inputs.specs.TextCalls.{AllSay, RefusesAt, SaysAt}
use Rattle.run_inputs.specs.TextReads.{text_of_rank}
use Rattle.run_inputs.proofs.Reading.{counted, say_more}
use Rattle.run_inputs.proofs.Seats.{rank_more, rank_there}
use Rattle.run_inputs.proofs.load.texts.calls_of_all.Goals as goal
use Rattle.run_inputs.proofs.Runs.{handed_on}

pub returns-in_err-of_rank-clause-err : goal.returns-in_err-of_rank-clause-err
returns-in_err-of_rank-clause-err g c =
    let file = g.O.Opener.file c.args.files.now in
    let i = c.loop-rank.invariant in
    let rank = c.loop-rank.rank in
    let seats = c.args.seats.now in
    let lt : rank < length seats = omega arith in
    let fault = c.in_err-of_rank.field-0.0 in
    let refuses : RefusesAt file (text_of_rank seats rank) fault = rw (i.seats, i.files) at c.in_err-of_rank.ensures.err in
    handed_on c.from_residual-in_err-of_rank.result _ _ c.from_residual-in_err-of_rank.ensures.1 (inr (record {
      place = rank;
      seat = text_of_rank seats rank;
      there = rank_there seats rank lt;
      ranks = c.loop-rank.ranks.items;
      calls = i.say.0;
      before = i.say.1;
      refused = refuses;
    }))

pub loop-rank-preserved : goal.loop-rank-preserved
loop-rank-preserved g c =
    let file = g.O.Opener.file c.args.files.now in
    let i = c.loop-rank.invariant in
    let rank = c.loop-rank.rank in
    let seats = c.args.seats.now in
    let lt : rank < length seats = omega arith in
    let said : SaysAt file (text_of_rank seats rank) c.in_ok-of_rank.of_rank c.in_ok-of_rank.count = rw (i.seats, i.files) at c.in_ok-of_rank.ensures.ok in
    let total = i.say.0 in
    let count = c.in_ok-of_rank.count in
    let more_say : AllSay file (take (rank + 1) (kept seats)) c.push.new.self.items (total + count) =
    subst (λ (ns : List (Option (List ℕ))). AllSay file ns c.push.new.self.items (total + count)) (sym (rank_more seats rank lt))
    (subst (λ (rs : List RankCalls). AllSay file (take rank (kept seats) ++ text_of_rank seats rank ∷ []) rs (total + count)) (sym c.in_ok-push.ensures.items)
    (say_more file (take rank (kept seats)) (text_of_rank seats rank) c.loop-rank.ranks.items c.in_ok-of_rank.of_rank total count i.say.1 said)) in
    record {
      seats = search rules;
      files = search rules;
      say = (total + count, more_say, c.saturating_add-calls.ensures ∙ ap (λ (k : ℕ). min (k + count) (2 ^ 64 - 1)) i.say.2 ∙ counted (2 ^ 64 - 1) total count);
    }
