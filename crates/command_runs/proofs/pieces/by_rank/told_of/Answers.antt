use Rattle.std.proofs.Common.{rules, inl, inr, arith, take, drop, subst, sym}
use Rattle.std.specs.Prelude.{slice_range}
use Rattle.std.specs.List.Sorted.{IsNonDecreasingBy}
use Rattle.command_runs.specs.Ranks.{IsShare, TellNext}
use Rattle.command_runs.specs.Refusals.{RefusesFirst}
use Rattle.command_runs.specs.Traces.{IsKnown}
use Rattle.command_runs.proofs.ByRank.{first_later, higher, tell_next, tell_none, three_parts}
use Rattle.command_runs.proofs.Runs.{handed_on}
use Rattle.command_runs.proofs.RankReads.{front_within}
use Rattle.command_runs.proofs.pieces.by_rank.told_of.Goals as goal

pub loop-rank-init : goal.loop-rank-init
loop-rank-init g c = record {
  bound = omega arith;
  tell = tell_none (g.O.Opener.file c.args.run.now.files.now) c.args.run.now.layout.now c.args.pieces.now _ (c.new-told.ensures c.args.run.now.layout.now);
  rest = λ k d low lt. omega arith;
  run = search rules;
  pieces = search rules;
}

pub with_rank-requires-clause-share : goal.with_rank-requires-clause-share
with_rank-requires-clause-share g c =
    let pieces = c.args.pieces.now in
    let i = c.loop-rank.invariant in
    let rank = c.loop-rank.rank in
    let start = c.loop-rank.start in
    let end = c.end_of_rank-end.result in
    let bound = c.end_of_rank-end.ensures.bound in
    let share : IsShare pieces rank start end = record {
      order = bound.0;
      bound = bound.1;
      lower = front_within pieces rank start i.bound i.tell.below;
      own = c.end_of_rank-end.ensures.own;
      higher = higher pieces rank start end c.requires i.rest bound.0 c.end_of_rank-end.ensures.next;
    } in
    rw i.pieces share

pub with_rank-requires-clause-rises : goal.with_rank-requires-clause-rises
with_rank-requires-clause-rises g c = rw c.loop-rank.invariant.pieces c.requires

pub loop-rank-preserved : goal.loop-rank-preserved
loop-rank-preserved g c =
    let file = g.O.Opener.file c.args.run.now.files.now in
    let layout = c.args.run.now.layout.now in
    let pieces = c.args.pieces.now in
    let i = c.loop-rank.invariant in
    let start = c.loop-rank.start in
    let end = c.end_of_rank-end.result in
    let bound = c.end_of_rank-end.ensures.bound in
    let own : TellNext file layout (slice_range pieces start end) c.loop-rank.rank c.loop-rank.told c.in_ok-told.told = rw (i.run, i.pieces) at c.in_ok-told.ensures.ok in
    let known : IsKnown file (slice_range pieces start end) own.0 = own.1 in
    record {
      bound = bound.1;
      tell = tell_next c.view_laws.ensures.union file layout pieces start end c.loop-rank.rank c.loop-rank.told c.in_ok-told.told own.0 bound.0 bound.1 i.tell
          c.end_of_rank-end.ensures.own known own.2;
      rest = higher pieces c.loop-rank.rank start end c.requires i.rest bound.0 c.end_of_rank-end.ensures.next;
      run = search rules;
      pieces = search rules;
    }

pub returns-in_err-told-clause-err : goal.returns-in_err-told-clause-err
returns-in_err-told-clause-err g c =
    let file = g.O.Opener.file c.args.run.now.files.now in
    let pieces = c.args.pieces.now in
    let i = c.loop-rank.invariant in
    let start = c.loop-rank.start in
    let end = c.end_of_rank-end.result in
    handed_on c.from_residual-in_err-told.result _ _ c.from_residual-in_err-told.ensures.1 (elim c.in_err-told.ensures.err [
      | inl memory ↦ inl memory
      | inr first ↦ (let here : RefusesFirst file (slice_range pieces start end) c.in_err-told.field-0.0 = rw (i.run, i.pieces) at first in
          inr (first_later c.view_laws.ensures.union file (take start pieces) (slice_range pieces start end) (drop end pieces) pieces i.tell.view c.in_err-told.field-0.0
          (three_parts pieces start end c.end_of_rank-end.ensures.bound.0) i.tell.known here))
    ])
