use Rattle.std.proofs.Common.{◌≡◌, rules, ◌+◌, List, arith, subst, ◌∙◌, take}
use Rattle.std.proofs.lemmas.List.{take_all}
use Rattle.mpi_model.specs.declared.message.Receive.{Receive}
use Rattle.trace_pair.specs.Indexed.{with_kind}
use Rattle.trace_pair.specs.Settled.{SettlesAmong, IsOfferedAt}
use Rattle.trace_pair.proofs.PartKinds.{is_of_kind, part_done, part_next, zip_at}
use Rattle.trace_pair.proofs.SettlingParts.{same_done}
use Rattle.trace_pair.proofs.Tabled.{has_at}
use Rattle.trace_pair.proofs.batch.settle_receives.Goals as goal

pub loop-i-preserved : goal.loop-i-preserved
loop-i-preserved c =
    let i = c.loop-i.i in
    let call = c.args.call.now in
    let lt = c.loop-i-test.true in
    let w = c.loop-i.invariant in
    record {
      kept = c.in_ok-settle_receive.ensures.kept ∙ w.kept;
      settled = λ after ms qs more done adds offered next s.
          let same : c.is_none.result ≡ c.args.any_tag = search rules in
          let is = is_of_kind c.args.any_tag c.is_none.result _ c.is_none.ensures same in
          let q = zip_at (IsOfferedAt after ms qs more) call c.args.found.now i _ _ offered lt in
          let t = c.in_ok-settle_receive.ensures.settled after ms qs more call (with_kind c.args.any_tag (take i call) done) adds (has_at call i _ lt) q (part_next c.args.any_tag done call i _ lt is qs adds.distinct next) (w.settled after ms qs more done adds offered next s) in
          same_done after ms more _ more c.settle_receive.new.batch t (with_kind c.args.any_tag (take (i + 1) call) done) (part_done c.args.any_tag done call i _ lt is);
    }

pub returns-clause-settled : goal.returns-clause-settled
returns-clause-settled c = λ after ms qs more done adds offered next s.
    subst (λ (l : List Receive). SettlesAmong after ms more (with_kind c.args.any_tag l done) more c.loop-i.batch) (take_all c.loop-i.i c.args.call.now (omega arith)) (c.loop-i.invariant.settled after ms qs more done adds offered next s)
