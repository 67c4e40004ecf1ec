use Rattle.std.proofs.Common.{refl}
use Rattle.trace_world.proofs.Answers.{answered_more, loses}
use Rattle.trace_world.proofs.Following.{caused, goes_on, stops, same_then}
use Rattle.trace_world.proofs.Possible.{could_go_on, could_stop}
use Rattle.trace_world.proofs.world.World.run_each.Goals as goal

pub loop-k-preserved : goal.loop-k-preserved
loop-k-preserved c = record {
  follows = goes_on _ _ _ _ _ _ c.loop-k-test.true c.index-steps-k.is c.loop-k.invariant.follows (c.in_default.ensures.done refl);
  fresh = λ i h. c.in_default.ensures.fresh i (c.loop-k.invariant.fresh i h);
  answered = answered_more _ _ _ _ _ _ c.loop-k-test.true c.index-steps-k.is c.in_default.ensures.fresh c.in_default.ensures.answers c.loop-k.invariant.answered;
  same = same_then _ _ _ c.loop-k.invariant.same c.in_default.ensures.same;
  could = could_go_on _ _ _ _ _ _ c.loop-k-test.true c.index-steps-k.is c.loop-k.invariant.follows c.loop-k.invariant.same c.loop-k.invariant.could c.in_default.ensures.outcome;
}

pub returns-in-Err : goal.returns-in-Err
returns-in-Err c = record {
  ok = tt;
  possible = tt;
  fresh = tt;
  answered = tt;
  err = (c.loop-k-test.true, stops _ _ _ _ _ _ _ c.loop-k-test.true c.index-steps-k.is c.loop-k.invariant.follows c.in-Err.ensures.done c.in-Err.ensures.undone);
  possible_before = could_stop _ _ _ _ _ _ c.loop-k-test.true c.index-steps-k.is c.loop-k.invariant.follows c.loop-k.invariant.same c.loop-k.invariant.could c.in-Err.ensures.outcome;
  cause = caused _ _ _ _ _ _ c.loop-k-test.true c.index-steps-k.is c.in-Err.ensures.outcome c.in-Err.ensures.undone;
  lost = loses _ _ _ _ _ _ _ c.loop-k-test.true c.index-steps-k.is c.loop-k.invariant.fresh c.in-Err.ensures.answers c.in-Err.ensures.outcome c.in-Err.ensures.undone;
  same = same_then _ _ _ c.loop-k.invariant.same c.in-Err.ensures.same;
}
