use Rattle.std.proofs.Common.{refl}
use Rattle.trace_world.proofs.Answers.{whole}
use Rattle.trace_world.proofs.Following.{caused, goes_on, stops, same_then}
use Rattle.trace_world.proofs.Possible.{could_go_on, could_stop}
use Rattle.trace_world.proofs.world.World.hold_steps.Goals as goal

pub loop-i-preserved : goal.loop-i-preserved
loop-i-preserved c = record {
  follows = goes_on _ _ _ _ _ _ c.loop-i-test.true c.index-steps-i.is c.loop-i.invariant.follows (c.in_default.ensures.done refl);
  same = same_then _ _ _ c.loop-i.invariant.same c.in_default.ensures.same;
  could = could_go_on _ _ _ _ _ _ c.loop-i-test.true c.index-steps-i.is c.loop-i.invariant.follows c.loop-i.invariant.same c.loop-i.invariant.could c.in_default.ensures.outcome;
}

pub returns-in-Err : goal.returns-in-Err
returns-in-Err c = record {
  ok = tt;
  possible = tt;
  err = (c.loop-i-test.true, stops _ _ _ _ _ _ _ c.loop-i-test.true c.index-steps-i.is c.loop-i.invariant.follows c.in-Err.ensures.done c.in-Err.ensures.undone);
  possible_before = could_stop _ _ _ _ _ _ c.loop-i-test.true c.index-steps-i.is c.loop-i.invariant.follows c.loop-i.invariant.same c.loop-i.invariant.could c.in-Err.ensures.outcome;
  cause = caused _ _ _ _ _ _ c.loop-i-test.true c.index-steps-i.is c.in-Err.ensures.outcome c.in-Err.ensures.undone;
  whole = whole _ _ _ _ c.in-Err.ensures.answers;
  same = same_then _ _ _ c.loop-i.invariant.same c.in-Err.ensures.same;
}
