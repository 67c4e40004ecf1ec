use Rattle.std.proofs.Common.{◌≡◌, ◌++◌, ◌∷◌, [], get_or, map, take}
use Rattle.std.specs.Prelude.{pos}
use Rattle.trace_stuck.specs.Shape.{shape}
use Rattle.trace_wait.specs.Requests.{requests}
use Rattle.trace_wait.proofs.Steps.{requests_more}
use Rattle.trace_wait.proofs.requests.requests_of.Goals as goal

pub loop-x-preserved : goal.loop-x-preserved
loop-x-preserved c =
    let p : map shape c.push_request.new.parts.items ≡ map shape c.loop-x.parts.items ++ requests c.args.run.now c.args.r c.args.posts.now (get_or c.args.xs.now c.loop-x.x-index (pos 0) ∷ []) = c.in_ok-push_request.ensures.parts in
    let i : map shape c.loop-x.parts.items ≡ requests c.args.run.now c.args.r c.args.posts.now (take c.loop-x.x-index c.args.xs.now) = c.loop-x.invariant.parts in
    let m = requests_more c.args.run.now c.args.r c.args.posts.now c.args.xs.now c.loop-x.x-index (pos 0) c.loop-x-test.true in
    record {
      parts = cc (p, i, m);
      made = c.in_ok-push_request.ensures.made;
    }
