use Rattle.std.proofs.Common.{rules, arith, refl, ◌≡◌, ◌∙◌, ◌+◌, ◌<◌, ◌++◌, [], List, Some, None, false, sym, subst, length}
use Rattle.std.specs.List.{slice_get}
use Rattle.std.proofs.lemmas.Option.{slice_get_within}
use Rattle.trace_node.specs.Node.{Held}
use Rattle.command_runs.specs.Replays.{IsTextOf, node_text}
use Rattle.command_runs.proofs.Nodes.{appends_both, appends_none, at_end, fresh_at, front_after, on_err, text_more}
use Rattle.command_runs.proofs.verbs.replay.write_nodes.Goals as goal

pub loop-node-init : goal.loop-node-init
loop-node-init g c = record { within = omega arith; written = ([], ([], tt, refl), appends_none _); failures = refl }

pub loop-node-preserved : goal.loop-node-preserved
loop-node-preserved g c =
    let nodes = c.args.world.now.nodes in
    let at : slice_get nodes c.loop-node.n ≡ Some c.in-Some.node.now = sym c.in-Some.ensures in
    let below : c.loop-node.n < length nodes = slice_get_within nodes c.loop-node.n c.in-Some.node.now at in
    let w = c.loop-node.invariant.written in
    record {
      within = omega (arith, below);
      written = (
        w.0 ++ node_text c.loop-node.n c.in-Ok.answer.now,
        text_more nodes c.loop-node.n c.in-Some.node.now c.in-Ok.answer.now w.0 at w.1 c.in-Ok.ensures.ok,
        appends_both _ _ _ w.0 (node_text c.loop-node.n c.in-Ok.answer.now) w.2 c.in_ok-write_node.ensures.ok,
      );
      failures = c.in_ok-write_node.ensures.failures.1 ∙ c.loop-node.invariant.failures;
    }

pub loop-node-smaller : goal.loop-node-smaller
loop-node-smaller g c =
    let nodes = c.args.world.now.nodes in
    let at : slice_get nodes c.loop-node.n ≡ Some c.in-Some.node.now = sym c.in-Some.ensures in
    let below : c.loop-node.n < length nodes = slice_get_within nodes c.loop-node.n c.in-Some.node.now at in
    omega (arith, below)

pub unreachable-requires : goal.unreachable-requires
unreachable-requires g c =
    let nodes = c.args.world.now.nodes in
    let at : slice_get nodes c.loop-node.n ≡ Some c.in-Some.node.now = sym c.in-Some.ensures in
    let fresh : c.in-Some.node.now.is_stale ≡ false = fresh_at nodes c.loop-node.n c.in-Some.node.now c.requires.fresh at in
    search (rules, fresh)

pub returns-in_err-write_node-clause-err : goal.returns-in_err-write_node-clause-err
returns-in_err-write_node-clause-err g c =
    let nodes = c.args.world.now.nodes in
    let at : slice_get nodes c.loop-node.n ≡ Some c.in-Some.node.now = sym c.in-Some.ensures in
    let w = c.loop-node.invariant.written in
    on_err c.from_residual.result (
      w.0 ++ node_text c.loop-node.n c.in-Ok.answer.now,
      (c.loop-node.n + 1, text_more nodes c.loop-node.n c.in-Some.node.now c.in-Ok.answer.now w.0 at w.1 c.in-Ok.ensures.ok),
      front_after _ _ _ w.0 (node_text c.loop-node.n c.in-Ok.answer.now) w.2 c.in_err-write_node.ensures.err,
    )

pub returns-clause-ok : goal.returns-clause-ok
returns-clause-ok g c =
    let nodes = c.args.world.now.nodes in
    let end : slice_get nodes c.loop-node.n ≡ None = sym c.in_default.ensures in
    let w = c.loop-node.invariant.written in
    (w.0, subst (λ (ns : List Held). IsTextOf ns w.0) (at_end nodes c.loop-node.n end) w.1, w.2)
