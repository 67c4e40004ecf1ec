use Rattle.std.proofs.Common.{◌≡◌, ◌≤◌, ◌-◌, ℕ, List, length, take}
use Rattle.std.specs.Io.KnownBytes.{Appends}
use Rattle.command_runs.specs.Replays.{IsTextOf}
use Rattle.command_runs.proofs.verbs.replay.write_nodes.Given as goal

abbrev pub invariant-loop-node : goal.invariant-loop-node
invariant-loop-node g l = record {
  within : l.n ≤ length l.world.nodes;
  written : (text : List ℕ) × IsTextOf (take l.n l.world.nodes) text × Appends (g.W.Write.written l.fn.out) (g.W.Write.written l.out) text;
  failures : g.W.Write.failures l.out ≡ g.W.Write.failures l.fn.out;
}

abbrev pub decreases-loop-node : goal.decreases-loop-node
decreases-loop-node g l = length l.world.nodes - l.n
