use Rattle.std.proofs.Common.{◌+◌, ◌<◌, length, drop, sym, ap, ◌∙◌, arith}
use Rattle.trace_know.specs.Listing.{run_len}
use Rattle.trace_know.proofs.Behind.{walk-first}
use Rattle.trace_know.proofs.Listing.{next_run}
use Rattle.trace_know.proofs.Walks.{walk-ended}
use Rattle.trace_know.proofs.walk.Walk.run_len.Goals as goal

pub returns-then-self-count : goal.returns-then-self-count
returns-then-self-count c = sym (ap run_len (walk-ended c.self.inside.runs.now.items c.self.inside.index c.self.inside.at (omega arith) c.self.invariant)) ∙ ap run_len c.self.view_is

pub returns : goal.returns
returns c =
    let items = c.self.inside.runs.now.items in
    let index = c.self.inside.index in
    let run = c.at.result.now in
    let inside : index < length items = omega arith in
    sym (walk-first c.self.inside.at (drop index items) run (drop (index + 1) items) c.len.result (next_run items index run inside (sym c.at.ensures)) c.len.ensures c.self.invariant) ∙ ap run_len c.self.view_is
