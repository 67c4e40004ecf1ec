use Rattle.std.proofs.Common.{reverse}
use Rattle.trace_know.proofs.Merging.{above-first, lasts-meet, patch-over, run-dropped, runs-over}
use Rattle.trace_know.proofs.patches.merge_last.Goals as goal

pub is_behind-requires-clause-above : goal.is_behind-requires-clause-above
is_behind-requires-clause-above c = above-first 0 c.args.runs.now.items (reverse c.args.falling.now.items) c.requires.merging.before_runs

pub is_behind-requires-clause-others : goal.is_behind-requires-clause-others
is_behind-requires-clause-others c = above-first 0 c.args.patch.now.items (reverse c.args.falling.now.items) c.requires.merging.before_patch

pub returns-then-is_behind-clause-merging : goal.returns-then-is_behind-clause-merging
returns-then-is_behind-clause-merging c = (runs-over c.pop.result c.pop.ensures.items c.push_reserved.ensures.items c.requires.merging (c.is_behind.ensures.behind c.if-is_behind.true)).merging

pub returns-then-is_behind-clause-view : goal.returns-then-is_behind-clause-view
returns-then-is_behind-clause-view c = (runs-over c.pop.result c.pop.ensures.items c.push_reserved.ensures.items c.requires.merging (c.is_behind.ensures.behind c.if-is_behind.true)).view

pub is_behind-requires-2-clause-above : goal.is_behind-requires-2-clause-above
is_behind-requires-2-clause-above c = above-first 0 c.args.patch.now.items (reverse c.args.falling.now.items) c.requires.merging.before_patch

pub is_behind-requires-2-clause-others : goal.is_behind-requires-2-clause-others
is_behind-requires-2-clause-others c = above-first 0 c.args.runs.now.items (reverse c.args.falling.now.items) c.requires.merging.before_runs

pub returns-then-is_behind-2-clause-merging : goal.returns-then-is_behind-2-clause-merging
returns-then-is_behind-2-clause-merging c =
    (patch-over c.pop-then-is_behind-2.result c.pop-then-is_behind-2.ensures.items c.push_reserved-then-is_behind-2.ensures.items c.requires.merging (c.is_behind-2.ensures.behind c.if-is_behind-2.true)).merging

pub returns-then-is_behind-2-clause-view : goal.returns-then-is_behind-2-clause-view
returns-then-is_behind-2-clause-view c =
    (patch-over c.pop-then-is_behind-2.result c.pop-then-is_behind-2.ensures.items c.push_reserved-then-is_behind-2.ensures.items c.requires.merging (c.is_behind-2.ensures.behind c.if-is_behind-2.true)).view

pub returns-clause-merging : goal.returns-clause-merging
returns-clause-merging c =
    (run-dropped c.pop-2.result c.pop-2.ensures.items c.requires.merging
    (lasts-meet c.args.runs.now.items c.args.patch.now.items c.requires.some (c.is_behind.ensures.reached c.if-is_behind.false) (c.is_behind-2.ensures.reached c.if-is_behind-2.false))).merging

pub returns-clause-view : goal.returns-clause-view
returns-clause-view c =
    (run-dropped c.pop-2.result c.pop-2.ensures.items c.requires.merging
    (lasts-meet c.args.runs.now.items c.args.patch.now.items c.requires.some (c.is_behind.ensures.reached c.if-is_behind.false) (c.is_behind-2.ensures.reached c.if-is_behind-2.false))).view
