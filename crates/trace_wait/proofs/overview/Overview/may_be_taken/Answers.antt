use Rattle.std.proofs.Common.{◌∙◌, ◌&&◌, List, sym, ap}
use Rattle.std.specs.Prelude.{not}
use Rattle.std.specs.List.{list_any}
use Rattle.mpi_model.specs.Fit.{envelopes_fit}
use Rattle.trace_ops.specs.Ops.{Ops}
use Rattle.trace_pair.specs.After.{comes_after}
use Rattle.trace_wait.specs.Matching.{free_receives, may_take, unpaired_receives}
use Rattle.trace_wait.specs.Parts.{Run}
use Rattle.trace_wait.proofs.Free.{taken_by_free, taken_by_none}
use Rattle.trace_wait.proofs.overview.Overview.may_be_taken.Goals as goal

pub returns-then-not-is_void : goal.returns-then-not-is_void
returns-then-not-is_void c =
    let s = c.self.inside in
    let m = c.args.m.now in
    let free = free_receives s.ops.now s.pairs.now.pairs in
    c.may_take.ensures free c.self.invariant.1
    ∙ ap (λ (ops : List Ops). list_any (λ q. envelopes_fit m q && not (comes_after ops m q)) free) c.self.invariant.6
    ∙ taken_by_free s.ops.now m s.pairs.now.pairs (sym c.is_void.ensures ∙ c.if-not-is_void.true)
    ∙ ap (λ (s : Run). list_any (may_take s.ops m) (unpaired_receives s.ops s.pairs)) c.self.view_is

pub returns-else-not-is_void : goal.returns-else-not-is_void
returns-else-not-is_void c =
    let m = c.args.m.now in
    ap not c.if-not-is_void.false
    ∙ taken_by_none c.args.self.now.ops m (sym c.is_void.ensures ∙ c.if-not-is_void.false) (unpaired_receives c.args.self.now.ops c.args.self.now.pairs)
