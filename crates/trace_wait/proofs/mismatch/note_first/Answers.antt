use Rattle.std.proofs.Common.{◌∙◌, Bool, Some, ap, cond}
use Rattle.std.specs.BTreeMap.{get}
use Rattle.trace_wait.specs.Patterns.{place_cmp}
use Rattle.trace_wait.proofs.Keys.{place_same}
use Rattle.trace_wait.proofs.mismatch.note_first.Goals as goal

pub returns : goal.returns
returns c = λ x n.
    c.in_ok-insert.ensures.updates.0 (x, n)
    ∙ ap (λ (b : Bool). cond b (Some c.args.first) (get place_cmp c.args.firsts.now (x, n))) (place_same (c.args.comm, c.args.k) (x, n))
