use Rattle.std.proofs.Common.{length, sym, ap, ◌∙◌}
use Rattle.trace_know.proofs.Packing.{packed-length}
use Rattle.trace_know.proofs.run_list.RunList.len.Goals as goal

pub returns : goal.returns
returns c = sym (packed-length c.self.inside.len c.self.inside.room c.self.inside.chunks.items c.self.invariant.0) ∙ ap (λ r. length r.items) c.self.view_is
