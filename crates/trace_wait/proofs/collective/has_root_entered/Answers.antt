use Rattle.std.proofs.Common.{◌∙◌, ap, List, ℕ}
use Rattle.std.specs.Prelude.{nat_lt, slice_index}
use Rattle.trace_wait.specs.Parts.{members}
use Rattle.trace_wait.proofs.Tables.{count_there}
use Rattle.trace_wait.proofs.collective.has_root_entered.Goals as goal

pub returns : goal.returns
returns c =
    c.has_more.ensures ∙ ap (λ (l : List ℕ). nat_lt c.args.k (slice_index l c.args.place)) c.calls_on.ensures
    ∙ ap (nat_lt c.args.k) (count_there c.args.run.now.ops c.args.comm (members c.args.run.now c.args.comm) c.args.place c.args.root c.requires)
