use Rattle.std.proofs.Common.{◌∙◌, arith, sym}
use Rattle.trace_stuck.specs.Graph.{edge, is_up}
use Rattle.trace_stuck.proofs.Labels.{has_label}
use Rattle.trace_stuck.proofs.Spreading.{begun_more}
use Rattle.trace_stuck.proofs.search.begin.Goals as goal
use Rattle.trace_stuck.proofs.search.begin.Goals.{else-is_up-via-then-is_up+else-is_bare, else-is_up-via-else-is_up}

pub returns-else-is_up : goal.returns-else-is_up
returns-else-is_up c = λ b.
    begun_more (edge c.args.edges.now) (is_up c.args.starts.now) c.args.first c.args.labels.now (λ h. elim c.else-is_up.branch [
      | else-is_up-via-then-is_up+else-is_bare w ↦ has_label c.args.labels.now c.args.first (sym w.is_bare.ensures ∙ w.if-is_bare.false) (omega (arith, c.requires.there, c.requires.within))
      | else-is_up-via-else-is_up w ↦ absurd (cc (h, c.is_up.ensures, w.if-is_up.false))
    ]) b
