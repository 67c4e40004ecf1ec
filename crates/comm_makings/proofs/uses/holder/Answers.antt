use Rattle.std.proofs.Common.{sym, ◌∙◌}
use Rattle.std.proofs.lemmas.Option.{slice_get-get_or}
use Rattle.comm_makings.proofs.Holders.{holder_is, not_within, past}
use Rattle.comm_makings.proofs.uses.holder.Goals as goal
use Rattle.comm_makings.proofs.uses.holder.Goals.{else-at-handles-via-then-at-handles+else-holds_all, else-at-handles-via-else-at-handles}

pub returns-then-holds_all : goal.returns-then-holds_all
returns-then-holds_all c =
    holder_is c.args.handles.now c.args.uses c.in_ok-at.at _ c.in_ok-at.ensures (slice_get-get_or c.args.handles.now c.in_ok-at.at _ c.if-at-handles.true)
    (sym c.holds_all.ensures ∙ c.if-holds_all.true)

pub returns-else-at-handles : goal.returns-else-at-handles
returns-else-at-handles c = elim c.else-at-handles.branch [
  | else-at-handles-via-then-at-handles+else-holds_all w ↦
      not_within c.args.handles.now c.args.uses c.in_ok-at.at _ c.in_ok-at.ensures (slice_get-get_or c.args.handles.now c.in_ok-at.at _ w.if-at-handles.true)
      (sym w.holds_all.ensures ∙ w.if-holds_all.false)
  | else-at-handles-via-else-at-handles w ↦ λ at is. absurd (past c.args.handles.now _ _ c.in_ok-at.at c.in_ok-at.ensures w.if-at-handles.false)
]
