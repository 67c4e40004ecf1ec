use Rattle.std.proofs.Common.{◌≡◌, ◌∙◌, IfOk, ap, false, List, ℕ, subst, sym}
use Rattle.mpi_model.specs.Communicators.{is_intercomm}
use Rattle.trace_wait.specs.Parts.{Run}
use Rattle.trace_wait.proofs.Peers.{one_group}
use Rattle.trace_wait.proofs.overview.Overview.shared_peers.Goals as goal

pub returns-else-is_intercomm : goal.returns-else-is_intercomm
returns-else-is_intercomm c =
    let one : is_intercomm c.args.self.now.layout.comms c.args.comm ≡ false = sym (ap (λ (s : Run). is_intercomm s.layout.comms c.args.comm) c.self.view_is) ∙ (sym c.is_intercomm.ensures ∙ c.if-is_intercomm.false) in
    subst (λ (ranks : List ℕ). IfOk c.shared_members.result (λ list. list.value.items ≡ ranks)) (sym (one_group c.args.self.now.layout.comms c.args.comm c.args.rank one)) c.shared_members.ensures
