use Rattle.std.proofs.Common.{◌≡◌, Contains, List, subst, sym}
use Rattle.mpi_model.specs.declared.message.Message.{Message}
use Rattle.mpi_model.specs.declared.message.Receive.{Receive}
use Rattle.trace_diagnosis.specs.Near.{is_near}
use Rattle.trace_diagnosis.specs.Places.{first_places}
use Rattle.trace_diagnosis.specs.Ways.{why_of}
use Rattle.trace_diagnosis.specs.declared.near.Way.{Way}
use Rattle.trace_diagnosis.proofs.near.NearMessages.near.Goals as goal

pub returns : goal.returns
returns c =
    let inside : Way × List Message × List Receive = (c.self.inside.way, c.self.inside.messages.now, c.self.inside.receives.now) in
    let is : c.args.self.now ≡ inside = cc (c.self.view_is) in
    let q = c.args.q.now in
    subst (λ (v : Way × List Message × List Receive). c.in_ok-found.found.items ≡ first_places (λ m. is_near (why_of v.0) m q) v.1) (sym is)
    (c.in_ok-found.ensures inside.1 inside.2 c.self.invariant.0 c.self.invariant.1 (subst (λ (v : Way × List Message × List Receive). Contains v.2 q) is c.requires))
