-- What ends a meeting.
use Rattle.std.proofs.Common.{◌≡◌, Result, Ok, Err, refl, sym, subst, inl, inr}
use Rattle.trace_know.specs.View.{View}
use Rattle.trace_node.specs.declared.fault.NodeFault.{NodeFault}
use Rattle.trace_cluster.specs.declared.exchange.fault.ExchangeFault.{ExchangeFault}
use Rattle.trace_cluster.specs.declared.exchange.fault.ExchangeFault.TheVariants.{Merge}
use Rattle.trace_cluster.specs.declared.fault.ClusterFault.TheVariants.{Lead, Follow}
use Rattle.trace_cluster.specs.declared.fault.ClusterFault.{ClusterFault}
use Rattle.trace_cluster.specs.Crews.{IsFirstEnd, IsOfMeeting, IsOwnCause}
use Rattle.trace_cluster.specs.Exchange.{ExchangesFrames}
use Rattle.trace_cluster.specs.Meeting.{HasExchanged}
use Rattle.trace_cluster.specs.Stream.{Stream}

pub unmerged_end : (led : Result View ExchangeFault) (followed : Result (Unit {0}) ExchangeFault) (known : View) (cause : NodeFault) → led ≡ Ok known → IsFirstEnd led followed (Lead (Merge cause))
unmerged_end led followed known cause e = subst (λ (r : Result View ExchangeFault). IsFirstEnd r followed (Lead (Merge cause))) (sym e) (inl (cause, refl))

pub followed_end : (led : Result View ExchangeFault) (followed : Result (Unit {0}) ExchangeFault) (known : View) (cause : ExchangeFault) → led ≡ Ok known → followed ≡ Err cause
    → IsFirstEnd led followed (Follow cause)
followed_end led followed known cause e e' = subst (λ (r : Result View ExchangeFault). IsFirstEnd r followed (Follow cause)) (sym e) (inr (cause, e', refl))

pub refused_end : (led : Result View ExchangeFault) (followed : Result (Unit {0}) ExchangeFault) (cause : ExchangeFault) (fault : ClusterFault) → led ≡ Err cause → IsOwnCause cause followed fault
    → IsFirstEnd led followed fault
refused_end led followed cause fault e own = subst (λ (r : Result View ExchangeFault). IsFirstEnd r followed fault) (sym e) own

-- It comes of the exchange.
pub of_meeting : (led : Result View ExchangeFault) (followed : Result (Unit {0}) ExchangeFault) (fault : ClusterFault) → IsFirstEnd led followed fault → IsOfMeeting fault
of_meeting (Err led) (Ok done) fault h = subst IsOfMeeting (sym h) tt
of_meeting (Err led) (Err cause) fault (inl h) = subst IsOfMeeting (sym h.1) tt
of_meeting (Err led) (Err cause) fault (inr h) = subst IsOfMeeting (sym h.1) tt
of_meeting (Ok known) followed fault (inl h) = subst IsOfMeeting (sym h.1) tt
of_meeting (Ok known) followed fault (inr h) = subst IsOfMeeting (sym h.2) tt

-- The stream is closed, as it was left.
pub exchanged : (old new : Stream) (know : View) (result : Result View ExchangeFault) → ExchangesFrames old new know result → HasExchanged old know result
exchanged old new know result exchanges = (new, exchanges)
