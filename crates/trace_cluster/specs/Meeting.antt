-- What an exchange leaves of a node.
use Rattle.std.specs.Prelude.{◌≡◌, false, Result, Ok}
use Rattle.trace_know.specs.View.{View, IsBelow, join}
use Rattle.trace_node.specs.Node.{Held}
use Rattle.trace_cluster.specs.declared.exchange.fault.ExchangeFault.{ExchangeFault}
use Rattle.trace_cluster.specs.Exchange.{ExchangesFrames}
use Rattle.trace_cluster.specs.Stream.{Stream}

-- The node knows all that it knew, for the same layout, and has an answer to all that it knows.
pub record IsMore (before after : Held) : Type 0 where
  pub layout_is : after.layout ≡ before.layout
  pub fresh : after.is_stale ≡ false
  pub keeps : IsBelow before.know after.know

-- It does, and knows this too, and nothing else.
abbrev pub HasLearned : Held → View → Held → Type 0
HasLearned before told after = IsMore before after × (after.know ≡ join before.know told)

-- Over a stream that was closed then, the frame of what is known was written and one was read, or that was refused.
abbrev pub HasExchanged : Stream → View → Result View ExchangeFault → Type 0
HasExchanged old know result = (new : Stream) × ExchangesFrames old new know result

-- Its side of the exchange heard something, and just that was joined to what the node knew.
abbrev pub HasJoined : Held → Result View ExchangeFault → Held → Type 0
HasJoined before led after = (heard : View) × (led ≡ Ok heard) × (after.know ≡ join before.know heard)
