-- How what contracts see of worlds is told apart: it has a code, from which it can be read back.
use Rattle.std.specs.Prelude.{ℕ, List, refl}
use Rattle.std.specs.Coded.{Coded, code_by, coded×, coded_ℕ, coded_list}
use Rattle.mpi_model.specs.Layouts.{Parts}
use Rattle.mpi_model.specs.contracts.layout.Layout as layout
use Rattle.trace_know.specs.Segment.{PlacedEvents}
use Rattle.trace_know.specs.contracts.segment.Segment as segment
use Rattle.trace_node.specs.Codes.{coded_held}
use Rattle.trace_node.specs.Node.{Held}
use Rattle.trace_world.specs.Shows.{WorldState}

-- a world, as a tree of numbers
abbrev pub coded_world : Coded WorldState
coded_world = code_by (Parts × (List Held × (List (List PlacedEvents) × List (List ℕ))))
    (coded× layout.the_row.coded (coded× (coded_list coded_held) (coded× (coded_list (coded_list segment.the_row.coded)) (coded_list (coded_list coded_ℕ)))))
    (λ w. (w.layout, (w.nodes, (w.inboxes, w.mails)))) (λ p. record { layout = p.0; nodes = p.1.0; inboxes = p.1.1.0; mails = p.1.1.1 }) (λ _. refl)
