-- How what contracts see of a board is told apart: it has a code, from which it can be read back.
use Rattle.std.specs.Prelude.{refl}
use Rattle.std.specs.Coded.{Coded, code_by, coded×}
use Rattle.mpi_model.specs.Layouts.{Parts}
use Rattle.mpi_model.specs.contracts.layout.Layout as layout
use Rattle.trace_know.specs.View.{View}
use Rattle.trace_know.specs.contracts.knowledge.Knowledge as knowledge
use Rattle.trace_node.specs.Answer.{Answered}
use Rattle.trace_node.specs.Codes.{coded_answered}
use Rattle.trace_crew.specs.Showing.{Showing}

-- what a board shows, as a tree of numbers
abbrev pub coded_showing : Coded Showing
coded_showing = code_by (Parts × (View × Answered)) (coded× layout.the_row.coded (coded× knowledge.the_row.coded coded_answered))
    (λ s. (s.layout, (s.know, s.answer))) (λ p. record { layout = p.0; know = p.1.0; answer = p.1.1 }) (λ _. refl)
