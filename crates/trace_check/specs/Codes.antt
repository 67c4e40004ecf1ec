-- How the values of checkers are told apart: each has a code, from which it can be read back.
use Rattle.std.specs.Prelude.{refl}
use Rattle.std.specs.Coded.{Coded, code_by, coded×}
use Rattle.mpi_model.specs.Layouts.{Parts}
use Rattle.mpi_model.specs.contracts.layout.Layout as layout
use Rattle.trace_know.specs.View.{View}
use Rattle.trace_know.specs.contracts.knowledge.Knowledge as knowledge
use Rattle.trace_check.specs.Checker.{Held}

-- what a checker holds, as a tree of numbers
abbrev pub coded_held : Coded Held
coded_held = code_by (Parts × View) (coded× layout.the_row.coded knowledge.the_row.coded)
    (λ h. (h.layout, h.know)) (λ p. record { layout = p.0; know = p.1 }) (λ _. refl)
