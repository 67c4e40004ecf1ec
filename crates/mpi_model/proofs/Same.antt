-- The tests of equality in the lists of outcomes.
use Rattle.std.proofs.Common.{◌≡◌, ◌&&◌, nat_eq, rules, arith}
use Rattle.std.specs.Bool.{Decides}
use Rattle.std.proofs.lemmas.Grind.{common_steps}
use Rattle.mpi_model.specs.contracts.told.ToldPartialEq.TheImpl as of_told
use Rattle.mpi_model.specs.declared.told.Told.{Told}
use Rattle.mpi_model.specs.declared.told.Told.TheVariants.{Nothing, Source, Cancelled}
use Rattle.mpi_model.specs.declared.list.elements.Element.{Element}

pub told_same : (x y : Told) → Decides ((of_told.eq-value).it x y) (x ≡ y)
told_same Nothing Nothing = search rules
told_same Nothing (Source n) = search rules
told_same Nothing Cancelled = search rules
told_same (Source m) Nothing = search rules
told_same (Source m) (Source n) = search rules
told_same (Source m) Cancelled = search rules
told_same Cancelled Nothing = search rules
told_same Cancelled (Source n) = search rules
told_same Cancelled Cancelled = search rules

pub element_same : (x y : Element) → Decides (nat_eq x.position y.position && (of_told.eq-value).it x.told y.told) (x ≡ y)
element_same x y = grind (arith, common_steps, told_same x.told y.told)
