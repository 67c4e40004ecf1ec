-- The tests of equality in the rows of a table.
use Rattle.std.proofs.Common.{◌≡◌, List, Bool, true, false, arith, rules}
use Rattle.std.specs.Bool.{Decides}
use Rattle.std.proofs.lemmas.Grind.{common_steps}
use mathlib.Core.Bool.{beq}
use Rattle.mpi_model.specs.declared.event.OpName.{OpName}
use Rattle.mpi_model.specs.contracts.event.OpNamePartialEq.TheImpl as of_name
use Rattle.trace_pair.specs.Table.{Table}
use Rattle.trace_pair.specs.declared.pair.Pair.{Pair}
use Rattle.trace_pair.specs.contracts.pair.PairPartialEq.TheImpl as of_pair

flag_same : (x y : Bool) → Decides (beq x y) (x ≡ y)
flag_same true true = search rules
flag_same true false = search rules
flag_same false true = search rules
flag_same false false = search rules

pub name_same : (x y : OpName) → Decides ((of_name.eq-value).it x y) (x ≡ y)
name_same x y = grind (arith, common_steps)

pub pair_same : (x y : Pair) → Decides ((of_pair.eq-value).it x y) (x ≡ y)
pair_same x y = grind (arith, common_steps, name_same x.message y.message, name_same x.receive y.receive, flag_same x.over y.over)

abbrev table : List Pair → List OpName → Table
table pairs postponed = record { pairs = pairs; postponed = postponed }

-- tables of the same rows are the same
pub same_tables : (one other : Table) → one.pairs ≡ other.pairs → one.postponed ≡ other.postponed → one ≡ other
same_tables one other pairs postponed = λ i. table (pairs i) (postponed i)
