-- The tests of equality in the lists of an answer.
use Rattle.std.proofs.Common.{◌≡◌, ℕ, Bool, true, false, ◌&&◌, nat_eq, rules, arith}
use Rattle.std.specs.Bool.{Decides}
use Rattle.std.proofs.lemmas.Grind.{common_steps}
use mathlib.Core.Bool.{beq}
use Rattle.mpi_model.specs.declared.event.OpName.{OpName}
use Rattle.mpi_model.specs.contracts.event.OpNamePartialEq.TheImpl as of_name
use Rattle.trace_ops.specs.declared.state.State.{State}
use Rattle.trace_ops.specs.declared.state.State.TheVariants.{Free, Waiting, Ended}
use Rattle.trace_ops.specs.contracts.state.StatePartialEq.TheImpl as of_state
use Rattle.trace_pair.specs.declared.pair.Pair.{Pair}
use Rattle.trace_pair.specs.contracts.pair.PairPartialEq.TheImpl as of_pair

pub flag_same : (x y : Bool) → Decides (beq x y) (x ≡ y)
flag_same true true = search rules
flag_same true false = search rules
flag_same false true = search rules
flag_same false false = search rules

pub place_same : (x y : ℕ × ℕ) → Decides (nat_eq x.0 y.0 && nat_eq x.1 y.1) (x ≡ y)
place_same x y = grind (arith, common_steps)

pub state_same : (x y : State) → Decides ((of_state.eq-value).it x y) (x ≡ y)
state_same Free Free = search rules
state_same Free Waiting = search rules
state_same Free Ended = search rules
state_same Waiting Free = search rules
state_same Waiting Waiting = search rules
state_same Waiting Ended = search rules
state_same Ended Free = search rules
state_same Ended Waiting = search rules
state_same Ended Ended = search rules

pub name_same : (x y : OpName) → Decides ((of_name.eq-value).it x y) (x ≡ y)
name_same x y = grind (arith, common_steps)

pub pair_same : (x y : Pair) → Decides ((of_pair.eq-value).it x y) (x ≡ y)
pair_same x y = grind (arith, common_steps, name_same x.message y.message, name_same x.receive y.receive, flag_same x.over y.over)
