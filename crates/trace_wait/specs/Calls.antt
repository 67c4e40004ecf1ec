-- How many calls on a communicator each of its members has entered.
use Rattle.std.specs.Prelude.{ℕ, ◌==◌, Option, Some, None, List, [], ◌∷◌, map, count_by}
use Rattle.std.specs.List.{find}
use Rattle.mpi_model.specs.Communicators.{Communicator}
use Rattle.trace_ops.specs.Ops.{Ops}
use Rattle.trace_wait.specs.Ranks.{ops_of}
use Rattle.trace_wait.specs.Rounds.{group}

-- a row of the table
pub record CallsOn : Type 0 where
  pub comm : ℕ
  pub calls : List ℕ

-- how many collective calls a rank has entered on a communicator
abbrev pub calls_of : List Ops → ℕ → ℕ → ℕ
calls_of ops c r = count_by (λ e. e.comm == c) (ops_of ops r).rounds

-- the same of each member, in group order
abbrev pub counts : List Communicator → List Ops → ℕ → List ℕ
counts comms ops c = map (calls_of ops c) (group comms c)

-- the same of each communicator
abbrev pub table : List Communicator → List Ops → List Communicator → List CallsOn
table comms ops [] = []
table comms ops (g ∷ gs) = record { comm = g.comm; calls = counts comms ops g.comm } ∷ table comms ops gs

-- the row of a communicator
abbrev pub row_of : List CallsOn → ℕ → List ℕ
row_of rows c = of (find (λ t. t.comm == c) rows)
  where
    of : Option CallsOn → List ℕ
    of (Some t) = t.calls
    of None = []
