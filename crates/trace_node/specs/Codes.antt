-- How the values that contracts see are told apart: each has a code, from which it can be read back.
use Rattle.std.specs.Prelude.{◌≡◌, ℕ, Bool, List, refl}
use Rattle.std.specs.Coded.{Coded, code_by, coded×, coded_ℕ, coded_bool, coded_list}
use Rattle.std.proofs.Common.{ap, sym, ◌∙◌}
use base.Stored.{Gv, gnil, gnum, gcons}
use Rattle.mpi_model.specs.Layouts.{Parts}
use Rattle.mpi_model.specs.declared.layout.Sends.{Sends}
use Rattle.mpi_model.specs.declared.event.OpName.{OpName}
use Rattle.mpi_model.specs.contracts.layout.Layout as layout
use Rattle.mpi_model.specs.contracts.layout.Sends as sends
use Rattle.mpi_model.specs.contracts.event.OpName as name
use Rattle.trace_know.specs.View.{View}
use Rattle.trace_know.specs.contracts.knowledge.Knowledge as knowledge
use Rattle.trace_ops.specs.declared.state.State.{State}
use Rattle.trace_ops.specs.contracts.state.State as state
use Rattle.trace_pair.specs.declared.pair.Pair.{Pair}
use Rattle.trace_pair.specs.contracts.pair.Pair as pair
use Rattle.trace_stuck.specs.Shape.{Wait, Waits, OnNothing, OnRank, OnAll, OnOne, OnMismatched, none, and}
use Rattle.trace_wait.specs.declared.round.Round.{Round}
use Rattle.trace_wait.specs.contracts.round.Round as round
use Rattle.trace_node.specs.Answer.{Stopped, Answered}
use Rattle.trace_node.specs.Node.{Held}

abbrev mutual
  -- a wait as a tree of numbers
  pub tree : Wait → Gv
  tree OnNothing = gnil
  tree (OnRank r) = gnum r
  tree (OnAll parts) = gcons gnil (trees parts)
  tree (OnOne parts) = gcons (gnum 0) (trees parts)
  tree (OnMismatched first) = gcons (gcons gnil gnil) (gcons (gnum first.object) (gnum first.k))

  -- some parts as a tree of numbers
  pub trees : Waits → Gv
  trees none = gnil
  trees (and first rest) = gcons (tree first) (trees rest)

-- a wait in a mismatched round, by the number of its object and its own
abbrev pub mismatched_in : Gv → Wait
mismatched_in (gcons (gnum object) (gnum k)) = OnMismatched (record { object = object; k = k })
mismatched_in v = OnNothing

-- a wait of some parts, or in a round, by the tree of its kind
abbrev pub of_kind : Gv → Gv → Waits → Wait
of_kind gnil v parts = OnAll parts
of_kind (gnum n) v parts = OnOne parts
of_kind (gcons a b) v parts = mismatched_in v

abbrev mutual
  -- the wait of a tree
  pub wait_in : Gv → Wait
  wait_in gnil = OnNothing
  wait_in (gnum r) = OnRank r
  wait_in (gcons kind parts) = of_kind kind parts (waits_in parts)

  -- the parts of a tree
  pub waits_in : Gv → Waits
  waits_in gnil = none
  waits_in (gnum r) = none
  waits_in (gcons first rest) = and (wait_in first) (waits_in rest)

mutual
  -- The tree of a wait tells that wait.
  pub wait-tree : (w : Wait) → wait_in (tree w) ≡ w
  wait-tree OnNothing = refl
  wait-tree (OnRank r) = refl
  wait-tree (OnAll parts) = ap OnAll (waits-trees parts)
  wait-tree (OnOne parts) = ap OnOne (waits-trees parts)
  wait-tree (OnMismatched first) = refl

  -- The tree of some parts tells those parts.
  pub waits-trees : (ws : Waits) → waits_in (trees ws) ≡ ws
  waits-trees none = refl
  waits-trees (and first rest) = λ i. and (wait-tree first i) (waits-trees rest i)

-- a wait, as a tree of numbers
abbrev pub coded_wait : Coded Wait
coded_wait = record { code = tree; inj = λ x y p. sym (wait-tree x) ∙ ap wait_in p ∙ wait-tree y }

-- a stuck rank, as a tree of numbers
abbrev pub coded_stopped : Coded Stopped
coded_stopped = code_by (ℕ × (ℕ × (ℕ × Wait))) (coded× coded_ℕ (coded× coded_ℕ (coded× coded_ℕ coded_wait)))
    (λ s. (s.rank, (s.call, (s.wall, s.waits)))) (λ p. record { rank = p.0; call = p.1.0; wall = p.1.1.0; waits = p.1.1.1 }) (λ _. refl)

-- an answer, as a tree of numbers
abbrev pub coded_answered : Coded Answered
coded_answered = code_by (ℕ × (Sends × (List ℕ × (List Bool × (List Bool × (List (ℕ × ℕ) × (List Pair × (List OpName × (List Round × (List State × (List Stopped × ℕ)))))))))))
    (coded× coded_ℕ (coded× sends.the_row.coded (coded× (coded_list coded_ℕ) (coded× (coded_list coded_bool) (coded× (coded_list coded_bool) (coded× (coded_list (coded× coded_ℕ coded_ℕ))
    (coded× (coded_list pair.the_row.coded) (coded× (coded_list name.the_row.coded) (coded× (coded_list round.the_row.coded)
    (coded× (coded_list state.the_row.coded) (coded× (coded_list coded_stopped) coded_ℕ)))))))))))
    (λ a. (a.ranks, (a.sends, (a.prefixes, (a.beyond, (a.unread, (a.conflicts, (a.pairs, (a.postponed, (a.rounds, (a.states, (a.stuck, a.foreign))))))))))))
    (λ p. record {
      ranks = p.0;
      sends = p.1.0;
      prefixes = p.1.1.0;
      beyond = p.1.1.1.0;
      unread = p.1.1.1.1.0;
      conflicts = p.1.1.1.1.1.0;
      pairs = p.1.1.1.1.1.1.0;
      postponed = p.1.1.1.1.1.1.1.0;
      rounds = p.1.1.1.1.1.1.1.1.0;
      states = p.1.1.1.1.1.1.1.1.1.0;
      stuck = p.1.1.1.1.1.1.1.1.1.1.0;
      foreign = p.1.1.1.1.1.1.1.1.1.1.1;
    })
    (λ _. refl)

-- what a node holds, as a tree of numbers
abbrev pub coded_held : Coded Held
coded_held = code_by (Parts × (View × Bool)) (coded× layout.the_row.coded (coded× knowledge.the_row.coded coded_bool))
    (λ h. (h.layout, (h.know, h.is_stale))) (λ p. record { layout = p.0; know = p.1.0; is_stale = p.1.1 }) (λ _. refl)
