-- The conditions of polls and of ranks that have gone on, put in their places.
use Rattle.std.proofs.Common.{◌≡◌, ◌∙◌, ◌<◌, ◌+◌, ◌==◌, ◌⊎◌, ⊎_elim, ℕ, Bool, true, false, List, [], ◌∷◌, Option, Some, None, map, length, drop, set, get_or, refl, sym, ap, arith, if◌then◌else◌, suc}
use Rattle.std.specs.List.{flat_map}
use Rattle.std.proofs.lemmas.Bool.Decides.{nat_tests}
use Rattle.std.proofs.lemmas.List.{drop_more, length-map, length-set}
use Rattle.std.proofs.lemmas.List.FromFn.{fill_by_all}
use Rattle.std.proofs.lemmas.Option.{unwrap_or-slice_get}
use Rattle.mpi_model.specs.declared.call.Call.{Call}
use Rattle.trace_ops.specs.Ops.{Ops}
use Rattle.trace_stuck.specs.Shape.{OnOne, Wait, waits_of}
use Rattle.trace_stuck.specs.declared.condition.Condition.{Condition}
use Rattle.trace_wait.specs.Conditions.{conditions_from}
use Rattle.trace_wait.specs.Parts.{Run}
use Rattle.trace_wait.specs.Polls.{asked_of}
use Rattle.trace_wait.specs.declared.polls.Poll.{Poll}
use Rattle.trace_diagnosis.specs.Askers.{AreDropped, ArePut, asked_plain, asker, poll_plain, polls_by, put_or, shapes}
use Rattle.trace_diagnosis.specs.Conditions.{asked, asked_at, condition_at, conditions, polled_or, unless, wait_at}
use Rattle.trace_diagnosis.specs.declared.conditions.Poller.{Poller}
use Rattle.trace_diagnosis.proofs.Lists.{at_other, at_same, flat_map_same, map-flat_map, map_map}

same_number : (k r : ℕ) → (k == r) ≡ true → k ≡ r
same_number k r e = grind (arith, nat_tests)

other_number : (k r : ℕ) → (k == r) ≡ false → r ≡ k → ⊥
other_number k r e s = grind (arith, nat_tests)

-- a place that is written, by whether it is this one
written : (ws : List (Option Wait)) (k r : ℕ) (x own : Option Wait) → r < length ws → wait_at ws r ≡ own → (b : Bool) → (k == r) ≡ b → wait_at (set ws k x) r ≡ (if b then x else own)
written ws k r x own lt e true h = ap (λ (j : ℕ). wait_at (set ws j x) r) (same_number k r h) ∙ at_same ws r x lt
written ws k r x own lt e false h = at_other ws k r x (other_number k r h) ∙ e

length_shapes : (cs : List (Option Condition)) → length (shapes cs) ≡ length cs
length_shapes cs = length-map cs _

-- the condition of one poller more
pub put_more : (f : Poller → List Wait) (ps : List Poller) (k : ℕ) (p : Poller) → k < length ps → p ≡ get_or ps k p → (first old new : List (Option Condition))
    → ArePut f (drop (k + 1) ps) first old → shapes new ≡ set (shapes old) p.rank (Some (OnOne (waits_of (f p)))) → ArePut f (drop k ps) first new
put_more f ps k p lt is first old new before e = record {
  len = let n = sym (length_shapes new) ∙ ap length e ∙ length-set (shapes old) p.rank (Some (OnOne (waits_of (f p)))) ∙ length_shapes old in n ∙ before.len;
  each = λ r within.
      let own = put_or f (drop (k + 1) ps) r (wait_at (shapes first) r) in
      ap (λ (ws : List (Option Wait)). wait_at ws r) e
      ∙ written (shapes old) p.rank r (Some (OnOne (waits_of (f p)))) own (omega (arith, length_shapes old, before.len)) (before.each r within) (p.rank == r) refl
      ∙ ap (λ (q : Poller). put_or f (q ∷ drop (k + 1) ps) r (wait_at (shapes first) r)) is
      ∙ ap (λ (l : List Poller). put_or f l r (wait_at (shapes first) r)) (sym (drop_more ps k p lt));
}

either : (r rank : ℕ) → r < rank + 1 → (r < rank) ⊎ (r ≡ rank)
either r rank lt = grind arith

-- where the condition is taken of a rank that has gone on
taken : (b : Bool) (ws : List (Option Wait)) (rank : ℕ) → rank < length ws → wait_at (if b then set ws rank None else ws) rank ≡ unless b (wait_at ws rank)
taken true ws rank lt = at_same ws rank None lt
taken false ws rank lt = refl

not_taken : (b : Bool) (ws : List (Option Wait)) (rank r : ℕ) → (r ≡ rank → ⊥) → wait_at (if b then set ws rank None else ws) r ≡ wait_at ws r
not_taken true ws rank r ne = at_other ws rank r None ne
not_taken false ws rank r ne = refl

length_taken : (b : Bool) (ws : List (Option Wait)) (rank : ℕ) → length (if b then set ws rank None else ws) ≡ length ws
length_taken true ws rank = length-set ws rank None
length_taken false ws rank = refl

-- one rank more
pub dropped_more : (gone : ℕ → Bool) (rank : ℕ) (first old new : List (Option Condition)) → rank < length first → AreDropped gone rank first old
    → shapes new ≡ (if gone rank then set (shapes old) rank None else shapes old) → AreDropped gone (rank + 1) first new
dropped_more gone rank first old new lt before e =
    let read : (r : ℕ) → wait_at (shapes new) r ≡ wait_at (if gone rank then set (shapes old) rank None else shapes old) r = λ r. ap (λ (ws : List (Option Wait)). wait_at ws r) e in
    record {
      len = sym (length_shapes new) ∙ ap length e ∙ length_taken (gone rank) (shapes old) rank ∙ length_shapes old ∙ before.len;
      below = λ r low. ⊎_elim
          (λ (less : r < rank). read r ∙ not_taken (gone rank) (shapes old) rank r (λ s. absurd (omega (arith, s, less))) ∙ before.below r less)
          (λ (same : r ≡ rank). ap (λ (j : ℕ). wait_at (shapes new) j) same ∙ read rank ∙ taken (gone rank) (shapes old) rank (omega (arith, length_shapes old, before.len))
          ∙ ap (unless (gone rank)) (before.others rank (omega arith)) ∙ ap (λ (j : ℕ). unless (gone j) (wait_at (shapes first) j)) (sym same))
          (either r rank low);
      others = λ r high. read r ∙ not_taken (gone rank) (shapes old) rank r (λ s. absurd (omega (arith, s, high))) ∙ before.others r (omega arith);
    }

put_polled : (run : Run) (ps : List Poller) (r : ℕ) (own : Option Wait) → put_or (λ p. asked run (asker p)) ps r own ≡ polled_or run (map asker ps) r own
put_polled run [] r own = refl
put_polled run (p ∷ ps) r own = ap (λ (w : Option Wait). if p.rank == r then Some (OnOne (waits_of (asked run (asker p)))) else w) (put_polled run ps r own)

-- what all polls ask for, by their ranks
pub polls_asked : (run : Run) (polls : List Poll) (ps : List Poller) → map poll_plain polls ≡ flat_map polls_by ps → map (asked_of run) polls ≡ flat_map (λ p. asked run (asker p)) ps
polls_asked run polls ps e =
    let g : ℕ × (ℕ × Call) → Wait = λ t. asked_at run t.0 t.1 in
    sym (map_map g poll_plain polls) ∙ ap (map g) e ∙ map-flat_map g polls_by ps
    ∙ flat_map_same (λ p. map g (polls_by p)) (λ p. asked run (asker p))
    (λ p. map_map g (λ a. (p.rank, asked_plain a)) p.asked.items ∙ sym (map_map (asked_at run p.rank) asked_plain p.asked.items)) ps

length_from : (run : Run) (first : ℕ) (ops : List Ops) → length (conditions_from run first ops) ≡ length ops
length_from run first [] = refl
length_from run first (o ∷ ops) = ap suc (length_from run (first + 1) ops)

-- the conditions of all ranks
pub conditions_are : (run : Run) (ps : List Poller) (gone : ℕ → Bool) (ranks : ℕ) → ranks ≡ length run.ops → (first put last : List (Option Condition)) → shapes first ≡ conditions_from run 0 run.ops
    → ArePut (λ p. asked run (asker p)) ps first put → AreDropped gone ranks put last → shapes last ≡ conditions run (map asker ps) gone ranks
conditions_are run ps gone ranks all first put last e puts drops =
    let n = sym (length_shapes first) ∙ ap length e ∙ length_from run 0 run.ops in
    fill_by_all (condition_at run (map asker ps) gone) (shapes last) ranks None
    (omega (arith, length_shapes last, drops.len, puts.len, n, all))
    (λ k lt. sym (unwrap_or-slice_get (shapes last) k None) ∙ drops.below k lt
    ∙ ap (unless (gone k)) (puts.each k (omega (arith, n, all)) ∙ put_polled run ps k (wait_at (shapes first) k)
    ∙ ap (λ (ws : List (Option Wait)). polled_or run (map asker ps) k (wait_at ws k)) e))

pub length_of_shapes : (run : Run) (first : List (Option Condition)) → shapes first ≡ conditions_from run 0 run.ops → length first ≡ length run.ops
length_of_shapes run first e = sym (length_shapes first) ∙ ap length e ∙ length_from run 0 run.ops
