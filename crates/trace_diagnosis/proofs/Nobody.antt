-- A run in which no rank waits or polls, and no sure message is without a pair.
use Rattle.std.proofs.Common.{◌≡◌, ◌∙◌, ◌+◌, ◌&&◌, ℕ, Bool, true, false, not, List, [], ◌∷◌, ◌++◌, Option, Some, None, All, map, refl, sym, ap, filter, subst, suc, zero, arith}
use Rattle.std.specs.Prelude.{if◌then◌else◌, is_some}
use Rattle.std.specs.List.{flat_map, range_with_len}
use Rattle.std.specs.Option.{option_map}
use Rattle.std.proofs.lemmas.List.Elements.{All-map, All-nil}
use Rattle.mpi_model.specs.Layouts.{Parts}
use Rattle.mpi_model.specs.Trusts.{is_sure, is_void}
use Rattle.mpi_model.specs.declared.message.Message.{Message}
use Rattle.mpi_model.specs.declared.message.Receive.{Receive}
use Rattle.trace_ops.specs.Ops.{Ops}
use Rattle.trace_pair.specs.declared.pair.Pair.{Pair}
use Rattle.trace_stuck.specs.Graph.{is_up}
use Rattle.trace_stuck.specs.Shape.{Wait}
use Rattle.trace_wait.specs.Conditions.{conditions_from, does_one_wait, waits_for}
use Rattle.trace_pair.specs.After.{comes_after}
use Rattle.trace_pair.specs.Ends.{may_take}
use Rattle.trace_wait.specs.Matching.{free_receives, is_unpaired_message}
use Rattle.trace_wait.specs.Parts.{Run}
use Rattle.trace_wait.specs.Conditions.{run_of}
use Rattle.trace_diagnosis.specs.Askers.{asker, case_conditions}
use Rattle.trace_diagnosis.specs.Conditions.{Asker, condition_at, conditions, does_wait, has_gone_on, unless, wait_at}
use Rattle.trace_diagnosis.specs.LeftOver.{has_sure_loose, is_left, is_loose, is_sure_loose, is_told, left_over, unfinished_of}
use Rattle.trace_diagnosis.specs.Missed.{HasNearMessages, HasNearReceives}
use Rattle.trace_diagnosis.specs.Starving.{starving}
use Rattle.trace_diagnosis.specs.Unmatched.{IsUnmatched, is_of_waiting}
use Rattle.trace_diagnosis.specs.declared.conditions.Case.{Case}
use Rattle.trace_diagnosis.specs.declared.conditions.Poller.{Poller}
use Rattle.diagnosis_value.specs.declared.diagnosis.LeftOver.{LeftOver}
use Rattle.diagnosis_value.specs.declared.diagnosis.Starving.{Starving}
use Rattle.diagnosis_value.specs.declared.diagnosis.Unmatched.{Unmatched}
use Rattle.trace_diagnosis.specs.Waiting.{held_at, held_by, held_in}
use Rattle.trace_diagnosis.proofs.Lists.{none_kept_in, or_first, or_rest}

no_condition : {X Y : Type 0} (f : X → Y) (o : Option X) → is_some o ≡ false → option_map f o ≡ None
no_condition f None e = refl
no_condition f (Some x) e = absurd (cc (e))

none_from : (run : Run) (first : ℕ) (ops : List Ops) → does_one_wait ops ≡ false → (r : ℕ) → wait_at (conditions_from run first ops) r ≡ None
none_from run first [] e r = refl
none_from run first (o ∷ ops) e zero = no_condition (λ w. waits_for run first o w.0 w.1) o.waiting (or_first (is_some o.waiting) (does_one_wait ops) e)
none_from run first (o ∷ ops) e (suc r) = none_from run (first + 1) ops (or_rest (is_some o.waiting) (does_one_wait ops) e) r

gone_none : (b : Bool) (w : Option Wait) → w ≡ None → unless b w ≡ None
gone_none true w e = refl
gone_none false w e = e

none_at : (run : Run) (gone : ℕ → Bool) → does_one_wait run.ops ≡ false → (r : ℕ) → condition_at run [] gone r ≡ None
none_at run gone e r = gone_none (gone r) (wait_at (conditions_from run 0 run.ops) r) (none_from run 0 run.ops e r)

-- no rank has a condition
pub none_waits : (run : Run) (gone : ℕ → Bool) (ranks : ℕ) → does_one_wait run.ops ≡ false → All (λ w. w ≡ None) (conditions run [] gone ranks)
none_waits run gone ranks e = All-map (λ w. w ≡ None) (condition_at run [] gone) (range_with_len 0 ranks) (λ k d lt. none_at run gone e _)

place_none : (ws : List (Option Wait)) → All (λ w. w ≡ None) ws → (r : ℕ) → wait_at ws r ≡ None
place_none [] all r = refl
place_none (w ∷ ws) all zero = all 0 None (omega arith)
place_none (w ∷ ws) all (suc r) = place_none ws (λ k d lt. all (suc k) d (omega (arith, lt))) r

none_among : (ws : List (Option Wait)) → All (λ w. w ≡ None) ws → (rs : List ℕ) → flat_map (held_at ws) rs ≡ []
none_among ws all [] = refl
none_among ws all (r ∷ rs) = ap (λ (w : Option Wait). held_by r w ++ flat_map (held_at ws) rs) (place_none ws all r) ∙ none_among ws all rs

-- no rank is held
pub none_held : (ws : List (Option Wait)) (ranks : ℕ) → All (λ w. w ≡ None) ws → held_in ws ranks ≡ []
none_held ws ranks all = none_among ws all (range_with_len 0 ranks)

sure_or_not : (sure void unpaired hidden : Bool) → (sure && unpaired) ≡ false → ((sure && hidden) && (not void && unpaired)) ≡ false
sure_or_not false void unpaired hidden e = refl
sure_or_not true void false hidden e = by hidden void
  where
    by : (h v : Bool) → (h && (not v && false)) ≡ false
    by false v = refl
    by true true = refl
    by true false = refl
sure_or_not true void true hidden e = absurd (cc (e))

-- no message is left over
pub none_left : (ops : List Ops) (pairs : List Pair) → has_sure_loose pairs ops ≡ false → left_over ops pairs ≡ []
none_left ops pairs e =
    none_kept_in (is_left ops pairs) (is_loose pairs) (is_sure_loose pairs) (λ m h. sure_or_not (is_sure m.trust) (is_void m.trust) (is_unpaired_message pairs m) (not (may_take (comes_after ops) (free_receives ops pairs) m)) h) (λ o. o.sends) ops e

-- the same of a case
pub case_none : (case : Case) → does_one_wait case.ops.now ≡ false → case.pollers.now ≡ [] → All (λ w. w ≡ None) (case_conditions case)
case_none case e none =
    let run = run_of case.layout.now case.ops.now case.answer.now.pairs case.answer.now.rounds in
    let gone = has_gone_on case.know.now case.cut.now case.stuck.now in
    subst (λ (ps : List Poller). All (λ w. w ≡ None) (conditions run (map asker ps) gone case.ranks)) (sym none) (none_waits run gone case.ranks e)

none_up : (ws : List (Option Wait)) → All (λ w. w ≡ None) ws → (r : ℕ) → is_up (map does_wait ws) r ≡ false
none_up [] all r = refl
none_up (w ∷ ws) all zero = ap does_wait (all 0 w (omega arith))
none_up (w ∷ ws) all (suc r) = none_up ws (λ k d lt. all (suc k) d (omega (arith, lt))) r

none_of : {X : Type 0} (p : X → Bool) → ((x : X) → p x ≡ false) → (xs : List X) → filter p xs ≡ []
none_of p fails [] = refl
none_of {X = X} p fails (x ∷ xs) = ap (λ (b : Bool). if b then x ∷ filter p xs else filter p xs) (fails x) ∙ none_of p fails xs

-- what is told of no messages and receives
pub unmatched_none : (layout : Parts) (ops : List Ops) (pairs : List Pair) (askers : List Asker) (held : List Bool) (ws : List (Option Wait)) (told : Unmatched) → has_sure_loose pairs ops ≡ false
    → All (λ w. w ≡ None) ws → told.left_over.items ≡ [] → told.starving.items ≡ [] → told.unfinished.items ≡ flat_map unfinished_of ops
    → IsUnmatched layout ops pairs askers held (map does_wait ws) told
unmatched_none layout ops pairs askers held ws told none all left starve unfinished =
    let waits = map does_wait ws in
    let messages : List LeftOver → List Message = map (λ l. l.message) in
    let receives : List Starving → List Receive = map (λ s. s.receive) in
    record {
      left_over = ap messages left ∙ sym (ap (filter (is_told held waits)) (none_left ops pairs none));
      starving = ap receives starve ∙ sym (none_of (is_of_waiting waits) (λ q. none_up ws all q.at) (starving layout ops pairs askers));
      near_receives = subst (λ (l : List LeftOver). All (HasNearReceives (starving layout ops pairs askers)) l) (sym left) (All-nil (HasNearReceives (starving layout ops pairs askers)));
      near_messages = subst (λ (l : List Starving). All (HasNearMessages (left_over ops pairs)) l) (sym starve) (All-nil (HasNearMessages (left_over ops pairs)));
      unfinished = unfinished;
    }
