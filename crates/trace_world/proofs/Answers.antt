-- Which nodes have an answer after a step.
use Rattle.std.proofs.Common.{◌≡◌, ◌≢◌, ◌⊎◌, ⊎_elim, ◌↔◌, ◌<◌, ℕ, Bool, true, false, Some, Ok, Err, OnOk, IfErr, Result, List, get_or, arith, set, refl, sym, ap, ◌∙◌, subst, Option, nat_lt, if◌then◌else◌}
use Rattle.std.specs.Prelude.{Contains, [], ◌∷◌, ◌++◌, ◌+◌, zero, suc, slice_set, slice_index_or, length, take}
use Rattle.std.proofs.lemmas.List.{length-map, map-set, set-set, set-get_or, get_or-set_same, get_or-set_other, take_more}
use Rattle.std.proofs.lemmas.List.Elements.{Contains-push_cases}
use Rattle.std.proofs.lemmas.Option.{slice_get-get_or}
use Rattle.std.specs.FinMap.{empty}
use Rattle.mpi_model.specs.Layouts.{Parts}
use Rattle.trace_know.specs.View.{View}
use Rattle.trace_node.specs.Node.{Held, held}
use Rattle.trace_world.specs.declared.step.Step.{Step}
use Rattle.trace_world.specs.declared.step.Step.TheVariants.{Post, Take, Ship, Deliver, Restart}
use Rattle.trace_world.specs.declared.step.WorldFault.{WorldFault}
use Rattle.trace_world.specs.declared.step.WorldFault.TheVariants.{NoNode, NoMail, EmptyInbox, Rank, FrameLength, Stale, NodeCount, Memory}
use Rattle.trace_world.specs.Answers.{AreAnswered, AnswersFresh, AnswersMore, AnswersStill, AnswersAfter, AnswersAgain, HoldsAfter, HoldsMore, JoinsMore, LosesAt, joins_more, makes_answer}
use Rattle.trace_world.specs.Moves.{Holds}
use Rattle.trace_world.specs.Refusals.{IsFrameFault, IsOutcome, NoneStaler, is_done, node_of, refusal, refusal_there, stale}
use Rattle.trace_world.specs.Shows.{WorldState}

-- a node that had an answer, and has one
kept : (old : List Bool) (node : ℕ) → slice_index_or old node true ≡ false → slice_set old node false ≡ old
kept old node had = ap (λ b. set old node b) (sym had) ∙ set-get_or old node true

-- one node was given more
pub more : (old new : List Held) (node : ℕ) (view : View) (result : Result (Unit {0}) WorldFault) → Holds old node view result new → HoldsMore node result (stale old) (stale new)
more old new node view (Ok x) h = (h.0, h.1.stale, h.2)
more old new node view (Err Stale) h = absurd h
more old new node view (Err Memory) h = ap stale h
more old new node view (Err NoNode) h = absurd h
more old new node view (Err NoMail) h = absurd h
more old new node view (Err EmptyInbox) h = absurd h
more old new node view (Err Rank) h = absurd h
more old new node view (Err FrameLength) h = absurd h
more old new node view (Err NodeCount) h = absurd h

-- a node that had no answer and joined more has none
stays_stale : (had is_stale : Bool) (P : Type 0) → (is_stale ≡ false → P) → (P → had ≡ true) → had ≡ false → is_stale ≡ true
stays_stale had true P fresh had_one none = refl
stays_stale had false P fresh had_one none = let e : had ≡ true = had_one (fresh refl) in absurd (cc)

-- a node that joined more makes its answer again
again_one : (node : ℕ) (old mid new : List Bool) (had : Bool) (x : Unit {0}) (r : Result (Unit {0}) WorldFault) → HoldsMore node (Ok x) old mid → (had ≡ true) ↔ (slice_index_or old node true ≡ false) → AnswersAgain node had r mid new → AnswersMore node r old new
again_one node old mid new had x (Ok y) h iff a = (iff.0 a.0, a.1 ∙ ap (λ l. set l node false) h.1 ∙ set-set old node h.0 false ∙ kept old node (iff.0 a.0))
again_one node old mid new had x (Err Stale) h iff a = ⊎_elim
    (λ (p : (had ≡ false) × (new ≡ mid)). p.1 ∙ h.1 ∙ ap (λ b. set old node b) (stays_stale had h.0 (slice_index_or old node true ≡ false) h.2 iff.1 p.0))
    (λ (q : new ≡ slice_set mid node true). q ∙ ap (λ l. set l node true) h.1 ∙ set-set old node h.0 true)
    a
again_one node old mid new had x (Err NoNode) h iff a = absurd a
again_one node old mid new had x (Err NoMail) h iff a = absurd a
again_one node old mid new had x (Err EmptyInbox) h iff a = absurd a
again_one node old mid new had x (Err Rank) h iff a = absurd a
again_one node old mid new had x (Err FrameLength) h iff a = absurd a
again_one node old mid new had x (Err NodeCount) h iff a = absurd a
again_one node old mid new had x (Err Memory) h iff a = absurd a

pub again : (x : Step) (old mid new : List Bool) (had : Bool) (y : Unit {0}) (r : Result (Unit {0}) WorldFault) → joins_more x ≡ true → HoldsAfter x (Ok y) old mid → (had ≡ true) ↔ (slice_index_or old (node_of x) true ≡ false) → AnswersAgain (node_of x) had r mid new → AnswersAfter x r old new
again (Post worker node segment) old mid new had y r joins h iff a = absurd (cc joins)
again (Take node) old mid new had y r joins h iff a = again_one node old mid new had y r h iff a
again (Ship node) old mid new had y r joins h iff a = absurd (cc joins)
again (Deliver mail node) old mid new had y r joins h iff a = again_one node old mid new had y r h iff a
again (Restart node) old mid new had y r joins h iff a = absurd (cc joins)

-- no step is refused for want of an answer that is to be made later
pub whole : (x : Step) (fault : WorldFault) (old new : List Bool) → HoldsAfter x (Err fault) old new → fault ≢ Stale
whole (Post worker node segment) fault old new h e = subst (λ f. HoldsAfter (Post worker node segment) (Err f) old new) e h
whole (Take node) fault old new h e = subst (λ f. HoldsAfter (Take node) (Err f) old new) e h
whole (Ship node) fault old new h e = subst (λ f. HoldsAfter (Ship node) (Err f) old new) e h
whole (Deliver mail node) fault old new h e = subst (λ f. HoldsAfter (Deliver mail node) (Err f) old new) e h
whole (Restart node) fault old new h e = subst (λ f. HoldsAfter (Restart node) (Err f) old new) e h

-- nodes that are as they were, where all that can lack is memory
pub still : (P : Type 0) (old new : List Held) (result : Result (Unit {0}) WorldFault) → IfErr result (λ fault. (fault ≡ Memory) × P) → new ≡ old → AnswersStill result (stale old) (stale new)
still P old new (Ok x) h e = ap stale e
still P old new (Err fault) h e = subst (λ f. AnswersStill (Err f) (stale old) (stale new)) (sym h.0) (ap stale e)

-- there is no frame of what is known
pub unframed : (view : View) (fault : WorldFault) (nodes : List Bool) → IsFrameFault view fault → AnswersStill (Err fault) nodes nodes
unframed view FrameLength nodes h = refl
unframed view Memory nodes h = refl
unframed view NoNode nodes h = absurd h
unframed view NoMail nodes h = absurd h
unframed view EmptyInbox nodes h = absurd h
unframed view Rank nodes h = absurd h
unframed view Stale nodes h = absurd h
unframed view NodeCount nodes h = absurd h

-- a node that is as new in the place of one
pub anew : (nodes : List Held) (node : ℕ) (new : Held) (layout : Parts) → new ≡ held layout empty false → stale (slice_set nodes node new) ≡ slice_set (stale nodes) node false
anew nodes node new layout e = map-set (λ (n : Held). n.is_stale) nodes node new ∙ ap (λ (n : Held). set (stale nodes) node n.is_stale) e

-- a node made its answer, or there was no memory for it
pub fresh : (node : ℕ) (old new : List Bool) (result : Result (Unit {0}) WorldFault) → OnOk result (new ≡ slice_set old node false) → IfErr result (λ fault. (fault ≡ Memory) × (new ≡ slice_set old node true)) → AnswersFresh node result old new
fresh node old new (Ok x) ok err = ok
fresh node old new (Err fault) ok err = subst (λ f. AnswersFresh node (Err f) old new) (sym err.0) err.1

-- a step of a node that isn't there
pub nowhere : (step : Step) (nodes : List Bool) → AnswersAfter step (Err NoNode) nodes nodes
nowhere (Post worker node segment) nodes = refl
nowhere (Take node) nodes = refl
nowhere (Ship node) nodes = refl
nowhere (Deliver mail node) nodes = refl
nowhere (Restart node) nodes = refl

-- what is left of a step that was not done
same_then : (old : List Held) (mid new : WorldState) → NoneStaler old mid.nodes → new ≡ mid → NoneStaler old new.nodes
same_then old mid new so_far e = subst (λ (w : WorldState). NoneStaler old w.nodes) (sym e) so_far

-- a node that joined more and has no answer now
one_lost : (old mid new : List Held) (node : ℕ) → NoneStaler old mid → stale new ≡ slice_set (stale mid) node true → (i : ℕ) → i ≢ node → slice_index_or (stale old) i false ≡ false → slice_index_or (stale new) i false ≡ false
one_lost old mid new node so_far e i other had = ap (λ l. slice_index_or l i false) e ∙ get_or-set_other (stale mid) node i true false other ∙ so_far i had

-- which answer was lost where a step ended in `Stale`
lost : (old mid new : List Held) (x : Step) → NoneStaler old mid → AnswersAfter x (Err Stale) (stale mid) (stale new)
    → (i : ℕ) → i ≢ node_of x → slice_index_or (stale old) i false ≡ false → slice_index_or (stale new) i false ≡ false
lost old mid new (Post worker node segment) so_far h = absurd h
lost old mid new (Take node) so_far h = one_lost old mid new node so_far h
lost old mid new (Ship node) so_far h = absurd h
lost old mid new (Deliver mail node) so_far h = one_lost old mid new node so_far h
lost old mid new (Restart node) so_far h = absurd h

-- a step that ended in `Stale` joins more
joins : (x : Step) (old new : List Bool) → AnswersAfter x (Err Stale) old new → JoinsMore x
joins (Post worker node segment) old new h = absurd h
joins (Take node) old new h = tt
joins (Ship node) old new h = absurd h
joins (Deliver mail node) old new h = tt
joins (Restart node) old new h = absurd h

-- the node of a step that could be done is there
there_if : (is_there : Bool) (found : Option WorldFault) → IsOutcome (if is_there then found else Some NoNode) (Err Stale) → is_there ≡ true
there_if true found h = refl
there_if false found h = cc

there : (w : WorldState) (x : Step) → IsOutcome (refusal w x) (Err Stale) → node_of x < length w.nodes
there w x h = let e : nat_lt (node_of x) (length w.nodes) ≡ true = there_if (nat_lt (node_of x) (length w.nodes)) (refusal_there w x) h in grind arith

-- which node has no answer where a step ended in `Stale`
stale_there : (x : Step) (old new : List Bool) → node_of x < length old → AnswersAfter x (Err Stale) old new → slice_index_or new (node_of x) false ≡ true
stale_there (Post worker node segment) old new lt h = absurd h
stale_there (Take node) old new lt h = ap (λ l. slice_index_or l node false) h ∙ get_or-set_same old node true false lt
stale_there (Ship node) old new lt h = absurd h
stale_there (Deliver mail node) old new lt h = ap (λ l. slice_index_or l node false) h ∙ get_or-set_same old node true false lt
stale_there (Restart node) old new lt h = absurd h

-- where a run ends
pub loses : (old : List Held) (mid new : WorldState) (steps : List Step) (k : ℕ) (x : Step) (fault : WorldFault) → k < length steps → x ≡ get_or steps k x → NoneStaler old mid.nodes
    → AnswersAfter x (Err fault) (stale mid.nodes) (stale new.nodes) → IsOutcome (refusal mid x) (Err fault) → (is_done (Err fault) ≡ false → new ≡ mid) → LosesAt steps k fault old new.nodes
loses old mid new steps k x Stale lt is so_far h may undone = (
  x,
  slice_get-get_or steps k x lt ∙ ap Some (sym is),
  joins x _ _ h,
  stale_there x _ _ (subst (λ n. node_of x < n) (sym (length-map mid.nodes (λ (n : Held). n.is_stale))) (there mid x may)) h,
  lost old mid.nodes new.nodes x so_far h,
)
loses old mid new steps k x NoNode lt is so_far h may undone = same_then old mid new so_far (undone refl)
loses old mid new steps k x NoMail lt is so_far h may undone = same_then old mid new so_far (undone refl)
loses old mid new steps k x EmptyInbox lt is so_far h may undone = same_then old mid new so_far (undone refl)
loses old mid new steps k x Rank lt is so_far h may undone = same_then old mid new so_far (undone refl)
loses old mid new steps k x FrameLength lt is so_far h may undone = same_then old mid new so_far (undone refl)
loses old mid new steps k x NodeCount lt is so_far h may undone = same_then old mid new so_far (undone refl)
loses old mid new steps k x Memory lt is so_far h may undone = same_then old mid new so_far (undone refl)

-- ---- answers that are made

-- a node that is there and has its answer isn't without one
there_answered : (flags : List Bool) (node : ℕ) → slice_index_or flags node true ≡ false → slice_index_or flags node false ≡ false
there_answered [] node had = refl
there_answered (flag ∷ flags) zero had = had
there_answered (flag ∷ flags) (suc node) had = there_answered flags node had

-- a node that was set to have one
set_answered : (flags : List Bool) (node : ℕ) → slice_index_or (slice_set flags node false) node false ≡ false
set_answered [] node = refl
set_answered (flag ∷ flags) zero = refl
set_answered (flag ∷ flags) (suc node) = set_answered flags node

-- the node of an accepted step that makes its answer
step_answered : (x : Step) (y : Unit {0}) (old new : List Bool) → AnswersAfter x (Ok y) old new → makes_answer x ≡ true → slice_index_or new (node_of x) false ≡ false
step_answered (Post worker node segment) y old new a makes = absurd (cc makes)
step_answered (Take node) y old new a makes = ap (λ l. slice_index_or l node false) a.1 ∙ there_answered old node a.0
step_answered (Ship node) y old new a makes = absurd (cc makes)
step_answered (Deliver mail node) y old new a makes = ap (λ l. slice_index_or l node false) a.1 ∙ there_answered old node a.0
step_answered (Restart node) y old new a makes = ap (λ l. slice_index_or l node false) a ∙ set_answered old node

-- one step more
pub answered_more : (mid new : List Held) (steps : List Step) (k : ℕ) (x : Step) (y : Unit {0}) → k < length steps → x ≡ get_or steps k x → NoneStaler mid new → AnswersAfter x (Ok y) (stale mid) (stale new)
    → AreAnswered (take k steps) mid → AreAnswered (take (k + 1) steps) new
answered_more mid new steps k x y lt is fresh after so_far step has makes =
    let e : take (k + 1) steps ≡ take k steps ++ x ∷ [] = take_more steps k x lt ∙ ap (λ z. take k steps ++ z ∷ []) (sym is) in
    ⊎_elim
    (λ (before : Contains (take k steps) step). fresh (node_of step) (so_far step before makes))
    (λ (same : x ≡ step). subst (λ (s : Step). makes_answer s ≡ true → slice_index_or (stale new) (node_of s) false ≡ false) same (step_answered x y (stale mid) (stale new) after) makes)
    (Contains-push_cases (take k steps) x step (subst (λ l. Contains l step) e has))
