-- Which nodes have an answer after a step, and after a run that ended before its last step.
use Rattle.std.specs.Prelude.{◌≡◌, ◌≢◌, ◌⊎◌, ⊤, ℕ, Bool, true, false, Contains, Result, Ok, Err, Some, List, slice_index_or, slice_set}
use Rattle.std.specs.List.{slice_get}
use Rattle.trace_node.specs.Node.{Held}
use Rattle.trace_world.specs.declared.step.Step.{Step}
use Rattle.trace_world.specs.declared.step.Step.TheVariants.{Post, Take, Ship, Deliver, Restart}
use Rattle.trace_world.specs.declared.step.StepFault.{StepFault}
use Rattle.trace_world.specs.declared.step.WorldFault.{WorldFault}
use Rattle.trace_world.specs.declared.step.WorldFault.TheVariants.{Memory, NoNode, Stale}
use Rattle.trace_world.specs.Refusals.{NoneStaler, node_of, stale}

-- A node was to join more. Where that was accepted it had an answer, and has one; at `Stale` it has none; and a refusal
-- leaves it what it had. No other node has gained or lost an answer.
abbrev pub AnswersMore : ℕ → Result (Unit {0}) WorldFault → List Bool → List Bool → Type 0
AnswersMore node (Ok done) old new = (slice_index_or old node true ≡ false) × (new ≡ old)
AnswersMore node (Err Stale) old new = new ≡ slice_set old node true
AnswersMore node (Err fault) old new = new ≡ old

-- A node was to start anew. Where that was accepted it has an answer.
abbrev pub AnswersAnew : ℕ → Result (Unit {0}) WorldFault → List Bool → List Bool → Type 0
AnswersAnew node (Ok done) old new = new ≡ slice_set old node false
AnswersAnew node (Err Stale) old new = ⊥
AnswersAnew node (Err fault) old new = new ≡ old

-- A node was to make its answer from what it knows. Where that was accepted it has one; where there was no memory it
-- has none.
abbrev pub AnswersFresh : ℕ → Result (Unit {0}) WorldFault → List Bool → List Bool → Type 0
AnswersFresh node (Ok done) old new = new ≡ slice_set old node false
AnswersFresh node (Err Memory) old new = new ≡ slice_set old node true
AnswersFresh node (Err NoNode) old new = new ≡ old
AnswersFresh node (Err fault) old new = ⊥

-- No node was to make an answer, and none has gained or lost one.
abbrev pub AnswersStill : Result (Unit {0}) WorldFault → List Bool → List Bool → Type 0
AnswersStill (Err Stale) old new = ⊥
AnswersStill result old new = new ≡ old

-- Of each node, whether it had no answer before a step and whether it has none after it. Only takes and deliveries
-- leave a node without one.
abbrev pub AnswersAfter : Step → Result (Unit {0}) WorldFault → List Bool → List Bool → Type 0
AnswersAfter (Post worker node segment) result old new = AnswersStill result old new
AnswersAfter (Take node) result old new = AnswersMore node result old new
AnswersAfter (Ship node) result old new = AnswersStill result old new
AnswersAfter (Deliver mail node) result old new = AnswersMore node result old new
AnswersAfter (Restart node) result old new = AnswersAnew node result old new

-- A node was to join more, and to make no answer. It has one then only if it had one before. No other node has gained
-- or lost an answer.
abbrev pub HoldsMore : ℕ → Result (Unit {0}) WorldFault → List Bool → List Bool → Type 0
HoldsMore node (Ok done) old new = (is_stale : Bool) × (new ≡ slice_set old node is_stale) × (is_stale ≡ false → slice_index_or old node true ≡ false)
HoldsMore node (Err Stale) old new = ⊥
HoldsMore node (Err fault) old new = new ≡ old

-- Of each node, whether it had no answer before a step and whether it has none after it, where none was to be made.
abbrev pub HoldsAfter : Step → Result (Unit {0}) WorldFault → List Bool → List Bool → Type 0
HoldsAfter (Post worker node segment) result old new = AnswersStill result old new
HoldsAfter (Take node) result old new = HoldsMore node result old new
HoldsAfter (Ship node) result old new = AnswersStill result old new
HoldsAfter (Deliver mail node) result old new = HoldsMore node result old new
HoldsAfter (Restart node) result old new = AnswersAnew node result old new

-- A node that joined more was to make its answer, if it had one before.
abbrev pub AnswersAgain : ℕ → Bool → Result (Unit {0}) WorldFault → List Bool → List Bool → Type 0
AnswersAgain node had (Ok done) old new = (had ≡ true) × (new ≡ slice_set old node false)
AnswersAgain node had (Err Stale) old new = ((had ≡ false) × (new ≡ old)) ⊎ (new ≡ slice_set old node true)
AnswersAgain node had (Err fault) old new = ⊥

-- No node is without its answer.
abbrev pub AllAnswered : List Held → Type 0
AllAnswered nodes = (i : ℕ) → slice_index_or (stale nodes) i false ≡ false

-- whether a step's node joins more
abbrev pub joins_more : Step → Bool
joins_more (Post worker node segment) = false
joins_more (Take node) = true
joins_more (Ship node) = false
joins_more (Deliver mail node) = true
joins_more (Restart node) = false

-- whether a step's node makes its answer anew: it joins more, or starts anew
abbrev pub makes_answer : Step → Bool
makes_answer (Post worker node segment) = false
makes_answer (Take node) = true
makes_answer (Ship node) = false
makes_answer (Deliver mail node) = true
makes_answer (Restart node) = true

-- Each node that joined more or started anew at one of these steps has its answer.
abbrev pub AreAnswered : List Step → List Held → Type 0
AreAnswered steps nodes = (step : Step) → Contains steps step → makes_answer step ≡ true → slice_index_or (stale nodes) (node_of step) false ≡ false

-- At this step its node joins more: only then can it lose its answer.
abbrev pub JoinsMore : Step → Type 0
JoinsMore (Take node) = ⊤
JoinsMore (Deliver mail node) = ⊤
JoinsMore step = ⊥

-- A run ended at this step for this. No node that had an answer has lost it, but at `Stale`: then the step's own node
-- joined more, and has none.
abbrev pub LosesAt : List Step → ℕ → WorldFault → List Held → List Held → Type 0
LosesAt steps k Stale old new = (step : Step) × (slice_get steps k ≡ Some step) × JoinsMore step × (slice_index_or (stale new) (node_of step) false ≡ true)
    × ((i : ℕ) → i ≢ node_of step → slice_index_or (stale old) i false ≡ false → slice_index_or (stale new) i false ≡ false)
LosesAt steps k fault old new = NoneStaler old new

-- A run ended so, and no node but one at most has lost its answer.
abbrev pub LosesOne : List Step → StepFault → List Held → List Held → Type 0
LosesOne steps e old new = LosesAt steps e.step e.fault old new
