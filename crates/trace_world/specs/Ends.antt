-- How a run of steps ends.
use Rattle.std.specs.Prelude.{◌≡◌, ◌≢◌, ◌<◌, Result, List, OnOk, IfErr, length, take}
use Rattle.trace_world.specs.Answers.{AreAnswered, LosesOne}
use Rattle.trace_world.specs.Possible.{Allows}
use Rattle.trace_world.specs.Refusals.{NoneStaler, SameNodes, StopsAt, done}
use Rattle.trace_world.specs.Shows.{Follows, WorldState, knows}
use Rattle.trace_world.specs.declared.step.Step.{Step}
use Rattle.trace_world.specs.declared.step.StepFault.{StepFault}
use Rattle.trace_world.specs.declared.step.WorldFault.TheVariants.{Stale}

-- The steps were done, or those before one that was refused.
pub record Ends (old : WorldState) (steps : List Step) (result : Result (Unit {0}) StepFault) (new : WorldState) : Type 0 where
  pub ok : OnOk result (Follows old steps new)
  pub possible : OnOk result (Allows old steps)
  pub fresh : OnOk result (NoneStaler old.nodes new.nodes)
  pub answered : OnOk result (AreAnswered steps new.nodes)
  pub err : IfErr result (λ e. (e.step < length steps) × Follows old (take (done e) steps) new)
  pub possible_before : IfErr result (λ e. Allows old (take (done e) steps))
  pub cause : IfErr result (λ e. StopsAt new steps e)
  pub lost : IfErr result (λ e. LosesOne steps e old.nodes new.nodes)
  pub same : SameNodes old new

-- The same, of steps that made no answer: so none lacked memory for one.
pub record EndsHeld (old : WorldState) (steps : List Step) (result : Result (Unit {0}) StepFault) (new : WorldState) : Type 0 where
  pub ok : OnOk result (Follows old steps new)
  pub possible : OnOk result (Allows old steps)
  pub err : IfErr result (λ e. (e.step < length steps) × Follows old (take (done e) steps) new)
  pub possible_before : IfErr result (λ e. Allows old (take (done e) steps))
  pub cause : IfErr result (λ e. StopsAt new steps e)
  pub whole : IfErr result (λ e. e.fault ≢ Stale)
  pub same : SameNodes old new

-- Two worlds are the same but for which nodes have an answer.
pub record SameButAnswers (old new : WorldState) : Type 0 where
  pub layout : new.layout ≡ old.layout
  pub knows : knows new.nodes ≡ knows old.nodes
  pub inboxes : new.inboxes ≡ old.inboxes
  pub mails : new.mails ≡ old.mails
