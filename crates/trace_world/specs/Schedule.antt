-- Schedules: what posts, takes, shipments, deliveries and restarts do to plain lists of segments. They know no cells,
-- no frames and no answers.
use Rattle.std.specs.Prelude.{ℕ, List, [], ◌∷◌, ◌++◌, drop, take, replicate, slice_index_or, slice_set}
use Rattle.trace_know.specs.Segment.{PlacedEvents}
use Rattle.trace_world.specs.declared.step.Step.{Step}
use Rattle.trace_world.specs.declared.step.Step.TheVariants.{Post, Take, Ship, Deliver, Restart}

-- Of each node the segments that wait in its inbox and those that reached it, and the mails, each the segments that had
-- reached its sender when it was shipped.
pub record State : Type 0 where
  pub inboxes : List (List PlacedEvents)
  pub reached : List (List PlacedEvents)
  pub mails : List (List PlacedEvents)

-- the segments of a node, or of a mail
abbrev pub at : List (List PlacedEvents) → ℕ → List PlacedEvents
at lists i = slice_index_or lists i []

-- the segments of each node, with one more at the end of one node's
abbrev pub with_segment : List (List PlacedEvents) → ℕ → PlacedEvents → List (List PlacedEvents)
with_segment lists node segment = slice_set lists node (at lists node ++ segment ∷ [])

-- so many nodes that nothing has happened to
abbrev pub opening : ℕ → State
opening nodes = record { inboxes = replicate nodes []; reached = replicate nodes []; mails = [] }

-- A post adds a segment to the inbox. A take moves the inbox's front to what reached the node. A shipment mails all
-- that reached it. A delivery adds a mail's segments to what reached the node. A restart leaves the node with nothing.
abbrev pub after : Step → State → State
after (Post worker node segment) s = record s { inboxes = with_segment s.inboxes node segment }
after (Take node) s = record s { inboxes = slice_set s.inboxes node (drop 1 (at s.inboxes node)); reached = slice_set s.reached node (at s.reached node ++ take 1 (at s.inboxes node)) }
after (Ship node) s = record s { mails = s.mails ++ at s.reached node ∷ [] }
after (Deliver mail node) s = record s { reached = slice_set s.reached node (at s.reached node ++ at s.mails mail) }
after (Restart node) s = record s { inboxes = slice_set s.inboxes node []; reached = slice_set s.reached node [] }

-- a whole schedule
abbrev pub after_all : List Step → State → State
after_all [] s = s
after_all (step ∷ steps) s = after_all steps (after step s)
