-- What an index of pairs keeps of the ops that it holds.
use Rattle.std.specs.Prelude.{List, All}
use Rattle.trace_ops.specs.Ops.{Ops, AreOwn}
use Rattle.trace_pair.specs.Calls.{IsSingle}
use Rattle.trace_pair.specs.Followed.{Follows}
use Rattle.trace_pair.specs.Reach.{AreReachesOf}
use Rattle.trace_pair.specs.declared.index.Followed.{Followed}
use Rattle.trace_pair.specs.declared.index.Following.{Following}
use Rattle.trace_pair.specs.declared.index.Following.TheVariants.{NotYet, By, Never}

-- Each call has one part, the sets stand for the calls of all ranks, and the table is theirs.
pub record IsFollowed (held : List Ops) (state : Followed) : Type 0 where
  pub single : All IsSingle held
  pub sets : Follows held state.sets
  pub table : AreReachesOf held state.table.items

-- what holds of the sets where some follow
abbrev pub IfSets : Following → (Followed → Type 0) → Type 0
IfSets NotYet P = Unit {0}
IfSets (By state) P = P state
IfSets Never P = Unit {0}

-- Each rank's ops are its own, and where sets follow they stand for all of them.
pub record IsKept (held : List Ops) (following : Following) : Type 0 where
  pub own : AreOwn 0 held
  pub followed : IfSets following (IsFollowed held)
