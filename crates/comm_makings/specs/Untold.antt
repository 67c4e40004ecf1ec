-- Makings that are merely left out: nothing is said of what they make.
use Rattle.std.specs.Prelude.{◌≡◌, ◌⊎◌, List, Option, None}
use Rattle.comm_makings.specs.Here.{first_of}
use Rattle.comm_makings.specs.Makes.{IsOneMaking}
use Rattle.comm_makings.specs.declared.answer.MadeBy.{MadeBy}
use Rattle.comm_makings.specs.declared.here.Here.{Here}

-- The calls of a parent's members are merely left out: there are none, or they are one making, of which nothing is
-- made.
abbrev pub AreLeft : List (Option Here) → Type 0
AreLeft all = (first_of all ≡ None) ⊎ ((function : MadeBy) × IsOneMaking function all)
