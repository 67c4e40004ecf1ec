-- What is known of the arguments of a collective call.
use Rattle.std.specs.Prelude.{ℕ, ◌&&◌, List, Bool, true, false, Option, Some, None, is_none}
use Rattle.std.specs.Str.{bytes_eq}

-- A name and counts: counts with the name of their datatype, or the name of an operation, without counts.
pub record KnownParts : Type 0 where
  pub name : List ℕ
  pub counts : List ℕ

-- What a call tells, as far as it is known: its operation; its counts; and those that it has if it is the root's, where the
-- root has others than the rest.
pub record ToldParts : Type 0 where
  pub operation : Option KnownParts
  pub counts : Option KnownParts
  pub at_root : Option KnownParts

-- one name, and the same counts
abbrev pub same_known : KnownParts → KnownParts → Bool
same_known a b = bytes_eq a.name b.name && bytes_eq a.counts b.counts

-- both are known to be the same, or neither is known
abbrev pub same_option : Option KnownParts → Option KnownParts → Bool
same_option None None = true
same_option (Some a) (Some b) = same_known a b
same_option None (Some b) = false
same_option (Some a) None = false

-- two calls tell the same
abbrev pub same_told : ToldParts → ToldParts → Bool
same_told a b = same_option a.operation b.operation && same_option a.counts b.counts && same_option a.at_root b.at_root

-- nothing is known of a call
abbrev pub is_empty : ToldParts → Bool
is_empty told = is_none told.operation && is_none told.counts && is_none told.at_root
