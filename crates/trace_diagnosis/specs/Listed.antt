-- Messages by what receives name of them, and how far the open receives of a rank have been gone through. No public
-- clause speaks of it.
use Rattle.std.specs.Prelude.{◌≡◌, ℕ, Bool, true, nat_le, Option, Some, None, List, [], ◌∷◌, ◌++◌, filter, if◌then◌else◌, length, take, unwrap_or, Vec}
use Rattle.std.specs.List.{list_all, list_any}
use Rattle.std.specs.BTreeMap.{BTreeMap, get}
use Rattle.std.specs.BTreeSet.{BTreeSet, contains}
use Rattle.std.specs.Ordering.{is_eq, nat_cmp}
use Rattle.std.specs.declared.alloc.Global.{Global}
use Rattle.mpi_model.specs.declared.message.Message.{Message}
use Rattle.mpi_model.specs.declared.message.Receive.{Receive}
use Rattle.mpi_model.specs.Trusts.{is_open}
use Rattle.trace_ops.specs.Ops.{Ops}
use Rattle.trace_pair.specs.After.{comes_after}
use Rattle.trace_pair.specs.Ends.{AreLast, may_take}
use Rattle.trace_wait.specs.Patterns.{Pattern, pattern_cmp, pattern_of, suits}
use Rattle.trace_wait.specs.Ranks.{ops_of}
use Rattle.trace_diagnosis.specs.Starving.{opened_before}
use Rattle.trace_diagnosis.specs.declared.starved.Front.{Front}

-- the things that are listed, none where there is no list
abbrev pub items_of : {X : Type 0} → Option (Vec X Global) → List X
items_of None = []
items_of (Some v) = v.items

-- the receives that are listed of a rank
abbrev pub listed_of : BTreeMap ℕ (Vec Receive Global) → ℕ → List Receive
listed_of lists r = items_of (get nat_cmp lists r)

-- messages by what a receive names
abbrev pub Lists : Type 0
Lists = BTreeMap Pattern (Vec Message Global)

-- the messages that are listed under a pattern
abbrev pub listed : Lists → Pattern → List Message
listed lists p = items_of (get pattern_cmp lists p)

-- The set has the patterns of these receives, and no others.
abbrev pub AreAsked : List Receive → BTreeSet Pattern → Type 0
AreAsked receives asked = (p : Pattern) → contains pattern_cmp asked p ≡ list_any (λ q. is_eq (pattern_cmp (pattern_of q) p)) receives

-- the message, where the test holds
abbrev pub one_if : Bool → Message → List Message
one_if b m = if b then m ∷ [] else []

-- The message came to the list of that pattern, and to no other.
abbrev pub PutsOne : Pattern → Message → (old new : Lists) → Type 0
PutsOne k m old new = (p : Pattern) → listed new p ≡ listed old p ++ one_if (is_eq (pattern_cmp k p)) m

-- The same of the patterns that are asked for.
abbrev pub PutsUnder : BTreeSet Pattern → Pattern → Message → (old new : Lists) → Type 0
PutsUnder asked k m old new = (p : Pattern) → contains pattern_cmp asked p ≡ true → listed new p ≡ listed old p ++ one_if (is_eq (pattern_cmp k p)) m

-- The message came to the lists of those of its patterns that are asked for.
abbrev pub PutsMessage : BTreeSet Pattern → Message → (old new : Lists) → Type 0
PutsMessage asked m old new = (p : Pattern) → contains pattern_cmp asked p ≡ true → listed new p ≡ listed old p ++ one_if (suits m p) m

-- Under each pattern that is asked for stand those of the messages that suit it, in their order.
abbrev pub AreListed : BTreeSet Pattern → List Message → Lists → Type 0
AreListed asked messages lists = (p : Pattern) → contains pattern_cmp asked p ≡ true → listed lists p ≡ filter (λ m. suits m p) messages

-- how many of the first messages of a pattern have been passed
abbrev pub passed_at : BTreeMap Pattern ℕ → Pattern → ℕ
passed_at passed p = unwrap_or (get pattern_cmp passed p) 0

-- the open ones of so many receives
abbrev pub opened : List Receive → ℕ → List Receive
opened receives n = filter is_open (take n receives)

-- The open receives before the place have been gone through, and may have taken the messages that have been passed.
pub record IsFront (ops : List Ops) (lists : Lists) (front : Front) : Type 0 where
  pub last : AreLast (opened (ops_of ops front.rank).receives front.place) front.ends
  pub passed : (p : Pattern) → list_all (may_take (comes_after ops) (opened (ops_of ops front.rank).receives front.place)) (take (passed_at front.passed p) (listed lists p)) ≡ true

-- Where the messages before `from` pass the test, those before `at` do, and all do just where that is behind the last.
abbrev pub IsFirstFree : (Message → Bool) → List Message → (from at : ℕ) → Type 0
IsFirstFree taken messages from at =
    list_all taken (take from messages) ≡ true → (list_all taken (take at messages) ≡ true) × (nat_le (length messages) at ≡ list_all taken messages)

-- A receive starves by the messages that are listed under what it names.
abbrev pub is_starved_by : List Ops → Lists → Receive → Bool
is_starved_by ops lists q = list_all (may_take (comes_after ops) (opened_before ops q)) (listed lists (pattern_of q))
