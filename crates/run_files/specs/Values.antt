-- The JSON values of a layout and of a manifest.
use Rattle.std.specs.Prelude.{◌≡◌, ℕ, ◌==◌, ◌&&◌, Bool, true, false, List, [], ◌∷◌, ◌++◌, Option, Some, None, Result, OnOk, codes, decimal, is_some, not, if◌then◌else◌}
use Rattle.json.specs.Json.{Json, null, boolean, number, string, array, object, Items, no_items, item, Members, no_members, member}
use Rattle.json.specs.Print.{print}
use Rattle.json.specs.Token.{Token}
use Rattle.json.specs.Token as tokens
use Rattle.json.specs.Tree.{items_tokens, json_tokens}
use Rattle.json.specs.Written.{Written}
use Rattle.mpi_model.specs.declared.object.Object.{Object}
use Rattle.mpi_model.specs.declared.object.Object.TheVariants as sorts
use Rattle.mpi_model.specs.Communicators.{Communicator, first_group, is_inter, second_group}
use Rattle.mpi_model.specs.Layouts.{Parts}
use Rattle.mpi_model.specs.declared.layout.Sends.{Sends}
use Rattle.mpi_model.specs.declared.layout.Sends.TheVariants.{Wait, Buffer}
use Rattle.mpi_model.specs.declared.layout.comm.Stretch.{Stretch}
use Rattle.run_files.specs.Manifests.{PieceParts}

-- a number, in decimal digits
abbrev pub number_of : ℕ → Json
number_of n = number (decimal n)

-- the values of a list, in its order
abbrev pub items_of : {X : Type 0} → (X → Json) → List X → Items
items_of value [] = no_items
items_of value (x ∷ xs) = item (value x) (items_of value xs)

-- the stretch holds all calls
abbrev pub is_always : Stretch → Bool
is_always s = (s.first == 0) && not (is_some s.end)

-- the end of a stretch of calls, or that it has none
abbrev pub end_value : Option ℕ → Json
end_value None = null
end_value (Some call) = number_of call

-- a number over all calls, or a number with its first call and its end
abbrev pub stretch_value : Stretch → Json
stretch_value s = if is_always s then number_of s.number else array (item (number_of s.number) (item (number_of s.first) (item (end_value s.end) no_items)))

-- a member's entry
abbrev pub entry_value : Option Stretch → Json
entry_value None = null
entry_value (Some s) = stretch_value s

-- the field of the entries, where there are some
abbrev pub numbers_field : List (Option Stretch) → Members
numbers_field [] = no_members
numbers_field (e ∷ es) = member (codes "numbers") (array (items_of entry_value (e ∷ es))) no_members

-- the field of an object's sort, where it is no communicator, before other fields
abbrev pub with_object : Object → Members → Members
with_object sorts.Communicator others = others
with_object sorts.Window others = member (codes "object") (string (codes "window")) others
with_object sorts.File others = member (codes "object") (string (codes "file")) others

-- the tokens of that field
abbrev pub object_tokens : Object → List Token
object_tokens sorts.Communicator = []
object_tokens sorts.Window = tokens.key (codes "object") ∷ tokens.string (codes "window") ∷ []
object_tokens sorts.File = tokens.key (codes "object") ∷ tokens.string (codes "file") ∷ []

-- the field of an intercommunicator's second group, before other fields
abbrev pub with_remote : Communicator → Members → Members
with_remote g others = if is_inter g then member (codes "remote") (array (items_of number_of (second_group g))) others else others

-- the tokens of that field
abbrev pub remote_tokens : Communicator → List Token
remote_tokens g = if is_inter g then tokens.key (codes "remote") ∷ tokens.begin_array ∷ items_tokens (items_of number_of (second_group g)) else []

-- `{"id":C,"object":"window","members":[..],"remote":[..],"numbers":[..]}`, without the second field for a
-- communicator, and without the fourth for what has one group
abbrev pub communicator_value : Communicator → Json
communicator_value g = object (member (codes "id") (number_of g.comm) (with_object g.object (member (codes "members") (array (items_of number_of (first_group g))) (with_remote g (numbers_field g.numbers)))))

-- how sends of standard mode complete
abbrev pub sends_word : Sends → List ℕ
sends_word Wait = codes "wait"
sends_word Buffer = codes "buffer"

-- the layout of these ranks, this world, these sends and these communicators
abbrev pub parts_of : ℕ → ℕ → Sends → List Communicator → Parts
parts_of ranks world sends comms = record { ranks = ranks; world = world; sends = sends; comms = comms }

-- `{"ranks":N,"world":C,"sends":"wait","comms":[..]}`
abbrev pub layout_value : Parts → Json
layout_value l = object (member (codes "ranks") (number_of l.ranks) (member (codes "world") (number_of l.world)
    (member (codes "sends") (string (sends_word l.sends)) (member (codes "comms") (array (items_of communicator_value l.comms)) no_members))))

-- the field of a text that was cut off
abbrev pub cut_field : Bool → Members
cut_field true = member (codes "cut") (boolean true) no_members
cut_field false = no_members

-- its tokens
abbrev pub cut_tokens : Bool → List Token
cut_tokens true = tokens.key (codes "cut") ∷ tokens.boolean true ∷ []
cut_tokens false = []

-- a text that names no node and no worker: `{"rank":R,"first":N,"file":".."}`, with `"cut":true` where it was cut off
abbrev pub piece_value : PieceParts → Json
piece_value p = object (member (codes "rank") (number_of p.rank) (member (codes "first") (number_of p.first) (member (codes "file") (string p.file) (cut_field p.cut))))

-- `{"pieces":[..]}`
abbrev pub manifest_value : List PieceParts → Json
manifest_value texts = object (member (codes "pieces") (array (items_of piece_value texts)) no_members)

-- a value without spaces, and a line feed
abbrev pub line_of : Json → List ℕ
line_of value = print (json_tokens value) ++ 10 ∷ []

-- These tokens are put behind those that were put before.
pub record Puts {E : Type 0} (r : Result (Unit {0}) E) (old new : Written) (tokens : List Token) : Type 0 where
  pub before : new.before ≡ old.before
  pub put : OnOk r (new.tokens ≡ old.tokens ++ tokens)
