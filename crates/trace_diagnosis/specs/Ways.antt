-- By what a message finds the receives that differ from it in one thing.
use Rattle.std.specs.Prelude.{◌≡◌, ◌==◌, ◌&&◌, ◌||◌, ℕ, Bool, true, false, not, Option, Some, None, List, ◌++◌, take}
use Rattle.std.specs.Option.{option_map}
use Rattle.mpi_model.specs.declared.message.Message.{Message}
use Rattle.mpi_model.specs.declared.message.Receive.{Receive}
use Rattle.diagnosis_value.specs.declared.diagnosis.Why.{Why}
use Rattle.diagnosis_value.specs.declared.diagnosis.Why.TheVariants as why
use Rattle.trace_wait.specs.Patterns.{Pattern, same_pattern}
use Rattle.trace_diagnosis.specs.Places.{first_places}
use Rattle.trace_diagnosis.specs.Fewest.{only_if}
use Rattle.trace_diagnosis.specs.Shelves.{has_key, others_at}
use Rattle.trace_diagnosis.specs.declared.near.Place.{Place}
use Rattle.trace_diagnosis.specs.declared.near.Way.{Way}
use Rattle.trace_diagnosis.specs.declared.shelf.Shelf.{Shelf}
use Rattle.trace_diagnosis.specs.declared.near.Way.TheVariants.{Tag, Comm, Source, Dest}

-- the sort of near misses that differ in this way
abbrev pub why_of : Way → Why
why_of Tag = why.Tag
why_of Comm = why.Comm
why_of Source = why.Source
why_of Dest = why.Dest

-- what a receive has in common with those from which it differs in one thing, and what it names there
abbrev pub tag_place : Receive → ℕ → Place
tag_place q tag = record { key = (q.comm, q.at, q.source, None); value = tag }

abbrev pub comm_place : Receive → Place
comm_place q = record { key = (q.at, 0, q.source, q.tag); value = q.comm }

abbrev pub source_place : Receive → ℕ → Place
source_place q source = record { key = (q.comm, q.at, None, q.tag); value = source }

abbrev pub dest_place : Receive → ℕ → Place
dest_place q source = record { key = (q.comm, source, None, q.tag); value = q.at }

-- where a receive stands, if it names that thing
abbrev pub place_of : Way → Receive → Option Place
place_of Tag q = option_map (tag_place q) q.tag
place_of Comm q = Some (comm_place q)
place_of Source q = option_map (source_place q) q.source
place_of Dest q = option_map (dest_place q) q.source

-- where receives stand that differ from the message in one thing, by the source and the tag that they name
abbrev pub place_for : Way → Message → Option ℕ → Option ℕ → Place
place_for Tag m source tag = record { key = (m.comm, m.to, source, None); value = m.tag }
place_for Comm m source tag = record { key = (m.to, 0, source, tag); value = m.comm }
place_for Source m source tag = record { key = (m.comm, m.to, None, tag); value = m.from }
place_for Dest m source tag = record { key = (m.comm, m.from, None, tag); value = m.to }

-- they have the key in common, and differ in the value
abbrev pub meets : Place → Place → Bool
meets a b = same_pattern a.key b.key && not (a.value == b.value)

-- the receive stands at the key of the place, and differs from it
abbrev pub stands_at : Option Place → Place → Bool
stands_at None p = false
stands_at (Some o) p = meets o p

abbrev pub stands : Way → Place → Receive → Bool
stands w p q = stands_at (place_of w q) p

-- Receives by their keys.
abbrev pub AreReceives : Way → List Receive → Shelf → Type 0
AreReceives w receives shelf = (p : Place) → others_at shelf p.key p.value ≡ first_places (stands w p) receives

-- the receives that name this source, and the message's tag or any
abbrev pub stands_from : Way → Message → Option ℕ → Receive → Bool
stands_from w m source q = stands w (place_for w m source None) q || stands w (place_for w m source (Some m.tag)) q

-- the same of the places of a message
abbrev pub lies_from : Way → Message → Option ℕ → Place → Bool
lies_from w m source o = meets (place_for w m source None) o || meets (place_for w m source (Some m.tag)) o

-- the message stands at the key of the place, and differs from it
abbrev pub lies : Way → Place → Message → Bool
lies w o m = lies_from w m None o || lies_from w m (Some m.from) o

-- there is a place for messages that differ from the receive in one thing
abbrev pub has_place : Shelf → Option Place → Bool
has_place shelf None = true
has_place shelf (Some o) = has_key shelf o.key

abbrev pub is_asked : Way → Shelf → Receive → Bool
is_asked w shelf q = has_place shelf (place_of w q)

-- Messages by the keys that there are.
abbrev pub AreMessages : Way → List Message → Shelf → Type 0
AreMessages w messages shelf = (o : Place) → has_key shelf o.key ≡ true → others_at shelf o.key o.value ≡ first_places (lies w o) messages

-- receives have no keys in which they name the tag, where they differ in that
abbrev pub names_tag : Way → Bool
names_tag Tag = false
names_tag Comm = true
names_tag Source = true
names_tag Dest = true

-- the same of the source
abbrev pub names_source : Way → Bool
names_source Tag = true
names_source Comm = true
names_source Source = false
names_source Dest = false

-- The receive at a place stands under its key besides those that stood.
abbrev pub PutsReceive : Way → Receive → ℕ → Shelf → Shelf → Type 0
PutsReceive w q place old new = (p : Place) → others_at new p.key p.value ≡ take 3 (others_at old p.key p.value ++ only_if (stands w p q) place)

-- There is a place for what the receive asks for, and for all for which there was one, and nothing stands that didn't.
pub record MakesAsked (w : Way) (q : Receive) (old new : Shelf) : Type 0 where
  pub there : is_asked w new q ≡ true
  pub kept : (k : Pattern) → has_key old k ≡ true → has_key new k ≡ true
  pub same : (k : Pattern) (v : ℕ) → others_at new k v ≡ others_at old k v

-- The message at a place stands at the places that there are and that pass.
pub record PutsMessage (passes : Place → Bool) (place : ℕ) (old new : Shelf) : Type 0 where
  pub kept : (k : Pattern) → has_key new k ≡ has_key old k
  pub more : (o : Place) → has_key old o.key ≡ true → others_at new o.key o.value ≡ take 3 (others_at old o.key o.value ++ only_if (passes o) place)
