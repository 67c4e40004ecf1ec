-- The fields of an object's sort and of its second group.
use Rattle.std.proofs.Common.{◌≡◌, ◌∷◌, ◌++◌, [], Bool, true, false, codes, refl, if◌then◌else◌}
use Rattle.json.specs.Json.{Members, array, member}
use Rattle.json.specs.Token as tokens
use Rattle.json.specs.Tree.{items_tokens, members_tokens}
use Rattle.mpi_model.specs.declared.object.Object.{Object}
use Rattle.mpi_model.specs.declared.object.Object.TheVariants as sorts
use Rattle.mpi_model.specs.Communicators.{Communicator, is_inter, second_group}
use Rattle.run_files.specs.Values.{items_of, number_of, object_tokens, remote_tokens, with_object, with_remote}

-- its tokens come before those of the other fields
pub object_first : (object : Object) (others : Members) → members_tokens (with_object object others) ≡ object_tokens object ++ members_tokens others
object_first sorts.Communicator others = refl
object_first sorts.Window others = refl
object_first sorts.File others = refl

-- so do those of the second group
pub remote_first : (g : Communicator) (others : Members) → members_tokens (with_remote g others) ≡ remote_tokens g ++ members_tokens others
remote_first g others = by (is_inter g)
  where
    by : (two : Bool) → members_tokens (if two then member (codes "remote") (array (items_of number_of (second_group g))) others else others)
        ≡ (if two then tokens.key (codes "remote") ∷ tokens.begin_array ∷ items_tokens (items_of number_of (second_group g)) else []) ++ members_tokens others
    by true = refl
    by false = refl
