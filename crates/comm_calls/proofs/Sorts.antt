-- A call names, gives or ends a number of one sort, and says nothing of the others.
use Rattle.std.proofs.Common.{◌≡◌, ◌++◌, ℕ, List, [], ◌∷◌, Option, None, refl, subst, sym}
use Rattle.mpi_model.specs.Calls.{object_of}
use Rattle.mpi_model.specs.declared.call.Call.{Call}
use Rattle.mpi_model.specs.declared.object.Object.{Object}
use Rattle.mpi_model.specs.declared.object.Object.TheVariants as objects
use Rattle.dumpi_text.specs.Call.{TextCall}
use Rattle.comm_makings.specs.declared.calls.CommCall.{CommCall}
use Rattle.comm_calls.specs.Calls.{IsCommCall, KeepsOthers, NamesCall, ReadCalls, ReadUses, ReadsNumber, ReadsUses, TakesCall, uses_by}
use Rattle.comm_calls.specs.Uses.{changed_of_call, named_number, of_changed, of_sort}
use Rattle.comm_calls.specs.declared.function.Function.{Function}

unread : (place : ℕ) (old new : ReadUses) → new ≡ old → ReadsUses place None None old new
unread place old new e = subst (ReadsUses place None None old) (sym e) (record { groups = refl; going = λ number. refl })

-- no number of any sort
no_number : (object sort : Object) → of_sort object sort None ≡ None
no_number objects.Communicator objects.Communicator = refl
no_number objects.Communicator objects.Window = refl
no_number objects.Communicator objects.File = refl
no_number objects.Window objects.Communicator = refl
no_number objects.Window objects.Window = refl
no_number objects.Window objects.File = refl
no_number objects.File objects.Communicator = refl
no_number objects.File objects.Window = refl
no_number objects.File objects.File = refl

module _ (place : ℕ) (named changed : Option ℕ) (old new : ReadCalls) where
  by_sort : (sort : Object) → ReadsUses place named changed (uses_by sort old) (uses_by sort new) → KeepsOthers sort old new
      → (object : Object) → ReadsUses place (of_sort object sort named) (of_sort object sort changed) (uses_by object old) (uses_by object new)
  by_sort objects.Communicator reads keeps objects.Communicator = reads
  by_sort objects.Communicator reads keeps objects.Window = unread place old.windows new.windows keeps.0
  by_sort objects.Communicator reads keeps objects.File = unread place old.files new.files keeps.1
  by_sort objects.Window reads keeps objects.Communicator = unread place old.uses new.uses keeps.0
  by_sort objects.Window reads keeps objects.Window = reads
  by_sort objects.Window reads keeps objects.File = unread place old.files new.files keeps.1
  by_sort objects.File reads keeps objects.Communicator = unread place old.uses new.uses keeps.0
  by_sort objects.File reads keeps objects.Window = unread place old.windows new.windows keeps.1
  by_sort objects.File reads keeps objects.File = reads

-- the calls so far, and one more
abbrev pub with_call : ReadCalls → CommCall → ReadCalls
with_call old read =
    record { place = old.place; world = old.world; own = old.own; size = old.size; calls = old.calls ++ read ∷ []; uses = old.uses; windows = old.windows; files = old.files }

uses_kept : (object : Object) (old : ReadCalls) (read : CommCall) → uses_by object (with_call old read) ≡ uses_by object old
uses_kept objects.Communicator old read = refl
uses_kept objects.Window old read = refl
uses_kept objects.File old read = refl

-- a call of a function that is read is added
pub call_taken : (function : Function) (old new : ReadCalls) (raw : TextCall) (read : CommCall) (object : Object) (changed : Option ℕ) → IsCommCall function old.place raw read
    → changed_of_call read ≡ (object, changed) → ReadsNumber object None changed (with_call old read) new → TakesCall function old raw new
call_taken function old new raw read object changed is says reads = record {
  read = read;
  is = is;
  calls = reads.calls;
  uses = λ other.
      subst (λ (u : ReadUses). ReadsUses old.place None (of_changed other (changed_of_call read)) u (uses_by other new)) (uses_kept other old read)
      (subst (λ (p : Object × Option ℕ). ReadsUses old.place None (of_changed other p) (uses_by other (with_call old read)) (uses_by other new)) (sym says)
      (subst (λ (n : Option ℕ). ReadsUses old.place n (of_sort other object changed) (uses_by other (with_call old read)) (uses_by other new)) (no_number other object)
      (by_sort old.place None changed (with_call old read) new object reads.uses reads.others other)));
  place = reads.place;
  world = reads.world;
  own = reads.own;
  size = reads.size;
}

-- a call of the profile names its object
pub object_named : (old new : ReadCalls) (call : Call) (object : Object) (named : Option ℕ) → object ≡ object_of call → named ≡ named_number call
    → ReadsNumber object named None old new → NamesCall old call new
object_named old new call object named same is reads = record {
  calls = reads.calls;
  uses = λ other.
      subst (λ (o : Object). ReadsUses old.place (of_sort other o (named_number call)) None (uses_by other old) (uses_by other new)) same
      (subst (λ (m : Option ℕ). ReadsUses old.place (of_sort other object m) None (uses_by other old) (uses_by other new)) is
      (subst (λ (n : Option ℕ). ReadsUses old.place (of_sort other object named) n (uses_by other old) (uses_by other new)) (no_number other object)
      (by_sort old.place named None old new object reads.uses reads.others other)));
  place = reads.place;
  world = reads.world;
  own = reads.own;
  size = reads.size;
}
