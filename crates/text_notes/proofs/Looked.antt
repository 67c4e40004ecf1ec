-- What a second look keeps of the calls that it is given.
use Rattle.std.proofs.Common.{◌≡◌, ◌∙◌, ℕ, List, [], ◌∷◌, ◌++◌, Option, Some, None, max, refl, sym, ap, subst, append_assoc, append-nil, arith}
use Rattle.std.specs.Prelude.{option_to_list}
use Rattle.std.specs.BTreeSet.{BTreeSet}
use Rattle.mpi_model.specs.Failures.{one_more}
use Rattle.mpi_model.specs.declared.call.Call.{Call}
use Rattle.dumpi_text.specs.Call.{TextCall}
use Rattle.dumpi_calls.specs.RawWalks.{IsWalkedRaw, Taken}
use Rattle.dumpi_calls.specs.declared.walking.Walked.{Walked}
use Rattle.text_notes.specs.Arguments.{CallToldParts, arguments_from, call_told}
use Rattle.text_notes.specs.Looks.{AreRead, IsLookOf, LookState, greater, greatest_size, local_from, looked, looking, nothing_looked, sites_from, size_of, wanted_site, with_local}
use Rattle.text_notes.specs.Noted.{UnreadParts}
use Rattle.text_notes.specs.Sites.{SiteParts}

-- What is told then is what was told before, with these calls.
pub record Goes (old : LookState) (calls : List (TextCall × Call)) (new : LookState) : Type 0 where
  pub sites_are : new.told.sites ≡ old.told.sites ++ sites_from old.wanted old.calls calls
  pub local_are : new.told.local ≡ local_from old.limit old.calls old.told.local calls
  pub size_is : new.told.size ≡ greater old.told.size (greatest_size calls)
  pub arguments_are : new.told.arguments ≡ old.told.arguments ++ arguments_from old.calls calls

max_assoc : (a b c : ℕ) → max (max a b) c ≡ max a (max b c)
max_assoc a b c = omega arith

greater_in_turn : (a b c : Option ℕ) → greater (greater a b) c ≡ greater a (greater b c)
greater_in_turn None b c = refl
greater_in_turn (Some n) None c = refl
greater_in_turn (Some n) (Some m) None = refl
greater_in_turn (Some n) (Some m) (Some k) = ap (λ (x : ℕ). Some x) (max_assoc n m k)

greater_none : (a : Option ℕ) → a ≡ greater a None
greater_none None = refl
greater_none (Some n) = refl

-- the first of the calls, and then the others
behind : (old new : LookState) (raw : TextCall) (call : Call) (calls : List (TextCall × Call)) → Goes (looked old raw call) calls new → Goes old ((raw, call) ∷ calls) new
behind old new raw call calls goes = record {
  sites_are = goes.sites_are ∙ append_assoc old.told.sites (option_to_list (wanted_site old.wanted old.calls raw)) (sites_from old.wanted (one_more old.calls) calls);
  local_are = goes.local_are;
  size_is = goes.size_is ∙ greater_in_turn old.told.size (size_of raw) (greatest_size calls);
  arguments_are = goes.arguments_are ∙ append_assoc old.told.arguments (option_to_list (call_told old.calls raw call)) (arguments_from (one_more old.calls) calls);
}

none : (old new : LookState) → new ≡ old → Goes old [] new
none old new same = record {
  sites_are = ap (λ (s : LookState). s.told.sites) same ∙ sym (append-nil old.told.sites);
  local_are = ap (λ (s : LookState). s.told.local) same;
  size_is = ap (λ (s : LookState). s.told.size) same ∙ greater_none old.told.size;
  arguments_are = ap (λ (s : LookState). s.told.arguments) same ∙ sym (append-nil old.told.arguments);
}

goes_on : (raws : List TextCall) (old new : LookState) → Taken looking raws old new → (calls : List (TextCall × Call)) × AreRead raws calls × Goes old calls new
goes_on [] old new same = ([], refl, none old new same)
goes_on (raw ∷ raws) old new taken =
    let more = goes_on raws taken.1 new taken.4 in
    let goes : Goes (looked old raw taken.0.call) more.0 new = subst (λ (s : LookState). Goes s more.0 new) taken.3 more.2 in
    ((raw, taken.0.call) ∷ more.0, (taken.0, more.0, taken.2, more.1, refl), behind old new raw taken.0.call more.0 goes)

-- A walk over a whole text tells what its calls do.
pub tells : (wanted : BTreeSet ℕ) (limit : ℕ) (text : Option (List ℕ)) (new : LookState) (walked : Walked) → IsWalkedRaw looking text (nothing_looked wanted limit) new walked → IsLookOf wanted limit text new.told
tells wanted limit None new walked w = tt
tells wanted limit (Some text) new walked w =
    let all = goes_on w.calls (nothing_looked wanted limit) new w.handed.taken in
    record {
      raws = w.calls;
      at = w.at;
      whole = w.means;
      calls = all.0;
      read_as = all.1;
      told = record { sites_are = all.2.sites_are; local_are = all.2.local_are; size_is = all.2.size_is; arguments_are = all.2.arguments_are };
    }

-- What is kept with one call more, part by part.
pub looked_so : (old : LookState) (raw : TextCall) (call : Call) (calls : ℕ) (sites : List SiteParts) (local : List UnreadParts) (size : Option ℕ) (arguments : List CallToldParts)
    → calls ≡ one_more old.calls → sites ≡ old.told.sites ++ option_to_list (wanted_site old.wanted old.calls raw)
    → local ≡ with_local old.limit old.calls (raw, call) old.told.local → size ≡ greater old.told.size (size_of raw) → arguments ≡ old.told.arguments ++ option_to_list (call_told old.calls raw call)
    → ◌≡◌ {A = LookState} (record { wanted = old.wanted; limit = old.limit; calls = calls; told = record { sites = sites; local = local; size = size; arguments = arguments } }) (looked old raw call)
looked_so old raw call calls sites local size arguments c s l z a = rw (c, s, l, z, a) refl
