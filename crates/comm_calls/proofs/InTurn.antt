-- Calls that are read one after another.
use Rattle.std.proofs.Common.{◌≡◌, ◌∙◌, ◌<◌, ◌+◌, ◌-◌, ◌^◌, ℕ, List, [], ◌∷◌, ◌++◌, Option, Some, None, Ok, ◌⊎◌, inl, inr, is_some, if◌then◌else◌, codes, length, length-append, append_assoc, append-nil, ap, sym, subst, refl, arith}
use Rattle.mpi_model.specs.declared.call.Call.{Call}
use Rattle.mpi_model.specs.declared.object.Object.{Object}
use Rattle.mpi_model.specs.declared.object.Object.TheVariants as objects
use Rattle.dumpi_text.specs.Call.{TextCall}
use Rattle.comm_makings.specs.declared.calls.CommCall.{CommCall}
use Rattle.dumpi_calls.specs.RawWalks.{Taken}
use Rattle.dumpi_calls.specs.Rows.{typed}
use Rattle.dumpi_calls.specs.declared.typing.TypedCall.{TypedCall}
use Rattle.comm_calls.specs.Calls.{AddsCall, AreCalls, AreCallsBy, AreUsesOf, IsReadOf, ReadCalls, ReadUses, Reads, ReadsOneMore, ReadsUses, beside_in, first_beside, first_size, going_at, no_uses, nothing_read, or_number, reading, size_in, ReadsWhole, uses_by}
use Rattle.comm_calls.specs.Functions.{function_of}
use Rattle.comm_calls.specs.Uses.{changed_at, changed_by, changed_of, named_as, named_at, named_but, named_by, named_in, of_changed, uses_after}
use Rattle.comm_calls.specs.declared.function.Function.{Function}
use Rattle.comm_calls.proofs.Groups.{More}
use Rattle.comm_calls.proofs.UsesMore.{Standing, more_at, standing_more}

none_used : (object : Object) → AreUsesOf object [] no_uses
none_used object = record {
  uses = record {
    each = λ i u is. absurd (cc);
    whole = λ place number names. absurd (cc);
    rising = λ i j u v h iu jv. absurd (cc);
    apart = λ i j u v h iu jv same. absurd (cc);
  };
  going = λ number i u is same. absurd (cc);
}

none_of : (object : Object) → AreUsesOf object [] (uses_by object nothing_read)
none_of objects.Communicator = none_used objects.Communicator
none_of objects.Window = none_used objects.Window
none_of objects.File = none_used objects.File

pub none_read : IsReadOf [] nothing_read
none_read = record {
  place = refl;
  world = refl;
  own = refl;
  size = refl;
  calls = refl;
  uses = none_of;
}

either_first : (a b c : Option ℕ) → or_number (or_number a b) c ≡ or_number a (or_number b c)
either_first (Some n) b c = refl
either_first None b c = refl

or_none : (a : Option ℕ) → or_number a None ≡ a
or_none (Some n) = refl
or_none None = refl

-- the first number that is said, with one call more
beside_more : (name : List ℕ) (raws : List TextCall) (raw : TextCall) → first_beside name (raws ++ raw ∷ []) ≡ or_number (first_beside name raws) (beside_in name raw.params)
beside_more name [] raw = or_none (beside_in name raw.params)
beside_more name (r ∷ rs) raw =
    ap (λ (n : Option ℕ). or_number (beside_in name r.params) n) (beside_more name rs raw)
    ∙ sym (either_first (beside_in name r.params) (first_beside name rs) (beside_in name raw.params))

-- the first size that is told, with one call more
size_more : (raws : List TextCall) (raw : TextCall) → first_size (raws ++ raw ∷ []) ≡ or_number (first_size raws) (size_in raw)
size_more [] raw = or_none (size_in raw)
size_more (r ∷ rs) raw =
    ap (λ (n : Option ℕ). or_number (size_in r) n) (size_more rs raw) ∙ sym (either_first (size_in r) (first_size rs) (size_in raw))

-- a call that is added behind the first one is added to the others
behind_first : (function : Option Function) (place : ℕ) (raw : TextCall) (read : CommCall) (others old new : List CommCall) → old ≡ read ∷ others → AddsCall function place raw old new
    → (rest : List CommCall) × (new ≡ read ∷ rest) × AddsCall function place raw others rest
behind_first None place raw read others old new e adds = (others, adds ∙ e, refl)
behind_first (Some function) place raw read others old new e adds =
    (others ++ adds.0 ∷ [], adds.1 ∙ ap (λ (l : List CommCall). l ++ adds.0 ∷ []) e, (adds.0, refl, adds.2))

-- the last call alone
last_alone : (function : Option Function) (place : ℕ) (raw : TextCall) (old new : List CommCall) → old ≡ [] → AddsCall function place raw old new → AreCallsBy function place raw (AreCalls (place + 1) []) new
last_alone None place raw old new e adds = adds ∙ e
last_alone (Some function) place raw old new e adds = (adds.0, [], adds.1 ∙ ap (λ (l : List CommCall). l ++ adds.0 ∷ []) e, adds.2, refl)

-- one call more behind the first, where that is known of the others
calls_behind : (function : Option Function) (place : ℕ) (r : TextCall) (rs : List TextCall) (raw : TextCall) (old new : List CommCall)
    → ((before after : List CommCall) → AreCalls (place + 1) rs before → AddsCall (function_of raw) (place + 1 + length rs) raw before after → AreCalls (place + 1) (rs ++ raw ∷ []) after)
    → AreCallsBy function place r (AreCalls (place + 1) rs) old → AddsCall (function_of raw) (place + 1 + length rs) raw old new → AreCallsBy function place r (AreCalls (place + 1) (rs ++ raw ∷ [])) new
calls_behind None place r rs raw old new more all adds = more old new all adds
calls_behind (Some function) place r rs raw old new more all adds =
    let rest = behind_first (function_of raw) (place + 1 + length rs) raw all.0 all.1 old new all.2 adds in
    (all.0, rest.0, rest.1, all.3, more all.1 rest.0 all.4 rest.2)

-- one call more at the end
calls_more : (place : ℕ) (raws : List TextCall) (raw : TextCall) (old new : List CommCall) → AreCalls place raws old → AddsCall (function_of raw) (place + length raws) raw old new → AreCalls place (raws ++ raw ∷ []) new
calls_more place [] raw old new all adds =
    let here : place + length {A = TextCall} [] ≡ place = omega arith in
    last_alone (function_of raw) place raw old new all (subst (λ (at : ℕ). AddsCall (function_of raw) at raw old new) here adds)
calls_more place (r ∷ rs) raw old new all adds =
    let there : place + length (r ∷ rs) ≡ place + 1 + length rs = omega arith in
    calls_behind (function_of r) place r rs raw old new (λ before after. calls_more (place + 1) rs raw before after) all
    (subst (λ (at : ℕ). AddsCall (function_of raw) at raw old new) there adds)

-- a call names a number, or gives or ends one, but not both
one_word : (object : Object) (function : Option Function) (raw : TextCall) (call : Call) → (named_but object function call ≡ None) ⊎ (of_changed object (changed_of raw function) ≡ None)
one_word objects.Communicator None raw call = inr refl
one_word objects.Window None raw call = inr refl
one_word objects.File None raw call = inr refl
one_word object (Some function) raw call = inl refl

-- the groups of one sort with one call more
standing : (object : Object) (raws : List TextCall) (raw : TextCall) (call : TypedCall) (place : ℕ) (old new : ReadUses) → length raws < 2 ^ 64 - 1 → place ≡ length raws → AreUsesOf object raws old → typed raw ≡ Ok call
    → ReadsUses place (named_by object raw call.call) (changed_by object raw) old new → AreUsesOf object (raws ++ raw ∷ []) new
standing object raws raw call place old new few at all is reads =
    let names : named_in object raw ≡ named_by object raw call.call = ap (named_as object raw) is in
    let more : More (named_at object raws) (named_at object (raws ++ raw ∷ [])) (length raws) (named_by object raw call.call)
    = subst (λ (said : Option ℕ). More (named_at object raws) (named_at object (raws ++ raw ∷ [])) (length raws) said) names (more_at (named_in object) raws raw) in
    let stands : Standing (named_at object (raws ++ raw ∷ [])) (changed_at object (raws ++ raw ∷ [])) new.groups (going_at new.going) =
    standing_more (named_at object raws) (named_at object (raws ++ raw ∷ [])) (changed_at object raws) (changed_at object (raws ++ raw ∷ [])) (length raws) (named_by object raw call.call) (changed_by object raw) old.groups new.groups (going_at old.going) (going_at new.going)
    (one_word object (function_of raw) raw call.call) more (more_at (changed_by object) raws raw) few all.uses all.going
    (reads.groups ∙ ap (λ (p : ℕ). uses_after p (named_by object raw call.call) (going_at old.going) old.groups) at) reads.going in
    record { uses = stands.are; going = stands.on }

pub one_more_read : ReadsOneMore
one_more_read raws raw call old new few all is reads = record {
  place = (let len = length-append raws (raw ∷ []) in omega (arith, len, few, all.place, reads.place));
  world = reads.world ∙ ap (λ (n : Option ℕ). or_number n (beside_in (codes "MPI_COMM_WORLD") raw.params)) all.world ∙ sym (beside_more (codes "MPI_COMM_WORLD") raws raw);
  own = reads.own ∙ ap (λ (n : Option ℕ). or_number n (beside_in (codes "MPI_COMM_SELF") raw.params)) all.own ∙ sym (beside_more (codes "MPI_COMM_SELF") raws raw);
  size = reads.size ∙ ap (λ (n : Option ℕ). or_number n (size_in raw)) all.size ∙ sym (size_more raws raw);
  calls = calls_more 0 raws raw old.calls new.calls all.calls (subst (λ (at : ℕ). AddsCall (function_of raw) at raw old.calls new.calls) (let here : old.place ≡ 0 + length raws = omega (arith, all.place) in here) reads.calls);
  uses = λ object. standing object raws raw call old.place (uses_by object old) (uses_by object new) few all.place (all.uses object) is (reads.uses object);
}

-- more calls behind those that were read
read_behind : (before raws : List TextCall) (old new : ReadCalls) → length (before ++ raws) < 2 ^ 64 → IsReadOf before old → Taken reading raws old new → IsReadOf (before ++ raws) new
read_behind before [] old new few all same = subst (λ (l : List TextCall). IsReadOf l new) (sym (append-nil before)) (subst (λ (r : ReadCalls). IsReadOf before r) (sym same) all)
read_behind before (raw ∷ raws) old new few all taken =
    let assoc : (before ++ raw ∷ []) ++ raws ≡ before ++ raw ∷ raws = append_assoc before (raw ∷ []) raws in
    let fewer : length before < 2 ^ 64 - 1 = (let len = length-append before (raw ∷ raws) in omega (arith, len, few)) in
    let next = one_more_read before raw taken.0 old taken.1 fewer all taken.2 taken.3 in
    subst (λ (l : List TextCall). IsReadOf l new) assoc (read_behind (before ++ raw ∷ []) raws taken.1 new (subst (λ (l : List TextCall). length l < 2 ^ 64) (sym assoc) few) next taken.4)

pub whole_read : ReadsWhole
whole_read raws new few taken = read_behind [] raws nothing_read new few none_read taken
