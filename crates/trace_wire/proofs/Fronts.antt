-- What stands in front of a window, and the runs that are read there.
use Rattle.std.proofs.Common.{◌≡◌, ℕ, ◌<◌, ◌≤◌, Bool, true, false, cond, ltb, List, [], ◌∷◌, ◌++◌, length, take, drop, Option, Some, None, Result, Ok, Err, refl, sym, ap, subst, ◌∙◌, append-nil, length-drop, arith}
use Rattle.std.specs.Int.{w32, w64, from_be_bytes}
use Rattle.std.proofs.lemmas.Bool.{le-ltb}
use Rattle.trace_know.specs.declared.cell.Known.{Known}
use Rattle.trace_wire.specs.declared.fault.WireFault.{WireFault}
use Rattle.trace_wire.specs.declared.fault.WireFault.TheVariants.{Order, Content}
use Rattle.trace_wire.specs.declared.read.field.FieldFault.{FieldFault}
use Rattle.trace_wire.specs.declared.read.field.FieldFault.TheVariants as fields
use Rattle.trace_wire.specs.declared.read.unread.Unread.TheVariants.{Payload}
use Rattle.trace_wire.specs.Forms.{IsBytes, number_at}
use Rattle.trace_wire.specs.Fields.{made}
use Rattle.trace_wire.specs.Cells.{is_past, known_bytes, place_form}
use Rattle.trace_wire.specs.Held.{Held}
use Rattle.trace_wire.specs.Outcomes.{Fails, FailsWith, IsOfBytes, wire_of}
use Rattle.trace_wire.specs.Parts.{◌>=>◌, is_run, known_at, knowns_at, or_fault, run_after, run_at, run_of_count}
use Rattle.trace_wire.specs.Runs.{PlacedRun, RunFits, placed_run}
use Rattle.trace_wire.specs.Windows.{Comes, Gave, IsLeft, Passes, Stops}
use Rattle.trace_wire.proofs.CellLaws.{KnownFits, known_again, known_takes}
use Rattle.trace_wire.proofs.FormLaws.{IsForm}
use Rattle.trace_wire.proofs.ItemLoop.{with_front}
use Rattle.trace_wire.proofs.RunLaws.{run_takes}
use Rattle.trace_wire.proofs.Steps.{or_ok}
use Rattle.trace_wire.proofs.Windows.{bytes_after, comes_pass, comes_then, zeros, zeros_bytes, zeros_len}

-- ---- what stands at a place, as a form

pub known_form : (place : ℕ) → IsForm (record { spell = known_bytes; read = known_at place }) (KnownFits place)
known_form place = record { takes = known_takes place; again = known_again place }

-- ---- where enough is held, a number and a place are read

pub number_long : (bytes : List ℕ) → 4096 ≤ length bytes → (x : ℕ × List ℕ) × (number_at w32 bytes ≡ Some x)
number_long bytes le =
    let long : ltb (length bytes) 4 ≡ false = le-ltb _ _ (omega (arith, le)) in
    ((from_be_bytes w32 (take 4 bytes), drop 4 bytes), rw long refl)

pub place_long : (bytes : List ℕ) → 4096 ≤ length bytes → (x : (ℕ × ℕ) × List ℕ) × (place_form.read bytes ≡ Some x)
place_long bytes le =
    let long : ltb (length bytes) 4 ≡ false = le-ltb _ _ (omega (arith, le)) in
    let more : ltb (length (drop 4 bytes)) 8 ≡ false = le-ltb _ _ (omega (arith, le, length-drop 4 bytes)) in
    (((from_be_bytes w32 (take 4 bytes), from_be_bytes w64 (take 8 (drop 4 bytes))), drop 8 (drop 4 bytes)), rw (long, more) refl)

value_none : {A : Type 0} (P : Type 0) (o : Option A) (x : A) → o ≡ Some x → o ≡ None → P
value_none P o x a b = absurd cc

fails_long : {A : Type 0} (read : List ℕ → Option (A × List ℕ)) (fault : FieldFault) (held more : List ℕ) → ((b : List ℕ) → 4096 ≤ length b → (x : A × List ℕ) × (read b ≡ Some x)) → (0 < length more → 4096 ≤ length held) → Fails fault (read held)
    → FailsWith (wire_of fault) (or_fault Content (read (held ++ more)))
fails_long read fields.Memory held more long enough h = tt
fails_long read fields.Content held [] long enough h = ap (λ (b : List ℕ). or_fault Content (read b)) (append-nil held) ∙ ap (or_fault Content) h
fails_long read fields.Content held (m ∷ ms) long enough h = let l = long held (enough (omega arith)) in value_none _ (read held) l.0 l.1 h

-- ---- what is read in front of what is left

pub gave : {A : Type 0} (a b : Option (List ℕ)) (s t u : Held) (read : List ℕ → Option (A × List ℕ)) (x : A) → Comes a b s t IsLeft → Passes t u read x → Comes a b s u (Gave (λ w. or_fault Content (read w)) x)
gave {A} a b s t u read x p q =
    comes_then a b b s t u IsLeft (λ w r. read w ≡ Some (x, r)) (Gave (λ w. or_fault Content (read w)) x) p (comes_pass b t u read x q)
    (λ v w r m n. ap (λ (k : List ℕ). or_fault Content (read k)) m ∙ ap (or_fault Content) n)

of_bytes : (fault : FieldFault) → IsOfBytes (wire_of fault)
of_bytes fields.Memory = tt
of_bytes fields.Content = tt

refused : {A : Type 0} (a b : Option (List ℕ)) (before now : ℕ) (s t u : Held) (read : List ℕ → Option (A × List ℕ)) (fault : FieldFault) → Comes a b s t IsLeft → u ≡ t → now ≡ before
    → ((more : List ℕ) → length more ≡ t.coming → FailsWith (wire_of fault) (or_fault Content (read (t.bytes ++ more)))) → Stops a b before now s u (λ w. or_fault Content (read w)) (Payload (wire_of fault))
refused {A} a b before now s t u read fault p same e fails =
    let there : Comes a b s t (λ whole rest. FailsWith (wire_of fault) (or_fault Content (read whole))) = record {
      taken = p.taken;
      took = p.took;
      fits = p.fits;
      count = p.count;
      stand = λ more len. subst (λ (w : List ℕ). FailsWith (wire_of fault) (or_fault Content (read w))) (sym (p.stand more len)) (fails more len);
    } in
    subst (λ (v : Held). Stops a b before now s v (λ w. or_fault Content (read w)) (Payload (wire_of fault))) (sym same) (e, of_bytes fault, there)

-- where enough is held, or all
pub refused_long : {A : Type 0} (a b : Option (List ℕ)) (before now : ℕ) (s t u : Held) (read : List ℕ → Option (A × List ℕ)) (fault : FieldFault) → ((bytes : List ℕ) → 4096 ≤ length bytes → (x : A × List ℕ) × (read bytes ≡ Some x)) → Comes a b s t IsLeft → (0 < t.coming → 4096 ≤ length t.bytes)
    → Fails fault (read t.bytes) → u ≡ t → now ≡ before → Stops a b before now s u (λ w. or_fault Content (read w)) (Payload (wire_of fault))
refused_long {A} a b before now s t u read fault long p enough h same e =
    refused a b before now s t u read fault p same e (λ more len. fails_long read fault t.bytes more long (λ some. enough (omega (arith, len, some))) h)

-- ---- readings that fail

err_is : {A : Type 0} (f g : WireFault) (r : Result A WireFault) → r ≡ Err f → r ≡ Err g → f ≡ g
err_is f g r a b = cc

fault_none : {A : Type 0} (fault g : WireFault) (o : Option A) → or_fault fault o ≡ Err g → (o ≡ None) × (fault ≡ g)
fault_none {A} fault g None e = (refl, err_is fault g (or_fault {A = A} fault None) refl e)
fault_none fault g (Some x) e = absurd cc

-- where one gives nothing, the other gives nothing
pub carry_none : {A B : Type 0} (g : WireFault) (r : Option A) (total : Option B) → (r ≡ None → total ≡ None) → or_fault Content r ≡ Err g → or_fault Content total ≡ Err g
carry_none {A} {B} g r total f e =
    let n = fault_none Content g r e in
    ap (or_fault Content) (f n.0) ∙ ap (λ (w : WireFault). or_fault {A = B} w None) n.1

pub made_none : {A B : Type 0} (make : A → B) (o : Option (A × List ℕ)) → o ≡ None → made make o ≡ None
made_none make o e = ap (made make) e

pub with_none : {A : Type 0} (read : Option (List A × List ℕ)) → with_front [] read ≡ read
with_none None = refl
with_none (Some x) = refl

-- ---- a run

pub run_made : (before : Option (ℕ × ℕ)) (x y z w : List ℕ) (here : ℕ × ℕ) (count : ℕ) (ks : List Known) → or_fault Content (place_form.read x) ≡ Ok (here, y) → is_past before here ≡ true → or_fault Content (number_at w32 y) ≡ Ok (count, z) → is_run here.1 count ≡ true
    → or_fault Content (knowns_at here.1 count z) ≡ Ok (ks, w) → run_at before x ≡ Ok (placed_run here ks, w)
run_made before x y z w here count ks place past number run knowns =
    ap (λ (r : Result ((ℕ × ℕ) × List ℕ) WireFault). r >=> run_after before) place
    ∙ ap (λ (b : Bool). cond b (or_fault Content (number_at w32 y) >=> run_of_count here) (Err Order)) past
    ∙ ap (λ (r : Result (ℕ × List ℕ) WireFault). r >=> run_of_count here) number
    ∙ ap (λ (b : Bool). cond b (or_fault Content (made (placed_run here) (knowns_at here.1 count z))) (Err Content)) run
    ∙ ap (λ (o : Option (List Known × List ℕ)). or_fault Content (made (placed_run here) o)) (or_ok Content (knowns_at here.1 count z) (ks, w) knowns)

pub run_no_place : (before : Option (ℕ × ℕ)) (x : List ℕ) (g : WireFault) → or_fault Content (place_form.read x) ≡ Err g → run_at before x ≡ Err g
run_no_place before x g place = ap (λ (r : Result ((ℕ × ℕ) × List ℕ) WireFault). r >=> run_after before) place

pub run_order : (before : Option (ℕ × ℕ)) (x y : List ℕ) (here : ℕ × ℕ) → or_fault Content (place_form.read x) ≡ Ok (here, y) → is_past before here ≡ false → run_at before x ≡ Err Order
run_order before x y here place past =
    ap (λ (r : Result ((ℕ × ℕ) × List ℕ) WireFault). r >=> run_after before) place
    ∙ ap (λ (b : Bool). cond b (or_fault Content (number_at w32 y) >=> run_of_count here) (Err Order)) past

-- by what stands behind the place
run_behind : (before : Option (ℕ × ℕ)) (x y : List ℕ) (here : ℕ × ℕ) → or_fault Content (place_form.read x) ≡ Ok (here, y) → is_past before here ≡ true → run_at before x ≡ (or_fault Content (number_at w32 y) >=> run_of_count here)
run_behind before x y here place past =
    ap (λ (r : Result ((ℕ × ℕ) × List ℕ) WireFault). r >=> run_after before) place
    ∙ ap (λ (b : Bool). cond b (or_fault Content (number_at w32 y) >=> run_of_count here) (Err Order)) past

pub run_no_count : (before : Option (ℕ × ℕ)) (x y : List ℕ) (here : ℕ × ℕ) (g : WireFault) → or_fault Content (place_form.read x) ≡ Ok (here, y) → is_past before here ≡ true → or_fault Content (number_at w32 y) ≡ Err g → run_at before x ≡ Err g
run_no_count before x y here g place past number = run_behind before x y here place past ∙ ap (λ (r : Result (ℕ × List ℕ) WireFault). r >=> run_of_count here) number

pub run_no_run : (before : Option (ℕ × ℕ)) (x y z : List ℕ) (here : ℕ × ℕ) (count : ℕ) → or_fault Content (place_form.read x) ≡ Ok (here, y) → is_past before here ≡ true → or_fault Content (number_at w32 y) ≡ Ok (count, z) → is_run here.1 count ≡ false → run_at before x ≡ Err Content
run_no_run before x y z here count place past number run =
    run_behind before x y here place past ∙ ap (λ (r : Result (ℕ × List ℕ) WireFault). r >=> run_of_count here) number
    ∙ ap (λ (b : Bool). cond b (or_fault Content (made (placed_run here) (knowns_at here.1 count z))) (Err Content)) run

pub run_no_cells : (before : Option (ℕ × ℕ)) (x y z : List ℕ) (here : ℕ × ℕ) (count : ℕ) (g : WireFault) → or_fault Content (place_form.read x) ≡ Ok (here, y) → is_past before here ≡ true → or_fault Content (number_at w32 y) ≡ Ok (count, z) → is_run here.1 count ≡ true
    → or_fault Content (knowns_at here.1 count z) ≡ Err g → run_at before x ≡ Err g
run_no_cells before x y z here count g place past number run knowns =
    run_behind before x y here place past ∙ ap (λ (r : Result (ℕ × List ℕ) WireFault). r >=> run_of_count here) number
    ∙ ap (λ (b : Bool). cond b (or_fault Content (made (placed_run here) (knowns_at here.1 count z))) (Err Content)) run
    ∙ carry_none g (knowns_at here.1 count z) (made (placed_run here) (knowns_at here.1 count z)) (made_none (placed_run here) (knowns_at here.1 count z)) knowns

-- a run that was read through a window stands where it can
pub run_fits : (a b : Option (List ℕ)) (s t : Held) (before : Option (ℕ × ℕ)) (r : PlacedRun) → IsBytes s.bytes → Comes a b s t (Gave (run_at before) r) → RunFits before r
run_fits a b s t before r fits p =
    let more = zeros t.coming in
    let all : IsBytes (s.bytes ++ (p.taken ++ more)) = bytes_after s.bytes (p.taken ++ more) fits (bytes_after p.taken more p.fits (zeros_bytes t.coming)) in
    (run_takes before (s.bytes ++ (p.taken ++ more)) (r, t.bytes ++ more) all (p.stand more (zeros_len t.coming))).1
