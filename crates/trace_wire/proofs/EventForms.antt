-- The laws of events.
use Rattle.std.proofs.Common.{◌≡◌, ℕ, ◌^◌, ◌<◌, Bool, true, false, cond, eqb, List, [], ◌∷◌, ◌++◌, length, Option, Some, None, refl, sym, ap, subst, ◌∙◌, append_assoc, arith}
use Rattle.std.specs.List.{All}
use Rattle.std.specs.Int.{w32}
use Rattle.std.proofs.lemmas.List.{length-append}
use Rattle.std.proofs.lemmas.Bool.Decides.{nat_tests}
use Rattle.mpi_model.specs.Times.{Times, IsTimes}
use Rattle.mpi_model.specs.Ranges.{IsTold, IsIcollective, CollectiveCall}
use Rattle.mpi_model.specs.declared.call.Call.{Call}
use Rattle.mpi_model.specs.declared.call.Call.TheVariants as calls
use Rattle.mpi_model.specs.declared.outcome.Outs.{Outs}
use Rattle.mpi_model.specs.declared.outcome.Outs.TheVariants as outs
use Rattle.mpi_model.specs.declared.event.Event.{Event}
use Rattle.mpi_model.specs.declared.event.Event.TheVariants as events
use Rattle.trace_wire.specs.Forms.{◌>>=◌, Form, number, byte, pair, list, signed, IsBytes}
use Rattle.trace_wire.specs.Events.{icollective_code, icollective_fields, call_code, call_fields, call_at, further_call_at, later_call_at, middle_call_at, outs_code, outs_fields, outs_at, body_at, is_even, event_at, event_bytes, event}
use Rattle.trace_wire.specs.Fields.{mode, flag, told, stamp, envelope, send_envelope, exchange, gathering, is_barrier, ibarrier, igathering, probe, made, index, element, index_fields, index_at, index_behind}
use Rattle.mpi_model.specs.Events.{IsSigned, IsCall, IsOutcome, IsPosition, IsElement, IsEvent}
use Rattle.trace_wire.proofs.FormLaws.{IsBytes-rest, Takes, Takes-then, IsForm, wide32, number_form, byte_form, pair_form, record_form, list_form, choose, no_value, some_is, bind_some}
use Rattle.trace_wire.proofs.FieldForms.{mode_form, flag_form, signed_form, stamp_form, told_form, envelope_form, send_form, exchange_form, gathering_form, IsOtherCall, ibarrier_form, igathering_form, probe_form}

-- what was read behind the code of a kind
abbrev Behind : {B : Type 0} → (B → ℕ) → (B → List ℕ) → (B → Type 0) → List ℕ → B × List ℕ → ℕ → Type 0
Behind code spell Fits bytes x n = (code x.0 ≡ n) × Takes bytes (spell x.0) x.1 × Fits x.0

-- a kind without fields
bare : {B : Type 0} (code : B → ℕ) (spell : B → List ℕ) (Fits : B → Type 0) (bytes : List ℕ) (x : B × List ℕ) (n : ℕ) (b : B) → IsBytes bytes → code b ≡ n → spell b ≡ [] → Fits b → Some (b, bytes) ≡ Some x → Behind code spell Fits bytes x n
bare {B} code spell Fits bytes x n b fits is none ok e =
    subst (λ (y : B × List ℕ). Behind code spell Fits bytes y n) (some_is (b, bytes) x e) (is, record { parts = ap (λ (t : List ℕ). t ++ bytes) (sym none); rest_fits = fits }, ok)

-- a kind with fields
filled : {A B : Type 0} (form : Form A) (FitsA : A → Type 0) (is : IsForm form FitsA) (make : A → B) (code : B → ℕ) (spell : B → List ℕ) (Fits : B → Type 0) (bytes : List ℕ) (x : B × List ℕ) (n : ℕ) → IsBytes bytes → ((a : A) → FitsA a → code (make a) ≡ n) → ((a : A) → FitsA a → spell (make a) ≡ form.spell a) → ((a : A) → FitsA a → Fits (make a)) → made make (form.read bytes) ≡ Some x → Behind code spell Fits bytes x n
filled {A} {B} form FitsA is make code spell Fits bytes x n fits code-is spell-is fits-is e =
    let p = bind_some (form.read bytes) (λ y. Some (make y.0, y.1)) x e in
    let t = is.takes bytes p.0 fits p.1 in
    subst (λ (y : B × List ℕ). Behind code spell Fits bytes y n) (some_is (make p.0.0, p.0.1) x p.2) (code-is p.0.0 t.1, subst (λ (s : List ℕ). Takes bytes s p.0.1) (sym (spell-is p.0.0 t.1)) t.0, fits-is p.0.0 t.1)

requests_form : IsForm (list signed) (All IsSigned)
requests_form = list_form signed IsSigned signed_form (λ z. omega arith)

is_other : (g : CollectiveCall) → IsOtherCall g → is_barrier g.kind ≡ false
is_other g ok = grind (arith, ok.1)

later_takes : (n : ℕ) (bytes : List ℕ) (x : Call × List ℕ) → IsBytes bytes → later_call_at n bytes ≡ Some x → Behind call_code call_fields IsCall bytes x n
unfolding later_call_at
later_takes n bytes x fits e21 =
    choose (Behind call_code call_fields IsCall bytes x) n 21 _ _ x e21 (filled (pair mode send_envelope) _ (pair_form mode send_envelope _ _ mode_form send_form) (λ x. calls.SendInit x.0 x.1) call_code call_fields IsCall bytes x 21 fits (λ a ok. refl) (λ a ok. refl) (λ a ok. ok.1)) (λ e22.
    choose (Behind call_code call_fields IsCall bytes x) n 22 _ _ x e22 (filled (envelope) _ (envelope_form) (λ e. calls.RecvInit e) call_code call_fields IsCall bytes x 22 fits (λ a ok. refl) (λ a ok. refl) (λ a ok. ok)) (λ e23.
    choose (Behind call_code call_fields IsCall bytes x) n 23 _ _ x e23 (filled (signed) _ (signed_form) (λ r. calls.Start r) call_code call_fields IsCall bytes x 23 fits (λ a ok. refl) (λ a ok. refl) (λ a ok. ok)) (λ e24.
    choose (Behind call_code call_fields IsCall bytes x) n 24 _ _ x e24 (filled (list signed) _ (requests_form) (λ r. calls.Startall r) call_code call_fields IsCall bytes x 24 fits (λ a ok. refl) (λ a ok. refl) (λ a ok. ok)) (λ e25.
    choose (Behind call_code call_fields IsCall bytes x) n 25 _ _ x e25 (filled (probe) _ (probe_form) (λ e. calls.Mprobe e) call_code call_fields IsCall bytes x 25 fits (λ a ok. refl) (λ a ok. refl) (λ a ok. ok)) (λ e26.
    choose (Behind call_code call_fields IsCall bytes x) n 26 _ _ x e26 (filled (probe) _ (probe_form) (λ e. calls.Improbe e) call_code call_fields IsCall bytes x 26 fits (λ a ok. refl) (λ a ok. refl) (λ a ok. ok)) (λ e27.
    choose (Behind call_code call_fields IsCall bytes x) n 27 _ _ x e27 (bare call_code call_fields IsCall bytes x 27 calls.Imrecv fits refl refl tt) (λ e28.
    choose (Behind call_code call_fields IsCall bytes x) n 28 _ _ x e28 (filled (igathering) _ (igathering_form) (λ g. calls.Icollective g) call_code call_fields IsCall bytes x 28 fits (λ a ok. rw (is_other a ok) refl) (λ a ok. rw (is_other a ok) refl) (λ a ok. ok.0)) (λ e29.
    choose (Behind call_code call_fields IsCall bytes x) n 29 _ _ x e29 (filled (probe) _ (probe_form) (λ e. calls.Iprobe e) call_code call_fields IsCall bytes x 29 fits (λ a ok. refl) (λ a ok. refl) (λ a ok. ok)) (λ e30. no_value _ x e30)))))))))

further_takes : (n : ℕ) (bytes : List ℕ) (x : Call × List ℕ) → IsBytes bytes → further_call_at n bytes ≡ Some x → Behind call_code call_fields IsCall bytes x n
unfolding further_call_at
further_takes n bytes x fits e15 =
    choose (Behind call_code call_fields IsCall bytes x) n 15 _ _ x e15 (filled (list signed) _ (requests_form) (λ r. calls.Testall r) call_code call_fields IsCall bytes x 15 fits (λ a ok. refl) (λ a ok. refl) (λ a ok. ok)) (λ e16.
    choose (Behind call_code call_fields IsCall bytes x) n 16 _ _ x e16 (filled (list signed) _ (requests_form) (λ r. calls.Testany r) call_code call_fields IsCall bytes x 16 fits (λ a ok. refl) (λ a ok. refl) (λ a ok. ok)) (λ e17.
    choose (Behind call_code call_fields IsCall bytes x) n 17 _ _ x e17 (filled (list signed) _ (requests_form) (λ r. calls.Testsome r) call_code call_fields IsCall bytes x 17 fits (λ a ok. refl) (λ a ok. refl) (λ a ok. ok)) (λ e18.
    choose (Behind call_code call_fields IsCall bytes x) n 18 _ _ x e18 (filled (signed) _ (signed_form) (λ r. calls.Cancel r) call_code call_fields IsCall bytes x 18 fits (λ a ok. refl) (λ a ok. refl) (λ a ok. ok)) (λ e19.
    choose (Behind call_code call_fields IsCall bytes x) n 19 _ _ x e19 (filled (signed) _ (signed_form) (λ r. calls.Free r) call_code call_fields IsCall bytes x 19 fits (λ a ok. refl) (λ a ok. refl) (λ a ok. ok)) (λ e20.
    choose (Behind call_code call_fields IsCall bytes x) n 20 _ _ x e20 (bare call_code call_fields IsCall bytes x 20 calls.Unread fits refl refl tt) (λ e21. later_takes n bytes x fits e21))))))

middle_takes : (n : ℕ) (bytes : List ℕ) (x : Call × List ℕ) → IsBytes bytes → middle_call_at n bytes ≡ Some x → Behind call_code call_fields IsCall bytes x n
unfolding middle_call_at
middle_takes n bytes x fits e7 =
    choose (Behind call_code call_fields IsCall bytes x) n 7 _ _ x e7 (filled (signed) _ (signed_form) (λ r. calls.Wait r) call_code call_fields IsCall bytes x 7 fits (λ a ok. refl) (λ a ok. refl) (λ a ok. ok)) (λ e8.
    choose (Behind call_code call_fields IsCall bytes x) n 8 _ _ x e8 (filled (list signed) _ (requests_form) (λ r. calls.Waitall r) call_code call_fields IsCall bytes x 8 fits (λ a ok. refl) (λ a ok. refl) (λ a ok. ok)) (λ e9.
    choose (Behind call_code call_fields IsCall bytes x) n 9 _ _ x e9 (filled (list signed) _ (requests_form) (λ r. calls.Waitany r) call_code call_fields IsCall bytes x 9 fits (λ a ok. refl) (λ a ok. refl) (λ a ok. ok)) (λ e10.
    choose (Behind call_code call_fields IsCall bytes x) n 10 _ _ x e10 (filled (list signed) _ (requests_form) (λ r. calls.Waitsome r) call_code call_fields IsCall bytes x 10 fits (λ a ok. refl) (λ a ok. refl) (λ a ok. ok)) (λ e11.
    choose (Behind call_code call_fields IsCall bytes x) n 11 _ _ x e11 (filled (signed) _ (signed_form) (λ r. calls.Test r) call_code call_fields IsCall bytes x 11 fits (λ a ok. refl) (λ a ok. refl) (λ a ok. ok)) (λ e12.
    choose (Behind call_code call_fields IsCall bytes x) n 12 _ _ x e12 (filled (gathering) _ (gathering_form) (λ g. calls.Collective g) call_code call_fields IsCall bytes x 12 fits (λ a ok. refl) (λ a ok. refl) (λ a ok. ok)) (λ e13.
    choose (Behind call_code call_fields IsCall bytes x) n 13 _ _ x e13 (filled (probe) _ (probe_form) (λ e. calls.Probe e) call_code call_fields IsCall bytes x 13 fits (λ a ok. refl) (λ a ok. refl) (λ a ok. ok)) (λ e14.
    choose (Behind call_code call_fields IsCall bytes x) n 14 _ _ x e14 (filled (ibarrier) _ (ibarrier_form) (λ g. calls.Icollective g) call_code call_fields IsCall bytes x 14 fits (λ a ok. rw ok.1 refl) (λ a ok. rw ok.1 refl) (λ a ok. ok.0)) (λ e15. further_takes n bytes x fits e15))))))))

pub call_takes : (n : ℕ) (bytes : List ℕ) (x : Call × List ℕ) → IsBytes bytes → call_at n bytes ≡ Some x → Behind call_code call_fields IsCall bytes x n
unfolding call_at
call_takes n bytes x fits e0 =
    choose (Behind call_code call_fields IsCall bytes x) n 0 _ _ x e0 (bare call_code call_fields IsCall bytes x 0 calls.Local fits refl refl tt) (λ e1.
    choose (Behind call_code call_fields IsCall bytes x) n 1 _ _ x e1 (bare call_code call_fields IsCall bytes x 1 calls.Finalize fits refl refl tt) (λ e2.
    choose (Behind call_code call_fields IsCall bytes x) n 2 _ _ x e2 (filled (pair mode send_envelope) _ (pair_form mode send_envelope _ _ mode_form send_form) (λ x. calls.Send x.0 x.1) call_code call_fields IsCall bytes x 2 fits (λ a ok. refl) (λ a ok. refl) (λ a ok. ok.1)) (λ e3.
    choose (Behind call_code call_fields IsCall bytes x) n 3 _ _ x e3 (filled (pair mode send_envelope) _ (pair_form mode send_envelope _ _ mode_form send_form) (λ x. calls.Isend x.0 x.1) call_code call_fields IsCall bytes x 3 fits (λ a ok. refl) (λ a ok. refl) (λ a ok. ok.1)) (λ e4.
    choose (Behind call_code call_fields IsCall bytes x) n 4 _ _ x e4 (filled (envelope) _ (envelope_form) (λ e. calls.Recv e) call_code call_fields IsCall bytes x 4 fits (λ a ok. refl) (λ a ok. refl) (λ a ok. ok)) (λ e5.
    choose (Behind call_code call_fields IsCall bytes x) n 5 _ _ x e5 (filled (envelope) _ (envelope_form) (λ e. calls.Irecv e) call_code call_fields IsCall bytes x 5 fits (λ a ok. refl) (λ a ok. refl) (λ a ok. ok)) (λ e6.
    choose (Behind call_code call_fields IsCall bytes x) n 6 _ _ x e6 (filled (exchange) _ (exchange_form) (λ b. calls.Sendrecv b) call_code call_fields IsCall bytes x 6 fits (λ a ok. refl) (λ a ok. refl) (λ a ok. ok)) (λ e7. middle_takes n bytes x fits e7)))))))

-- by the kind, one spelling or the other
icollective_again : (g : CollectiveCall) (b : Bool) (rest : List ℕ) → is_barrier g.kind ≡ b → IsIcollective g → length (icollective_fields g) < 2 ^ 32 → call_at (icollective_code g.kind) (icollective_fields g ++ rest) ≡ Some (calls.Icollective g, rest)
unfolding call_at middle_call_at further_call_at later_call_at
icollective_again g true rest is fits short = rw is (ap (made (λ g. calls.Icollective g)) (ibarrier_form.again g rest (fits, is) (omega arith)))
icollective_again g false rest is fits short = rw is (ap (made (λ g. calls.Icollective g)) (igathering_form.again g rest (fits, grind (arith, is)) (omega arith)))

pub call_again : (c : Call) (rest : List ℕ) → IsCall c → length (call_fields c) < 2 ^ 32 → call_at (call_code c) (call_fields c ++ rest) ≡ Some (c, rest)
unfolding call_at middle_call_at further_call_at later_call_at
call_again calls.Local rest fits short = refl
call_again calls.Finalize rest fits short = refl
call_again (calls.Send m e) rest fits short = ap (made (λ x. calls.Send x.0 x.1)) ((pair_form mode send_envelope _ _ mode_form send_form).again (m, e) rest (tt, fits) short)
call_again (calls.Isend m e) rest fits short = ap (made (λ x. calls.Isend x.0 x.1)) ((pair_form mode send_envelope _ _ mode_form send_form).again (m, e) rest (tt, fits) short)
call_again (calls.Recv a) rest fits short = ap (made (λ e. calls.Recv e)) ((envelope_form).again a rest fits short)
call_again (calls.Irecv a) rest fits short = ap (made (λ e. calls.Irecv e)) ((envelope_form).again a rest fits short)
call_again (calls.Sendrecv a) rest fits short = ap (made (λ b. calls.Sendrecv b)) ((exchange_form).again a rest fits short)
call_again (calls.Wait a) rest fits short = ap (made (λ r. calls.Wait r)) ((signed_form).again a rest fits short)
call_again (calls.Waitall a) rest fits short = ap (made (λ r. calls.Waitall r)) ((requests_form).again a rest fits short)
call_again (calls.Waitany a) rest fits short = ap (made (λ r. calls.Waitany r)) ((requests_form).again a rest fits short)
call_again (calls.Waitsome a) rest fits short = ap (made (λ r. calls.Waitsome r)) ((requests_form).again a rest fits short)
call_again (calls.Test a) rest fits short = ap (made (λ r. calls.Test r)) ((signed_form).again a rest fits short)
call_again (calls.Collective a) rest fits short = ap (made (λ g. calls.Collective g)) ((gathering_form).again a rest fits short)
call_again (calls.Probe a) rest fits short = ap (made (λ e. calls.Probe e)) ((probe_form).again a rest fits short)
call_again (calls.Icollective a) rest fits short = icollective_again a (is_barrier a.kind) rest refl fits short
call_again (calls.Testall a) rest fits short = ap (made (λ r. calls.Testall r)) ((requests_form).again a rest fits short)
call_again (calls.Testany a) rest fits short = ap (made (λ r. calls.Testany r)) ((requests_form).again a rest fits short)
call_again (calls.Testsome a) rest fits short = ap (made (λ r. calls.Testsome r)) ((requests_form).again a rest fits short)
call_again (calls.Cancel a) rest fits short = ap (made (λ r. calls.Cancel r)) ((signed_form).again a rest fits short)
call_again (calls.Free a) rest fits short = ap (made (λ r. calls.Free r)) ((signed_form).again a rest fits short)
call_again (calls.SendInit m e) rest fits short = ap (made (λ x. calls.SendInit x.0 x.1)) ((pair_form mode send_envelope _ _ mode_form send_form).again (m, e) rest (tt, fits) short)
call_again (calls.RecvInit a) rest fits short = ap (made (λ e. calls.RecvInit e)) ((envelope_form).again a rest fits short)
call_again (calls.Start a) rest fits short = ap (made (λ r. calls.Start r)) ((signed_form).again a rest fits short)
call_again (calls.Startall a) rest fits short = ap (made (λ r. calls.Startall r)) ((requests_form).again a rest fits short)
call_again (calls.Mprobe a) rest fits short = ap (made (λ e. calls.Mprobe e)) ((probe_form).again a rest fits short)
call_again (calls.Improbe a) rest fits short = ap (made (λ e. calls.Improbe e)) ((probe_form).again a rest fits short)
call_again (calls.Iprobe a) rest fits short = ap (made (λ e. calls.Iprobe e)) ((probe_form).again a rest fits short)
call_again calls.Imrecv rest fits short = refl
call_again calls.Unread rest fits short = refl

past : (n k : ℕ) → k < n → eqb n k ≡ false
past n k lt = grind (arith, nat_tests)

-- the kinds behind MPI_Sendrecv have greater codes than those up to it
pub middle : (n : ℕ) (bytes : List ℕ) → 6 < n → call_at n bytes ≡ middle_call_at n bytes
unfolding call_at
middle n bytes lt =
    rw (
      past n 0 (omega (arith, lt)),
      past n 1 (omega (arith, lt)),
      past n 2 (omega (arith, lt)),
      past n 3 (omega (arith, lt)),
      past n 4 (omega (arith, lt)),
      past n 5 (omega (arith, lt)),
      past n 6 (omega (arith, lt)),
    ) refl

-- those behind MPI_Ibarrier are of none of the kinds from there up to it
pub further : (n : ℕ) (bytes : List ℕ) → eqb n 7 ≡ false → eqb n 8 ≡ false → eqb n 9 ≡ false → eqb n 10 ≡ false → eqb n 11 ≡ false → eqb n 12 ≡ false → eqb n 13 ≡ false → eqb n 14 ≡ false → middle_call_at n bytes ≡ further_call_at n bytes
unfolding middle_call_at
further n bytes a b c d e f g h = rw (a, b, c, d, e, f, g, h) refl

-- those behind the calls that aren't read are of none of the kinds before
pub later : (n : ℕ) (bytes : List ℕ) → eqb n 15 ≡ false → eqb n 16 ≡ false → eqb n 17 ≡ false → eqb n 18 ≡ false → eqb n 19 ≡ false → eqb n 20 ≡ false → further_call_at n bytes ≡ later_call_at n bytes
unfolding further_call_at
later n bytes a b c d e f = rw (a, b, c, d, e, f) refl

icollective_small : (b : Bool) → cond b 14 28 < 256
icollective_small true = omega arith
icollective_small false = omega arith

call_small : (c : Call) → call_code c < 256
call_small calls.Local = omega arith
call_small calls.Finalize = omega arith
call_small (calls.Send m e) = omega arith
call_small (calls.Isend m e) = omega arith
call_small (calls.Recv a) = omega arith
call_small (calls.Irecv a) = omega arith
call_small (calls.Sendrecv a) = omega arith
call_small (calls.Wait a) = omega arith
call_small (calls.Waitall a) = omega arith
call_small (calls.Waitany a) = omega arith
call_small (calls.Waitsome a) = omega arith
call_small (calls.Test a) = omega arith
call_small (calls.Collective a) = omega arith
call_small (calls.Probe a) = omega arith
call_small (calls.Icollective a) = icollective_small (is_barrier a.kind)
call_small (calls.Testall a) = omega arith
call_small (calls.Testany a) = omega arith
call_small (calls.Testsome a) = omega arith
call_small (calls.Cancel a) = omega arith
call_small (calls.Free a) = omega arith
call_small (calls.SendInit m e) = omega arith
call_small (calls.RecvInit a) = omega arith
call_small (calls.Start a) = omega arith
call_small (calls.Startall a) = omega arith
call_small (calls.Mprobe a) = omega arith
call_small (calls.Improbe a) = omega arith
call_small (calls.Iprobe a) = omega arith
call_small calls.Imrecv = omega arith
call_small calls.Unread = omega arith

-- ---- outcomes

index_takes : (n : ℕ) (bytes : List ℕ) (x : Option ℕ × List ℕ) → IsBytes bytes → index_at n bytes ≡ Some x → Takes (n ∷ bytes) (index_fields x.0) x.1 × IsPosition x.0
index_takes n bytes x fits e0 =
    choose (λ (k : ℕ). Takes (k ∷ bytes) (index_fields x.0) x.1 × IsPosition x.0) n 0 _ _ x e0 (λ h. subst (λ (y : Option ℕ × List ℕ). Takes (0 ∷ bytes) (index_fields y.0) y.1 × IsPosition y.0) (some_is (None, bytes) x h) (record { parts = refl; rest_fits = fits }, tt)) (λ e1.
    choose (λ (k : ℕ). Takes (k ∷ bytes) (index_fields x.0) x.1 × IsPosition x.0) n 1 _ _ x e1 (λ h.
    let p = bind_some ((number w32).read bytes) (λ y. Some (Some y.0, y.1)) x h in
    let t = (number_form w32 (2 ^ 32) wide32).takes bytes p.0 fits p.1 in
    subst (λ (y : Option ℕ × List ℕ). Takes (1 ∷ bytes) (index_fields y.0) y.1 × IsPosition y.0) (some_is (Some p.0.0, p.0.1) x p.2) (record { parts = ap (λ (r : List ℕ). 1 ∷ r) t.0.parts; rest_fits = t.0.rest_fits }, t.1)) (λ e2. no_value _ x e2))

index_behind_takes : (bytes : List ℕ) (x : Option ℕ × List ℕ) → IsBytes bytes → index_behind bytes ≡ Some x → Takes bytes (index_fields x.0) x.1 × IsPosition x.0
index_behind_takes [] x fits e = absurd cc
index_behind_takes (b ∷ bytes) x fits e = index_takes b bytes x (IsBytes-rest b bytes fits) e

index_again : (o : Option ℕ) (rest : List ℕ) → IsPosition o → length (index_fields o) < 2 ^ 32 → index_behind (index_fields o ++ rest) ≡ Some (o, rest)
index_again None rest fits short = refl
index_again (Some i) rest fits short = ap (made (λ k. Some k)) ((number_form w32 (2 ^ 32) wide32).again i rest fits (omega arith))

index_form : IsForm index IsPosition
index_form = record { takes = index_behind_takes; again = index_again }

sources_form : IsForm (list told) (All IsTold)
sources_form = list_form told IsTold told_form (λ z. omega arith)

element_form : IsForm element IsElement
element_form = record_form (pair (number w32) told) (λ e. (e.position, e.told)) (λ x. record { position = x.0; told = x.1 }) _ IsElement (λ a. refl) (λ b. refl) (λ a fits. (fits.0, fits.1)) (λ b fits. (fits.0, fits.1)) (pair_form (number w32) told _ _ (number_form w32 (2 ^ 32) wide32) told_form)

elements_form : IsForm (list element) (All IsElement)
elements_form = list_form element IsElement element_form (λ z. omega arith)

pub outs_takes : (n : ℕ) (bytes : List ℕ) (x : Outs × List ℕ) → IsBytes bytes → outs_at n bytes ≡ Some x → Behind outs_code outs_fields IsOutcome bytes x n
unfolding outs_at
outs_takes n bytes x fits e0 =
    choose (Behind outs_code outs_fields IsOutcome bytes x) n 0 _ _ x e0 (bare outs_code outs_fields IsOutcome bytes x 0 outs.Nothing fits refl refl tt) (λ e1.
    choose (Behind outs_code outs_fields IsOutcome bytes x) n 1 _ _ x e1 (filled (signed) _ (signed_form) (λ r. outs.Posted r) outs_code outs_fields IsOutcome bytes x 1 fits (λ a ok. refl) (λ a ok. refl) (λ a ok. ok)) (λ e2.
    choose (Behind outs_code outs_fields IsOutcome bytes x) n 2 _ _ x e2 (filled (told) _ (told_form) (λ t. outs.Status t) outs_code outs_fields IsOutcome bytes x 2 fits (λ a ok. refl) (λ a ok. refl) (λ a ok. ok)) (λ e3.
    choose (Behind outs_code outs_fields IsOutcome bytes x) n 3 _ _ x e3 (filled (list told) _ (sources_form) (λ t. outs.Statuses t) outs_code outs_fields IsOutcome bytes x 3 fits (λ a ok. refl) (λ a ok. refl) (λ a ok. ok)) (λ e4.
    choose (Behind outs_code outs_fields IsOutcome bytes x) n 4 _ _ x e4 (filled (pair index told) _ (pair_form index told _ _ index_form told_form) (λ x. outs.Index x.0 x.1) outs_code outs_fields IsOutcome bytes x 4 fits (λ a ok. refl) (λ a ok. refl) (λ a ok. ok)) (λ e5.
    choose (Behind outs_code outs_fields IsOutcome bytes x) n 5 _ _ x e5 (filled (list element) _ (elements_form) (λ t. outs.Several t) outs_code outs_fields IsOutcome bytes x 5 fits (λ a ok. refl) (λ a ok. refl) (λ a ok. ok)) (λ e6.
    choose (Behind outs_code outs_fields IsOutcome bytes x) n 6 _ _ x e6 (filled (pair flag told) _ (pair_form flag told _ _ flag_form told_form) (λ x. outs.Flag x.0 x.1) outs_code outs_fields IsOutcome bytes x 6 fits (λ a ok. refl) (λ a ok. refl) (λ a ok. ok.1)) (λ e7. no_value _ x e7)))))))

pub outs_again : (c : Outs) (rest : List ℕ) → IsOutcome c → length (outs_fields c) < 2 ^ 32 → outs_at (outs_code c) (outs_fields c ++ rest) ≡ Some (c, rest)
unfolding outs_at
outs_again outs.Nothing rest fits short = refl
outs_again (outs.Posted a) rest fits short = ap (made (λ r. outs.Posted r)) ((signed_form).again a rest fits short)
outs_again (outs.Status a) rest fits short = ap (made (λ t. outs.Status t)) ((told_form).again a rest fits short)
outs_again (outs.Statuses a) rest fits short = ap (made (λ t. outs.Statuses t)) ((sources_form).again a rest fits short)
outs_again (outs.Index i t) rest fits short = ap (made (λ x. outs.Index x.0 x.1)) ((pair_form index told _ _ index_form told_form).again (i, t) rest fits short)
outs_again (outs.Several a) rest fits short = ap (made (λ t. outs.Several t)) ((elements_form).again a rest fits short)
outs_again (outs.Flag f t) rest fits short = ap (made (λ x. outs.Flag x.0 x.1)) ((pair_form flag told _ _ flag_form told_form).again (f, t) rest (tt, fits) short)

outs_small : (c : Outs) → outs_code c < 256
outs_small outs.Nothing = omega arith
outs_small (outs.Posted a) = omega arith
outs_small (outs.Status a) = omega arith
outs_small (outs.Statuses a) = omega arith
outs_small (outs.Index i t) = omega arith
outs_small (outs.Several a) = omega arith
outs_small (outs.Flag f t) = omega arith

-- ---- events

head_form : IsForm (pair byte stamp) (λ x. (x.0 < 256) × IsTimes x.1)
head_form = pair_form byte stamp _ _ byte_form stamp_form

-- whether an event stands at even places
abbrev is_enter : Event → Bool
is_enter (events.Enter call time) = true
is_enter (events.Return found time) = false

-- The event stands at places of this half, and its values lie in their ranges.
abbrev pub EventFits : ℕ → Event → Type 0
EventFits place event = (is_even place ≡ is_enter event) × IsEvent event

-- what was read behind the head of an event
abbrev AfterHead : Bool → ℕ → Times → List ℕ → Event × List ℕ → Type 0
AfterHead even code time bytes x = (front : List ℕ) × (event_bytes x.0 ≡ (pair byte stamp).spell (code, time) ++ front) × Takes bytes front x.1 × ((place : ℕ) → is_even place ≡ even → EventFits place x.0)

body_takes : (even : Bool) (code : ℕ) (time : Times) (bytes : List ℕ) (x : Event × List ℕ) → IsTimes time → IsBytes bytes → body_at even code time bytes ≡ Some x → AfterHead even code time bytes x
body_takes true code time bytes x ok fits e =
    let p = bind_some (call_at code bytes) (λ y. Some (events.Enter y.0 time, y.1)) x e in
    let t = call_takes code bytes p.0 fits p.1 in
    subst (λ (y : Event × List ℕ). AfterHead true code time bytes y) (some_is (events.Enter p.0.0 time, p.0.1) x p.2)
    (call_fields p.0.0, ap (λ (k : ℕ). (pair byte stamp).spell (k, time) ++ call_fields p.0.0) t.0, t.1, λ place is. (is, (t.2, ok)))
body_takes false code time bytes x ok fits e =
    let p = bind_some (outs_at code bytes) (λ y. Some (events.Return y.0 time, y.1)) x e in
    let t = outs_takes code bytes p.0 fits p.1 in
    subst (λ (y : Event × List ℕ). AfterHead false code time bytes y) (some_is (events.Return p.0.0 time, p.0.1) x p.2)
    (outs_fields p.0.0, ap (λ (k : ℕ). (pair byte stamp).spell (k, time) ++ outs_fields p.0.0) t.0, t.1, λ place is. (is, (t.2, ok)))

event_takes : (place : ℕ) (bytes : List ℕ) (x : Event × List ℕ) → IsBytes bytes → event_at place bytes ≡ Some x → Takes bytes (event_bytes x.0) x.1 × EventFits place x.0
event_takes place bytes x fits e =
    let h = bind_some ((pair byte stamp).read bytes) (λ y. body_at (is_even place) y.0.0 y.0.1 y.1) x e in
    let t = head_form.takes bytes h.0 fits h.1 in
    let b = body_takes (is_even place) h.0.0.0 h.0.0.1 h.0.1 x t.1.1 t.0.rest_fits h.2 in
    let both = Takes-then bytes ((pair byte stamp).spell h.0.0) h.0.1 b.0 x.1 t.0 b.2 in
    (subst (λ (s : List ℕ). Takes bytes s x.1) (sym b.1) both, b.3 place refl)

event_again : (place : ℕ) (e : Event) (rest : List ℕ) → EventFits place e → length (event_bytes e) < 2 ^ 32 → event_at place (event_bytes e ++ rest) ≡ Some (e, rest)
event_again place (events.Enter call time) rest fits short =
    let there : length (call_fields call) < 2 ^ 32 = omega (arith, length-append ((pair byte stamp).spell (call_code call, time)) (call_fields call), short) in
    let here : length ((pair byte stamp).spell (call_code call, time)) < 2 ^ 32 = omega (arith, length-append ((pair byte stamp).spell (call_code call, time)) (call_fields call), short) in
    let head = head_form.again (call_code call, time) (call_fields call ++ rest) (call_small call, fits.1.1) here in
    ap (event_at place) (append_assoc ((pair byte stamp).spell (call_code call, time)) (call_fields call) rest)
    ∙ ap (λ (r : Option ((ℕ × Times) × List ℕ)). r >>= λ y. body_at (is_even place) y.0.0 y.0.1 y.1) head
    ∙ ap (λ (b : Bool). body_at b (call_code call) time (call_fields call ++ rest)) fits.0
    ∙ ap (made (λ c. events.Enter c time)) (call_again call rest fits.1.0 there)
event_again place (events.Return found time) rest fits short =
    let there : length (outs_fields found) < 2 ^ 32 = omega (arith, length-append ((pair byte stamp).spell (outs_code found, time)) (outs_fields found), short) in
    let here : length ((pair byte stamp).spell (outs_code found, time)) < 2 ^ 32 = omega (arith, length-append ((pair byte stamp).spell (outs_code found, time)) (outs_fields found), short) in
    let head = head_form.again (outs_code found, time) (outs_fields found ++ rest) (outs_small found, fits.1.1) here in
    ap (event_at place) (append_assoc ((pair byte stamp).spell (outs_code found, time)) (outs_fields found) rest)
    ∙ ap (λ (r : Option ((ℕ × Times) × List ℕ)). r >>= λ y. body_at (is_even place) y.0.0 y.0.1 y.1) head
    ∙ ap (λ (b : Bool). body_at b (outs_code found) time (outs_fields found ++ rest)) fits.0
    ∙ ap (made (λ c. events.Return c time)) (outs_again found rest fits.1.0 there)

pub event_form : (place : ℕ) → IsForm (event place) (EventFits place)
event_form place = record { takes = event_takes place; again = event_again place }
