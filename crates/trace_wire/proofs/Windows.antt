-- A payload, read through a window.
use Rattle.std.proofs.Common.{◌≡◌, ℕ, zero, suc, ◌+◌, ◌-◌, ◌^◌, ◌<◌, ◌≤◌, List, [], ◌∷◌, ◌++◌, length, drop, Option, Some, None, Result, Ok, Err, refl, sym, ap, subst, ◌∙◌, append_assoc, arith, inl, inr}
use Rattle.std.specs.Prelude.{IfSome, OnOk}
use Rattle.std.proofs.lemmas.Bool.{cases_lt}
use Rattle.std.specs.Io.KnownBytes.{Consumes}
use Rattle.std.proofs.KnownBytes.{Consumes-nil, Consumes-trans, Keeps-trans}
use Rattle.std.proofs.lemmas.List.{length-append, drop_at}
use Rattle.mpi_model.specs.Failures.{one_more}
use Rattle.mpi_model.specs.Side.{Side, LeavesSide}
use Rattle.trace_wire.specs.declared.fault.WireFault.{WireFault}
use Rattle.trace_wire.specs.declared.fault.WireFault.TheVariants as faults
use Rattle.trace_wire.specs.declared.read.unread.Unread.{Unread}
use Rattle.trace_wire.specs.declared.read.unread.Unread.TheVariants.{Device, Payload}
use Rattle.trace_wire.specs.Forms.{Form, IsBytes}
use Rattle.trace_wire.specs.Held.{Held}
use Rattle.trace_wire.specs.Outcomes.{FailsWith, IsOfBytes}
use Rattle.trace_wire.specs.Reading.{IsUnfilled, TakesAtMost}
use Rattle.trace_wire.specs.Windows.{Comes, IsLeft, Passes, Stops}
use Rattle.trace_wire.proofs.FormLaws.{IsBytes-rest, IsForm}
use Rattle.trace_wire.proofs.Taking.{taken_after}

-- ---- bytes

pub none_bytes : IsBytes []
none_bytes i = omega arith

pub bytes_after : (a b : List ℕ) → IsBytes a → IsBytes b → IsBytes (a ++ b)
bytes_after [] b h k i = k i
bytes_after (x ∷ xs) b h k zero = h zero
bytes_after (x ∷ xs) b h k (suc i) = bytes_after xs b (IsBytes-rest x xs h) k i

-- some bytes of a length: what is still to come may be these
pub zeros : ℕ → List ℕ
zeros zero = []
zeros (suc n) = 0 ∷ zeros n

pub zeros_len : (n : ℕ) → length (zeros n) ≡ n
unfolding zeros
zeros_len zero = refl
zeros_len (suc n) = ap suc (zeros_len n)

pub zeros_bytes : (n : ℕ) → IsBytes (zeros n)
unfolding zeros
zeros_bytes zero i = none_bytes i
zeros_bytes (suc n) zero = omega arith
zeros_bytes (suc n) (suc i) = zeros_bytes n i

-- ---- faults

-- a fault of one reading is that of another
pub fails_as : {A B : Type 0} (fault : WireFault) (r : Result A WireFault) (q : Result B WireFault) → ((g : WireFault) → r ≡ Err g → q ≡ Err g) → FailsWith fault r → FailsWith fault q
fails_as faults.Memory r q f h = tt
fails_as faults.Read r q f h = f faults.Read h
fails_as faults.Write r q f h = f faults.Write h
fails_as faults.Magic r q f h = f faults.Magic h
fails_as faults.Version r q f h = f faults.Version h
fails_as faults.Length r q f h = f faults.Length h
fails_as faults.Short r q f h = f faults.Short h
fails_as faults.Order r q f h = f faults.Order h
fails_as faults.Content r q f h = f faults.Content h
fails_as faults.Rest r q f h = f faults.Rest h

short_after : (a b : Option (List ℕ)) (taken : List ℕ) (more count : ℕ) → Consumes a b taken → length taken + more ≤ count → IfSome b (λ bytes. length bytes < more) → IfSome a (λ bytes. length bytes < count)
short_after None b taken more count c e h = tt
short_after (Some xs) None taken more count c e h = absurd c
short_after (Some xs) (Some ys) taken more count c e h = omega (arith, ap (λ (l : List ℕ). length l) c, length-append taken ys, e, h)

-- so many bytes, of which some came, were not there
pub unfilled_after : (a b : Option (List ℕ)) (taken : List ℕ) (more count before between now : ℕ) (fault : WireFault) → Consumes a b taken → length taken + more ≤ count → between ≡ before → IsUnfilled more b between now fault → IsUnfilled count a before now fault
unfilled_after a b taken more count before between now faults.Memory c le e h = h ∙ e
unfilled_after a b taken more count before between now faults.Read c le e h = h ∙ ap (λ (n : ℕ). one_more n) e
unfilled_after a b taken more count before between now faults.Short c le e h = (h.0 ∙ e, short_after a b taken more count c le h.1)
unfilled_after a b taken more count before between now faults.Write c le e h = absurd h
unfilled_after a b taken more count before between now faults.Magic c le e h = absurd h
unfilled_after a b taken more count before between now faults.Version c le e h = absurd h
unfilled_after a b taken more count before between now faults.Length c le e h = absurd h
unfilled_after a b taken more count before between now faults.Order c le e h = absurd h
unfilled_after a b taken more count before between now faults.Content c le e h = absurd h
unfilled_after a b taken more count before between now faults.Rest c le e h = absurd h

-- ---- one reading after another

pub comes_then : (a b c : Option (List ℕ)) (s t u : Held) (P Q S : List ℕ → List ℕ → Type 0) → Comes a b s t P → Comes b c t u Q → ((x y z : List ℕ) → P x y → Q y z → S x z) → Comes a c s u S
comes_then a b c s t u P Q S p q f = record {
  taken = p.taken ++ q.taken;
  took = Consumes-trans a b c p.taken q.taken p.took q.took;
  fits = bytes_after p.taken q.taken p.fits q.fits;
  count = omega (arith, length-append p.taken q.taken, p.count, q.count);
  stand = λ more len.
      let rest : List ℕ = q.taken ++ more in
      let long : length rest ≡ t.coming = omega (arith, length-append q.taken more, q.count, len) in
      let whole : s.bytes ++ (p.taken ++ rest) ≡ s.bytes ++ ((p.taken ++ q.taken) ++ more) = ap (λ (r : List ℕ). s.bytes ++ r) (sym (append_assoc p.taken q.taken more)) in
      f (s.bytes ++ ((p.taken ++ q.taken) ++ more)) (t.bytes ++ rest) (u.bytes ++ more) (subst (λ (w : List ℕ). P w (t.bytes ++ rest)) whole (p.stand rest long)) (q.stand more len);
}

pub comes_map : (a b : Option (List ℕ)) (s t : Held) (P S : List ℕ → List ℕ → Type 0) → Comes a b s t P → ((x y : List ℕ) → P x y → S x y) → Comes a b s t S
comes_map a b s t P S p f = record { taken = p.taken; took = p.took; fits = p.fits; count = p.count; stand = λ more len. f (s.bytes ++ (p.taken ++ more)) (t.bytes ++ more) (p.stand more len) }

pub comes_same : (a : Option (List ℕ)) (s : Held) → Comes a a s s IsLeft
comes_same a s = record { taken = []; took = Consumes-nil a; fits = none_bytes; count = omega arith; stand = λ more len. refl }

pub comes_pass : {A : Type 0} (a : Option (List ℕ)) (s t : Held) (read : List ℕ → Option (A × List ℕ)) (x : A) → Passes s t read x → Comes a a s t (λ w r. read w ≡ Some (x, r))
comes_pass a s t read x h = record { taken = []; took = Consumes-nil a; fits = none_bytes; count = omega (arith, h.0); stand = λ more len. h.1 more }

-- Nothing was read, so nothing was lost.
pub grown : (a b : Option (List ℕ)) (s t : Held) → Comes a b s t IsLeft → length s.bytes + s.coming ≡ length t.bytes + t.coming
grown a b s t p =
    let more = zeros t.coming in
    let len = zeros_len t.coming in
    omega (arith, ap (λ (l : List ℕ). length l) (p.stand more len), length-append s.bytes (p.taken ++ more), length-append p.taken more, length-append t.bytes more, len, p.count)

-- More is held where more was wanted.
pub widened : {X E : Type 0} (r : Result X E) (a b : Option (List ℕ)) (s t : Held) (wanted : ℕ) → OnOk r (Comes a b s t IsLeft) → OnOk r (0 < t.coming → wanted ≤ length t.bytes) → length s.bytes < wanted → OnOk r (0 < s.coming → t.coming < s.coming)
widened (Ok x) a b s t wanted p enough lt = λ some.
    let same = grown a b s t p in
    elim (cases_lt 0 t.coming) [
      | inl more ↦ omega (arith, same, enough more, lt)
      | inr none ↦ omega (arith, none, some)
    ]
widened (Err e) a b s t wanted p enough lt = tt

pub stops_then : {A B : Type 0} (a b c : Option (List ℕ)) (before between now : ℕ) (s t u : Held) (P : List ℕ → List ℕ → Type 0) (one : List ℕ → Result A WireFault) (two : List ℕ → Result B WireFault) (stop : Unread)
    → Comes a b s t P → between ≡ before → Stops b c between now t u two stop → ((g : WireFault) (x y : List ℕ) → P x y → two y ≡ Err g → one x ≡ Err g) → Stops a c before now s u one stop
stops_then a b c before between now s t u P one two (Device fault) p e h f = unfilled_after a b p.taken t.coming s.coming before between now fault p.took (omega (arith, p.count)) e h
stops_then a b c before between now s t u P one two (Payload fault) p e h f =
    (h.0 ∙ e, h.1, comes_then a b c s t u P (λ whole rest. FailsWith fault (two whole)) (λ whole rest. FailsWith fault (one whole)) p h.2 (λ x y z m n. fails_as fault (two y) (one x) (λ g k. f g x y m k) n))

pub stops_first : {A B : Type 0} (a b : Option (List ℕ)) (before now : ℕ) (s t : Held) (one : List ℕ → Result A WireFault) (two : List ℕ → Result B WireFault) (stop : Unread)
    → Stops a b before now s t two stop → ((g : WireFault) (x : List ℕ) → two x ≡ Err g → one x ≡ Err g) → Stops a b before now s t one stop
stops_first a b before now s t one two (Device fault) h f = h
stops_first a b before now s t one two (Payload fault) h f = (h.0, h.1, comes_map a b s t (λ whole rest. FailsWith fault (two whole)) (λ whole rest. FailsWith fault (one whole)) h.2 (λ x y n. fails_as fault (two x) (one x) (λ g k. f g x k) n))

pub stops_here : {A : Type 0} (a b : Option (List ℕ)) (before now : ℕ) (s t : Held) (P : List ℕ → List ℕ → Type 0) (one : List ℕ → Result A WireFault) (fault : WireFault) → Comes a b s t P → now ≡ before → IsOfBytes fault → ((x y : List ℕ) → P x y → FailsWith fault (one x)) → Stops a b before now s t one (Payload fault)
stops_here a b before now s t P one fault p e ok f = (e, ok, comes_map a b s t P (λ whole rest. FailsWith fault (one whole)) p f)

pub taken_then : (a b c : Option (List ℕ)) (s t : Held) (P : List ℕ → List ℕ → Type 0) → Comes a b s t P → TakesAtMost t.coming b c → TakesAtMost s.coming a c
taken_then a b c s t P p q = taken_after a b c p.taken t.coming s.coming p.took q (omega (arith, p.count))

pub taken_all : (a b : Option (List ℕ)) (s t : Held) (P : List ℕ → List ℕ → Type 0) → Comes a b s t P → TakesAtMost s.coming a b
taken_all a b s t P p = (p.taken, omega (arith, p.count), p.took)

-- ---- in front of what is held

-- What is left of a reading is the end of what was held.
pub rest_held : (held spelled rest : List ℕ) → held ≡ spelled ++ rest → drop (length held - length rest) held ≡ rest
rest_held held spelled rest e =
    let n : length held - length rest ≡ length spelled = omega (arith, ap (λ (l : List ℕ). length l) e, length-append spelled rest) in
    ap (λ (k : ℕ). drop k held) n ∙ ap (drop (length spelled)) e ∙ drop_at spelled rest (length spelled) refl

-- what a form reads in front of bytes, it reads in front of more
pub passes : {A : Type 0} (form : Form A) (Fits : A → Type 0) → IsForm form Fits → (held : List ℕ) (coming : ℕ) (x : A) (rest : List ℕ) → IsBytes held → length held < 2 ^ 32 → form.read held ≡ Some (x, rest)
    → Passes (record { bytes = held; coming = coming }) (record { bytes = drop (length held - length rest) held; coming = coming }) form.read x
passes {A} form Fits is held coming x rest fits short e =
    let t = is.takes held (x, rest) fits e in
    let spelled = form.spell x in
    let here : length spelled < 2 ^ 32 = omega (arith, ap (λ (l : List ℕ). length l) t.0.parts, length-append spelled rest, short) in
    let left = rest_held held spelled rest t.0.parts in
    (refl, λ more. ap form.read (ap (λ (w : List ℕ). w ++ more) t.0.parts ∙ append_assoc spelled rest more) ∙ is.again x (rest ++ more) t.1 here ∙ ap (λ (r : List ℕ). Some (x, r ++ more)) (sym left))

-- what a window holds where it keeps so many bytes
abbrev pub keeping : Held → ℕ → Held
keeping s left = record { bytes = drop (length s.bytes - left) s.bytes; coming = s.coming }

pub kept_passes : {A : Type 0} (form : Form A) (Fits : A → Type 0) → IsForm form Fits → (s t : Held) (x : A) (rest : List ℕ) (left : ℕ) → IsBytes s.bytes → length s.bytes + s.coming < 2 ^ 32 → form.read s.bytes ≡ Some (x, rest) → left ≡ length rest → t ≡ keeping s left → Passes s t form.read x
kept_passes {A} form Fits is s t x rest left fits short e size kept =
    subst (λ (u : Held). Passes s u form.read x) (sym (kept ∙ ap (keeping s) size)) (passes form Fits is s.bytes s.coming x rest fits (omega (arith, short)) e)

pub rest_short : {A : Type 0} (form : Form A) (Fits : A → Type 0) → IsForm form Fits → (held : List ℕ) (x : A) (rest : List ℕ) → IsBytes held → form.read held ≡ Some (x, rest) → length rest ≤ length held
rest_short {A} form Fits is held x rest fits e =
    let t = is.takes held (x, rest) fits e in
    omega (arith, ap (λ (l : List ℕ). length l) t.0.parts, length-append (form.spell x) rest)

-- ---- the other side of a device

-- Two calls in turn leave it as it was.
pub leaves_both : (a b c : Side) → LeavesSide a b → LeavesSide b c → LeavesSide a c
leaves_both a b c p q = record { bytes = Keeps-trans _ _ _ p.bytes q.bytes; failures = q.failures ∙ p.failures }
