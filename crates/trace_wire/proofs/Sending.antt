-- Bytes put into a sink, one after another.
use Rattle.std.proofs.Common.{◌≡◌, ◌<◌, take, get_or, ◌+◌, ℕ, zero, suc, Bool, true, false, Option, List, [], ◌∷◌, ◌++◌, length, refl, sym, ◌∙◌, ap, arith, append_assoc, append-nil, length-append, subst}
use Rattle.std.proofs.KnownBytes.{Appends-trans, Appends-nil, Keeps-trans, Keeps-refl}
use Rattle.std.specs.Io.KnownBytes.{Appends}
use Rattle.std.specs.List.{flat_map}
use Rattle.std.proofs.lemmas.List.Concat.{flat_map-cons}
use Rattle.mpi_model.specs.Failures.{one_more}
use Rattle.mpi_model.specs.Side.{Side, LeavesSide}
use Rattle.trace_wire.specs.Sending.{Page, Sends, Comes, opening, closing}
use Rattle.trace_wire.specs.Writing.{WritesFront}

pub leaves : (a : Side) → LeavesSide a a
leaves a = record { bytes = Keeps-refl a.bytes; failures = refl }

pub leaves_both : (a b c : Side) → LeavesSide a b → LeavesSide b c → LeavesSide a c
leaves_both a b c p q = record { bytes = Keeps-trans _ _ _ p.bytes q.bytes; failures = q.failures ∙ p.failures }

-- nothing was put
pub nothing : (s : Page) → Sends s s []
nothing s = record {
  sent = [];
  rest = s.pending;
  whole = append-nil s.pending;
  out = Appends-nil s.out;
  fine = λ h. (h, refl, refl);
  first = λ h k. absurd (cc (h, k));
  stays = λ h. (refl, h, refl);
  later = omega arith;
  beside = leaves s.side;
  lent = refl;
}

-- the first bytes were put without a failure
then_fine : {s t u : Page} {xs ys : List ℕ} → Sends s t xs → Sends t u ys → t.failed ≡ false → Sends s u (xs ++ ys)
then_fine {s} {t} {u} {xs} {ys} p q e =
    let f = p.fine e in
    record {
      sent = p.sent ++ q.sent;
      rest = q.rest;
      whole = sym (append_assoc s.pending xs ys) ∙ ap (λ (l : List ℕ). l ++ ys) (p.whole ∙ ap (λ (l : List ℕ). p.sent ++ l) f.1) ∙ append_assoc p.sent t.pending ys ∙ ap (λ (l : List ℕ). p.sent ++ l) q.whole ∙ sym (append_assoc p.sent q.sent q.rest);
      out = Appends-trans _ _ _ _ _ p.out q.out;
      fine = λ h. let g = q.fine h in (f.0, g.1, g.2 ∙ f.2);
      first = λ h k. let g = q.first e k in (g.0, g.1 ∙ ap (λ (n : ℕ). one_more n) f.2);
      stays = λ h. absurd (cc (h, f.0));
      later = omega (arith, p.later, q.later);
      beside = leaves_both _ _ _ p.beside q.beside;
      lent = q.lent ∙ p.lent;
    }

-- the first bytes failed
then_failed : {s t u : Page} {xs ys : List ℕ} → Sends s t xs → Sends t u ys → t.failed ≡ true → Sends s u (xs ++ ys)
then_failed {s} {t} {u} {xs} {ys} p q e =
    let f = q.stays e in
    record {
      sent = p.sent ++ q.sent;
      rest = p.rest ++ ys;
      whole = sym (append_assoc s.pending xs ys) ∙ ap (λ (l : List ℕ). l ++ ys) p.whole ∙ append_assoc p.sent p.rest ys ∙ ap (λ (l : List ℕ). l ++ (p.rest ++ ys)) (sym (append-nil p.sent) ∙ ap (λ (l : List ℕ). p.sent ++ l) (sym f.0));
      out = Appends-trans _ _ _ _ _ p.out q.out;
      fine = λ h. absurd (cc (h, f.1));
      first = λ h k. let g = p.first h e in (omega (arith, g.0, length-append p.rest ys), f.2 ∙ g.1);
      stays = λ h. let g = p.stays h in (ap (λ (l : List ℕ). l ++ q.sent) g.0 ∙ f.0, f.1, f.2 ∙ g.2);
      later = omega (arith, p.later, q.later);
      beside = leaves_both _ _ _ p.beside q.beside;
      lent = q.lent ∙ p.lent;
    }

-- bytes, and then others
pub then : {s t u : Page} {xs ys : List ℕ} → Sends s t xs → Sends t u ys → Sends s u (xs ++ ys)
then {s} {t} {u} {xs} {ys} p q = elim t.failed as (λ b. t.failed ≡ b → Sends s u (xs ++ ys)) [
  | true ↦ then_failed p q
  | false ↦ then_fine p q
] refl

pub reads : {s t : Page} {xs ys : List ℕ} → Sends s t xs → xs ≡ ys → Sends s t ys
reads {s} {t} p e = subst (λ (l : List ℕ). Sends s t l) e p

-- after a failure nothing is sent
pub skipped : (s : Page) (bytes : List ℕ) → s.failed ≡ true → Sends s s bytes
skipped s bytes e = record {
  sent = [];
  rest = s.pending ++ bytes;
  whole = refl;
  out = Appends-nil s.out;
  fine = λ h. absurd (cc (h, e));
  first = λ h k. absurd (cc (h, e));
  stays = λ h. (refl, h, refl);
  later = omega arith;
  beside = leaves s.side;
  lent = refl;
}

-- ---- a sink that holds bytes back, before one that holds none

abbrev pub with_pending : Page → List ℕ → Page
with_pending s p = record { lent = s.lent; out = s.out; failures = s.failures; side = s.side; pending = p; failed = s.failed }

-- bytes were kept
pub kept : (s : Page) (p bytes : List ℕ) → Sends (with_pending s p) (with_pending s (p ++ bytes)) bytes
kept s p bytes = record {
  sent = [];
  rest = p ++ bytes;
  whole = refl;
  out = Appends-nil s.out;
  fine = λ h. (h, refl, refl);
  first = λ h k. absurd (cc (h, k));
  stays = λ h. (refl, h, refl);
  later = omega arith;
  beside = leaves s.side;
  lent = refl;
}

-- what was held was handed on
pub flushed : (s t : Page) (p : List ℕ) → s.pending ≡ [] → t.pending ≡ [] → Sends s t p → Sends (with_pending s p) (with_pending t []) []
flushed s t p e f h = record {
  sent = h.sent;
  rest = h.rest;
  whole = append-nil p ∙ sym (ap (λ (l : List ℕ). l ++ p) e) ∙ h.whole;
  out = h.out;
  fine = λ k. let r = h.fine k in (r.0, r.1 ∙ f, r.2);
  first = h.first;
  stays = h.stays;
  later = h.later;
  beside = h.beside;
  lent = h.lent;
}

moved : (s t : Page) (bytes : List ℕ) → s.pending ≡ [] → t.pending ≡ [] → Sends s t bytes → Sends (with_pending s []) (with_pending t []) bytes
moved s t bytes e f h = record {
  sent = h.sent;
  rest = h.rest;
  whole = sym (ap (λ (l : List ℕ). l ++ bytes) e) ∙ h.whole;
  out = h.out;
  fine = λ k. let r = h.fine k in (r.0, r.1 ∙ f, r.2);
  first = h.first;
  stays = h.stays;
  later = h.later;
  beside = h.beside;
  lent = h.lent;
}

-- what was held was handed on, and then the bytes
pub passed : (s t u : Page) (p q x bytes : List ℕ) → s.pending ≡ [] → t.pending ≡ [] → u.pending ≡ [] → q ≡ p → x ≡ [] → Sends s t q → Sends t u bytes
    → Sends (with_pending s p) (with_pending u x) bytes
passed s t u p q x bytes e f d a b h k =
    let first = flushed s t p e f (reads h a) in
    let second = moved t u bytes f d k in
    subst (λ (l : List ℕ). Sends (with_pending s p) (with_pending u l) bytes) (sym b) (then first second)

abbrev closed : Page → Page
closed s = record { lent = 0; out = s.out; failures = s.failures; side = s.side; pending = []; failed = s.failed }

-- The reference doesn't matter once it is given back, and nothing is held before the first bytes and after the last.
pub given_back : (s t : Page) (bytes : List ℕ) → s.pending ≡ [] → t.pending ≡ [] → Sends s t (bytes ++ []) → Sends (closed s) (closed t) bytes
given_back s t bytes e f h = record {
  sent = h.sent;
  rest = h.rest;
  whole = sym (append-nil bytes) ∙ ap (λ (l : List ℕ). l ++ (bytes ++ [])) (sym e) ∙ h.whole;
  out = h.out;
  fine = λ i. let r = h.fine i in (r.0, r.1 ∙ f, r.2);
  first = h.first;
  stays = h.stays;
  later = h.later;
  beside = h.beside;
  lent = refl;
}

-- ---- a frame is out

pub front_of : (xs ys : List ℕ) → take (length xs) (xs ++ ys) ≡ xs
front_of [] ys = refl
front_of (x ∷ xs) ys = ap (λ (l : List ℕ). x ∷ l) (front_of xs ys)

-- a write failed
pub broke_off : (a b : Option (List ℕ)) (m n : ℕ) (v w : Side) (failed : Bool) (bytes : List ℕ) → failed ≡ true → Sends (opening a m v) (closing b n w failed) bytes → WritesFront a b bytes × (n ≡ one_more m)
broke_off a b m n v w failed bytes is h =
    let f = h.first refl is in
    let parts : bytes ≡ h.sent ++ h.rest = h.whole in
    let len : length bytes ≡ length h.sent + length h.rest = ap (λ (t : List ℕ). length t) parts ∙ length-append h.sent h.rest in
    let front : take (length h.sent) bytes ≡ h.sent = ap (λ (t : List ℕ). take (length h.sent) t) parts ∙ front_of h.sent h.rest in
    ((length h.sent, omega (arith, len, f.0), subst (λ (t : List ℕ). Appends a b t) (sym front) h.out), f.1)

-- all was written
pub came_out : (a b : Option (List ℕ)) (m n : ℕ) (v w : Side) (failed : Bool) (bytes : List ℕ) → failed ≡ false → Sends (opening a m v) (closing b n w failed) bytes → Appends a b bytes × (n ≡ m)
came_out a b m n v w failed bytes is h =
    let f = h.fine is in
    let whole : bytes ≡ h.sent = h.whole ∙ ap (λ (l : List ℕ). h.sent ++ l) f.1 ∙ append-nil h.sent in
    (subst (λ (t : List ℕ). Appends a b t) (sym whole) h.out, f.2)

-- ---- a list that is gone through

-- nothing of the bytes was put yet
pub comes : (s : Page) (bytes : List ℕ) → Comes s s bytes bytes
comes s bytes = record { front = []; parts = refl; sends = nothing s }

-- the next of them were put
pub comes_on : (s t u : Page) (bytes next rest : List ℕ) → Comes s t bytes (next ++ rest) → Sends t u next → Comes s u bytes rest
comes_on s t u bytes next rest h k = record { front = h.front ++ next; parts = h.parts ∙ sym (append_assoc h.front next rest); sends = then h.sends k }

-- all were put
pub came : (s t : Page) (bytes : List ℕ) → Comes s t bytes [] → Sends s t bytes
came s t bytes h = reads h.sends (sym (h.parts ∙ append-nil h.front))

-- the next item of a list
pub next_item : {A : Type 0} (spell : A → List ℕ) (s t u : Page) (bytes : List ℕ) (x : A) (xs : List A) → Comes s t bytes (flat_map spell (x ∷ xs)) → Sends t u (spell x) → Comes s u bytes (flat_map spell xs)
next_item spell s t u bytes x xs h k = comes_on s t u bytes (spell x) (flat_map spell xs) (subst (λ (r : List ℕ). Comes s t bytes r) (flat_map-cons spell x xs) h) k

-- a front of a list with one item more
take_next : {A : Type 0} (xs : List A) (i : ℕ) (x : A) → i < length xs → x ≡ get_or xs i x → take (i + 1) xs ≡ take i xs ++ x ∷ []
take_next [] i x h e = absurd (omega (arith, h))
take_next {A = A} (y ∷ xs) zero x h e = ap (λ (z : A). z ∷ []) (sym e)
take_next {A = A} (y ∷ xs) (suc i) x h e =
    let n : suc i + 1 ≡ suc (i + 1) = omega arith in
    ap (λ (k : ℕ). take k (y ∷ xs)) n ∙ ap (λ (l : List A). y ∷ l) (take_next xs i x (omega (arith, h)) e)

pub spelled_last : {A : Type 0} (spell : A → List ℕ) (xs : List A) (x : A) → flat_map spell (xs ++ x ∷ []) ≡ flat_map spell xs ++ spell x
spelled_last spell [] x = append-nil (spell x)
spelled_last spell (y ∷ xs) x = ap (λ (l : List ℕ). spell y ++ l) (spelled_last spell xs x) ∙ sym (append_assoc (spell y) (flat_map spell xs) (spell x))

pub one_more_item : {A : Type 0} (spell : A → List ℕ) (xs : List A) (i : ℕ) (x : A) → i < length xs → x ≡ get_or xs i x → flat_map spell (take (i + 1) xs) ≡ flat_map spell (take i xs) ++ spell x
one_more_item {A = A} spell xs i x h e = ap (λ (l : List A). flat_map spell l) (take_next xs i x h e) ∙ spelled_last spell (take i xs) x
