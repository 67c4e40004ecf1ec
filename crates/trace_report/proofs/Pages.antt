-- A sink that holds texts back, over one that holds none.
use Rattle.std.proofs.Common.{◌≡◌, ◌+◌, ℕ, List, [], ◌++◌, refl, sym, ◌∙◌, ap, append-nil, arith, subst}
use Rattle.std.proofs.KnownBytes.{Appends-nil}
use Rattle.trace_report.specs.Page.{Page, Prints, capped}
use Rattle.trace_report.proofs.Printing.{left_alone, then, reads}

abbrev with_pending : Page → List ℕ → Page
with_pending s held = record { lent = s.lent; device = s.device; pending = held; count = s.count; failed = s.failed }

-- what was held was handed on
flushed : (s t : Page) (p : List ℕ) → s.pending ≡ [] → t.pending ≡ [] → Prints s t p → Prints (with_pending s p) (with_pending t []) []
flushed s t p e f h = record {
  sent = h.sent;
  rest = h.rest;
  whole = append-nil p ∙ sym (ap (λ (l : List ℕ). l ++ p) e) ∙ h.whole;
  out = h.out;
  count = h.count;
  fine = λ k. let r = h.fine k in (r.0, r.1 ∙ f, r.2);
  first = h.first;
  stays = h.stays;
  later = h.later;
  beside = h.beside;
  lent = h.lent;
}

-- what was held was handed on, and then the text
pub passed : (s t u : Page) (p q x text : List ℕ) → s.pending ≡ [] → t.pending ≡ [] → u.pending ≡ [] → q ≡ p → x ≡ [] → Prints s t q → Prints t u text
    → Prints (with_pending s p) (with_pending u x) text
passed s t u p q x text e f d a b h k =
    let first = flushed s t p e f (reads h a) in
    let second : Prints (with_pending t []) (with_pending u []) text = moved k in
    subst (λ (l : List ℕ). Prints (with_pending s p) (with_pending u l) text) (sym b) (then first second)
  where
    moved : Prints t u text → Prints (with_pending t []) (with_pending u []) text
    moved k = record {
      sent = k.sent;
      rest = k.rest;
      whole = ap (λ (l : List ℕ). l ++ text) (sym f) ∙ k.whole;
      out = k.out;
      count = k.count;
      fine = λ i. let r = k.fine i in (r.0, r.1 ∙ d, r.2);
      first = k.first;
      stays = k.stays;
      later = k.later;
      beside = k.beside;
      lent = k.lent;
    }

-- the text is held behind what is held
pub held : (s : Page) (x text : List ℕ) → x ≡ s.pending ++ text → Prints s (with_pending s x) text
held s x text e = record {
  sent = [];
  rest = s.pending ++ text;
  whole = refl;
  out = Appends-nil s.device.bytes;
  count = ap (λ (n : ℕ). capped n) (let z : s.count ≡ s.count + 0 = omega arith in z);
  fine = λ h. (h, sym e, refl);
  first = λ h k. absurd (cc (h, k));
  stays = λ h. (refl, h, refl);
  later = omega arith;
  beside = left_alone s.device.other;
  lent = refl;
}

-- what was held was handed on, and the text is held
pub held_anew : (s t : Page) (p q x text : List ℕ) → s.pending ≡ [] → t.pending ≡ [] → q ≡ p → x ≡ text → Prints s t q → Prints (with_pending s p) (with_pending t x) text
held_anew s t p q x text e f a b h = then (flushed s t p e f (reads h a)) (held (with_pending t []) x text b)
