-- A report is out: whole, or broken off.
use Rattle.std.proofs.Common.{◌≡◌, ◌<◌, ◌≤◌, take, ◌+◌, ◌-◌, ◌^◌, ℕ, min, Bool, true, false, List, [], ◌∷◌, ◌++◌, length, refl, sym, ◌∙◌, ap, arith, append-nil, length-append, subst}
use Rattle.std.specs.Io.KnownBytes.{Appends}
use Rattle.mpi_model.specs.Failures.{one_more}
use Rattle.mpi_model.specs.Side.{LeavesSide}
use Rattle.trace_report.specs.Page.{Outlet, Page, Prints, capped, closing, opening}

abbrev closed : Page → Page
closed s = record { lent = 0; device = s.device; pending = []; count = s.count; failed = s.failed }

-- The reference doesn't matter once it is given back, and nothing is held before the first text and after the last.
pub given_back : (s t : Page) (text : List ℕ) → s.pending ≡ [] → t.pending ≡ [] → Prints s t (text ++ []) → Prints (closed s) (closed t) text
given_back s t text e f h = record {
  sent = h.sent;
  rest = h.rest;
  whole = sym (append-nil text) ∙ ap (λ (l : List ℕ). l ++ (text ++ [])) (sym e) ∙ h.whole;
  out = h.out;
  count = h.count;
  fine = λ i. let r = h.fine i in (r.0, r.1 ∙ f, r.2);
  first = h.first;
  stays = h.stays;
  later = h.later;
  beside = h.beside;
  lent = refl;
}

front_of : (xs ys : List ℕ) → take (length xs) (xs ++ ys) ≡ xs
front_of [] ys = refl
front_of (x ∷ xs) ys = ap (λ (l : List ℕ). x ∷ l) (front_of xs ys)

-- a count that fits is what it is capped to
within : (k i : ℕ) → k ≤ 2 ^ 64 - 1 → min k (2 ^ 64 - 1) ≡ min (0 + i) (2 ^ 64 - 1) → k ≡ min i (2 ^ 64 - 1)
within k i r e = omega (arith, r, e)

-- A write failed: a front of the text was written, of the length that was counted, and the device failed once.
pub record BrokeOff (old new : Outlet) (count : ℕ) (text : List ℕ) : Type 0 where
  pub front : (i : ℕ) × (i < length text) × (count ≡ capped i) × Appends old.bytes new.bytes (take i text)
  pub later : old.failures ≤ new.failures
  pub failures : new.failures ≡ one_more old.failures
  pub beside : LeavesSide old.other new.other

broke_off_so : (a b : Outlet) (k : ℕ) (text : List ℕ) → k ≤ 2 ^ 64 - 1 → Prints (opening a) (closing b k true) text → BrokeOff a b k text
broke_off_so a b k text r h =
    let f = h.first refl refl in
    let w : text ≡ h.sent ++ h.rest = h.whole in
    let i = length h.sent in
    let l : length text ≡ i + length h.rest = ap (λ (t : List ℕ). length t) w ∙ length-append h.sent h.rest in
    let e : take i text ≡ h.sent = ap (λ (t : List ℕ). take i t) w ∙ front_of h.sent h.rest in
    record {
      front = (i, omega (arith, l, f.0), within k i r h.count, subst (λ (t : List ℕ). Appends a.bytes b.bytes t) (sym e) h.out);
      later = h.later;
      failures = f.1;
      beside = h.beside;
    }

pub broke_off : (a b : Outlet) (k : ℕ) (failed : Bool) (text : List ℕ) → k ≤ 2 ^ 64 - 1 → failed ≡ true → Prints (opening a) (closing b k failed) text → BrokeOff a b k text
broke_off a b k failed text r e h = broke_off_so a b k text r (subst (λ (f : Bool). Prints (opening a) (closing b k f) text) e h)

-- No write failed: the whole text was written, and its bytes were counted.
pub record CameOut (old new : Outlet) (count : ℕ) (text : List ℕ) : Type 0 where
  pub all : count ≡ capped (length text)
  pub whole : Appends old.bytes new.bytes text
  pub failures : new.failures ≡ old.failures
  pub beside : LeavesSide old.other new.other

came_out_so : (a b : Outlet) (k : ℕ) (text : List ℕ) → k ≤ 2 ^ 64 - 1 → Prints (opening a) (closing b k false) text → CameOut a b k text
came_out_so a b k text r h =
    let f = h.fine refl in
    let w : text ≡ h.sent = h.whole ∙ ap (λ (l : List ℕ). h.sent ++ l) f.1 ∙ append-nil h.sent in
    record {
      all = within k (length text) r (h.count ∙ ap (λ (l : List ℕ). capped (0 + length l)) (sym w));
      whole = subst (λ (t : List ℕ). Appends a.bytes b.bytes t) (sym w) h.out;
      failures = f.2;
      beside = h.beside;
    }

pub came_out : (a b : Outlet) (k : ℕ) (failed : Bool) (text : List ℕ) → k ≤ 2 ^ 64 - 1 → failed ≡ false → Prints (opening a) (closing b k failed) text → CameOut a b k text
came_out a b k failed text r e h = came_out_so a b k text r (subst (λ (f : Bool). Prints (opening a) (closing b k f) text) e h)
