-- The cells of version 1, for which all of a payload is held.
use Rattle.std.proofs.Common.{◌≡◌, ℕ, ◌+◌, ◌^◌, ◌<◌, ◌≤◌, List, [], ◌++◌, length, Option, None, Result, Ok, sym, ap, subst, ◌∙◌, append-nil, arith, inl, inr}
use Rattle.std.proofs.lemmas.Bool.{cases_lt}
use Rattle.std.proofs.KnownBytes.{Consumes-nil}
use Rattle.std.proofs.lemmas.List.{length-append, nil_from_length}
use Rattle.std.specs.List.{flat_map}
use Rattle.trace_wire.specs.declared.fault.WireFault.{WireFault}
use Rattle.trace_wire.specs.declared.read.unread.Unread.TheVariants.{Payload}
use Rattle.trace_wire.specs.declared.version.Version.TheVariants.{One}
use Rattle.trace_wire.specs.Cells.{Entry, cell_bytes}
use Rattle.trace_wire.specs.FirstFault.{parts_of}
use Rattle.trace_wire.specs.Forms.{IsBytes}
use Rattle.trace_wire.specs.Held.{Held}
use Rattle.trace_wire.specs.Outcomes.{FailsWith, IsOfBytes}
use Rattle.trace_wire.specs.Parts.{cell}
use Rattle.trace_wire.specs.Windows.{Comes, Gave, IsLeft, Stops}
use Rattle.trace_wire.proofs.CellLaws.{CellStands, cell_part}
use Rattle.trace_wire.proofs.PartLaws.{parts_take}
use Rattle.trace_wire.proofs.Windows.{comes_then, keeping, none_bytes, rest_held}

-- where nothing more is to come
pub nothing_coming : (s : Held) → length s.bytes + s.coming < 2 ^ 32 → (0 < s.coming → 18446744073709551615 ≤ length s.bytes) → s.coming ≡ 0
nothing_coming s short enough = elim (cases_lt 0 s.coming) [
  | inl some ↦ absurd (omega (arith, enough some, short))
  | inr none ↦ omega (arith, none)
]

-- what is read in front of all that is left
at_end : {A : Type 0} (a : Option (List ℕ)) (s t : Held) (read : List ℕ → Result (A × List ℕ) WireFault) (x : A) → s.coming ≡ 0 → t.coming ≡ s.coming → read s.bytes ≡ Ok (x, t.bytes) → Comes a a s t (Gave read x)
at_end {A} a s t read x end same e =
    let with_nil : read (s.bytes ++ []) ≡ Ok (x, t.bytes ++ []) = ap read (append-nil s.bytes) ∙ e ∙ ap (λ (r : List ℕ). Ok (x, r)) (sym (append-nil t.bytes)) in
    record {
      taken = [];
      took = Consumes-nil a;
      fits = none_bytes;
      count = omega (arith, same);
      stand = λ more len. subst (λ (m : List ℕ). read (s.bytes ++ m) ≡ Ok (x, t.bytes ++ m)) (sym (nil_from_length more (len ∙ same ∙ end))) with_nil;
    }

spelled_cells : (count : ℕ) (bytes : List ℕ) (es : List Entry) (rest : List ℕ) → IsBytes bytes → parts_of One count bytes ≡ Ok (es, rest) → bytes ≡ flat_map cell_bytes es ++ rest
spelled_cells count bytes es rest fits e = let t = parts_take cell CellStands cell_part count None bytes (es, rest) fits e in t.0.parts

pub cells_short : (count : ℕ) (bytes : List ℕ) (es : List Entry) (rest : List ℕ) → IsBytes bytes → parts_of One count bytes ≡ Ok (es, rest) → length rest ≤ length bytes
cells_short count bytes es rest fits e = omega (arith, ap (λ (l : List ℕ). length l) (spelled_cells count bytes es rest fits e), length-append (flat_map cell_bytes es) rest)

pub cells_held : (a b : Option (List ℕ)) (s t u : Held) (count : ℕ) (es : List Entry) (rest : List ℕ) (left : ℕ) → Comes a b s t IsLeft → t.coming ≡ 0 → IsBytes t.bytes → parts_of One count t.bytes ≡ Ok (es, rest) → left ≡ length rest → u ≡ keeping t left
    → Comes a b s u (Gave (parts_of One count) es)
cells_held a b s t u count es rest left p end fits e size kept =
    let is : u ≡ keeping t (length rest) = kept ∙ ap (keeping t) size in
    let back : rest ≡ u.bytes = sym (ap (λ (h : Held). h.bytes) is ∙ rest_held t.bytes (flat_map cell_bytes es) rest (spelled_cells count t.bytes es rest fits e)) in
    let here : parts_of One count t.bytes ≡ Ok (es, u.bytes) = e ∙ ap (λ (r : List ℕ). Ok (es, r)) back in
    comes_then a b b s t u IsLeft (Gave (parts_of One count) es) (Gave (parts_of One count) es) p (at_end b t u (parts_of One count) es end (ap (λ (h : Held). h.coming) is) here)
    (λ x y z m n. ap (parts_of One count) m ∙ n)

pub no_cells_held : (a b : Option (List ℕ)) (before now : ℕ) (s t : Held) (count : ℕ) (fault : WireFault) → Comes a b s t IsLeft → t.coming ≡ 0 → now ≡ before → IsOfBytes fault → FailsWith fault (parts_of One count t.bytes)
    → Stops a b before now s t (parts_of One count) (Payload fault)
no_cells_held a b before now s t count fault p end e ok fails = (
  e,
  ok,
  record {
    taken = p.taken;
    took = p.took;
    fits = p.fits;
    count = p.count;
    stand = λ more len.
        let whole : s.bytes ++ (p.taken ++ more) ≡ t.bytes = p.stand more len ∙ ap (λ (m : List ℕ). t.bytes ++ m) (nil_from_length more (len ∙ end)) ∙ append-nil t.bytes in
        subst (λ (w : List ℕ). FailsWith fault (parts_of One count w)) (sym whole) fails;
  },
)
