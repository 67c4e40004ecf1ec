-- Parts, found cell by cell.
use Rattle.std.proofs.Common.{◌≡◌, ℕ, suc, ◌+◌, ◌*◌, ◌-◌, ◌^◌, ◌<◌, ◌≤◌, Bool, true, false, cond, eqb, ltb, List, [], ◌∷◌, ◌++◌, length, map, refl, sym, ap, subst, ◌∙◌, append_assoc, inl, inr, arith}
use Rattle.std.specs.Prelude.{min}
use Rattle.std.proofs.lemmas.Bool.Decides.{nat_tests}
use Rattle.std.proofs.lemmas.List.{append-nil, length-append, map-append}
use Rattle.trace_know.specs.Listing.{is_behind, run_behind, run_len}
use Rattle.trace_wire.specs.declared.fault.WireFault.{WireFault}
use Rattle.trace_wire.specs.declared.fault.WireFault.TheVariants as faults
use Rattle.trace_wire.specs.declared.packed.plan.PartSize.{PartSize}
use Rattle.trace_wire.specs.declared.version.Version.TheVariants.{Two}
use Rattle.trace_wire.specs.Cells.{Entry, known_bytes, knowns_bytes, knowns_of}
use Rattle.trace_wire.specs.Frames.{payload}
use Rattle.trace_wire.specs.Packed.{AreParts}
use Rattle.trace_wire.specs.Planning.{AddsCell, IsLonger, IsNext, IsUnplanned, NeedsMore, cell_len, size_of}
use Rattle.trace_wire.specs.Runs.{runs_of}
use Rattle.trace_wire.proofs.Lengths.{knowns_len, payload_len}
use Rattle.trace_wire.proofs.RunCells.{one_more_run}
use Rattle.trace_wire.proofs.RunLaws.{knowns_short}

-- ---- a cell more

-- whether a cell goes on right behind the last of others
abbrev pub goes_on : List Entry → Entry → Bool
goes_on [] e = false
goes_on (f ∷ []) e = is_behind f.0 e.0
goes_on (f ∷ g ∷ es) e = goes_on (g ∷ es) e

pub goes_on_last : (es : List Entry) (f e : Entry) → goes_on (es ++ f ∷ []) e ≡ is_behind f.0 e.0
goes_on_last [] f e = refl
goes_on_last (g ∷ []) f e = refl
goes_on_last (g ∷ h ∷ es) f e = goes_on_last (h ∷ es) f e

not_one : (n : ℕ) → eqb (suc (suc n)) 1 ≡ false
not_one n = grind (arith, nat_tests)

-- 1 or 0
abbrev one_if : Bool → ℕ
one_if b = cond b 1 0

ends : (b : Bool) (n : ℕ) → ◌≡◌ {A = ℕ} (cond (eqb (suc (cond b (suc n) 0)) 1) 1 0) (cond b 0 1)
ends true n = ap (λ (c : Bool). one_if c) (not_one n)
ends false n = refl

runs_more : (es : List Entry) (e : Entry) → length (runs_of (es ++ e ∷ [])) ≡ length (runs_of es) + cond (goes_on es e) 0 1
runs_more [] e = refl
runs_more (f ∷ []) e = omega (arith, one_more_run f (e ∷ []), ends (is_behind f.0 e.0) 0)
runs_more (f ∷ g ∷ es) e =
    omega (arith, one_more_run f (g ∷ (es ++ e ∷ [])), one_more_run f (g ∷ es), ends (is_behind f.0 g.0) (run_behind g.0 (es ++ e ∷ [])), ends (is_behind f.0 g.0) (run_behind g.0 es), runs_more (g ∷ es) e)

knowns_more : (es : List Entry) (e : Entry) → length (knowns_bytes (knowns_of (es ++ e ∷ []))) ≡ length (knowns_bytes (knowns_of es)) + length (known_bytes e.1)
knowns_more [] e = omega (arith, knowns_len e.1 [])
knowns_more (f ∷ es) e = omega (arith, knowns_len f.1 (knowns_of (es ++ e ∷ [])), knowns_len f.1 (knowns_of es), knowns_more es e)

more_len : (b : Bool) (r s n m k : ℕ) → s ≡ r + cond b 0 1 → m ≡ n + k → 4 + (s * 16 + m) ≡ (4 + (r * 16 + n)) + (cond b 0 16 + k)
more_len true r s n m k e f = omega (arith, e, f)
more_len false r s n m k e f = omega (arith, e, f)

pub payload_more : (es : List Entry) (e : Entry) → length (payload (es ++ e ∷ [])) ≡ length (payload es) + cell_len (goes_on es e) (length (known_bytes e.1))
payload_more es e =
    payload_len Two (es ++ e ∷ [])
    ∙ more_len (goes_on es e) (length (runs_of es)) (length (runs_of (es ++ e ∷ []))) (length (knowns_bytes (knowns_of es))) (length (knowns_bytes (knowns_of (es ++ e ∷ [])))) (length (known_bytes e.1)) (runs_more es e) (knowns_more es e)
    ∙ ap (λ (n : ℕ). n + cell_len (goes_on es e) (length (known_bytes e.1))) (sym (payload_len Two es))

pub empty_len : length (payload []) ≡ 4
empty_len = payload_len Two []

pub alone_len : (e : Entry) → length (payload (e ∷ [])) ≡ 20 + length (known_bytes e.1)
alone_len e = omega (arith, payload_more [] e, empty_len)

count_knowns : (es : List Entry) → length (knowns_of es) ≡ length es
count_knowns [] = refl
count_knowns (e ∷ es) = ap suc (count_knowns es)

-- a payload has at least as many bytes as cells, and as runs
pub few_cells : (es : List Entry) → (length es ≤ length (payload es)) × (length (runs_of es) ≤ length (payload es))
few_cells es = (omega (arith, payload_len Two es, knowns_short (knowns_of es), count_knowns es), omega (arith, payload_len Two es))

-- ---- the parts so far

-- The parts that are done, and the cells of the last one so far.
pub record Planned (all rest : List Entry) (plan : List PartSize) (part : PartSize) (goes : Bool) : Type 0 where
  pub done : List (List Entry)
  pub now : List Entry
  pub before : List Entry
  pub whole : all ≡ before ++ rest
  pub plan_is : plan ≡ map size_of done
  pub part_is : part ≡ size_of now
  pub fits : length (payload now) ≤ 67108864
  pub onward : (parts : List (List Entry)) → AreParts (now ++ rest) parts → AreParts all (done ++ parts)
  pub next : (e : Entry) (es : List Entry) → rest ≡ e ∷ es → goes ≡ goes_on now e

pub planned_none : (all : List Entry) (part : PartSize) (plan : List PartSize) → plan ≡ [] → part ≡ size_of [] → Planned all all plan part false
planned_none all part plan none is = record {
  done = [];
  now = [];
  before = [];
  whole = refl;
  plan_is = none;
  part_is = is;
  fits = omega (arith, empty_len);
  onward = λ parts h. h;
  next = λ e es h. refl;
}

size_is : (p q : PartSize) → p.cells ≡ q.cells → p.runs ≡ q.runs → p.len ≡ q.len → p ≡ q
size_is p q a b c = λ i. record { cells = a i; runs = b i; len = c i }

-- so many bytes, or as many as can be counted
counted : (known real len more : ℕ) (b : Bool) → known ≡ min real (2 ^ 64 - 1) → len ≡ more + cell_len b known → len ≤ 67108864 → known ≡ real
counted known real len more true is e fits = omega (arith, is, e, fits)
counted known real len more false is e fits = omega (arith, is, e, fits)

overfull : (known real more : ℕ) (b : Bool) → known ≡ min real (2 ^ 64 - 1) → 67108864 < more + cell_len b known → 67108864 < more + cell_len b real
overfull known real more true is full = omega (arith, is, full)
overfull known real more false is full = omega (arith, is, full)

longer : (all rest es : List Entry) (e : Entry) (plan : List PartSize) (part result : PartSize) (goes goes2 : Bool) (known : ℕ) → Planned all rest plan part goes → rest ≡ e ∷ es → known ≡ min (length (known_bytes e.1)) (2 ^ 64 - 1)
    → IsLonger part goes known result → ((f : Entry) (fs : List Entry) → es ≡ f ∷ fs → goes2 ≡ is_behind e.0 f.0) → Planned all es plan result goes2
longer all rest es e plan part result goes goes2 known p is len added next =
    let real = length (known_bytes e.1) in
    let now2 = p.now ++ e ∷ [] in
    let goes_is : goes ≡ goes_on p.now e = p.next e es is in
    let known_is : known ≡ real = counted known real result.len part.len goes len added.len added.fits in
    let cells_is : result.cells ≡ length now2 = added.cells ∙ ap (λ (s : PartSize). s.cells + 1) p.part_is ∙ (omega (arith, length-append p.now (e ∷ []))) in
    let runs_is : result.runs ≡ length (runs_of now2) = added.runs ∙ ap (λ (s : PartSize). s.runs + cond goes 0 1) p.part_is ∙ ap (λ (b : Bool). length (runs_of p.now) + cond b 0 1) goes_is ∙ sym (runs_more p.now e) in
    let len_is : result.len ≡ length (payload now2) = added.len ∙ ap (λ (s : PartSize). s.len + cell_len goes known) p.part_is ∙ ap (λ (b : Bool). length (payload p.now) + cell_len b known) goes_is ∙ ap (λ (k : ℕ). length (payload p.now) + cell_len (goes_on p.now e) k) known_is ∙ sym (payload_more p.now e) in
    let moved : p.now ++ rest ≡ now2 ++ es = ap (λ (l : List Entry). p.now ++ l) is ∙ sym (append_assoc p.now (e ∷ []) es) in
    record {
      done = p.done;
      now = now2;
      before = p.before ++ e ∷ [];
      whole = p.whole ∙ ap (λ (l : List Entry). p.before ++ l) is ∙ sym (append_assoc p.before (e ∷ []) es);
      plan_is = p.plan_is;
      part_is = size_is result (size_of now2) cells_is runs_is len_is;
      fits = subst (λ (n : ℕ). n ≤ 67108864) len_is added.fits;
      onward = λ parts h. p.onward parts (subst (λ (l : List Entry). AreParts l parts) (sym moved) h);
      next = λ f fs h. next f fs h ∙ sym (goes_on_last p.now e f);
    }

with_next : (now es : List Entry) (e : Entry) (parts : List (List Entry)) → length (payload now) ≤ 67108864 → 67108864 < length (payload (now ++ e ∷ [])) → AreParts (e ∷ es) parts → AreParts (now ++ e ∷ es) (now ∷ parts)
with_next now es e [] fits full h = absurd h
with_next now es e (q ∷ qs) fits full h = (fits, (e ∷ es, refl, full, h))

alone : (all rest es : List Entry) (e : Entry) (plan new : List PartSize) (part result : PartSize) (goes goes2 : Bool) (known : ℕ) → Planned all rest plan part goes → rest ≡ e ∷ es → known ≡ min (length (known_bytes e.1)) (2 ^ 64 - 1)
    → IsNext plan new part goes known result → ((f : Entry) (fs : List Entry) → es ≡ f ∷ fs → goes2 ≡ is_behind e.0 f.0) → Planned all es new result goes2
alone all rest es e plan new part result goes goes2 known p is len added next =
    let real = length (known_bytes e.1) in
    let goes_is : goes ≡ goes_on p.now e = p.next e es is in
    let total : result.len ≡ 20 + cell_len true known = omega (arith, added.len) in
    let known_is : known ≡ real = counted known real result.len 20 true len total added.fits in
    let len_is : result.len ≡ length (payload (e ∷ [])) = omega (arith, added.len, known_is, alone_len e) in
    let full : 67108864 < length (payload p.now) + cell_len goes real = overfull known real (length (payload p.now)) goes len (subst (λ (s : PartSize). 67108864 < s.len + cell_len goes known) p.part_is added.full) in
    let full2 : 67108864 < length (payload (p.now ++ e ∷ [])) = subst (λ (n : ℕ). 67108864 < n) (ap (λ (b : Bool). length (payload p.now) + cell_len b real) goes_is ∙ sym (payload_more p.now e)) full in
    record {
      done = p.done ++ p.now ∷ [];
      now = e ∷ [];
      before = p.before ++ e ∷ [];
      whole = p.whole ∙ ap (λ (l : List Entry). p.before ++ l) is ∙ sym (append_assoc p.before (e ∷ []) es);
      plan_is = added.plan ∙ ap (λ (l : List PartSize). l ++ part ∷ []) p.plan_is ∙ ap (λ (s : PartSize). map size_of p.done ++ s ∷ []) p.part_is ∙ sym (map-append size_of p.done (p.now ∷ []));
      part_is = size_is result (size_of (e ∷ [])) added.cells added.runs len_is;
      fits = subst (λ (n : ℕ). n ≤ 67108864) len_is added.fits;
      onward = λ parts h. subst (λ (l : List (List Entry)). AreParts all l) (sym (append_assoc p.done (p.now ∷ []) parts))
          (p.onward (p.now ∷ parts) (subst (λ (l : List Entry). AreParts (p.now ++ l) (p.now ∷ parts)) (sym is) (with_next p.now es e parts p.fits full2 h)));
      next = λ f fs h. next f fs h;
    }

pub planned_more : (all rest es : List Entry) (e : Entry) (old new : List PartSize) (part result : PartSize) (goes goes2 : Bool) (known : ℕ) → Planned all rest old part goes → rest ≡ e ∷ es → known ≡ min (length (known_bytes e.1)) (2 ^ 64 - 1)
    → AddsCell old new part goes known result → ((f : Entry) (fs : List Entry) → es ≡ f ∷ fs → goes2 ≡ is_behind e.0 f.0) → Planned all es new result goes2
planned_more all rest es e old new part result goes goes2 known p is len adds next = elim adds [
  | inl a ↦ subst (λ (l : List PartSize). Planned all es l result goes2) (sym a.0) (longer all rest es e old part result goes goes2 known p is len a.1 next)
  | inr a ↦ alone all rest es e old new part result goes goes2 known p is len a next
]

-- whether more than one cell stands without a gap
more_than_one : (b : Bool) (n : ℕ) → ltb 1 (suc (cond b (suc n) 0)) ≡ b
more_than_one true n = grind (arith, nat_tests)
more_than_one false n = refl

pub goes_next : (run : ℕ) (rest : List Entry) (e : Entry) (es : List Entry) → run ≡ run_len rest → rest ≡ e ∷ es → (f : Entry) (fs : List Entry) → es ≡ f ∷ fs → ltb 1 run ≡ is_behind e.0 f.0
goes_next run rest e es len is f fs more =
    let n : run ≡ run_len (e ∷ f ∷ fs) = len ∙ ap run_len is ∙ ap (λ (l : List Entry). run_len (e ∷ l)) more in
    ap (λ (m : ℕ). ltb 1 m) n ∙ more_than_one (is_behind e.0 f.0) (run_behind f.0 fs)

-- what the size of the last part bounds
pub sizes_few : (all rest : List Entry) (plan : List PartSize) (part : PartSize) (goes : Bool) → Planned all rest plan part goes → (part.cells ≤ part.len) × (part.runs ≤ part.len) × (part.len ≤ 67108864)
sizes_few all rest plan part goes p =
    let few = few_cells p.now in
    subst (λ (s : PartSize). (s.cells ≤ s.len) × (s.runs ≤ s.len) × (s.len ≤ 67108864)) (sym p.part_is) (few.0, few.1, p.fits)

-- all cells are in parts
pub planned_all : (all rest : List Entry) (plan new : List PartSize) (part : PartSize) (goes : Bool) → Planned all rest plan part goes → rest ≡ [] → new ≡ plan ++ part ∷ [] → (parts : List (List Entry)) × AreParts all parts × (new ≡ map size_of parts)
planned_all all rest plan new part goes p none is =
    let last : AreParts (p.now ++ rest) (p.now ∷ []) = (ap (λ (l : List Entry). p.now ++ l) none ∙ append-nil p.now, p.fits) in (
      p.done ++ p.now ∷ [],
      p.onward (p.now ∷ []) last,
      is ∙ ap (λ (l : List PartSize). l ++ part ∷ []) p.plan_is ∙ ap (λ (s : PartSize). map size_of p.done ++ s ∷ []) p.part_is ∙ sym (map-append size_of p.done (p.now ∷ [])),
    )

-- a cell was not added
pub unplanned : (all rest es : List Entry) (e : Entry) (plan : List PartSize) (part : PartSize) (goes : Bool) (known : ℕ) (fault : WireFault) → Planned all rest plan part goes → rest ≡ e ∷ es → known ≡ min (length (known_bytes e.1)) (2 ^ 64 - 1) → NeedsMore known fault → IsUnplanned all fault
unplanned all rest es e plan part goes known faults.Memory p is len h = tt
unplanned all rest es e plan part goes known faults.Length p is len h = (p.before, e, es, p.whole ∙ ap (λ (l : List Entry). p.before ++ l) is, omega (arith, h, len, alone_len e))
unplanned all rest es e plan part goes known faults.Read p is len h = absurd h
unplanned all rest es e plan part goes known faults.Write p is len h = absurd h
unplanned all rest es e plan part goes known faults.Magic p is len h = absurd h
unplanned all rest es e plan part goes known faults.Version p is len h = absurd h
unplanned all rest es e plan part goes known faults.Short p is len h = absurd h
unplanned all rest es e plan part goes known faults.Order p is len h = absurd h
unplanned all rest es e plan part goes known faults.Content p is len h = absurd h
unplanned all rest es e plan part goes known faults.Rest p is len h = absurd h
