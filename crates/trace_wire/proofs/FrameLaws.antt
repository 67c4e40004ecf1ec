-- The laws of payloads and frames.
use Rattle.std.proofs.Common.{◌≡◌, ℕ, suc, ◌-◌, ◌^◌, ◌<◌, ◌≤◌, Bool, true, false, cond, eqb, ltb, List, [], ◌∷◌, ◌++◌, length, get_or, take, drop, Option, Some, None, Result, Ok, Err, refl, sym, ap, subst, ◌∙◌, append_assoc, arith}
use Rattle.std.specs.Prelude.{◌&&◌, min}
use Rattle.std.specs.Int.{w32, to_be_bytes}
use Rattle.std.proofs.lemmas.Bool.{ltb-false, le-ltb, eqb-true}
use Rattle.std.proofs.lemmas.List.{append-nil, nil_from_length, length-append, length-take, take_at, drop_at, take-append-drop}
use Rattle.trace_wire.specs.declared.fault.WireFault.{WireFault}
use Rattle.trace_wire.specs.declared.fault.WireFault.TheVariants as faults
use Rattle.trace_wire.specs.declared.version.Version.{Version}
use Rattle.trace_wire.specs.declared.version.Version.TheVariants.{One, Two}
use Rattle.trace_wire.specs.Forms.{number_at, IsBytes}
use Rattle.trace_wire.specs.Cells.{AreCells, Entry, cell_bytes}
use Rattle.trace_wire.specs.Runs.{AreRuns, PlacedRun, RunFits, behind, cells_in, run_bytes, runs_bytes, runs_of}
use Rattle.trace_wire.specs.Frames.{HasFrame, HasFrameAs, frame_as, longest_of, parts_bytes, parts_in, payload_as, version_number}
use Rattle.trace_wire.specs.Parts.{◌>=>◌, cell, or_fault, parts_at, run}
use Rattle.trace_wire.specs.FirstFault.{body_of, frame_at, framed, is_magic, limited, no_rest, parts_of, payload_of, version_of}
use Rattle.trace_wire.proofs.CellLaws.{CellStands, cell_part}
use Rattle.trace_wire.proofs.FormLaws.{items_short, IsBytes-take, Takes, Takes-then, wide32, number_takes, number_again}
use Rattle.trace_wire.proofs.Lengths.{payload_len, runs_few}
use Rattle.trace_wire.proofs.PartLaws.{AllFit, parts_again, parts_take}
use Rattle.trace_wire.proofs.RunCells.{cells_fit, cells_of_runs, runs_fit, runs_of_cells}
use Rattle.trace_wire.proofs.RunLaws.{run_part}
use Rattle.trace_wire.proofs.Steps.{bind_ok, both_true, missed, ok_is, or_ok, passed}

-- ---- parts

fit_cells : (before : Option (ℕ × ℕ)) (es : List Entry) → AllFit cell CellStands before es → AreCells before es
fit_cells before [] h = tt
fit_cells before (e ∷ es) h = (h.0.0, h.0.1, fit_cells (Some e.0) es h.1)

cells_stand : (before : Option (ℕ × ℕ)) (es : List Entry) → AreCells before es → AllFit cell CellStands before es
cells_stand before [] h = tt
cells_stand before (e ∷ es) h = ((h.0, h.1), cells_stand (Some e.0) es h.2)

fit_runs : (before : Option (ℕ × ℕ)) (rs : List PlacedRun) → AllFit run RunFits before rs → AreRuns before rs
fit_runs before [] h = tt
fit_runs before (r ∷ rs) h = (h.0, fit_runs (Some (behind r)) rs h.1)

runs_stand : (before : Option (ℕ × ℕ)) (rs : List PlacedRun) → AreRuns before rs → AllFit run RunFits before rs
runs_stand before [] h = tt
runs_stand before (r ∷ rs) h = (h.0, runs_stand (Some (behind r)) rs h.1)

-- what was read as so many parts
abbrev AsParts : Version → ℕ → List ℕ → List Entry × List ℕ → Type 0
AsParts version n bytes x = Takes bytes (parts_bytes version x.0) x.1 × (parts_in version x.0 ≡ n) × AreCells None x.0

parts_of_takes : (version : Version) (n : ℕ) (bytes : List ℕ) (x : List Entry × List ℕ) → IsBytes bytes → parts_of version n bytes ≡ Ok x → AsParts version n bytes x
parts_of_takes One n bytes x fits e = let t = parts_take cell CellStands cell_part n None bytes x fits e in (t.0, t.1, fit_cells None x.0 t.2)
parts_of_takes Two n bytes x fits e =
    let a = bind_ok (parts_at run n None bytes) (λ y. Ok (cells_in y.0, y.1)) x e in
    let t = parts_take run RunFits run_part n None bytes a.0 fits a.1 in
    let order = fit_runs None a.0.0 t.2 in
    let same : runs_of (cells_in a.0.0) ≡ a.0.0 = runs_of_cells None a.0.0 order in
    let text : Takes bytes (runs_bytes (runs_of (cells_in a.0.0))) a.0.1 = subst (λ (rs : List PlacedRun). Takes bytes (runs_bytes rs) a.0.1) (sym same) t.0 in
    let count : length (runs_of (cells_in a.0.0)) ≡ n = ap (λ (rs : List PlacedRun). length rs) same ∙ t.1 in
    subst (λ (y : List Entry × List ℕ). AsParts Two n bytes y) (ok_is (cells_in a.0.0, a.0.1) x a.2) (text, count, cells_fit None None a.0.0 (λ at past. past) order)

parts_of_again : (version : Version) (es : List Entry) (rest : List ℕ) → AreCells None es → length (parts_bytes version es) < 2 ^ 32 → parts_of version (parts_in version es) (parts_bytes version es ++ rest) ≡ Ok (es, rest)
parts_of_again One es rest fits short = parts_again cell CellStands cell_part None es rest (cells_stand None es fits) short
parts_of_again Two es rest fits short =
    ap (λ r. r >=> λ x. Ok (cells_in x.0, x.1)) (parts_again run RunFits run_part None (runs_of es) rest (runs_stand None (runs_of es) (runs_fit es fits)) short)
    ∙ ap (λ (fs : List Entry). Ok (fs, rest)) (cells_of_runs es)

-- each part takes bytes
pub parts_short : (version : Version) (es : List Entry) → parts_in version es ≤ length (parts_bytes version es)
parts_short One es = items_short cell_bytes cell_part.some es
parts_short Two es = items_short run_bytes run_part.some (runs_of es)

-- ---- payloads

pub payload_takes : (version : Version) (bytes : List ℕ) (es : List Entry) → IsBytes bytes → payload_of version bytes ≡ Ok es → (bytes ≡ payload_as version es) × AreCells None es
unfolding payload_of
payload_takes version bytes es fits e =
    let a = bind_ok (or_fault faults.Content (number_at w32 bytes) >=> λ n. parts_of version n.0 n.1) no_rest es e in
    let b = bind_ok (or_fault faults.Content (number_at w32 bytes)) (λ n. parts_of version n.0 n.1) a.0 a.1 in
    let g = passed (eqb (length a.0.1) 0) faults.Rest (Ok a.0.0) es a.2 in
    let first = number_takes w32 (2 ^ 32) wide32 bytes b.0 fits (or_ok faults.Content (number_at w32 bytes) b.0 b.1) in
    let second = parts_of_takes version b.0.0 b.0.1 a.0 first.0.rest_fits b.2 in
    let nothing : a.0.1 ≡ [] = nil_from_length a.0.1 (eqb-true _ _ g.0) in
    let parts = parts_bytes version a.0.0 in
    let both = (Takes-then bytes (to_be_bytes w32 b.0.0) b.0.1 parts a.0.1 first.0 second.0).parts in
    let whole : bytes ≡ payload_as version a.0.0 = both ∙ ap (λ (r : List ℕ). (to_be_bytes w32 b.0.0 ++ parts) ++ r) nothing ∙ append-nil (to_be_bytes w32 b.0.0 ++ parts) ∙ ap (λ (k : ℕ). to_be_bytes w32 k ++ parts) (sym second.1) in
    subst (λ (v : List Entry). (bytes ≡ payload_as version v) × AreCells None v) (ok_is a.0.0 es g.1) (whole, second.2)

payload_again : (version : Version) (es : List Entry) → AreCells None es → length (payload_as version es) < 2 ^ 32 → payload_of version (payload_as version es) ≡ Ok es
unfolding payload_of
payload_again version es fits short =
    let parts = parts_bytes version es in
    let len = length-append (to_be_bytes w32 (parts_in version es)) parts in
    let there : length parts < 2 ^ 32 = omega (arith, len, short) in
    let count : parts_in version es < 2 ^ 32 = omega (arith, parts_short version es, there) in
    let one = number_again w32 (2 ^ 32) wide32 (parts_in version es) parts count in
    let two : parts_of version (parts_in version es) parts ≡ Ok (es, []) = ap (parts_of version (parts_in version es)) (sym (append-nil parts)) ∙ parts_of_again version es [] fits there in
    ap (λ (r : Option (ℕ × List ℕ)). (or_fault faults.Content r >=> λ n. parts_of version n.0 n.1) >=> no_rest) one ∙ ap (λ (r : Result (List Entry × List ℕ) WireFault). r >=> no_rest) two

-- ---- frames

body_takes : (version : Version) (bytes : List ℕ) (n : ℕ) (x : List Entry × List ℕ) → IsBytes bytes → body_of version (n, bytes) ≡ Ok x → (bytes ≡ payload_as version x.0 ++ x.1) × (length (payload_as version x.0) ≡ n) × AreCells None x.0
body_takes version bytes n x fits e =
    let g = missed (ltb (length bytes) n) faults.Short (payload_of version (take n bytes) >=> λ es. Ok (es, drop n bytes)) x e in
    let long : n ≤ length bytes = ltb-false _ _ g.0 in
    let p = bind_ok (payload_of version (take n bytes)) (λ es. Ok (es, drop n bytes)) x g.1 in
    let t = payload_takes version (take n bytes) p.0 (IsBytes-take n bytes fits) p.1 in
    let parts : bytes ≡ payload_as version p.0 ++ drop n bytes = sym (take-append-drop n bytes) ∙ ap (λ (r : List ℕ). r ++ drop n bytes) t.0 in
    let len : length (payload_as version p.0) ≡ n = ap length (sym t.0) ∙ length-take n bytes ∙ omega arith in
    subst (λ (y : List Entry × List ℕ). (bytes ≡ payload_as version y.0 ++ y.1) × (length (payload_as version y.0) ≡ n) × AreCells None y.0) (ok_is (p.0, drop n bytes) x p.2) (parts, len, t.1)

-- the bytes that a test says they are
pub magic_is : (a b c d : ℕ) → is_magic a b c d ≡ true → (a ≡ 77) × (b ≡ 80) × (c ≡ 84) × (d ≡ 88)
magic_is a b c d h =
    let p = both_true ((eqb a 77) && (eqb b 80)) ((eqb c 84) && (eqb d 88)) h in
    let q = both_true (eqb a 77) (eqb b 80) p.0 in
    let r = both_true (eqb c 84) (eqb d 88) p.1 in
    (eqb-true a 77 q.0, eqb-true b 80 q.1, eqb-true c 84 r.0, eqb-true d 88 r.1)

version_by : (x y z : Bool) (version : Version) → cond x (cond y (Some One) (cond z (Some Two) None)) None ≡ Some version → (x ≡ true) × (cond y (version ≡ One) ((z ≡ true) × (version ≡ Two)))
version_by true true z One e = (refl, refl)
version_by true true z Two e = absurd cc
version_by true false true One e = absurd cc
version_by true false true Two e = (refl, (refl, refl))
version_by true false false version e = absurd cc
version_by false y z version e = absurd cc

number_by : (b : ℕ) (y : Bool) (version : Version) → eqb b 1 ≡ y → cond y (version ≡ One) ((eqb b 2 ≡ true) × (version ≡ Two)) → b ≡ version_number version
number_by b true version h is = eqb-true b 1 h ∙ ap version_number (sym is)
number_by b false version h is = eqb-true b 2 is.0 ∙ ap version_number (sym is.1)

pub version_is : (a b : ℕ) (version : Version) → version_of a b ≡ Some version → (a ≡ 0) × (b ≡ version_number version)
version_is a b version h = let p = version_by (eqb a 0) (eqb b 1) (eqb b 2) version h in (eqb-true a 0 p.0, number_by b (eqb b 1) version refl p.1)

pub version_again : (version : Version) → version_of 0 (version_number version) ≡ Some version
version_again One = refl
version_again Two = refl

-- the first six bytes are those of a head
pub head_text : {a b c d e f : ℕ} {bytes rest : List ℕ} (version : Version) → a ≡ 77 → b ≡ 80 → c ≡ 84 → d ≡ 88 → e ≡ 0 → f ≡ version_number version → bytes ≡ rest
    → (a ∷ b ∷ c ∷ d ∷ e ∷ f ∷ bytes) ≡ (77 ∷ 80 ∷ 84 ∷ 88 ∷ 0 ∷ version_number version ∷ rest)
head_text version a b c d e f same = λ i. a i ∷ b i ∷ c i ∷ d i ∷ e i ∷ f i ∷ same i

-- a frame that was read, of some version
abbrev IsFramed : List ℕ → List Entry × List ℕ → Type 0
IsFramed bytes x = (version : Version) × (bytes ≡ frame_as version x.0 ++ x.1) × HasFrameAs version x.0

pub frame_takes : (bytes : List ℕ) (x : List Entry × List ℕ) → IsBytes bytes → frame_at bytes ≡ Ok x → IsFramed bytes x
unfolding frame_at
frame_takes [] x fits e = absurd cc
frame_takes (a ∷ []) x fits e = absurd cc
frame_takes (a ∷ b ∷ []) x fits e = absurd cc
frame_takes (a ∷ b ∷ c ∷ []) x fits e = absurd cc
frame_takes (a ∷ b ∷ c ∷ d ∷ []) x fits e = absurd cc
frame_takes (a ∷ b ∷ c ∷ d ∷ f ∷ []) x fits e = absurd cc
frame_takes (a ∷ b ∷ c ∷ d ∷ f ∷ g ∷ bytes) x fits e =
    let rest_fits : IsBytes bytes = λ i. fits (suc (suc (suc (suc (suc (suc i)))))) in
    let n = bind_ok (or_fault faults.Short (number_at w32 bytes)) (framed (is_magic a b c d) (version_of f g)) x e in
    let t = number_takes w32 (2 ^ 32) wide32 bytes n.0 rest_fits (or_ok faults.Short (number_at w32 bytes) n.0 n.1) in
    let m = passed (is_magic a b c d) faults.Magic (or_fault faults.Version (version_of f g) >=> limited n.0) x n.2 in
    let v = bind_ok (or_fault faults.Version (version_of f g)) (limited n.0) x m.1 in
    let version = v.0 in
    let l = missed (ltb (longest_of version) n.0.0) faults.Length (body_of version n.0) x v.2 in
    let y = body_takes version n.0.1 n.0.0 x t.0.rest_fits l.1 in
    let mm = magic_is a b c d m.0 in
    let vv = version_is f g version (or_ok faults.Version (version_of f g) version v.1) in
    let body = payload_as version x.0 in
    let inner : bytes ≡ to_be_bytes w32 (length body) ++ (body ++ x.1) = t.0.parts ∙ ap (λ (r : List ℕ). to_be_bytes w32 n.0.0 ++ r) y.0 ∙ ap (λ (k : ℕ). to_be_bytes w32 k ++ (body ++ x.1)) (sym y.1) in
    let limit : n.0.0 ≤ longest_of version = ltb-false (longest_of version) n.0.0 l.0 in
    let whole : (a ∷ b ∷ c ∷ d ∷ f ∷ g ∷ bytes) ≡ frame_as version x.0 ++ x.1 =
    head_text version mm.0 mm.1 mm.2 mm.3 vv.0 vv.1 (inner ∙ sym (append_assoc (to_be_bytes w32 (length body)) body x.1)) in
    (version, whole, (y.2, subst (λ (k : ℕ). k ≤ longest_of version) (sym y.1) limit))

within_32 : (version : Version) (n : ℕ) → n ≤ longest_of version → n < 2 ^ 32
within_32 One n le = omega (arith, le)
within_32 Two n le = omega (arith, le)

pub frame_again : (version : Version) (es : List Entry) (rest : List ℕ) → HasFrameAs version es → frame_at (frame_as version es ++ rest) ≡ Ok (es, rest)
unfolding frame_at
frame_again version es rest fits =
    let body = payload_as version es in
    let small : length body < 2 ^ 32 = within_32 version (length body) fits.1 in
    let one = number_again w32 (2 ^ 32) wide32 (length body) (body ++ rest) small in
    let limit : ltb (longest_of version) (length body) ≡ false = le-ltb (longest_of version) (length body) fits.1 in
    let long : ltb (length (body ++ rest)) (length body) ≡ false = le-ltb _ _ (omega (arith, length-append body rest)) in
    let whole : body_of version (length body, body ++ rest) ≡ Ok (es, rest) = rw (long, take_at body rest (length body) refl, drop_at body rest (length body) refl, payload_again version es fits.0 small) refl in
    ap (λ (r : List ℕ). frame_at (77 ∷ 80 ∷ 84 ∷ 88 ∷ 0 ∷ version_number version ∷ r)) (append_assoc (to_be_bytes w32 (length body)) body rest)
    ∙ ap (λ (r : Option (ℕ × List ℕ)). or_fault faults.Short r >=> framed true (version_of 0 (version_number version))) one
    ∙ ap (λ (v : Option Version). or_fault faults.Version v >=> limited (length body, body ++ rest)) (version_again version)
    ∙ rw limit whole

-- the sixth byte tells the version
version_told : (one other : Version) (es fs : List Entry) (more : List ℕ) → frame_as other fs ≡ frame_as one es ++ more → other ≡ one
version_told One One es fs more e = refl
version_told Two Two es fs more e = refl
version_told One Two es fs more e = let told : 2 ≡ 1 = ap (λ (bytes : List ℕ). get_or bytes 5 0) e in absurd (omega (arith, told))
version_told Two One es fs more e = let told : 1 ≡ 2 = ap (λ (bytes : List ℕ). get_or bytes 5 0) e in absurd (omega (arith, told))

-- no frame begins another, and one frame is of one list of cells
pub one_frame : (one other : Version) (es fs : List Entry) (more : List ℕ) → HasFrameAs one es → HasFrameAs other fs → frame_as other fs ≡ frame_as one es ++ more → (other ≡ one) × (fs ≡ es) × (more ≡ [])
one_frame one other es fs more he hf e =
    let a : frame_at (frame_as other fs ++ []) ≡ Ok (fs, []) = frame_again other fs [] hf in
    let b : frame_at (frame_as one es ++ more) ≡ Ok (es, more) = frame_again one es more he in
    let c : frame_at (frame_as other fs ++ []) ≡ frame_at (frame_as one es ++ more) = ap frame_at (append-nil (frame_as other fs) ∙ e) in
    let d : (fs, []) ≡ (es, more) = ok_is (fs, []) (es, more) (sym a ∙ c ∙ b) in
    (version_told one other es fs more e, ap (λ (p : List Entry × List ℕ). p.0) d, sym (ap (λ (p : List Entry × List ℕ). p.1) d))

ok_err : {A : Type 0} (x : A) (fault : WireFault) (r : Result A WireFault) → r ≡ Ok x → r ≡ Err fault → ⊥
ok_err x fault (Ok y) a b = absurd cc
ok_err x fault (Err f) a b = absurd cc

-- where a frame stands in front, nothing is refused
pub no_refusal : (version : Version) (bytes rest : List ℕ) (es : List Entry) (fault : WireFault) → HasFrameAs version es → bytes ≡ frame_as version es ++ rest → frame_at bytes ≡ Err fault → ⊥
no_refusal version bytes rest es fault has parts e = ok_err (es, rest) fault (frame_at bytes) (ap frame_at parts ∙ frame_again version es rest has) e

-- a payload of version 2 has no more than twice the bytes of one of version 1
pub second_fits : (version : Version) (es : List Entry) → HasFrameAs version es → HasFrame es
second_fits One es h = (h.0, omega (arith, h.1, payload_len One es, payload_len Two es, runs_few es))
second_fits Two es h = h

-- ---- what is written fits

pub within : (version : Version) (len all longest : ℕ) → longest ≡ longest_of version → len ≡ min all (2 ^ 64 - 1) → len ≤ longest → all ≤ longest_of version
within One len all longest is e le = omega (arith, is, e, le)
within Two len all longest is e le = omega (arith, is, e, le)

pub parts_sized : (version : Version) (es : List Entry) (parts : ℕ) → parts ≡ min (parts_in version es) (2 ^ 64 - 1) → length (payload_as version es) ≤ longest_of version → (parts_in version es ≡ parts) × (parts < 2 ^ 32)
parts_sized version es parts is le =
    let short = within_32 version (length (payload_as version es)) le in
    let len = length-append (to_be_bytes w32 (parts_in version es)) (parts_bytes version es) in
    let few = parts_short version es in
    (omega (arith, is, short, len, few), omega (arith, is, short, len, few))
