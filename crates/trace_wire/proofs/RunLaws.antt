-- The laws of runs.
use Rattle.std.proofs.Common.{◌≡◌, ℕ, zero, suc, ◌+◌, ◌^◌, ◌<◌, ◌≤◌, Bool, true, cond, List, [], ◌∷◌, ◌++◌, length, Option, Some, Ok, Err, refl, sym, ap, subst, ◌∙◌, append_assoc, arith}
use Rattle.std.specs.Int.{w32, to_be_bytes}
use Rattle.std.proofs.lemmas.Bool.Decides.{nat_tests}
use Rattle.std.proofs.lemmas.List.{length-append}
use Rattle.std.proofs.lemmas.List.Concat.{flat_map-cons}
use Rattle.trace_know.specs.declared.cell.Known.{Known}
use Rattle.trace_know.specs.declared.cell.Known.TheVariants as knowns
use Rattle.trace_know.specs.Placed.{ArePlaced, IsPlaced}
use Rattle.trace_wire.specs.declared.fault.WireFault.TheVariants.{Order, Content}
use Rattle.trace_wire.specs.Forms.{◌>>=◌, number_at, IsBytes}
use Rattle.trace_wire.specs.Fields.{made}
use Rattle.trace_wire.specs.Cells.{is_past, known_bytes, knowns_bytes, place_form}
use Rattle.trace_wire.specs.Runs.{AreKnown, PlacedRun, RunFits, placed_run, run_bytes}
use Rattle.trace_wire.specs.Parts.{◌>=>◌, is_run, knowns_at, known_at, or_fault, run, run_after, run_at, run_of_count}
use Rattle.trace_wire.proofs.FormLaws.{items_short, Takes, Takes-then, bind_some, number_again, number_takes, some_is, wide32}
use Rattle.trace_wire.proofs.CellLaws.{half_here, half_there, known_again, known_takes, place_law}
use Rattle.trace_wire.proofs.PartLaws.{IsPart}
use Rattle.trace_wire.proofs.Steps.{bind_ok, or_ok, passed}

-- ---- what stands at places one after another

knowns_take : (rank place n : ℕ) (bytes : List ℕ) (x : List Known × List ℕ) → rank < 2 ^ 32 → place + n ≤ 2 ^ 40 → IsBytes bytes → knowns_at place n bytes ≡ Some x → Takes bytes (knowns_bytes x.0) x.1 × (length x.0 ≡ n) × AreKnown rank place x.0
unfolding knowns_at
knowns_take rank place zero bytes x low high fits e =
    subst (λ (y : List Known × List ℕ). Takes bytes (knowns_bytes y.0) y.1 × (length y.0 ≡ 0) × AreKnown rank place y.0) (some_is ([], bytes) x e) (record { parts = refl; rest_fits = fits }, refl, tt)
knowns_take rank place (suc n) bytes x low high fits e =
    let a = bind_some (known_at place bytes) (λ first. knowns_at (place + 1) n first.1 >>= λ others. Some (first.0 ∷ others.0, others.1)) x e in
    let b = bind_some (knowns_at (place + 1) n a.0.1) (λ others. Some (a.0.0 ∷ others.0, others.1)) x a.2 in
    let first = known_takes place bytes a.0 fits a.1 in
    let stands = half_there place a.0.0 first.1 in
    let second = knowns_take rank (place + 1) n a.0.1 b.0 low (omega (arith, high)) first.0.rest_fits b.1 in
    let both = Takes-then bytes (known_bytes a.0.0) a.0.1 (knowns_bytes b.0.0) b.0.1 first.0 second.0 in
    let here : IsPlaced rank place a.0.0 = record { ranks = low; places = omega (arith, high); half = stands.0 } in
    let made : List Known × List ℕ = (a.0.0 ∷ b.0.0, b.0.1) in
    subst (λ (y : List Known × List ℕ). Takes bytes (knowns_bytes y.0) y.1 × (length y.0 ≡ suc n) × AreKnown rank place y.0) (some_is made x b.2) (rw flat_map-cons both, ap suc second.1, ((here, stands.1), second.2))

knowns_again : (rank place : ℕ) (ks : List Known) (rest : List ℕ) → AreKnown rank place ks → length (knowns_bytes ks) < 2 ^ 32 → knowns_at place (length ks) (knowns_bytes ks ++ rest) ≡ Some (ks, rest)
unfolding knowns_at
knowns_again rank place [] rest fits short = refl
knowns_again rank place (k ∷ ks) rest fits short =
    let parts : knowns_bytes (k ∷ ks) ≡ known_bytes k ++ knowns_bytes ks = flat_map-cons known_bytes k ks in
    let len : length (knowns_bytes (k ∷ ks)) ≡ length (known_bytes k) + length (knowns_bytes ks) = ap length parts ∙ length-append (known_bytes k) (knowns_bytes ks) in
    let here : length (known_bytes k) < 2 ^ 32 = omega (arith, len, short) in
    let there : length (knowns_bytes ks) < 2 ^ 32 = omega (arith, len, short) in
    let regrouped : knowns_bytes (k ∷ ks) ++ rest ≡ known_bytes k ++ (knowns_bytes ks ++ rest) = ap (λ (t : List ℕ). t ++ rest) parts ∙ append_assoc (known_bytes k) (knowns_bytes ks) rest in
    ap (knowns_at place (suc (length ks))) regrouped ∙ rw (known_again place k (knowns_bytes ks ++ rest) (half_here place k fits.0.0.half fits.0.1) here, knowns_again rank (place + 1) ks rest fits.1 there) refl

some_bytes : (k : Known) → 0 < length (known_bytes k)
some_bytes k = some k
  where
    some : (k : Known) → 0 < length (known_bytes k)
    some (knowns.One event) = omega arith
    some knowns.Contradiction = omega arith

pub knowns_short : (ks : List Known) → length ks ≤ length (knowns_bytes ks)
knowns_short ks = items_short known_bytes some_bytes ks

-- ---- runs

run_bounds : (first count : ℕ) → is_run first count ≡ true → (0 < count) × (first + count ≤ 2 ^ 40)
run_bounds first count h = (grind (arith, nat_tests, h), grind (arith, nat_tests, h))

bounds_run : (first count : ℕ) → 0 < count → first + count ≤ 2 ^ 40 → is_run first count ≡ true
bounds_run first count some places = grind (arith, nat_tests)

pub run_takes : (before : Option (ℕ × ℕ)) (bytes : List ℕ) (x : PlacedRun × List ℕ) → IsBytes bytes → run_at before bytes ≡ Ok x → Takes bytes (run_bytes x.0) x.1 × RunFits before x.0
run_takes before bytes x fits e =
    let p = bind_ok (or_fault Content (place_form.read bytes)) (run_after before) x e in
    let here = p.0.0 in
    let s = place_law.takes bytes p.0 fits (or_ok Content (place_form.read bytes) p.0 p.1) in
    let g = passed (is_past before here) Order (or_fault Content (number_at w32 p.0.1) >=> run_of_count here) x p.2 in
    let q = bind_ok (or_fault Content (number_at w32 p.0.1)) (run_of_count here) x g.1 in
    let t = number_takes w32 (2 ^ 32) wide32 p.0.1 q.0 s.0.rest_fits (or_ok Content (number_at w32 p.0.1) q.0 q.1) in
    let h = passed (is_run here.1 q.0.0) Content (or_fault Content (made (placed_run here) (knowns_at here.1 q.0.0 q.0.1))) x q.2 in
    let m = or_ok Content (made (placed_run here) (knowns_at here.1 q.0.0 q.0.1)) x h.1 in
    let k = bind_some (knowns_at here.1 q.0.0 q.0.1) (λ y. Some (placed_run here y.0, y.1)) x m in
    let n = run_bounds here.1 q.0.0 h.0 in
    let u = knowns_take here.0 here.1 q.0.0 q.0.1 k.0 s.1.0 n.1 t.0.rest_fits k.1 in
    let inner : Takes p.0.1 (to_be_bytes w32 (length k.0.0) ++ knowns_bytes k.0.0) k.0.1 = subst (λ (c : ℕ). Takes p.0.1 (to_be_bytes w32 c ++ knowns_bytes k.0.0) k.0.1) (sym u.1) (Takes-then p.0.1 (to_be_bytes w32 q.0.0) q.0.1 (knowns_bytes k.0.0) k.0.1 t.0 u.0) in
    let whole = Takes-then bytes (place_form.spell here) p.0.1 (to_be_bytes w32 (length k.0.0) ++ knowns_bytes k.0.0) k.0.1 s.0 inner in
    let stands : RunFits before (placed_run here k.0.0) = record { past = g.0; rank = s.1.0; some = omega (arith, u.1, n.0); places = omega (arith, u.1, n.1); cells = u.2 } in
    subst (λ (y : PlacedRun × List ℕ). Takes bytes (run_bytes y.0) y.1 × RunFits before y.0) (some_is (placed_run here k.0.0, k.0.1) x k.2) (whole, stands)

run_again : (before : Option (ℕ × ℕ)) (r : PlacedRun) (rest : List ℕ) → RunFits before r → length (run_bytes r) < 2 ^ 32 → run_at before (run_bytes r ++ rest) ≡ Ok (r, rest)
run_again before r rest fits short =
    let head = place_form.spell (r.rank, r.first) in
    let count = to_be_bytes w32 (length r.cells) in
    let body = knowns_bytes r.cells in
    let len = length-append head (count ++ body) in
    let len2 = length-append count body in
    let here : length head < 2 ^ 32 = omega (arith, len, short) in
    let there : length body < 2 ^ 32 = omega (arith, len, len2, short) in
    let few : length r.cells < 2 ^ 32 = omega (arith, knowns_short r.cells, there) in
    let one = place_law.again (r.rank, r.first) ((count ++ body) ++ rest) (fits.rank, omega (arith, fits.places)) here in
    let two : number_at w32 ((count ++ body) ++ rest) ≡ Some (length r.cells, body ++ rest) = ap (number_at w32) (append_assoc count body rest) ∙ number_again w32 (2 ^ 32) wide32 (length r.cells) (body ++ rest) few in
    let three = knowns_again r.rank r.first r.cells rest fits.cells there in
    ap (run_at before) (append_assoc head (count ++ body) rest)
    ∙ ap (λ (x : Option ((ℕ × ℕ) × List ℕ)). or_fault Content x >=> run_after before) one
    ∙ ap (λ (b : Bool). cond b (or_fault Content (number_at w32 ((count ++ body) ++ rest)) >=> run_of_count (r.rank, r.first)) (Err Order)) fits.past
    ∙ ap (λ (x : Option (ℕ × List ℕ)). or_fault Content x >=> run_of_count (r.rank, r.first)) two
    ∙ ap (λ (b : Bool). cond b (or_fault Content (made (placed_run (r.rank, r.first)) (knowns_at r.first (length r.cells) (body ++ rest)))) (Err Content)) (bounds_run r.first (length r.cells) fits.some fits.places)
    ∙ ap (λ (x : Option (List Known × List ℕ)). or_fault Content (made (placed_run (r.rank, r.first)) x)) three

pub run_part : IsPart run RunFits
run_part = record {
  takes = run_takes;
  again = run_again;
  some = λ r. omega (arith, length-append (place_form.spell (r.rank, r.first)) (to_be_bytes w32 (length r.cells) ++ knowns_bytes r.cells));
}

-- what stands there can stand there
pub placed_there : (rank place : ℕ) (ks : List Known) → AreKnown rank place ks → ArePlaced rank place ks
placed_there rank place [] h = tt
placed_there rank place (k ∷ ks) h = (h.0.0, placed_there rank (place + 1) ks h.1)
