-- Runs, read through a window: a run after its parts, and the loops over what stands at places and over runs.
use Rattle.std.proofs.Common.{◌≡◌, ℕ, ◌+◌, ◌-◌, ◌≤◌, ◌<◌, true, false, List, [], ◌∷◌, ◌++◌, Option, Some, None, Result, Ok, sym, ap, subst, ◌∙◌, arith}
use Rattle.std.specs.Int.{w32}
use Rattle.trace_know.specs.declared.cell.Known.{Known}
use Rattle.trace_wire.specs.declared.fault.WireFault.{WireFault}
use Rattle.trace_wire.specs.declared.fault.WireFault.TheVariants.{Memory, Order, Content}
use Rattle.trace_wire.specs.declared.read.field.FieldFault.TheVariants as fields
use Rattle.trace_wire.specs.declared.read.unread.Unread.{Unread}
use Rattle.trace_wire.specs.declared.read.unread.Unread.TheVariants.{Payload}
use Rattle.trace_wire.specs.declared.version.Version.TheVariants.{Two}
use Rattle.trace_wire.specs.Forms.{number_at}
use Rattle.trace_wire.specs.Cells.{Entry, is_past, place_form}
use Rattle.trace_wire.specs.FirstFault.{parts_of}
use Rattle.trace_wire.specs.Held.{Held}
use Rattle.trace_wire.specs.Parts.{is_run, known_at, knowns_at, or_fault, run, run_at}
use Rattle.trace_wire.specs.Runs.{PlacedRun, behind, placed_run, run_cells}
use Rattle.trace_wire.specs.Windows.{Comes, Gave, IsLeft, Stops}
use Rattle.trace_wire.proofs.Fronts.{carry_none, run_made, run_no_cells, run_no_count, run_no_place, run_no_run, run_order, with_none}
use Rattle.trace_wire.proofs.ItemLoop.{with_front}
use Rattle.trace_wire.proofs.KnownLoop as knowns
use Rattle.trace_wire.proofs.PartLoop.{cells_after, cells_at, goes_on, is_done, starts, stops}
use Rattle.trace_wire.proofs.Steps.{or_ok}
use Rattle.trace_wire.proofs.Windows.{comes_map, comes_same, comes_then, stops_first, stops_here, stops_then}

-- ---- memory

-- It ran out, whatever was read.
pub no_memory : {A : Type 0} (a b : Option (List ℕ)) (before now : ℕ) (s t : Held) (P : List ℕ → List ℕ → Type 0) (read : List ℕ → Result A WireFault) → Comes a b s t P → now ≡ before → Stops a b before now s t read (Payload Memory)
no_memory a b before now s t P read p e = stops_here a b before now s t P read Memory p e tt (λ x y m. tt)

-- ---- what stands at so many places

-- What was read so far, and what is left, are all of it.
abbrev pub KnownsLeft : ℕ → ℕ → List Known → ℕ → List ℕ → List ℕ → Type 0
KnownsLeft first count front i whole rest = with_front front (knowns_at (first + i) (count - i) rest) ≡ knowns_at first count whole

knowns_begin : (first count : ℕ) (front : List Known) (x y : List ℕ) → front ≡ [] → x ≡ y → KnownsLeft first count front 0 x y
knowns_begin first count front x y none e =
    let at : first + 0 ≡ first = omega arith in
    let all : count - 0 ≡ count = omega arith in
    ap (λ (f : List Known). with_front f (knowns_at (first + 0) (count - 0) y)) none ∙ with_none (knowns_at (first + 0) (count - 0) y)
    ∙ ap (λ (n : ℕ). knowns_at n (count - 0) y) at ∙ ap (λ (n : ℕ). knowns_at first n y) all ∙ ap (knowns_at first count) (sym e)

pub knowns_start : (a : Option (List ℕ)) (s : Held) (first count : ℕ) (front : List Known) → front ≡ [] → Comes a a s s (KnownsLeft first count front 0)
knowns_start a s first count front none = comes_map a a s s IsLeft (KnownsLeft first count front 0) (comes_same a s) (λ x y e. knowns_begin first count front x y none e)

pub knowns_next : (a b c : Option (List ℕ)) (s t u : Held) (first count i : ℕ) (front : List Known) (k : Known) → i < count → Comes a b s t (KnownsLeft first count front i) → Comes b c t u (Gave (λ w. or_fault Content (known_at (first + i) w)) k)
    → Comes a c s u (KnownsLeft first count (front ++ k ∷ []) (i + 1))
knowns_next a b c s t u first count i front k lt p q =
    comes_then a b c s t u (KnownsLeft first count front i) (Gave (λ w. or_fault Content (known_at (first + i) w)) k) (KnownsLeft first count (front ++ k ∷ []) (i + 1)) p q
    (λ x y z m n. knowns.goes_on front first count i y k z (knowns_at first count x) lt (or_ok Content (known_at (first + i) y) (k, z) n) m)

pub knowns_stop : (a b c : Option (List ℕ)) (before between now : ℕ) (s t u : Held) (first count i : ℕ) (front : List Known) (stop : Unread) → i < count → Comes a b s t (KnownsLeft first count front i) → between ≡ before
    → Stops b c between now t u (λ w. or_fault Content (known_at (first + i) w)) stop → Stops a c before now s u (λ w. or_fault Content (knowns_at first count w)) stop
knowns_stop a b c before between now s t u first count i front stop lt p e h =
    stops_then a b c before between now s t u (KnownsLeft first count front i) (λ w. or_fault Content (knowns_at first count w)) (λ w. or_fault Content (known_at (first + i) w)) stop p e h
    (λ g x y m n. carry_none g (known_at (first + i) y) (knowns_at first count x) (λ none. knowns.ends fields.Content front first count i y (knowns_at first count x) lt none m) n)

pub knowns_done : (a b : Option (List ℕ)) (s t : Held) (first count i : ℕ) (front : List Known) → count ≤ i → Comes a b s t (KnownsLeft first count front i) → Comes a b s t (Gave (λ w. or_fault Content (knowns_at first count w)) front)
knowns_done a b s t first count i front le p =
    comes_map a b s t (KnownsLeft first count front i) (Gave (λ w. or_fault Content (knowns_at first count w)) front) p
    (λ x y m. ap (or_fault Content) (knowns.is_done front first count i y (knowns_at first count x) le m))

-- ---- a run

-- the place of a run, and its count behind it
abbrev HeadRead : ℕ × ℕ → ℕ → List ℕ → List ℕ → Type 0
HeadRead here count x z = (y : List ℕ) × (or_fault Content (place_form.read x) ≡ Ok (here, y)) × (or_fault Content (number_at w32 y) ≡ Ok (count, z))

head_read : (a b c : Option (List ℕ)) (s t u : Held) (here : ℕ × ℕ) (count : ℕ) → Comes a b s t (Gave (λ w. or_fault Content (place_form.read w)) here) → Comes b c t u (Gave (λ w. or_fault Content (number_at w32 w)) count) → Comes a c s u (HeadRead here count)
head_read a b c s t u here count p q = comes_then a b c s t u (Gave (λ w. or_fault Content (place_form.read w)) here) (Gave (λ w. or_fault Content (number_at w32 w)) count) (HeadRead here count) p q (λ x y z m n. (y, m, n))

pub run_read : (a b c d : Option (List ℕ)) (s t u v : Held) (before : Option (ℕ × ℕ)) (here : ℕ × ℕ) (count : ℕ) (ks : List Known) → Comes a b s t (Gave (λ w. or_fault Content (place_form.read w)) here) → is_past before here ≡ true → Comes b c t u (Gave (λ w. or_fault Content (number_at w32 w)) count)
    → is_run here.1 count ≡ true → Comes c d u v (Gave (λ w. or_fault Content (knowns_at here.1 count w)) ks) → Comes a d s v (Gave (run_at before) (placed_run here ks))
run_read a b c d s t u v before here count ks p past q can r =
    comes_then a c d s u v (HeadRead here count) (Gave (λ w. or_fault Content (knowns_at here.1 count w)) ks) (Gave (run_at before) (placed_run here ks)) (head_read a b c s t u here count p q) r
    (λ x z w m n. run_made before x m.0 z w here count ks m.1 past m.2 can n)

pub no_place : (a b : Option (List ℕ)) (was now : ℕ) (s t : Held) (before : Option (ℕ × ℕ)) (stop : Unread) → Stops a b was now s t (λ w. or_fault Content (place_form.read w)) stop → Stops a b was now s t (run_at before) stop
no_place a b was now s t before stop h = stops_first a b was now s t (run_at before) (λ w. or_fault Content (place_form.read w)) stop h (λ g x e. run_no_place before x g e)

pub no_order : (a b : Option (List ℕ)) (was now : ℕ) (s t : Held) (before : Option (ℕ × ℕ)) (here : ℕ × ℕ) → Comes a b s t (Gave (λ w. or_fault Content (place_form.read w)) here) → now ≡ was → is_past before here ≡ false → Stops a b was now s t (run_at before) (Payload Order)
no_order a b was now s t before here p e past = stops_here a b was now s t (Gave (λ w. or_fault Content (place_form.read w)) here) (run_at before) Order p e tt (λ x y m. run_order before x y here m past)

pub no_count : (a b c : Option (List ℕ)) (was between now : ℕ) (s t u : Held) (before : Option (ℕ × ℕ)) (here : ℕ × ℕ) (stop : Unread) → Comes a b s t (Gave (λ w. or_fault Content (place_form.read w)) here) → between ≡ was → is_past before here ≡ true
    → Stops b c between now t u (λ w. or_fault Content (number_at w32 w)) stop → Stops a c was now s u (run_at before) stop
no_count a b c was between now s t u before here stop p e past h =
    stops_then a b c was between now s t u (Gave (λ w. or_fault Content (place_form.read w)) here) (run_at before) (λ w. or_fault Content (number_at w32 w)) stop p e h (λ g x y m n. run_no_count before x y here g m past n)

pub no_run : (a b c : Option (List ℕ)) (was now : ℕ) (s t u : Held) (before : Option (ℕ × ℕ)) (here : ℕ × ℕ) (count : ℕ) → Comes a b s t (Gave (λ w. or_fault Content (place_form.read w)) here) → is_past before here ≡ true → Comes b c t u (Gave (λ w. or_fault Content (number_at w32 w)) count)
    → is_run here.1 count ≡ false → now ≡ was → Stops a c was now s u (run_at before) (Payload Content)
no_run a b c was now s t u before here count p past q cannot e =
    stops_here a c was now s u (HeadRead here count) (run_at before) Content (head_read a b c s t u here count p q) e tt (λ x z m. run_no_run before x m.0 z here count m.1 past m.2 cannot)

pub no_cells : (a b c d : Option (List ℕ)) (was between now : ℕ) (s t u v : Held) (before : Option (ℕ × ℕ)) (here : ℕ × ℕ) (count : ℕ) (stop : Unread) → Comes a b s t (Gave (λ w. or_fault Content (place_form.read w)) here) → is_past before here ≡ true → Comes b c t u (Gave (λ w. or_fault Content (number_at w32 w)) count)
    → is_run here.1 count ≡ true → between ≡ was → Stops c d between now u v (λ w. or_fault Content (knowns_at here.1 count w)) stop → Stops a d was now s v (run_at before) stop
no_cells a b c d was between now s t u v before here count stop p past q can e h =
    stops_then a c d was between now s u v (HeadRead here count) (run_at before) (λ w. or_fault Content (knowns_at here.1 count w)) stop (head_read a b c s t u here count p q) e h
    (λ g x z m n. run_no_cells before x m.0 z here count g m.1 past m.2 can n)

-- ---- so many runs

-- The cells that were put so far, and what is left, are all of them.
abbrev pub RunsLeft : ℕ → List Entry → Option (ℕ × ℕ) → ℕ → List ℕ → List ℕ → Type 0
RunsLeft count front last i whole rest = cells_after front (cells_at run run_cells (count - i) last rest) ≡ cells_at run run_cells count None whole

pub runs_start : (a : Option (List ℕ)) (s : Held) (count : ℕ) (front : List Entry) → front ≡ [] → Comes a a s s (RunsLeft count front None 0)
runs_start a s count front none =
    let all : count - 0 ≡ count = omega arith in
    comes_map a a s s IsLeft (RunsLeft count front None 0) (comes_same a s) (λ x y e.
    ap (λ (n : ℕ). cells_after front (cells_at run run_cells n None y)) all ∙ starts front (cells_at run run_cells count None y) none ∙ ap (λ (b : List ℕ). cells_at run run_cells count None b) (sym e))

pub runs_next : (a b c : Option (List ℕ)) (s t u : Held) (count i : ℕ) (front es : List Entry) (last : Option (ℕ × ℕ)) (r : PlacedRun) (end : ℕ × ℕ) → i < count → Comes a b s t (RunsLeft count front last i) → Comes b c t u (Gave (run_at last) r) → end ≡ behind r → es ≡ front ++ run_cells r
    → Comes a c s u (RunsLeft count es (Some end) (i + 1))
runs_next a b c s t u count i front es last r end lt p q is now =
    comes_then a b c s t u (RunsLeft count front last i) (Gave (run_at last) r) (RunsLeft count es (Some end) (i + 1)) p q (λ x y z m n.
    let next = goes_on run run_cells front count i last y r z (cells_at run run_cells count None x) lt n m in
    subst (λ (fs : List Entry). cells_after fs (cells_at run run_cells (count - (i + 1)) (Some end) z) ≡ cells_at run run_cells count None x) (sym now)
    (subst (λ (q : ℕ × ℕ). cells_after (front ++ run_cells r) (cells_at run run_cells (count - (i + 1)) (Some q) z) ≡ cells_at run run_cells count None x) (sym is) next))

pub runs_stop : (a b c : Option (List ℕ)) (before between now : ℕ) (s t u : Held) (count i : ℕ) (front : List Entry) (last : Option (ℕ × ℕ)) (stop : Unread) → i < count → Comes a b s t (RunsLeft count front last i) → between ≡ before → Stops b c between now t u (run_at last) stop
    → Stops a c before now s u (parts_of Two count) stop
runs_stop a b c before between now s t u count i front last stop lt p e h =
    stops_then a b c before between now s t u (RunsLeft count front last i) (parts_of Two count) (run_at last) stop p e h (λ g x y m n. stops run run_cells front count i last y g (cells_at run run_cells count None x) lt n m)

pub runs_done : (a b : Option (List ℕ)) (s t : Held) (count i : ℕ) (front : List Entry) (last : Option (ℕ × ℕ)) → count ≤ i → Comes a b s t (RunsLeft count front last i) → Comes a b s t (Gave (parts_of Two count) front)
runs_done a b s t count i front last le p = comes_map a b s t (RunsLeft count front last i) (Gave (parts_of Two count) front) p (λ x y m. is_done run run_cells front count i last y (cells_at run run_cells count None x) le m)
