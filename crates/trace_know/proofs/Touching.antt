-- The runs that a piece touches, and one of them that the others go into.
use Rattle.std.proofs.Common.{◌≡◌, ℕ, ◌+◌, ◌-◌, ◌<◌, ◌≤◌, min, List, length, take, slice_index_or, sym, ap, subst, ◌∙◌, arith}
use Rattle.std.proofs.lemmas.List.{get_or_default}
use Rattle.std.specs.VecDeque.{deque_capacity}
use Rattle.trace_know.specs.declared.cell.Known.{Known}
use Rattle.trace_know.specs.declared.run.Run.{Run}
use Rattle.trace_know.specs.Among.{AreTouched, Each, IfAt, IsReached}
use Rattle.trace_know.specs.Runs.{of_run, spot, end_place, start_of, end_of, IsFilled, IsAlike, Above, last_end}
use Rattle.trace_know.specs.Touching.{CanTakeIn, GoesInto, IsNoLonger, TakesIn, Touches}
use Rattle.trace_know.specs.View.{View, join}
use Rattle.trace_know.proofs.Order.{counted-alike, filled, same-rank, ends-rise, starts-rise, taken_below, view-alike}

-- ---- a run of the list, under the name that the code has for it

pub one-of : (P : Run → Type 0) (low high at : ℕ) (runs : List Run) (run : Run) → Each low high runs P → low ≤ at → at < high → run ≡ slice_index_or runs at run → P run
one-of P low high at runs run each lo hi is = subst P (sym is) (each at run lo hi)

pub if-there : (P : Run → Type 0) (at : ℕ) (runs : List Run) (run : Run) → IfAt at runs P → at < length runs → run ≡ slice_index_or runs at run → P run
if-there P at runs run there inside is = subst P (sym is) (there run inside)

-- ---- the runs that a piece touches

-- each of them is of its rank, and lies between where the first begins and the last ends
pub reached : (runs : List Run) (low high i : ℕ) (first last piece d : Run) (from to : ℕ) → Above 0 runs → IsFilled piece → AreTouched low high runs piece
    → first ≡ slice_index_or runs low first → last ≡ slice_index_or runs (high - 1) last → from ≤ first.first → end_place last ≤ to
    → low ≤ i → i < high → IsReached from to piece (slice_index_or runs i d)
reached runs low high i first last piece d from to a p t is ends floor ceiling lo hi =
    let bound = t.bound in
    let r = slice_index_or runs i d in
    let f = filled 0 i runs d a (omega arith) in
    let f_places = f.places in
    let p_places = p.places in
    let here_first : first ≡ slice_index_or runs low d = is ∙ get_or_default runs low first d (omega arith) in
    let here_last : last ≡ slice_index_or runs (high - 1) d = ends ∙ get_or_default runs (high - 1) last d (omega arith) in
    let g = subst IsFilled (sym here_first) (filled 0 low runs d a (omega arith)) in
    let h = subst IsFilled (sym here_last) (filled 0 (high - 1) runs d a (omega arith)) in
    let up = subst (λ (x : Run). end_of x ≤ end_of r) (sym here_first) (ends-rise 0 low i runs d a lo (omega arith)) in
    let bottom = subst (λ (x : Run). start_of x ≤ start_of r) (sym here_first) (starts-rise 0 low i runs d a lo (omega arith)) in
    let top = subst (λ (x : Run). end_of r ≤ end_of x) (sym here_last) (ends-rise 0 i (high - 1) runs d a (omega arith) (omega arith)) in
    let touching = subst (λ (x : Run). start_of piece ≤ end_of x) (sym here_first) (t.reached d (omega arith)) in
    let begun = t.begun i d lo hi in
    let begun_first = subst (λ (x : Run). start_of x ≤ end_of piece) (sym here_first) (t.begun low d (omega arith) (omega arith)) in
    let begun_last = subst (λ (x : Run). start_of x ≤ end_of piece) (sym here_last) (t.begun (high - 1) d (omega arith) (omega arith)) in
    let here : r.rank ≡ piece.rank = same-rank r piece f p begun (omega arith) in
    let of_first : first.rank ≡ piece.rank = same-rank first piece g p begun_first touching in
    let of_last : last.rank ≡ piece.rank = same-rank last piece h p begun_last (omega arith) in
    record { ranked = here; touches = (omega arith, omega arith); low = omega arith; high = omega arith }

-- where the first of them or the piece begins is past all runs before
pub begins-past : (runs : List Run) (low high : ℕ) (first piece : Run) (from : ℕ) → Above 0 runs → IsFilled piece → AreTouched low high runs piece
    → first ≡ slice_index_or runs low first → from ≡ min piece.first first.first → last_end 0 (take low runs) < spot piece.rank from
begins-past runs low high first piece from a p t is least =
    let bound = t.bound in
    let before = t.before in
    let some = t.some in
    let inside : low < length runs = omega arith in
    let g = subst IsFilled (sym is) (filled 0 low runs first a inside) in
    let reach = subst (λ (x : Run). start_of piece ≤ end_of x) (sym is) (t.reached first inside) in
    let begun = subst (λ (x : Run). start_of x ≤ end_of piece) (sym is) (t.begun low first (omega arith) some) in
    let ranked : first.rank ≡ piece.rank = same-rank first piece g p begun reach in
    let below = subst (λ (x : Run). last_end 0 (take low runs) < start_of x) (sym is) (taken_below 0 low runs first a inside) in
    omega arith

-- so is a run with the same cells at the same places
pub reached-alike : (from to : ℕ) (piece one other : Run) → IsAlike one other → IsReached from to piece other → IsReached from to piece one
reached-alike from to piece one other same r =
    let cells : length one.cells.items ≡ length other.cells.items = ap (λ (ks : List Known). length ks) same.cells in
    let rank = same.rank in
    let first = same.first in
    let ranked = r.ranked in
    let touches = r.touches in
    let low = r.low in
    let high = r.high in
    record { ranked = omega arith; touches = (omega arith, omega arith); low = omega arith; high = omega arith }

-- a run that can take in a piece can so with other memory too
pub can-take-alike : (piece one other : Run) → IsAlike one other → CanTakeIn piece other → CanTakeIn piece one
can-take-alike piece one other same can =
    let cells : length one.cells.items ≡ length other.cells.items = ap (λ (ks : List Known). length ks) same.cells in
    let first = same.first in
    let touches = can.touches in
    record { rank = can.rank ∙ sym same.rank; touches = (omega arith, omega arith); places = can.places; counted = counted-alike one other same can.counted }

-- what took in a piece with other memory took it in
pub taken-alike : (piece one other new : Run) → IsAlike one other → TakesIn piece one new → TakesIn piece other new
taken-alike piece one other new same taken =
    let cells : length one.cells.items ≡ length other.cells.items = ap (λ (ks : List Known). length ks) same.cells in
    let at = same.first in
    let first = taken.first in
    let end = taken.end in
    record {
      view = taken.view ∙ ap (λ (v : View). join v (of_run piece)) (view-alike one other same);
      rank = taken.rank ∙ same.rank;
      first = omega arith;
      end = omega arith;
      counted = taken.counted;
    }

-- ---- a base that runs go into

-- a run that a piece reaches goes into a base that has room for all of them and is no shorter
pub goes-into : (from to : ℕ) (base piece run : Run) → to ≤ from + deque_capacity base.cells → IsReached from to piece run → IsNoLonger run base → GoesInto from base piece run
goes-into from to base piece run wide r short =
    let low = r.low in
    let high = r.high in
    record { ranked = r.ranked; touches = r.touches; room = (low, omega arith); shorter = short }

-- what goes into the base goes into what it grew to, in the same memory
pub into-grown : (low : ℕ) (base piece grown run : Run) → grown.rank ≡ piece.rank → deque_capacity grown.cells ≡ deque_capacity base.cells
    → grown.first ≤ piece.first → end_place piece ≤ end_place grown → IsNoLonger base grown → GoesInto low base piece run → GoesInto low grown grown run
into-grown low base piece grown run rank room first end most g =
    let ranked = g.ranked in
    let touches = g.touches in
    let fits = g.room in
    let shorter = g.shorter in
    record { ranked = omega arith; touches = (omega arith, omega arith); room = (fits.0, omega arith); shorter = omega arith }

-- ---- the one run that a piece touches

-- the run has cells, is of the piece's rank, and touches it
pub record IsTouched (run piece : Run) : Type 0 where
  pub filled : IsFilled run
  pub ranked : run.rank ≡ piece.rank
  pub touches : Touches piece run

-- where it is the only one that the piece touches
pub touched-alone : (runs : List Run) (at : ℕ) (run piece : Run) → Above 0 runs → IsFilled piece → AreTouched at (at + 1) runs piece → run ≡ slice_index_or runs at run → IsTouched run piece
touched-alone runs at run piece a p t is =
    let bound = t.bound in
    let inside : at < length runs = omega arith in
    let f = subst IsFilled (sym is) (filled 0 at runs run a inside) in
    let reach = subst (λ (x : Run). start_of piece ≤ end_of x) (sym is) (t.reached run inside) in
    let begun = subst (λ (x : Run). start_of x ≤ end_of piece) (sym is) (t.begun at run (omega arith) (omega arith)) in
    let ranked : run.rank ≡ piece.rank = same-rank run piece f p begun reach in
    record { filled = f; ranked = ranked; touches = (omega arith, omega arith) }
