-- The parts of a Start or Startall.
use Rattle.std.proofs.Common.{◌≡◌, ℕ, ◌+◌, ◌<◌, Bool, true, false, List, [], ◌∷◌, map, drop, get_or, length, refl, sym, ◌∙◌, ap, arith}
use Rattle.std.specs.Prelude.{ℤ, pos, ◌^◌, nat_lt, Option, Some, None, is_some, if◌then◌else◌}
use Rattle.std.specs.List.{cons_option}
use Rattle.std.specs.Option.{option_map}
use Rattle.std.proofs.lemmas.List.{drop_more, get_or-map, length-map}
use Rattle.mpi_model.specs.declared.call.Call.{Call}
use Rattle.mpi_model.specs.declared.call.Call.TheVariants.{Start, Startall}
use Rattle.mpi_model.specs.Layouts.{Parts}
use Rattle.trace_ops.specs.declared.held.Init.{Init as Lent}
use Rattle.trace_ops.specs.Calls.{Entry}
use Rattle.trace_ops.specs.Foreign.{is_foreign}
use Rattle.trace_ops.specs.Held.{Init, held_in, inits_at, plain_init}
use Rattle.trace_ops.specs.Request.{is_init, is_start, started_by}
use Rattle.trace_ops.specs.Round.{entered_of}
use Rattle.std.proofs.Math.Seq.{drop-length}
use Rattle.trace_ops.specs.Steps.{Step, steps_at, given_by, part_of, part_step, parts_from, posted_by}
use Rattle.trace_ops.specs.Trust.{gives_back, is_matched_receive}

-- a start is no init, no matched receive, no collective call, and names no communicator
no_init : (call : Call) → is_start call ≡ true → is_init call ≡ false
no_init (Start request) h = refl
no_init (Startall requests) h = refl
no_init call h = absurd (cc)

no_matched : (call : Call) → is_start call ≡ true → is_matched_receive call ≡ false
no_matched (Start request) h = refl
no_matched (Startall requests) h = refl
no_matched call h = absurd (cc)

module _ (layout : Parts) (rank n : ℕ) where
  pub start_enters_none : (call : Call) → is_start call ≡ true → entered_of layout rank n call ≡ None
  start_enters_none (Start request) h = refl
  start_enters_none (Startall requests) h = refl
  start_enters_none call h = absurd (cc)

  pub start_is_known : (call : Call) → is_start call ≡ true → is_foreign layout rank n call ≡ false
  start_is_known (Start request) h = refl
  start_is_known (Startall requests) h = refl
  start_is_known call h = absurd (cc)

module _ (n part : ℕ) (c : Entry) (x : ℤ) (init : Init) where
  pub part_posts : is_start c.call ≡ true → posted_by (part_step n part c x init) ≡ (if is_some c.outs then Some x else None)
  part_posts h = rw (no_init c.call h) refl

  pub part_gives : is_start c.call ≡ true → posted_by (part_step n part c x init) ≡ given_by (part_step n part c x init)
  part_gives h = rw (no_init c.call h) refl

  pub part_gives_nothing_back : (later : List Step) → is_start c.call ≡ true → gives_back (part_step n part c x init ∷ later) ≡ gives_back later
  part_gives_nothing_back later h = rw (no_matched c.call h) refl

-- ---- one part more towards the front

-- the part for a listed number, by what holds it
part_is : (before : List Entry) (c : Entry) (place : ℕ) (x : ℤ) (held : Option Init) → held ≡ held_in before x →
    part_of before c place x ≡ (if nat_lt place (2 ^ 31) then option_map (part_step (length before) place c x) held else None)
part_is before c place x held h = ap (λ (o : Option Init). if nat_lt place (2 ^ 31) then option_map (part_step (length before) place c x) o else None) (sym h)

-- as many are listed as the call names
pub inits_count : (before : List Entry) (c : Entry) (inits : List (Option Lent)) → map (option_map plain_init) inits ≡ inits_at before c → length inits ≡ length (started_by c.call)
inits_count before c inits h =
    sym (length-map inits (option_map plain_init)) ∙ ap (λ (l : List (Option Init)). length l) h ∙ length-map (started_by c.call) (held_in before)

-- what holds the number at a place
held_at : (before : List Entry) (c : Entry) (inits : List (Option Lent)) (place : ℕ) (x : ℤ) (o : Option Lent) → place < length (started_by c.call) → map (option_map plain_init) inits ≡ inits_at before c →
    o ≡ get_or inits place None → x ≡ get_or (started_by c.call) place (pos 0) → option_map plain_init o ≡ held_in before x
held_at before c inits place x o lt h at k =
    let count = inits_count before c inits h in
    let one : get_or (map (option_map plain_init) inits) place None ≡ option_map plain_init (get_or inits place None) = get_or-map (option_map plain_init) inits place None None (omega (arith, lt, count)) in
    let two : get_or (inits_at before c) place None ≡ held_in before (get_or (started_by c.call) place (pos 0)) = get_or-map (held_in before) (started_by c.call) place (pos 0) None lt in
    ap (option_map plain_init) at ∙ sym one ∙ ap (λ (l : List (Option Init)). get_or l place None) h ∙ two ∙ ap (held_in before) (sym k)

-- the parts from a place on
pub parts_more : (before : List Entry) (c : Entry) (place : ℕ) (o : Option Step) → place < length (started_by c.call) → o ≡ part_of before c place (get_or (started_by c.call) place (pos 0)) →
    parts_from before c place (drop place (started_by c.call)) ≡ cons_option o (parts_from before c (place + 1) (drop (place + 1) (started_by c.call)))
parts_more before c place o lt k =
    ap (parts_from before c place) (drop_more (started_by c.call) place (pos 0) lt)
    ∙ ap (λ (p : Option Step). cons_option p (parts_from before c (place + 1) (drop (place + 1) (started_by c.call)))) (sym k)

-- the part at a place by what holds the number there
module _ (before : List Entry) (c : Entry) (inits : List (Option Lent)) (place : ℕ) (x : ℤ) (o : Option Lent) (lt : place < length (started_by c.call))
    (h : map (option_map plain_init) inits ≡ inits_at before c) (at : o ≡ get_or inits place None) (k : x ≡ get_or (started_by c.call) place (pos 0)) where
  here : part_of before c place x ≡ (if nat_lt place (2 ^ 31) then option_map (part_step (length before) place c x) (option_map plain_init o) else None)
  here = part_is before c place x (option_map plain_init o) (held_at before c inits place x o lt h at k)

  pub with_part : (part : ℕ) (init : Lent) → (if nat_lt place (2 ^ 31) then Some place else None) ≡ Some part → o ≡ Some init → Some (part_step (length before) part c x (plain_init init)) ≡ part_of before c place x
  with_part part init p q = sym (here ∙ by (nat_lt place (2 ^ 31)) o p q)
    where
      by : (b : Bool) (r : Option Lent) → (if b then Some place else None) ≡ Some part → r ≡ Some init →
          (if b then option_map (part_step (length before) place c x) (option_map plain_init r) else None) ≡ Some (part_step (length before) part c x (plain_init init))
      by true None p q = absurd (cc)
      by true (Some i) p q = cc
      by false r p q = absurd (cc)

  pub without_init : o ≡ None → None ≡ part_of before c place x
  without_init q = sym (here ∙ by (nat_lt place (2 ^ 31)) o q)
    where
      by : (b : Bool) (r : Option Lent) → r ≡ None → (if b then option_map (part_step (length before) place c x) (option_map plain_init r) else None) ≡ None
      by true None q = refl
      by true (Some i) q = absurd (cc)
      by false r q = refl

-- behind the last number there is no part
pub no_parts : (before : List Entry) (c : Entry) (place : ℕ) → place ≡ length (started_by c.call) → parts_from before c place (drop place (started_by c.call)) ≡ []
no_parts before c place e = ap (λ (m : ℕ). parts_from before c place (drop m (started_by c.call))) e ∙ ap (parts_from before c place) (drop-length (started_by c.call))

pub all_parts : (before : List Entry) (c : Entry) → is_start c.call ≡ true → steps_at before c ≡ parts_from before c 0 (started_by c.call)
all_parts before c h = rw h refl
