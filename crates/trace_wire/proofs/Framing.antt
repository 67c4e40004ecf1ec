-- Frames, read one after another.
use Rattle.std.proofs.Common.{◌≡◌, ℕ, ◌+◌, ◌<◌, List, [], ◌∷◌, ◌++◌, length, Option, Some, None, Err, refl, sym, ap, subst, ◌∙◌, append-nil, length-append, inl, inr, ◌⊎◌, arith}
use Rattle.std.specs.Prelude.{IfSome, IsSome}
use Rattle.std.specs.FinMap.{empty, entries, get-empty}
use Rattle.std.specs.Io.KnownBytes.{Consumes, IsAtEnd}
use Rattle.std.specs.List.{All}
use Rattle.std.proofs.KnownBytes.{Consumes-nil, Consumes-trans}
use Rattle.std.proofs.lemmas.List.Elements.{All-append, All-cons, All-nil}
use Rattle.trace_know.specs.declared.cell.Known.{Known}
use Rattle.trace_know.specs.Cell.{join_cell}
use Rattle.trace_know.specs.View.{View, cell, join, place_cmp}
use Rattle.trace_wire.specs.declared.fault.WireFault.{WireFault}
use Rattle.trace_wire.specs.declared.fault.WireFault.TheVariants as faults
use Rattle.trace_wire.specs.declared.packed.fault.PackedCause.{PackedCause}
use Rattle.trace_wire.specs.declared.packed.fault.PackedCause.TheVariants.{Wire, Rank}
use Rattle.mpi_model.specs.Failures.{one_more}
use Rattle.trace_wire.specs.FirstFault.{frame_at}
use Rattle.trace_wire.specs.Frames.{HasFrameAs}
use Rattle.trace_wire.specs.Packed.{BreaksOff, BreaksOffAt, Framed, HasOther, IsOfRanks, IsSound, RefusesCause, RefusesNext, StraysOffAt, Unpacks, all_bytes, framed_bytes, told_by}
use Rattle.trace_wire.specs.Reading.{IsUnfilled, IsUnread, ReadsFrame}
use Rattle.trace_wire.proofs.Heads.{no_head, short_head}
use Rattle.trace_wire.proofs.Sending.{spelled_last}

-- ---- the next frame

pub filled_some : (left mid : Option (List ℕ)) (head : List ℕ) → Consumes left mid head → length head ≡ 10 → IfSome left (λ bytes. 0 < length bytes)
filled_some None mid head c len = tt
filled_some (Some xs) None head c len = absurd c
filled_some (Some xs) (Some ys) head c len = omega (arith, ap (λ (l : List ℕ). length l) c, length-append head ys, len)

both : (left : Option (List ℕ)) (fault : WireFault) → IfSome left (λ bytes. 0 < length bytes) → IfSome left (λ bytes. frame_at bytes ≡ Err fault) → IfSome left (λ bytes. (0 < length bytes) × (frame_at bytes ≡ Err fault))
both None fault a b = tt
both (Some xs) fault a b = (a, b)

-- the frame behind a head was refused
pub breaks : (left : Option (List ℕ)) (before now : ℕ) (fault : WireFault) → IsUnread left before now fault → IfSome left (λ bytes. 0 < length bytes) → BreaksOff left before now fault
breaks left before now faults.Memory h some = h
breaks left before now faults.Read h some = h
breaks left before now faults.Write h some = h
breaks left before now faults.Magic h some = (h.0, both left faults.Magic some h.1)
breaks left before now faults.Version h some = (h.0, both left faults.Version some h.1)
breaks left before now faults.Length h some = (h.0, both left faults.Length some h.1)
breaks left before now faults.Short h some = (h.0, both left faults.Short some h.1)
breaks left before now faults.Order h some = (h.0, both left faults.Order some h.1)
breaks left before now faults.Content h some = (h.0, both left faults.Content some h.1)
breaks left before now faults.Rest h some = (h.0, both left faults.Rest some h.1)

-- the head was not filled
pub unbegun : (left : Option (List ℕ)) (before now : ℕ) (fault : WireFault) → IsUnfilled 10 left before now fault → (fault ≡ faults.Short → IfSome left (λ bytes. 0 < length bytes)) → BreaksOff left before now fault
unbegun left before now faults.Memory h some = h
unbegun left before now faults.Read h some = h
unbegun left before now faults.Short h some = let u = no_head left before now faults.Short h in (u.0, both left faults.Short (some refl) u.1)
unbegun left before now faults.Write h some = absurd h
unbegun left before now faults.Magic h some = absurd h
unbegun left before now faults.Version h some = absurd h
unbegun left before now faults.Length h some = absurd h
unbegun left before now faults.Order h some = absurd h
unbegun left before now faults.Content h some = absurd h
unbegun left before now faults.Rest h some = absurd h

-- a frame was read that tells something of another rank
pub stray_next : (ranks : ℕ) (left new : Option (List ℕ)) (v : View) → ReadsFrame left new (entries v) → HasOther ranks v → IfSome left (λ bytes. (f : Framed) × (rest : List ℕ) × (bytes ≡ framed_bytes f ++ rest) × HasFrameAs f.0 (entries f.1) × HasOther ranks f.1)
stray_next ranks None new v h other = tt
stray_next ranks (Some xs) None v h other = absurd h.1
stray_next ranks (Some xs) (Some ys) v h other = ((h.0, v), ys, h.1, h.2, other)

-- ---- all frames

-- Frames were read, which tell this.
pub record Reads (ranks : ℕ) (old now : Option (List ℕ)) (told : View) (count : ℕ) : Type 0 where
  pub frames : List Framed
  pub many : length frames ≡ count
  pub sound : All (IsSound ranks) frames
  pub took : Consumes old now (all_bytes frames)
  pub joined : told ≡ told_by frames
  pub of : IsOfRanks ranks told

none_known : (o : Option Known) → o ≡ None → IsSome o → ⊥
none_known None e h = absurd cc
none_known (Some k) e h = absurd cc

pub reads_none : (ranks : ℕ) (old : Option (List ℕ)) (told : View) → told ≡ empty → Reads ranks old old told 0
reads_none ranks old told is = record {
  frames = [];
  many = refl;
  sound = All-nil (IsSound ranks);
  took = Consumes-nil old;
  joined = is;
  of = λ rank place some. absurd (none_known (cell told rank place) (ap (λ (v : View). cell v rank place) is ∙ get-empty place_cmp (rank, place)) some);
}

some_of : (a b : Option Known) → IsSome (join_cell a b) → IsSome a ⊎ IsSome b
some_of None b h = inr h
some_of (Some a) None h = inl refl
some_of (Some a) (Some b) h = inl refl

module _ (associative : (a b c : View) → join (join a b) c ≡ join a (join b c)) (commutative : (a b : View) → join a b ≡ join b a) (cells : (a b : View) (rank place : ℕ) → cell (join a b) rank place ≡ join_cell (cell a rank place) (cell b rank place)) where
  told_last : (fs : List Framed) (f : Framed) → told_by (fs ++ f ∷ []) ≡ join (told_by fs) f.1
  told_last [] f = commutative f.1 empty
  told_last (g ∷ fs) f = ap (join g.1) (told_last fs f) ∙ sym (associative g.1 (told_by fs) f.1)

  joined_ranks : (ranks : ℕ) (a b : View) → IsOfRanks ranks a → IsOfRanks ranks b → IsOfRanks ranks (join a b)
  joined_ranks ranks a b h k = λ rank place some. elim (some_of (cell a rank place) (cell b rank place) (subst (λ (o : Option Known). IsSome o) (cells a b rank place) some)) [
    | inl s ↦ h rank place s
    | inr s ↦ k rank place s
  ]

  pub reads_more : (ranks : ℕ) (old now new : Option (List ℕ)) (told know more : View) (count : ℕ) → Reads ranks old now told count → ReadsFrame now new (entries know) → IsOfRanks ranks know → more ≡ join told know → Reads ranks old new more (count + 1)
  reads_more ranks old now new told know more count r h of is =
      let f : Framed = (h.0, know) in
      record {
        frames = r.frames ++ f ∷ [];
        many = omega (arith, length-append r.frames (f ∷ []), r.many);
        sound = All-append (IsSound ranks) r.frames (f ∷ []) r.sound (All-cons (IsSound ranks) f [] (h.2, of) (All-nil (IsSound ranks)));
        took = subst (λ (l : List ℕ). Consumes old new l) (sym (spelled_last framed_bytes r.frames f)) (Consumes-trans old now new (all_bytes r.frames) (framed_bytes f) r.took h.1);
        joined = is ∙ ap (λ (v : View). join v know) r.joined ∙ sym (told_last r.frames f);
        of = subst (λ (v : View). IsOfRanks ranks v) (sym is) (joined_ranks ranks told know r.of of);
      }

-- the bytes end
pub reads_all : (ranks : ℕ) (old now : Option (List ℕ)) (told : View) (count : ℕ) → Reads ranks old now told count → IsAtEnd now → 0 < count → Unpacks ranks old told
reads_all ranks None now told count r end some = tt
reads_all ranks (Some xs) None told count r end some = absurd r.took
reads_all ranks (Some xs) (Some ys) told count r end some =
    (r.frames, omega (arith, r.many, some), r.sound, r.took ∙ ap (λ (l : List ℕ). all_bytes r.frames ++ l) end ∙ append-nil (all_bytes r.frames), r.joined)

-- they end before the first frame
pub reads_nothing : (ranks : ℕ) (old now : Option (List ℕ)) (told : View) (count : ℕ) → Reads ranks old now told count → IsAtEnd now → count ≡ 0 → BreaksOffAt ranks old count faults.Short
reads_nothing ranks None now told count r end none = tt
reads_nothing ranks (Some xs) None told count r end none = absurd r.took
reads_nothing ranks (Some xs) (Some ys) told count r end none =
    let short : length ys < 10 = omega (arith, ap (λ (l : List ℕ). length l) end) in
    (ys, (r.frames, r.many, r.sound, r.took), (λ some. absurd (omega (arith, none, some))), short_head ys short)

breaks_at : (ranks : ℕ) (old now : Option (List ℕ)) (told : View) (count : ℕ) (fault : WireFault) → Reads ranks old now told count → IfSome now (λ bytes. (0 < length bytes) × (frame_at bytes ≡ Err fault)) → BreaksOffAt ranks old count fault
breaks_at ranks None now told count fault r h = tt
breaks_at ranks (Some xs) None told count fault r h = absurd r.took
breaks_at ranks (Some xs) (Some ys) told count fault r h = (ys, (r.frames, r.many, r.sound, r.took), (λ some. h.0), h.1)

strays_at : (ranks : ℕ) (old now : Option (List ℕ)) (told : View) (count before new : ℕ) → Reads ranks old now told count → RefusesNext ranks now before new Rank → StraysOffAt ranks old count
strays_at ranks None now told count before new r h = tt
strays_at ranks (Some xs) None told count before new r h = absurd r.took
strays_at ranks (Some xs) (Some ys) told count before new r h =
    let n = h.1 in
    (n.0, n.1, (r.frames, r.many, r.sound, r.took ∙ ap (λ (l : List ℕ). all_bytes r.frames ++ l) n.2), n.3, n.4)

-- the next frame is refused
pub refused_next : (ranks : ℕ) (old now : Option (List ℕ)) (told : View) (count before between new : ℕ) (cause : PackedCause) → Reads ranks old now told count → between ≡ before → RefusesNext ranks now between new cause → RefusesCause ranks old before new count cause
refused_next ranks old now told count before between new Rank r e h = (h.0 ∙ e, strays_at ranks old now told count between new r h)
refused_next ranks old now told count before between new (Wire faults.Memory) r e h = h ∙ e
refused_next ranks old now told count before between new (Wire faults.Read) r e h = h ∙ ap (λ (n : ℕ). one_more n) e
refused_next ranks old now told count before between new (Wire faults.Write) r e h = absurd h
refused_next ranks old now told count before between new (Wire faults.Magic) r e h = (h.0 ∙ e, breaks_at ranks old now told count faults.Magic r h.1)
refused_next ranks old now told count before between new (Wire faults.Version) r e h = (h.0 ∙ e, breaks_at ranks old now told count faults.Version r h.1)
refused_next ranks old now told count before between new (Wire faults.Length) r e h = (h.0 ∙ e, inl (breaks_at ranks old now told count faults.Length r h.1))
refused_next ranks old now told count before between new (Wire faults.Short) r e h = (h.0 ∙ e, breaks_at ranks old now told count faults.Short r h.1)
refused_next ranks old now told count before between new (Wire faults.Order) r e h = (h.0 ∙ e, breaks_at ranks old now told count faults.Order r h.1)
refused_next ranks old now told count before between new (Wire faults.Content) r e h = (h.0 ∙ e, breaks_at ranks old now told count faults.Content r h.1)
refused_next ranks old now told count before between new (Wire faults.Rest) r e h = (h.0 ∙ e, breaks_at ranks old now told count faults.Rest r h.1)
