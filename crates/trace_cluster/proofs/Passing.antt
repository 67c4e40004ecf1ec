-- What was read or written stays so when a call on the other half, which leaves this one, comes before it or after it.
use Rattle.std.proofs.Common.{◌≡◌, ℕ, List, ◌++◌, Option, Some, None, Result, Ok, Err, sym, ap, subst, take, ◌∙◌}
use Rattle.std.specs.Prelude.{IfSome}
use Rattle.std.specs.FinMap.{entries}
use Rattle.std.specs.Io.KnownBytes.{Appends, Consumes, Keeps}
use Rattle.mpi_model.specs.Failures.{one_more}
use Rattle.mpi_model.specs.Side.{Side, LeavesSide}
use Rattle.trace_know.specs.View.{View}
use Rattle.trace_wire.specs.declared.fault.WireFault.{WireFault}
use Rattle.trace_wire.specs.declared.fault.WireFault.TheVariants as wires
use Rattle.trace_wire.specs.FirstFault.{frame_at}
use Rattle.trace_wire.specs.Frames.{frame_as, frame_of}
use Rattle.trace_wire.specs.Reading.{IsUnread, StaysWithin}
use Rattle.trace_cluster.specs.declared.exchange.fault.ExchangeFault.{ExchangeFault}
use Rattle.trace_cluster.specs.declared.exchange.fault.ExchangeFault.TheVariants.{Write, Read, Merge}
use Rattle.trace_cluster.specs.Exchange.{Wrote, FailsToWrite, Got, GetsFrame}

-- ---- bytes that are kept before or after

consumes_after : (a b c : Option (List ℕ)) (bytes : List ℕ) → Keeps a b → Consumes b c bytes → Consumes a c bytes
consumes_after None b c bytes kept read = tt
consumes_after (Some x) None c bytes kept read = absurd kept
consumes_after (Some x) (Some y) None bytes kept read = absurd read
consumes_after (Some x) (Some y) (Some z) bytes kept read = sym kept ∙ read

consumes_then : (a b c : Option (List ℕ)) (bytes : List ℕ) → Consumes a b bytes → Keeps b c → Consumes a c bytes
consumes_then None b c bytes read kept = tt
consumes_then (Some x) None c bytes read kept = absurd read
consumes_then (Some x) (Some y) None bytes read kept = absurd kept
consumes_then (Some x) (Some y) (Some z) bytes read kept = read ∙ ap (λ l. bytes ++ l) (sym kept)

appends_after : (a b c : Option (List ℕ)) (bytes : List ℕ) → Keeps a b → Appends b c bytes → Appends a c bytes
appends_after None b c bytes kept written = tt
appends_after (Some x) None c bytes kept written = absurd kept
appends_after (Some x) (Some y) None bytes kept written = absurd written
appends_after (Some x) (Some y) (Some z) bytes kept written = written ∙ ap (λ l. l ++ bytes) kept

appends_then : (a b c : Option (List ℕ)) (bytes : List ℕ) → Appends a b bytes → Keeps b c → Appends a c bytes
appends_then None b c bytes written kept = tt
appends_then (Some x) None c bytes written kept = absurd written
appends_then (Some x) (Some y) None bytes written kept = absurd kept
appends_then (Some x) (Some y) (Some z) bytes written kept = kept ∙ written

keeps_after : (a b c : Option (List ℕ)) → Keeps a b → Keeps b c → Keeps a c
keeps_after None b c p q = tt
keeps_after (Some x) None c p q = absurd p
keeps_after (Some x) (Some y) None p q = absurd q
keeps_after (Some x) (Some y) (Some z) p q = q ∙ p

-- what holds of the bytes, where they are told
told_after : (a b : Option (List ℕ)) (P : List ℕ → Type 0) → Keeps a b → IfSome b P → IfSome a P
told_after None b P kept told = tt
told_after (Some x) None P kept told = absurd kept
told_after (Some x) (Some y) P kept told = subst P kept told

-- ---- a frame that is written

pub wrote_then : (a b c : Side) (know : View) → Wrote a b know → LeavesSide b c → Wrote a c know
wrote_then a b c know wrote leaves =
    (wrote.0, appends_then a.bytes b.bytes c.bytes (frame_of know) wrote.1 leaves.bytes, leaves.failures ∙ wrote.2)

pub wrote_after : (a b c : Side) (know : View) → LeavesSide a b → Wrote b c know → Wrote a c know
wrote_after a b c know leaves wrote =
    (wrote.0, appends_after a.bytes b.bytes c.bytes (frame_of know) leaves.bytes wrote.1, wrote.2 ∙ leaves.failures)

pub unwritten_after : (a b c : Side) (know : View) (fault : WireFault) → LeavesSide a b → FailsToWrite b c know fault → FailsToWrite a c know fault
unwritten_after a b c know wires.Length leaves why =
    (why.0, keeps_after a.bytes b.bytes c.bytes leaves.bytes why.1, why.2 ∙ leaves.failures)
unwritten_after a b c know wires.Write leaves why =
    (why.0, (why.1.0, why.1.1, appends_after a.bytes b.bytes c.bytes (take why.1.0 (frame_of know)) leaves.bytes why.1.2), why.2 ∙ ap one_more leaves.failures)
unwritten_after a b c know wires.Memory leaves why = absurd why
unwritten_after a b c know wires.Read leaves why = absurd why
unwritten_after a b c know wires.Magic leaves why = absurd why
unwritten_after a b c know wires.Version leaves why = absurd why
unwritten_after a b c know wires.Short leaves why = absurd why
unwritten_after a b c know wires.Order leaves why = absurd why
unwritten_after a b c know wires.Content leaves why = absurd why
unwritten_after a b c know wires.Rest leaves why = absurd why

-- ---- a frame that is read

pub got_then : (a b c : Side) (heard : View) → Got a b heard → LeavesSide b c → Got a c heard
got_then a b c heard got leaves =
    ((got.0.0, consumes_then a.bytes b.bytes c.bytes (frame_as got.0.0 (entries heard)) got.0.1 leaves.bytes, got.0.2), leaves.failures ∙ got.1)

got_after : (a b c : Side) (heard : View) → LeavesSide a b → Got b c heard → Got a c heard
got_after a b c heard leaves got =
    ((got.0.0, consumes_after a.bytes b.bytes c.bytes (frame_as got.0.0 (entries heard)) leaves.bytes got.0.1, got.0.2), got.1 ∙ leaves.failures)

-- the bytes begin with no frame, for this cause
abbrev blames : WireFault → List ℕ → Type 0
blames fault bytes = frame_at bytes ≡ Err fault

-- why no frame was read, where the bytes are the cause
no_frame_after : (a b : Side) (now : ℕ) (P : List ℕ → Type 0) → LeavesSide a b → (now ≡ b.failures) × IfSome b.bytes P → (now ≡ a.failures) × IfSome a.bytes P
no_frame_after a b now P leaves why = (why.0 ∙ leaves.failures, told_after a.bytes b.bytes P leaves.bytes why.1)

unread_after : (a b : Side) (now : ℕ) (fault : WireFault) → LeavesSide a b → IsUnread b.bytes b.failures now fault → IsUnread a.bytes a.failures now fault
unread_after a b now wires.Memory leaves why = why ∙ leaves.failures
unread_after a b now wires.Read leaves why = why ∙ ap one_more leaves.failures
unread_after a b now wires.Write leaves why = absurd why
unread_after a b now wires.Magic leaves why = no_frame_after a b now (blames wires.Magic) leaves why
unread_after a b now wires.Version leaves why = no_frame_after a b now (blames wires.Version) leaves why
unread_after a b now wires.Length leaves why = no_frame_after a b now (blames wires.Length) leaves why
unread_after a b now wires.Short leaves why = no_frame_after a b now (blames wires.Short) leaves why
unread_after a b now wires.Order leaves why = no_frame_after a b now (blames wires.Order) leaves why
unread_after a b now wires.Content leaves why = no_frame_after a b now (blames wires.Content) leaves why
unread_after a b now wires.Rest leaves why = no_frame_after a b now (blames wires.Rest) leaves why

within_after : (a b c : Side) → LeavesSide a b → StaysWithin b.bytes c.bytes → StaysWithin a.bytes c.bytes
within_after a b c leaves within = (within.0, within.1, consumes_after a.bytes b.bytes c.bytes within.0 leaves.bytes within.2)

-- What was read after a write was read of the stream as it was before.
pub gets_after : (a b c : Side) (r : Result View ExchangeFault) → LeavesSide a b → GetsFrame b c r → GetsFrame a c r
gets_after a b c (Ok heard) leaves gets = got_after a b c heard leaves gets
gets_after a b c (Err (Read fault)) leaves gets = (unread_after a b c.failures fault leaves gets.0, within_after a b c leaves gets.1)
gets_after a b c (Err (Write fault)) leaves gets = absurd gets
gets_after a b c (Err (Merge fault)) leaves gets = absurd gets

-- ---- both halves

-- a half that is said to be left is that half
pub leaves_half : (a b c d : Side) → a ≡ c → b ≡ d → LeavesSide a b → LeavesSide c d
leaves_half a b c d p q leaves = subst (λ (x : Side). LeavesSide x d) p (subst (λ (y : Side). LeavesSide a y) q leaves)
