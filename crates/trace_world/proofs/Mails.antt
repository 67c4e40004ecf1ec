-- A mail is a frame, so reading it fails only for want of memory.
use Rattle.std.proofs.Common.{◌≡◌, ℕ, List, [], ◌++◌, Ok, Err, IfOk, IfErr, Result, Option, Some, None, refl, sym, ap, ◌∙◌, arith, subst}
use Rattle.std.specs.FinMap.{entries}
use Rattle.std.proofs.lemmas.List.{append-nil}
use Rattle.trace_wire.specs.declared.fault.WireFault.{WireFault}
use Rattle.trace_wire.specs.declared.fault.WireFault.TheVariants.{Memory, Read, Write, Magic, Version, Length, Short, Order, Content, Rest}
use Rattle.trace_wire.specs.FirstFault.{frame_at}
use Rattle.trace_wire.specs.declared.version.Version as versions
use Rattle.trace_wire.specs.declared.version.Version.TheVariants.{Two}
use Rattle.trace_wire.specs.Cells.{Entry}
use Rattle.trace_wire.specs.Frames.{HasFrameAs, frame, frame_as}
use Rattle.trace_wire.specs.Reading.{IsUnread, ReadsFrame}
use Rattle.trace_know.specs.View.{View}
use Rattle.trace_wire.specs.Frames.{frame_of, HasFrame}
use Rattle.trace_world.specs.Refusals.{IsFrameFault}
use Rattle.trace_world.specs.Worlds.{IsFrame}
use Rattle.trace_world.specs.declared.step.WorldFault as faults
use Rattle.trace_world.specs.declared.step.WorldFault.TheVariants as faults_of

-- where a frame stands in front nothing is refused, as `frame_laws` tells
abbrev pub NoRefusalLaw : Type 0
NoRefusalLaw = (version : versions.Version) (bytes rest : List ℕ) (es : List Entry) (fault : WireFault) → HasFrameAs version es → bytes ≡ frame_as version es ++ rest → frame_at bytes ≡ Err fault → ⊥

-- no frame begins another, as `frame_laws` tells
abbrev pub OneFrontLaw : Type 0
OneFrontLaw = (one other : versions.Version) (es fs : List Entry) (more : List ℕ) → HasFrameAs one es → HasFrameAs other fs → frame_as other fs ≡ frame_as one es ++ more → (other ≡ one) × (fs ≡ es) × (more ≡ [])

-- what was read of a mail is what it is the frame of
pub one_mail : OneFrontLaw → (bytes : List ℕ) (left : Option (List ℕ)) (es : List Entry) → IsFrame bytes → ReadsFrame (Some bytes) left es → bytes ≡ frame es
one_mail law bytes None es is read = absurd read.1
one_mail law bytes (Some rest) es is read = is.1 ∙ ap frame (law read.0 Two es (entries is.0) rest read.2 is.2 (sym is.1 ∙ read.1)).1

-- a frame is not refused
unrefused : NoRefusalLaw → (bytes : List ℕ) (fault : WireFault) → IsFrame bytes → frame_at bytes ≡ Err fault → ⊥
unrefused law bytes fault is refused = law Two bytes [] (entries is.0) fault is.2 (is.1 ∙ sym (append-nil (frame (entries is.0)))) refused

-- a frame that could not be read, by a reader that never fails
pub only_memory : NoRefusalLaw → (bytes : List ℕ) (fault : WireFault) → IsFrame bytes → IsUnread (Some bytes) 0 0 fault → fault ≡ Memory
only_memory law bytes Memory is h = refl
only_memory law bytes Read is h = absurd (omega (arith, h))
only_memory law bytes Write is h = absurd h
only_memory law bytes Magic is h = absurd (unrefused law bytes Magic is h.1)
only_memory law bytes Version is h = absurd (unrefused law bytes Version is h.1)
only_memory law bytes Length is h = absurd (unrefused law bytes Length is h.1)
only_memory law bytes Short is h = absurd (unrefused law bytes Short is h.1)
only_memory law bytes Order is h = absurd (unrefused law bytes Order is h.1)
only_memory law bytes Content is h = absurd (unrefused law bytes Content is h.1)
only_memory law bytes Rest is h = absurd (unrefused law bytes Rest is h.1)

-- a mail that holds a frame
pub held_frame : (r : Result (List ℕ) faults.WorldFault) (bytes : List ℕ) (know : View) → bytes ≡ frame_of know → HasFrame (entries know) → IfOk r (λ m. m ≡ bytes) → IfOk r (λ m. (m ≡ frame_of know) × HasFrame (entries know))
held_frame (Ok m) bytes know is framed h = (h ∙ is, framed)
held_frame (Err fault) bytes know is framed h = h

-- there was no memory for a mail
pub held_fault : (r : Result (List ℕ) faults.WorldFault) (know : View) → HasFrame (entries know) → IfErr r (λ fault. fault ≡ faults_of.Memory) → IfErr r (λ fault. IsFrameFault know fault)
held_fault (Ok m) know framed h = h
held_fault (Err fault) know framed h = subst (IsFrameFault know) (sym h) framed.1
