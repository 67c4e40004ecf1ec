-- A file that can't be opened, or read whole, as what it is refused for.
use Rattle.std.proofs.Common.{◌≡◌, ◌≢◌, ◌<◌, arith, inl, inr, ℕ, List, Option, Some, None, ap, length, refl, subst, sym}
use Rattle.std.proofs.lemmas.List.{length-append}
use Rattle.std.specs.Io.KnownBytes.{Consumes}
use Rattle.dumpi_text.specs.Failing.{Fails}
use Rattle.run_inputs.specs.Files.{IsLength, IsUnreadable, StandsAtFirst}
use Rattle.run_inputs.specs.Inputs.{IsNoWant, IsWholeFaultOf, RefusesFile, RefusesOpening}
use Rattle.run_inputs.specs.TextCalls.{RefusesText}
use Rattle.run_inputs.specs.declared.faults.fault.RunFault.{RunFault}
use Rattle.run_inputs.specs.declared.faults.fault.RunFault.TheVariants.{Memory, File, Json, Shape, PackedFrame, Layout, Missing, Wrong, Place, Rank, Outside, NodeCount, Step, Worker, Net, Frame, Write}
use Rattle.run_inputs.specs.declared.faults.fault.RunFault.TheVariants as faults
use Rattle.run_inputs.specs.Whole.{IsRefusedFor}
use Rattle.run_inputs.specs.declared.load.whole.WholeFault.{WholeFault}
use Rattle.run_inputs.specs.declared.load.whole.WholeFault.TheVariants as wholes
use Rattle.run_inputs.specs.declared.faults.init_fault.InitFault.TheVariants.{Text}

pub file_unopened : (most : ℕ) (fails : Type 0) (name : List ℕ) (file : Option (List ℕ)) (fault : RunFault) → RefusesOpening name file fault → RefusesFile most fails name file fault
file_unopened most fails name file fault (inl e) = inl e
file_unopened most fails name file fault (inr h) = inr (h.0, h.1, h.2, subst (λ (f : Option (List ℕ)). IsUnreadable most fails f) (sym h.3) tt)

pub text_unopened : (name : List ℕ) (text : Option (List ℕ)) (fault : RunFault) → RefusesOpening name text fault → fault ≢ Memory → RefusesText name text (Text fault)
text_unopened name text fault (inl e) other = absurd (other e)
text_unopened name text fault (inr h) other = inl (h.0, h.1, h.2, h.3)

-- more was taken than a file may have
longer : (most : ℕ) (bytes : List ℕ) (rest : Option (List ℕ)) (taken : List ℕ) → Consumes (Some bytes) rest taken → most < length taken → most < length bytes
longer most bytes None taken consumes more = absurd consumes
longer most bytes (Some rest) taken consumes more = omega (arith, more, ap length consumes, length-append taken rest)

whole_unread : {R : Type 0} (most : ℕ) (file : Option (List ℕ)) (left : R → Option (List ℕ)) (failures : R → ℕ) (old new : R) (cause : WholeFault)
    → StandsAtFirst file (left old) → IsRefusedFor most left failures old new cause → IsNoWant cause → IsUnreadable most (Fails failures) file
whole_unread most None left failures old new cause stands refused other = tt
whole_unread most (Some bytes) left failures old new wholes.Memory stands refused other = absurd other
whole_unread most (Some bytes) left failures old new wholes.Failed stands refused other = inl (old, new, refused)
whole_unread most (Some bytes) left failures old new wholes.TooLong stands refused other =
    inr (longer most bytes (left new) refused.0 (subst (λ (l : Option (List ℕ)). Consumes l (left new) refused.0) stands refused.1) refused.2)

-- a file that isn't read whole
pub whole_refused : {R : Type 0} (most : ℕ) (name : List ℕ) (file : Option (List ℕ)) (left : R → Option (List ℕ)) (failures : R → ℕ) (old new : R) (cause : WholeFault)
    (fault : RunFault) → StandsAtFirst file (left old) → IsRefusedFor most left failures old new cause → IsWholeFaultOf name cause fault
    → RefusesFile most (Fails failures) name file fault
whole_refused most name file left failures old new cause Memory stands refused is = inl refl
whole_refused most name file left failures old new cause (File path) stands refused is =
    inr (path, refl, is.0, whole_unread most file left failures old new cause stands refused is.1)
whole_refused most name file left failures old new cause (Json path at along) stands refused is = absurd is
whole_refused most name file left failures old new cause (Shape path field) stands refused is = absurd is
whole_refused most name file left failures old new cause (faults.Piece path) stands refused is = absurd is
whole_refused most name file left failures old new cause (faults.Packed path) stands refused is = absurd is
whole_refused most name file left failures old new cause (PackedFrame kind path frame) stands refused is = absurd is
whole_refused most name file left failures old new cause (Layout broken path) stands refused is = absurd is
whole_refused most name file left failures old new cause (faults.Text kind path line) stands refused is = absurd is
whole_refused most name file left failures old new cause (Missing parameter path line) stands refused is = absurd is
whole_refused most name file left failures old new cause (Wrong parameter path line) stands refused is = absurd is
whole_refused most name file left failures old new cause (Place path) stands refused is = absurd is
whole_refused most name file left failures old new cause (Rank path) stands refused is = absurd is
whole_refused most name file left failures old new cause Outside stands refused is = absurd is
whole_refused most name file left failures old new cause NodeCount stands refused is = absurd is
whole_refused most name file left failures old new cause (Step broken step) stands refused is = absurd is
whole_refused most name file left failures old new cause Worker stands refused is = absurd is
whole_refused most name file left failures old new cause Net stands refused is = absurd is
whole_refused most name file left failures old new cause (Frame broken) stands refused is = absurd is
whole_refused most name file left failures old new cause Write stands refused is = absurd is

-- nothing is told of the bytes of a file
pub untold_stands : (file left : Option (List ℕ)) → file ≡ None → StandsAtFirst file left
untold_stands None left e = tt
untold_stands (Some bytes) left e = absurd (cc e)

pub untold_length : (file : Option (List ℕ)) (count : ℕ) → file ≡ None → IsLength file count
untold_length None count e = tt
untold_length (Some bytes) count e = absurd (cc e)
