-- What packed files tell, one file more, and why one is refused.
use Rattle.std.proofs.Common.{◌≡◌, ◌∙◌, ◌+◌, ◌++◌, ◌∷◌, [], ℕ, List, Option, Some, None, IsSome, ap, append_assoc, arith, drop, length, sym, refl, subst, inl, inr, take}
use Rattle.std.proofs.lemmas.List.{take-append-drop}
use Rattle.std.specs.FinMap.{empty}
use Rattle.trace_know.specs.View.{View, cell, join}
use Rattle.trace_know.specs.declared.cell.Known.{Known}
use Rattle.trace_wire.specs.Packed.{IsOfRanks, RefusesCause, RefusesPacked, Unpacks}
use Rattle.trace_wire.specs.declared.fault.WireFault.TheVariants as wires
use Rattle.trace_wire.specs.declared.packed.fault.PackedCause.{PackedCause}
use Rattle.trace_wire.specs.declared.packed.fault.PackedCause.TheVariants as causes
use Rattle.trace_wire.specs.declared.packed.fault.PackedFault.{PackedFault}
use Rattle.run_files.specs.Manifests.{PackedParts}
use Rattle.run_inputs.specs.Files.{NamesFailed, StandsAtFirst}
use Rattle.command_runs.specs.Packed.{IsFrameFault, RefusesPackedFile, TellPacked}
use Rattle.run_inputs.specs.declared.faults.fault.RunFault.{RunFault}
use Rattle.run_inputs.specs.declared.faults.fault.RunFault.TheVariants.{Memory, File, Json, Shape, PackedFrame, Layout, Text, Missing, Wrong, Place, Rank, Outside, NodeCount, Step, Worker, Net, Frame, Write}
use Rattle.run_inputs.specs.declared.faults.fault.RunFault.TheVariants as faults
use Rattle.command_runs.proofs.Within.{JoinsCells, either_known}

-- ---- one file

-- what a reader at the first byte tells is what the file tells
pub file_told : (file left : Option (List ℕ)) (ranks count : ℕ) (view : View) → StandsAtFirst file left → count ≡ ranks → Unpacks count left view → Unpacks ranks file view
file_told None left ranks count view stands e tells = tt
file_told (Some bytes) left ranks count view stands e tells =
    subst (λ (n : ℕ). Unpacks n (Some bytes) view) e (subst (λ (l : Option (List ℕ)). Unpacks count l view) stands tells)

-- where no bytes are told, less is said of a refusal
untold : (ranks : ℕ) (left : Option (List ℕ)) (before now count : ℕ) (cause : PackedCause) → RefusesCause ranks left before now count cause
    → RefusesCause ranks None before now count cause
untold ranks left before now count (causes.Wire wires.Memory) h = h
untold ranks left before now count (causes.Wire wires.Read) h = h
untold ranks left before now count (causes.Wire wires.Write) h = h
untold ranks left before now count (causes.Wire wires.Magic) h = (h.0, tt)
untold ranks left before now count (causes.Wire wires.Version) h = (h.0, tt)
untold ranks left before now count (causes.Wire wires.Length) h = (h.0, inl tt)
untold ranks left before now count (causes.Wire wires.Short) h = (h.0, tt)
untold ranks left before now count (causes.Wire wires.Order) h = (h.0, tt)
untold ranks left before now count (causes.Wire wires.Content) h = (h.0, tt)
untold ranks left before now count (causes.Wire wires.Rest) h = (h.0, tt)
untold ranks left before now count causes.Rank h = (h.0, tt)

cause_told : (file left : Option (List ℕ)) (ranks before now count : ℕ) (cause : PackedCause) → StandsAtFirst file left → RefusesCause ranks left before now count cause
    → RefusesCause ranks file before now count cause
cause_told None left ranks before now count cause stands h = untold ranks left before now count cause h
cause_told (Some bytes) left ranks before now count cause stands h =
    subst (λ (l : Option (List ℕ)). RefusesCause ranks l before now count cause) stands h

-- what a reader at the first byte is refused for refuses the file
pub file_refused : (name : List ℕ) (ranks count : ℕ) (file left : Option (List ℕ)) (before now : ℕ) (fault : PackedFault) (run : RunFault) → StandsAtFirst file left
    → count ≡ ranks → RefusesPacked count left before now fault → IsFrameFault name fault run → RefusesPackedFile name ranks file run
file_refused name ranks count file left before now fault Memory stands e h is = tt
file_refused name ranks count file left before now fault (File path) stands e h is = absurd is
file_refused name ranks count file left before now fault (Json path at along) stands e h is = absurd is
file_refused name ranks count file left before now fault (Shape path field) stands e h is = absurd is
file_refused name ranks count file left before now fault (faults.Piece path) stands e h is = absurd is
file_refused name ranks count file left before now fault (faults.Packed path) stands e h is = absurd is
file_refused name ranks count file left before now fault (PackedFrame cause path frame) stands e h is = (
  is.0,
  (
    before,
    now,
    subst (λ (c : PackedCause). RefusesCause ranks file before now frame c) (sym is.1)
        (subst (λ (n : ℕ). RefusesCause ranks file before now n fault.cause) (sym is.2)
        (subst (λ (n : ℕ). RefusesCause n file before now fault.frame fault.cause) e (cause_told file left count before now fault.frame fault.cause stands h))),
  ),
)
file_refused name ranks count file left before now fault (Layout broken path) stands e h is = absurd is
file_refused name ranks count file left before now fault (Text cause path line) stands e h is = absurd is
file_refused name ranks count file left before now fault (Missing parameter path line) stands e h is = absurd is
file_refused name ranks count file left before now fault (Wrong parameter path line) stands e h is = absurd is
file_refused name ranks count file left before now fault (Place path) stands e h is = absurd is
file_refused name ranks count file left before now fault (Rank path) stands e h is = absurd is
file_refused name ranks count file left before now fault Outside stands e h is = absurd is
file_refused name ranks count file left before now fault NodeCount stands e h is = absurd is
file_refused name ranks count file left before now fault (Step broken step) stands e h is = absurd is
file_refused name ranks count file left before now fault Worker stands e h is = absurd is
file_refused name ranks count file left before now fault Net stands e h is = absurd is
file_refused name ranks count file left before now fault (Frame broken) stands e h is = absurd is
file_refused name ranks count file left before now fault Write stands e h is = absurd is

-- a packed file is no text whose reader fails
pub packed_untold : (fails : Type 0) (text : Option (List ℕ)) (name : List ℕ) (ranks : ℕ) (fault : RunFault) → RefusesPackedFile name ranks text fault → NamesFailed fails fault
packed_untold fails text name ranks fault h path line e = absurd (subst (RefusesPackedFile name ranks text) e h)

-- ---- one file more

abbrev pub Associates : Type 0
Associates = (a b c : View) → join (join a b) c ≡ join a (join b c)

abbrev pub Commutes : Type 0
Commutes = (a b : View) → join a b ≡ join b a

pub packed_more : Associates → Commutes → (file : List ℕ → Option (List ℕ)) (ranks : ℕ) (packed : List PackedParts) (piece : PackedParts) (view own new : View)
    → TellPacked file ranks packed view → Unpacks ranks (file piece.file) own → new ≡ join view own → TellPacked file ranks (packed ++ piece ∷ []) new
packed_more associative commutative file ranks [] piece view own new h tells e =
    (own, empty, tells, refl, e ∙ ap (λ (v : View). join v own) h ∙ commutative empty own)
packed_more associative commutative file ranks (p ∷ ps) piece view own new h tells e = (
  h.0,
  join h.1 own,
  h.2,
  packed_more associative commutative file ranks ps piece h.1 own (join h.1 own) h.3 tells refl,
  e ∙ ap (λ (v : View). join v own) h.4 ∙ associative h.0 h.1 own,
)

-- two views of ranks below a number, joined
pub of_both : JoinsCells → (ranks : ℕ) (a b : View) → IsOfRanks ranks a → IsOfRanks ranks b → IsOfRanks ranks (join a b)
of_both joins ranks a b one other rank place some =
    elim (either_known (cell a rank place) (cell b rank place) (subst (λ (c : Option Known). IsSome c) (joins a b rank place) some)) [
      | inl left ↦ one rank place left
      | inr right ↦ other rank place right
    ]

-- a list at one of its elements
pub cut_at : (packed : List PackedParts) (i : ℕ) (piece : PackedParts) → take (i + 1) packed ≡ take i packed ++ piece ∷ []
    → packed ≡ take i packed ++ piece ∷ drop (i + 1) packed
cut_at packed i piece e =
    sym (take-append-drop (i + 1) packed) ∙ ap (λ (ps : List PackedParts). ps ++ drop (i + 1) packed) e
    ∙ append_assoc (take i packed) (piece ∷ []) (drop (i + 1) packed)

-- no file tells nothing
pub none_told : (file : List ℕ → Option (List ℕ)) (ranks : ℕ) (packed : List PackedParts) (view : View) → length packed ≡ 0 → TellPacked file ranks packed view → view ≡ empty
none_told file ranks [] view none h = h
none_told file ranks (p ∷ ps) view none h = absurd (omega (arith, none))
