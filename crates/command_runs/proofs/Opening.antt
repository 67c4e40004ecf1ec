-- A file that can't be opened, as what a piece or a packed file is refused for.
use Rattle.std.proofs.Common.{inl, inr, ℕ, List, Option, subst, sym}
use Rattle.command_runs.specs.Packed.{RefusesPackedFile}
use Rattle.command_runs.specs.Pieces.{RefusesPiece}
use Rattle.run_inputs.specs.Files.{NamesFailed}
use Rattle.run_inputs.specs.Inputs.{RefusesOpening}
use Rattle.run_inputs.specs.declared.faults.fault.RunFault.{RunFault}

-- no fault of a text
pub unopened_untold : (fails : Type 0) (name : List ℕ) (file : Option (List ℕ)) (fault : RunFault) → RefusesOpening name file fault → NamesFailed fails fault
unopened_untold fails name file fault (inl memory) path line is = absurd (cc (memory, is))
unopened_untold fails name file fault (inr h) path line is = let one = h.1 in absurd (cc (one, is))

pub piece_unopened : (name : List ℕ) (first : ℕ) (text : Option (List ℕ)) (fault : RunFault) → RefusesOpening name text fault → RefusesPiece name first text fault
piece_unopened name first text fault (inl e) = subst (λ (f : RunFault). RefusesPiece name first text f) (sym e) tt
piece_unopened name first text fault (inr h) = subst (λ (f : RunFault). RefusesPiece name first text f) (sym h.1) (h.2, h.3)

pub packed_unopened : (name : List ℕ) (ranks : ℕ) (bytes : Option (List ℕ)) (fault : RunFault) → RefusesOpening name bytes fault → RefusesPackedFile name ranks bytes fault
packed_unopened name ranks bytes fault (inl e) = subst (λ (f : RunFault). RefusesPackedFile name ranks bytes f) (sym e) tt
packed_unopened name ranks bytes fault (inr h) = subst (λ (f : RunFault). RefusesPackedFile name ranks bytes f) (sym h.1) (h.2, h.3)
