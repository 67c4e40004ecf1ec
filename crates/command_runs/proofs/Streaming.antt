-- An output that is written as its lines come.
use Rattle.std.proofs.Common.{◌≡◌, ◌⊎◌, ◌∙◌, ◌+◌, ◌≤◌, ◌++◌, ◌∷◌, [], inl, inr, arith, ℕ, List, Option, Result, Ok, Err, IsErrAnd, length, refl, subst, sym, take}
use Rattle.std.specs.Io.KnownBytes.{Appends}
use Rattle.std.proofs.KnownBytes.{Keeps-refl}
use Rattle.std.proofs.Math.Seq.{take-length}
use Rattle.std.proofs.lemmas.List.{length-append, take-append-le}
use Rattle.mpi_model.specs.Failures.{HasFailed, one_more}
use Rattle.mpi_model.specs.Layouts.{Parts}
use Rattle.run_files.specs.Manifests.{ManifestParts, PieceParts}
use Rattle.trace_node.specs.Answer.{Answered}
use Rattle.run_inputs.specs.Files.{NamesFailed}
use Rattle.command_runs.specs.Nodes.{AnswersAll}
use Rattle.command_runs.specs.Pieces.{RefusesPiece}
use Rattle.command_runs.specs.Streams.{Grows, RanOn, WritesOn}
use Rattle.command_runs.specs.Tables.{IsTableOf, RefusesAgain}
use Rattle.run_inputs.specs.Writing.{BreaksOff}
use Rattle.run_inputs.specs.declared.faults.fault.RunFault.{RunFault}
use Rattle.run_inputs.specs.declared.faults.fault.RunFault.TheVariants.{Memory, Write}
use Rattle.command_runs.specs.declared.run.Outcome.{Outcome}
use Rattle.command_runs.proofs.Nodes.{appends_both, appends_none}

-- one failure more is one
pub has_failed : (before now : ℕ) → now ≡ one_more before → HasFailed before now
has_failed before now one = subst (λ (n : ℕ). one_more before ≤ n) (sym one) (omega arith)

-- it has grown, and the writer has not failed
abbrev pub Streams : {W : Type 0} → (W → Option (List ℕ)) → (W → ℕ) → W → W → Type 0
Streams written failures old new = Grows (written old) (written new) × (failures new ≡ failures old)

pub grows_none : (a : Option (List ℕ)) → Grows a a
grows_none a = ([], appends_none a)

pub grows_both : (a b c : Option (List ℕ)) → Grows a b → Grows b c → Grows a c
grows_both a b c p q = (p.0 ++ q.0, appends_both a b c p.0 q.0 p.1 q.1)

-- nothing was written yet
pub stays : {W : Type 0} (written : W → Option (List ℕ)) (failures : W → ℕ) (now : W) → Streams written failures now now
stays written failures now = (grows_none (written now), refl)

-- one part after another
pub streams_both : {W : Type 0} (written : W → Option (List ℕ)) (failures : W → ℕ) (a b c : W) → Streams written failures a b → Streams written failures b c → Streams written failures a c
streams_both written failures a b c p q = (grows_both (written a) (written b) (written c) p.0 q.0, q.1 ∙ p.1)

pub streams_on : {W T : Type 0} (r : Result T RunFault) (written : W → Option (List ℕ)) (failures : W → ℕ) (a b c : W) → Streams written failures a b
    → WritesOn r written failures b c → WritesOn r written failures a c
streams_on (Ok t) written failures a b c p q = streams_both written failures a b c p q
streams_on (Err fault) written failures a b c p q =
    (grows_both (written a) (written b) (written c) p.0 q.0, λ is. subst (λ (n : ℕ). HasFailed n (failures c)) p.1 (q.1 is))

-- a part that stopped, behind others
pub stopped_on : {W T : Type 0} (r : Result T RunFault) (fault : RunFault) (written : W → Option (List ℕ)) (failures : W → ℕ) (a b c : W) → IsErrAnd r (λ e. e ≡ fault)
    → Streams written failures a b → Grows (written b) (written c) × ((fault ≡ Write) → HasFailed (failures b) (failures c)) → WritesOn r written failures a c
stopped_on (Ok t) fault written failures a b c is p q = absurd is
stopped_on (Err e) fault written failures a b c is p q =
    (grows_both (written a) (written b) (written c) p.0 q.0, λ same. subst (λ (n : ℕ). HasFailed n (failures c)) p.1 (q.1 (sym is ∙ same)))

-- what is no failure of the writer stopped it
pub stopped_by : {W T : Type 0} (r : Result T RunFault) (fault : RunFault) (written : W → Option (List ℕ)) (failures : W → ℕ) (a b : W) → IsErrAnd r (λ e. e ≡ fault)
    → ((fault ≡ Write) → ⊥) → Streams written failures a b → WritesOn r written failures a b
stopped_by r fault written failures a b is other p = stopped_on r fault written failures a b b is p (grows_none (written b), λ same. absurd (other same))

-- want of memory, before anything was written
pub want_on : {W T : Type 0} (r : Result T RunFault) (written : W → Option (List ℕ)) (failures : W → ℕ) (now : W) → IsErrAnd r (λ e. e ≡ Memory) → WritesOn r written failures now now
want_on r written failures now is = stopped_by r Memory written failures now now is (λ same. absurd (cc same)) (stays written failures now)

-- ---- faults

-- no piece is refused for a writer
piece_unwritten : (name : List ℕ) (first : ℕ) (text : Option (List ℕ)) (fault : RunFault) → RefusesPiece name first text fault → (fault ≡ Write) → ⊥
piece_unwritten name first text fault h is = subst (λ (f : RunFault). RefusesPiece name first text f) is h

pub again_unwritten : (file : List ℕ → Option (List ℕ)) (pieces : List PieceParts) (fault : RunFault) → RefusesAgain file pieces fault → (fault ≡ Write) → ⊥
again_unwritten file pieces fault (inl memory) is = absurd (cc (memory, is))
again_unwritten file pieces fault (inr h) is = piece_unwritten h.0.file h.0.first (file h.0.file) fault h.2 is

pub want_unwritten : (fault : RunFault) → fault ≡ Memory → (fault ≡ Write) → ⊥
want_unwritten fault memory is = absurd (cc (memory, is))

-- why a rank's part stops, as why a second reading does
pub or_again : (file : List ℕ → Option (List ℕ)) (pieces : List PieceParts) (fault : RunFault) → (fault ≡ Write) ⊎ (fault ≡ Memory)
    → (fault ≡ Write) ⊎ RefusesAgain file pieces fault
or_again file pieces fault (inl write) = inl write
or_again file pieces fault (inr memory) = inr (inl memory)

-- neither names a reader that failed
pub own_untold : (fails : Type 0) (fault : RunFault) → (fault ≡ Write) ⊎ (fault ≡ Memory) → NamesFailed fails fault
own_untold fails fault (inl write) path line is = absurd (cc (write, is))
own_untold fails fault (inr memory) path line is = absurd (cc (memory, is))

-- ---- runs

-- the answer to all that the pieces tell is that of a table
pub is_table : (file : List ℕ → Option (List ℕ)) (l : Parts) (m : ManifestParts) (answer : Answered) (text : List ℕ) → AnswersAll file l m answer → IsTableOf file l m text
is_table file l m answer text h = (h.0, h.1, (answer, h.2))

-- a run that is refused before anything is written
pub refused_first : {W : Type 0} (Is : List ℕ → Type 0) (Refuses Later : RunFault → Type 0) (r : Result Outcome RunFault) (fault : RunFault)
    (written : W → Option (List ℕ)) (failures : W → ℕ) (now : W) → IsErrAnd r (λ e. e ≡ fault) → Refuses fault → RanOn Is Refuses Later r written failures now now
refused_first Is Refuses Later (Ok outcome) fault written failures now is h = absurd is
refused_first Is Refuses Later (Err e) fault written failures now is h = inr (inl (subst Refuses (sym is) h, Keeps-refl (written now)))

-- ..or while pieces are read again
pub refused_again : {W : Type 0} (Is : List ℕ → Type 0) (Refuses Later : RunFault → Type 0) (r : Result Outcome RunFault) (fault : RunFault)
    (written : W → Option (List ℕ)) (failures : W → ℕ) (now : W) → IsErrAnd r (λ e. e ≡ fault) → Later fault → RanOn Is Refuses Later r written failures now now
refused_again Is Refuses Later (Ok outcome) fault written failures now is h = absurd is
refused_again Is Refuses Later (Err e) fault written failures now is h = inr (inr (subst Later (sym is) h, grows_none (written now)))

-- what was written is the front of a longer text, and all texts are of this kind
broken_off : {W : Type 0} (Is : List ℕ → Type 0) (written : W → Option (List ℕ)) (failures : W → ℕ) (old new : W) → ((text : List ℕ) → Is text)
    → Grows (written old) (written new) → HasFailed (failures old) (failures new) → BreaksOff Is written failures old new
broken_off Is written failures old new all grew failed =
    let text = grew.0 in
    let longer : List ℕ = text ++ 0 ∷ [] in
    let total : length longer ≡ length text + 1 = length-append text (0 ∷ []) in
    let within : length text ≤ length text = omega arith in
    let front : take (length text) longer ≡ text = take-append-le (length text) text (0 ∷ []) within ∙ take-length text in
    ((longer, all longer, (length text, omega (arith, total), subst (λ (bs : List ℕ). Appends (written old) (written new) bs) (sym front) grew.1)), failed)

-- a run that stopped while it wrote
pub stopped_writing : {W : Type 0} (Is : List ℕ → Type 0) (Refuses Later : RunFault → Type 0) (r : Result Outcome RunFault) (fault : RunFault)
    (written : W → Option (List ℕ)) (failures : W → ℕ) (old new : W) → IsErrAnd r (λ e. e ≡ fault) → ((text : List ℕ) → Is text)
    → Grows (written old) (written new) × ((fault ≡ Write) → HasFailed (failures old) (failures new)) → (fault ≡ Write) ⊎ Later fault
    → RanOn Is Refuses Later r written failures old new
stopped_writing Is Refuses Later (Ok outcome) fault written failures old new is all grew why = absurd is
stopped_writing Is Refuses Later (Err e) fault written failures old new is all grew (inl write) =
    inl (is ∙ write, broken_off Is written failures old new all grew.0 (grew.1 write))
stopped_writing Is Refuses Later (Err e) fault written failures old new is all grew (inr later) =
    inr (inr (subst Later (sym is) later, grew.0))
