-- What holds of a reader's text holds of the file where it is told; and texts, one more.
use Rattle.std.proofs.Common.{◌≡◌, ◌++◌, ◌∷◌, ◌+◌, [], arith, min, ℕ, List, Option, Some, None, ap, refl, subst, true, false}
use Rattle.dumpi_calls.specs.declared.collect.Memory.{Memory as NoMemory}
use Rattle.dumpi_calls.specs.declared.fault.WalkFault.{WalkFault}
use Rattle.dumpi_calls.specs.declared.walking.Walked.{Walked}
use Rattle.comm_makings.specs.declared.calls.RankCalls.{RankCalls}
use Rattle.text_layouts.specs.Texts.{IsReadFrom, StopsIn}
use Rattle.run_inputs.specs.Files.{StandsAtFirst}
use Rattle.run_inputs.specs.TextCalls.{AllSay, HasNoCall, Says, SaysAt, StopsSo, is_no_text}

pub said : (file left : Option (List ℕ)) (rank : RankCalls) (walked : Walked) → StandsAtFirst file left → IsReadFrom left rank walked → is_no_text walked ≡ false
    → Says file rank walked.calls
said None left rank walked stands read is = tt
said (Some bytes) left rank walked stands read is = (walked, subst (λ (t : Option (List ℕ)). IsReadFrom t rank walked) stands read, is, refl)

pub refused : (file left : Option (List ℕ)) (fault : WalkFault NoMemory) → StandsAtFirst file left → StopsIn left fault → StopsSo file fault
refused None left fault stands stops = tt
refused (Some bytes) left fault stands stops = subst (λ (t : Option (List ℕ)). StopsIn t fault) stands stops

pub has_no_call : (file left : Option (List ℕ)) (rank : RankCalls) (walked : Walked) → StandsAtFirst file left → IsReadFrom left rank walked → is_no_text walked ≡ true → HasNoCall file
has_no_call None left rank walked stands read none = tt
has_no_call (Some bytes) left rank walked stands read none = (rank, walked, subst (λ (t : Option (List ℕ)). IsReadFrom t rank walked) stands read, none)

pub say_more : (file : List ℕ → Option (List ℕ)) (seats : List (Option (List ℕ))) (seat : Option (List ℕ)) (ranks : List RankCalls) (rank : RankCalls) (calls count : ℕ)
    → AllSay file seats ranks calls → SaysAt file seat rank count → AllSay file (seats ++ seat ∷ []) (ranks ++ rank ∷ []) (calls + count)
say_more file [] seat ranks rank calls count are says =
    (rank, [], count, 0, says, (refl, refl), ap (λ (rs : List RankCalls). rs ++ rank ∷ []) are.0, grind (arith, are.1))
say_more file (n ∷ ns) seat ranks rank calls count are says =
    (are.0, are.1 ++ rank ∷ [], are.2, are.3 + count, are.4, say_more file ns seat are.1 rank are.3 count are.5 says, ap (λ (rs : List RankCalls). rs ++ rank ∷ []) are.6, grind (arith, are.7))

-- counts that end at the greatest number
pub counted : (most total count : ℕ) → min (min total most + count) most ≡ min (total + count) most
counted most total count = grind (arith)
