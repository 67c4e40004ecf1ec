-- The first bytes of a text.
use Rattle.std.proofs.Common.{◌≡◌, ◌∙◌, ◌≤◌, ◌++◌, ℕ, List, Option, Some, None, ap, sym, length, take, append-nil}
use Rattle.std.proofs.Math.Seq.{take-append_seam}
use Rattle.std.proofs.lemmas.List.{take_all}
use Rattle.std.specs.Io.KnownBytes.{Consumes, IsAtEnd}
use Rattle.text_notes.specs.Starts.{IsStartOf, start_in}
use Rattle.text_notes.specs.declared.start.Start.{Start}
use Rattle.text_notes.specs.declared.start.TheConstants.{LONGEST_FRONT}

-- so many bytes were read
pub starts_full : (left new : Option (List ℕ)) (front : List ℕ) (start : Start) → Consumes left new front → length front ≡ LONGEST_FRONT → start ≡ start_in front → IsStartOf left start
starts_full None new front start h len is = tt
starts_full (Some text) None front start h len is = absurd h
starts_full (Some text) (Some rest) front start h len is =
    is ∙ ap start_in (sym (ap (take LONGEST_FRONT) h ∙ ap (λ (n : ℕ). take n (front ++ rest)) (sym len) ∙ take-append_seam front rest))

-- the text has no more
pub starts_short : (left new : Option (List ℕ)) (front : List ℕ) (start : Start) → Consumes left new front → IsAtEnd new → length front ≤ LONGEST_FRONT → start ≡ start_in front → IsStartOf left start
starts_short None new front start h end len is = tt
starts_short (Some text) None front start h end len is = absurd h
starts_short (Some text) (Some rest) front start h end len is =
    let all : text ≡ front = h ∙ ap (λ (l : List ℕ). front ++ l) end ∙ append-nil front in
    is ∙ ap start_in (sym (ap (take LONGEST_FRONT) all ∙ take_all LONGEST_FRONT front len))
