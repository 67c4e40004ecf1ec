-- What is written character by character.
use Rattle.std.specs.Prelude.{ℕ, List, [], ◌∷◌, ◌++◌, flat_map}
use Rattle.std.proofs.Common.{sym, ◌∙◌, ap}
use Rattle.std.specs.Fmt.{HasWritten}
use Rattle.std.specs.declared.fmt.Formatter.{Formatter}
use Rattle.std.proofs.lemmas.Grind.{put_two, flat_map-append}
use Rattle.std.proofs.lemmas.List.{append-nil}

pub writes_next : {W : Type 0} (took : W → List ℕ → W → Type 0) (text : ℕ → List ℕ) (f g h : Formatter W) (cs : List ℕ) (c : ℕ)
    → HasWritten took f (flat_map text cs) g → HasWritten took g (text c) h → HasWritten took f (flat_map text (cs ++ c ∷ [])) h
writes_next took text f g h cs c first then =
    put_two took f g h _ _ _ first then (ap (λ x. flat_map text cs ++ x) (sym (append-nil (text c))) ∙ sym (flat_map-append text cs (c ∷ [])))
