-- The texts of the ranks, by their places.
use Rattle.std.proofs.Common.{◌≡◌, ◌+◌, ◌<◌, ◌++◌, ◌∷◌, [], ℕ, List, Option, None, Some, String, Global, ap, get_or, length, option_map, string_bytes, subst, sym, take, ◌∙◌}
use Rattle.std.proofs.lemmas.List.{get_or-map, get_or_default, length-map, take_more}
use Rattle.std.proofs.lemmas.Option.{slice_get-get_or}
use Rattle.std.specs.List.{slice_get}
use Rattle.text_layouts.specs.Seats.{kept}
use Rattle.run_inputs.specs.TextReads.{IsTextRead, text_of_rank}
use Rattle.run_inputs.specs.declared.load.text_reads.TextRead.{TextRead}

kept_length : (seats : List (Option (String Global))) → length (kept seats) ≡ length seats
kept_length seats = length-map seats (option_map string_bytes)

-- the text of the rank of a place
pub text_at : (seats : List (Option (String Global))) (rank : ℕ) (seat : Option (String Global)) → rank < length seats → seat ≡ get_or seats rank seat
    → option_map string_bytes seat ≡ text_of_rank seats rank
text_at seats rank seat lt is =
    ap (option_map string_bytes) (is ∙ get_or_default seats rank seat None lt) ∙ sym (get_or-map (option_map string_bytes) seats rank None None lt)

-- so it was read, if it was read where it stands
pub text_there : (file : List ℕ → Option (List ℕ)) (seats : List (Option (String Global))) (rank : ℕ) (seat : Option (String Global)) (read : TextRead)
    → rank < length seats → seat ≡ get_or seats rank seat → IsTextRead file (option_map string_bytes seat) read → IsTextRead file (text_of_rank seats rank) read
text_there file seats rank seat read lt is told = subst (λ (text : Option (List ℕ)). IsTextRead file text read) (text_at seats rank seat lt is) told

pub rank_there : (seats : List (Option (String Global))) (rank : ℕ) → rank < length seats → slice_get (kept seats) rank ≡ Some (text_of_rank seats rank)
rank_there seats rank lt = slice_get-get_or (kept seats) rank None (subst (λ (n : ℕ). rank < n) (sym (kept_length seats)) lt)

-- one rank more
pub rank_more : (seats : List (Option (String Global))) (rank : ℕ) → rank < length seats → take (rank + 1) (kept seats) ≡ take rank (kept seats) ++ text_of_rank seats rank ∷ []
rank_more seats rank lt = take_more (kept seats) rank None (subst (λ (n : ℕ). rank < n) (sym (kept_length seats)) lt)
