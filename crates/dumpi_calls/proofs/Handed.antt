-- Calls that are handed on, one call more.
use Rattle.std.proofs.Common.{◌≡◌, ◌∙◌, ◌+◌, ◌++◌, ◌∷◌, [], ℕ, List, length-append, Option, Some, None, Result, Ok, Err, ap, sym, refl, inl, arith}
use Rattle.dumpi_text.specs.Call.{TextCall}
use Rattle.dumpi_calls.specs.Rows.{Row, row_of, typed}
use Rattle.dumpi_calls.specs.Seen.{Seen, after, seen_by, seen_in, with_seen}
use Rattle.dumpi_text.specs.Grammar.{start}
use Rattle.dumpi_text.specs.declared.standing.TextStanding.TheVariants.{Reading}
use Rattle.dumpi_text.specs.Reading.{StartsUnread}
use Rattle.dumpi_calls.specs.Walks.{HandedOn, IsRead, IsStopped, Takes, open_line, unfinished_line}
use Rattle.dumpi_calls.specs.declared.fault.WalkCause.TheVariants.{Memory}
use Rattle.dumpi_calls.specs.declared.parameter.CallFault.{CallFault}
use Rattle.dumpi_calls.specs.declared.typing.TypedCall.{TypedCall}

-- the state after one call more
pub after_push : {S : Type 0} → (step : S → Seen → S) (state : S) (calls : List Seen) (call : Seen) → after step state (calls ++ call ∷ []) ≡ step (after step state calls) call
after_push step state [] call = refl
after_push step state (c ∷ cs) call = after_push step (step state c) cs call

-- what is seen of a first call and of the rest, which goes on
joined : (row : Row) (first : Result TypedCall CallFault) (old new : Option (List Seen)) (seen : List Seen) (one : Seen)
    → with_seen row first old ≡ Some seen → ((others : List Seen) → old ≡ Some others → new ≡ Some (others ++ one ∷ []))
    → with_seen row first new ≡ Some (seen ++ one ∷ [])
joined row (Err fault) old new seen one e step = cc
joined row (Ok call) None new seen one e step = cc
joined row (Ok call) (Some others) new seen one e step =
    let same : seen_by row call ∷ others ≡ seen = cc in
    ap (with_seen row (Ok call)) (step others refl) ∙ ap (λ (all : List Seen). Some (all ++ one ∷ [])) same

-- one call is seen after none
some_one : (seen : List Seen) (one : Seen) → Some [] ≡ Some seen → Some (one ∷ []) ≡ Some (seen ++ one ∷ [])
some_one [] one e = refl
some_one (s ∷ ss) one e = cc

-- what is seen of one call more
pub one_more : (calls : List TextCall) (raw : TextCall) (seen : List Seen) (call : TypedCall)
    → seen_in calls ≡ Some seen → typed raw ≡ Ok call → seen_in (calls ++ raw ∷ []) ≡ Some (seen ++ seen_by (row_of raw) call ∷ [])
one_more [] raw seen call e t = ap (λ (r : Result TypedCall CallFault). with_seen (row_of raw) r (Some [])) t ∙ some_one seen (seen_by (row_of raw) call) e
one_more (c ∷ cs) raw seen call e t =
    joined (row_of c) (typed c) (seen_in cs) (seen_in (cs ++ raw ∷ [])) seen (seen_by (row_of raw) call) e (λ others h. one_more cs raw others call h t)

-- at first no call was handed on
pub nothing_handed : {S : Type 0} → (step : S → Seen → S) (state : S) → HandedOn step [] state state 0
nothing_handed step state = record { seen = []; typed_as = refl; state = refl; counted = refl }

-- the sink took one call more
pub one_handed : {S : Type 0} → (step : S → Seen → S) (calls : List TextCall) (raw : TextCall) (old mid new : S) (count : ℕ)
    → HandedOn step calls old mid count → Takes step raw mid new → HandedOn step (calls ++ raw ∷ []) old new (count + 1)
one_handed {S = S} step calls raw old mid new count h t = record {
  seen = h.seen ++ seen_by (row_of raw) t.call ∷ [];
  typed_as = one_more calls raw h.seen t.call h.typed_as t.typed_as;
  state = t.state ∙ ap (λ (s : S). step s (seen_by (row_of raw) t.call)) h.state ∙ sym (after_push step old h.seen (seen_by (row_of raw) t.call));
  counted = omega (arith, h.counted, length-append calls (raw ∷ []));
}

-- the line of the last call, where it has not returned, after one more
pub last_unfinished : (calls : List TextCall) (raw : TextCall) → unfinished_line (calls ++ raw ∷ []) ≡ open_line raw
last_unfinished [] raw = refl
last_unfinished (c ∷ []) raw = refl
last_unfinished (c ∷ d ∷ cs) raw = last_unfinished (d ∷ cs) raw

-- there was no memory to begin with
pub not_begun : {S F : Type 0} → StartsUnread → (step : S → Seen → S) (text : Option (List ℕ)) (state : S) → IsStopped {S = S} {F = F} step text state state (record { cause = Memory; line = 0; calls = 0 })
not_begun unread step text state = record { calls = []; handed = nothing_handed step state; stops = inl (start, text, unread text, refl) }

-- a text of which nothing was read yet
pub is_begun : (text : Option (List ℕ)) (failures : ℕ) → IsRead text [] (record { rest = record { at_hand = []; left = text; failures = failures }; at = start; told = start; standing = Reading })
is_begun None failures = record { stands = inl (refl, tt); told = refl }
is_begun (Some text) failures = record { stands = inl (refl, refl); told = refl }
