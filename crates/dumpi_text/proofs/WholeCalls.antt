-- What a call means that stands whole in front of a text.
use Rattle.std.proofs.Common.{◌≡◌, ℕ, ◌+◌, ◌<◌, ◌≤◌, true, false, eqb, List, [], ◌∷◌, ◌++◌, length, nat_lt, Option, Some, None, refl, sym, ap, ◌∙◌, append_assoc, arith}
use Rattle.std.proofs.lemmas.List.{append-nil}
use Rattle.std.proofs.lemmas.Grind.{common_steps}
use Rattle.std.specs.Io.KnownBytes.{prepend_known}
use Rattle.mpi_model.specs.Times.{Times}
use Rattle.dumpi_text.specs.Call.{CallContent, Param, same_bytes}
use Rattle.dumpi_text.specs.Effects.{Opening, Taken, Stays, by_kind, count_line, more_params, step, with_param, within_limit}
use Rattle.dumpi_text.specs.Grammar.{follow, meaning_of, with_call}
use Rattle.dumpi_text.specs.Next.{IsNext}
use Rattle.dumpi_text.specs.Stamps.{Kind, Entering, Returning, Other, kind_of}
use Rattle.dumpi_text.specs.Usual.{HasCall, HasLine, Tells, TellsAll, call_after, lines_of, place_after}
use Rattle.dumpi_text.specs.Words.{trimmed, without_last}
use Rattle.dumpi_text.specs.declared.step.Position.{Position}
use Rattle.dumpi_text.proofs.Meanings.{whole_line}

pub feed_apart : (line rest more : List ℕ) → (line ++ 10 ∷ rest) ++ more ≡ (line ++ 10 ∷ []) ++ (rest ++ more)
feed_apart line rest more = append_assoc line (10 ∷ rest) more ∙ sym (append_assoc line (10 ∷ []) (rest ++ more))

not_above : (n limit : ℕ) → n ≤ limit → nat_lt limit n ≡ false
not_above n limit h = grind (arith, common_steps)

same_self : (name : List ℕ) → same_bytes name name ≡ true
same_self [] = refl
same_self (b ∷ bs) = let itself : eqb b b ≡ true = grind arith in rw itself (same_self bs)

-- what a line does that isn't too long, by its kind
step_is : (at : Position) (current : Option Opening) (line : List ℕ) (kind : Kind) → length line ≤ 65536 → kind_of (trimmed (without_last 13 line)) ≡ kind
    → step at current line ≡ within_limit (by_kind (count_line at) current kind)
unfolding step
step_is at current line kind short is = rw (not_above (length line) 65536 short, is) refl

line_means : (at : Position) (current : Option Opening) (kind : Kind) (text rest more : List ℕ) → HasLine kind text rest
    → meaning_of at current (text ++ more) ≡ follow (within_limit (by_kind (count_line at) current kind)) (λ next still. meaning_of next still (rest ++ more))
line_means at current kind text rest more h =
    ap (λ (t : List ℕ). meaning_of at current (t ++ more)) h.front.whole
    ∙ ap (meaning_of at current) (feed_apart h.line rest more)
    ∙ whole_line at current h.line (rest ++ more) h.front.one
    ∙ ap (λ (t : Taken × Position). follow t (λ next still. meaning_of next still (rest ++ more))) (step_is at current h.line kind h.front.short h.is)

-- the entering line
entered : (at : Position) (name text rest more : List ℕ) (enter : Times) → HasLine (Entering name enter) text rest → at.line + 1 ≤ 16777216
    → meaning_of at None (text ++ more) ≡ meaning_of (record { line = at.line + 1; skipped = at.skipped; first_skipped = at.first_skipped; entered = enter.wall }) (Some (record { content = record { name = name; params = [] }; enter = enter; line = at.line + 1 })) (rest ++ more)
entered at name text rest more enter h lines =
    line_means at None (Entering name enter) text rest more h ∙ rw (not_above (at.line + 1) 16777216 lines) refl

-- a call with one parameter more
abbrev more : Opening → Param → Opening
more current param = record current { content = more_params current.content param }

put : (at : Position) (current : Opening) (name value : List ℕ) → 0 < length name → with_param at current (Some (name, value)) ≡ (Stays (Some (more current (record { name = name; value = value }))), at)
put at current [] value some = absurd (omega arith)
put at current (b ∷ bs) value some = refl

-- a parameter's line
told : (at : Position) (current : Opening) (param : Param) (text rest after : List ℕ) → Tells param text rest → at.line + 1 ≤ 16777216
    → meaning_of at (Some current) (text ++ after) ≡ meaning_of (count_line at) (Some (more current param)) (rest ++ after)
told at current param text rest after h lines =
    line_means at (Some current) (Other h.content) text rest after h.line
    ∙ rw (h.parameter, put (count_line at) current param.name param.value h.named, not_above (at.line + 1) 16777216 lines) refl

-- the place after the lines of parameters, and the call with them
abbrev after_lines : Position → List Param → Position
after_lines at [] = at
after_lines at (param ∷ params) = after_lines (count_line at) params

abbrev with_all : Opening → List Param → Opening
with_all current [] = current
with_all current (param ∷ params) = with_all (more current param) params

all_told : (at : Position) (current : Opening) (params : List Param) (text rest after : List ℕ) → TellsAll params text rest → at.line + length params ≤ 16777216
    → meaning_of at (Some current) (text ++ after) ≡ meaning_of (after_lines at params) (Some (with_all current params)) (rest ++ after)
all_told at current [] text rest after h lines = ap (λ (t : List ℕ). meaning_of at (Some current) (t ++ after)) h
all_told at current (param ∷ params) text rest after h lines =
    told at current param text h.0 after h.1 (omega arith)
    ∙ all_told (count_line at) (more current param) params h.0 rest after h.2 (omega arith)

lines_counted : (at : Position) (params : List Param) → after_lines at params ≡ record at { line = at.line + length params }
lines_counted at [] = let same : at.line ≡ at.line + 0 = omega arith in ap (λ (line : ℕ). record at { line = line }) same
lines_counted at (param ∷ params) =
    let same : at.line + 1 + length params ≡ at.line + length (param ∷ params) = omega arith in
    lines_counted (count_line at) params ∙ ap (λ (line : ℕ). record at { line = line }) same

all_put : (current : Opening) (params : List Param) → with_all current params ≡ record current { content = record current.content { params = current.content.params ++ params } }
all_put current [] = ap (λ (params : List Param). record current { content = record current.content { params = params } }) (sym (append-nil current.content.params))
all_put current (param ∷ params) =
    all_put (more current param) params
    ∙ ap (λ (params : List Param). record current { content = record current.content { params = params } }) (append_assoc current.content.params (param ∷ []) params)

-- the returning line
returned : (at : Position) (current : Opening) (text rest after : List ℕ) (exit : Times) → HasLine (Returning current.content.name exit) text rest → at.line + 1 ≤ 16777216
    → meaning_of at (Some current) (text ++ after)
    ≡ with_call (record { name = current.content.name; params = current.content.params; enter = current.enter; exit = Some exit; line = current.line; last_line = at.line + 1; threads = false }) (meaning_of (count_line at) None (rest ++ after))
returned at current text rest after exit h lines =
    line_means at (Some current) (Returning current.content.name exit) text rest after h
    ∙ rw (same_self current.content.name, not_above (at.line + 1) 16777216 lines) refl

-- all of the call
call_means : (at : Position) (content : CallContent) (enter exit : Times) (text rest after : List ℕ) → HasCall content enter exit text rest → at.line + lines_of content ≤ 16777216
    → meaning_of at None (text ++ after) ≡ with_call (call_after at content enter exit) (meaning_of (place_after at (lines_of content) enter) None (rest ++ after))
call_means at content enter exit text rest after h lines =
    let first : Position = record { line = at.line + 1; skipped = at.skipped; first_skipped = at.first_skipped; entered = enter.wall } in
    let current : Opening = record { content = record { name = content.name; params = [] }; enter = enter; line = at.line + 1 } in
    let last : Position = record first { line = first.line + length content.params } in
    let whole : Opening = record { content = content; enter = enter; line = at.line + 1 } in
    let end : last.line + 1 ≡ at.line + lines_of content = omega arith in
    entered at content.name text h.inside after enter h.enters (omega arith)
    ∙ all_told first current content.params h.inside h.after after h.tells (omega arith)
    ∙ ap (λ (p : Position). meaning_of p (Some (with_all current content.params)) (h.after ++ after)) (lines_counted first content.params)
    ∙ ap (λ (o : Opening). meaning_of last (Some o) (h.after ++ after)) (all_put current content.params)
    ∙ returned last whole h.after rest after exit h.returns (omega arith)
    ∙ ap (λ (line : ℕ). with_call (record { name = content.name; params = content.params; enter = enter; exit = Some exit; line = at.line + 1; last_line = line; threads = false }) (meaning_of (record { line = line; skipped = at.skipped; first_skipped = at.first_skipped; entered = enter.wall }) None (rest ++ after))) end

-- such a call is the text's next
pub call_is_next : (at : Position) (content : CallContent) (enter exit : Times) (text rest : List ℕ) (left : Option (List ℕ)) → HasCall content enter exit text rest → at.line + lines_of content ≤ 16777216
    → IsNext at (prepend_known text left) (Some (call_after at content enter exit)) (place_after at (lines_of content) enter) (prepend_known rest left)
call_is_next at content enter exit text rest None h lines = tt
call_is_next at content enter exit text rest (Some after) h lines = call_means at content enter exit text rest after h lines
