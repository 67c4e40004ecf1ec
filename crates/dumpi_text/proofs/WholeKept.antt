-- Calls that stand whole in front of a text, as far as they are kept while they are read.
use Rattle.std.proofs.Common.{◌≡◌, ℕ, suc, ◌+◌, ◌-◌, ◌≤◌, Bool, true, false, List, [], ◌∷◌, ◌++◌, length, drop, Option, Some, None, IsSome, refl, sym, ap, subst, ◌∙◌, append_assoc, length-append, arith}
use Rattle.std.proofs.Math.Seq.{drop-append_seam}
use Rattle.std.specs.Io.KnownBytes.{prepend_known}
use Rattle.mpi_model.specs.Times.{Times}
use Rattle.dumpi_text.specs.Call.{CallContent, Param, TextCall}
use Rattle.dumpi_text.specs.Effects.{Opening, call_of, opening}
use Rattle.dumpi_text.specs.Held.{with_one_more}
use Rattle.dumpi_text.specs.Kept.{Choice, IsNextKept, kept_after, kept_call}
use Rattle.dumpi_text.specs.Lines.{CountsLines, Split, whole_lines}
use Rattle.dumpi_text.specs.Next.{IsNext, IsReturned}
use Rattle.dumpi_text.specs.Shown.{opening_of}
use Rattle.dumpi_text.specs.Stamps.{Entering, Kind, Other, Returning}
use Rattle.dumpi_text.specs.Usual.{HasCall, HasLine, Tells, TellsAll, call_after, lines_of, place_after}
use Rattle.dumpi_text.specs.WholeKept.{EndsKept, PutsAll, PutsOne, StandsKept, with_kept}
use Rattle.dumpi_text.specs.declared.step.Position.{Position}
use Rattle.dumpi_text.proofs.Kept.{kept_one_more}
use Rattle.dumpi_text.proofs.Meanings.{split_line}
use Rattle.dumpi_text.proofs.WholeCalls.{call_is_next, feed_apart}

-- ---- parameter by parameter

-- a parameter that is kept
pub put_kept : (keep : Choice) (old new : TextCall) (name value text rest : List ℕ) (kept : Bool) → Tells (record { name = name; value = value }) text rest → kept ≡ keep old.name old.params name → kept ≡ true → new ≡ with_one_more old name value
    → PutsOne keep old new text rest
put_kept keep old new name value text rest kept tells kept_is is_true is =
    let keeps : keep old.name old.params name ≡ true = sym kept_is ∙ is_true in
    record { param = record { name = name; value = value }; tells = tells; kept = rw keeps is }

-- and one that isn't
pub put_passed : (keep : Choice) (old new : TextCall) (name value text rest : List ℕ) (kept : Bool) → Tells (record { name = name; value = value }) text rest → kept ≡ keep old.name old.params name → kept ≡ false → new ≡ old
    → PutsOne keep old new text rest
put_passed keep old new name value text rest kept tells kept_is is_false is =
    let passes : keep old.name old.params name ≡ false = sym kept_is ∙ is_false in
    record { param = record { name = name; value = value }; tells = tells; kept = rw passes is }

-- no parameter yet
pub puts_none : (keep : Choice) (call : TextCall) (text : List ℕ) → PutsAll keep call call 0 text text
puts_none keep call text = record { params = []; tells = refl; counted = refl; kept = refl }

tells_both : (first second : List Param) (text mid rest : List ℕ) → TellsAll first text mid → TellsAll second mid rest → TellsAll (first ++ second) text rest
tells_both [] second text mid rest a b = subst (λ (t : List ℕ). TellsAll second t rest) (sym a) b
tells_both (param ∷ first) second text mid rest a b = (a.0, a.1, tells_both first second a.0 mid rest a.2 b)

-- one parameter more
pub puts_more : (keep : Choice) (old mid new : TextCall) (count : ℕ) (text left rest : List ℕ) → PutsAll keep old mid count text left → PutsOne keep mid new left rest → PutsAll keep old new (count + 1) text rest
puts_more keep old mid new count text left rest all one = record {
  params = all.params ++ one.param ∷ [];
  tells = tells_both all.params (one.param ∷ []) text left rest all.tells (rest, one.tells, refl);
  counted = omega (arith, all.counted, length-append all.params (one.param ∷ []));
  kept = one.kept ∙ ap (λ (call : TextCall). with_kept keep call one.param) all.kept
      ∙ ap (λ (params : List Param). record old { params = params }) (sym (kept_one_more keep old.name old.params all.params one.param));
}

-- the returning line
pub ends_there : (keep : Choice) (old new : TextCall) (name : List ℕ) (count : ℕ) (exit : Times) (text left rest : List ℕ) → PutsAll keep old new count text left → HasLine (Returning name exit) left rest → EndsKept keep old new name count exit text rest
ends_there keep old new name count exit text left rest puts returns = record { after = left; puts = puts; returns = returns }

-- ---- where such a call ends

line_front : (kind : Kind) (text rest : List ℕ) → HasLine kind text rest → (front : List ℕ) × (text ≡ front ++ rest)
line_front kind text rest h = (h.line ++ 10 ∷ [], h.front.whole ∙ sym (append_assoc h.line (10 ∷ []) rest))

both_fronts : (text mid rest : List ℕ) → ((front : List ℕ) × (text ≡ front ++ mid)) → ((front : List ℕ) × (mid ≡ front ++ rest)) → (front : List ℕ) × (text ≡ front ++ rest)
both_fronts text mid rest a b = (a.0 ++ b.0, a.1 ∙ ap (λ (t : List ℕ). a.0 ++ t) b.1 ∙ sym (append_assoc a.0 b.0 rest))

lines_front : (params : List Param) (text rest : List ℕ) → TellsAll params text rest → (front : List ℕ) × (text ≡ front ++ rest)
lines_front [] text rest h = ([], h)
lines_front (param ∷ params) text rest h = both_fronts text h.0 rest (line_front _ text h.0 h.1.line) (lines_front params h.0 rest h.2)

rest_of_front : (text rest front : List ℕ) → text ≡ front ++ rest → drop (length text - length rest) text ≡ rest
rest_of_front text rest front is =
    let count : length text - length rest ≡ length front = omega (arith, length-append front rest, ap (λ (t : List ℕ). length t) is) in
    ap (λ (n : ℕ). drop n text) count ∙ ap (drop (length front)) is ∙ drop-append_seam front rest

-- ---- the whole call

pub stands_kept : (keep : Choice) (at : Position) (first mid last : TextCall) (name text inside rest : List ℕ) (enter exit : Times) (count bytes lines : ℕ) → HasLine (Entering name enter) text inside
    → opening_of first ≡ opening name enter (at.line + 1) → EndsKept keep first mid name count exit inside rest → last ≡ call_of (opening_of mid) (Some exit) (at.line + lines) → lines ≡ count + 2 → bytes ≡ length text - length rest
    → StandsKept keep at text bytes lines last
stands_kept keep at first mid last name text inside rest enter exit count bytes lines enters opened ends closed lines_are bytes_are =
    let params : List Param = ends.puts.params in
    let content : CallContent = record { name = name; params = params } in
    let after_all : Opening → Opening = λ o. record { content = record { name = o.content.name; params = kept_after keep o.content.name o.content.params params }; enter = o.enter; line = o.line } in
    let current : opening_of mid ≡ after_all (opening name enter (at.line + 1)) = ap opening_of ends.puts.kept ∙ ap after_all opened in
    let counted : lines ≡ lines_of content = omega (arith, lines_are, ends.puts.counted) in
    let closing : ℕ → TextCall = λ n. call_of (after_all (opening name enter (at.line + 1))) (Some exit) (at.line + n) in
    let whole : last ≡ closing (lines_of content) = closed ∙ ap (λ (o : Opening). call_of o (Some exit) (at.line + lines)) current ∙ ap closing counted in
    let enter_is : last.enter ≡ enter = ap (λ (c : TextCall). c.enter) whole in
    let front = both_fronts text inside rest (line_front (Entering name enter) text inside enters) (both_fronts inside ends.after rest (lines_front params inside ends.after ends.puts.tells) (line_front (Returning name exit) ends.after rest ends.returns)) in
    let left : drop bytes text ≡ rest = ap (λ (n : ℕ). drop n text) bytes_are ∙ rest_of_front text rest front.0 front.1 in
    let there : HasCall content enter exit text rest = record { inside = inside; after = ends.after; enters = enters; tells = ends.puts.tells; returns = ends.returns } in
    let entered : HasCall content last.enter exit text rest = subst (λ (e : Times). HasCall content e exit text rest) (sym enter_is) there in
    record {
      content = content;
      exit = exit;
      stands = subst (λ (t : List ℕ). HasCall content last.enter exit text t) (sym left) entered;
      counted = counted;
      kept = whole ∙ ap (λ (e : Times). kept_call keep (call_after at content e exit)) (sym enter_is);
    }

-- such a call is the text's next, as far as it is kept
pub kept_is_next : (keep : Choice) (at next : Position) (text : List ℕ) (left : Option (List ℕ)) (bytes lines : ℕ) (call : TextCall) → StandsKept keep at text bytes lines call → at.line + lines ≤ 16777216 → next ≡ place_after at lines call.enter
    → IsNextKept keep at (prepend_known text left) (Some call) next (prepend_known (drop bytes text) left)
unfolding IsNextKept
kept_is_next keep at next text left bytes lines call s within next_is =
    let whole : TextCall = call_after at s.content call.enter s.exit in
    let some : TextCall → Option TextCall = λ c. Some c in
    let place : next ≡ place_after at (lines_of s.content) call.enter = next_is ∙ ap (λ (n : ℕ). place_after at n call.enter) s.counted in
    let follows : IsNext at (prepend_known text left) (Some whole) (place_after at (lines_of s.content) call.enter) (prepend_known (drop bytes text) left) =
    call_is_next at s.content call.enter s.exit text (drop bytes text) left s.stands (omega (arith, within, s.counted)) in
    (Some whole, ap some s.kept, subst (λ (p : Position). IsNext at (prepend_known text left) (Some whole) p (prepend_known (drop bytes text) left)) (sym place) follows)

-- ---- its lines are counted

line_counted : (kind : Kind) (text rest after : List ℕ) → HasLine kind text rest → whole_lines (text ++ after) ≡ suc (whole_lines (rest ++ after))
line_counted kind text rest after h =
    ap (λ (t : List ℕ). whole_lines (t ++ after)) h.front.whole
    ∙ ap whole_lines (feed_apart h.line rest after)
    ∙ ap (λ (s : Split). length s.whole) (split_line h.line (rest ++ after) h.front.one)

all_counted : (params : List Param) (text rest after : List ℕ) → TellsAll params text rest → whole_lines (text ++ after) ≡ length params + whole_lines (rest ++ after)
all_counted [] text rest after h = omega (arith, ap (λ (t : List ℕ). whole_lines (t ++ after)) h)
all_counted (param ∷ params) text rest after h = omega (arith, line_counted (Other h.1.content) text h.0 after h.1.line, all_counted params h.0 rest after h.2)

call_counted : (content : CallContent) (enter exit : Times) (text rest after : List ℕ) → HasCall content enter exit text rest → whole_lines (text ++ after) ≡ lines_of content + whole_lines (rest ++ after)
call_counted content enter exit text rest after h =
    omega (
      arith,
      line_counted (Entering content.name enter) text h.inside after h.enters,
      all_counted content.params h.inside h.after after h.tells,
      line_counted (Returning content.name exit) h.after rest after h.returns,
    )

pub kept_counts : (keep : Choice) (at : Position) (line next : ℕ) (text : List ℕ) (left : Option (List ℕ)) (bytes lines : ℕ) (call : TextCall) → StandsKept keep at text bytes lines call → next ≡ line + lines
    → CountsLines line (prepend_known text left) next (prepend_known (drop bytes text) left)
kept_counts keep at line next text None bytes lines call s next_is = tt
kept_counts keep at line next text (Some after) bytes lines call s next_is =
    omega (arith, next_is, s.counted, call_counted s.content call.enter s.exit text (drop bytes text) after s.stands)

-- what such a call has
pub kept_last : (keep : Choice) (at : Position) (text : List ℕ) (bytes lines : ℕ) (call : TextCall) → StandsKept keep at text bytes lines call → call.last_line ≡ at.line + lines
kept_last keep at text bytes lines call s = ap (λ (c : TextCall). c.last_line) s.kept ∙ ap (λ (n : ℕ). at.line + n) (sym s.counted)

pub kept_returned : (keep : Choice) (at : Position) (text : List ℕ) (bytes lines : ℕ) (call : TextCall) → StandsKept keep at text bytes lines call → IsReturned call
kept_returned keep at text bytes lines call s =
    let exit : call.exit ≡ Some s.exit = ap (λ (c : TextCall). c.exit) s.kept in
    (subst (λ (e : Option Times). IsSome e) (sym exit) refl, ap (λ (c : TextCall). c.threads) s.kept)
