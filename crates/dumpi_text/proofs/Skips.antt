-- The first line of a text that is skipped.
use Rattle.std.proofs.Common.{◌≡◌, ◌+◌, ℕ, Bool, true, false, cond, nat_lt, List, [], ◌∷◌, ◌++◌, length, map, Option, Some, None, is_some, refl, sym, ap, arith, ◌∙◌}
use Rattle.std.specs.Option.{option_or}
use Rattle.std.specs.List.{list_any}
use Rattle.mpi_model.specs.Times.{Times}
use Rattle.dumpi_text.specs.Call.{same_bytes}
use Rattle.dumpi_text.specs.Effects.{Opening, Taken, Stays, Gives, Ends, Refuses, by_kind, call_of, count_line, inside, last_by_kind, last_inside, last_step, outside, returning, step, threaded, with_param, within_limit}
use Rattle.dumpi_text.specs.Grammar.{Complete, Meaning, at_end, ended, follow, from_lines, meaning_of, text_meaning}
use Rattle.dumpi_text.specs.Lines.{split_text}
use Rattle.dumpi_text.specs.Parameter.{parameter_of}
use Rattle.dumpi_text.specs.Skips.{IsLeast, SkipsLine, TellsFirstSkipped, is_inside, is_inside_after, is_threaded, kinds_of, says_nothing, whole_kind}
use Rattle.dumpi_text.specs.Stamps.{Kind, Blank, Entering, Returning, Threaded, Bad, Other, kind_of}
use Rattle.dumpi_text.specs.Words.{trimmed}
use Rattle.dumpi_text.specs.declared.fault.LineFault.{LineFault}
use Rattle.dumpi_text.specs.declared.step.Position.{Position}

-- ---- the first line that is skipped, line by line

-- the number of a line that says nothing
abbrev told_if : Bool → ℕ → Option ℕ
told_if true line = Some line
told_if false line = None

-- the first of these lines that is skipped, behind a line and where a call is open or not
abbrev first_behind : ℕ → Bool → List Kind → Option ℕ
first_behind line is_open [] = None
first_behind line is_open (kind ∷ kinds) =
    cond (is_threaded kind) None (option_or (told_if (says_nothing is_open kind) (line + 1)) (first_behind (line + 1) (is_inside_after is_open kind) kinds))

-- a line of these that is skipped, as in a text
record SkipsBehind (line : ℕ) (is_open : Bool) (kinds : List Kind) (number : ℕ) : Type 0 where
  before : List Kind
  kind : Kind
  after : List Kind
  stands : kinds ≡ before ++ kind ∷ after
  numbered : number ≡ line + (length before + 1)
  read : list_any is_threaded before ≡ false
  says : says_nothing (is_inside is_open before) kind ≡ true

-- ---- what one line leaves

-- What a line leaves tells whether it was skipped, and whether a call is open behind it.
abbrev Tells : Position → Bool → Kind → Taken × Position → Type 0
Tells at is_open kind (Stays still, next) = (next.line ≡ at.line + 1) × (next.first_skipped ≡ option_or at.first_skipped (told_if (says_nothing is_open kind) (at.line + 1)))
    × (is_some still ≡ is_inside_after is_open kind) × (is_threaded kind ≡ false)
Tells at is_open kind (Gives call, next) = (next.line ≡ at.line + 1) × (next.first_skipped ≡ option_or at.first_skipped (told_if (says_nothing is_open kind) (at.line + 1)))
    × (false ≡ is_inside_after is_open kind) × (is_threaded kind ≡ false)
Tells at is_open kind (Ends call, next) = (next.first_skipped ≡ at.first_skipped) × (is_threaded kind ≡ true)
Tells at is_open kind (Refuses fault, next) = Unit {0}

or_none : (o : Option ℕ) → o ≡ option_or o None
or_none None = refl
or_none (Some n) = refl

either : (b : Bool) (at : Position) (is_open : Bool) (kind : Kind) (x y : Taken × Position) → Tells at is_open kind x → Tells at is_open kind y → Tells at is_open kind (cond b x y)
either true at is_open kind x y p q = p
either false at is_open kind x y p q = q

by_thread : (at : Position) (is_open : Bool) (current : Opening) (name : List ℕ) (time : Times) → Tells at is_open (Threaded name time) (threaded (count_line at) current time)
by_thread at is_open current name time = either (nat_lt time.wall at.entered) at is_open (Threaded name time) _ _ tt (refl, refl)

by_returning : (at : Position) (current : Opening) (name own : List ℕ) (exit : Times) (fault : LineFault) → Tells at true (Returning name exit) (returning (count_line at) current own exit fault)
by_returning at current name own exit fault =
    either (same_bytes own current.content.name) at true (Returning name exit) (Gives (call_of current (Some exit) (count_line at).line), count_line at) (Refuses fault, count_line at)
    (refl, or_none at.first_skipped, refl, refl) tt

by_param : (at : Position) (current : Opening) (content : List ℕ) (found : Option (List ℕ × List ℕ)) → parameter_of content ≡ found
    → Tells at true (Other content) (with_param (count_line at) current found)
by_param at current content None e = rw e (refl, refl, refl, refl)
by_param at current content (Some ([], value)) e = tt
by_param at current content (Some (byte ∷ name, value)) e = rw e (refl, or_none at.first_skipped, refl, refl)

from_outside : (at : Position) (kind : Kind) → Tells at false kind (outside (count_line at) kind)
from_outside at Blank = (refl, or_none at.first_skipped, refl, refl)
from_outside at (Entering name enter) = (refl, or_none at.first_skipped, refl, refl)
from_outside at (Returning name exit) = tt
from_outside at (Threaded name time) = by_thread at false _ name time
from_outside at (Bad fault) = tt
from_outside at (Other content) = (refl, refl, refl, refl)

from_inside : (at : Position) (current : Opening) (kind : Kind) → Tells at true kind (inside (count_line at) current kind)
from_inside at current Blank = (refl, or_none at.first_skipped, refl, refl)
from_inside at current (Entering name enter) = tt
from_inside at current (Returning name exit) = by_returning at current name name exit _
from_inside at current (Threaded name time) = by_thread at true current name time
from_inside at current (Bad fault) = tt
from_inside at current (Other content) = by_param at current content (parameter_of content) refl

from_kind : (at : Position) (current : Option Opening) (kind : Kind) → Tells at (is_some current) kind (by_kind (count_line at) current kind)
from_kind at None kind = from_outside at kind
from_kind at (Some current) kind = from_inside at current kind

in_limit : (at : Position) (is_open : Bool) (kind : Kind) (taken : Taken × Position) → Tells at is_open kind taken → Tells at is_open kind (within_limit taken)
in_limit at is_open kind (Stays current, next) p = either (nat_lt 16777216 next.line) at is_open kind _ (Stays current, next) tt p
in_limit at is_open kind (Gives call, next) p = either (nat_lt 16777216 next.line) at is_open kind _ (Gives call, next) tt p
in_limit at is_open kind (Ends call, next) p = either (nat_lt 16777216 next.line) at is_open kind _ (Ends call, next) tt p
in_limit at is_open kind (Refuses fault, next) p = tt

from_line : (at : Position) (current : Option Opening) (line : List ℕ) → Tells at (is_some current) (whole_kind line) (step at current line)
unfolding step
from_line at current line =
    either (nat_lt 65536 (length line)) at (is_some current) (whole_kind line) _ (within_limit (by_kind (count_line at) current (whole_kind line))) tt
    (in_limit at (is_some current) (whole_kind line) (by_kind (count_line at) current (whole_kind line)) (from_kind at current (whole_kind line)))

-- ---- a last line

last_outside : (at : Position) (kind : Kind) → Tells at false kind (last_by_kind (count_line at) None kind)
last_outside at Blank = from_outside at Blank
last_outside at (Entering name enter) = tt
last_outside at (Returning name exit) = tt
last_outside at (Threaded name time) = from_outside at (Threaded name time)
last_outside at (Bad fault) = tt
last_outside at (Other content) = from_outside at (Other content)

last_within : (at : Position) (current : Opening) (kind : Kind) → Tells at true kind (last_inside (count_line at) current kind)
last_within at current Blank = tt
last_within at current (Entering name enter) = tt
last_within at current (Returning name exit) = by_returning at current name name exit _
last_within at current (Threaded name time) = tt
last_within at current (Bad fault) = tt
last_within at current (Other content) = tt

last_kind : (at : Position) (current : Option Opening) (kind : Kind) → Tells at (is_some current) kind (last_by_kind (count_line at) current kind)
last_kind at None kind = last_outside at kind
last_kind at (Some current) kind = last_within at current kind

from_last : (at : Position) (current : Option Opening) (last : List ℕ) → Tells at (is_some current) (kind_of (trimmed last)) (last_step at current last)
unfolding last_step
from_last at current last =
    either (nat_lt 65536 (length last)) at (is_some current) (kind_of (trimmed last)) _ (within_limit (last_by_kind (count_line at) current (kind_of (trimmed last)))) tt
    (in_limit at (is_some current) (kind_of (trimmed last)) (last_by_kind (count_line at) current (kind_of (trimmed last))) (last_kind at current (kind_of (trimmed last))))

-- ---- a whole text

or_both : (a b c : Option ℕ) → option_or (option_or a b) c ≡ option_or a (option_or b c)
or_both None b c = refl
or_both (Some n) b c = refl

-- a line that is read, and what follows it
goes_on : (a n found : Option ℕ) (line next : ℕ) (is_open still : Bool) (kind : Kind) (kinds : List Kind) → next ≡ line + 1 → n ≡ option_or a (told_if (says_nothing is_open kind) (line + 1))
    → still ≡ is_inside_after is_open kind → is_threaded kind ≡ false → found ≡ option_or n (first_behind next still kinds) → found ≡ option_or a (first_behind line is_open (kind ∷ kinds))
goes_on a n found line next is_open still kind kinds l s o t e =
    e ∙ ap (λ (m : ℕ). option_or n (first_behind m still kinds)) l ∙ ap (λ (b : Bool). option_or n (first_behind (line + 1) b kinds)) o
    ∙ ap (λ (m : Option ℕ). option_or m (first_behind (line + 1) (is_inside_after is_open kind) kinds)) s
    ∙ or_both a (told_if (says_nothing is_open kind) (line + 1)) (first_behind (line + 1) (is_inside_after is_open kind) kinds)
    ∙ ap (λ (b : Bool). option_or a (cond b None (option_or (told_if (says_nothing is_open kind) (line + 1)) (first_behind (line + 1) (is_inside_after is_open kind) kinds)))) (sym t)

-- nothing is read behind a line of another thread
goes_no_further : (a found : Option ℕ) (line : ℕ) (is_open : Bool) (kind : Kind) (kinds : List Kind) → is_threaded kind ≡ true → found ≡ a → found ≡ option_or a (first_behind line is_open (kind ∷ kinds))
goes_no_further a found line is_open kind kinds t e =
    e ∙ or_none a ∙ ap (λ (b : Bool). option_or a (cond b None (option_or (told_if (says_nothing is_open kind) (line + 1)) (first_behind (line + 1) (is_inside_after is_open kind) kinds)))) (sym t)

place_in : (x y : Position) → Complete x ≡ Complete y → y.first_skipped ≡ x.first_skipped
place_in x y e = cc

-- what follows a line tells the first that is skipped of the rest
abbrev FollowsOn : (Position → Option Opening → Meaning) → List Kind → Position → Type 0
FollowsOn rest kinds end = (at : Position) (current : Option Opening) → (rest at current).end ≡ Complete end → end.first_skipped ≡ option_or at.first_skipped (first_behind at.line (is_some current) kinds)

followed : (taken : Taken × Position) (rest : Position → Option Opening → Meaning) (at : Position) (is_open : Bool) (kind : Kind) (kinds : List Kind) (end : Position) → Tells at is_open kind taken → FollowsOn rest kinds end
    → (follow taken rest).end ≡ Complete end → end.first_skipped ≡ option_or at.first_skipped (first_behind at.line is_open (kind ∷ kinds))
followed (Stays still, next) rest at is_open kind kinds end p h e =
    goes_on at.first_skipped next.first_skipped end.first_skipped at.line next.line is_open (is_some still) kind kinds p.0 p.1 p.2 p.3 (h next still e)
followed (Gives call, next) rest at is_open kind kinds end p h e =
    goes_on at.first_skipped next.first_skipped end.first_skipped at.line next.line is_open false kind kinds p.0 p.1 p.2 p.3 (h next None e)
followed (Ends call, next) rest at is_open kind kinds end p h e =
    goes_no_further at.first_skipped end.first_skipped at.line is_open kind kinds p.1 (place_in next end e ∙ p.0)
followed (Refuses fault, next) rest at is_open kind kinds end p h e = cc

-- the last line
last_followed : (taken : Taken × Position) (at : Position) (is_open : Bool) (kind : Kind) (end : Position) → Tells at is_open kind taken
    → (ended taken).end ≡ Complete end → end.first_skipped ≡ option_or at.first_skipped (first_behind at.line is_open (kind ∷ []))
last_followed (Stays still, next) at is_open kind end p e =
    goes_on at.first_skipped next.first_skipped end.first_skipped at.line next.line is_open (is_some still) kind [] p.0 p.1 p.2 p.3 (place_in next end e ∙ or_none next.first_skipped)
last_followed (Gives call, next) at is_open kind end p e =
    goes_on at.first_skipped next.first_skipped end.first_skipped at.line next.line is_open false kind [] p.0 p.1 p.2 p.3 (place_in next end e ∙ or_none next.first_skipped)
last_followed (Ends call, next) at is_open kind end p e =
    goes_no_further at.first_skipped end.first_skipped at.line is_open kind [] p.1 (place_in next end e ∙ p.0)
last_followed (Refuses fault, next) at is_open kind end p e = cc

at_the_end : (at : Position) (current : Option Opening) (last : List ℕ) (end : Position) → (at_end at current last).end ≡ Complete end
    → end.first_skipped ≡ option_or at.first_skipped (first_behind at.line (is_some current) (kind_of (trimmed last) ∷ []))
unfolding trimmed kind_of
at_the_end at None [] end e = place_in at end e ∙ or_none at.first_skipped
at_the_end at (Some current) [] end e = place_in at end e ∙ or_none at.first_skipped
at_the_end at current (byte ∷ bytes) end e =
    last_followed (last_step at current (byte ∷ bytes)) at (is_some current) (kind_of (trimmed (byte ∷ bytes))) end (from_last at current (byte ∷ bytes)) e

lines : (at : Position) (current : Option Opening) (whole : List (List ℕ)) (last : List ℕ) (end : Position) → (from_lines at current whole last).end ≡ Complete end
    → end.first_skipped ≡ option_or at.first_skipped (first_behind at.line (is_some current) (map whole_kind whole ++ kind_of (trimmed last) ∷ []))
lines at current [] last end e = at_the_end at current last end e
lines at current (line ∷ whole) last end e =
    followed (step at current line) (λ next still. from_lines next still whole last) at (is_some current) (whole_kind line) (map whole_kind whole ++ kind_of (trimmed last) ∷ []) end
    (from_line at current line) (λ next still. lines next still whole last end) e

first_told : (text : List ℕ) (end : Position) → (text_meaning text).end ≡ Complete end → end.first_skipped ≡ first_behind 0 false (kinds_of text)
unfolding meaning_of
first_told text end e = lines _ None (split_text text).whole (split_text text).last end e

-- ---- it is the first

moved : (P Q : ℕ → Type 0) (o : Option ℕ) → ((n : ℕ) → P n → Q n) → ((n : ℕ) → Q n → P n) → IsLeast P o → IsLeast Q o
moved P Q None to from least = λ n q. least n (from n q)
moved P Q (Some m) to from least = (to m least.0, λ n q. least.1 n (from n q))

threads_say_something : (is_open : Bool) (kind : Kind) → is_threaded kind ≡ true → says_nothing is_open kind ≡ true → ⊥
threads_say_something is_open Blank t s = cc
threads_say_something is_open (Entering name at) t s = cc
threads_say_something is_open (Returning name at) t s = cc
threads_say_something false (Threaded name at) t s = cc
threads_say_something true (Threaded name at) t s = cc
threads_say_something is_open (Bad fault) t s = cc
threads_say_something is_open (Other content) t s = cc

-- none of no lines
none_of_none : (line : ℕ) (is_open : Bool) (before after : List Kind) (kind : Kind) → [] ≡ before ++ kind ∷ after → ⊥
none_of_none line is_open [] after kind e = cc
none_of_none line is_open (b ∷ bs) after kind e = cc

-- none from a line of another thread on
none_read : (is_open : Bool) (first kind : Kind) (kinds before after : List Kind) → is_threaded first ≡ true → first ∷ kinds ≡ before ++ kind ∷ after → list_any is_threaded before ≡ false
    → says_nothing (is_inside is_open before) kind ≡ true → ⊥
none_read is_open first kind kinds [] after t e r s = let same : kind ≡ first = cc in threads_say_something is_open kind (ap is_threaded same ∙ t) s
none_read is_open first kind kinds (b ∷ bs) after t e r s =
    let same : first ≡ b = cc in
    let is : is_threaded b ≡ true = ap is_threaded (sym same) ∙ t in
    let both : true ≡ false = rw is at r in
    cc

-- a line behind the first
later : (line : ℕ) (is_open : Bool) (first kind : Kind) (kinds before after : List Kind) (number : ℕ) → is_threaded first ≡ false → says_nothing is_open first ≡ false → first ∷ kinds ≡ before ++ kind ∷ after
    → number ≡ line + (length before + 1) → list_any is_threaded before ≡ false → says_nothing (is_inside is_open before) kind ≡ true → SkipsBehind (line + 1) (is_inside_after is_open first) kinds number
later line is_open first kind kinds [] after number t n e m r s =
    let same : kind ≡ first = cc in
    let says : says_nothing is_open first ≡ true = ap (says_nothing is_open) (sym same) ∙ s in
    let both : true ≡ false = sym says ∙ n in
    absurd (let no : ⊥ = cc in no)
later line is_open first kind kinds (b ∷ bs) after number t n e m r s =
    let same : b ≡ first = cc in
    let own : is_threaded b ≡ false = ap is_threaded same ∙ t in
    record {
      before = bs;
      kind = kind;
      after = after;
      stands = cc;
      numbered = omega arith;
      read = rw own at r;
      says = ap (λ (k : Kind). says_nothing (is_inside (is_inside_after is_open k) bs) kind) (sym same) ∙ s;
    }

behind_one : (line : ℕ) (is_open : Bool) (first : Kind) (kinds : List Kind) (number : ℕ) → is_threaded first ≡ false → SkipsBehind (line + 1) (is_inside_after is_open first) kinds number → SkipsBehind line is_open (first ∷ kinds) number
behind_one line is_open first kinds number t s = record {
  before = first ∷ s.before;
  kind = s.kind;
  after = s.after;
  stands = ap (λ (l : List Kind). first ∷ l) s.stands;
  numbered = omega (arith, s.numbered);
  read = rw t s.read;
  says = s.says;
}

by_tests : (line : ℕ) (is_open : Bool) (first : Kind) (kinds : List Kind) (t n : Bool) → is_threaded first ≡ t → says_nothing is_open first ≡ n
    → IsLeast (SkipsBehind (line + 1) (is_inside_after is_open first) kinds) (first_behind (line + 1) (is_inside_after is_open first) kinds)
    → IsLeast (SkipsBehind line is_open (first ∷ kinds)) (cond t None (option_or (told_if n (line + 1)) (first_behind (line + 1) (is_inside_after is_open first) kinds)))
by_tests line is_open first kinds true n e s least = λ number skips. none_read is_open first skips.kind kinds skips.before skips.after e skips.stands skips.read skips.says
by_tests line is_open first kinds false true e s least =
    (record { before = []; kind = first; after = kinds; stands = refl; numbered = omega arith; read = refl; says = s }, λ number skips. omega (arith, skips.numbered))
by_tests line is_open first kinds false false e s least =
    moved (SkipsBehind (line + 1) (is_inside_after is_open first) kinds) (SkipsBehind line is_open (first ∷ kinds)) (first_behind (line + 1) (is_inside_after is_open first) kinds)
    (λ number skips. behind_one line is_open first kinds number e skips)
    (λ number skips. later line is_open first skips.kind kinds skips.before skips.after number e s skips.stands skips.numbered skips.read skips.says) least

first_is_least : (line : ℕ) (is_open : Bool) (kinds : List Kind) → IsLeast (SkipsBehind line is_open kinds) (first_behind line is_open kinds)
first_is_least line is_open [] = λ number skips. none_of_none line is_open skips.before skips.after skips.kind skips.stands
first_is_least line is_open (kind ∷ kinds) =
    by_tests line is_open kind kinds (is_threaded kind) (says_nothing is_open kind) refl refl (first_is_least (line + 1) (is_inside_after is_open kind) kinds)

in_text : (text : List ℕ) (number : ℕ) → SkipsBehind 0 false (kinds_of text) number → SkipsLine text number
in_text text number s = record { before = s.before; kind = s.kind; after = s.after; stands = s.stands; numbered = omega (arith, s.numbered); read = s.read; says = s.says }

from_text : (text : List ℕ) (number : ℕ) → SkipsLine text number → SkipsBehind 0 false (kinds_of text) number
from_text text number s = record { before = s.before; kind = s.kind; after = s.after; stands = s.stands; numbered = omega (arith, s.numbered); read = s.read; says = s.says }

pub tells_first_skipped : TellsFirstSkipped
tells_first_skipped None calls at means = tt
tells_first_skipped (Some text) calls at means =
    rw (first_told text at (ap (λ (m : Meaning). m.end) means))
    (moved (SkipsBehind 0 false (kinds_of text)) (SkipsLine text) (first_behind 0 false (kinds_of text)) (in_text text) (from_text text) (first_is_least 0 false (kinds_of text)))
