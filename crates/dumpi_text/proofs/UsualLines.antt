-- Lines of calls that begin with a known word.
use Rattle.std.proofs.Common.{◌≡◌, ◌==◌, ◌&&◌, not, ℕ, ◌+◌, ◌<◌, ◌≤◌, Bool, true, false, cond, eqb, codes, Option, Some, Result, Ok, List, [], ◌∷◌, ◌++◌, append_assoc, length, length-append, nat_lt, arith, ap, sym, refl, ◌∙◌}
use Rattle.std.specs.List.{list_all}
use Rattle.std.proofs.lemmas.Bool.{false≢true}
use Rattle.std.proofs.lemmas.Grind.{common_steps}
use Rattle.std.proofs.lemmas.List.{append-nil}
use Rattle.mpi_model.specs.Times.{Times}
use Rattle.dumpi_text.specs.Lines.{IsOneLine}
use Rattle.dumpi_text.specs.Parameter.{parameter_of}
use Rattle.dumpi_text.specs.Stamps.{Entering, Other, Returning, kind_from, kind_of, returning_word, stamp_fields, stamp_from, stamp_of, stamp_word, stamped, time_field}
use Rattle.dumpi_text.specs.Time.{HasTime, is_time_byte, time_of}
use Rattle.dumpi_text.specs.Tokens.{byte_front}
use Rattle.dumpi_text.specs.Usual.{BeginsWith, EndsStamp, HasLine, Tells, TellsByItsParts, before_value, begins_bare, ends_bare, is_inside, is_word}
use Rattle.dumpi_text.specs.Words.{after_text, before_trimmed, is_blank, is_word_byte, split_at, trim_end, trim_start, trimmed, without_last, word_parts}
use Rattle.dumpi_text.specs.declared.fault.LineFault.{LineFault}
use Rattle.dumpi_text.specs.declared.time.TimeFault.{TimeFault}
use Rattle.dumpi_text.proofs.Fronts.{front_there}
use Rattle.dumpi_text.proofs.QuickParam.{end_kept, follows, its_parameter, last_kept, no_stamp_line, starts_bare, text_whole, word_before, words_front}
use Rattle.dumpi_text.proofs.Splits.{both_true, first_passes, rest_passes, split_passes, unlike}

has_bytes : (n : ℕ) → nat_lt 0 n ≡ true → 0 < n
has_bytes n h = grind (arith, common_steps)

-- a word has a byte, and all of its bytes are letters, digits and `_`
word_has : (word : List ℕ) → is_word word ≡ true → 0 < length word
word_has word h = has_bytes (length word) (both_true (nat_lt 0 (length word)) (list_all is_word_byte word) h).0

word_all : (word : List ℕ) → is_word word ≡ true → list_all is_word_byte word ≡ true
word_all word h = (both_true (nat_lt 0 (length word)) (list_all is_word_byte word) h).1

abbrev by_name : List ℕ → List ℕ → List ℕ × List ℕ
by_name name rest = (name, rest)

abbrev found : List ℕ → List ℕ → Option (List ℕ × List ℕ)
found name value = Some (name, value)

-- nothing is cut off a word and what follows it
uncut : (word rest : List ℕ) → 0 < length word → list_all is_word_byte word ≡ true → 0 < length rest → trim_end rest ≡ rest → without_last 13 rest ≡ rest
    → trimmed (without_last 13 (word ++ rest)) ≡ word ++ rest
unfolding trimmed
uncut [] rest some all more end returns = absurd (omega arith)
uncut (b ∷ bs) rest some all more end returns =
    ap trimmed (last_kept 13 (b ∷ bs) rest more returns)
    ∙ ap trim_end (starts_bare b (bs ++ rest) (first_passes is_word_byte b bs all))
    ∙ end_kept (b ∷ bs) rest more end

-- a stamp line, by what stands behind its name
stamp_kind : (name after stamp : List ℕ) (enters : Bool) (at : Times) → 0 < length name → word_parts (name ++ after) ≡ (name, after) → stamp_word after ≡ Some (enters, stamp) → stamp_of stamp ≡ Ok (at, true)
    → kind_of (name ++ after) ≡ stamped name enters (Ok (at, true))
unfolding kind_of
stamp_kind [] after stamp enters at some parts word says = absurd (omega arith)
stamp_kind (b ∷ bs) after stamp enters at some parts word says =
    ap (λ (p : List ℕ × List ℕ). kind_from (b ∷ (bs ++ after)) p.0 (stamp_word p.1)) parts
    ∙ ap (λ (w : Option (Bool × List ℕ)). kind_from (b ∷ (bs ++ after)) (b ∷ bs) w) word
    ∙ ap (λ (s : Result (Times × Bool) LineFault). stamped (b ∷ bs) enters s) says

enters_word : (after stamp : List ℕ) → after_text (codes " entering at ") after ≡ Some stamp → stamp_word after ≡ Some (true, stamp)
unfolding stamp_word
enters_word after stamp h = rw h refl

returns_word : (after stamp : List ℕ) → after_text (codes " returning at ") after ≡ Some stamp → stamp_word after ≡ Some (false, stamp)
unfolding stamp_word returning_word after_text
returns_word after stamp h =
    let whole : after ≡ codes " returning at " ++ stamp = text_whole (codes " returning at ") after stamp h in
    ap stamp_word whole

-- the parts of a stamp line: its name, the word behind it, and the stamp
module _ (name line after word stamp : List ℕ) (named : is_word name ≡ true) (begins : after_text name line ≡ Some after) (goes_on : after ≡ 32 ∷ (word ++ stamp))
    (some : 0 < length stamp) (end : trim_end stamp ≡ stamp) (no_return : without_last 13 stamp ≡ stamp) where
  line_is : line ≡ name ++ after
  line_is = text_whole name line after begins

  after_end : trim_end after ≡ after
  after_end = ap trim_end goes_on ∙ end_kept (32 ∷ word) stamp some end ∙ sym goes_on

  after_returns : without_last 13 after ≡ after
  after_returns = ap (without_last 13) goes_on ∙ last_kept 13 (32 ∷ word) stamp some no_return ∙ sym goes_on

  after_some : 0 < length after
  after_some = let more : length after ≡ length (32 ∷ (word ++ stamp)) = ap (λ (t : List ℕ). length t) goes_on in omega arith

  kept : trimmed (without_last 13 line) ≡ name ++ after
  kept = ap (λ (t : List ℕ). trimmed (without_last 13 t)) line_is ∙ uncut name after (word_has name named) (word_all name named) after_some after_end after_returns

  parts : word_parts (name ++ after) ≡ (name, after)
  parts =
      ap (λ (t : List ℕ). word_parts (name ++ t)) goes_on ∙ word_before name 32 (word ++ stamp) (word_all name named) refl
      ∙ ap (λ (t : List ℕ). by_name name t) (sym goes_on)

  -- what such a line is
  pub kind_is : (enters : Bool) (at : Times) → stamp_word after ≡ Some (enters, stamp) → stamp_of stamp ≡ Ok (at, true) → kind_of (trimmed (without_last 13 line)) ≡ stamped name enters (Ok (at, true))
  kind_is enters at found says = ap kind_of kept ∙ stamp_kind name after stamp enters at (word_has name named) parts found says

pub entering_line : (name text rest line after stamp : List ℕ) (at : Times) → is_word name ≡ true → BeginsWith line text rest → after_text name line ≡ Some after → after_text (codes " entering at ") after ≡ Some stamp
    → 0 < length stamp → trim_end stamp ≡ stamp → without_last 13 stamp ≡ stamp → stamp_of stamp ≡ Ok (at, true) → HasLine (Entering name at) text rest
entering_line name text rest line after stamp at named front begins word some end no_return says = record {
  line = line;
  front = front;
  is = kind_is name line after (codes "entering at ") stamp named begins (text_whole (codes " entering at ") after stamp word) some end no_return true at (enters_word after stamp word) says;
}

pub returning_line : (name text rest line after stamp : List ℕ) (at : Times) → is_word name ≡ true → BeginsWith line text rest → after_text name line ≡ Some after → after_text (codes " returning at ") after ≡ Some stamp
    → 0 < length stamp → trim_end stamp ≡ stamp → without_last 13 stamp ≡ stamp → stamp_of stamp ≡ Ok (at, true) → HasLine (Returning name at) text rest
returning_line name text rest line after stamp at named front begins word some end no_return says = record {
  line = line;
  front = front;
  is = kind_is name line after (codes "returning at ") stamp named begins (text_whole (codes " returning at ") after stamp word) some end no_return false at (returns_word after stamp word) says;
}

-- ---- lines by bytes of which none ends a line

inside_of : (test : ℕ → Bool) (xs : List ℕ) → test 10 ≡ false → list_all test xs ≡ true → list_all is_inside xs ≡ true
inside_of test [] other all = refl
inside_of test (b ∷ bs) other all = rw (unlike test b 10 (first_passes test b bs all) other) (inside_of test bs other (rest_passes test b bs all))

inside_both : (xs ys : List ℕ) → list_all is_inside xs ≡ true → list_all is_inside ys ≡ true → list_all is_inside (xs ++ ys) ≡ true
inside_both [] ys x y = y
inside_both (b ∷ bs) ys x y = rw (first_passes is_inside b bs x) (inside_both bs ys (rest_passes is_inside b bs x) y)

one_line : (xs : List ℕ) → list_all is_inside xs ≡ true → IsOneLine xs
one_line [] all = tt
one_line (b ∷ bs) all = (λ e. false≢true (sym (ap is_inside e) ∙ first_passes is_inside b bs all), one_line bs (rest_passes is_inside b bs all))

-- ---- stamps as dumpi2ascii writes them

split_off : (stop : ℕ) (time rest : List ℕ) → is_time_byte stop ≡ false → list_all is_time_byte time ≡ true → split_at stop (time ++ stop ∷ rest) ≡ (time, Some rest)
split_off stop time rest other all =
    let itself : eqb stop stop ≡ true = grind arith in
    rw (split_passes is_time_byte stop time (stop ∷ rest) all other, itself, append-nil time) refl

field_read : (front : List ℕ) (stop : ℕ) (time rest : List ℕ) (t : ℕ) → is_time_byte stop ≡ false → list_all is_time_byte time ≡ true → time_of time ≡ Ok t → time_field front stop (front ++ (time ++ stop ∷ rest)) ≡ Some (t, rest)
unfolding time_field after_text
field_read front stop time rest t other all says = rw (front_there front (time ++ stop ∷ rest), split_off stop time rest other all, says) refl

abbrev last_part : List ℕ
last_part = codes " seconds in thread 0."

abbrev stamp_text : List ℕ → List ℕ → List ℕ
stamp_text wall cpu = codes "walltime " ++ (wall ++ (codes ", cputime " ++ (cpu ++ last_part)))

thread_read : after_text (codes "seconds in thread ") (codes "seconds in thread 0.") ≡ Some (codes "0.")
unfolding after_text
thread_read = front_there (codes "seconds in thread ") (codes "0.")

fields_read : (wall cpu : List ℕ) (at : Times) → time_of wall ≡ Ok at.wall → time_of cpu ≡ Ok at.cpu → list_all is_time_byte wall ≡ true → list_all is_time_byte cpu ≡ true
    → stamp_fields (stamp_text wall cpu) ≡ Some (at, codes "0.")
unfolding stamp_fields
fields_read wall cpu at wall_is cpu_is wall_bytes cpu_bytes =
    let first : time_field (codes "walltime ") 44 (stamp_text wall cpu) ≡ Some (at.wall, codes " cputime " ++ (cpu ++ last_part)) = field_read (codes "walltime ") 44 wall (codes " cputime " ++ (cpu ++ last_part)) at.wall refl wall_bytes wall_is in
    let second : time_field (codes " cputime ") 32 (codes " cputime " ++ (cpu ++ last_part)) ≡ Some (at.cpu, codes "seconds in thread 0.") = field_read (codes " cputime ") 32 cpu (codes "seconds in thread 0.") at.cpu refl cpu_bytes cpu_is in
    rw (first, second, thread_read) refl

stamp_read : (wall cpu : List ℕ) (at : Times) → time_of wall ≡ Ok at.wall → time_of cpu ≡ Ok at.cpu → list_all is_time_byte wall ≡ true → list_all is_time_byte cpu ≡ true → stamp_of (stamp_text wall cpu) ≡ Ok (at, true)
unfolding stamp_of
stamp_read wall cpu at wall_is cpu_is wall_bytes cpu_bytes = ap stamp_from (fields_read wall cpu at wall_is cpu_is wall_bytes cpu_bytes)

-- what follows a stamp
stamp_before : (wall cpu more : List ℕ) → stamp_text wall cpu ++ more ≡ codes "walltime " ++ (wall ++ (codes ", cputime " ++ (cpu ++ (last_part ++ more))))
stamp_before wall cpu more =
    ap (λ (t : List ℕ). codes "walltime " ++ t) (append_assoc wall (codes ", cputime " ++ (cpu ++ last_part)) more ∙ ap (λ (t : List ℕ). wall ++ (codes ", cputime " ++ t)) (append_assoc cpu last_part more))

before_last : (wall cpu : List ℕ) → (codes "walltime " ++ (wall ++ (codes ", cputime " ++ cpu))) ++ last_part ≡ stamp_text wall cpu
before_last wall cpu = ap (λ (t : List ℕ). codes "walltime " ++ t) (append_assoc wall (codes ", cputime " ++ cpu) last_part)

stamp_inside : (wall cpu : List ℕ) → list_all is_time_byte wall ≡ true → list_all is_time_byte cpu ≡ true → list_all is_inside (stamp_text wall cpu) ≡ true
stamp_inside wall cpu wall_bytes cpu_bytes =
    let last : List ℕ = cpu ++ last_part in
    let second : List ℕ = codes ", cputime " ++ last in
    inside_both (codes "walltime ") (wall ++ second) refl (inside_both wall second (inside_of is_time_byte wall refl wall_bytes)
    (inside_both (codes ", cputime ") last refl (inside_both cpu last_part (inside_of is_time_byte cpu refl cpu_bytes) refl)))

-- a stamp line, by its parts
module _ (name word text after behind rest : List ℕ) (at : Times) (named : is_word name ≡ true) (few : length name ≤ 100) (short : length word ≤ 20) (word_inside : list_all is_inside word ≡ true)
    (begins : text ≡ name ++ after) (goes_on : after ≡ word ++ (codes "walltime " ++ behind)) (ends : EndsStamp at behind rest) where
  abbrev its_stamp : List ℕ
  its_stamp = stamp_text ends.wall ends.cpu

  stamp_line : BeginsWith (name ++ (word ++ its_stamp)) text rest
  stamp_line = record {
    whole = begins ∙ ap (λ (t : List ℕ). name ++ t) (goes_on ∙ ap (λ (t : List ℕ). word ++ t) (ap (λ (t : List ℕ). codes "walltime " ++ t) ends.whole ∙ sym (stamp_before ends.wall ends.cpu (10 ∷ rest))) ∙ sym (append_assoc word its_stamp (10 ∷ rest)))
        ∙ sym (append_assoc name (word ++ its_stamp) (10 ∷ rest));
    one = one_line (name ++ (word ++ its_stamp)) (inside_both name (word ++ its_stamp) (inside_of is_word_byte name refl (word_all name named)) (inside_both word its_stamp word_inside (stamp_inside ends.wall ends.cpu ends.wall_bytes ends.cpu_bytes)));
    short = omega (
      arith,
      ends.short,
      length-append name (word ++ its_stamp),
      length-append word its_stamp,
      length-append (codes "walltime ") (ends.wall ++ (codes ", cputime " ++ (ends.cpu ++ last_part))),
      length-append ends.wall (codes ", cputime " ++ (ends.cpu ++ last_part)),
      length-append (codes ", cputime ") (ends.cpu ++ last_part),
      length-append ends.cpu last_part,
    );
  }

  stamp_some : 0 < length its_stamp
  stamp_some = omega arith

  stamp_end : trim_end its_stamp ≡ its_stamp
  stamp_end = ap trim_end (sym (before_last ends.wall ends.cpu)) ∙ end_kept (codes "walltime " ++ (ends.wall ++ (codes ", cputime " ++ ends.cpu))) last_part (omega arith) refl ∙ before_last ends.wall ends.cpu

  stamp_return : without_last 13 its_stamp ≡ its_stamp
  stamp_return = ap (without_last 13) (sym (before_last ends.wall ends.cpu)) ∙ last_kept 13 (codes "walltime " ++ (ends.wall ++ (codes ", cputime " ++ ends.cpu))) last_part (omega arith) refl ∙ before_last ends.wall ends.cpu

pub entering_there : (name text after behind rest : List ℕ) (at : Times) → is_word name ≡ true → length name ≤ 100 → text ≡ name ++ after → after ≡ codes " entering at walltime " ++ behind → EndsStamp at behind rest
    → HasLine (Entering name at) text rest
unfolding after_text
entering_there name text after behind rest at named few begins goes_on ends =
    let word : List ℕ = codes " entering at " in
    let stamp : List ℕ = stamp_text ends.wall ends.cpu in
    entering_line name text rest (name ++ (word ++ stamp)) (word ++ stamp) stamp at named (stamp_line name word text after behind rest at named few (omega arith) refl begins goes_on ends)
    (front_there name (word ++ stamp)) (front_there word stamp) (stamp_some name word text after behind rest at named few (omega arith) refl begins goes_on ends)
    (stamp_end name word text after behind rest at named few (omega arith) refl begins goes_on ends) (stamp_return name word text after behind rest at named few (omega arith) refl begins goes_on ends)
    (stamp_read ends.wall ends.cpu at ends.wall_is ends.cpu_is ends.wall_bytes ends.cpu_bytes)

pub returning_there : (name text after behind rest : List ℕ) (at : Times) → is_word name ≡ true → length name ≤ 100 → text ≡ name ++ after → after ≡ codes " returning at walltime " ++ behind → EndsStamp at behind rest
    → HasLine (Returning name at) text rest
unfolding after_text
returning_there name text after behind rest at named few begins goes_on ends =
    let word : List ℕ = codes " returning at " in
    let stamp : List ℕ = stamp_text ends.wall ends.cpu in
    returning_line name text rest (name ++ (word ++ stamp)) (word ++ stamp) stamp at named (stamp_line name word text after behind rest at named few (omega arith) refl begins goes_on ends)
    (front_there name (word ++ stamp)) (front_there word stamp) (stamp_some name word text after behind rest at named few (omega arith) refl begins goes_on ends)
    (stamp_end name word text after behind rest at named few (omega arith) refl begins goes_on ends) (stamp_return name word text after behind rest at named few (omega arith) refl begins goes_on ends)
    (stamp_read ends.wall ends.cpu at ends.wall_is ends.cpu_is ends.wall_bytes ends.cpu_bytes)

-- two times and the end of their line
pub stamp_ends : (at : Times) (wall cpu : ℕ) (text t1 t2 t3 rest : List ℕ) → HasTime wall text t1 → t1 ≡ codes ", cputime " ++ t2 → HasTime cpu t2 t3 → t3 ≡ codes " seconds in thread 0.\n" ++ rest
    → at ≡ record { wall = wall; cpu = cpu } → EndsStamp at text rest
stamp_ends at wall cpu text t1 t2 t3 rest first comma second closes is =
    let told : ℕ → Result ℕ TimeFault = λ t. Ok t in
    let after : t2 ≡ second.front ++ (last_part ++ 10 ∷ rest) = second.whole ∙ ap (λ (t : List ℕ). second.front ++ t) closes in
    record {
      wall = first.front;
      cpu = second.front;
      whole = first.whole ∙ ap (λ (t : List ℕ). first.front ++ t) (comma ∙ ap (λ (t : List ℕ). codes ", cputime " ++ t) after);
      wall_is = first.says ∙ ap told (ap (λ (a : Times). a.wall) (sym is));
      cpu_is = second.says ∙ ap told (ap (λ (a : Times). a.cpu) (sym is));
      wall_bytes = first.bytes;
      cpu_bytes = second.bytes;
      short = omega (arith, first.short, second.short);
    }

pub parameter_line : (kind name text rest line after named beyond value : List ℕ) → is_word kind ≡ true → is_word name ≡ true → BeginsWith line text rest
    → after_text kind line ≡ Some after → byte_front 32 after ≡ Some named → after_text name named ≡ Some beyond → byte_front 61 beyond ≡ Some value
    → 0 < length value → trimmed value ≡ value → trim_end value ≡ value → without_last 13 value ≡ value → Tells (record { name = name; value = value }) text rest
parameter_line kind name text rest line after named beyond value is_kind is_name front begins blank goes_on equals some bare end no_return =
    let first : word_parts line ≡ (kind, after) =
    ap word_parts (text_whole kind line after begins ∙ ap (λ (t : List ℕ). kind ++ t) (follows 32 after named blank)) ∙ word_before kind 32 named (word_all kind is_kind) refl
    ∙ ap (λ (t : List ℕ). by_name kind t) (sym (follows 32 after named blank)) in
    let second : word_parts named ≡ (name, beyond) =
    ap word_parts (text_whole name named beyond goes_on ∙ ap (λ (t : List ℕ). name ++ t) (follows 61 beyond value equals)) ∙ word_before name 61 value (word_all name is_name) refl
    ∙ ap (λ (t : List ℕ). by_name name t) (sym (follows 61 beyond value equals)) in
    let after_kind : byte_front 32 (word_parts line).1 ≡ Some named = ap (λ (p : List ℕ × List ℕ). byte_front 32 p.1) first ∙ blank in
    let after_name : byte_front 61 (word_parts named).1 ≡ Some value = ap (λ (p : List ℕ × List ℕ). byte_front 61 p.1) second ∙ equals in
    let is : (word_parts named).0 ≡ name = ap (λ (p : List ℕ × List ℕ). p.0) second in
    let kind_some : 0 < length (word_parts line).0 = rw (ap (λ (p : List ℕ × List ℕ). p.0) first) (word_has kind is_kind) in
    let name_some : 0 < length (word_parts named).0 = rw is (word_has name is_name) in
    record {
      content = line;
      line = record { line = line; front = front; is = no_stamp_line line named value after_kind after_name kind_some some end no_return };
      parameter = its_parameter line named value after_kind after_name name_some bare ∙ ap (λ (n : List ℕ). found n value) is;
      named = word_has name is_name;
    }

-- ---- a parameter's line by what stands before its value, and by the value

start_kept : (xs : List ℕ) → begins_bare xs ≡ true → trim_start xs ≡ xs
start_kept [] h = cc
start_kept (b ∷ bs) h = elim (is_blank b) as (λ blank. not blank ≡ true → cond blank (trim_start bs) (b ∷ bs) ≡ b ∷ bs) [ true ↦ (λ e. cc) | false ↦ (λ e. refl) ] h

ends_kept : (xs : List ℕ) → ends_bare xs ≡ true → trim_end xs ≡ xs
ends_kept [] h = cc
ends_kept (b ∷ []) h = elim (is_blank b) as (λ blank. (not blank && not (b == 13)) ≡ true → cond blank [] (b ∷ []) ≡ b ∷ []) [ true ↦ (λ e. cc) | false ↦ (λ e. refl) ] h
ends_kept (b ∷ c ∷ cs) h = ap (before_trimmed b) (ends_kept (c ∷ cs) h)

never : (p : Bool) → (p && false) ≡ false
never true = refl
never false = refl

no_return_kept : (xs : List ℕ) → ends_bare xs ≡ true → without_last 13 xs ≡ xs
no_return_kept [] h = cc
no_return_kept (b ∷ []) h = elim (b == 13) as (λ last. (not (is_blank b) && not last) ≡ true → cond last [] (b ∷ []) ≡ b ∷ []) [ true ↦ (λ e. absurd (false≢true (sym (never (not (is_blank b))) ∙ e))) | false ↦ (λ e. refl) ] h
no_return_kept (b ∷ c ∷ cs) h = ap (λ (r : List ℕ). b ∷ r) (no_return_kept (c ∷ cs) h)

bare_kept : (xs : List ℕ) → begins_bare xs ≡ true → ends_bare xs ≡ true → trimmed xs ≡ xs
unfolding trimmed
bare_kept xs s e = ap trim_end (start_kept xs s) ∙ ends_kept xs e

bare_some : (xs : List ℕ) → begins_bare xs ≡ true → 0 < length xs
bare_some [] h = cc
bare_some (b ∷ bs) h = omega arith

line_whole : (kind name value more : List ℕ) → before_value kind name ++ (value ++ more) ≡ (kind ++ 32 ∷ (name ++ 61 ∷ value)) ++ more
line_whole kind name value more =
    append_assoc kind (32 ∷ (name ++ 61 ∷ [])) (value ++ more)
    ∙ ap (λ (t : List ℕ). kind ++ 32 ∷ t) (append_assoc name (61 ∷ []) (value ++ more) ∙ sym (append_assoc name (61 ∷ value) more))
    ∙ sym (append_assoc kind (32 ∷ (name ++ 61 ∷ value)) more)

pub parts_tell : TellsByItsParts
unfolding after_text
parts_tell kind name start value text behind rest is_kind is_name start_is few begins ends =
    let line : List ℕ = kind ++ 32 ∷ (name ++ 61 ∷ value) in
    let kind_in = inside_of is_word_byte kind refl (word_all kind is_kind) in
    let name_in = inside_of is_word_byte name refl (word_all name is_name) in
    let long : length start ≡ length kind + (length name + 2) = ap (λ (t : List ℕ). length t) start_is ∙ omega (arith, length-append kind (32 ∷ (name ++ 61 ∷ [])), length-append name (61 ∷ [])) in
    let front : BeginsWith line text rest = record {
      whole = begins ∙ ap (λ (t : List ℕ). t ++ behind) start_is ∙ ap (λ (t : List ℕ). before_value kind name ++ t) ends.whole ∙ line_whole kind name value (10 ∷ rest);
      one = one_line line (inside_both kind (32 ∷ (name ++ 61 ∷ value)) kind_in (inside_both name (61 ∷ value) name_in ends.inside));
      short = omega (arith, long, few, ends.short, length-append kind (32 ∷ (name ++ 61 ∷ value)), length-append name (61 ∷ value));
    } in
    parameter_line kind name text rest line (32 ∷ (name ++ 61 ∷ value)) (name ++ 61 ∷ value) (61 ∷ value) value is_kind is_name front
    (front_there kind (32 ∷ (name ++ 61 ∷ value))) refl (front_there name (61 ∷ value)) refl
    (bare_some value ends.starts) (bare_kept value ends.starts ends.ends) (ends_kept value ends.ends) (no_return_kept value ends.ends)

-- ---- any word, and the parameter on any line

-- a word in front of a text
pub word_is_one : (text name : List ℕ) → name ≡ (word_parts text).0 → 0 < length name → is_word name ≡ true
word_is_one text name is some =
    let has : nat_lt 0 (length name) ≡ true = grind (arith, common_steps) in
    rw (has, ap (list_all is_word_byte) is ∙ words_front text) refl

pub any_told : (text line rest name value : List ℕ) → BeginsWith line text rest → kind_of (trimmed (without_last 13 line)) ≡ Other line → parameter_of line ≡ Some (name, value) → 0 < length name
    → Tells (record { name = name; value = value }) text rest
any_told text line rest name value front is says some = record { content = line; line = record { line = line; front = front; is = is }; parameter = says; named = some }
