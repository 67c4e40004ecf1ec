-- Parameter lines as dumpi2ascii writes them: `type name=value`.
use Rattle.std.proofs.Common.{◌≡◌, ◌||◌, ℕ, ◌<◌, ◌≤◌, true, false, eqb, cond, codes, Option, Some, None, List, [], ◌∷◌, ◌++◌, length, take, drop, arith, ap, sym, refl, ◌∙◌, inl, inr, eq-eqb}
use Rattle.std.specs.List.{list_all, list_any}
use Rattle.std.proofs.lemmas.List.{append-nil, drop_all}
use Rattle.dumpi_text.specs.Parameter.{parameter_from, parameter_name, parameter_of}
use Rattle.dumpi_text.specs.Stamps.{Other, kind_from, kind_of, returning_word, stamp_word}
use Rattle.dumpi_text.specs.Tokens.{byte_front}
use Rattle.dumpi_text.specs.Words.{after_blanks, after_front, after_text, before_trimmed, is_blank, is_word_byte, split_at, trim_end, trim_start, trimmed, without_last, word_parts}
use Rattle.dumpi_text.proofs.Parts.{after_blanks_none}
use Rattle.dumpi_text.proofs.Meanings.{other_byte}
use Rattle.dumpi_text.proofs.Splits.{first_passes, rest_passes, unlike, split_passes, unsplit}
use Rattle.std.proofs.lemmas.Bool.{cases_eq, false≢true}

pub words_front : (text : List ℕ) → list_all is_word_byte (word_parts text).0 ≡ true
words_front [] = refl
words_front (b ∷ bs) =
    elim (is_word_byte b) as (λ w. w ≡ is_word_byte b → list_all is_word_byte (cond {A = List ℕ × List ℕ} w (b ∷ (word_parts bs).0, (word_parts bs).1) ([], b ∷ bs)).0 ≡ true)
    [ true ↦ (λ e. rw (sym e) (words_front bs)) | false ↦ (λ e. refl) ] refl

words_whole : (text : List ℕ) → text ≡ (word_parts text).0 ++ (word_parts text).1
words_whole [] = refl
words_whole (b ∷ bs) =
    elim (is_word_byte b) as (λ w. b ∷ bs ≡ (cond {A = List ℕ × List ℕ} w (b ∷ (word_parts bs).0, (word_parts bs).1) ([], b ∷ bs)).0 ++ (cond {A = List ℕ × List ℕ} w (b ∷ (word_parts bs).0, (word_parts bs).1) ([], b ∷ bs)).1)
    [ true ↦ ap (λ (r : List ℕ). b ∷ r) (words_whole bs) | false ↦ refl ]

no_blank : (b : ℕ) → is_word_byte b ≡ true → is_blank b ≡ false
no_blank b w = rw (unlike is_word_byte b 32 w refl, unlike is_word_byte b 9 w refl) refl

-- a word and a blank don't stand in front of a word and a `=`
no_front : (word more name value : List ℕ) → list_all is_word_byte word ≡ true → list_all is_word_byte name ≡ true → after_front (word ++ 32 ∷ more) (name ++ 61 ∷ value) ≡ None
no_front [] more [] value w n = refl
no_front [] more (b ∷ bs) value w n = rw (unlike is_word_byte b 32 (first_passes is_word_byte b bs n) refl) refl
no_front (a ∷ as1) more [] value w n =
    let other : eqb 61 a ≡ false = other_byte 61 a (λ e. false≢true (ap is_word_byte e ∙ first_passes is_word_byte a as1 w)) in
    rw other refl
no_front (a ∷ as1) more (b ∷ bs) value w n =
    elim (eqb b a) as (λ same. cond same (after_front (as1 ++ 32 ∷ more) (bs ++ 61 ∷ value)) None ≡ None)
    [ true ↦ no_front as1 more bs value (rest_passes is_word_byte a as1 w) (rest_passes is_word_byte b bs n) | false ↦ refl ]

no_stamp : (name value : List ℕ) → list_all is_word_byte name ≡ true → stamp_word (32 ∷ (name ++ 61 ∷ value)) ≡ None
unfolding stamp_word returning_word after_text
no_stamp name value n =
    rw (no_front (codes "entering") (codes "at ") name value refl n, no_front (codes "returning") (codes "at ") name value refl n, no_front (codes "returned") (codes "at ") name value refl n) refl

-- what follows a front isn't cut off
pub end_kept : (front text : List ℕ) → 0 < length text → trim_end text ≡ text → trim_end (front ++ text) ≡ front ++ text
end_kept [] text some e = e
end_kept (b ∷ bs) [] some e = absurd (omega arith)
end_kept (b ∷ []) (t ∷ ts) some e = ap (before_trimmed b) e
end_kept (b ∷ c ∷ cs) (t ∷ ts) some e = ap (before_trimmed b) (end_kept (c ∷ cs) (t ∷ ts) some e)

pub last_kept : (last : ℕ) (front text : List ℕ) → 0 < length text → without_last last text ≡ text → without_last last (front ++ text) ≡ front ++ text
last_kept last [] text some e = e
last_kept last (b ∷ bs) [] some e = absurd (omega arith)
last_kept last (b ∷ []) (t ∷ ts) some e = ap (λ (r : List ℕ). b ∷ r) e
last_kept last (b ∷ c ∷ cs) (t ∷ ts) some e = ap (λ (r : List ℕ). b ∷ r) (last_kept last (c ∷ cs) (t ∷ ts) some e)

word_end : (word : List ℕ) → list_all is_word_byte word ≡ true → trim_end word ≡ word
word_end [] all = refl
word_end (b ∷ []) all = rw (no_blank b (first_passes is_word_byte b [] all)) refl
word_end (b ∷ c ∷ cs) all = ap (before_trimmed b) (word_end (c ∷ cs) (rest_passes is_word_byte b (c ∷ cs) all))

no_blanks : (word : List ℕ) → list_all is_word_byte word ≡ true → list_any is_blank word ≡ false
no_blanks [] all = refl
no_blanks (b ∷ bs) all = rw (no_blank b (first_passes is_word_byte b bs all)) (no_blanks bs (rest_passes is_word_byte b bs all))

blank_there : (front rest : List ℕ) → list_any is_blank (front ++ 32 ∷ rest) ≡ true
blank_there [] rest = refl
blank_there (b ∷ bs) rest = elim (is_blank b) as (λ w. (w || list_any is_blank (bs ++ 32 ∷ rest)) ≡ true) [ true ↦ refl | false ↦ blank_there bs rest ]

last_run : (front name : List ℕ) → list_all is_word_byte name ≡ true → after_blanks (front ++ 32 ∷ name) ≡ name
last_run [] name n = after_blanks_none name (no_blanks name n)
last_run (b ∷ bs) name n = rw (blank_there (b ∷ bs) name) (last_run bs name n)

name_of : (front name : List ℕ) → 0 < length name → list_all is_word_byte name ≡ true → parameter_name (front ++ 32 ∷ name) ≡ name
unfolding parameter_name
name_of front name some n =
    let whole : trim_end (32 ∷ name) ≡ 32 ∷ name = end_kept (32 ∷ []) name some (word_end name n) in
    ap (λ (t : List ℕ). (split_at 91 (after_blanks t)).0) (end_kept front (32 ∷ name) (omega arith) whole)
    ∙ ap (λ (t : List ℕ). (split_at 91 t).0) (last_run front name n)
    ∙ unsplit is_word_byte 91 name n refl

pub follows : (wanted : ℕ) (text rest : List ℕ) → byte_front wanted text ≡ Some rest → text ≡ wanted ∷ rest
follows wanted [] rest e = cc
follows wanted (b ∷ bs) rest e =
    elim (cases_eq b wanted) [
      | inl same ↦ (let it : eqb b wanted ≡ true = eq-eqb b wanted same in let found : Some bs ≡ Some rest = rw it at e in cc)
      | inr other ↦ (let it : eqb b wanted ≡ false = other_byte b wanted other in let found : ◌≡◌ {A = Option (List ℕ)} None (Some rest) = rw it at e in cc)
    ]

-- the name and the value with the byte between them
pub its_pair : (named value : List ℕ) → byte_front 61 (word_parts named).1 ≡ Some value → named ≡ (word_parts named).0 ++ 61 ∷ value
its_pair named value v = words_whole named ∙ ap (λ (r : List ℕ). (word_parts named).0 ++ r) (follows 61 (word_parts named).1 value v)

-- the line by its parts
line_parts : (line named value : List ℕ) → byte_front 32 (word_parts line).1 ≡ Some named → byte_front 61 (word_parts named).1 ≡ Some value
    → line ≡ (word_parts line).0 ++ (32 ∷ ((word_parts named).0 ++ 61 ∷ value))
line_parts line named value n v =
    words_whole line ∙ ap (λ (r : List ℕ). (word_parts line).0 ++ r) (follows 32 (word_parts line).1 named n
    ∙ ap (λ (r : List ℕ). 32 ∷ r) (its_pair named value v))

by_parts : (front name value : List ℕ) → list_all is_word_byte front ≡ true → list_all is_word_byte name ≡ true → 0 < length name → trimmed value ≡ value
    → parameter_of (front ++ (32 ∷ (name ++ 61 ∷ value))) ≡ Some (name, value)
unfolding parameter_of
by_parts front name value f n some v =
    let before : split_at 61 (front ++ (32 ∷ (name ++ 61 ∷ value))) ≡ (front ++ 32 ∷ name, Some value) =
    rw (split_passes is_word_byte 61 front (32 ∷ (name ++ 61 ∷ value)) f refl, split_passes is_word_byte 61 name (61 ∷ value) n refl, append-nil name) refl in
    let by_name : List ℕ → Option (List ℕ × List ℕ) = λ found. Some (found, trimmed value) in
    let by_value : List ℕ → Option (List ℕ × List ℕ) = λ found. Some (name, found) in
    ap (λ (p : List ℕ × Option (List ℕ)). parameter_from p.0 p.1) before ∙ ap by_name (name_of front name some n) ∙ ap by_value v

pub its_parameter : (line named value : List ℕ) → byte_front 32 (word_parts line).1 ≡ Some named → byte_front 61 (word_parts named).1 ≡ Some value
    → 0 < length (word_parts named).0 → trimmed value ≡ value → parameter_of line ≡ Some ((word_parts named).0, value)
its_parameter line named value n v some whole =
    ap parameter_of (line_parts line named value n v) ∙ by_parts (word_parts line).0 (word_parts named).0 value (words_front line) (words_front named) some whole

pub starts_bare : (b : ℕ) (bs : List ℕ) → is_word_byte b ≡ true → trim_start (b ∷ bs) ≡ b ∷ bs
starts_bare b bs w = rw (no_blank b w) refl

-- nothing is cut off such a line
uncut : (front name value : List ℕ) → 0 < length front → list_all is_word_byte front ≡ true → 0 < length value → trim_end value ≡ value → without_last 13 value ≡ value
    → trimmed (without_last 13 (front ++ (32 ∷ (name ++ 61 ∷ value)))) ≡ front ++ (32 ∷ (name ++ 61 ∷ value))
unfolding trimmed
uncut [] name value some f more whole returns = absurd (omega arith)
uncut (b ∷ bs) name value some f more whole returns =
    let there : 0 < length (32 ∷ (name ++ 61 ∷ value)) = omega arith in
    let after : without_last 13 (61 ∷ value) ≡ 61 ∷ value = last_kept 13 (61 ∷ []) value more returns in
    let after_end : trim_end (61 ∷ value) ≡ 61 ∷ value = end_kept (61 ∷ []) value more whole in
    let named : without_last 13 (32 ∷ (name ++ 61 ∷ value)) ≡ 32 ∷ (name ++ 61 ∷ value) = last_kept 13 (32 ∷ name) (61 ∷ value) (omega arith) after in
    let named_end : trim_end (32 ∷ (name ++ 61 ∷ value)) ≡ 32 ∷ (name ++ 61 ∷ value) = end_kept (32 ∷ name) (61 ∷ value) (omega arith) after_end in
    ap trimmed (last_kept 13 (b ∷ bs) (32 ∷ (name ++ 61 ∷ value)) there named)
    ∙ ap trim_end (starts_bare b (bs ++ (32 ∷ (name ++ 61 ∷ value))) (first_passes is_word_byte b bs f))
    ∙ end_kept (b ∷ bs) (32 ∷ (name ++ 61 ∷ value)) there named_end

is_other : (line : List ℕ) → 0 < length (word_parts line).0 → stamp_word (word_parts line).1 ≡ None → kind_of line ≡ Other line
unfolding kind_of
is_other [] some none = absurd (omega arith)
is_other (b ∷ bs) some none =
    elim (word_parts (b ∷ bs)).0 as (λ (w : List ℕ). 0 < length w → kind_from (b ∷ bs) w (stamp_word (word_parts (b ∷ bs)).1) ≡ Other (b ∷ bs))
    [ [] ↦ (λ p. absurd (omega arith)) | w ∷ ws ↦ (λ p. rw none refl) ] some

pub no_stamp_line : (line named value : List ℕ) → byte_front 32 (word_parts line).1 ≡ Some named → byte_front 61 (word_parts named).1 ≡ Some value
    → 0 < length (word_parts line).0 → 0 < length value → trim_end value ≡ value → without_last 13 value ≡ value → kind_of (trimmed (without_last 13 line)) ≡ Other line
no_stamp_line line named value n v some more whole returns =
    let e = line_parts line named value n v in
    let same : trimmed (without_last 13 line) ≡ line = ap (λ (t : List ℕ). trimmed (without_last 13 t)) e ∙ uncut (word_parts line).0 (word_parts named).0 value some (words_front line) more whole returns ∙ sym e in
    let rest : (word_parts line).1 ≡ 32 ∷ ((word_parts named).0 ++ 61 ∷ value) =
    follows 32 (word_parts line).1 named n ∙ ap (λ (r : List ℕ). 32 ∷ r) (words_whole named ∙ ap (λ (r : List ℕ). (word_parts named).0 ++ r) (follows 61 (word_parts named).1 value v)) in
    ap kind_of same ∙ is_other line some (ap stamp_word rest ∙ no_stamp (word_parts named).0 value (words_front named))

pub front_whole : (front text rest : List ℕ) → after_front front text ≡ Some rest → text ≡ front ++ rest
front_whole [] text rest e = cc
front_whole (f ∷ fs) [] rest e = cc
front_whole (f ∷ fs) (t ∷ ts) rest e =
    elim (cases_eq t f) [
      | inl same ↦ (let it : eqb t f ≡ true = eq-eqb t f same in let found : after_front fs ts ≡ Some rest = rw it at e in ap (λ (b : ℕ). b ∷ ts) same ∙ ap (λ (r : List ℕ). f ∷ r) (front_whole fs ts rest found))
      | inr other ↦ (let it : eqb t f ≡ false = other_byte t f other in let found : ◌≡◌ {A = Option (List ℕ)} None (Some rest) = rw it at e in cc)
    ]

pub text_whole : (front text rest : List ℕ) → after_text front text ≡ Some rest → text ≡ front ++ rest
unfolding after_text
text_whole front text rest e = front_whole front text rest e

-- the same where a front was compared byte by byte to its end
pub whole_at_end : (at : ℕ) (front text : List ℕ) → after_front (drop at front) (drop at text) ≡ after_front front text → length front ≤ at → at ≤ length front → text ≡ front ++ drop (length front) text
whole_at_end at front text same over within =
    let here : at ≡ length front = omega arith in
    let found : after_front front text ≡ Some (drop at text) = sym same ∙ ap (λ (f : List ℕ). after_front f (drop at text)) (drop_all at front over) in
    front_whole front text (drop at text) found ∙ ap (λ (k : ℕ). front ++ drop k text) here

pub word_before : (word : List ℕ) (stop : ℕ) (more : List ℕ) → list_all is_word_byte word ≡ true → is_word_byte stop ≡ false → word_parts (word ++ stop ∷ more) ≡ (word, stop ∷ more)
word_before [] stop more all stops = rw stops refl
word_before (b ∷ bs) stop more all stops = rw (first_passes is_word_byte b bs all, word_before bs stop more (rest_passes is_word_byte b bs all) stops) refl

take_front : (front rest : List ℕ) → take (length front) (front ++ rest) ≡ front
take_front [] rest = refl
take_front (b ∷ bs) rest = ap (λ (r : List ℕ). b ∷ r) (take_front bs rest)

-- a front that is there is no longer than its text
pub known_there : (front text rest : List ℕ) → after_text front text ≡ Some rest → length front ≡ length (take (length front) text)
known_there front text rest e =
    let taken : take (length front) text ≡ front = ap (λ (t : List ℕ). take (length front) t) (text_whole front text rest e) ∙ take_front front rest in
    sym (ap (λ (t : List ℕ). length t) taken)

-- the word in front, where it is known and a byte follows that no word has
pub known_parts : (word text rest more : List ℕ) (stop : ℕ) → list_all is_word_byte word ≡ true → is_word_byte stop ≡ false → after_text word text ≡ Some rest → byte_front stop rest ≡ Some more
    → word_parts text ≡ (take (length word) text, rest)
known_parts word text rest more stop all stops e next =
    let after : rest ≡ stop ∷ more = follows stop rest more next in
    let whole : text ≡ word ++ stop ∷ more = text_whole word text rest e ∙ ap (λ (r : List ℕ). word ++ r) after in
    let taken : take (length word) text ≡ word = ap (λ (t : List ℕ). take (length word) t) whole ∙ take_front word (stop ∷ more) in
    rw (taken, after) (ap word_parts whole ∙ word_before word stop more all stops)
