-- The call of a text that begins at a line.
use Rattle.std.proofs.Common.{◌≡◌, ◌∙◌, ◌++◌, ℕ, Bool, true, false, cond, eqb, List, [], ◌∷◌, Option, Some, None, refl, sym, ap, subst, inl, inr}
use Rattle.std.proofs.lemmas.Bool.{eq-eqb, ne_eqb}
use Rattle.dumpi_text.specs.Call.{TextCall, first_value}
use Rattle.dumpi_text.specs.Grammar.{Complete, Ending, Meaning, Stopped, meaning_of, text_meaning}
use Rattle.dumpi_text.specs.Reading.{HasRead, MeansAll}
use Rattle.dumpi_text.specs.Source.{rest_of}
use Rattle.dumpi_text.specs.Standing.{TextState}
use Rattle.dumpi_text.specs.declared.fault.LineFault.{LineFault}
use Rattle.dumpi_text.specs.declared.fault.TextCause.{TextCause}
use Rattle.dumpi_text.specs.declared.fault.TextCause.TheVariants as causes
use Rattle.dumpi_text.specs.declared.fault.TextFault.{TextFault}
use Rattle.dumpi_text.specs.declared.fault.TextFault.TheVariants as faults
use Rattle.dumpi_text.specs.declared.step.Position.{Position}
use Rattle.dumpi_calls.specs.Walks.{Follows, IsRead, RefusesNext}
use Rattle.text_notes.specs.Values.{GoesOn, IsValueAt, call_at, value_in}

not_here : (b : Bool) (line : ℕ) (call : TextCall) (calls rest : List TextCall) → cond b (Some call) (call_at line calls) ≡ None
    → (call_at line calls ≡ None → call_at line rest ≡ None) → cond b (Some call) (call_at line rest) ≡ None
not_here true line call calls rest e h = cc
not_here false line call calls rest e h = h e

-- none so far, and not this one
pub not_yet : (line : ℕ) (calls : List TextCall) (call : TextCall) → call_at line calls ≡ None → (call.line ≡ line → ⊥) → call_at line (calls ++ call ∷ []) ≡ None
not_yet line [] call e other = ap (λ (b : Bool). cond b (Some call) None) (ne_eqb call.line line other)
not_yet line (c ∷ cs) call e other = not_here (eqb c.line line) line c cs (cs ++ call ∷ []) e (λ none. not_yet line cs call none other)

further : (b : Bool) (line : ℕ) (c call : TextCall) (calls rest : List TextCall) → cond b (Some c) (call_at line calls) ≡ None
    → (call_at line calls ≡ None → call_at line rest ≡ Some call) → cond b (Some c) (call_at line rest) ≡ Some call
further true line c call calls rest e h = cc
further false line c call calls rest e h = h e

-- none so far, and this one
pub here : (line : ℕ) (calls rest : List TextCall) (call : TextCall) → call_at line calls ≡ None → call.line ≡ line → call_at line ((calls ++ call ∷ []) ++ rest) ≡ Some call
here line [] rest call e is = ap (λ (b : Bool). cond b (Some call) (call_at line rest)) (eq-eqb call.line line is)
here line (c ∷ cs) rest call e is = further (eqb c.line line) line c call cs ((cs ++ call ∷ []) ++ rest) e (λ none. here line cs rest call none is)

value_here : (line : ℕ) (name : List ℕ) (calls rest all : List TextCall) (call : TextCall) (value : Option (List ℕ)) → all ≡ (calls ++ call ∷ []) ++ rest
    → call_at line calls ≡ None → call.line ≡ line → value ≡ first_value name call.params → value ≡ value_in name (call_at line all)
value_here line name calls rest all call value e none is v =
    v ∙ sym (ap (value_in name) (ap (call_at line) e ∙ here line calls rest call none is))

-- what was read of a text stands in front of all its calls
in_front : (text : List ℕ) (calls : List TextCall) (at : Position) (rest : Option (List ℕ)) → HasRead (Some text) calls at rest → (more : List TextCall) × ((text_meaning text).calls ≡ calls ++ more)
in_front text calls at None read = absurd read
in_front text calls at (Some rest) read = ((meaning_of at None rest).calls, ap (λ (m : Meaning). m.calls) read)

pub nothing_more : (calls : List TextCall) → calls ≡ calls ++ []
nothing_more [] = refl
nothing_more (c ∷ cs) = ap (λ (l : List TextCall). c ∷ l) (nothing_more cs)

pub all_in_front : (text : List ℕ) (calls : List TextCall) (view : TextState) → IsRead (Some text) calls view → (more : List TextCall) × ((text_meaning text).calls ≡ calls ++ more)
all_in_front text calls view read = elim read.stands [
  | inl e ↦ in_front text calls view.at (rest_of view.rest) e.1
  | inr e ↦ ([], ap (λ (m : Meaning). m.calls) e.1 ∙ nothing_more calls)
]

-- The call at the line was read.
pub found_there : (text : Option (List ℕ)) (line : ℕ) (name : List ℕ) (calls : List TextCall) (call : TextCall) (view : TextState) (value : Option (List ℕ))
    → call_at line calls ≡ None → IsRead text (calls ++ call ∷ []) view → call.line ≡ line → value ≡ first_value name call.params → IsValueAt text line name value
found_there None line name calls call view value none read is v = tt
found_there (Some text) line name calls call view value none read is v =
    let front = all_in_front text (calls ++ call ∷ []) view read in
    value_here line name calls front.0 (text_meaning text).calls call value front.1 none is v

-- The text has no call at the line.
pub none_there : (text : Option (List ℕ)) (line : ℕ) (name : List ℕ) (calls : List TextCall) → call_at line calls ≡ None → (end : Ending) × MeansAll text calls end → IsValueAt text line name None
none_there None line name calls none all = tt
none_there (Some text) line name calls none all =
    sym (ap (value_in name) (ap (λ (m : Meaning). call_at line m.calls) all.1 ∙ none))

-- a call that follows, or the end
pub follows : (text : Option (List ℕ)) (calls : List TextCall) (found : Option TextCall) (view : TextState) → Follows text calls found view → GoesOn text calls found view
follows text calls None view f = (Complete view.told, f)
follows text calls (Some call) view f = f

-- a line that is refused
pub is_refused : (text : Option (List ℕ)) (calls : List TextCall) (fault : LineFault) (at line : ℕ) (view : TextState) → RefusesNext text calls (faults.At at (causes.Line fault)) line → GoesOn text calls None view
is_refused text calls fault at line view refused = (Stopped fault refused.1.0, refused.1.1)

-- the same, by what the text says in place of a call
pub refused_so : (text : Option (List ℕ)) (calls : List TextCall) (told : TextFault) (cause : TextCause) (at : ℕ) (fault : LineFault) (view : TextState)
    → told ≡ faults.At at cause → cause ≡ causes.Line fault → RefusesNext text calls told view.told.line → GoesOn text calls None view
refused_so text calls told cause at fault view is_at is_line refused =
    is_refused text calls fault at view.told.line view
    (subst (λ (t : TextFault). RefusesNext text calls t view.told.line) (is_at ∙ ap (faults.At at) is_line) refused)
