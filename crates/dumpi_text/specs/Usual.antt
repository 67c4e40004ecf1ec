-- Calls that stand whole in front of a text: an entering line, parameter lines, and a returning line.
use Rattle.std.specs.Prelude.{◌≡◌, ◌<◌, ◌≤◌, ℕ, ◌+◌, Bool, true, false, ◌&&◌, ◌==◌, not, List, [], ◌∷◌, ◌++◌, length, codes, Ok, Some, drop, nat_lt}
use Rattle.std.specs.List.{list_all}
use Rattle.mpi_model.specs.Times.{Times}
use Rattle.dumpi_text.specs.Bytes.{carriage_return, equals, line_feed, space}
use Rattle.dumpi_text.specs.Call.{CallContent, Param, TextCall}
use Rattle.dumpi_text.specs.Lines.{IsOneLine}
use Rattle.dumpi_text.specs.Parameter.{parameter_of}
use Rattle.dumpi_text.specs.Stamps.{Kind, Entering, Returning, Other, kind_of}
use Rattle.dumpi_text.specs.Time.{is_time_byte, time_of}
use Rattle.dumpi_text.specs.Words.{is_blank, is_word_byte, trimmed, without_last}
use Rattle.dumpi_text.specs.declared.source.TheConstants.{LONGEST_LINE}
use Rattle.dumpi_text.specs.declared.step.Position.{Position}

-- one or more letters, digits and `_`, and nothing else
abbrev pub is_word : List ℕ → Bool
is_word text = nat_lt 0 (length text) && list_all is_word_byte text

-- A text begins with this line and its line feed, and then comes the rest.
pub record BeginsWith (line text rest : List ℕ) : Type 0 where
  pub whole : text ≡ line ++ line_feed ∷ rest
  pub one : IsOneLine line
  pub short : length line ≤ LONGEST_LINE

-- A text begins with a line of this kind.
pub record HasLine (kind : Kind) (text rest : List ℕ) : Type 0 where
  pub line : List ℕ
  pub front : BeginsWith line text rest
  pub is : kind_of (trimmed (without_last carriage_return line)) ≡ kind

-- A text begins with a line that tells this parameter.
pub record Tells (param : Param) (text rest : List ℕ) : Type 0 where
  pub content : List ℕ
  pub line : HasLine (Other content) text rest
  pub parameter : parameter_of content ≡ Some (param.name, param.value)
  pub named : 0 < length param.name

-- a byte that ends no line
abbrev pub is_inside : ℕ → Bool
is_inside byte = not (byte == line_feed)

-- whether a text begins with a byte that is no blank
abbrev pub begins_bare : List ℕ → Bool
begins_bare [] = false
begins_bare (byte ∷ bytes) = not (is_blank byte)

-- whether a text ends with a byte that is no blank and no carriage return
abbrev pub ends_bare : List ℕ → Bool
ends_bare [] = false
ends_bare (byte ∷ []) = not (is_blank byte) && not (byte == carriage_return)
ends_bare (byte ∷ next ∷ bytes) = ends_bare (next ∷ bytes)

-- A text begins with a value that nothing is cut off and with its line feed, and then comes the rest.
pub record EndsLine (value text rest : List ℕ) : Type 0 where
  pub whole : text ≡ value ++ line_feed ∷ rest
  pub short : length value ≤ 100
  pub inside : list_all is_inside value ≡ true
  pub starts : begins_bare value ≡ true
  pub ends : ends_bare value ≡ true

-- what stands before the value on the line of a parameter
abbrev pub before_value : List ℕ → List ℕ → List ℕ
before_value kind name = kind ++ space ∷ (name ++ equals ∷ [])

-- A value tells a parameter where the parameter's type, its name and `=` stand before it.
abbrev pub TellsByItsParts : Type 0
TellsByItsParts = (kind name start value text behind rest : List ℕ) → is_word kind ≡ true → is_word name ≡ true → start ≡ before_value kind name → length start ≤ 100
    → text ≡ start ++ behind → EndsLine value behind rest → Tells (record { name = name; value = value }) text rest

-- A text begins with the times of a stamp and with the end of its line, and then comes the rest.
pub record EndsStamp (at : Times) (text rest : List ℕ) : Type 0 where
  pub wall : List ℕ
  pub cpu : List ℕ
  pub whole : text ≡ wall ++ (codes ", cputime " ++ (cpu ++ (codes " seconds in thread 0." ++ line_feed ∷ rest)))
  pub wall_is : time_of wall ≡ Ok at.wall
  pub cpu_is : time_of cpu ≡ Ok at.cpu
  pub wall_bytes : list_all is_time_byte wall ≡ true
  pub cpu_bytes : list_all is_time_byte cpu ≡ true
  pub short : length wall + length cpu ≤ 100

-- A text begins with the lines of these parameters, in this order.
abbrev pub TellsAll : List Param → List ℕ → List ℕ → Type 0
TellsAll [] text rest = text ≡ rest
TellsAll (param ∷ params) text rest = (next : List ℕ) × Tells param text next × TellsAll params next rest

-- A text begins with a whole call.
pub record HasCall (content : CallContent) (enter exit : Times) (text rest : List ℕ) : Type 0 where
  pub inside : List ℕ
  pub after : List ℕ
  pub enters : HasLine (Entering content.name enter) text inside
  pub tells : TellsAll content.params inside after
  pub returns : HasLine (Returning content.name exit) after rest

-- how many lines such a call has
abbrev pub lines_of : CallContent → ℕ
lines_of content = length content.params + 2

-- So many bytes in front are a whole call, of so many lines, that was entered then.
pub record StandsWhole (text : List ℕ) (bytes lines : ℕ) (enter : Times) : Type 0 where
  pub content : CallContent
  pub exit : Times
  pub call : HasCall content enter exit text (drop bytes text)
  pub counted : lines ≡ lines_of content

-- such a call after a place
abbrev pub call_after : Position → CallContent → Times → Times → TextCall
call_after at content enter exit = record { name = content.name; params = content.params; enter = enter; exit = Some exit; line = at.line + 1; last_line = at.line + lines_of content; threads = false }

-- the place after a call of so many lines
abbrev pub place_after : Position → ℕ → Times → Position
place_after at lines enter = record at { line = at.line + lines; entered = enter.wall }
