-- What a stuck rank waits for, in words.
use Rattle.std.specs.Prelude.{ℕ, zero, suc, List, [], ◌++◌, codes, decimal}
use Rattle.trace_stuck.specs.Shape as waits
use Rattle.trace_stuck.specs.Shape.{Waits, OnNothing, OnRank, OnAll, OnOne, OnMismatched, none, and}
use Rattle.trace_report.specs.declared.form.Form.{Form}
use Rattle.trace_report.specs.declared.form.Form.TheVariants.{Lines, Json}

-- The words of a condition: nothing to wait for, the heads of an all-of and a one-of, what stands between two parts,
-- and what ends a list of them.
pub record WaitWords : Type 0 where
  pub yes : List ℕ
  pub all : List ℕ
  pub any : List ℕ
  pub between : List ℕ
  pub close : List ℕ

-- `yes`, a rank, `all(..)` or `any(..)`, one space between two parts
abbrev pub of_lines : WaitWords
of_lines = record { yes = codes "yes"; all = codes "all("; any = codes "any("; between = codes " "; close = codes ")" }

-- `"yes"`, a rank, `{"all":[..]}` or `{"any":[..]}`
abbrev pub of_json : WaitWords
of_json = record { yes = codes "\"yes\""; all = codes "{\"all\":["; any = codes "{\"any\":["; between = codes ","; close = codes "]}" }

-- the words of each form of a report
abbrev pub words_of : Form → WaitWords
words_of Lines = of_lines
words_of Json = of_json

abbrev mutual
  -- a condition
  pub wait_text : WaitWords → waits.Wait → List ℕ
  wait_text words OnNothing = words.yes
  wait_text words (OnRank r) = decimal r
  wait_text words (OnAll parts) = words.all ++ parts_text words parts ++ words.close
  wait_text words (OnOne parts) = words.any ++ parts_text words parts ++ words.close
  wait_text words (OnMismatched first) = words.yes

  -- the parts in their order
  pub parts_text : WaitWords → Waits → List ℕ
  parts_text words none = []
  parts_text words (and first rest) = wait_text words first ++ more_text words rest

  -- the parts that follow another
  pub more_text : WaitWords → Waits → List ℕ
  more_text words none = []
  more_text words (and next rest) = words.between ++ wait_text words next ++ more_text words rest

-- the parts behind the head of their list, with what ends it
abbrev pub list_text : WaitWords → List ℕ → Waits → List ℕ
list_text words head parts = head ++ parts_text words parts ++ words.close

-- what stands before a part, by its place among the parts
abbrev pub before_part : WaitWords → ℕ → List ℕ
before_part words zero = []
before_part words (suc i) = words.between

-- a part by its place, with what stands before it
abbrev pub part_text : WaitWords → ℕ → waits.Wait → List ℕ
part_text words i part = before_part words i ++ wait_text words part
