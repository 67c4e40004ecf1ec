-- What is said of a layout that was made, on one line.
use Rattle.std.specs.Prelude.{ℕ, ◌+◌, ◌==◌, Bool, true, false, List, [], ◌∷◌, ◌++◌, codes, decimal, nat_lt, if◌then◌else◌}
use Rattle.text_layouts.specs.Seats.{missing_text}
use Rattle.mpi_model.specs.Communicators.{Communicator}
use Rattle.mpi_model.specs.declared.object.Object.{Object}
use Rattle.mpi_model.specs.declared.object.Object.TheVariants.{Communicator as Comm, Window, File}

-- a number, and what it counts: one, or several of them
abbrev pub counted_text : ℕ → List ℕ → List ℕ → List ℕ
counted_text count one several = decimal count ++ (if count == 1 then one else several)

-- both are the same sort
abbrev pub same_sort : Object → Object → Bool
same_sort Comm Comm = true
same_sort Window Window = true
same_sort File File = true
same_sort _ _ = false

-- how many of these are of this sort
abbrev pub sort_count : Object → List Communicator → ℕ
sort_count sort [] = 0
sort_count sort (g ∷ comms) = (if same_sort g.object sort then 1 else 0) + sort_count sort comms

-- so many of a sort that not each run has; nothing of none
abbrev pub objects_text : ℕ → List ℕ → List ℕ → List ℕ
objects_text count one several = if nat_lt 0 count then codes ", " ++ counted_text count one several else []

-- `; 2 left out (--verbose names them)`
abbrev pub some_left_text : ℕ → List ℕ
some_left_text count = codes "; " ++ decimal count ++ codes " left out (--verbose names them)"

-- how many are left out; nothing of none
abbrev pub left_count_text : ℕ → List ℕ
left_count_text count = if nat_lt 0 count then some_left_text count else []

-- how many texts and calls there are
abbrev pub read_text : ℕ → ℕ → List ℕ
read_text texts calls = counted_text texts (codes " text, ") (codes " texts, ") ++ counted_text calls (codes " call, ") (codes " calls, ")

-- how many communicators, windows and files these are
abbrev pub made_text : List Communicator → List ℕ
made_text comms = counted_text (sort_count Comm comms) (codes " communicator") (codes " communicators")
    ++ objects_text (sort_count Window comms) (codes " window") (codes " windows") ++ objects_text (sort_count File comms) (codes " file") (codes " files")

-- which ranks have no text, and how many communicators are left out, to the end of the line
abbrev pub lost_text : List ℕ → ℕ → List ℕ
lost_text missing left_out = missing_text (codes "; ") missing [] ++ left_count_text left_out ++ codes "\n"

-- `3 texts, 36 calls, 6 communicators, 1 window; no text of rank 1; 2 left out (--verbose names them)`
abbrev pub summary_text : ℕ → ℕ → List ℕ → List Communicator → ℕ → List ℕ
summary_text texts calls missing comms left_out = read_text texts calls ++ made_text comms ++ lost_text missing left_out
