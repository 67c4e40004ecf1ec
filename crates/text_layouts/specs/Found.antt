-- What is said of a layout that was made, as JSON.
use Rattle.std.specs.Prelude.{◌==◌, ℕ, Bool, List, Option, Some, None, codes, length, if◌then◌else◌}
use Rattle.json.specs.Json.{Json, null, boolean, string, array, object, no_members, member}
use Rattle.mpi_model.specs.Communicators.{Communicator, first_group, second_group}
use Rattle.mpi_model.specs.declared.object.Object.{Object}
use Rattle.mpi_model.specs.declared.object.Object.TheVariants as objects
use Rattle.comm_makings.specs.declared.answer.LeftOut.{LeftOut}
use Rattle.comm_makings.specs.declared.answer.Why.{Why}
use Rattle.comm_makings.specs.declared.answer.Why.TheVariants as reasons
use Rattle.run_files.specs.Values.{entry_value, items_of, number_of}
use Rattle.text_layouts.specs.Words.{function_text}
use Rattle.text_layouts.specs.declared.made.Made.{Made}

-- the sort of object
abbrev pub object_word : Object → List ℕ
object_word objects.Communicator = codes "communicator"
object_word objects.Window = codes "window"
object_word objects.File = codes "file"

-- what MPI calls it, where it is the world
abbrev pub name_value : ℕ → ℕ → Json
name_value world id = if id == world then string (codes "MPI_COMM_WORLD") else null

-- `{"id":2,"object":"communicator","name":"MPI_COMM_WORLD","members":[0,1],"remote":[],"numbers":[]}`, where `remote`
-- has the members of an intercommunicator's second group
abbrev pub comm_value : ℕ → Communicator → Json
comm_value world g = object (member (codes "id") (number_of g.comm) (member (codes "object") (string (object_word g.object)) (member (codes "name") (name_value world g.comm)
    (member (codes "members") (array (items_of number_of (first_group g))) (member (codes "remote") (array (items_of number_of (second_group g)))
    (member (codes "numbers") (array (items_of entry_value g.numbers)) no_members))))))

-- the number that a call gave, where it can be read
abbrev pub given_value : Option ℕ → Json
given_value None = null
given_value (Some number) = number_of number

-- why a communicator is left out, in a word
abbrev pub why_word : Why → List ℕ
why_word reasons.Function = codes "function"
why_word reasons.Taken = codes "taken"
why_word reasons.UnknownParent = codes "unknown"
why_word reasons.Parent = codes "parent"
why_word reasons.Untold = codes "untold"
why_word reasons.Unsound = codes "unsound"
why_word reasons.Behind = codes "behind"

-- `{"rank":1,"call":12,"function":"MPI_Comm_split","number":5,"uses":3,"why":"parent"}`
abbrev pub left_value : LeftOut → Json
left_value l = object (member (codes "rank") (number_of l.rank) (member (codes "call") (number_of l.call) (member (codes "function") (string (function_text l.made_by))
    (member (codes "number") (given_value l.number) (member (codes "uses") (number_of l.uses) (member (codes "why") (string (why_word l.why)) no_members))))))

-- `{"init":1,"texts":4,"calls":120,"ranks":4,"by_digits":true,"missing":[],"comms":[..],"left_out":[..],"layout":"..","manifest":".."}`:
-- what was made of texts with so many calls, whether their names' digits told the ranks, which ranks have no text, and
-- the names of both files
abbrev pub found_value : List ℕ → List ℕ → Bool → List ℕ → ℕ → Made → Json
found_value layout manifest by_digits missing calls made = object (member (codes "init") (number_of 1)
    (member (codes "texts") (number_of (length made.input.manifest.pieces)) (member (codes "calls") (number_of calls) (member (codes "ranks") (number_of made.input.layout.ranks)
    (member (codes "by_digits") (boolean by_digits) (member (codes "missing") (array (items_of number_of missing))
    (member (codes "comms") (array (items_of (comm_value made.derived.world) made.derived.comms.items)) (member (codes "left_out") (array (items_of left_value made.derived.left_out.items))
    (member (codes "layout") (string layout) (member (codes "manifest") (string manifest) no_members))))))))))
