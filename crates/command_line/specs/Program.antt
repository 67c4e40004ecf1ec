-- The command line of the program, as clap reads it.
use Rattle.std.specs.Prelude.{◌≡◌, ◌∷◌, ℕ, Bool, List, [], Option, Some, None, if◌then◌else◌, false, true, codes, map, option_map, option_and_then}
use denote.Bor.{Bor}
use Rattle.std.specs.Str.{bytes_eq}
use Rattle.clap.specs.Words.{App, IsAmong, Row, Rule, Text, all_of, fault_of, first_of, kind_of, new_app, new_rule, subcommand_of, with_rule, with_subcommand}
use Rattle.clap.specs.Simple.{on_top}
use Rattle.clap.specs.declared.builder.action.ArgAction.TheVariants.{Append, SetTrue}
use Rattle.clap.specs.declared.error.kind.ErrorKind.{ErrorKind}
use Rattle.clap.specs.declared.error.kind.ErrorKind.TheVariants as kinds
use Rattle.mpi_model.specs.declared.layout.Sends.{Sends}
use Rattle.mpi_model.specs.declared.layout.Sends.TheVariants.{Wait, Buffer}
use Rattle.command_line.specs.declared.Asked.{Asked}
use Rattle.command_line.specs.declared.Asked.TheVariants as asked
use Rattle.command_line.specs.declared.CommandFault.{CommandFault}
use Rattle.command_line.specs.declared.CommandFault.TheVariants.{Memory, Shown, Unread}
use Rattle.command_line.specs.declared.Wanted.{Wanted}
use Rattle.command_line.specs.declared.Extent.{Extent}
use Rattle.command_line.specs.declared.Extent.TheVariants.{Cut, Whole}
use Rattle.command_line.specs.Ranks.{rank_in, rank_parser}
use Rattle.command_line.specs.Threads.{threads_rule}
use Rattle.command_line.specs.Windows.{calls_asked, window_in}
use Rattle.command_line.specs.declared.Verb.{Verb}
use Rattle.command_line.specs.declared.Verbosity.{Verbosity}
use Rattle.command_line.specs.declared.Verbosity.TheVariants.{Quiet, Brief, Verbose}
use Rattle.command_line.specs.declared.Verb.TheVariants.{Explain, ExplainJson, ExplainRank, Graph, Page, Report, ReportJson, Timeline, Replay, Check, CheckJson, Pack}

-- the texts behind these references
abbrev pub texts_of : List (Bor Text) → List Text
texts_of texts = map (λ t. t.now) texts

-- the text behind a reference, where there is one
abbrev pub text_of : Option (Bor Text) → Option Text
text_of text = option_map (λ t. t.now) text

-- a file that has to be named
abbrev pub file_rule : Text → Rule
file_rule id = record (new_rule id) { required = true }

-- one file that has to be named, or more
abbrev pub several_rule : Text → Rule
several_rule id = record (file_rule id) { action = Some Append }

-- `-q`, `--quiet`, which leaves nothing on standard error but faults
abbrev pub quiet_rule : Rule
quiet_rule = record (new_rule (codes "quiet")) { short = Some 113; long = Some (codes "quiet"); action = Some SetTrue }

-- `--verbose`, which names what was found in the texts
abbrev pub verbose_rule : Rule
verbose_rule = record (new_rule (codes "verbose")) { long = Some (codes "verbose"); action = Some SetTrue }

-- a verb over a layout and a manifest
abbrev pub pair_app : Text → App
pair_app name = with_rule (with_rule (with_rule (new_app name) (file_rule (codes "LAYOUT"))) (file_rule (codes "MANIFEST"))) quiet_rule

-- a verb that reads the pieces of a layout and a manifest
abbrev pub pieces_app : Text → App
pieces_app name = with_rule (pair_app name) threads_rule

-- a verb over its files
abbrev pub files_app : Text → App
files_app name = with_rule (with_rule (with_rule (with_rule (new_app name) (several_rule (codes "FILE"))) quiet_rule) verbose_rule) threads_rule

-- the flag for a report as JSON
abbrev pub json_rule : Rule
json_rule = record (new_rule (codes "json")) { long = Some (codes "json"); action = Some SetTrue }

-- `report`, over texts or a layout and a manifest, and whether as JSON
abbrev pub report_app : App
report_app = with_rule (files_app (codes "report")) json_rule

-- `--rank`, a number
abbrev pub rank_rule : Rule
rank_rule = record (new_rule (codes "rank")) { long = Some (codes "rank"); parser = Some rank_parser }

-- the flag for lists that aren't cut
abbrev pub all_rule : Rule
all_rule = record (new_rule (codes "all")) { long = Some (codes "all"); action = Some SetTrue }

-- `explain`, over texts or a layout and a manifest: as JSON, with lists that aren't cut, of all ranks or of one
abbrev pub explain_app : App
explain_app = with_rule (with_rule (with_rule (files_app (codes "explain")) json_rule) all_rule) rank_rule

-- `graph`, over texts or a layout and a manifest, perhaps with all nodes
abbrev pub graph_app : App
graph_app = with_rule (files_app (codes "graph")) all_rule

-- the program with `graph`
abbrev pub with_graph : App → App
with_graph app = with_subcommand app graph_app.top

-- the program with `explain`
abbrev pub with_explain : App → App
with_explain app = with_subcommand app explain_app.top

-- the program with `report`
abbrev pub with_report : App → App
with_report app = with_subcommand app report_app.top

-- the program with a verb over a layout and a manifest
abbrev pub with_pair : App → Text → App
with_pair app name = with_subcommand app (pair_app name).top

-- the program with a verb that reads the pieces of a layout and a manifest
abbrev pub with_pieces : App → Text → App
with_pieces app name = with_subcommand app (pieces_app name).top

-- the program with a verb over texts or a layout and a manifest
abbrev pub with_files : App → Text → App
with_files app name = with_subcommand app (files_app name).top

-- `check`, over texts or a layout and a manifest, and whether as JSON
abbrev pub check_app : App
check_app = with_rule (files_app (codes "check")) json_rule

-- the program with `check`
abbrev pub with_check : App → App
with_check app = with_subcommand app check_app.top

-- an option for a value, which it has also without it
abbrev pub option_rule : Text → Text → Rule
option_rule id default = record (new_rule id) { long = Some id; value_names = 1; defaults = default ∷ [] }

-- `--sends`, `wait` where it is absent
abbrev pub sends_rule : Rule
sends_rule = option_rule (codes "sends") (codes "wait")

-- `--layout`, the name of the layout that is made
abbrev pub layout_rule : Rule
layout_rule = option_rule (codes "layout") (codes "layout.json")

-- `--manifest`, the name of the manifest that is made
abbrev pub manifest_rule : Rule
manifest_rule = option_rule (codes "manifest") (codes "manifest.json")

-- `--force`, which writes over files that are there
abbrev pub force_rule : Rule
force_rule = record (new_rule (codes "force")) { long = Some (codes "force"); action = Some SetTrue }

-- `init` over texts, with its options
abbrev pub init_app : App
init_app = with_rule (with_rule (with_rule (with_rule (with_rule (with_rule (with_rule (with_rule (new_app (codes "init")) (several_rule (codes "TEXT"))) sends_rule) layout_rule) manifest_rule) force_rule) quiet_rule) threads_rule) json_rule

-- the program with `init`
abbrev pub with_init : App → App
with_init app = with_subcommand app init_app.top

-- the flag for CSV
abbrev pub csv_rule : Rule
csv_rule = record (new_rule (codes "csv")) { long = Some (codes "csv"); action = Some SetTrue }

-- `calls`, over texts or a layout and a manifest, as CSV or as JSON lines
abbrev pub calls_app : App
calls_app = with_rule (with_rule (files_app (codes "calls")) csv_rule) json_rule

-- the program with `calls`
abbrev pub with_calls : App → App
with_calls app = with_subcommand app calls_app.top

-- an option for a value, which it may lack
abbrev pub free_rule : Text → Rule
free_rule id = record (new_rule id) { long = Some id; value_names = 1 }

-- `--from`, a moment
abbrev pub from_rule : Rule
from_rule = free_rule (codes "from")

-- `--to`, a moment
abbrev pub to_rule : Rule
to_rule = free_rule (codes "to")

-- `--ranks`, the first and the last
abbrev pub ranks_rule : Rule
ranks_rule = free_rule (codes "ranks")

-- `timeline`, over texts or a layout and a manifest, perhaps cut by time and by rank
abbrev pub timeline_app : App
timeline_app = with_rule (with_rule (with_rule (files_app (codes "timeline")) from_rule) to_rule) ranks_rule

-- the program with `timeline`
abbrev pub with_timeline : App → App
with_timeline app = with_subcommand app timeline_app.top

-- the program without its verbs
abbrev pub bare : App
bare = on_top (λ s. record s { has_version = true; subcommand_required = true }) (new_app (codes "mpimatch"))

-- the program with the verbs that say what happened in a run
abbrev pub answering : App
answering = with_report (with_files (with_graph (with_explain bare)) (codes "page"))

-- the same, with the verbs that say what each call did
abbrev pub telling : App
telling = with_timeline (with_calls answering)

-- all verbs of the program
abbrev pub program : App
program = with_init (with_pieces (with_check (with_pair (with_pieces telling (codes "replay")) (codes "cluster"))) (codes "pack"))

-- the verb of a name
abbrev pub verb_named : Text → Option Verb
verb_named name = if bytes_eq name (codes "explain") then Some (Explain Cut)
    else if bytes_eq name (codes "graph") then Some (Graph Cut)
    else if bytes_eq name (codes "page") then Some Page
    else if bytes_eq name (codes "report") then Some Report
    else if bytes_eq name (codes "replay") then Some Replay
    else if bytes_eq name (codes "check") then Some Check
    else if bytes_eq name (codes "pack") then Some Pack else None

-- what `init` is to make: how sends complete, the names of the two files, whether files of these names are written
-- over, and whether what was found is printed as JSON
pub record Wish : Type 0 where
  pub sends : Sends
  pub layout : Text
  pub manifest : Text
  pub force : Bool
  pub json : Bool

-- what `init` is to make, by its words
abbrev pub wish_of : Wanted → Wish
wish_of m = record { sends = m.sends; layout = m.layout.now; manifest = m.manifest.now; force = m.force; json = m.json }

-- what the words ask for: a verb over a layout and a manifest, a verb over its files, a cluster of a layout and a
-- manifest, or `init` over its texts
pub data Request : Type 0 where
  pair : Verb → Verbosity → Text → Text → Request
  files : Verb → Verbosity → List Text → Request
  cluster : Text → Text → Request
  init : List Text → Wish → Request

-- the rank that a verb asks for, where it asks for one
abbrev pub asked_rank : Verb → Option ℕ
asked_rank (ExplainRank rank) = Some rank
asked_rank verb = None

-- what the words ask for
abbrev pub request_of : Asked → Request
request_of (asked.Pair verb verbosity layout manifest) = pair verb verbosity layout.now manifest.now
request_of (asked.Files verb verbosity names) = files verb verbosity (texts_of names.items)
request_of (asked.Cluster layout manifest) = cluster layout.now manifest.now
request_of (asked.Init names wanted) = init (texts_of names.items) (wish_of wanted)

-- how much a verb says beside faults
abbrev pub asked_verbosity : Request → Verbosity
asked_verbosity (pair verb verbosity layout manifest) = verbosity
asked_verbosity (files verb verbosity names) = verbosity
asked_verbosity _ = Quiet

-- whether a flag is set, by its value
abbrev pub is_set : Option Text → Bool
is_set None = false
is_set (Some flag) = bytes_eq flag (codes "true")

-- how much is said by the values of both flags: `--quiet` before `--verbose`
abbrev pub verbosity_of : Option Text → Option Text → Verbosity
verbosity_of quiet verbose = if is_set quiet then Quiet else if is_set verbose then Verbose else Brief

-- how much a verb is to say beside faults
abbrev pub verbosity_in : List Row → Verbosity
verbosity_in rows = verbosity_of (first_of (codes "quiet") rows) (first_of (codes "verbose") rows)

-- a report, as JSON where the value of the flag says so
abbrev pub report_in : Text → Verb
report_in flag = if bytes_eq flag (codes "true") then ReportJson else Report

-- a check, as JSON where the value of the flag says so
abbrev pub check_in : Text → Verb
check_in flag = if bytes_eq flag (codes "true") then CheckJson else Check

-- an explanation of the rank that the value of the flag says
abbrev pub explain_in : Text → Option Verb
explain_in text = option_map ExplainRank (rank_in text)

-- how much is said: all, where the value of the flag says so
abbrev pub extent_in : Text → Extent
extent_in flag = if bytes_eq flag (codes "true") then Whole else Cut

-- an explanation as JSON, where the value of the first flag says so, and else in words
abbrev pub told_in : Text → Text → Verb
told_in json all = if bytes_eq json (codes "true") then ExplainJson else Explain (extent_in all)

-- a verb with the flags for JSON, for lists that aren't cut and for a rank, where it has them
abbrev pub in_form : Verb → Option Text → Option Text → Option Text → Option Verb
in_form (Explain extent) json all (Some text) = explain_in text
in_form (Explain extent) (Some json) (Some all) None = Some (told_in json all)
in_form (Graph extent) json (Some all) rank = Some (Graph (extent_in all))
in_form Report (Some flag) all rank = Some (report_in flag)
in_form Check (Some flag) all rank = Some (check_in flag)
in_form verb json all rank = Some verb

-- the verb of this name, with its flags
abbrev pub form_in : Text → List Row → Option Verb
form_in name rows = option_and_then (λ verb. in_form verb (first_of (codes "json") rows) (first_of (codes "all") rows) (first_of (codes "rank") rows)) (verb_named name)

-- a verb over a layout and a manifest, where both are named
abbrev pub pair_of : Verb → Verbosity → Option Text → Option Text → Option Request
pair_of verb verbosity (Some layout) (Some manifest) = Some (pair verb verbosity layout manifest)
pair_of verb verbosity layout manifest = None

-- what the words of a verb over a layout and a manifest ask for
abbrev pub pair_in : Verb → List Row → Option Request
pair_in verb rows = pair_of verb (verbosity_in rows) (first_of (codes "LAYOUT") rows) (first_of (codes "MANIFEST") rows)

-- a verb over its files, where it takes any, and else over its layout and its manifest
abbrev pub over : Verb → Option (List Text) → List Row → Option Request
over verb (Some names) rows = Some (files verb (verbosity_in rows) names)
over verb None rows = pair_in verb rows

-- what the words of a verb over files ask for
abbrev pub files_in : Verb → List Row → Option Request
files_in verb rows = over verb (all_of (codes "FILE") rows) rows

-- a cluster of a layout and a manifest, where both are named
abbrev pub cluster_of : Option Text → Option Text → Option Request
cluster_of (Some layout) (Some manifest) = Some (cluster layout manifest)
cluster_of layout manifest = None

-- what the words of a cluster ask for
abbrev pub cluster_in : List Row → Option Request
cluster_in rows = cluster_of (first_of (codes "LAYOUT") rows) (first_of (codes "MANIFEST") rows)

-- how sends of standard mode complete, by the word
abbrev pub sends_named : Text → Option Sends
sends_named word = if bytes_eq word (codes "wait") then Some Wait else if bytes_eq word (codes "buffer") then Some Buffer else None

-- what `init` is to make by its options, where each has its value
abbrev pub wanted_of : Option Sends → Option Text → Option Text → Option Text → Option Text → Option Wish
wanted_of (Some sends) (Some layout) (Some manifest) (Some force) (Some json) =
    Some (record { sends = sends; layout = layout; manifest = manifest; force = bytes_eq force (codes "true"); json = bytes_eq json (codes "true") })
wanted_of sends layout manifest force json = None

-- what `init` is to make, where its words can be read
abbrev pub wish_in : List Row → Option Wish
wish_in rows = wanted_of (option_and_then sends_named (first_of (codes "sends") rows)) (first_of (codes "layout") rows)
    (first_of (codes "manifest") rows) (first_of (codes "force") rows) (first_of (codes "json") rows)

-- `init` over its texts
abbrev pub init_in : List Row → Option Request
init_in rows = option_and_then (λ wish. option_map (λ texts. init texts wish) (all_of (codes "TEXT") rows)) (wish_in rows)

-- what the words of a verb of this name ask for
abbrev pub verb_in : Text → List Row → Option Request
verb_in name rows = option_and_then (λ verb. files_in verb rows) (form_in name rows)

-- the verb that the words of `calls` ask for
abbrev pub calls_named : List Row → Option Verb
calls_named rows = calls_asked (first_of (codes "csv") rows) (first_of (codes "json") rows)

-- what the words of `calls` ask for
abbrev pub calls_in : List Row → Option Request
calls_in rows = option_and_then (λ verb. files_in verb rows) (calls_named rows)

-- what the words of `timeline` ask for
abbrev pub timeline_in : List Row → Option Request
timeline_in rows = option_and_then (λ window. files_in (Timeline window) rows) (window_in rows)

-- what a subcommand asks for, with its values
abbrev pub asks_for : Text → List Row → Option Request
asks_for name rows = if bytes_eq name (codes "init") then init_in rows else if bytes_eq name (codes "cluster") then cluster_in rows
    else if bytes_eq name (codes "calls") then calls_in rows else if bytes_eq name (codes "timeline") then timeline_in rows else verb_in name rows

-- what the subcommand that was met asks for
abbrev pub request_in : Option (Text × List Row) → Option Request
request_in met = option_and_then (λ m. asks_for m.0 m.1) met

-- Why the words ask for nothing. An error that is shown has one of the kinds that clap gives for
-- them.
abbrev pub Refuses : List Text → CommandFault → Type 0
Refuses words Memory = Unit {0}
Refuses words (Shown error) = IsAmong (kind_of error) (fault_of program words)
Refuses words Unread = (fault_of program words ≡ []) × (request_in (subcommand_of program words) ≡ None)

-- help and the version are no mistake
abbrev pub shown_status_of : ErrorKind → ℕ
shown_status_of kinds.DisplayHelp = 0
shown_status_of kinds.DisplayVersion = 0
shown_status_of _ = 2

-- the status of the program where the words ask for nothing
abbrev pub status_of : CommandFault → ℕ
status_of Memory = 1
status_of (Shown error) = shown_status_of (kind_of error)
status_of Unread = 2
