-- What the values of a subcommand ask for, value by value.
use Rattle.std.proofs.Common.{◌≡◌, List, Option, Some, codes, option_and_then, option_map, refl}
use Rattle.clap.specs.Words.{Row, Text, all_of, first_of}
use Rattle.mpi_model.specs.declared.layout.Sends.{Sends}
use Rattle.command_line.specs.Program.{Wish, form_in, in_form, init, init_in, pair_of, verb_named, wanted_of, wish_in}
use Rattle.command_line.specs.Windows.{window_by}
use Rattle.command_line.specs.declared.Verb.{Verb}
use Rattle.command_line.specs.declared.Verbosity.{Verbosity}

pub formed : (name : Text) (rows : List Row) (verb : Verb) (json all rank : Option Text)
    → verb_named name ≡ Some verb → json ≡ first_of (codes "json") rows → all ≡ first_of (codes "all") rows → rank ≡ first_of (codes "rank") rows
    → in_form verb json all rank ≡ form_in name rows
formed name rows verb json all rank v j a r = rw (v, j, a, r) refl

pub wanted_from : (sends other_sends : Option Sends) (layout manifest force json other_layout other_manifest other_force other_json : Option Text)
    → sends ≡ other_sends → layout ≡ other_layout → manifest ≡ other_manifest → force ≡ other_force → json ≡ other_json
    → wanted_of sends layout manifest force json ≡ wanted_of other_sends other_layout other_manifest other_force other_json
wanted_from sends other_sends layout manifest force json other_layout other_manifest other_force other_json s l m f j = rw (s, l, m, f, j) refl

pub init_by : (rows : List Row) (wish : Option Wish) (texts : Option (List Text)) → wish_in rows ≡ wish → all_of (codes "TEXT") rows ≡ texts
    → init_in rows ≡ option_and_then (λ w. option_map (λ t. init t w) texts) wish
init_by rows wish texts w t = rw (w, t) refl

pub pair_by : (verb : Verb) (verbosity other_verbosity : Verbosity) (layout other_layout manifest other_manifest : Option Text)
    → verbosity ≡ other_verbosity → layout ≡ other_layout → manifest ≡ other_manifest
    → pair_of verb verbosity layout manifest ≡ pair_of verb other_verbosity other_layout other_manifest
pair_by verb verbosity other_verbosity layout other_layout manifest other_manifest v l m = rw (v, l, m) refl

pub window_from : (from other_from to other_to ranks other_ranks : Option Text)
    → from ≡ other_from → to ≡ other_to → ranks ≡ other_ranks → window_by from to ranks ≡ window_by other_from other_to other_ranks
window_from from other_from to other_to ranks other_ranks f t r = rw (f, t, r) refl
