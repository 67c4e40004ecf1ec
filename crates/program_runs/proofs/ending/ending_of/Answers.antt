use Rattle.std.proofs.Common.{rules, ◌≡◌, List, Some, inl, inr, map, refl}
use Rattle.std.proofs.lemmas.Result.{IfOk-weaker}
use Rattle.clap.specs.Words.{Text, subcommand_of}
use Rattle.command_line.specs.Program.{cluster, files, init, pair, program, request_in, wish_of}
use Rattle.program_runs.proofs.ending.ending_of.Goals as goal

pub returns-in-Err : goal.returns-in-Err
returns-in-Err g c = IfOk-weaker c.shown.result _ _ (λ e h. inr (c.in-Err.fault, c.in-Err.ensures.refused, h, refl)) c.shown.ensures

pub returns-in-Pair : goal.returns-in-Pair
returns-in-Pair g c =
    let words : List Text = map (λ w. w.now) c.args.words.now in
    let asked : request_in (subcommand_of program words) ≡ Some (pair c.in-Pair.verb c.in-Pair.verbosity c.in-Pair.layout.now c.in-Pair.manifest.now) = search rules in
    IfOk-weaker c.over_pair.result _ _ (λ e h. inl (_, asked, (h, refl))) c.over_pair.ensures

pub returns-in-Files : goal.returns-in-Files
returns-in-Files g c =
    let words : List Text = map (λ w. w.now) c.args.words.now in
    let asked : request_in (subcommand_of program words) ≡ Some (files c.in-Files.verb c.in-Files.verbosity (map (λ n. n.now) c.in-Files.names.items)) = search rules in
    IfOk-weaker c.over_named.result _ _ (λ e h. inl (_, asked, (rw c.as_slice.ensures.value at h, refl))) c.over_named.ensures

pub returns-in-Cluster : goal.returns-in-Cluster
returns-in-Cluster g c =
    let words : List Text = map (λ w. w.now) c.args.words.now in
    let asked : request_in (subcommand_of program words) ≡ Some (cluster c.in-Cluster.layout.now c.in-Cluster.manifest.now) = search rules in
    IfOk-weaker c.over_cluster.result _ _ (λ e h. inl (_, asked, (h, refl))) c.over_cluster.ensures

pub returns-in-Init : goal.returns-in-Init
returns-in-Init g c =
    let words : List Text = map (λ w. w.now) c.args.words.now in
    let asked : request_in (subcommand_of program words) ≡ Some (init (map (λ n. n.now) c.in-Init.texts.items) (wish_of c.in-Init.wanted)) = search rules in
    IfOk-weaker c.init_named.result _ _ (λ e h. inl (_, asked, rw c.as_slice-in-Init.ensures.value at h)) c.init_named.ensures
