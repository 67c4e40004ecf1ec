use Rattle.std.proofs.Common.{rules, ◌≡◌, ◌∙◌, List, Option, Some, None, ap, codes, map, sym}
use Rattle.clap.specs.Words.{Text, all_of, found_of, rows_of}
use Rattle.clap.proofs.WalkLemmas.{raw_values-rows}
use Rattle.command_line.specs.Program.{files, over}
use Rattle.command_line.specs.declared.Verbosity.{Verbosity}
use Rattle.command_line.proofs.files_in.Goals as goal

pub returns-in_ok-files-in-Some : goal.returns-in_ok-files-in-Some
returns-in_ok-files-in-Some c =
    let found = found_of c.args.inner.now in
    let names : all_of (codes "FILE") (rows_of found) ≡ Some (map (λ n. n.now) c.in-Some.names.now) = sym (raw_values-rows found (codes "FILE")) ∙ search rules in
    ap (λ (l : List _). Some (files c.args.verb c.verbosity_in-verbosity.result (map (λ n. n.now) l))) c.in_ok-files-in-Some.ensures.items
    ∙ ap (λ (v : Verbosity). Some (files c.args.verb v (map (λ n. n.now) c.in-Some.names.now))) c.verbosity_in-verbosity.ensures
    ∙ sym (ap (λ (o : Option (List Text)). over c.args.verb o (rows_of found)) names)

pub returns-in-None : goal.returns-in-None
returns-in-None c =
    let found = found_of c.args.inner.now in
    let none : all_of (codes "FILE") (rows_of found) ≡ None = sym (raw_values-rows found (codes "FILE")) ∙ search rules in
    c.pair_in.ensures ∙ sym (ap (λ (o : Option (List Text)). over c.args.verb o (rows_of found)) none)
