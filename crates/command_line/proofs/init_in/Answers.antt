use Rattle.std.proofs.Common.{rules, ◌≡◌, ◌∙◌, List, Some, None, ap, codes, map, option_map, sym}
use Rattle.clap.specs.Words.{all_of, found_of, rows_of}
use Rattle.clap.proofs.WalkLemmas.{raw_values-rows}
use Rattle.command_line.specs.Program.{init, wish_in, wish_of}
use Rattle.command_line.proofs.Rows.{init_by}
use Rattle.command_line.proofs.init_in.Goals as goal

pub returns : goal.returns
returns c =
    let found = found_of c.args.inner.now in
    let wish : option_map wish_of (Some c.in-Some.wanted) ≡ wish_in (rows_of found) = search rules in
    let texts : all_of (codes "TEXT") (rows_of found) ≡ Some (map (λ n. n.now) c.in-Some-get_strs.texts.now) = sym (raw_values-rows found (codes "TEXT")) ∙ search rules in
    ap (λ (l : List _). Some (init (map (λ n. n.now) l) (wish_of c.in-Some.wanted))) c.in_ok-texts.ensures.items ∙ sym (init_by (rows_of found) _ _ (sym wish) texts)

pub returns-in_default-get_strs : goal.returns-in_default-get_strs
returns-in_default-get_strs c =
    let found = found_of c.args.inner.now in
    let wish : option_map wish_of (Some c.in-Some.wanted) ≡ wish_in (rows_of found) = search rules in
    let none : all_of (codes "TEXT") (rows_of found) ≡ None = sym (raw_values-rows found (codes "TEXT")) ∙ search rules in
    sym (init_by (rows_of found) _ _ (sym wish) none)
