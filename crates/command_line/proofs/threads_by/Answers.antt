use Rattle.std.proofs.Common.{◌∙◌, Option, ap, codes, option_and_then}
use Rattle.clap.specs.Words.{Text, found_of}
use Rattle.clap.proofs.WalkLemmas.{first_value-rows}
use Rattle.command_line.specs.Threads.{thread_count}
use Rattle.command_line.proofs.threads_by.Goals as goal

pub returns : goal.returns
returns c =
    let found = found_of c.args.inner.now in
    c.named_threads.ensures ∙ ap (λ (o : Option Text). option_and_then thread_count o) (c.get_str-word.ensures ∙ first_value-rows found (codes "threads"))
