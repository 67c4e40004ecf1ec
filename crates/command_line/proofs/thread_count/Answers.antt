use Rattle.std.proofs.Common.{sym, arith}
use Rattle.command_line.proofs.Threads.{count_of, no_count}
use Rattle.command_line.proofs.thread_count.Goals as goal

pub returns-in-Ok : goal.returns-in-Ok
returns-in-Ok c =
    let p = c.in-Ok.ensures.value.0 in
    count_of c.args.word.now c.in-Ok.count c.in_range.result p.0.0 p.0.1 p.1 c.in_range.ensures.some c.in_range.ensures.none

pub returns-in-Err : goal.returns-in-Err
returns-in-Err c = sym (no_count c.args.word.now (λ numeral low high. c.in-Err.ensures.value.0 (numeral, omega (arith, high))))
