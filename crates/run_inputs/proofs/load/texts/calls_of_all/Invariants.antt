use Rattle.std.proofs.Common.{◌≡◌, ◌-◌, ◌^◌, ℕ, min, take}
use Rattle.text_layouts.specs.Seats.{kept}
use Rattle.run_inputs.specs.TextCalls.{AllSay}
use Rattle.run_inputs.proofs.load.texts.calls_of_all.Given as goal

abbrev pub invariant-loop-rank : goal.invariant-loop-rank
invariant-loop-rank g l = record {
  seats : l.texts.seats.now ≡ l.seats;
  files : l.texts.files.now ≡ l.files;
  say : (calls : ℕ) × AllSay (g.O.Opener.file l.files) (take l.rank (kept l.seats)) l.ranks.items calls × (l.calls ≡ min calls (2 ^ 64 - 1));
}
