use Rattle.std.proofs.Common.{◌≡◌, ◌≤◌, length, take}
use Rattle.std.specs.List.{flat_map}
use Rattle.call_words.specs.Texts.{Adds}
use Rattle.text_notes.specs.Words.{line_text, of_kind}
use Rattle.text_notes.specs.declared.totals.TheConstants.{MOST_SHOWN}
use Rattle.text_notes.proofs.words.put_kind.Given as goal

abbrev pub invariant-loop-note : goal.invariant-loop-note
invariant-loop-note l = record {
  text : Adds l.fn.out l.out (flat_map (line_text l.kind) (take MOST_SHOWN (of_kind l.kind (take l.note-index l.notes))));
  found : l.found ≡ length (of_kind l.kind (take l.note-index l.notes));
  few : l.found ≤ l.note-index;
}
