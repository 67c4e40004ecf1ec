use Rattle.std.proofs.Common.{◌≡◌, ◌-◌, ap, length}
use Rattle.std.specs.List.{flat_map}
use Rattle.call_words.specs.More.{more_text}
use Rattle.text_layouts.specs.Words.{comm_text}
use Rattle.text_layouts.specs.declared.words.TheConstants.{MOST_SHOWN}
use Rattle.text_layouts.proofs.Adding.{reads, then}
use Rattle.text_layouts.proofs.words.put_comms.Goals as goal

pub returns : goal.returns
returns c =
    let less : c.saturating_sub.result ≡ length c.args.comms.now - MOST_SHOWN = cc in
    then (then (then (then c.put.ensures c.put_number.ensures) c.put-2.ensures) (reads c.put_each_comm.ensures (ap (flat_map comm_text) c.shown.ensures))) (reads c.put_more.ensures (ap more_text less))
