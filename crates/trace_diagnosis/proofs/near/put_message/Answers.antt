use Rattle.std.proofs.Common.{◌∙◌, None, Some, sym}
use Rattle.trace_diagnosis.specs.Ways.{lies, lies_from}
use Rattle.trace_diagnosis.proofs.Nearing.{both_put, put_as, sources_apart, without_source}
use Rattle.trace_diagnosis.proofs.near.put_message.Goals as goal

pub returns-then-not-names_source : goal.returns-then-not-names_source
returns-then-not-names_source c = put_as (lies_from c.args.way c.args.m.now None) (λ o. lies c.args.way o c.args.m.now) (λ o. without_source c.args.way c.args.m.now o (sym c.names_source.ensures ∙ c.if-not-names_source.true)) c.args.at c.args.shelf.now c.put_from.new.shelf c.in_ok-put_from.ensures

pub returns : goal.returns
returns c = both_put (lies_from c.args.way c.args.m.now None) (lies_from c.args.way c.args.m.now (Some c.args.m.now.from))
    (λ o. sources_apart c.args.way c.args.m.now o (sym c.names_source.ensures ∙ c.if-not-names_source.false)) c.args.at c.args.shelf.now c.put_from.new.shelf c.put_from-2.new.shelf c.in_ok-put_from.ensures c.in_ok-put_from-2.ensures
