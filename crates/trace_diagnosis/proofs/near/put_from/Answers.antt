use Rattle.std.proofs.Common.{◌∙◌, None, Some, sym}
use Rattle.trace_diagnosis.specs.Ways.{lies_from, meets, place_for}
use Rattle.trace_diagnosis.proofs.Nearing.{both_put, put_as, tags_apart, without_tag}
use Rattle.trace_diagnosis.proofs.near.put_from.Goals as goal

pub returns-then-not-names_tag : goal.returns-then-not-names_tag
returns-then-not-names_tag c = put_as (meets (place_for c.args.way c.args.m.now c.args.source None)) (lies_from c.args.way c.args.m.now c.args.source) (λ o. without_tag c.args.way c.args.m.now c.args.source o (sym c.names_tag.ensures ∙ c.if-not-names_tag.true)) c.args.at c.args.shelf.now c.put_at.new.shelf c.in_ok-put_at.ensures

pub returns : goal.returns
returns c = both_put (meets (place_for c.args.way c.args.m.now c.args.source None)) (meets (place_for c.args.way c.args.m.now c.args.source (Some c.args.m.now.tag)))
    (λ o. tags_apart c.args.way c.args.m.now c.args.source o (sym c.names_tag.ensures ∙ c.if-not-names_tag.false)) c.args.at c.args.shelf.now c.put_at.new.shelf c.put_at-2.new.shelf c.in_ok-put_at.ensures c.in_ok-put_at-2.ensures
