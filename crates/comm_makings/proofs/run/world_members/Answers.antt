use Rattle.std.proofs.Common.{◌++◌, ◌∷◌, [], List, ap, map, sym, ◌∙◌}
use Rattle.std.proofs.lemmas.List.{map-append}
use Rattle.std.specs.List.{range_with_len}
use Rattle.comm_makings.proofs.Places.{numbers_more}
use Rattle.comm_makings.specs.Derives.{member_with}
use Rattle.comm_makings.specs.declared.state.Member.{Member}
use Rattle.comm_makings.proofs.run.world_members.Goals as goal

pub loop-rank-preserved : goal.loop-rank-preserved
loop-rank-preserved c =
    c.in_ok-push.ensures.items ∙ ap (λ (l : List Member). l ++ member_with 0 c.loop-rank.rank ∷ []) c.loop-rank.invariant
    ∙ sym (map-append (member_with 0) (range_with_len 0 c.loop-rank.rank) (c.loop-rank.rank ∷ []))
    ∙ ap (map (member_with 0)) (sym (numbers_more c.loop-rank.rank))
