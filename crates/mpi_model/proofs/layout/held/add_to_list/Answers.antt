use Rattle.std.proofs.Common.{◌∙◌, ◌++◌, ◌∷◌, List, [], ℕ, Vec, ap, sym}
use Rattle.std.proofs.lemmas.List.{get_or-map}
use Rattle.std.specs.declared.alloc.Global.{Global}
use Rattle.mpi_model.proofs.Held.{put}
use Rattle.mpi_model.proofs.layout.held.add_to_list.Goals as goal

pub returns : goal.returns
returns c =
    let here = get_or-map (λ (v : Vec ℕ Global). v.items) c.args.lists.now c.args.member c.index-lists-member.result [] c.requires in
    put c.args.lists.now c.args.member c.args.comm c.push.new.self c.requires (c.in_ok-push.ensures.items ∙ ap (λ (l : List ℕ). l ++ c.args.comm ∷ []) (sym here))
