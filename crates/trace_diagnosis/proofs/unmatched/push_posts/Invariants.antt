use Rattle.std.proofs.Common.{◌≡◌, ◌++◌, map, take}
use Rattle.trace_diagnosis.proofs.unmatched.push_posts.Given as goal

abbrev pub invariant-loop-post : goal.invariant-loop-post
invariant-loop-post l = l.names.items ≡ l.fn.names.items ++ map (λ p. p.1) (take l.post-index l.active)
