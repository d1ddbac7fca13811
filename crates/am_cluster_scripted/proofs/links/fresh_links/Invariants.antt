use Rattle.std.proofs.Common.{◌≡◌}
use Rattle.std.specs.Prelude.{vec_len}
use Rattle.std.specs.List.{All}
use Rattle.am_cluster_scripted.specs.Links.{HasAllRoom, nothing, released_in}
use Rattle.am_cluster_scripted.proofs.links.fresh_links.Given as goal

abbrev pub invariant-loop-i : goal.invariant-loop-i
invariant-loop-i l = record { len : vec_len l.links ≡ l.i; none : All (λ link. released_in link ≡ nothing) l.links.items; room : HasAllRoom l.links.items }
