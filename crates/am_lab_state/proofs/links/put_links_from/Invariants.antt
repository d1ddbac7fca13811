use Rattle.std.proofs.Common.{◌≡◌, ◌++◌, map}
use Rattle.std.specs.List.{flat_map, range_with_len}
use Rattle.am_model.specs.Layout.{node_at}
use Rattle.am_lab_state.specs.Links.{link_line}
use Rattle.am_lab_state.proofs.links.put_links_from.Given as goal

abbrev pub invariant-loop-to : goal.invariant-loop-to
invariant-loop-to l = l.out.items ≡ l.fn.out.items ++ flat_map (link_line l.scenario l.cluster.journal l.from) (map node_at (range_with_len 0 l.to))
