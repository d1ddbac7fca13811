use Rattle.std.proofs.Common.{◌≡◌, ◌++◌, map}
use Rattle.std.specs.List.{flat_map, range_with_len}
use Rattle.am_model.specs.Layout.{node_at}
use Rattle.am_lab_state.specs.Links.{links_from}
use Rattle.am_lab_state.proofs.links.put_links.Given as goal

abbrev pub invariant-loop-from : goal.invariant-loop-from
invariant-loop-from l = l.out.items ≡ l.fn.out.items ++ flat_map (links_from l.scenario l.cluster.journal) (map node_at (range_with_len 0 l.from))
