use Rattle.std.proofs.Common.{◌≡◌}
use Rattle.am_library_drafts.specs.Drafts.{with_nodes}
use Rattle.am_library_drafts.proofs.draft.Draft.on_each_node.Given as goal

abbrev pub invariant-loop-node : goal.invariant-loop-node
invariant-loop-node l = l.self ≡ with_nodes l.initial.self l.tag l.node
