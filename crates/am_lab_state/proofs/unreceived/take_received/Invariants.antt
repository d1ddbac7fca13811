use Rattle.std.proofs.Common.{◌≡◌, drop}
use Rattle.am_model_scripts.specs.Links.{received}
use Rattle.am_lab_state.specs.Links.{without_received}
use Rattle.am_lab_state.proofs.unreceived.take_received.Given as goal

abbrev pub invariant-loop-entry : goal.invariant-loop-entry
invariant-loop-entry l =
    without_received (received l.from l.to (drop l.entry-index l.entries)) l.left.items ≡ without_received (received l.from l.to l.entries) l.fn.left.items
