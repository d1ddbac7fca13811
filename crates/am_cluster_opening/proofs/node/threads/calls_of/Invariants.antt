use Rattle.std.proofs.Common.{◌≡◌, take}
use Rattle.std.specs.Prelude.{filter}
use Rattle.am_model_scripts.specs.Scripts.{is_of_thread}
use Rattle.am_cluster_opening.proofs.node.threads.calls_of.Given as goal

abbrev pub invariant-loop-call : goal.invariant-loop-call
invariant-loop-call l = l.calls.items ≡ filter (is_of_thread l.thread) (take l.call-index l.script)
