use Rattle.std.proofs.Common.{◌≡◌, drop}
use Rattle.std.specs.Prelude.{filter, slice_get}
use Rattle.am_model_scripts.specs.Scripts.{is_of_thread}
use Rattle.am_lab_state.proofs.threads.call_at.Given as goal

abbrev pub invariant-loop-call : goal.invariant-loop-call
invariant-loop-call l =
    slice_get (filter (is_of_thread l.thread) (drop l.call-index l.script)) l.left ≡ slice_get (filter (is_of_thread l.thread) l.script) l.place
