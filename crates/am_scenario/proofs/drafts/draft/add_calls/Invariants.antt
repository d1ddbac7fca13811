use Rattle.std.proofs.Common.{◌≡◌, ◌++◌, map, take}
use Rattle.am_scenario.specs.Drafts.Said.{script_call}
use Rattle.am_scenario.proofs.drafts.draft.add_calls.Given as goal

abbrev pub invariant-loop-call : goal.invariant-loop-call
invariant-loop-call l = l.script.items ≡ l.fn.script.items ++ map (script_call l.thread) (take l.call-index l.calls)
