use Rattle.std.proofs.Common.{◌≡◌, map, take}
use Rattle.am_library_views.specs.Views.{with_reply}
use Rattle.am_library_views.proofs.runs.runs_with_replies.Given as goal

abbrev pub invariant-loop-request : goal.invariant-loop-request
invariant-loop-request l = l.runs.items ≡ map (with_reply l.journal) (take l.request-index l.request-items)
