use Rattle.std.proofs.Common.{◌≡◌, take}
use Rattle.am_library_drafts.specs.Drafts.{with_calls}
use Rattle.am_library_drafts.proofs.draft.Draft.calls.Given as goal

abbrev pub invariant-loop-made : goal.invariant-loop-made
invariant-loop-made l = l.self ≡ with_calls l.initial.self (take l.made-index l.calls)
