use Rattle.std.proofs.Common.{◌≡◌, take}
use Rattle.am_library_drafts.specs.Drafts.{with_plans}
use Rattle.am_library_drafts.proofs.draft.Draft.plans.Given as goal

abbrev pub invariant-loop-line : goal.invariant-loop-line
invariant-loop-line l = l.self ≡ with_plans l.initial.self (take l.line-index l.lines)
