use Rattle.std.proofs.Common.{◌≡◌, take}
use Rattle.am_swap.proofs.Adding.{with_notices}
use Rattle.am_swap.proofs.made.add_notices.Given as goal

abbrev pub invariant-loop-notice : goal.invariant-loop-notice
invariant-loop-notice l = l.body ≡ with_notices l.initial.body (take l.notice-index l.notices)
