use Rattle.std.proofs.Common.{◌≡◌, ◌++◌, take}
use Rattle.am_lab_state.specs.Messages.{notices_named}
use Rattle.am_lab_state.proofs.named.name_notices.Given as goal

abbrev pub invariant-loop-notice : goal.invariant-loop-notice
invariant-loop-notice l = l.named.items ≡ l.fn.named.items ++ notices_named (take l.notice-index l.notices)
