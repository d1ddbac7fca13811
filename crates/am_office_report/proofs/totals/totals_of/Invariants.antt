use Rattle.std.proofs.Common.{◌≡◌, take}
use Rattle.am_office_report.specs.Tables.{totals_in}
use Rattle.am_office_report.proofs.totals.totals_of.Given as goal

abbrev pub invariant-loop-message : goal.invariant-loop-message
invariant-loop-message l = l.totals ≡ totals_in (take l.message-index l.messages)
