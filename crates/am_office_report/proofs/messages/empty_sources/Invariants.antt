use Rattle.std.proofs.Common.{◌≡◌, [], replicate}
use Rattle.am_office_report.proofs.messages.empty_sources.Given as goal

abbrev pub invariant-loop : goal.invariant-loop
invariant-loop l = l.sources.items ≡ replicate l.counter []
