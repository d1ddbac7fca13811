use Rattle.std.proofs.Common.{◌≤◌}
use Rattle.std.specs.List.{All}
use Rattle.am_job.specs.Words.Codes.{Fits}
use Rattle.am_job.proofs.Parted.{Parts}
use Rattle.am_job.proofs.words.texts.split.Given as goal

abbrev pub invariant-loop-i : goal.invariant-loop-i
invariant-loop-i l = record {
  parts : Parts l.text l.found.sent.items l.found.long l.start l.i;
  from : l.start ≤ l.i;
  few : l.found.long ≤ l.i;
  fit : All Fits l.found.sent.items;
}
