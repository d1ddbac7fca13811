use Rattle.std.proofs.Common.{◌≡◌, take}
use Rattle.am_job.specs.Asked.{ask_script}
use Rattle.am_job.proofs.counting.ask_script.Given as goal

abbrev pub invariant-loop-made : goal.invariant-loop-made
invariant-loop-made l = l.tally ≡ ask_script l.fn.tally (take l.made-index l.script)
