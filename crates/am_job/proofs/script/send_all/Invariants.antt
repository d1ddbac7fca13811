use Rattle.am_job.proofs.Ready.{IsSending}
use Rattle.am_job.proofs.script.send_all.Given as goal

abbrev pub invariant-loop-j : goal.invariant-loop-j
invariant-loop-j l = IsSending l.w l.words l.initial.draft l.j l.draft
