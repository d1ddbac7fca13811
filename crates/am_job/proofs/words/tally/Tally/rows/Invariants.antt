use Rattle.std.proofs.Common.{◌≡◌, ℕ, Bor, map}
use Rattle.std.specs.Global.{Vec}
use Rattle.am_job.specs.declared.words.tally.Count.{Count}
use Rattle.am_job.specs.Words.Counts.{rows_of}
use Rattle.am_job.proofs.words.tally.Tally.rows.Given as goal

abbrev pub invariant-loop-word : goal.invariant-loop-word
invariant-loop-word l = l.rows.items ≡ rows_of (map (λ (p : Bor (Vec ℕ) × Bor Count). (p.0.now.items, p.1.now)) l.yielded)
