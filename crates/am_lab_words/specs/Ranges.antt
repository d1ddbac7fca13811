-- Which numbers a command takes.
use Rattle.std.specs.Prelude.{ℕ, ◌+◌, ◌<◌, ◌≤◌, Option, IfSome}
use Rattle.am_lab_words.specs.declared.Asked.{Asked}
use Rattle.am_lab_words.specs.declared.Asked.TheVariants as Commands
use Rattle.am_lab_words.specs.declared.Seeds.{Seeds}
use Rattle.am_lab_words.specs.declared.Trials.{Trials}

-- one seed at least, and 100,000 at most
abbrev pub AreFewSeeds : Seeds → Type 0
AreFewSeeds seeds = (seeds.from < seeds.to) × (seeds.to ≤ seeds.from + 100_000)

-- so many in a hundred, where a plan is to be drawn
abbrev pub IsPercent : Option ℕ → Type 0
IsPercent faults = IfSome faults (λ (percent : ℕ). percent ≤ 100)

abbrev pub AreTrials : Trials → Type 0
AreTrials trials = AreFewSeeds trials.seeds × IsPercent trials.faults

-- the numbers that are asked for are ones that the command takes
abbrev pub IsInRange : Asked → Type 0
IsInRange (Commands.Round nodes turns number) = (0 < nodes) × (nodes ≤ 8) × (turns ≤ 10_000)
IsInRange (Commands.Schedule seed faults) = IsPercent faults
IsInRange (Commands.Schedules trials) = AreTrials trials
IsInRange (Commands.Find trials) = AreTrials trials
IsInRange (Commands.FindWithout trials) = AreTrials trials
IsInRange (Commands.Faults seed percent) = percent ≤ 100
IsInRange asked = Unit {0}
