-- Why words were not counted.
use Rattle.std.specs.Prelude.{◌≡◌, ℕ, ◌<◌, List, length, map}
use Rattle.std.specs.List.{AllZip, range_with_len}
use Rattle.am_office_entries.specs.declared.Entry.{Entry}
use Rattle.am_office_entries.specs.declared.Part.{Part}
use Rattle.am_scenario_types.specs.Lists.{ScenarioLists}
use Rattle.am_job.specs.declared.words.codes.CodedWord.{CodedWord}
use Rattle.am_job.specs.Rounds.{round_at, round_count}
use Rattle.am_job.specs.Count.Counting.{IsRound}
use Rattle.am_job.specs.declared.count.runner.RunStop.{RunStop}
use Rattle.am_job.specs.declared.count.runner.RunStop.TheVariants as Run
use Rattle.am_job.specs.declared.count.counting.CountStop.{CountStop}
use Rattle.am_job.specs.declared.count.counting.CountStop.TheVariants as Stop

-- a run met a full log
abbrev pub IsRunStop : (Part → List Entry → Type 0) → RunStop → Type 0
IsRunStop is_cut (Run.LogFull part journal) = is_cut part journal
IsRunStop is_cut Run.NoMemory = Unit {0}

-- so of this round
abbrev pub IsRoundStop : (ScenarioLists → Part → List Entry → Type 0) → ScenarioLists → CountStop → Type 0
IsRoundStop is_cut round (Stop.LogFull scenario part journal) = (scenario ≡ round) × is_cut round part journal
IsRoundStop is_cut round Stop.NoMemory = Unit {0}

-- a scenario is that of a round of these words, and each round before it was run to its end
pub record IsNextRound (is_run : ScenarioLists → List Entry → Type 0) (w turns : ℕ) (sent : List CodedWord) (scenario : ScenarioLists) : Type 0 where
  pub number : ℕ
  pub below : number < round_count w (length sent)
  pub is_round : scenario ≡ round_at w turns sent number
  pub journals : List (List Entry)
  pub before : AllZip (IsRound is_run) (map (round_at w turns sent) (range_with_len 0 number)) journals

-- the run of a round of these words met a full log, the first to do so
abbrev pub IsCountStop : (ScenarioLists → List Entry → Type 0) → (ScenarioLists → Part → List Entry → Type 0) → (w turns : ℕ) → List CodedWord → CountStop → Type 0
IsCountStop is_run is_cut w turns sent (Stop.LogFull scenario part journal) = IsNextRound is_run w turns sent scenario × is_cut scenario part journal
IsCountStop is_run is_cut w turns sent Stop.NoMemory = Unit {0}
