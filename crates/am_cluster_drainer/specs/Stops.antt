-- What is made of a plan of entries, where an event is not enabled, a log is full or memory is wanting.
use Rattle.std.specs.Prelude.{◌≡◌, ◌⊎◌, ℕ, Some, None, Result, Ok, Err, List, ◌∷◌, ◌++◌}
use Rattle.am_office_entries.specs.declared.Condition.{Condition}
use Rattle.am_office_entries.specs.declared.Part.{Part}
use Rattle.am_office_entries.specs.declared.Entry.{Entry}
use Rattle.am_model.specs.History.{failing}
use Rattle.am_scenario_types.specs.Lists.{ScenarioLists}
use Rattle.am_model_scripts.specs.Layout.{layout_of}
use Rattle.am_model_drain.specs.Drain.{after_turns, IsDrainedBefore}
use Rattle.am_model_drain.specs.Cut.{full_for, MeetsNoFullLog, IsDrainCutOff}
use Rattle.am_model.specs.declared.EntryFault.{EntryFault}
use Rattle.am_model.specs.declared.EntryFault.TheVariants.{NotEnabled, LogFull, NoMemory}

-- a journal with entries more, none of which met a full log
pub record Reaches (scenario : ScenarioLists) (past journal : List Entry) : Type 0 where
  pub added : List Entry
  pub made : journal ≡ past ++ added
  pub room : MeetsNoFullLog scenario past added

-- what was planned is what was made, and then an entry whose event has the condition against it, and maybe more
pub record IsRefused (scenario : ScenarioLists) (condition : Condition) (planned made : List Entry) : Type 0 where
  pub next : Entry
  pub later : List Entry
  pub is_planned : planned ≡ made ++ next ∷ later
  pub failing' : failing (layout_of scenario) made next.event ≡ Some condition

-- what was planned is what was made, and then an entry that meets the full log of the part, and maybe more
pub record IsCutOff (scenario : ScenarioLists) (part : Part) (planned made : List Entry) : Type 0 where
  pub next : Entry
  pub later : List Entry
  pub is_planned : planned ≡ made ++ next ∷ later
  pub full : full_for scenario made next ≡ Some part

-- what was planned is what was made, and then an entry that meets no full log, and maybe more
pub record IsStarved (scenario : ScenarioLists) (planned made : List Entry) : Type 0 where
  pub next : Entry
  pub later : List Entry
  pub is_planned : planned ≡ made ++ next ∷ later
  pub free : full_for scenario made next ≡ None

-- what was made is a beginning of what was planned
pub record IsBeginning (planned made : List Entry) : Type 0 where
  pub later : List Entry
  pub is_planned : planned ≡ made ++ later

-- what was planned was not made to the end, for this fault
abbrev pub IsCutShort : ScenarioLists → EntryFault → List Entry → List Entry → Type 0
IsCutShort scenario (NotEnabled condition) planned made = IsRefused scenario condition planned made
IsCutShort scenario (LogFull part) planned made = IsCutOff scenario part planned made
IsCutShort scenario NoMemory planned made = IsStarved scenario planned made

-- all that was planned was made, or it was stopped
abbrev pub Does : {U : Type 0} → ScenarioLists → Result U EntryFault → List Entry → List Entry → Type 0
Does scenario (Ok done) planned made = made ≡ planned
Does scenario (Err fault) planned made = IsCutShort scenario fault planned made

-- of the journal `past` all that was planned was made, or it was stopped, and no entry that was made met a full log
pub record Acts {U : Type 0} (scenario : ScenarioLists) (result : Result U EntryFault) (past planned made : List Entry) : Type 0 where
  pub does : Does scenario result planned made
  pub reaches : Reaches scenario past made

-- some turns of the drain of `past` would make a journal that begins with this one
pub record IsDrainBeginning (scenario : ScenarioLists) (past journal : List Entry) : Type 0 where
  pub turns : ℕ
  pub planned : List Entry
  pub is_planned : after_turns turns scenario past ≡ Some planned
  pub begins : IsBeginning planned journal

-- the journal is what the drain makes of `past` before the first entry whose event has this condition against it
pub record IsDrainRefused (scenario : ScenarioLists) (past : List Entry) (condition : Condition) (journal : List Entry) : Type 0 where
  pub drained : IsDrainedBefore scenario past journal
  pub room : MeetsNoFullLog scenario past drained.added
  pub failing' : failing (layout_of scenario) journal drained.next.event ≡ Some condition

-- the journal is what the drain makes of `past` before an entry that meets no full log, and on the way none met one
pub record IsDrainStarved (scenario : ScenarioLists) (past journal : List Entry) : Type 0 where
  pub drained : IsDrainedBefore scenario past journal
  pub room : MeetsNoFullLog scenario past drained.added
  pub free : full_for scenario journal drained.next ≡ None

-- the drain of `past` ends for this fault, and leaves this journal
abbrev pub IsDrainStopped : ScenarioLists → List Entry → EntryFault → List Entry → Type 0
IsDrainStopped scenario past (NotEnabled condition) journal = IsDrainRefused scenario past condition journal
IsDrainStopped scenario past (LogFull part) journal = IsDrainCutOff scenario past part journal
IsDrainStopped scenario past NoMemory journal = IsDrainStarved scenario past journal

-- The same, where the drain's machine is made first: where there is no memory for it nothing is made, and it isn't looked at what the
-- drain would make.
abbrev pub IsDrainEnded : ScenarioLists → List Entry → EntryFault → List Entry → Type 0
IsDrainEnded scenario past (NotEnabled condition) journal = IsDrainRefused scenario past condition journal
IsDrainEnded scenario past (LogFull part) journal = IsDrainCutOff scenario past part journal
IsDrainEnded scenario past NoMemory journal = (journal ≡ past) ⊎ IsDrainStarved scenario past journal
