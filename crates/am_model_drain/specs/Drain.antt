-- The drain: what is done when no thread runs any more, turn by turn until no rule applies.
use Rattle.std.specs.Prelude.{◌≡◌, ℕ, zero, suc, Option, Some, None, List, ◌∷◌, ◌++◌, option_map, option_and_then}
use Rattle.am_office_entries.specs.declared.Actor.TheVariants.{Thread}
use Rattle.am_office_entries.specs.declared.Event.TheVariants as Events
use Rattle.am_office_entries.specs.declared.Entry.{Entry}
use Rattle.am_model.specs.Layout.{home}
use Rattle.am_scenario_types.specs.Lists.{ScenarioLists}
use Rattle.am_model_scripts.specs.Layout.{layout_of}
use Rattle.am_model_drain.specs.declared.Turn.{Turn}
use Rattle.am_model_drain.specs.declared.Turn.TheVariants.{Once, Send, Make}
use Rattle.am_model_drain.specs.Made.{after_event}
use Rattle.am_model_drain.specs.Rules.{next_turn}
use Rattle.am_model_drain.specs.Ready.{ready, ready_dest, off_disk_at}

-- the journal after a turn
abbrev pub after_turn : ScenarioLists → List Entry → Turn → List Entry
after_turn scenario past (Once event) = after_event (layout_of scenario) event past
after_turn scenario past (Send node e m) =
    let layout = layout_of scenario in
    after_event layout (Events.Bind node e) (ready_dest layout scenario.keep e m.dest (ready layout scenario.keep node e e m.dest past))
after_turn scenario past (Make c) =
    let layout = layout_of scenario in
    after_event layout (Events.Call (Thread c.thread) c.endpoint c.call) (off_disk_at (home layout c.endpoint) layout c.endpoint past)

-- the journal after the next turn, if there is one
abbrev pub after_next_turn : ScenarioLists → List Entry → Option (List Entry)
after_next_turn scenario past = option_map (after_turn scenario past) (next_turn scenario past)

-- the journal after so many turns, if there are as many
abbrev pub after_turns : ℕ → ScenarioLists → List Entry → Option (List Entry)
after_turns zero scenario past = Some past
after_turns (suc more) scenario past = option_and_then (after_turns more scenario) (after_next_turn scenario past)

-- the journal is what the drain makes of the journal `past`, in so many turns
pub record IsDrainedIn (turns : ℕ) (scenario : ScenarioLists) (past journal : List Entry) : Type 0 where
  pub made : after_turns turns scenario past ≡ Some journal
  pub ended : next_turn scenario journal ≡ None

-- the journal is what the drain makes of the journal `past`
abbrev pub IsDrained : ScenarioLists → List Entry → List Entry → Type 0
IsDrained scenario past journal = (turns : ℕ) × IsDrainedIn turns scenario past journal

-- the journal is what the drain makes of the journal `past` before an entry: some turns make it, that entry next, and maybe more
pub record IsDrainedBefore (scenario : ScenarioLists) (past journal : List Entry) : Type 0 where
  pub added : List Entry
  pub made : journal ≡ past ++ added
  pub next : Entry
  pub later : List Entry
  pub turns : ℕ
  pub planned : after_turns turns scenario past ≡ Some (journal ++ next ∷ later)

-- the drain makes at most one journal of a journal
abbrev pub DrainIsDetermined : Type 0
DrainIsDetermined =
    (scenario : ScenarioLists) (past one other : List Entry) → IsDrained scenario past one → IsDrained scenario past other → one ≡ other

-- what the drain makes of a journal begins with it
abbrev pub DrainAdds : Type 0
DrainAdds = (scenario : ScenarioLists) (past journal : List Entry) → IsDrained scenario past journal → (added : List Entry) × (journal ≡ past ++ added)
