-- Each turn of a drain leaves less work, so a drain ends by itself.
use Rattle.std.specs.Prelude.{◌≡◌, ◌⊎◌, ℕ, ◌<◌, ◌≤◌, ◌^◌, true, None, Some, List, [], length, option_map}
use Rattle.am_office_entries.specs.declared.Entry.{Entry}
use Rattle.am_office_entries.specs.declared.Part.{Part}
use Rattle.am_scenario_types.specs.declared.parts.ScriptCall.{ScriptCall}
use Rattle.am_scenario_types.specs.declared.parts.Network.TheVariants.{Packet}
use Rattle.am_scenario_types.specs.Lawful.{IsLawful}
use Rattle.am_scenario_types.specs.Lists.{ScenarioLists}
use Rattle.am_model_scripts.specs.Layout.{layout_of}
use Rattle.am_model_scripts.specs.Links.{next_receipt}
use Rattle.am_model_scripts.specs.Scripts.{call_left}
use Rattle.am_model_scripts.specs.Standings.{standings}
use Rattle.am_model_scripts.specs.Follows.{is_thread}
use Rattle.am_model_drain.specs.declared.Turn.{Turn}
use Rattle.am_model_drain.specs.declared.Turn.TheVariants.{Once, Make}
use Rattle.am_model_drain.specs.Rules.{next_time_out, next_send, next_poll}
use Rattle.am_model_drain.specs.Cut.{IsDrainCutOff, IsDrainedWithRoom}
use Rattle.am_model_drain.specs.Drain.{after_turn, after_turns}
use Rattle.am_laws_runs.specs.Turns.Enabled.{IsOfRun}
use Rattle.am_laws_runs.specs.Turns.Work.{work}
use Rattle.am_laws_runs.specs.Drained.{HasShortLogs}

-- a turn leaves less work
abbrev pub Falls : ScenarioLists → List Entry → Turn → Type 0
Falls s past t = work s (after_turn s past t) < work s past

-- a time-out does: its channel has a try less, or is free
abbrev pub TimeOutsFall : Type 0
TimeOutsFall = (s : ScenarioLists) (past : List Entry) (t : Turn) → IsOfRun s past → next_time_out s past ≡ Some t → Falls s past t

-- so does a receipt: a released packet less is left
abbrev pub ReceiptsFall : Type 0
ReceiptsFall = (s : ScenarioLists) (past : List Entry) (t : Turn) → IsOfRun s past → option_map Once (next_receipt s past) ≡ Some t → Falls s past t

-- and a send, with the page-ins and page-outs that make its endpoints ready: a message is bound once less
abbrev pub SendsFall : Type 0
SendsFall =
    (s : ScenarioLists) (past : List Entry) (t : Turn) → IsOfRun s past → next_time_out s past ≡ None → next_send (standings (layout_of s) past) ≡ Some t → Falls s past t

-- and a call of a script, with its page-ins: a call less is left
abbrev pub CallsFall : Type 0
CallsFall =
    (s : ScenarioLists) (past : List Entry) (c : ScriptCall) → IsOfRun s past → is_thread s c.thread ≡ true → call_left s past c.thread ≡ Some c → Falls s past (Make c)

-- and a poll, where nothing is in flight and nothing is to be sent: a notice or a received message less
abbrev pub PollsFall : Type 0
PollsFall =
    (s : ScenarioLists) (past : List Entry) (t : Turn) → IsOfRun s past → next_time_out s past ≡ None → next_send (standings (layout_of s) past) ≡ None → next_poll (standings (layout_of s) past) ≡ Some t → Falls s past t

-- so a drain makes at most as many turns as there is work, where its journal is shorter than the numbers that there are
abbrev pub DrainsEnd : Type 0
DrainsEnd =
    (s : ScenarioLists) (past journal : List Entry) (n : ℕ) → IsOfRun s past → after_turns n s past ≡ Some journal → length journal < 2 ^ 32 → n ≤ work s past

-- the drain comes to its end, with room in every log
pub record ComesToRest (s : ScenarioLists) (past : List Entry) : Type 0 where
  pub journal : List Entry
  pub ends : IsDrainedWithRoom s past journal
  pub few : ends.drained.0 ≤ work s past

-- or it comes to an entry that meets a full log
pub record ComesToFullLog (s : ScenarioLists) (past : List Entry) : Type 0 where
  pub part : Part
  pub journal : List Entry
  pub ends : IsDrainCutOff s past part journal
  pub few : ends.drained.turns ≤ work s past

-- one of the two, in at most as many turns as there is work
abbrev pub ComesToEnd : ScenarioLists → List Entry → Type 0
ComesToEnd s past = ComesToRest s past ⊎ ComesToFullLog s past

-- so does each drain of a history with short logs, as the empty one of every lawful scenario
abbrev pub DrainsComeToEnd : Type 0
DrainsComeToEnd = (s : ScenarioLists) (past : List Entry) → IsOfRun s past → HasShortLogs s past → ComesToEnd s past

-- so does each run without threads
abbrev pub RunsComeToEnd : Type 0
RunsComeToEnd = (s : ScenarioLists) → IsLawful s → s.network ≡ Packet → ComesToEnd s []
