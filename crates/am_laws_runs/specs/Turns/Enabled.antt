-- What the drain names may happen: each turn makes a history of a history. A receipt's number has four bytes, so a journal is to
-- be shorter than the numbers that there are.
use Rattle.std.specs.Prelude.{◌≡◌, ◌≤◌, ◌<◌, ◌^◌, ℕ, None, Some, List, length, option_map}
use Rattle.am_names.specs.declared.NodeId.{NodeId}
use Rattle.am_office_entries.specs.declared.Entry.{Entry}
use Rattle.am_model.specs.Channels.{emitted}
use Rattle.am_model.specs.History.{IsHistory}
use Rattle.am_scenario_types.specs.declared.parts.Network.TheVariants.{Packet}
use Rattle.am_scenario_types.specs.declared.parts.ScriptCall.{ScriptCall}
use Rattle.am_scenario_types.specs.Lawful.{IsLawful}
use Rattle.am_scenario_types.specs.Lists.{ScenarioLists}
use Rattle.am_model_scripts.specs.Layout.{layout_of}
use Rattle.am_model_scripts.specs.Links.{due, next_receipt}
use Rattle.am_model_scripts.specs.Scripts.{call_left}
use Rattle.am_model_scripts.specs.Standings.{standings}
use Rattle.am_model_drain.specs.declared.Turn.{Turn}
use Rattle.am_model_drain.specs.declared.Turn.TheVariants.{Once, Make}
use Rattle.am_model_drain.specs.Rules.{next_time_out, next_page_in, next_send, next_poll, next_turn}
use Rattle.am_model_drain.specs.Drain.{after_turn, IsDrained}

-- a history of a lawful scenario of the packet network
pub record IsOfRun (s : ScenarioLists) (past : List Entry) : Type 0 where
  pub lawful : IsLawful s
  pub packet : s.network ≡ Packet
  pub history : IsHistory (layout_of s) past

-- a packet that is due has a number from 1 on, and so many were emitted on its link
abbrev pub DuesAreCounted : Type 0
DuesAreCounted =
    (s : ScenarioLists) (past : List Entry) (node peer : NodeId) (number : ℕ) → IsHistory (layout_of s) past → due s peer node past ≡ Some number → (1 ≤ number) × (number ≤ length (emitted peer node past))

-- a receipt that is due makes a history
abbrev pub ReceiptsMayFollow : Type 0
ReceiptsMayFollow =
    (s : ScenarioLists) (past : List Entry) (t : Turn) → IsOfRun s past → length past < 2 ^ 32 → option_map Once (next_receipt s past) ≡ Some t → IsHistory (layout_of s) (after_turn s past t)

-- so does the time-out of a bound channel
abbrev pub TimeOutsMayFollow : Type 0
TimeOutsMayFollow = (s : ScenarioLists) (past : List Entry) (t : Turn) → IsOfRun s past → next_time_out s past ≡ Some t → IsHistory (layout_of s) (after_turn s past t)

-- and the page-in of a wanted endpoint on disk
abbrev pub PageInsMayFollow : Type 0
PageInsMayFollow =
    (s : ScenarioLists) (past : List Entry) (t : Turn) → IsOfRun s past → next_page_in (standings (layout_of s) past) ≡ Some t → IsHistory (layout_of s) (after_turn s past t)

-- and the call that is left to a thread, after the page-ins that it needs
abbrev pub CallsMayFollow : Type 0
CallsMayFollow = (s : ScenarioLists) (past : List Entry) (c : ScriptCall) → IsOfRun s past → call_left s past c.thread ≡ Some c → IsHistory (layout_of s) (after_turn s past (Make c))

-- and a poll, while no wanted endpoint is on disk
abbrev pub PollsMayFollow : Type 0
PollsMayFollow =
    (s : ScenarioLists) (past : List Entry) (t : Turn) → IsOfRun s past → next_page_in (standings (layout_of s) past) ≡ None → next_poll (standings (layout_of s) past) ≡ Some t → IsHistory (layout_of s) (after_turn s past t)

-- and a send with the making ready of its two endpoints, while no channel is bound
abbrev pub SendsMayFollow : Type 0
SendsMayFollow =
    (s : ScenarioLists) (past : List Entry) (t : Turn) → IsOfRun s past → next_time_out s past ≡ None → next_send (standings (layout_of s) past) ≡ Some t → IsHistory (layout_of s) (after_turn s past t)

-- so does each turn
abbrev pub TurnsMayFollow : Type 0
TurnsMayFollow = (s : ScenarioLists) (past : List Entry) (t : Turn) → IsOfRun s past → length past < 2 ^ 32 → next_turn s past ≡ Some t → IsHistory (layout_of s) (after_turn s past t)

-- so a drain makes a history of a history, where its journal is shorter than the numbers that there are
abbrev pub DrainsMakeHistories : Type 0
DrainsMakeHistories = (s : ScenarioLists) (past journal : List Entry) → IsOfRun s past → IsDrained s past journal → length journal < 2 ^ 32 → IsHistory (layout_of s) journal
