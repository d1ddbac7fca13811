-- How long a journal can be whose logs are not longer than they may be.
use Rattle.std.specs.Prelude.{◌≡◌, ◌≤◌, ◌<◌, ◌*◌, ◌^◌, true, List, length, filter}
use Rattle.am_names.specs.declared.EndpointId.{EndpointId}
use Rattle.am_names.specs.declared.NodeId.{NodeId}
use Rattle.am_office_entries.specs.declared.Entry.{Entry}
use Rattle.am_office_entries.specs.Entries.{touches, touches_node}
use Rattle.am_model.specs.Layout.{Layout, IsLawful, declared}
use Rattle.am_model.specs.History.{IsHistory}

-- the log of each declared endpoint and of each interface has at most as many entries as a log may have
pub record IsWithinLogs (layout : Layout) (journal : List Entry) : Type 0 where
  pub ends : (e : EndpointId) → declared layout e ≡ true → length (filter (touches e) journal) ≤ layout.log
  pub nodes : (node : NodeId) → node.0 < layout.nodes → length (filter (touches_node node) journal) ≤ layout.log

-- then a history is short: each entry stands in the log of one of at most 256 endpoints or 16 interfaces
abbrev pub JournalsAreShort : Type 0
JournalsAreShort = (layout : Layout) (journal : List Entry) → IsLawful layout → IsHistory layout journal → IsWithinLogs layout journal → length journal ≤ 272 * layout.log

-- so there are more numbers of four bytes than it has entries
abbrev pub JournalsAreNumbered : Type 0
JournalsAreNumbered = (layout : Layout) (journal : List Entry) → IsLawful layout → IsHistory layout journal → IsWithinLogs layout journal → length journal < 2 ^ 32
