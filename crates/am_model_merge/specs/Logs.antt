-- The logs of all parts, and the journal that they make.
use Rattle.std.specs.Prelude.{◌≡◌, ◌↔◌, ℕ, ◌<◌, nat_lt, true, List, [], ◌∷◌, filter, Contains}
use Rattle.am_names.specs.declared.EndpointId.{EndpointId}
use Rattle.am_names.specs.declared.NodeId.{NodeId}
use Rattle.am_office_entries.specs.declared.Entry.{Entry}
use Rattle.am_office_entries.specs.Entries.{touches, touches_node}
use Rattle.am_model.specs.Layout.{AllAre}
use Rattle.am_model.specs.Merge.{IsMerged}
use Rattle.am_model.specs.Parts.{is_by_driver}

-- the log of each endpoint, of each node's interface and of each node's driver
pub record Logs : Type 0 where
  pub end : EndpointId → List Entry
  pub node : NodeId → List Entry
  pub driver : NodeId → List Entry

-- the stamps of a log rise
abbrev pub IsRising : List Entry → Type 0
IsRising [] = Unit {0}
IsRising (x ∷ xs) = AllAre (λ (y : Entry). x.stamp < y.stamp) xs × IsRising xs

-- the stamps of each log rise
pub record AreRising (logs : Logs) : Type 0 where
  pub ends : (e : EndpointId) → IsRising (logs.end e)
  pub nodes : (node : NodeId) → IsRising (logs.node node)
  pub drivers : (node : NodeId) → IsRising (logs.driver node)

-- the logs merge into the journal: it has each entry of the logs of endpoints and interfaces once, by stamp and then by
-- part, and a driver's log has the entries that this driver made
pub record MergesInto (logs : Logs) (journal : List Entry) : Type 0 where
  pub merged : IsMerged logs.end logs.node journal
  pub of_drivers : (node : NodeId) → filter (is_by_driver node) journal ≡ logs.driver node

-- what a log has below a stamp
abbrev pub before : ℕ → List Entry → List Entry
before stamp log = filter (λ (y : Entry). nat_lt y.stamp stamp) log

-- each entry among these stands in the logs of just those parts that it touches, and in its driver's
pub record StandWhereTheyTouch (logs : Logs) (entries : List Entry) : Type 0 where
  pub ends : (e : EndpointId) (x : Entry) → Contains (logs.end e) x ↔ (Contains entries x × (touches e x ≡ true))
  pub nodes : (node : NodeId) (x : Entry) → Contains (logs.node node) x ↔ (Contains entries x × (touches_node node x ≡ true))
  pub drivers : (node : NodeId) (x : Entry) → Contains (logs.driver node) x ↔ (Contains entries x × (is_by_driver node x ≡ true))
  pub numbers : (e : EndpointId) (x : Entry) → Contains entries x → touches e x ≡ true → e.0 < 256

-- the logs that a journal is made of
abbrev pub logs_of : List Entry → Logs
logs_of journal =
    record {
      end = λ (e : EndpointId). filter (touches e) journal;
      node = λ (node : NodeId). filter (touches_node node) journal;
      driver = λ (node : NodeId). filter (is_by_driver node) journal;
    }
