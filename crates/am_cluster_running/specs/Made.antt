-- The journal that crews made.
use Rattle.std.specs.Prelude.{◌≡◌, List}
use Rattle.am_office_entries.specs.declared.Entry.{Entry}
use Rattle.am_machine.specs.declared.node.NodePart.{NodePart}
use Rattle.am_machine.specs.Node.Parts.{journal_of}
use Rattle.am_scenario_types.specs.Lists.{ScenarioLists}
use Rattle.am_workers_laws.specs.declared.books.EndBook.{EndBook}
use Rattle.am_cluster_running.specs.Ends.Ends.{AreLeft}
use Rattle.am_cluster_opening.specs.declared.crew.NodeCrew.{NodeCrew}

-- the journal is that of the parts which were made of what these crews left when each worker had made its turns
pub record IsMadeBy (s : ScenarioLists) (crews : List NodeCrew) (journal : List Entry) : Type 0 where
  pub books : List (List EndBook)
  pub parts : List NodePart
  pub left : AreLeft s crews books parts
  pub journal_is : journal ≡ journal_of parts
