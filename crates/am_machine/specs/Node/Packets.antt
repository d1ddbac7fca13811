-- Entries of a cluster of at most 16 nodes.
use Rattle.am_office_entries.specs.declared.Entry.{Entry}
use Rattle.am_office_entries.specs.Entries.{emitted_of}
use Rattle.am_machine_journal.specs.Index.View.{AreNodes, IsBetweenNodes}

-- the nodes of the entry's event, and of the packet that it emits, are of 16
pub record GoesWithin (x : Entry) : Type 0 where
  pub nodes : AreNodes x.event
  pub packet : IsBetweenNodes (emitted_of x)
