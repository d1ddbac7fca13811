-- What is kept of a journal, to be looked up.
use Rattle.std.specs.Prelude.{List}
use Rattle.am_office_entries.specs.declared.Entry.{Entry}
use Rattle.am_lab_picture.specs.Fates.{AreFates}
use Rattle.am_lab_picture.specs.Ways.{AreEmitters, AreReceived}
use Rattle.am_lab_picture.specs.declared.tables.JournalTable.{JournalTable}

pub record AreTables (table : JournalTable) (journal : List Entry) : Type 0 where
  pub fates : AreFates table.fates journal
  pub emitters : AreEmitters table.emitters journal
  pub received : AreReceived table.received journal
