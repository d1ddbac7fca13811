-- A cluster, as its callers see it: what it began with, and its journal.
use Rattle.std.specs.Prelude.{◌≡◌, List, [], ◌∷◌, ◌++◌, Some, None, Result, Ok, Err}
use Rattle.am_office_entries.specs.declared.Event.{Event}
use Rattle.am_office_entries.specs.declared.Entry.{Entry}
use Rattle.am_model.specs.Layout.{Layout}
use Rattle.am_model.specs.Steps.{NotEnabled, LogFull, stop}
use Rattle.am_model_drain.specs.Made.{next_entry}
use Rattle.am_model.specs.declared.EntryFault.{EntryFault}
use Rattle.am_model.specs.declared.EntryFault.TheVariants as Faults

pub record ClusterView : Type 0 where
  pub layout : Layout
  pub journal : List Entry

-- What an application of an event answers and leaves. Ok is the entry that the definitions give, with a stamp above the
-- greatest so far, and just that is new in the journal. A refusal names what keeps the event from happening, and want of
-- memory comes only where nothing else does. A refusal changes nothing.
abbrev pub Applies : ClusterView → ClusterView → Event → Result Entry EntryFault → Type 0
Applies old new event (Ok x) =
    (stop old.layout old.journal event ≡ None) × (x ≡ next_entry old.layout old.journal event) × (new ≡ record old { journal = old.journal ++ x ∷ [] })
Applies old new event (Err (Faults.NotEnabled condition)) = (stop old.layout old.journal event ≡ Some (NotEnabled condition)) × (new ≡ old)
Applies old new event (Err (Faults.LogFull part)) = (stop old.layout old.journal event ≡ Some (LogFull part)) × (new ≡ old)
Applies old new event (Err Faults.NoMemory) = (stop old.layout old.journal event ≡ None) × (new ≡ old)

-- What an event answers and leaves that is made, where the entry is not answered: as an application, and Ok where it would
-- answer the entry.
abbrev pub Makes : ClusterView → ClusterView → Event → Result (Unit {0}) EntryFault → Type 0
Makes old new event (Ok made) =
    (stop old.layout old.journal event ≡ None) × (new ≡ record old { journal = old.journal ++ next_entry old.layout old.journal event ∷ [] })
Makes old new event (Err fault) = Applies old new event (Err fault)
