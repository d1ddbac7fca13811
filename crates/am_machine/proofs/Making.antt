-- What is made, where the entry that is made isn't answered.
use Rattle.std.specs.Prelude.{Result, Ok, Err}
use Rattle.std.proofs.Common.{◌≡◌, [], ◌∷◌, ◌++◌, sym, ap, ◌∙◌}
use Rattle.am_office_entries.specs.declared.Entry.{Entry}
use Rattle.am_office_entries.specs.declared.Event.{Event}
use Rattle.am_model.specs.declared.EntryFault.{EntryFault}
use Rattle.am_model_drain.specs.Made.{next_entry}
use Rattle.am_machine.specs.Turned.{told}
use Rattle.am_machine.specs.View.{Applies, ClusterView, Makes}

-- an event that is applied is made
pub made_by : (old new : ClusterView) (event : Event) (x : Entry) (result : Result (Unit {0}) EntryFault) → Applies old new event (told x result) →
    Makes old new event result
made_by old new event x (Ok made) applies =
    (applies.0, applies.2 ∙ ap (λ (y : Entry). record old { journal = old.journal ++ y ∷ [] }) applies.1)
made_by old new event x (Err fault) applies = applies

-- and one that is made is applied, with the entry that the definitions give
pub applied_as : (old new : ClusterView) (event : Event) (made : Unit {0}) (x : Entry) → Makes old new event (Ok made) →
    next_entry old.layout old.journal event ≡ x → Applies old new event (Ok x)
applied_as old new event made x makes is =
    (makes.0, sym is, makes.1 ∙ ap (λ (y : Entry). record old { journal = old.journal ++ y ∷ [] }) is)
