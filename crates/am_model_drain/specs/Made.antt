-- A journal after one event more.
use Rattle.std.specs.Prelude.{◌≡◌, ℕ, ◌+◌, max, Bool, true, false, None, List, [], ◌∷◌, ◌++◌, fold}
use Rattle.am_office_entries.specs.declared.Event.{Event}
use Rattle.am_office_entries.specs.declared.Entry.{Entry}
use Rattle.am_model.specs.Layout.{Layout}
use Rattle.am_model.specs.History.{MayFollow, is_in_range, failing, outcome_of}
use Rattle.am_model.specs.Steps.{step_entry}
use Rattle.am_model_scripts.specs.Steps.Laws.{Walked}

abbrev pub later_stamp : ℕ → Entry → ℕ
later_stamp stamp x = max stamp x.stamp

-- the stamp of the next entry: one more than the greatest so far
abbrev pub next_stamp : List Entry → ℕ
next_stamp past = fold later_stamp 0 past + 1

-- the entry of an event after these
abbrev pub next_entry : Layout → List Entry → Event → Entry
next_entry layout past event = record { stamp = next_stamp past; event = event; outcome = outcome_of layout past event }

-- the journal after an event
abbrev pub after_event : Layout → Event → List Entry → List Entry
after_event layout event past = past ++ next_entry layout past event ∷ []

-- the journal after an event that happens under a condition
abbrev pub after_event_if : Bool → Layout → Event → List Entry → List Entry
after_event_if true layout event past = after_event layout event past
after_event_if false layout event past = past

-- the entry of an event that is in range and enabled may follow
abbrev pub EntryMayFollow : Type 0
EntryMayFollow =
    (layout : Layout) (past : List Entry) (event : Event) → is_in_range layout event ≡ true → failing layout past event ≡ None → MayFollow layout past (next_entry layout past event)

-- where the stamps are 1, 2, 3 and so on it is the entry of the next step
abbrev pub EntryIsStep : Type 0
EntryIsStep = (layout : Layout) (past : List Entry) (event : Event) → Walked layout past → next_entry layout past event ≡ step_entry layout past event
