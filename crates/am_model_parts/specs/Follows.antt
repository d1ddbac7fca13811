-- One entry more: what parts the journal has after it, and that an entry which a part finds by its own log may come next.
use Rattle.std.specs.Prelude.{◌≡◌, ◌<◌, true, List, [], ◌∷◌, ◌++◌, filter}
use Rattle.am_names.specs.declared.EndpointId.{EndpointId}
use Rattle.am_office_entries.specs.declared.Event.{Event}
use Rattle.am_office_entries.specs.declared.Entry.{Entry}
use Rattle.am_office_entries.specs.Entries.{touches, touches_node}
use Rattle.am_model.specs.Layout.{AllAre, Layout}
use Rattle.am_model.specs.History.{is_in_range}
use Rattle.am_model_parts.specs.Driver.{DriverLog}
use Rattle.am_model.specs.Parts.{is_by_driver}
use Rattle.am_model_parts.specs.Interface.{InterfaceLog}
use Rattle.am_model_parts.specs.Readings.{with_entry}
use Rattle.am_model_parts.specs.Together.{IsDriverPart, IsPart}

-- the parts of a journal after an entry: each log has it at its end where the entry belongs into it, and is else as it was
pub record PartsGrow (layout : Layout) (past : List Entry) (x : Entry) : Type 0 where
  pub interfaces : (i : InterfaceLog) → IsPart layout past i → IsPart layout (past ++ x ∷ []) (record i { log = with_entry (touches_node i.settings.node x) x i.log })
  pub drivers : (d : DriverLog) → IsDriverPart layout past d → IsDriverPart layout (past ++ x ∷ []) (record d { log = with_entry (is_by_driver d.settings.node x) x d.log })
  pub ends : (e : EndpointId) (log : List Entry) → log ≡ filter (touches e) past → with_entry (touches e x) x log ≡ filter (touches e) (past ++ x ∷ [])

-- the entry is of this event, whose numbers are in range, and is stamped above all that came before
pub record IsNext (layout : Layout) (past : List Entry) (is : Event) (x : Entry) : Type 0 where
  pub event : x.event ≡ is
  pub in_range : is_in_range layout is ≡ true
  pub above : AllAre (λ (y : Entry). y.stamp < x.stamp) past
