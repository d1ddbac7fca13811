-- What an entry leaves of an endpoint on disk.
use Rattle.std.specs.Prelude.{◌≡◌, Bool, true, false, List, [], ◌∷◌, ◌++◌}
use Rattle.am_names.specs.declared.EndpointId.{EndpointId}
use Rattle.am_names.specs.Names.{same_end}
use Rattle.am_office_entries.specs.declared.Event.{Event}
use Rattle.am_office_entries.specs.declared.Event.TheVariants as Events
use Rattle.am_office_entries.specs.declared.Entry.{Entry}
use Rattle.am_model.specs.Endpoint.{is_on_disk}
use Rattle.am_model.specs.History.{state_of}
use Rattle.am_model.specs.Layout.{Layout}

-- whether the event pages the endpoint out
abbrev pub pages_out : EndpointId → Event → Bool
pages_out e (Events.PageOut node end) = same_end e end
pages_out e event = false

-- the endpoint was on disk before the entry, and its body is the same
pub record IsStill (layout : Layout) (past : List Entry) (x : Entry) (e : EndpointId) : Type 0 where
  pub there : is_on_disk (state_of layout past e).head.place ≡ true
  pub body : (state_of layout (past ++ x ∷ []) e).body ≡ (state_of layout past e).body

-- what is on disk after the entry and isn't paged out by it was there before
abbrev pub StaysOnDisk : Layout → List Entry → Entry → Type 0
StaysOnDisk layout past x =
    (e : EndpointId) → pages_out e x.event ≡ false → is_on_disk (state_of layout (past ++ x ∷ []) e).head.place ≡ true → IsStill layout past x e
