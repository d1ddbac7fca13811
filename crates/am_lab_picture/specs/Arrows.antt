-- The arrows and the crosses of a picture.
use Rattle.std.specs.Prelude.{ℕ, ◌+◌, Bool, true, false, ◌&&◌, ◌||◌, nat_le, nat_lt, Option, Some, None, List, [], ◌∷◌, slice_get, if◌then◌else◌}
use Rattle.am_names.specs.declared.Packet.{Packet}
use Rattle.am_office_entries.specs.Entries.{emitted_of}
use Rattle.am_office_entries.specs.declared.Entry.{Entry}
use Rattle.am_office_entries.specs.declared.Outcome.{Outcome}
use Rattle.am_office_entries.specs.declared.Outcome.TheVariants as Out
use Rattle.am_office_entries.specs.declared.Received.{Received}
use Rattle.am_office_entries.specs.declared.Received.TheVariants as Got
use Rattle.am_lab_picture.specs.declared.data.Arrow.{Arrow}
use Rattle.am_lab_picture.specs.declared.data.Cross.{Cross}
use Rattle.am_lab_picture.specs.declared.data.Lines.{Lines}
use Rattle.am_names.specs.declared.Way.{Way}
use Rattle.am_lab_picture.specs.Abouts.{about_of}
use Rattle.am_lemmas.specs.Numbered.{numbered}
use Rattle.am_lab_picture.specs.Rows.{entries_in, named_by}
use Rattle.am_lab_picture.specs.Ways.{emitter, is_received, received_way}
use Rattle.am_names.specs.Packets.{way_of}

-- whether a receipt judges a message or settles one
abbrev pub does_count : Received → Bool
does_count (Got.Accepted m answer) = true
does_count (Got.Refused m cause answer) = true
does_count (Got.Again serial verdict answer) = false
does_count Got.Stale = false
does_count (Got.Delivered serial) = true
does_count (Got.Requeued serial cause used) = true
does_count (Got.Returned serial cause) = true
does_count Got.Nothing = false

abbrev pub counts : Outcome → Bool
counts (Out.Received channel seq attempt result) = does_count result
counts outcome = false

-- the arrow of this packet from the entry at a place to one in a line
abbrev pub arrow_of : List Entry → ℕ → Entry → ℕ → Entry → Option Packet → Option Arrow
arrow_of journal line x place y None = None
arrow_of journal line x place y (Some p) =
    Some (record { from = place + 3; to = line; packet = p; about = named_by journal (about_of y); counts = counts x.outcome })

-- the arrow from the entry at a place, if there is one
abbrev pub arrow_at : List Entry → ℕ → Entry → ℕ → Option Entry → Option Arrow
arrow_at journal line x place None = None
arrow_at journal line x place (Some y) = arrow_of journal line x place y (emitted_of y)

abbrev pub arrow_from : List Entry → ℕ → Entry → Option ℕ → Option Arrow
arrow_from journal line x None = None
arrow_from journal line x (Some place) = arrow_at journal line x place (slice_get journal place)

abbrev pub arrow_by : List Entry → ℕ → Entry → Option Way → Option Arrow
arrow_by journal line x None = None
arrow_by journal line x (Some way) = arrow_from journal line x (emitter journal way)

-- the arrow that ends at an entry in a line: of the packet that the entry receives, from the entry that emitted that
abbrev pub arrow : List Entry → ℕ → Entry → Option Arrow
arrow journal line x = arrow_by journal line x (received_way x.event)

-- whether a line is among these
abbrev pub is_among : Lines → ℕ → Bool
is_among lines line = nat_le lines.first line && nat_lt line (lines.first + lines.count)

abbrev pub is_shown : Lines → Arrow → Bool
is_shown lines a = is_among lines a.from || is_among lines a.to

abbrev pub if_shown : Lines → Option Arrow → List Arrow
if_shown lines None = []
if_shown lines (Some a) = if is_shown lines a then a ∷ [] else []

abbrev pub arrow_shown : List Entry → Lines → ℕ → Entry → List Arrow
arrow_shown journal lines line x = if_shown lines (arrow journal line x)

-- the arrows of the journal that begin or end in these lines, in the order of their ends
abbrev pub arrows : Lines → List Entry → List Arrow
arrows lines journal = numbered (arrow_shown journal lines) 3 journal

-- the cross of a packet that is emitted in a line, if no entry receives it
abbrev pub cross_by : List Entry → ℕ → Entry → Option Packet → List Cross
cross_by journal line x None = []
cross_by journal line x (Some p) =
    if is_received journal (way_of p) then [] else record { line = line; packet = p; about = named_by journal (about_of x) } ∷ []

abbrev pub cross : List Entry → ℕ → Entry → List Cross
cross journal line x = cross_by journal line x (emitted_of x)

-- the crosses in these lines, in order
abbrev pub crosses : Lines → List Entry → List Cross
crosses lines journal = numbered (cross journal) lines.first (entries_in lines journal)
