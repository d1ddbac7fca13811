-- What a picture shows, in other words.
use Rattle.std.specs.Prelude.{◌≡◌, ℕ, ◌-◌, ◌≤◌, ◌==◌, true, not, List, Some, IfSome, filter, filter_map, map, slice_get}
use Rattle.std.specs.List.{AllByRecursion, list_any}
use Rattle.am_names.specs.declared.Packet.{Packet}
use Rattle.am_office_entries.specs.Entries.{emitted_of}
use Rattle.am_office_entries.specs.Fates.{fate}
use Rattle.am_office_entries.specs.declared.Entry.{Entry}
use Rattle.am_lab_picture.specs.Abouts.{about_of, reply_of}
use Rattle.am_lab_picture.specs.Arrows.{arrows, counts, crosses}
use Rattle.am_lab_picture.specs.Rows.{entries_in, has_row, named_by, placed_rows, rows}
use Rattle.am_lab_picture.specs.Ways.{is_received, receives}
use Rattle.am_names.specs.Packets.{way_of}
use Rattle.am_lab_picture.specs.declared.data.Arrow.{Arrow}
use Rattle.am_lab_picture.specs.declared.data.Cross.{Cross}
use Rattle.am_lab_picture.specs.declared.data.Lines.{Lines}
use Rattle.am_lab_picture.specs.declared.data.Named.{Named}
use Rattle.am_lab_picture.specs.declared.data.PlacedRow.{PlacedRow}
use Rattle.am_lab_picture.specs.declared.data.Row.{Row}

-- the entry in a line of the report, of which the journal's first is the third
abbrev pub IsInLine : List Entry → ℕ → Entry → Type 0
IsInLine journal line x = (3 ≤ line) × (slice_get journal (line - 3) ≡ Some x)

-- ---- rows

-- There is a row for each entry of the lines, in their order.
abbrev pub RowsAreEntries : Type 0
RowsAreEntries = (lines : Lines) (journal : List Entry) → map (λ (r : Row). r.entry) (rows lines journal) ≡ entries_in lines journal

-- a message that is named has the fate that the journal gives its serial
abbrev pub HasItsFate : List Entry → Named → Type 0
HasItsFate journal n = n.fate ≡ fate journal n.serial

-- a row names the messages that its entry does, with their fates
pub record IsRow (journal : List Entry) (r : Row) : Type 0 where
  pub about : r.about ≡ named_by journal (about_of r.entry)
  pub reply : r.reply ≡ named_by journal (reply_of r.entry)
  pub fate' : IfSome r.about (HasItsFate journal)
  pub reply_fate : IfSome r.reply (HasItsFate journal)

abbrev pub RowsTellFates : Type 0
RowsTellFates = (lines : Lines) (journal : List Entry) → AllByRecursion (IsRow journal) (rows lines journal)

-- the same rows stand in a picture, each in its line
abbrev pub PlacedRowsAreRows : Type 0
PlacedRowsAreRows = (lines : Lines) (journal : List Entry) → map (λ (placed : PlacedRow). placed.row) (placed_rows lines journal) ≡ rows lines journal

-- a row stands in the line of its entry, and is the row of this
pub record IsPlaced (journal : List Entry) (placed : PlacedRow) : Type 0 where
  pub there : IsInLine journal placed.line placed.row.entry
  pub row' : IsRow journal placed.row

abbrev pub RowsStandInTheirLines : Type 0
RowsStandInTheirLines = (lines : Lines) (journal : List Entry) → 3 ≤ lines.first → AllByRecursion (IsPlaced journal) (placed_rows lines journal)

-- a line has a row where some row stands in it
abbrev pub RowsHaveLines : Type 0
RowsHaveLines = (rows : List PlacedRow) (line : ℕ) → has_row rows line ≡ list_any (λ (placed : PlacedRow). placed.line == line) rows

-- ---- arrows

-- an arrow ends in the line of an entry that receives its packet, and begins in that of an entry that emits this packet
pub record IsArrow (journal : List Entry) (a : Arrow) : Type 0 where
  pub receiver : Entry
  pub emitter : Entry
  pub ends : IsInLine journal a.to receiver
  pub begins : IsInLine journal a.from emitter
  pub receives' : receives (way_of a.packet) receiver ≡ true
  pub emits' : emitted_of emitter ≡ Some a.packet
  pub about : a.about ≡ named_by journal (about_of emitter)
  pub fate' : IfSome a.about (HasItsFate journal)
  pub counts' : a.counts ≡ counts receiver.outcome

abbrev pub ArrowsJoinEmissionsToReceipts : Type 0
ArrowsJoinEmissionsToReceipts = (lines : Lines) (journal : List Entry) → AllByRecursion (IsArrow journal) (arrows lines journal)

-- ---- crosses

-- The crosses are of the packets that are emitted in the lines and that no entry of the journal receives, in order.
abbrev pub CrossesAreOfTheUnreceived : Type 0
CrossesAreOfTheUnreceived =
    (lines : Lines) (journal : List Entry)
    → map (λ (c : Cross). c.packet) (crosses lines journal) ≡ filter (λ (p : Packet). not (is_received journal (way_of p))) (filter_map emitted_of (entries_in lines journal))

-- a cross stands in the line of an entry that emits its packet
pub record IsCross (journal : List Entry) (c : Cross) : Type 0 where
  pub emitter : Entry
  pub there : IsInLine journal c.line emitter
  pub emits' : emitted_of emitter ≡ Some c.packet
  pub about : c.about ≡ named_by journal (about_of emitter)
  pub fate' : IfSome c.about (HasItsFate journal)

abbrev pub CrossesStandAtEmissions : Type 0
CrossesStandAtEmissions = (lines : Lines) (journal : List Entry) → 3 ≤ lines.first → AllByRecursion (IsCross journal) (crosses lines journal)
