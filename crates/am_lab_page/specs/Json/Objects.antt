-- An entry of a journal as a JSON object: its line in the report, its stamp, who acts, what happens and what came of it in the words of
-- the report's line, the message that it is about with that message's fate, the reply that a run makes, and the packet that it emits.
-- What isn't there is `null`. No text needs an escape (`NothingIsEscaped`).
use Rattle.std.specs.Prelude.{ℕ, List, [], ◌∷◌, ◌++◌, codes, drop, Option, Some, None}
use Rattle.std.specs.Fmt.{decimal}
use Rattle.am_names.specs.declared.Packet.{Packet}
use Rattle.am_names.specs.declared.Way.{Way}
use Rattle.am_names.specs.Packets.{way_of}
use Rattle.am_office_entries.specs.Entries.{emitted_of}
use Rattle.am_office_entries.specs.declared.Entry.{Entry}
use Rattle.am_office_entries.specs.declared.Event.{Event}
use Rattle.am_office_entries.specs.declared.endings.Fate.{Fate}
use Rattle.am_office_entries.specs.declared.endings.Fate.TheVariants as Fates
use Rattle.am_office_text.specs.EntryLines.Lines.{outcome, what, who}
use Rattle.am_lemmas.specs.Numbered.{numbered}
use Rattle.am_office_text.specs.Words.{Word, line, serial, spaced}
use Rattle.am_lab_picture.specs.Rows.{row}
use Rattle.am_lab_picture.specs.declared.data.Named.{Named}
use Rattle.am_lab_picture.specs.declared.data.Row.{Row}

unfoldable pub quoted : List ℕ → List ℕ
quoted text = codes "\"" ++ text ++ codes "\""

-- words with one space between them
abbrev pub spread : List Word → List ℕ
spread words = drop 1 (spaced words)

-- words in quotes, if there are any
abbrev pub text_value : List Word → List ℕ
text_value [] = codes "null"
text_value (word ∷ words) = quoted (spread (word ∷ words))

abbrev pub serial_value : Option Named → List ℕ
serial_value None = codes "null"
serial_value (Some named) = quoted (serial named.serial)

unfoldable pub fate_value : Option Fate → List ℕ
fate_value None = codes "null"
fate_value (Some Fates.Ran) = codes "\"ran\""
fate_value (Some (Fates.Returned cause)) = codes "\"returned\""
fate_value (Some Fates.Unknown) = codes "\"unknown\""
fate_value (Some Fates.UnknownButRan) = codes "\"unknown-but-ran\""
fate_value (Some Fates.Pending) = codes "\"pending\""

abbrev pub fate_of : Option Named → List ℕ
fate_of None = codes "null"
fate_of (Some named) = fate_value named.fate

unfoldable pub link_part : ℕ → ℕ → List ℕ
link_part from to = codes "{\"from\":" ++ decimal from ++ codes ",\"to\":" ++ decimal to

-- a packet: its link, and its number there
unfoldable pub way_value : Way → List ℕ
way_value way = link_part way.from.0 way.to.0 ++ codes ",\"number\":" ++ decimal way.number ++ codes "}"

abbrev pub packet_value : Option Packet → List ℕ
packet_value None = codes "null"
packet_value (Some packet) = way_value (way_of packet)

-- where an entry stands
unfoldable pub place_part : ℕ → ℕ → List ℕ
place_part line stamp = codes "{\"line\":" ++ decimal line ++ codes ",\"stamp\":" ++ decimal stamp

-- the line of an entry with this event and no outcome
abbrev pub left_line : Event → List ℕ
left_line event = line (who event) (what event)

-- what it is printed as
unfoldable pub text_part : Entry → List ℕ
text_part x =
    codes ",\"actor\":" ++ quoted (who x.event) ++ codes ",\"event\":" ++ quoted (spread (what x.event)) ++
    codes ",\"outcome\":" ++ text_value (outcome x.outcome)

-- the message that it is about, and the reply that a run makes
unfoldable pub message_part : Row → List ℕ
message_part row =
    codes ",\"serial\":" ++ serial_value row.about ++ codes ",\"fate\":" ++ fate_of row.about ++ codes ",\"reply\":" ++ serial_value row.reply

abbrev pub object_of : ℕ → Row → List ℕ
object_of line row =
    place_part line row.entry.stamp ++ text_part row.entry ++ message_part row ++ codes ",\"packet\":" ++ packet_value (emitted_of row.entry) ++ codes "}"

abbrev pub object_line : ℕ → Row → List ℕ
object_line line row = object_of line row ++ codes "\n"

-- the object of each entry of a journal in a line of its own, in order; the first entry stands in line 3 of the report
abbrev pub json_of : List Entry → List ℕ
json_of journal = numbered (λ number x. object_line number (row journal x)) 3 journal
