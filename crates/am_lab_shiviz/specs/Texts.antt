-- A journal in the form that ShiViz reads: two lines for each entry. The first has the entry's node and its clock, the second is the entry's line in the
-- report.
use Rattle.std.specs.Prelude.{ℕ, ◌+◌, ◌==◌, List, [], ◌∷◌, ◌++◌, codes, if◌then◌else◌, slice_get, unwrap_or}
use Rattle.std.specs.Fmt.{decimal}
use Rattle.am_lemmas.specs.Numbered.{numbered}
use Rattle.am_names.specs.declared.NodeId.{NodeId}
use Rattle.am_office_entries.specs.declared.Entry.{Entry}
use Rattle.am_office_text.specs.EntryLines.Lines.{line_of}
use Rattle.am_scenario_types.specs.declared.parts.EndLine.{EndLine}
use Rattle.am_lab_shiviz.specs.declared.knowledge.Clock.{Clock}
use Rattle.am_lab_shiviz.specs.Clocks.{clocks_of, nothing}
use Rattle.am_lab_shiviz.specs.Happenings.{happenings_of, host}

-- a node's count, behind this text
unfoldable pub member : List ℕ → ℕ → ℕ → List ℕ
member lead node count = lead ++ codes "\"n" ++ decimal node ++ codes "\":" ++ decimal count

-- nodes at 0 are left out
abbrev pub member_by : List ℕ → ℕ → ℕ → List ℕ
member_by lead node count = if count == 0 then [] else member lead node count

-- and what stands behind one is behind a comma
abbrev pub lead_after : List ℕ → ℕ → List ℕ
lead_after lead count = if count == 0 then lead else codes ","

-- the counts of the nodes from this one on
abbrev pub members : List ℕ → ℕ → List ℕ → List ℕ
members lead node [] = []
members lead node (count ∷ counts) = member_by lead node count ++ members (lead_after lead count) (node + 1) counts

-- `{"n0":1,"n1":3}`
unfoldable pub clock_text : Clock → List ℕ
clock_text clock = codes "{" ++ members [] 0 clock.counts ++ codes "}"

-- `n1 {"n0":1,"n1":3}`
unfoldable pub host_text : NodeId → Clock → List ℕ
host_text node clock = codes "n" ++ decimal node.0 ++ codes " " ++ clock_text clock

-- the two lines of an entry
abbrev pub event_text : NodeId → Clock → Entry → List ℕ
event_text node clock x = host_text node clock ++ codes "\n" ++ line_of x

-- the clock at a place
abbrev pub clock_at : List Clock → ℕ → Clock
clock_at clocks place = unwrap_or (slice_get clocks place) nothing

-- the lines of the entry at a place
abbrev pub event_at : List EndLine → List Clock → ℕ → Entry → List ℕ
event_at ends clocks place x = event_text (host ends x.event) (clock_at clocks place) x

-- those of all entries of a journal, in order
abbrev pub shiviz_of : List EndLine → List Entry → List ℕ
shiviz_of ends journal = numbered (event_at ends (clocks_of (happenings_of ends journal))) 0 journal
