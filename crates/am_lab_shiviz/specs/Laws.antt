-- What the clocks say, in other words.
use Rattle.std.specs.Prelude.{◌≡◌, ℕ, ◌+◌, ◌*◌, ◌<◌, ◌≤◌, Bool, true, List, [], ◌∷◌, Some, count_by, length, slice_get, take}
use Rattle.am_check_lines.specs.Grammar.{printed}
use Rattle.am_lab_picture.specs.Ways.{emitter, received_way}
use Rattle.am_lemmas.specs.Numbered.{numbered}
use Rattle.am_lexer.specs.Text.{lines_of}
use Rattle.am_names.specs.Names.{same_node}
use Rattle.am_names.specs.declared.NodeId.{NodeId}
use Rattle.am_names.specs.declared.Way.{Way}
use Rattle.am_office_entries.specs.declared.Entry.{Entry}
use Rattle.am_scenario_types.specs.declared.parts.EndLine.{EndLine}
use Rattle.am_lab_shiviz.specs.declared.knowledge.Clock.{Clock}
use Rattle.am_lab_shiviz.specs.declared.knowledge.Happening.{Happening}
use Rattle.am_lab_shiviz.specs.Clocks.{clocks_of, count_at, touches}
use Rattle.am_lab_shiviz.specs.Happenings.{happenings_of, host}
use Rattle.am_lab_shiviz.specs.Texts.{clock_at, host_text, shiviz_of}

abbrev pub happens_at : NodeId → Happening → Bool
happens_at node h = same_node node h.node

-- how many of these happened at a node
abbrev pub so_many : NodeId → List Happening → ℕ
so_many node happenings = count_by (happens_at node) happenings

-- one clock knows all that another does
abbrev pub KnowsAll : Clock → Clock → Type 0
KnowsAll other clock = (node : NodeId) → count_at other node ≤ count_at clock node

-- the happening at a place, and its clock
pub record IsTimed (happenings : List Happening) (place : ℕ) (h : Happening) (clock : Clock) : Type 0 where
  pub there : slice_get happenings place ≡ Some h
  pub clock' : slice_get (clocks_of happenings) place ≡ Some clock

-- there is a clock for each happening
abbrev pub EachHasItsClock : Type 0
EachHasItsClock = (happenings : List Happening) → length (clocks_of happenings) ≡ length happenings

-- At its own node a happening counts all that has happened there up to it, itself among them.
abbrev pub CountsItsNode : Type 0
CountsItsNode =
    (happenings : List Happening) (place : ℕ) (h : Happening) (clock : Clock)
    → IsTimed happenings place h clock → h.node.0 < 16 → count_at clock h.node ≡ so_many h.node (take (place + 1) happenings)

-- A happening knows all that was known to the one that it hears.
abbrev pub KnowsWhatItHears : Type 0
KnowsWhatItHears =
    (happenings : List Happening) (from place : ℕ) (g h : Happening) (heard clock : Clock)
    → IsTimed happenings from g heard → IsTimed happenings place h clock → from < place → h.hears ≡ Some from → KnowsAll heard clock

-- Of two happenings that touch one node the later knows all that the earlier did.
abbrev pub KnowsWhatWasKnownThere : Type 0
KnowsWhatWasKnownThere =
    (happenings : List Happening) (from place : ℕ) (g h : Happening) (earlier clock : Clock) (node : NodeId)
    → IsTimed happenings from g earlier → IsTimed happenings place h clock → from < place → node.0 < 16
    → touches node g ≡ true → touches node h ≡ true → KnowsAll earlier clock

-- ---- a journal

-- the clocks of a journal's entries
abbrev pub clocks_in : List EndLine → List Entry → List Clock
clocks_in ends journal = clocks_of (happenings_of ends journal)

-- A receipt knows all that was known to the entry that emitted its packet.
abbrev pub ReceiptsKnowWhatWasSent : Type 0
ReceiptsKnowWhatWasSent =
    (ends : List EndLine) (journal : List Entry) (from place : ℕ) (x : Entry) (way : Way) (sent clock : Clock)
    → slice_get journal place ≡ Some x → received_way x.event ≡ Some way → emitter journal way ≡ Some from → from < place
    → slice_get (clocks_in ends journal) from ≡ Some sent → slice_get (clocks_in ends journal) place ≡ Some clock → KnowsAll sent clock

-- the two lines of the entry at a place: its node with its clock, and its line in the report
abbrev pub lines_at : List EndLine → List Clock → ℕ → Entry → List (List ℕ)
lines_at ends clocks place x = host_text (host ends x.event) (clock_at clocks place) ∷ printed x ∷ []

-- The lines of the text are those of the entries, in order, and there is a clock for each.
pub record HasItsLines (ends : List EndLine) (journal : List Entry) : Type 0 where
  pub lines : lines_of (shiviz_of ends journal) ≡ numbered (lines_at ends (clocks_in ends journal)) 0 journal
  pub count : length (lines_of (shiviz_of ends journal)) ≡ 2 * length journal
  pub clocks : length (clocks_in ends journal) ≡ length journal

abbrev pub EachEntryHasItsLines : Type 0
EachEntryHasItsLines = (ends : List EndLine) (journal : List Entry) → HasItsLines ends journal
