-- Where the packets of a journal are received, by places in the journal, of which the first is 0.
use Rattle.std.specs.Prelude.{◌≡◌, ℕ, ◌+◌, ◌<◌, ◌≤◌, Bool, Option, Some, None, List, drop, length, slice_get}
use Rattle.std.specs.BTreeMap.{BTreeMap}
use Rattle.std.specs.BTreeMap as maps
use Rattle.std.specs.List.{position_from}
use Rattle.std.specs.Ordering.{nat_cmp, ordering_then}
use Rattle.std.specs.declared.cmp.Ordering.{Ordering}
use Rattle.am_names.specs.declared.Way.{Way}
use Rattle.am_office_entries.specs.declared.Entry.{Entry}
use Rattle.am_office_entries.specs.declared.Event.{Event}
use Rattle.am_office_entries.specs.declared.Event.TheVariants as Events
use Rattle.am_lab_reasons.specs.Packets.{receives}

-- the packet that an event receives
abbrev pub received_way : Event → Option Way
received_way (Events.Receive node peer number) = Some (record { from = peer; to = node; number = number })
received_way event = None

-- whether an entry receives a packet
abbrev pub receives_way : Way → Entry → Bool
receives_way w x = receives w.from w.to w.number x.event

-- the place of the first of some entries that receives a packet; the first of them has this place
abbrev pub receipt_from : Way → ℕ → List Entry → Option ℕ
receipt_from w place entries = position_from (receives_way w) place entries

-- the place of the first entry of a journal that receives a packet
abbrev pub first_receipt : List Entry → Way → Option ℕ
first_receipt journal w = receipt_from w 0 journal

abbrev pub receipt_behind : List Entry → ℕ → Option Way → Option ℕ
receipt_behind journal place None = None
receipt_behind journal place (Some w) = receipt_from w (place + 1) (drop (place + 1) journal)

abbrev pub receipt_behind_entry : List Entry → ℕ → Option Entry → Option ℕ
receipt_behind_entry journal place None = None
receipt_behind_entry journal place (Some x) = receipt_behind journal place (received_way x.event)

-- the place of the next entry that receives the same packet as the one at this place
abbrev pub later_receipt : List Entry → ℕ → Option ℕ
later_receipt journal place = receipt_behind_entry journal place (slice_get journal place)

-- ---- what is kept of a journal

abbrev pub way_order : Way → Way → Ordering
way_order a b = ordering_then (nat_cmp a.from.0 b.from.0) (ordering_then (nat_cmp a.to.0 b.to.0) (nat_cmp a.number b.number))

-- the place that is kept for a packet
abbrev pub place_in : BTreeMap Way ℕ → Way → Option ℕ
place_in places w = maps.get way_order places w

-- the place that is kept for the packet that an event receives
abbrev pub place_for : BTreeMap Way ℕ → Option Way → Option ℕ
place_for places None = None
place_for places (Some w) = place_in places w

-- the places are those of the first receipts from a place of the journal on
pub record AreFirst (places : BTreeMap Way ℕ) (place : ℕ) (journal : List Entry) : Type 0 where
  pub each : (w : Way) → place_in places w ≡ receipt_from w place (drop place journal)

-- from a place of the journal on the places are those of the next receipts
pub record AreLater (later : List (Option ℕ)) (place : ℕ) (journal : List Entry) : Type 0 where
  pub long : length later ≡ length journal
  pub each : (p : ℕ) → place ≤ p → p < length journal → slice_get later p ≡ Some (later_receipt journal p)
