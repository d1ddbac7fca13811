-- Which packet an entry emits or receives, by its link and its number there.
use Rattle.std.specs.Prelude.{◌≡◌, ℕ, Bool, false, ◌&&◌, ◌==◌, Option, Some, None, List, if◌then◌else◌}
use Rattle.std.specs.declared.cmp.Ordering.{Ordering}
use Rattle.std.specs.BTreeMap.{BTreeMap}
use Rattle.std.specs.BTreeMap as maps
use Rattle.std.specs.BTreeSet.{BTreeSet}
use Rattle.std.specs.BTreeSet as sets
use Rattle.std.specs.List.{list_any, position_from}
use Rattle.std.specs.Option.{option_map}
use Rattle.std.specs.Ordering.{nat_cmp, ordering_then}
use Rattle.am_names.specs.Names.{same_node}
use Rattle.am_names.specs.Packets.{way_of}
use Rattle.am_names.specs.declared.Way.{Way}
use Rattle.am_office_entries.specs.Entries.{emitted_of}
use Rattle.am_office_entries.specs.declared.Entry.{Entry}
use Rattle.am_office_entries.specs.declared.Event.{Event}
use Rattle.am_office_entries.specs.declared.Event.TheVariants as Events

abbrev pub way_order : Way → Way → Ordering
way_order a b = ordering_then (nat_cmp a.from.0 b.from.0) (ordering_then (nat_cmp a.to.0 b.to.0) (nat_cmp a.number b.number))

-- whether two packets have the same link and the same number there
abbrev pub same_way : Way → Way → Bool
same_way a b = same_node a.from b.from && same_node a.to b.to && (a.number == b.number)

abbrev pub is_way : Way → Option Way → Bool
is_way w None = false
is_way w (Some other) = same_way w other

-- the packet that an entry emits
abbrev pub emitted_way : Entry → Option Way
emitted_way x = option_map way_of (emitted_of x)

-- the packet that an event receives
abbrev pub received_way : Event → Option Way
received_way (Events.Receive node peer number) = Some (record { from = peer; to = node; number = number })
received_way event = None

-- whether an entry emits a packet
abbrev pub emits : Way → Entry → Bool
emits w x = is_way w (emitted_way x)

-- whether an entry receives it
abbrev pub receives : Way → Entry → Bool
receives w x = is_way w (received_way x.event)

-- the place in a journal of the entry that emits a packet
abbrev pub emitter : List Entry → Way → Option ℕ
emitter journal w = position_from (emits w) 0 journal

-- whether some entry of a journal receives it
abbrev pub is_received : List Entry → Way → Bool
is_received journal w = list_any (receives w) journal

-- ---- what is kept of a journal

-- the place that is kept for a packet
abbrev pub place_in : BTreeMap Way ℕ → Way → Option ℕ
place_in places w = maps.get way_order places w

-- the place, if it is of this packet
abbrev pub place_for : Way → Option Way → ℕ → Option ℕ
place_for w way place = if is_way w way then Some place else None

-- whether a set has a packet
abbrev pub has_way : BTreeSet Way → Way → Bool
has_way set w = sets.contains way_order set w

-- the places are those of the entries that emit
pub record AreEmitters (places : BTreeMap Way ℕ) (journal : List Entry) : Type 0 where
  pub each : (w : Way) → place_in places w ≡ emitter journal w

-- the packets are those that the entries receive
pub record AreReceived (set : BTreeSet Way) (journal : List Entry) : Type 0 where
  pub each : (w : Way) → has_way set w ≡ is_received journal w
