-- The clocks of happenings, which are a journal's entries as far as clocks go. A clock has a count for each of 16 nodes: how many of the happenings
-- at that node one knows of, itself among them.
-- A happening knows what was known at its node before it, and what was known to the happening that it hears. Where it reaches another node at once,
-- it knows what was known there too, and what it knows is known there from then on.
use Rattle.std.specs.Prelude.{Bool, ◌||◌, ℕ, ◌+◌, ◌<◌, ◌^◌, ◌∷◌, ◌++◌, [], List, Option, Some, None, max, fold, replicate, slice_get, slice_index, slice_set, unwrap_or}
use Rattle.std.specs.Option.{option_map}
use Rattle.am_names.specs.Names.{same_node}
use Rattle.am_names.specs.declared.NodeId.{NodeId}
use Rattle.am_office_entries.specs.Entries.{is_node}
use Rattle.am_lab_shiviz.specs.declared.knowledge.Clock.{Clock}
use Rattle.am_lab_shiviz.specs.declared.knowledge.Happening.{Happening}

-- ---- a clock

-- the count at a node
abbrev pub count_at : Clock → NodeId → ℕ
count_at clock node = slice_index clock.counts node.0

-- of no happening
abbrev pub nothing : Clock
nothing = record { counts = replicate 16 0 }

-- the greater of two counts, for each node
abbrev pub greater_counts : List ℕ → List ℕ → List ℕ
greater_counts [] others = []
greater_counts (count ∷ counts) [] = count ∷ counts
greater_counts (count ∷ counts) (other ∷ others) = max count other ∷ greater_counts counts others

-- what one clock or the other knows
abbrev pub joined : Clock → Clock → Clock
joined clock other = record { counts = greater_counts clock.counts other.counts }

-- the same, if there is another
abbrev pub joined_with : Clock → Option Clock → Clock
joined_with clock None = clock
joined_with clock (Some other) = joined clock other

-- one happening more at a node
abbrev pub counted : NodeId → Clock → Clock
counted node clock = record { counts = slice_set clock.counts node.0 (count_at clock node + 1) }

-- ---- one happening after the other

-- whether a happening happens at a node or reaches it
abbrev pub touches : NodeId → Happening → Bool
touches node h = same_node node h.node || is_node node h.reached

-- what is known behind some happenings: to each of them, and at each node
pub record Known : Type 0 where
  pub clocks : List Clock
  pub nodes : List Clock

-- what is known at a node
abbrev pub known_at : List Clock → NodeId → Clock
known_at nodes node = unwrap_or (slice_get nodes node.0) nothing

-- what is known at the node that a happening reaches, if it reaches one
abbrev pub known_there : List Clock → Option NodeId → Option Clock
known_there nodes reached = option_map (known_at nodes) reached

-- what was known to the happening at a place, if one is heard
abbrev pub heard_from : List Clock → Option ℕ → Option Clock
heard_from clocks None = None
heard_from clocks (Some place) = slice_get clocks place

-- what was known before, and is known to a happening
abbrev pub before : Known → Happening → Clock
before known h = joined_with (joined_with (known_at known.nodes h.node) (known_there known.nodes h.reached)) (heard_from known.clocks h.hears)

-- the clock of a happening
abbrev pub clock : Known → Happening → Clock
clock known h = counted h.node (before known h)

abbrev pub told : List Clock → NodeId → Clock → List Clock
told nodes node clock = slice_set nodes node.0 clock

abbrev pub told_there : List Clock → Option NodeId → Clock → List Clock
told_there nodes None clock = nodes
told_there nodes (Some node) clock = told nodes node clock

-- what is known at the nodes behind a happening with this clock
abbrev pub told_by : List Clock → Happening → Clock → List Clock
told_by nodes h clock = told_there (told nodes h.node clock) h.reached clock

-- what is known behind one happening more
abbrev pub learned : Known → Happening → Known
learned known h = record { clocks = known.clocks ++ clock known h ∷ []; nodes = told_by known.nodes h (clock known h) }

-- where nothing has happened
abbrev pub unknown : Known
unknown = record { clocks = []; nodes = replicate 16 nothing }

-- the count at a happening's node has room for one more
abbrev pub IsFew : Known → Happening → Type 0
IsFew known h = count_at (before known h) h.node + 1 < 2 ^ 32

-- what is known behind happenings
abbrev pub known : List Happening → Known
known happenings = fold learned unknown happenings

-- their clocks, in order
abbrev pub clocks_of : List Happening → List Clock
clocks_of happenings = (known happenings).clocks
