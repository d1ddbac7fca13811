-- The order in which the workers of a scenario take their turns by a seed.
use Rattle.std.specs.Prelude.{◌≡◌, ℕ, zero, suc, ◌+◌, ◌*◌, ◌%◌, Bool, nat_lt, count_by, List, [], ◌∷◌, ◌++◌, length, slice_get, slice_set, Option, Some, None, if◌then◌else◌}
use Rattle.std.specs.List.{remove}
use Rattle.rand_pcg.specs.Lcg.{Lcg}
use Rattle.rand_pcg.specs.Pcg.{pcg32}
use Rattle.am_model.specs.Layout.{node_at}
use Rattle.am_cluster_opening.specs.Node.Openings.{threads_of}
use Rattle.am_scenario_generator.specs.Words.{seeded, word}
use Rattle.am_scenario_types.specs.Lists.{ScenarioLists}
use Rattle.am_cluster_schedule.specs.declared.order.Role.{Role}
use Rattle.am_cluster_schedule.specs.declared.order.Role.TheVariants.{Thread, Interface, Driver}
use Rattle.am_cluster_schedule.specs.declared.order.Turn.{Turn}
use Rattle.am_cluster_schedule.specs.declared.order.Worker.{Worker}

-- ---- each worker's first turn

abbrev pub first_of : ℕ → Role → Turn
first_of crew role = record { worker = record { crew = crew; role = role }; number = 0 }

-- those of the threads below a place in their crew
unfoldable pub threads_below : (crew : ℕ) → ℕ → List Turn
threads_below crew zero = []
threads_below crew (suc at) = threads_below crew at ++ first_of crew (Thread at) ∷ []

-- those of a crew with so many threads: its interface and its driver come behind its threads
abbrev pub crew_turns : (crew threads : ℕ) → List Turn
crew_turns crew threads = threads_below crew threads ++ first_of crew Interface ∷ first_of crew Driver ∷ []

-- those of the first nodes' crews, so many
unfoldable pub turns_below : ScenarioLists → ℕ → List Turn
turns_below s zero = []
turns_below s (suc crew) = turns_below s crew ++ crew_turns crew (length (threads_of s (node_at crew)))

-- those of all workers of a scenario, one for each
abbrev pub first_turns : ScenarioLists → List Turn
first_turns s = turns_below s s.nodes

-- ---- from turn to turn

-- How far a schedule is: the generator; the next turn of each worker that has one left, in the order of the workers; and the workers whose
-- turns were taken, one after the other.
pub record Schedule : Type 0 where
  pub generator : Lcg
  pub next : List Turn
  pub taken : List Worker

-- the place of the turn that is drawn: the generator's word, modulo how many there are
abbrev pub drawn_place : Lcg → List Turn → ℕ
drawn_place g next = word g % length next

-- The next turns, where this one was drawn at this place: there stands its worker's following turn, if it has one.
unfoldable pub behind : (turns : ℕ) → List Turn → ℕ → Turn → List Turn
behind turns next at turn = if nat_lt (turn.number + 1) turns then slice_set next at (record turn { number = turn.number + 1 }) else remove next at

-- the turn that was drawn is taken; none is drawn where no worker has one left
abbrev pub taking : (turns : ℕ) → Schedule → Option Turn → Schedule
taking turns d None = d
taking turns d (Some turn) =
    record {
      generator = (pcg32 d.generator).1;
      next = behind turns d.next (drawn_place d.generator d.next) turn;
      taken = d.taken ++ turn.worker ∷ [];
    }

-- one turn more is drawn and taken
abbrev pub one_more : (turns : ℕ) → Schedule → Schedule
one_more turns d = taking turns d (slice_get d.next (drawn_place d.generator d.next))

-- how far a schedule by a seed is after so many turns
unfoldable pub scheduled : ScenarioLists → (seed : ℕ) → ℕ → Schedule
scheduled s seed zero = record { generator = seeded seed; next = first_turns s; taken = [] }
scheduled s seed (suc n) = one_more s.turns (scheduled s seed n)

-- THE ORDER by a seed: whose turns are taken, one after the other, until each worker has made as many as the scenario gives
abbrev pub order_of : ScenarioLists → (seed : ℕ) → List Worker
order_of s seed = (scheduled s seed (length (first_turns s) * s.turns)).taken

-- ---- what the order says

-- Whatever the seed, each worker takes as many turns as the scenario gives: of the workers that pass a test, whichever, so many stand in the order.
abbrev pub EachTakesItsTurns : Type 0
EachTakesItsTurns =
    (s : ScenarioLists) (seed : ℕ) (p : Worker → Bool) → count_by p (order_of s seed) ≡ count_by (λ (turn : Turn). p turn.worker) (first_turns s) * s.turns
