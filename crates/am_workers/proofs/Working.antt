-- What a thread and a driver keep from turn to turn.
use Rattle.std.proofs.Common.{◌≡◌, ℕ, ◌+◌, ◌<◌, ◌^◌, true, ◌&&◌, List, Some, sym, ap, subst, Option, None, IfSome, IfNone}
use Rattle.atomic_table.specs.Seated.{TableId}
use Rattle.am_lemmas.proofs.Bools.{and_second}
use Rattle.am_names.specs.declared.NodeId.{NodeId}
use Rattle.am_office_entries.specs.declared.Actor.TheVariants.{Thread}
use Rattle.am_model_scripts.specs.Layout.{is_direct, layout_of}
use Rattle.am_model_scripts.proofs.Lawful.{lawful_layout}
use Rattle.am_model_parts.specs.Together.{ends_of}
use Rattle.am_model.specs.Allowed.{are_numbers_in_range}
use Rattle.am_model.specs.History.{is_actor_in_range, is_call_in_range}
use Rattle.am_model.specs.Layout.{declared}
use Rattle.am_model.proofs.Carries.{numbers_in_range}
use Rattle.am_scenario_types.specs.Lawful.{IsLawful}
use Rattle.am_scenario_types.specs.Lists.{ScenarioLists}
use Rattle.am_scenario_types.specs.declared.parts.Network.TheVariants.{Packet}
use Rattle.am_scenario_types.specs.declared.parts.ScriptCall.{ScriptCall}
use Rattle.am_workers.specs.Turns.Callers.{HaveRange, IsScript, next_after}
use Rattle.am_workers.specs.Turns.Turns.{clock_after}
use Rattle.am_workers.specs.WorkerTurns.{clock_by, next_by}
use Rattle.am_workers_laws.specs.Invariants.Drivers.{IsDriverOf}
use Rattle.am_workers_laws.specs.Invariants.Seats.{AreBorn, EndPass, Ids, SameSeat}
use Rattle.am_workers.specs.AtWork.{IsDriverAtWork, IsThreadAtWork}
use Rattle.am_workers.specs.declared.workers.DriverWorker.{DriverWorker}
use Rattle.am_workers.specs.declared.turns.turns.ThreadTurn.{ThreadTurn}
use Rattle.am_workers.specs.declared.workers.Stop.{Stop}
use Rattle.am_workers.specs.declared.workers.ThreadWorker.{ThreadWorker}

-- ---- a thread

-- the numbers of a script's calls are in range for each endpoint of the node
pub have_range : (s : ScenarioLists) (thread : ℕ) (calls : List ScriptCall) (v : EndPass) → AreBorn (layout_of s) v → IsScript s thread calls →
    HaveRange v calls
have_range s thread calls v born script j k set c at call =
    subst (λ pool. are_numbers_in_range pool c.call ≡ true) (sym (born j set at).pool)
    (numbers_in_range (layout_of s) c.call (and_second (is_actor_in_range (Thread thread) && declared (layout_of s) c.endpoint)
    (is_call_in_range (layout_of s) c.call) (script.called k c call)))

-- the same worker's, from turn to turn
pub record IsSameThread (s : ScenarioLists) (table : TableId) (ids : Ids) (turns : ℕ) (w w' : ThreadWorker) : Type 0 where
  pub at_work : IsThreadAtWork s table ids turns w'
  pub seat : SameSeat w.seat.token.me.0 w'.seat.token.me.0
  pub thread : w'.thread ≡ w.thread
  pub stopped : (why : Stop) → w.stop ≡ Some why → w' ≡ w

-- ---- a driver

-- a driver of a node of the packet network, which made so many turns
pub is_driver_of : (s : ScenarioLists) (ids : Ids) (node : NodeId) (turns : ℕ) → IsLawful s → s.network ≡ Packet → ids ≡ ends_of (layout_of s) node →
    node.0 < s.nodes → turns + 1 < 2 ^ 64 → IsDriverOf s ids node turns
is_driver_of s ids node turns lawful packet ends low few =
    record { packet = ap is_direct packet; once = (lawful_layout s lawful).ids; ends = ends; declared = low; few = few }

pub record IsSameDriver (s : ScenarioLists) (table : TableId) (ids : Ids) (node : NodeId) (turns : ℕ) (w w' : DriverWorker) : Type 0 where
  pub at_work : IsDriverAtWork s table ids node turns w'
  pub seat : SameSeat w.seat.token.me.0 w'.seat.token.me.0
  pub is_node : w'.node ≡ w.node
  pub stopped : (why : Stop) → w.stop ≡ Some why → w' ≡ w

-- how many calls a thread has made, and its clock, by what its turn answered
pub next_is : (made : Option ThreadTurn) (next next' clock clock' : ℕ) → IfSome made (λ (turn : ThreadTurn). next' ≡ next_after next turn) →
    IfNone made ((next' ≡ next) × (clock' ≡ clock)) → next' ≡ next_by next made
next_is None next next' clock clock' some none = none.0
next_is (Some turn) next next' clock clock' some none = some

pub clock_is : (made : Option ThreadTurn) (next next' clock clock' : ℕ) → IfSome made (λ (turn : ThreadTurn). clock' ≡ clock_after clock turn) →
    IfNone made ((next' ≡ next) × (clock' ≡ clock)) → clock' ≡ clock_by clock made
clock_is None next next' clock clock' some none = none.1
clock_is (Some turn) next next' clock clock' some none = some
