-- How far the workers of all crews are, from turn to turn.
use Rattle.std.specs.Prelude.{Bool, true, false, if◌then◌else◌, nat_lt, slice_get, slice_set}
use Rattle.std.specs.Global.{Vec}
use Rattle.std.specs.List.{remove}
use Rattle.std.proofs.Common.{◌≡◌, ◌≢◌, ◌⊎◌, inl, inr, ⊎_elim, ℕ, zero, suc, ◌+◌, ◌<◌, ◌≤◌, List, length, Some, refl, sym, ap, ◌∙◌, subst, arith}
use Rattle.std.proofs.lemmas.Grind.{common_steps}
use Rattle.std.proofs.lemmas.List.{length-set}
use Rattle.std.proofs.lemmas.Option.{slice_get_within}
use Rattle.am_lemmas.proofs.Lists.{slice_get-set_elsewhere}
use Rattle.atomic_table.specs.Seated.{TableId}
use Rattle.am_names.specs.declared.NodeId.{NodeId}
use Rattle.am_model.specs.Layout.{node_at}
use Rattle.am_scenario_types.specs.Lists.{ScenarioLists}
use Rattle.am_workers_laws.specs.Invariants.Seats.{Ids}
use Rattle.am_workers.specs.AtWork.{IsDriverAtWork, IsThreadAtWork}
use Rattle.am_workers.specs.declared.workers.ThreadWorker.{ThreadWorker}
use Rattle.am_workers.specs.declared.workers.InterfaceWorker.{InterfaceWorker}
use Rattle.am_workers.specs.declared.workers.DriverWorker.{DriverWorker}
use Rattle.am_cluster_opening.specs.Crews.{AreCrews, AreLinked, IsCrew, ids_of, table_of}
use Rattle.am_cluster_opening.specs.declared.crew.NodeCrew.{NodeCrew}
use Rattle.am_cluster_running.specs.Running.{IsDriverAt, IsInterfaceAt, IsThreadAt, SameCrew, SameDriver, SameInterface, SameThread}
use Rattle.am_cluster_running.proofs.Ran.{crew_ran, still_linked}
use Rattle.am_cluster_schedule.proofs.Linked.{at_more, got_removed, got_set, here_set, ins_itself, outs_itself, place_from, same_got}
use Rattle.am_cluster_schedule.specs.InTurn.{AreInTurn, IsNext, IsRoleAt}
use Rattle.am_cluster_schedule.specs.Order.{behind}
use Rattle.am_cluster_schedule.specs.Schedules.{ThreadOf, TurnsInCrew}
use Rattle.am_cluster_schedule.specs.declared.order.Role.{Role}
use Rattle.am_cluster_schedule.specs.declared.order.Role.TheVariants.{Thread, Interface, Driver}
use Rattle.am_cluster_schedule.specs.declared.order.Turn.{Turn}
use Rattle.am_cluster_schedule.specs.declared.order.Worker.{Worker}

same_or_not : (a b : ℕ) → (a ≡ b) ⊎ (a ≢ b)
same_or_not zero zero = inl refl
same_or_not zero (suc b) = inr (λ e. omega (arith, e))
same_or_not (suc a) zero = inr (λ e. omega (arith, e))
same_or_not (suc a) (suc b) = ⊎_elim (λ (e : a ≡ b). inl (ap suc e)) (λ (apart : a ≢ b). inr (λ e. apart (omega (arith, e)))) (same_or_not a b)

-- ---- a worker that made at most so many turns made at most more

pub thread_more : (s : ScenarioLists) (table : TableId) (ids : Ids) (turns more : ℕ) (w : ThreadWorker) → turns ≤ more → IsThreadAtWork s table ids turns w →
    IsThreadAtWork s table ids more w
thread_more s table ids turns more w le h =
    record {
      idle = h.idle;
      declared = h.declared;
      script = h.script;
      few = h.few;
      so_far = h.so_far;
      within = let a : h.so_far ≤ turns = h.within in omega (arith, a, le);
      works = h.works;
    }

pub driver_more : (s : ScenarioLists) (table : TableId) (ids : Ids) (node : NodeId) (turns more : ℕ) (w : DriverWorker) → turns ≤ more →
    IsDriverAtWork s table ids node turns w → IsDriverAtWork s table ids node more w
driver_more s table ids node turns more w le h =
    record { idle = h.idle; is_node = h.is_node; so_far = h.so_far; within = let a : h.so_far ≤ turns = h.within in omega (arith, a, le); works = h.works }

pub crew_more : (s : ScenarioLists) (node : NodeId) (turns more : ℕ) (c : NodeCrew) → turns ≤ more → IsCrew s node turns c → IsCrew s node more c
crew_more s node turns more c le h =
    record {
      is_node = h.is_node;
      ids = h.ids;
      frames = h.frames;
      births = h.births;
      declared = h.declared;
      named = h.named;
      threads = λ k w at. record { at_work = thread_more s (table_of c) (ids_of c) turns more w le (h.threads k w at).at_work; seat = (h.threads k w at).seat };
      interface = at_more s (table_of c) (ids_of c) node turns more c.interface le h.interface;
      interface_seat = h.interface_seat;
      driver = driver_more s (table_of c) (ids_of c) node turns more c.driver le h.driver;
      driver_seat = h.driver_seat;
    }

-- ---- the same worker

thread_itself : (w : ThreadWorker) → SameThread w w
thread_itself w = record { seat = record { mark = refl; seats = refl; births = refl }; thread = refl }

interface_itself : (w : InterfaceWorker) → SameInterface w w
interface_itself w = record { seat = record { mark = refl; seats = refl; births = refl }; outs = outs_itself w.outs.items; ins = ins_itself w.ins.items }

driver_itself : (w : DriverWorker) → SameDriver w w
driver_itself w = record { seat = record { mark = refl; seats = refl; births = refl }; node = refl }

pub crew_itself : (c : NodeCrew) → SameCrew c c
crew_itself c = record { node = refl; outs = outs_itself c.interface.outs.items; ins = ins_itself c.interface.ins.items }

-- ---- the turn of a worker of a crew

module _ (s : ScenarioLists) (c : NodeCrew) (h : IsCrew s c.node s.turns c) where
  same_threads : (k : ℕ) (v w : ThreadWorker) → slice_get c.threads.items k ≡ Some v → slice_get c.threads.items k ≡ Some w → SameThread v w
  same_threads k v w at_v at_w = subst (λ (z : ThreadWorker). SameThread v z) (same_got (slice_get c.threads.items k) v w at_v at_w) (thread_itself v)

  threads_stay : (k : ℕ) (w : ThreadWorker) → slice_get c.threads.items k ≡ Some w → IsThreadAtWork s (table_of c) (ids_of c) s.turns w
  threads_stay k w at = (h.threads k w at).at_work

  pub interface_turned : (i : InterfaceWorker) (number : ℕ) → number < s.turns → IsInterfaceAt s c.node c.places (number + 1) i → SameInterface c.interface i →
      IsCrew s c.node s.turns (record c { interface = i })
  interface_turned i number low at_work same =
      crew_ran s s.turns c c.threads i c.driver h refl threads_stay same_threads
      (at_more s (table_of c) (ids_of c) c.node (number + 1) s.turns i (omega (arith, low)) at_work) same h.driver (driver_itself c.driver)

  pub driver_turned : (d : DriverWorker) (number : ℕ) → number < s.turns → IsDriverAt s c.node c.places (number + 1) d → SameDriver c.driver d →
      IsCrew s c.node s.turns (record c { driver = d })
  driver_turned d number low at_work same =
      crew_ran s s.turns c c.threads c.interface d h refl threads_stay same_threads h.interface (interface_itself c.interface)
      (driver_more s (table_of c) (ids_of c) c.node (number + 1) s.turns d (omega (arith, low)) at_work) same

  pub thread_turned : (at number : ℕ) (v w : ThreadWorker) (ts : Vec ThreadWorker) → slice_get c.threads.items at ≡ Some v → number < s.turns →
      IsThreadAt s c.places (number + 1) w → SameThread v w → ts.items ≡ slice_set c.threads.items at w → IsCrew s c.node s.turns (record c { threads = ts })
  thread_turned at number v w ts here low at_work same_w is =
      crew_ran s s.turns c ts c.interface c.driver h (ap (λ (xs : List ThreadWorker). length xs) is ∙ length-set c.threads.items at w) still same h.interface
      (interface_itself c.interface) h.driver (driver_itself c.driver)
    where
      got : (k : ℕ) (x : ThreadWorker) → slice_get ts.items k ≡ Some x → ((k ≡ at) × (x ≡ w)) ⊎ ((k ≢ at) × (slice_get c.threads.items k ≡ Some x))
      got k x at_x = got_set c.threads.items at k w x (subst (λ (xs : List ThreadWorker). slice_get xs k ≡ Some x) is at_x)

      turned : IsThreadAtWork s (table_of c) (ids_of c) s.turns w
      turned = thread_more s (table_of c) (ids_of c) (number + 1) s.turns w (omega (arith, low)) at_work

      still : (k : ℕ) (x : ThreadWorker) → slice_get ts.items k ≡ Some x → IsThreadAtWork s (table_of c) (ids_of c) s.turns x
      still k x at_x =
          ⊎_elim (λ (e : (k ≡ at) × (x ≡ w)). subst (λ (z : ThreadWorker). IsThreadAtWork s (table_of c) (ids_of c) s.turns z) (sym e.1) turned)
          (λ (e : (k ≢ at) × (slice_get c.threads.items k ≡ Some x)). threads_stay k x e.1) (got k x at_x)

      same : (k : ℕ) (u x : ThreadWorker) → slice_get c.threads.items k ≡ Some u → slice_get ts.items k ≡ Some x → SameThread u x
      same k u x at_u at_x =
          ⊎_elim
          (λ (e : (k ≡ at) × (x ≡ w)).
          let old : v ≡ u = same_got (slice_get c.threads.items at) v u here (subst (λ (n : ℕ). slice_get c.threads.items n ≡ Some u) e.0 at_u) in
          subst (λ (z : ThreadWorker). SameThread u z) (sym e.1) (subst (λ (z : ThreadWorker). SameThread z w) old same_w))
          (λ (e : (k ≢ at) × (slice_get c.threads.items k ≡ Some x)). same_threads k u x at_u e.1) (got k x at_x)

-- ---- the other workers of the crew

thread_stays : (s : ScenarioLists) (at : ℕ) (other : Role) (turns : ℕ) (c d : NodeCrew) (t : ThreadOf at c d) → other ≢ Thread at → IsRoleAt s c other turns →
    IsRoleAt s (record c { threads = t.threads }) other turns
thread_stays s at (Thread k) turns c d t apart h = (
  h.0,
  ap (λ (xs : List ThreadWorker). slice_get xs k) t.others
      ∙ slice_get-set_elsewhere c.threads.items at k t.after (λ (e : k ≡ at). apart (ap Thread e))
      ∙ h.1,
  h.2,
)
thread_stays s at Interface turns c d t apart h = h
thread_stays s at Driver turns c d t apart h = h

interface_stays : (s : ScenarioLists) (other : Role) (turns : ℕ) (c : NodeCrew) (i : InterfaceWorker) → other ≢ Interface → IsRoleAt s c other turns →
    IsRoleAt s (record c { interface = i }) other turns
interface_stays s (Thread k) turns c i apart h = h
interface_stays s Interface turns c i apart h = absurd (apart refl)
interface_stays s Driver turns c i apart h = h

driver_stays : (s : ScenarioLists) (other : Role) (turns : ℕ) (c : NodeCrew) (w : DriverWorker) → other ≢ Driver → IsRoleAt s c other turns →
    IsRoleAt s (record c { driver = w }) other turns
driver_stays s (Thread k) turns c w apart h = h
driver_stays s Interface turns c w apart h = h
driver_stays s Driver turns c w apart h = absurd (apart refl)

-- a worker with another role is as far as it was
role_stays : (s : ScenarioLists) (role other : Role) (turns : ℕ) (c d : NodeCrew) → TurnsInCrew role c d → other ≢ role → IsRoleAt s c other turns →
    IsRoleAt s d other turns
role_stays s (Thread at) other turns c d t apart h =
    subst (λ (z : NodeCrew). IsRoleAt s z other turns) (sym t.crew) (thread_stays s at other turns c d t apart h)
role_stays s Interface other turns c d t apart h =
    subst (λ (z : NodeCrew). IsRoleAt s z other turns) (sym t.crew) (interface_stays s other turns c t.after apart h)
role_stays s Driver other turns c d t apart h =
    subst (λ (z : NodeCrew). IsRoleAt s z other turns) (sym t.crew) (driver_stays s other turns c t.after apart h)

-- ---- all crews

same_worker : (v w : Worker) → v.crew ≡ w.crew → v.role ≡ w.role → v ≡ w
same_worker v w crew role = λ i. record { crew = crew i; role = role i }

-- the worker of a turn that was drawn among the next ones made it
module _ (s : ScenarioLists) (next : List Turn) (cs : List NodeCrew) (at : ℕ) (t : Turn) (c d : NodeCrew) (h : AreInTurn s next cs)
    (drawn : slice_get next at ≡ Some t) (here : slice_get cs t.worker.crew ≡ Some c) (within : IsCrew s c.node s.turns d)
    (at_work : IsRoleAt s d t.worker.role (t.number + 1)) (turned : TurnsInCrew t.worker.role c d) where
  all_crews : AreCrews s s.turns (slice_set cs t.worker.crew d)
  all_crews =
      record {
        all = length-set cs t.worker.crew d ∙ h.crews.all;
        each = λ k x at_x.
            ⊎_elim
            (λ (e : (k ≡ t.worker.crew) × (x ≡ d)).
            let own : c.node ≡ node_at k = (h.crews.each k c (ap (slice_get cs) e.0 ∙ here)).is_node in
            subst (λ (z : NodeCrew). IsCrew s (node_at k) s.turns z) (sym e.1) (subst (λ (n : NodeId). IsCrew s n s.turns d) own within))
            (λ (e : (k ≢ t.worker.crew) × (slice_get cs k ≡ Some x)). h.crews.each k x e.1) (got_set cs t.worker.crew k d x at_x);
      }

  new_here : slice_get (slice_set cs t.worker.crew d) t.worker.crew ≡ Some d
  new_here = here_set cs t.worker.crew c d here

  -- the next turn of another worker stays its next one
  other_next : (k : ℕ) (u : Turn) → slice_get next k ≡ Some u → k ≢ at → IsNext s (slice_set cs t.worker.crew d) u
  other_next k u at_u apart =
      ⊎_elim
      (λ (e : u.worker.crew ≡ t.worker.crew).
      let was : n.crew ≡ c = same_got (slice_get cs t.worker.crew) n.crew c (subst (λ (j : ℕ). slice_get cs j ≡ Some n.crew) e n.here) here in
      record {
        low = n.low;
        crew = d;
        here = subst (λ (j : ℕ). slice_get (slice_set cs t.worker.crew d) j ≡ Some d) (sym e) new_here;
        at_work = role_stays s t.worker.role u.worker.role u.number c d turned
            (λ (f : u.worker.role ≡ t.worker.role). apart (h.apart k at u t at_u drawn (same_worker u.worker t.worker e f)))
            (subst (λ (z : NodeCrew). IsRoleAt s z u.worker.role u.number) was n.at_work);
      })
      (λ (e : u.worker.crew ≢ t.worker.crew). record {
        low = n.low;
        crew = n.crew;
        here = slice_get-set_elsewhere cs t.worker.crew u.worker.crew d e ∙ n.here;
        at_work = n.at_work;
      })
      (same_or_not u.worker.crew t.worker.crew)
    where
      n : IsNext s cs u
      n = h.each k u at_u

  abbrev following : Turn
  following = record t { number = t.number + 1 }

  goes_on : t.number + 1 < s.turns → AreInTurn s (slice_set next at following) (slice_set cs t.worker.crew d)
  goes_on low = record { crews = all_crews; each = each; apart = apart }
    where
      each : (k : ℕ) (u : Turn) → slice_get (slice_set next at following) k ≡ Some u → IsNext s (slice_set cs t.worker.crew d) u
      each k u at_u =
          ⊎_elim
          (λ (e : (k ≡ at) × (u ≡ following)). subst (λ (z : Turn). IsNext s (slice_set cs t.worker.crew d) z) (sym e.1) (record {
            low = λ some. low;
            crew = d;
            here = new_here;
            at_work = at_work;
          }))
          (λ (e : (k ≢ at) × (slice_get next k ≡ Some u)). other_next k u e.1 e.0) (got_set next at k following u at_u)

      -- the worker of the turn at a place is the one that stood there
      stood : (k : ℕ) (u : Turn) → slice_get (slice_set next at following) k ≡ Some u → (v : Turn) × (slice_get next k ≡ Some v) × (v.worker ≡ u.worker)
      stood k u at_u =
          ⊎_elim (λ (e : (k ≡ at) × (u ≡ following)). (t, ap (slice_get next) e.0 ∙ drawn, ap (λ (z : Turn). z.worker) (sym e.1)))
          (λ (e : (k ≢ at) × (slice_get next k ≡ Some u)). (u, e.1, refl)) (got_set next at k following u at_u)

      apart : (j k : ℕ) (a b : Turn) → slice_get (slice_set next at following) j ≡ Some a → slice_get (slice_set next at following) k ≡ Some b →
          a.worker ≡ b.worker → j ≡ k
      apart j k a b at_a at_b e =
          let was_a = stood j a at_a in let was_b = stood k b at_b in
          h.apart j k was_a.0 was_b.0 was_a.1 was_b.1 (was_a.2 ∙ e ∙ sym was_b.2)

  ends_here : AreInTurn s (remove next at) (slice_set cs t.worker.crew d)
  ends_here = record {
    crews = all_crews;
    each = λ k u at_u. let g = got_removed next at k u at_u in other_next g.0 u g.1 g.2;
    apart = λ j k a b at_a at_b e.
        let f = got_removed next at j a at_a in let g = got_removed next at k b at_b in
        place_from at j k f.0 g.0 f.3 g.3 (h.apart f.0 g.0 a b f.1 g.1 e);
  }

  turned_by : (b : Bool) → nat_lt (t.number + 1) s.turns ≡ b →
      AreInTurn s (if b then slice_set next at following else remove next at) (slice_set cs t.worker.crew d)
  turned_by true is = goes_on (grind (arith, common_steps, is))
  turned_by false is = ends_here

  pub turn_taken : AreInTurn s (behind s.turns next at t) (slice_set cs t.worker.crew d)
  unfolding behind
  turn_taken = turned_by (nat_lt (t.number + 1) s.turns) refl

-- a crew with its node is one of the scenario's
pub node_declared : (s : ScenarioLists) (cs : List NodeCrew) (k : ℕ) (c : NodeCrew) → AreCrews s s.turns cs → slice_get cs k ≡ Some c → c.node.0 < s.nodes
node_declared s cs k c h at =
    subst (λ (n : NodeId). n.0 < s.nodes) (sym (h.each k c at).is_node) (let low = slice_get_within cs k c at in let all : length cs ≡ s.nodes = h.all in
    omega (arith, low, all))

pub links_turned : (cs : List NodeCrew) (at : ℕ) (c d : NodeCrew) → slice_get cs at ≡ Some c → SameCrew c d → AreLinked cs → AreLinked (slice_set cs at d)
links_turned cs at c d here same h = still_linked cs (slice_set cs at d) (length-set cs at d) each h
  where
    each : (k : ℕ) (x y : NodeCrew) → slice_get cs k ≡ Some x → slice_get (slice_set cs at d) k ≡ Some y → SameCrew x y
    each k x y at_x at_y =
        ⊎_elim
        (λ (e : (k ≡ at) × (y ≡ d)).
        let old : c ≡ x = same_got (slice_get cs k) c x (ap (slice_get cs) e.0 ∙ here) at_x in
        subst (λ (z : NodeCrew). SameCrew x z) (sym e.1) (subst (λ (z : NodeCrew). SameCrew z d) old same))
        (λ (e : (k ≢ at) × (slice_get cs k ≡ Some y)). subst (λ (z : NodeCrew). SameCrew x z) (same_got (slice_get cs k) x y at_x e.1) (crew_itself x))
        (got_set cs at k d y at_y)
