-- The crews of all nodes after their workers' turns.
use Rattle.std.specs.Prelude.{slice_get}
use Rattle.std.specs.Global.{Vec}
use Rattle.std.proofs.Common.{◌≡◌, ℕ, zero, suc, ◌+◌, ◌*◌, ◌≤◌, List, [], ◌∷◌, map, length, Option, None, Some, refl, sym, ap, ◌∙◌, subst, arith}
use Rattle.std.proofs.lemmas.List.{length-map}
use Rattle.std.proofs.lemmas.Option.{slice_get_within}
use Rattle.am_lemmas.proofs.Lists.{slice_get-Some}
use Rattle.am_names.specs.declared.NodeId.{NodeId}
use Rattle.am_model.specs.Layout.{node_at}
use Rattle.am_scenario_types.specs.Lawful as lawful
use Rattle.am_scenario_types.specs.Lists.{ScenarioLists}
use Rattle.am_endpoint_body.specs.declared.settings.EndSettings.{EndSettings}
use Rattle.am_workers_laws.specs.Invariants.Seats.{EndPass, SameSeat}
use Rattle.am_wire.specs.Links.{IsLink, SameEnd, SameLink}
use Rattle.am_wire.specs.declared.receiving.LinkIn.{LinkIn}
use Rattle.am_wire.specs.declared.sending.LinkOut.{LinkOut}
use Rattle.am_workers.specs.AtWork.{IsDriverAtWork, IsInterfaceAtWork, IsThreadAtWork}
use Rattle.am_workers.specs.declared.workers.ThreadWorker.{ThreadWorker}
use Rattle.am_workers.specs.declared.workers.InterfaceWorker.{InterfaceWorker}
use Rattle.am_workers.specs.declared.workers.DriverWorker.{DriverWorker}
use Rattle.am_cluster_opening.specs.Crews.{AreCrews, AreLinked, AreNumbered, IsCrew, IsSeatOf, ids_of, seats_of, table_of}
use Rattle.am_cluster_opening.specs.declared.crew.NodeCrew.{NodeCrew}
use Rattle.am_cluster_running.specs.Running.{SameCrew, SameDriver, SameInterface, SameThread}
use Rattle.am_cluster_opening.proofs.Fresh.{few_threads}

-- ---- a crew

same_names : (vs ws : List ThreadWorker) → length ws ≡ length vs → ((k : ℕ) (v w : ThreadWorker) → slice_get vs k ≡ Some v → slice_get ws k ≡ Some w →
    SameThread v w) → map (λ (w : ThreadWorker). w.thread) ws ≡ map (λ (w : ThreadWorker). w.thread) vs
same_names [] [] e h = refl
same_names [] (w ∷ ws) e h = absurd (omega (arith, e))
same_names (v ∷ vs) [] e h = absurd (omega (arith, e))
same_names (v ∷ vs) (w ∷ ws) e h =
    (λ i. (h 0 v w refl refl).thread i ∷ map (λ (u : ThreadWorker). u.thread) ws)
    ∙ ap (λ (ns : List ℕ). v.thread ∷ ns) (same_names vs ws (omega (arith, e)) (λ k a b at_a at_b. h (suc k) a b at_a at_b))

same_seat : (births : List EndSettings) (seats seats' mark : ℕ) (v w : EndPass) → SameSeat v w → seats' ≡ seats → IsSeatOf births seats mark v →
    IsSeatOf births seats' mark w
same_seat births seats seats' mark v w same e h = record {
  is_mark = same.mark ∙ h.is_mark;
  of_seats = same.seats ∙ h.of_seats ∙ sym e;
  told = same.births
      ∙ h.told;
}

-- the crew with these workers in place of its own
abbrev pub with_workers : NodeCrew → Vec ThreadWorker → InterfaceWorker → DriverWorker → NodeCrew
with_workers c ts i w = record c { threads = ts; interface = i; driver = w }

pub crew_ran : (s : ScenarioLists) (before : ℕ) (c : NodeCrew) (ts : Vec ThreadWorker) (i : InterfaceWorker) (w : DriverWorker) → IsCrew s c.node before c →
    length ts.items ≡ length c.threads.items → ((k : ℕ) (t : ThreadWorker) → slice_get ts.items k ≡ Some t →
    IsThreadAtWork s (table_of c) (ids_of c) s.turns t) → ((k : ℕ) (v t : ThreadWorker) → slice_get c.threads.items k ≡ Some v → slice_get ts.items k ≡ Some t →
    SameThread v t) → IsInterfaceAtWork s (table_of c) (ids_of c) c.node s.turns i → SameInterface c.interface i →
    IsDriverAtWork s (table_of c) (ids_of c) c.node s.turns w → SameDriver c.driver w → IsCrew s c.node s.turns (with_workers c ts i w)
crew_ran s before c ts i w h long threads same interface same_i driver same_d =
    let seats : length ts.items + 2 ≡ length c.threads.items + 2 = ap (λ (n : ℕ). n + 2) long in
    record {
      is_node = h.is_node;
      ids = h.ids;
      frames = h.frames;
      births = h.births;
      declared = h.declared;
      named = same_names c.threads.items ts.items long same ∙ h.named;
      threads = λ k t at.
          let v = slice_get-Some c.threads.items k (let low = slice_get_within ts.items k t at in omega (arith, low, long)) in
          record {
            at_work = threads k t at;
            seat = same_seat h.births (seats_of c) (length ts.items + 2) (k + 1) v.0.seat.token.me.0 t.seat.token.me.0
                (same k v.0 t v.1 at).seat seats (h.threads k v.0 v.1).seat;
          };
      interface = interface;
      interface_seat =
          subst (λ (n : ℕ). IsSeatOf h.births (length ts.items + 2) (n + 1) i.seat.token.me.0) (sym long)
          (same_seat h.births (seats_of c) (length ts.items + 2) (length c.threads.items + 1) c.interface.seat.token.me.0 i.seat.token.me.0 same_i.seat seats
          h.interface_seat);
      driver = driver;
      driver_seat =
          subst (λ (n : ℕ). IsSeatOf h.births (length ts.items + 2) n w.seat.token.me.0) (sym seats)
          (same_seat h.births (seats_of c) (length ts.items + 2) (seats_of c) c.driver.seat.token.me.0 w.seat.token.me.0 same_d.seat seats h.driver_seat);
    }

-- ---- the crews of all nodes

-- a crew has no more threads than a node may have
pub few_workers : (s : ScenarioLists) (node : NodeId) (turns : ℕ) (c : NodeCrew) → lawful.IsLawful s → IsCrew s node turns c → length c.threads.items ≤ 4
few_workers s node turns c ok h =
    let named = ap (λ (ns : List ℕ). length ns) h.named in
    let mapped = length-map c.threads.items (λ (w : ThreadWorker). w.thread) in
    let few = few_threads s node ok in
    omega (arith, named, mapped, few)

pub few_in_each : (s : ScenarioLists) (turns : ℕ) (crews : List NodeCrew) → lawful.IsLawful s → AreCrews s turns crews → (k : ℕ) (c : NodeCrew) →
    slice_get crews k ≡ Some c → length c.threads.items ≤ 4
few_in_each s turns crews ok h k c at = few_workers s (node_at k) turns c ok (h.each k c at)

-- the first number of a crew that was read
abbrev first_in : Option NodeCrew → ℕ
first_in None = 0
first_in (Some c) = c.first

-- each first number is small, where no crew has more than four threads
pub numbers_are_small : (first : ℕ) (crews : List NodeCrew) → AreNumbered first crews → ((k : ℕ) (c : NodeCrew) → slice_get crews k ≡ Some c →
    length c.threads.items ≤ 4) → (k : ℕ) (c : NodeCrew) → slice_get crews k ≡ Some c → c.first ≤ first + 6 * k
numbers_are_small first [] h few k c at = absurd (cc)
numbers_are_small first (d ∷ ds) h few zero c at =
    let same : d.first ≡ c.first = ap first_in at in
    let e = h.0 in
    omega (arith, same, e)
numbers_are_small first (d ∷ ds) h few (suc k) c at =
    let more : c.first ≤ first + seats_of d + 6 * k = numbers_are_small (first + seats_of d) ds h.1 (λ j x e. few (suc j) x e) k c at in
    let four = few 0 d refl in
    omega (arith, more, four)

same_links : (p o : LinkOut) (q i : LinkIn) → SameLink p o → SameEnd q i → IsLink p q → IsLink o i
same_links p o q i a b h = (
  b.0.0 ∙ h.0 ∙ sym a.ring.0.0,
  b.0.1 ∙ h.1 ∙ sym a.ring.0.1,
  b.0.2 ∙ h.2 ∙ sym a.ring.0.2,
  b.0.3 ∙ h.3 ∙ sym a.ring.0.3,
)

-- the links' ends still belong together
pub still_linked : (cs ds : List NodeCrew) → length ds ≡ length cs → ((k : ℕ) (c d : NodeCrew) → slice_get cs k ≡ Some c → slice_get ds k ≡ Some d →
    SameCrew c d) → AreLinked cs → AreLinked ds
still_linked cs ds long same h from to a b o i at_a at_b at_o at_i =
    let c = slice_get-Some cs from (let low = slice_get_within ds from a at_a in omega (arith, low, long)) in
    let d = slice_get-Some cs to (let low = slice_get_within ds to b at_b in omega (arith, low, long)) in
    let out = same from c.0 a c.1 at_a in
    let inn = same to d.0 b d.1 at_b in
    let p = slice_get-Some c.0.interface.outs.items to (let low = slice_get_within a.interface.outs.items to o at_o in let n = out.outs.all in
    omega (arith, low, n)) in
    let q = slice_get-Some d.0.interface.ins.items from (let low = slice_get_within b.interface.ins.items from i at_i in let n = inn.ins.all in
    omega (arith, low, n)) in
    same_links p.0 o q.0 i (out.outs.each to p.0 o p.1 at_o) (inn.ins.each from q.0 i q.1 at_i) (h from to c.0 d.0 p.0 q.0 c.1 d.1 p.1 q.1)

pub crews_ran : (s : ScenarioLists) (cs ds : List NodeCrew) → length ds ≡ length cs → ((k : ℕ) (c d : NodeCrew) → slice_get cs k ≡ Some c →
    slice_get ds k ≡ Some d → IsCrew s c.node s.turns d) → AreCrews s 0 cs → AreCrews s s.turns ds
crews_ran s cs ds long ran h =
    record {
      all = long ∙ h.all;
      each = λ k d at.
          let c = slice_get-Some cs k (let low = slice_get_within ds k d at in omega (arith, low, long)) in
          subst (λ (n : NodeId). IsCrew s n s.turns d) (h.each k c.0 c.1).is_node (ran k c.0 d c.1 at);
    }
