-- The first turns of a scenario's workers, and turns that are drawn one after the other.
use Rattle.std.specs.Prelude.{slice_get}
use Rattle.std.proofs.Common.{◌≡◌, ◌⊎◌, inl, inr, ⊎_elim, ℕ, zero, suc, ◌+◌, ◌-◌, ◌*◌, ◌<◌, ◌≤◌, List, [], ◌∷◌, ◌++◌, length, Option, Some, None, IfSome, refl, sym, ap, ◌∙◌, subst, arith, add-one, append_assoc, append-nil}
use Rattle.std.proofs.lemmas.List.{length-append, length-map}
use Rattle.std.proofs.lemmas.Option.{slice_get_within}
use Rattle.am_lemmas.proofs.Lists.{slice_get-Some, slice_get-push_cases}
use Rattle.am_names.specs.declared.NodeId.{NodeId}
use Rattle.am_model.specs.Layout.{node_at}
use Rattle.am_cluster_opening.specs.Crews.{AreCrews, IsCrew, ids_of, table_of}
use Rattle.am_cluster_opening.specs.Node.Openings.{threads_of}
use Rattle.am_cluster_opening.specs.declared.crew.NodeCrew.{NodeCrew}
use Rattle.am_cluster_opening.proofs.Fresh.{few_threads}
use Rattle.rand_pcg.specs.Lcg.{Lcg}
use Rattle.rand_pcg.specs.Pcg.{pcg32}
use Rattle.am_scenario_generator.specs.Words.{seeded}
use Rattle.am_scenario_types.specs.Lawful.{IsLawful}
use Rattle.am_scenario_types.specs.Lists.{ScenarioLists}
use Rattle.am_workers.specs.AtWork.{IsDriverAtWork, IsInterfaceAtWork}
use Rattle.am_workers.specs.declared.workers.ThreadWorker.{ThreadWorker}
use Rattle.am_cluster_schedule.proofs.InTurn.{crew_more, driver_more, thread_more}
use Rattle.am_cluster_schedule.proofs.Linked.{at_more, same_got}
use Rattle.am_cluster_schedule.specs.InTurn.{AreInTurn, IsNext, IsRoleAt}
use Rattle.am_cluster_schedule.specs.Order.{Schedule, behind, crew_turns, drawn_place, first_of, first_turns, one_more, scheduled, taking, threads_below, turns_below}
use Rattle.am_cluster_schedule.specs.Schedules.{TakesTurn, TakesTurns}
use Rattle.am_cluster_schedule.specs.declared.order.Role.{Role}
use Rattle.am_cluster_schedule.specs.declared.order.Role.TheVariants.{Thread, Interface, Driver}
use Rattle.am_cluster_schedule.specs.declared.order.Turn.{Turn}
use Rattle.am_cluster_schedule.specs.declared.order.Worker.{Worker}

-- ---- one more

pub threads_none : (crew : ℕ) (old : List Turn) → old ≡ old ++ threads_below crew 0
unfolding threads_below
threads_none crew old = sym (append-nil old)

pub threads_more : (crew at : ℕ) (old now new : List Turn) → now ≡ old ++ threads_below crew at → new ≡ now ++ first_of crew (Thread at) ∷ [] →
    new ≡ old ++ threads_below crew (at + 1)
unfolding threads_below
threads_more crew at old now new is pushed = rw add-one (pushed ∙ ap (λ (xs : List Turn). xs ++ first_of crew (Thread at) ∷ []) is
    ∙ append_assoc old (threads_below crew at) (first_of crew (Thread at) ∷ []))

pub crew_pushed : (crew threads : ℕ) (old a b c : List Turn) → a ≡ old ++ threads_below crew threads → b ≡ a ++ first_of crew Interface ∷ [] →
    c ≡ b ++ first_of crew Driver ∷ [] → c ≡ old ++ crew_turns crew threads
crew_pushed crew threads old a b c is_a is_b is_c =
    is_c
    ∙ ap (λ (xs : List Turn). xs ++ first_of crew Driver ∷ []) is_b
    ∙ append_assoc a (first_of crew Interface ∷ []) (first_of crew Driver ∷ [])
    ∙ ap (λ (xs : List Turn). xs ++ first_of crew Interface ∷ first_of crew Driver ∷ []) is_a
    ∙ append_assoc old (threads_below crew threads) (first_of crew Interface ∷ first_of crew Driver ∷ [])

pub turns_none : (s : ScenarioLists) → [] ≡ turns_below s 0
unfolding turns_below
turns_none s = refl

-- a crew of the scenario has a worker for each of its node's threads
crew_threads : (s : ScenarioLists) (k : ℕ) (c : NodeCrew) → IsCrew s (node_at k) 0 c → length c.threads.items ≡ length (threads_of s (node_at k))
crew_threads s k c h = sym (length-map c.threads.items (λ (w : ThreadWorker). w.thread)) ∙ ap (λ (ns : List ℕ). length ns) h.named

pub turns_more : (s : ScenarioLists) (cs : List NodeCrew) (k : ℕ) (c : NodeCrew) (now new : List Turn) → AreCrews s 0 cs → slice_get cs k ≡ Some c →
    now ≡ turns_below s k → new ≡ now ++ crew_turns k (length c.threads.items) → new ≡ turns_below s (k + 1)
unfolding turns_below
turns_more s cs k c now new h at is pushed =
    rw add-one (pushed ∙ ap (λ (xs : List Turn). xs ++ crew_turns k (length c.threads.items)) is
    ∙ ap (λ (n : ℕ). turns_below s k ++ crew_turns k n) (crew_threads s k c (h.each k c at)))

-- ---- they are few

threads_all : (crew k : ℕ) → length (threads_below crew k) ≡ k
unfolding threads_below
threads_all crew zero = refl
threads_all crew (suc k) = let rest = threads_all crew k in length-append (threads_below crew k) (first_of crew (Thread k) ∷ []) ∙ omega (arith, rest)

crew_all : (crew k : ℕ) → length (crew_turns crew k) ≡ k + 2
crew_all crew k =
    length-append (threads_below crew k) (first_of crew Interface ∷ first_of crew Driver ∷ []) ∙ ap (λ (n : ℕ). n + 2) (threads_all crew k)

few_below : (s : ScenarioLists) (n : ℕ) → IsLawful s → length (turns_below s n) ≤ 6 * n
unfolding turns_below
few_below s zero lawful = omega arith
few_below s (suc n) lawful =
    let rest = few_below s n lawful in
    let few = few_threads s (node_at n) lawful in
    let own = crew_all n (length (threads_of s (node_at n))) in
    let all = length-append (turns_below s n) (crew_turns n (length (threads_of s (node_at n)))) in
    omega (arith, rest, few, own, all)

pub few_turns : (s : ScenarioLists) → IsLawful s → length (first_turns s) ≤ 96
few_turns s lawful = let few = few_below s s.nodes lawful in let nodes = lawful.settings.nodes.1 in omega (arith, few, nodes)

-- ---- each is of another worker, and of one that there is

append_cases : {X : Type 0} (xs ys : List X) (k : ℕ) (x : X) → slice_get (xs ++ ys) k ≡ Some x →
    (slice_get xs k ≡ Some x) ⊎ ((j : ℕ) × (k ≡ length xs + j) × (slice_get ys j ≡ Some x))
append_cases [] ys k x h = inr (k, omega arith, h)
append_cases (z ∷ xs) ys zero x h = inl h
append_cases {X = X} (z ∷ xs) ys (suc k) x h =
    ⊎_elim (λ (here : slice_get xs k ≡ Some x). inl here)
    (λ (there : (j : ℕ) × (k ≡ length xs + j) × (slice_get ys j ≡ Some x)). inr (there.0, (let is = there.1 in omega (arith, is)), there.2))
    (append_cases xs ys k x h)

-- the place of a role in its crew
abbrev role_place : ℕ → Role → ℕ
role_place threads (Thread at) = at
role_place threads Interface = threads
role_place threads Driver = threads + 1

-- a role that a crew with so many threads has
abbrev HasRole : ℕ → Role → Type 0
HasRole threads (Thread at) = at < threads
HasRole threads Interface = Unit {0}
HasRole threads Driver = Unit {0}

-- the first turn that stands at this place of a crew's
record IsFirst (crew threads k : ℕ) (t : Turn) : Type 0 where
  worker' : t.worker.crew ≡ crew
  pub number' : t.number ≡ 0
  place' : k ≡ role_place threads t.worker.role
  has : HasRole threads t.worker.role

first_thread : (crew count : ℕ) (k : ℕ) (t : Turn) → slice_get (threads_below crew count) k ≡ Some t → (k < count) × (t ≡ first_of crew (Thread k))
unfolding threads_below
first_thread crew zero k t at = absurd (cc)
first_thread crew (suc count) k t at =
    ⊎_elim (λ (old : slice_get (threads_below crew count) k ≡ Some t).
    let f = first_thread crew count k t old in let low = f.0 in (omega (arith, low), f.1))
    (λ (new : (k ≡ length (threads_below crew count)) × (t ≡ first_of crew (Thread count))).
    let is : k ≡ count = new.0 ∙ threads_all crew count in (omega (arith, is), new.1 ∙ ap (λ (n : ℕ). first_of crew (Thread n)) (sym is)))
    (slice_get-push_cases (threads_below crew count) (first_of crew (Thread count)) k t at)

first_here : (crew threads k : ℕ) (t u : Turn) → t ≡ u → IsFirst crew threads k u → IsFirst crew threads k t
first_here crew threads k t u e h = subst (λ (z : Turn). IsFirst crew threads k z) (sym e) h

first_both : (crew threads j k : ℕ) (t : Turn) → k ≡ threads + j → slice_get (first_of crew Interface ∷ first_of crew Driver ∷ []) j ≡ Some t →
    IsFirst crew threads k t
first_both crew threads zero k t is at =
    let e : first_of crew Interface ≡ t = cc in first_here crew threads k t (first_of crew Interface) (sym e) (record {
      worker' = refl;
      number' = refl;
      place' = omega (arith, is);
      has = tt;
    })
first_both crew threads (suc zero) k t is at =
    let e : first_of crew Driver ≡ t = cc in first_here crew threads k t (first_of crew Driver) (sym e) (record {
      worker' = refl;
      number' = refl;
      place' = omega (arith, is);
      has = tt;
    })
first_both crew threads (suc (suc j)) k t is at = absurd (cc)

crew_first : (crew threads k : ℕ) (t : Turn) → slice_get (crew_turns crew threads) k ≡ Some t → IsFirst crew threads k t
crew_first crew threads k t at =
    ⊎_elim (λ (old : slice_get (threads_below crew threads) k ≡ Some t).
    let f = first_thread crew threads k t old in first_here crew threads k t (first_of crew (Thread k)) f.1 (record {
      worker' = refl;
      number' = refl;
      place' = refl;
      has = f.0;
    }))
    (λ (new : (j : ℕ) × (k ≡ length (threads_below crew threads) + j) × (slice_get (first_of crew Interface ∷ first_of crew Driver ∷ []) j ≡ Some t)).
    let all = threads_all crew threads in let is = new.1 in first_both crew threads new.0 k t (omega (arith, all, is)) new.2)
    (append_cases (threads_below crew threads) (first_of crew Interface ∷ first_of crew Driver ∷ []) k t at)

-- the first turn that stands at this place of all
pub record IsFirstOf (s : ScenarioLists) (nodes k : ℕ) (t : Turn) : Type 0 where
  low : t.worker.crew < nodes
  pub number' : t.number ≡ 0
  place' : k ≡ length (turns_below s t.worker.crew) + role_place (length (threads_of s (node_at t.worker.crew))) t.worker.role
  has : HasRole (length (threads_of s (node_at t.worker.crew))) t.worker.role

pub first_at : (s : ScenarioLists) (nodes k : ℕ) (t : Turn) → slice_get (turns_below s nodes) k ≡ Some t → IsFirstOf s nodes k t
unfolding turns_below
first_at s zero k t at = absurd (cc)
first_at s (suc n) k t at =
    ⊎_elim (λ (old : slice_get (turns_below s n) k ≡ Some t).
    let f = first_at s n k t old in let low = f.low in record { low = omega (arith, low); number' = f.number'; place' = f.place'; has = f.has })
    (λ (new : (j : ℕ) × (k ≡ length (turns_below s n) + j) × (slice_get (crew_turns n (length (threads_of s (node_at n)))) j ≡ Some t)).
    let f = crew_first n (length (threads_of s (node_at n))) new.0 t new.2 in
    let is = f.worker' in
    record {
      low = omega (arith, is);
      number' = f.number';
      place' = subst (λ (c : ℕ). k ≡ length (turns_below s c) + role_place (length (threads_of s (node_at c))) t.worker.role) (sym is)
          (new.1 ∙ ap (λ (j : ℕ). length (turns_below s n) + j) f.place');
      has = subst (λ (c : ℕ). HasRole (length (threads_of s (node_at c))) t.worker.role) (sym is) f.has;
    })
    (append_cases (turns_below s n) (crew_turns n (length (threads_of s (node_at n)))) k t at)

-- where a worker's first turn stands
abbrev stands : ScenarioLists → Worker → ℕ
stands s w = length (turns_below s w.crew) + role_place (length (threads_of s (node_at w.crew))) w.role

role_begins : (s : ScenarioLists) (k : ℕ) (c : NodeCrew) (role : Role) (turns : ℕ) → IsCrew s (node_at k) 0 c →
    HasRole (length (threads_of s (node_at k))) role → IsRoleAt s c role turns
role_begins s k c (Thread at) turns h has =
    let all = crew_threads s k c h in
    let there = slice_get-Some c.threads.items at (omega (arith, has, all)) in
    (there.0, there.1, thread_more s (table_of c) (ids_of c) 0 turns there.0 (omega arith) (h.threads at there.0 there.1).at_work)
role_begins s k c Interface turns h has =
    subst (λ (n : NodeId). IsInterfaceAtWork s (table_of c) (ids_of c) n turns c.interface) (sym h.is_node)
    (at_more s (table_of c) (ids_of c) (node_at k) 0 turns c.interface (omega arith) h.interface)
role_begins s k c Driver turns h has =
    subst (λ (n : NodeId). IsDriverAtWork s (table_of c) (ids_of c) n turns c.driver) (sym h.is_node)
    (driver_more s (table_of c) (ids_of c) (node_at k) 0 turns c.driver (omega arith) h.driver)

-- before any turn
pub turns_begin : (s : ScenarioLists) (cs : List NodeCrew) → AreCrews s 0 cs → AreInTurn s (first_turns s) cs
turns_begin s cs h =
    record {
      crews = record {
        all = h.all;
        each = λ k c at.
            let own = (h.each k c at).is_node in
            subst (λ (n : NodeId). IsCrew s n s.turns c) own
            (crew_more s c.node 0 s.turns c (omega arith) (subst (λ (n : NodeId). IsCrew s n 0 c) (sym own) (h.each k c at)));
      };
      each = begin;
      apart = λ j k t u at_t at_u e. (first_at s s.nodes j t at_t).place' ∙ ap (stands s) e ∙ sym (first_at s s.nodes k u at_u).place';
    }
  where
    begin : (k : ℕ) (t : Turn) → slice_get (first_turns s) k ≡ Some t → IsNext s cs t
    begin k t at =
        let f = first_at s s.nodes k t at in
        let low = f.low in
        let all : length cs ≡ s.nodes = h.all in
        let c = slice_get-Some cs t.worker.crew (omega (arith, low, all)) in
        let none = f.number' in
        record {
          low = λ some. omega (arith, some, none);
          crew = c.0;
          here = c.1;
          at_work = role_begins s t.worker.crew c.0 t.worker.role t.number (h.each t.worker.crew c.0 c.1) f.has;
        }

-- ---- turns one after the other

pub scheduled_none : (s : ScenarioLists) (seed : ℕ) → scheduled s seed 0 ≡ record { generator = seeded seed; next = first_turns s; taken = [] }
unfolding scheduled
scheduled_none s seed = refl

pub scheduled_more : (s : ScenarioLists) (seed n : ℕ) → scheduled s seed (n + 1) ≡ one_more s.turns (scheduled s seed n)
unfolding scheduled
scheduled_more s seed n = rw add-one refl

-- where none is left it stays so
stays : (turns : ℕ) (d : Schedule) → slice_get d.next (drawn_place d.generator d.next) ≡ None → one_more turns d ≡ d
stays turns d none = ap (λ (o : Option Turn). taking turns d o) none

zero_more : (n : ℕ) → 0 + n ≡ n
zero_more n = omega arith

suc_more : (more n : ℕ) → suc more + n ≡ suc (more + n)
suc_more more n = omega arith

ended_on : (s : ScenarioLists) (seed n more : ℕ) →
    slice_get (scheduled s seed n).next (drawn_place (scheduled s seed n).generator (scheduled s seed n).next) ≡ None →
    scheduled s seed (more + n) ≡ scheduled s seed n
unfolding scheduled
ended_on s seed n zero none = ap (λ (k : ℕ). scheduled s seed k) (zero_more n)
ended_on s seed n (suc more) none =
    ap (λ (k : ℕ). scheduled s seed k) (suc_more more n) ∙ ap (λ (d : Schedule). one_more s.turns d) (ended_on s seed n more none)
    ∙ stays s.turns (scheduled s seed n) none

pub ended : (s : ScenarioLists) (seed n last : ℕ) → n ≤ last →
    slice_get (scheduled s seed n).next (drawn_place (scheduled s seed n).generator (scheduled s seed n).next) ≡ None →
    scheduled s seed last ≡ scheduled s seed n
ended s seed n last low none =
    let more : (last - n) + n ≡ last = omega (arith, low) in ap (λ (k : ℕ). scheduled s seed k) (sym more) ∙ ended_on s seed n (last - n) none

pub takes_none : (cs : List NodeCrew) → TakesTurns [] cs cs
takes_none cs = refl

pub takes_more : (ws : List Worker) (w : Worker) (cs ds es : List NodeCrew) → TakesTurns ws cs ds → TakesTurn w ds es → TakesTurns (ws ++ w ∷ []) cs es
takes_more [] w cs ds es same turn = (es, subst (λ (z : List NodeCrew). TakesTurn w z es) same turn, refl)
takes_more (v ∷ ws) w cs ds es h turn = (h.0, h.1, takes_more ws w h.0 ds es h.2 turn)

-- a turn is drawn only where each worker has some
pub some_turns : (n a b : ℕ) → n < a * b → 0 < b
some_turns n a zero low = let none : a * 0 ≡ 0 = omega arith in absurd (omega (arith, low, none))
some_turns n a (suc b) low = omega arith

pub some_of : {X : Type 0} (P : X → Type 0) (o : Option X) (x : X) → o ≡ Some x → IfSome o P → P x
some_of {X = X} P o x e h = subst (λ (z : Option X). IfSome z P) e h

-- ---- the turn that was drawn

module _ (s : ScenarioLists) (seed n : ℕ) (g : Lcg) (next : List Turn) (turn : Turn) (is_g : g ≡ (scheduled s seed n).generator)
    (is_next : next ≡ (scheduled s seed n).next) (drawn : slice_get next (drawn_place g next) ≡ Some turn) where
  drawn_there : slice_get (scheduled s seed n).next (drawn_place (scheduled s seed n).generator (scheduled s seed n).next) ≡ Some turn
  drawn_there = (λ i. slice_get (sym is_next i) (drawn_place (sym is_g i) (sym is_next i))) ∙ drawn

  pub one_taken : scheduled s seed (n + 1)
      ≡ record { generator = (pcg32 g).1; next = behind s.turns next (drawn_place g next) turn; taken = (scheduled s seed n).taken ++ turn.worker ∷ [] }
  one_taken =
      scheduled_more s seed n
      ∙ ap (λ (o : Option Turn). taking s.turns (scheduled s seed n) o) drawn_there
      ∙ (λ i. record {
        generator = (pcg32 (sym is_g i)).1;
        next = behind s.turns (sym is_next i) (drawn_place (sym is_g i) (sym is_next i)) turn;
        taken = (scheduled s seed n).taken ++ turn.worker ∷ [];
      })

-- none was drawn: the schedule has ended
pub ended_here : (s : ScenarioLists) (seed n last : ℕ) (g : Lcg) (next : List Turn) → g ≡ (scheduled s seed n).generator → next ≡ (scheduled s seed n).next →
    n ≤ last → slice_get next (drawn_place g next) ≡ None → scheduled s seed last ≡ scheduled s seed n
ended_here s seed n last g next is_g is_next low none =
    ended s seed n last low ((λ i. slice_get (sym is_next i) (drawn_place (sym is_g i) (sym is_next i))) ∙ none)

-- its crew is one of these
pub crew_there : (s : ScenarioLists) (next : List Turn) (cs : List NodeCrew) (at : ℕ) (turn : Turn) → AreInTurn s next cs → slice_get next at ≡ Some turn →
    turn.worker.crew < length cs
crew_there s next cs at turn h drawn = let n = h.each at turn drawn in slice_get_within cs turn.worker.crew n.crew n.here

-- the worker whose turn was drawn is one of its crew, and is as far as the turn says
module _ (s : ScenarioLists) (next : List Turn) (cs : List NodeCrew) (at : ℕ) (turn : Turn) (c : NodeCrew) (h : AreInTurn s next cs)
    (drawn : slice_get next at ≡ Some turn) (here : slice_get cs turn.worker.crew ≡ Some c) where
  pub drawn_within : IsCrew s c.node s.turns c
  drawn_within =
      let own = h.crews.each turn.worker.crew c here in subst (λ (n : NodeId). IsCrew s n s.turns c) (sym own.is_node) own

  pub drawn_at_work : IsRoleAt s c turn.worker.role turn.number
  drawn_at_work =
      let n = h.each at turn drawn in
      subst (λ (z : NodeCrew). IsRoleAt s z turn.worker.role turn.number) (same_got (slice_get cs turn.worker.crew) n.crew c n.here here) n.at_work

  pub drawn_low : 0 < s.turns → turn.number < s.turns
  drawn_low some = (h.each at turn drawn).low some
