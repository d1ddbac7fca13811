-- The workers of all nodes end a run, and what their nodes have can be united.
use Rattle.std.specs.Prelude.{slice_get}
use Rattle.std.specs.List.{filter}
use Rattle.std.proofs.Common.{◌≡◌, ◌⊎◌, inl, inr, ⊎_elim, ℕ, ◌<◌, ◌≤◌, List, [], ◌∷◌, map, length, Option, Some, None, refl, sym, ap, ◌∙◌, subst, arith}
use Rattle.std.proofs.Common.{Contains}
use Rattle.std.proofs.lemmas.Option.{slice_get_within}
use Rattle.am_lemmas.proofs.Lists.{slice_get-Some}
use Rattle.am_places.proofs.Ends.{rejoined}
use Rattle.am_names.specs.declared.NodeId.{NodeId}
use Rattle.am_office_entries.specs.declared.Entry.{Entry}
use Rattle.am_machine_journal.proofs.Standing.{behind}
use Rattle.am_model.specs.Layout.{AllAre, node_at}
use Rattle.am_model.proofs.Alls.{all_push}
use Rattle.am_model_parts.specs.Together.{ends_of}
use Rattle.am_machine_journal.specs.Index.View.{receipts}
use Rattle.am_machine.specs.declared.node.NodePart.{NodePart}
use Rattle.am_scenario_plan.specs.Shape.{shape}
use Rattle.am_scenario_types.specs.Lists.{ScenarioLists}
use Rattle.am_model_scripts.specs.Scripts.{calls_of}
use Rattle.am_model_scripts.specs.Layout.{layout_of}
use Rattle.am_places.specs.Rule.{Begins, HasGathered}
use Rattle.am_workers_laws.specs.declared.books.EndBook.{EndBook}
use Rattle.am_workers_laws.specs.Phases.Makers.{Driver, Interface, Maker, Thread}
use Rattle.am_workers_laws.specs.Phases.Tenures.{IsSeat}
use Rattle.am_workers_laws.specs.Ended.{DriverEnd, HaveSeats, InterfaceEnd, IsAtWork, IsClosed, IsEnded, IsNodeEnd, IsTakenOut, Keeps, NodeEnd, ThreadEnd}
use Rattle.am_workers_laws.specs.Ended.{Worker, whole_pass, workers}
use Rattle.am_workers_laws.proofs.Passes.{IsIn}
use Rattle.am_workers_laws.proofs.HomesDone.{got_in}
use Rattle.am_workers_laws.proofs.EndsDone.{in_got, in_map, in_first, in_last}
use Rattle.am_workers_laws.specs.Invariants.Seats.{setting_by}
use Rattle.am_cluster_running.specs.Uniting.Ended.{ArePartEnds, IsPartEnd}
use Rattle.am_cluster_running.specs.Uniting.Teams.{ArePartsOfTeams, AreTeams, IsPartOfTeam, IsTeam, Team, TeamThread, TeamsEnd, TeamsUnite, all_threads, driven_in}
use Rattle.am_cluster_running.specs.Uniting.Teams.{gathered_in, keeper_in, log_in, node_end, node_in, run_of, sent_in, taken_in, worker_of_thread}
use Rattle.am_cluster_running.proofs.Seated.{IsSeatedTeam, seated_team, teams_gather}
use Rattle.am_cluster_running.proofs.Threads.{IsFirst, IsNone, first_of, in_team, made_is}
use Rattle.am_cluster_running.proofs.Unite.{are_a_phase, ends_unite, keep_calls, no_journal}
use Rattle.am_workers_laws.specs.Books.Ends.{end_in}
use Rattle.am_machine.specs.Node.Gathered.{is_declared_at}

-- ---- words on lists

in_contains : {X : Type 0} (xs : List X) (z : X) → IsIn xs z → Contains xs z
in_contains [] z h = absurd h
in_contains {X} (y ∷ ys) z h =
    ⊎_elim (λ (here : y ≡ z). subst (λ (x : X). Contains (y ∷ ys) x) here (0, omega arith, refl)) (λ (more : IsIn ys z). behind y ys z (in_contains ys z more))
    h

all_of_map : {X Y : Type 0} (f : X → Y) (P : Y → Type 0) (xs : List X) → AllAre (λ (x : X). P (f x)) xs → AllAre P (map f xs)
all_of_map f P [] h = tt
all_of_map f P (x ∷ xs) h = (h.0, all_of_map f P xs h.1)

all_with : {X : Type 0} (P Q : X → Type 0) (xs : List X) → AllAre P xs → ((x : X) → IsIn xs x → P x → Q x) → AllAre Q xs
all_with P Q [] h step = tt
all_with P Q (x ∷ xs) h step = (step x (inl refl) h.0, all_with P Q xs h.1 (λ y there p. step y (inr there) p))

-- ---- a node of the run

module _ (s : ScenarioLists) (teams : List Team) (a : AreTeams s teams) where
  -- a node's team
  record IsTeamAt (node : NodeId) (t : Team) : Type 0 where
    pub at : slice_get teams node.0 ≡ Some t
    pub declared : node.0 < s.nodes
    pub team : IsTeam s node t

  at_place : (node : NodeId) (t : Team) → slice_get teams node.0 ≡ Some t → IsTeamAt node t
  at_place node t at =
      record {
        at = at;
        declared = (let less = slice_get_within teams node.0 t at in let all = a.all in omega (arith, less, all));
        team = a.each node.0 t at;
      }

  team_of : (node : NodeId) → node.0 < s.nodes → (t : Team) × IsTeamAt node t
  team_of node d = let t = slice_get-Some teams node.0 (let all = a.all in omega (arith, d, all)) in (t.0, at_place node t.0 t.1)

  module _ (node : NodeId) (t : Team) (h : IsTeamAt node t) where
    node_is : (run_of s teams).nodes node ≡ node_end node t
    node_is = ap (node_in node) h.at

    -- a worker of the team works in the run
    at_work : (w : Worker) → IsIn (keeper_in node t ∷ gathered_in node t) w → IsAtWork s (run_of s teams) w.maker
    at_work w there =
        record {
          node = node;
          worker = w;
          declared = h.declared;
          there = subst (λ (n : NodeEnd). Contains (workers n) w) (sym node_is) (in_contains (keeper_in node t ∷ gathered_in node t) w there);
          maker = refl;
        }

    driver_at_work : IsAtWork s (run_of s teams) (Driver node)
    driver_at_work = at_work (keeper_in node t) (inl refl)

    interface_at_work : IsAtWork s (run_of s teams) (Interface node)
    interface_at_work =
        at_work (record { maker = Interface node; pass = t.interface })
        (inr (in_last (map worker_of_thread t.threads) (record { maker = Interface node; pass = t.interface } ∷ []) (record {
          maker = Interface node;
          pass = t.interface;
        }) (inl refl)))

    thread_at_work : (w : TeamThread) → IsIn t.threads w → IsAtWork s (run_of s teams) (Thread w.thread)
    thread_at_work w there =
        at_work (worker_of_thread w)
        (inr (in_first (map worker_of_thread t.threads) (record {
          maker = Interface node;
          pass = t.interface;
        } ∷ []) (worker_of_thread w) (in_map worker_of_thread t.threads w there)))

    thread_keeps : (w : TeamThread) → IsIn t.threads w → ThreadEnd s (ends_of (layout_of s) node) w.thread w.made w.pass →
        Keeps s (run_of s teams) node (worker_of_thread w)
    thread_keeps w there end =
        let p = in_got t.threads w there in
        subst (λ (xs : List Entry). ThreadEnd s (ends_of (layout_of s) node) w.thread xs w.pass)
        (sym (made_is s teams a w (record { place = node.0; team = t; seat = p.place; at = h.at; there = p.at }))) end

    driver_keeps : Keeps s (run_of s teams) node (keeper_in node t)
    driver_keeps = (
      refl,
      subst (λ (o : Option Team). DriverEnd s (ends_of (layout_of s) node) node (driven_in o) (node_in node o).disk t.driver) (sym h.at) h.team.driver',
    )

    interface_keeps : Keeps s (run_of s teams) node (record { maker = Interface node; pass = t.interface })
    interface_keeps = (
      refl,
      subst (λ (o : Option Team). InterfaceEnd s (ends_of (layout_of s) node) node (log_in o) (sent_in o) (λ (from : NodeId). taken_in o from) t.interface)
          (sym h.at)
          h.team.interface',
    )

    all_keep : AllAre (Keeps s (run_of s teams) node) (keeper_in node t ∷ gathered_in node t)
    all_keep = (
      driver_keeps,
      all_push (Keeps s (run_of s teams) node) (map worker_of_thread t.threads) (record { maker = Interface node; pass = t.interface })
          (all_of_map worker_of_thread (Keeps s (run_of s teams) node) t.threads
          (all_with (λ (w : TeamThread). ThreadEnd s (ends_of (layout_of s) node) w.thread w.made w.pass)
          (λ (w : TeamThread). Keeps s (run_of s teams) node (worker_of_thread w)) t.threads
          h.team.threads' thread_keeps))
          interface_keeps,
    )

    seated : IsSeatedTeam node t
    seated = seated_team node t h.team.seated h.team.driver'.works.can.last

    ends_node : IsNodeEnd s (run_of s teams) node
    ends_node =
        record {
          keeps = subst (λ (n : NodeEnd). AllAre (Keeps s (run_of s teams) node) (workers n)) (sym node_is) all_keep;
          seats = subst (λ (n : NodeEnd). AllAre (λ (w : Worker). IsSeat n.keeper.pass.seats w.pass.mark) (workers n)) (sym node_is) seated.seats;
          apart = subst (λ (n : NodeEnd). HaveSeats (workers n)) (sym node_is) seated.apart;
          gathered' = λ m. subst (λ (n : NodeEnd). HasGathered (whole_pass n)) (sym node_is) (teams_gather s node t h.team) m;
          all = ap (λ (n : NodeEnd). length n.books) node_is ∙ (a.out node.0 t h.at).all;
          taken =
              subst (λ (n : NodeEnd). (k : ℕ) (b : EndBook) → slice_get n.books k ≡ Some b → IsTakenOut (whole_pass n) k b) (sym node_is)
              (λ k b at. (a.out node.0 t h.at).each k b at);
        }

  -- ---- all makers

  thread_maker : (n : ℕ) → ((run_of s teams).made (Thread n) ≡ []) ⊎ IsAtWork s (run_of s teams) (Thread n)
  thread_maker n =
      ⊎_elim
      (λ (f : IsFirst n (all_threads teams)).
      (let p = in_team teams f.worker f.there in
      inr
      (subst (λ (m : ℕ). IsAtWork s (run_of s teams) (Thread m)) f.number
      (thread_at_work (node_at p.place) p.team (at_place (node_at p.place) p.team p.at) f.worker (got_in p.team.threads p.seat f.worker p.there)))))
      (λ (f : IsNone n (all_threads teams)). inl f.none)
      (first_of n (all_threads teams))

  interface_maker : (node : NodeId) (o : Option Team) → slice_get teams node.0 ≡ o →
      ((run_of s teams).made (Interface node) ≡ []) ⊎ IsAtWork s (run_of s teams) (Interface node)
  interface_maker node None is = inl (ap log_in is)
  interface_maker node (Some t) is = inr (interface_at_work node t (at_place node t is))

  driver_maker : (node : NodeId) (o : Option Team) → slice_get teams node.0 ≡ o →
      ((run_of s teams).made (Driver node) ≡ []) ⊎ IsAtWork s (run_of s teams) (Driver node)
  driver_maker node None is = inl (ap driven_in is)
  driver_maker node (Some t) is = inr (driver_at_work node t (at_place node t is))

  makers : (k : Maker) → ((run_of s teams).made k ≡ []) ⊎ IsAtWork s (run_of s teams) k
  makers (Thread n) = thread_maker n
  makers (Interface node) = interface_maker node (slice_get teams node.0) refl
  makers (Driver node) = driver_maker node (slice_get teams node.0) refl

  -- ---- the links

  is_closed : (from to : NodeId) → from.0 < s.nodes → to.0 < s.nodes → IsClosed s (run_of s teams) from to
  is_closed from to d e =
      let f = team_of from d in
      let t = team_of to e in
      rejoined (shape s.plan from to (sent_in (slice_get teams from.0) to)) (taken_in (slice_get teams to.0) from)
      (subst (λ (o : Option Team). Begins (shape s.plan from to (sent_in (slice_get teams from.0) to)) (taken_in o from)) (sym t.1.at)
      (subst (λ (o : Option Team). Begins (shape s.plan from to (sent_in o to)) (t.0.taken from)) (sym f.1.at) (a.closed from.0 to.0 f.0 t.0 f.1.at t.1.at)))

  none_strange : (from : NodeId) (o : Option Team) (to : NodeId) → slice_get teams to.0 ≡ o → s.nodes ≤ from.0 → taken_in o from ≡ []
  none_strange from None to is far = refl
  none_strange from (Some t) to is far = a.strange to.0 t from is far

pub teams_end : TeamsEnd
teams_end s teams a =
    record {
      lawful = a.lawful;
      nodes = λ node d. (let t = team_of s teams a node d in ends_node s teams a node t.0 t.1);
      makers = makers s teams a;
      interfaces = λ node d. (let t = team_of s teams a node d in interface_at_work s teams a node t.0 t.1);
      closed = is_closed s teams a;
      strange = λ from to far. none_strange s teams a from (slice_get teams to.0) to refl far;
    }

-- ---- the parts

part_end : (s : ScenarioLists) (teams : List Team) (parts : List NodePart) → ArePartsOfTeams s teams parts → (k : ℕ) (t : Team) (p : NodePart) →
    slice_get teams k ≡ Some t → slice_get parts k ≡ Some p → IsPartEnd s (run_of s teams) (node_at k) p
part_end s teams parts ps k t p at_t at_p =
    record {
      is_node = h.is_node;
      ends' = h.ends' ∙ ap (λ (n : NodeEnd). map end_in n.books) (sym is);
      declared = subst (λ (n : NodeEnd). map setting_by n.keeper.pass.births ≡ filter (is_declared_at (node_at k)) (layout_of s).ends) (sym is) h.declared;
      log = h.log ∙ ap log_in (sym at_t);
      set = h.set;
      disk = h.disk ∙ ap (λ (n : NodeEnd). n.disk) (sym is);
      all_emitted = h.all_emitted;
      emitted' = λ j ps at. h.emitted' j ps at ∙ ap (λ (o : Option Team). sent_in o (node_at j)) (sym at_t);
      all_received = h.all_received;
      received' = λ j n at. h.received' j n at ∙ ap (λ (o : Option Team). receipts (node_at j) (node_at k) (log_in o)) (sym at_t);
    }
  where
    h : IsPartOfTeam s (node_at k) t p
    h = ps.each k t p at_t at_p

    is : (run_of s teams).nodes (node_at k) ≡ node_end (node_at k) t
    is = ap (node_in (node_at k)) at_t

part_ends : (s : ScenarioLists) (teams : List Team) (parts : List NodePart) → AreTeams s teams → ArePartsOfTeams s teams parts →
    ArePartEnds s (run_of s teams) parts
part_ends s teams parts a ps =
    record {
      packet = ps.packet;
      drivers = λ node d. (let t = team_of s teams a node d in driver_at_work s teams a node t.0 t.1);
      all = ps.all;
      each = λ k p at.
          (let t = slice_get-Some teams k (let less = slice_get_within parts k p at in let all = ps.all in let long = a.all in
          omega (arith, less, all, long)) in
          part_end s teams parts ps k t.0 p t.1 at);
    }

pub teams_unite : TeamsUnite
teams_unite s teams parts a ps =
    record {
      can = ends_unite s (run_of s teams) parts end pe;
      good = are_a_phase s (run_of s teams) parts end pe;
      none = λ no_turns. no_journal s (run_of s teams) parts no_turns end pe;
      calls = λ k j t w at_t at_w.
          keep_calls s (run_of s teams) parts end pe w.thread
          ∙ ap (calls_of w.thread) (made_is s teams a w (record { place = k; team = t; seat = j; at = at_t; there = at_w }));
    }
  where
    end : IsEnded s (run_of s teams)
    end = teams_end s teams a

    pe : ArePartEnds s (run_of s teams) parts
    pe = part_ends s teams parts a ps
