-- The crews of all nodes as teams.
use Rattle.std.specs.Prelude.{slice_get, take}
use Rattle.std.proofs.Common.{◌≡◌, ℕ, zero, suc, ◌+◌, ◌<◌, ◌≤◌, List, [], ◌∷◌, ◌++◌, map, length, Option, Some, None, refl, sym, ap, ◌∙◌, subst, arith}
use Rattle.std.proofs.lemmas.Option.{same_Some, slice_get_within}
use Rattle.atomic_table.specs.Seated.{TableId}
use Rattle.am_lemmas.proofs.Lists.{slice_get-Some}
use Rattle.am_names.specs.declared.NodeId.{NodeId}
use Rattle.am_names.specs.declared.Packet.{Packet}
use Rattle.am_iface.specs.View.{InterfaceView, own}
use Rattle.am_model.specs.Layout.{AllAre, node_at}
use Rattle.am_model_parts.specs.Interface.{home_in}
use Rattle.am_machine.specs.declared.node.NodePart.{NodePart}
use Rattle.am_machine.specs.Node.Parts.{journal_of}
use Rattle.am_scenario_plan.specs.Shape.{shape}
use Rattle.am_scenario_types.specs.Lists.{ScenarioLists}
use Rattle.am_model_scripts.specs.Scripts.{calls_of}
use Rattle.am_model_scripts.specs.Layout.{layout_of}
use Rattle.am_workers_laws.specs.declared.books.EndBook.{EndBook}
use Rattle.am_workers_laws.specs.Phases.Makers.{Interface}
use Rattle.am_places.specs.Rule.{Begins, HasGathered, gathered}
use Rattle.am_wire.specs.Links.{emitted, received, released}
use Rattle.am_wire.specs.declared.receiving.LinkIn.{LinkIn}
use Rattle.am_wire.specs.declared.sending.LinkOut.{LinkOut}
use Rattle.am_workers_laws.specs.Invariants.Seats.{EndPass, Ids, setting_by}
use Rattle.am_workers.specs.AtWork.{IsThreadAtWork, sent_by, sent_on, taken_by, taken_on}
use Rattle.am_workers.specs.declared.workers.ThreadWorker.{ThreadWorker}
use Rattle.am_workers_laws.specs.Ended.{DriverEnd, InterfaceEnd, IsTakenOut, ThreadEnd, Worker, gathering, whole_pass}
use Rattle.am_cluster_opening.specs.Crews.{IsCrew, ids_of, table_of}
use Rattle.am_cluster_opening.specs.declared.crew.NodeCrew.{NodeCrew}
use Rattle.am_cluster_running.specs.Uniting.Ended.{IsSetTo}
use Rattle.am_cluster_running.specs.Uniting.Teams.{ArePartsOfTeams, AreSeated, AreTakenOut, AreTeams, AreUnited, HasThreads, IsPartOfTeam, IsTeam, Team, TeamThread}
use Rattle.am_cluster_running.specs.Uniting.Teams.{keeper_in, node_end, thread_of, worker_of_thread}
use Rattle.am_cluster_running.proofs.Counted.{receipts_count}
use Rattle.am_cluster_running.proofs.Seated.{teams_gather}
use Rattle.am_cluster_running.proofs.Teams.{teams_unite}
use Rattle.am_cluster_running.specs.Ends.Ends.{AreBooksOf, AreLeft, CrewsGather, CrewsUnite, IsPartOfCrew, gathered_all, thread_pass, whole_of}

-- ---- words on lists

past_none : {X : Type 0} (xs : List X) (k : ℕ) → length xs ≤ k → slice_get xs k ≡ None
past_none [] k most = refl
past_none (x ∷ xs) zero most = absurd (omega (arith, most))
past_none (x ∷ xs) (suc k) most = past_none xs k (omega (arith, most))

-- ---- the threads of a crew

module _ (s : ScenarioLists) (table : TableId) (ids : Ids) (turns : ℕ) where
  -- each of these threads is at work
  abbrev AreAtWork : List ThreadWorker → Type 0
  AreAtWork ws = (k : ℕ) (w : ThreadWorker) → slice_get ws k ≡ Some w → IsThreadAtWork s table ids turns w

  abbrev rest_at_work : (w : ThreadWorker) (ws : List ThreadWorker) → AreAtWork (w ∷ ws) → AreAtWork ws
  rest_at_work w ws f = λ k u at. f (suc k) u at

  abbrev team_thread : (w : ThreadWorker) → IsThreadAtWork s table ids turns w → TeamThread
  team_thread w h = record { thread = w.thread; made = h.works.made; pass = thread_pass w }

  abbrev team_threads : (ws : List ThreadWorker) → AreAtWork ws → List TeamThread
  team_threads [] f = []
  team_threads (w ∷ ws) f = team_thread w (f 0 w refl) ∷ team_threads ws (rest_at_work w ws f)

  thread_ends : turns ≤ s.turns → (ws : List ThreadWorker) (f : AreAtWork ws) →
      AllAre (λ (t : TeamThread). ThreadEnd s ids t.thread t.made t.pass) (team_threads ws f)
  thread_ends most [] f = tt
  thread_ends most (w ∷ ws) f =
      let h = f 0 w refl in (
        record {
          turns = h.so_far;
          next = w.next;
          clock = w.clock;
          within = (let within = h.within in omega (arith, within, most));
          declared = h.declared;
          works = h.works;
          same = refl;
        },
        thread_ends most ws (rest_at_work w ws f),
      )

  same_names : (ws : List ThreadWorker) (f : AreAtWork ws) → map thread_of (team_threads ws f) ≡ map (λ (w : ThreadWorker). w.thread) ws
  same_names [] f = refl
  same_names (w ∷ ws) f = ap (λ (ns : List ℕ). w.thread ∷ ns) (same_names ws (rest_at_work w ws f))

  same_gathering : (v : EndPass) (ws : List ThreadWorker) (f : AreAtWork ws) (u : Worker) →
      gathering v (map worker_of_thread (team_threads ws f) ++ u ∷ []) ≡ gathered_all v (map thread_pass ws ++ u.pass ∷ [])
  same_gathering v [] f u = refl
  same_gathering v (w ∷ ws) f u = same_gathering (gathered v (thread_pass w)) ws (rest_at_work w ws f) u

  -- the marks go on from n
  marks : (n : ℕ) (ws : List ThreadWorker) (f : AreAtWork ws) (u d : Worker) → ((k : ℕ) (w : ThreadWorker) → slice_get ws k ≡ Some w →
      (thread_pass w).mark ≡ k + n) → u.pass.mark ≡ length ws + n → d.pass.mark ≡ length ws + n + 1
      → (k : ℕ) (w : Worker) → slice_get ((map worker_of_thread (team_threads ws f) ++ u ∷ []) ++ d ∷ []) k ≡ Some w → w.pass.mark ≡ k + n
  marks n [] f u d each is last zero w at = ap (λ (z : Worker). z.pass.mark) (sym (same_Some u w at)) ∙ is
  marks n [] f u d each is last (suc zero) w at = ap (λ (z : Worker). z.pass.mark) (sym (same_Some d w at)) ∙ (omega (arith, last))
  marks n [] f u d each is last (suc (suc k)) w at = absurd (cc)
  marks n (x ∷ ws) f u d each is last zero w at = ap (λ (z : Worker). z.pass.mark) (sym (same_Some (worker_of_thread (team_thread x (f 0 x refl))) w at))
      ∙ each 0 x refl
  marks n (x ∷ ws) f u d each is last (suc k) w at =
      let more = marks (suc n) ws (rest_at_work x ws f) u d (λ j y at_y. (let one = each (suc j) y at_y in omega (arith, one))) (omega (arith, is))
      (omega (arith, last)) k w at in
      omega (arith, more)

  -- the thread of a worker made the calls that it counted
  record IsThreadAt (w : ThreadWorker) (ts : List TeamThread) (k : ℕ) : Type 0 where
    pub thread : TeamThread
    pub at : slice_get ts k ≡ Some thread
    pub number : thread.thread ≡ w.thread
    pub calls : calls_of w.thread thread.made ≡ take w.next w.script.items

  thread_at : (ws : List ThreadWorker) (f : AreAtWork ws) (k : ℕ) (w : ThreadWorker) → slice_get ws k ≡ Some w → IsThreadAt w (team_threads ws f) k
  thread_at [] f k w at = absurd (cc)
  thread_at (x ∷ ws) f zero w at =
      let h = f 0 x refl in
      subst (λ (y : ThreadWorker). IsThreadAt y (team_thread x (f 0 x refl) ∷ team_threads ws (rest_at_work x ws f)) 0) (same_Some x w at)
      (record { thread = team_thread x h; at = refl; number = refl; calls = h.works.calls ∙ ap (take x.next) (sym h.script.script) })
  thread_at (x ∷ ws) f (suc k) w at = let m = thread_at ws (rest_at_work x ws f) k w at in record {
    thread = m.thread;
    at = m.at;
    number = m.number;
    calls = m.calls;
  }

-- ---- a crew as a team

threads_at_work : (s : ScenarioLists) (node : NodeId) (turns : ℕ) (c : NodeCrew) → IsCrew s node turns c →
    AreAtWork s (table_of c) (ids_of c) turns c.threads.items
threads_at_work s node turns c h = λ k w at. (h.threads k w at).at_work

module _ (s : ScenarioLists) (node : NodeId) (turns : ℕ) (c : NodeCrew) (h : IsCrew s node turns c) (books : List EndBook) where
  abbrev team_of : Team
  team_of =
      record {
        threads = team_threads s (table_of c) (ids_of c) turns c.threads.items (threads_at_work s node turns c h);
        log = c.interface.interface.log;
        interface = c.interface.seat.token.me.0;
        sent = sent_by c.interface.outs.items;
        taken = taken_by c.interface.ins.items;
        driven = h.driver.works.made;
        driver = c.driver.seat.token.me.0;
        books = books;
        disk = c.driver.swap;
      }

  same_whole : whole_pass (node_end node team_of) ≡ whole_of c
  same_whole = same_gathering s (table_of c) (ids_of c) turns c.driver.seat.token.me.0 c.threads.items (threads_at_work s node turns c h)
      (record { maker = Interface node; pass = c.interface.seat.token.me.0 })

  seated : AreSeated node team_of
  seated k w at =
      marks s (table_of c) (ids_of c) turns 1 c.threads.items (threads_at_work s node turns c h) (record {
        maker = Interface node;
        pass = c.interface.seat.token.me.0;
      }) (keeper_in node team_of)
      (λ j x at_x. (h.threads j x at_x).seat.is_mark) h.interface_seat.is_mark (let last = h.driver_seat.is_mark in omega (arith, last)) k w at

  is_team : turns ≤ s.turns → IsTeam s node team_of
  is_team most =
      record {
        threads' =
            subst (λ (ids : Ids). AllAre (λ (t : TeamThread). ThreadEnd s ids t.thread t.made t.pass) team_of.threads) h.ids
            (thread_ends s (table_of c) (ids_of c) turns most c.threads.items (threads_at_work s node turns c h));
        interface' =
            subst (λ (ids : Ids). InterfaceEnd s ids node c.interface.interface.log (sent_by c.interface.outs.items) (taken_by c.interface.ins.items)
            c.interface.seat.token.me.0) h.ids
            (record {
              turns = h.interface.so_far;
              hand = c.interface.hand;
              within = (let within = h.interface.within in omega (arith, within, most));
              works = h.interface.works;
            });
        driver' =
            subst (λ (ids : Ids). DriverEnd s ids node h.driver.works.made c.driver.swap c.driver.seat.token.me.0) h.ids
            (record {
              turns = h.driver.so_far;
              clock = c.driver.clock;
              view = c.driver.view;
              within = (let within = h.driver.within in omega (arith, within, most));
              works = h.driver.works;
              same = refl;
            });
        seated = seated;
      }

  has_threads : HasThreads s node team_of
  has_threads = same_names s (table_of c) (ids_of c) turns c.threads.items (threads_at_work s node turns c h) ∙ h.named

  taken_out : AreBooksOf c books → AreTakenOut s node team_of
  taken_out b = record {
    all = b.all ∙ ap (λ (ids : Ids). length ids) h.ids;
    each = λ k x at. subst (λ (v : EndPass). IsTakenOut v k x) (sym same_whole) (b.each k x at);
  }

  -- ---- its links

  out_at : (k : ℕ) → k < s.nodes → (o : LinkOut) × (slice_get c.interface.outs.items k ≡ Some o)
  out_at k d = slice_get-Some c.interface.outs.items k (let all = h.interface.outs.all in omega (arith, d, all))

  in_at : (k : ℕ) → k < s.nodes → (i : LinkIn) × (slice_get c.interface.ins.items k ≡ Some i)
  in_at k d = slice_get-Some c.interface.ins.items k (let all = h.interface.ins in omega (arith, d, all))

  none_strange : (from : NodeId) → s.nodes ≤ from.0 → taken_by c.interface.ins.items from ≡ []
  none_strange from far = ap taken_on (past_none c.interface.ins.items from.0 (let all = h.interface.ins in omega (arith, far, all)))

  -- what an end of a link released is what the plan says of it
  released_is : (k : ℕ) (o : LinkOut) → slice_get c.interface.outs.items k ≡ Some o → released o ≡ shape s.plan node (node_at k) (emitted o)
  released_is k o at =
      let way = h.interface.outs.of k o at in
      (λ i. shape o.plan.items (way.from_is i) (way.to_is i) (emitted o)) ∙ way.planned (emitted o)

  -- ---- its part

  is_set : (p : NodePart) → IsPartOfCrew s node c books p → IsSetTo (layout_of s) node p.iface
  is_set p part =
      record {
        is_node = ap (λ (i : InterfaceView). i.settings.node) part.interface ∙ h.interface.is_node;
        nodes = ap (λ (i : InterfaceView). i.settings.nodes) part.interface ∙ h.interface.nodes;
        channels = ap (λ (i : InterfaceView). i.settings.channels) part.interface ∙ h.interface.layout.channels;
        tries = ap (λ (i : InterfaceView). i.settings.tries) part.interface ∙ h.interface.layout.tries;
        bounces = ap (λ (i : InterfaceView). i.settings.bounces) part.interface ∙ h.interface.layout.bounces;
        limit = ap (λ (i : InterfaceView). i.settings.log) part.interface ∙ h.interface.limit;
        homes = λ e. ap (λ (i : InterfaceView). home_in (own i) e) part.interface ∙ h.interface.layout.homes e;
        bounded = part.few;
      }

  part_of_team : (p : NodePart) → IsPartOfCrew s node c books p → IsPartOfTeam s node team_of p
  part_of_team p part =
      record {
        is_node = part.is_node;
        ends' = part.ends';
        declared = ap (map setting_by) h.driver_seat.told ∙ h.declared.declared;
        log = ap (λ (i : InterfaceView). i.log) part.interface;
        set = is_set p part;
        disk = part.disk;
        all_emitted = part.all_emitted;
        emitted' = λ k ps at.
            (let o = out_at k (let less = slice_get_within p.emitted.items k ps at in let all = part.all_emitted in omega (arith, less, all)) in
            part.emitted' k ps o.0 at o.1 ∙ sym (ap sent_on o.1));
        all_received = part.all_received;
        received' = λ k n at.
            (let i = in_at k (let less = slice_get_within p.received.items k n at in let all = part.all_received in omega (arith, less, all)) in
            let whole = part.received' k n i.0 at i.1 in
            let taken = ap (λ (o : Option LinkIn). length (taken_on o)) i.1 in
            let count =
            receipts_count s (ids_of c) node h.interface.so_far c.interface.interface.log (sent_by c.interface.outs.items) (taken_by c.interface.ins.items)
            c.interface.hand c.interface.seat.token.me.0 h.interface.works
            (node_at k) in
            omega (arith, whole, taken, count));
      }

pub crews_gather : CrewsGather
crews_gather s node turns c h most =
    subst (λ (v : EndPass). HasGathered v) (same_whole s node turns c h []) (teams_gather s node (team_of s node turns c h [])
    (is_team s node turns c h [] most))

-- ---- the crews of all nodes

from_none : (n : ℕ) → n ≡ 0 + n
from_none n = omega arith

module _ (s : ScenarioLists) where
  abbrev AreCrewsFrom : ℕ → List NodeCrew → Type 0
  AreCrewsFrom n cs = (k : ℕ) (c : NodeCrew) → slice_get cs k ≡ Some c → (m : ℕ) → m ≡ k + n → IsCrew s (node_at m) s.turns c

  rest_of : (n : ℕ) (c : NodeCrew) (cs : List NodeCrew) → AreCrewsFrom n (c ∷ cs) → AreCrewsFrom (suc n) cs
  rest_of n c cs f k d at m is = f (suc k) d at m (omega (arith, is))

  abbrev teams_of : (n : ℕ) (cs : List NodeCrew) (bs : List (List EndBook)) → AreCrewsFrom n cs → List Team
  teams_of n [] bs f = []
  teams_of n (c ∷ cs) [] f = []
  teams_of n (c ∷ cs) (b ∷ bs) f = team_of s (node_at n) s.turns c (f 0 c refl n (from_none n)) b ∷ teams_of (suc n) cs bs (rest_of n c cs f)

  all_teams : (n : ℕ) (cs : List NodeCrew) (bs : List (List EndBook)) (f : AreCrewsFrom n cs) → length bs ≡ length cs → length (teams_of n cs bs f) ≡ length cs
  all_teams n [] bs f same = refl
  all_teams n (c ∷ cs) [] f same = absurd (omega (arith, same))
  all_teams n (c ∷ cs) (b ∷ bs) f same = ap suc (all_teams (suc n) cs bs (rest_of n c cs f) (omega (arith, same)))

  -- the team is the crew's with its place
  record IsTeamOf (cs : List NodeCrew) (bs : List (List EndBook)) (k m : ℕ) (t : Team) : Type 0 where
    pub crew : NodeCrew
    pub books : List EndBook
    pub at : slice_get cs k ≡ Some crew
    pub there : slice_get bs k ≡ Some books
    pub is_crew : IsCrew s (node_at m) s.turns crew
    pub is : t ≡ team_of s (node_at m) s.turns crew is_crew books

  team_at : (n : ℕ) (cs : List NodeCrew) (bs : List (List EndBook)) (f : AreCrewsFrom n cs) (k m : ℕ) (t : Team) → m ≡ k + n →
      slice_get (teams_of n cs bs f) k ≡ Some t → IsTeamOf cs bs k m t
  team_at n [] bs f k m t is at = absurd (cc)
  team_at n (c ∷ cs) [] f k m t is at = absurd (cc)
  team_at n (c ∷ cs) (b ∷ bs) f zero m t is at =
      subst (λ (j : ℕ). IsTeamOf (c ∷ cs) (b ∷ bs) 0 j t) (from_none n ∙ sym is)
      (record {
        crew = c;
        books = b;
        at = refl;
        there = refl;
        is_crew = f 0 c refl n (from_none n);
        is = sym (same_Some (team_of s (node_at n) s.turns c (f 0 c refl n (from_none n)) b) t at);
      })
  team_at n (c ∷ cs) (b ∷ bs) f (suc k) m t is at =
      let r = team_at (suc n) cs bs (rest_of n c cs f) k m t (omega (arith, is)) at in
      record { crew = r.crew; books = r.books; at = r.at; there = r.there; is_crew = r.is_crew; is = r.is }

module _ (s : ScenarioLists) (crews : List NodeCrew) (books : List (List EndBook)) (parts : List NodePart) (a : AreLeft s crews books parts) where
  from_first : AreCrewsFrom s 0 crews
  from_first k c at m is = subst (λ (j : ℕ). IsCrew s (node_at j) s.turns c) (omega (arith, is)) (a.crews'.each k c at)

  abbrev teams : List Team
  teams = teams_of s 0 crews books from_first

  team_of_place : (k : ℕ) (t : Team) → slice_get teams k ≡ Some t → IsTeamOf s crews books k k t
  team_of_place k t at = team_at s 0 crews books from_first k k t (omega arith) at

  count : length teams ≡ s.nodes
  count = all_teams s 0 crews books from_first (a.all_books ∙ sym a.crews'.all) ∙ a.crews'.all

  closed_between : (j k : ℕ) (f t : Team) (u : IsTeamOf s crews books j j f) (v : IsTeamOf s crews books k k t) → j < s.nodes → k < s.nodes →
      Begins (shape s.plan (node_at j) (node_at k) (f.sent (node_at k))) (t.taken (node_at j))
  closed_between j k f t u v at_j at_k =
      let o = out_at s (node_at j) s.turns u.crew u.is_crew u.books k at_k in
      let i = in_at s (node_at k) s.turns v.crew v.is_crew v.books j at_j in
      let sent : f.sent (node_at k) ≡ emitted o.0 = ap (λ (x : Team). x.sent (node_at k)) u.is ∙ ap sent_on o.1 in
      let taken : t.taken (node_at j) ≡ received i.0 = ap (λ (x : Team). x.taken (node_at j)) v.is ∙ ap taken_on i.1 in
      let begins = a.closed j k u.crew v.crew o.0 i.0 u.at v.at o.1 i.1 in
      subst (λ (xs : List Packet). Begins (shape s.plan (node_at j) (node_at k) xs) (t.taken (node_at j))) (sym sent)
      (subst (λ (xs : List Packet). Begins (shape s.plan (node_at j) (node_at k) (emitted o.0)) xs) (sym taken)
      (subst (λ (xs : List Packet). Begins xs (received i.0)) (released_is s (node_at j) s.turns u.crew u.is_crew u.books k o.0 o.1) begins))

  within : (k : ℕ) (t : Team) → slice_get teams k ≡ Some t → k < s.nodes
  within k t at = let less = slice_get_within teams k t at in let all = count in omega (arith, less, all)

  are_teams : AreTeams s teams
  are_teams =
      record {
        lawful = a.lawful;
        all = count;
        each = λ k t at.
            (let u = team_of_place k t at in
            subst (IsTeam s (node_at k)) (sym u.is) (is_team s (node_at k) s.turns u.crew u.is_crew u.books (omega arith)));
        threads' = λ k t at.
            (let u = team_of_place k t at in
            subst (HasThreads s (node_at k)) (sym u.is) (has_threads s (node_at k) s.turns u.crew u.is_crew u.books));
        out = λ k t at.
            (let u = team_of_place k t at in
            subst (AreTakenOut s (node_at k)) (sym u.is) (taken_out s (node_at k) s.turns u.crew u.is_crew u.books (a.books' k u.crew u.books u.at u.there)));
        closed = λ j k f t at_f at_t. closed_between j k f t (team_of_place j f at_f) (team_of_place k t at_t) (within j f at_f) (within k t at_t);
        strange = λ k t from at far. none_from k t from (team_of_place k t at) far;
      }
    where
      none_from : (k : ℕ) (t : Team) (from : NodeId) (u : IsTeamOf s crews books k k t) → s.nodes ≤ from.0 → t.taken from ≡ []
      none_from k t from u far = ap (λ (x : Team). x.taken from) u.is ∙ none_strange s (node_at k) s.turns u.crew u.is_crew u.books from far

  are_parts : ArePartsOfTeams s teams parts
  are_parts =
      record {
        packet = a.packet;
        all = a.all_parts;
        each = λ k t p at_t at_p.
            (let u = team_of_place k t at_t in
            subst (λ (x : Team). IsPartOfTeam s (node_at k) x p) (sym u.is)
            (part_of_team s (node_at k) s.turns u.crew u.is_crew u.books p (a.parts' k u.crew u.books p u.at u.there at_p)));
      }

  united : AreUnited s teams parts
  united = teams_unite s teams parts are_teams are_parts

  counted : (k j : ℕ) (c : NodeCrew) (w : ThreadWorker) (t : Team) (u : IsTeamOf s crews books k k t) → slice_get teams k ≡ Some t →
      slice_get u.crew.threads.items j ≡ Some w → calls_of w.thread (journal_of parts) ≡ take w.next w.script.items
  counted k j c w t u at_t at =
      let th = thread_at s (table_of u.crew) (ids_of u.crew) s.turns u.crew.threads.items (threads_at_work s (node_at k) s.turns u.crew u.is_crew) j w at in
      let calls = united.calls k j t th.thread at_t (ap (λ (x : Team). slice_get x.threads j) u.is ∙ th.at) in
      subst (λ (n : ℕ). calls_of n (journal_of parts) ≡ calls_of n th.thread.made) th.number calls ∙ th.calls

pub crews_unite : CrewsUnite
crews_unite s crews books parts a =
    record {
      can = (united s crews books parts a).can;
      good = (united s crews books parts a).good;
      none = (united s crews books parts a).none;
      calls = λ k j c w at_c at_w.
          (let t = slice_get-Some (teams s crews books parts a) k (let less = slice_get_within crews k c at_c in let all = a.crews'.all in
          let long = count s crews books parts a in omega (arith, less, all, long)) in
          let u = team_of_place s crews books parts a k t.0 t.1 in
          let same = same_Some c u.crew (sym at_c ∙ u.at) in
          counted s crews books parts a k j c w t.0 u t.1 (subst (λ (x : NodeCrew). slice_get x.threads.items j ≡ Some w) same at_w));
    }
