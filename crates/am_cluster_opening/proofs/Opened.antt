-- A crew that is made of what its workers begin with and of its links is at work, with no turn made.
use Rattle.std.specs.Prelude.{slice_get}
use Rattle.std.proofs.Common.{◌≡◌, ℕ, suc, ◌+◌, ◌<◌, ◌≤◌, Option, None, Some, List, [], ◌∷◌, ◌++◌, length, map, refl, sym, ap, ◌∙◌, subst, arith, append-nil}
use Rattle.std.specs.Global.{Vec}
use Rattle.std.proofs.lemmas.List.{length_push}
use Rattle.atomic_table.specs.Table.{Me}
use Rattle.am_lemmas.proofs.Lists.{slice_get-append_left}
use Rattle.am_names.specs.declared.NodeId.{NodeId}
use Rattle.am_workers_laws.specs.declared.books.EndBook.{EndBook}
use Rattle.am_model.specs.Layout.{node_at}
use Rattle.am_scenario_types.specs.declared.parts.ScriptCall.{ScriptCall}
use Rattle.am_scenario_types.specs.Lawful as lawful
use Rattle.am_scenario_types.specs.Lists.{ScenarioLists}
use Rattle.am_scenario_types.specs.declared.parts.Network.TheVariants as Networks
use Rattle.am_model_scripts.specs.Layout.{is_direct, layout_of}
use Rattle.am_model_scripts.proofs.Lawful.{lawful_layout}
use Rattle.am_iface.specs.Settings.{AreLawful}
use Rattle.am_iface.specs.View.{InterfaceView, own}
use Rattle.am_model_parts.specs.Together.{IsSet}
use Rattle.am_model_scripts.specs.Follows.{is_thread}
use Rattle.am_workers.specs.Turns.Callers.{IsScript}
use Rattle.am_workers.specs.declared.turns.waits.Waits.{Waits}
use Rattle.am_cluster_opening.proofs.Lists.{all_mapped}
use Rattle.am_wire.specs.AllLinks.Links.{IsOutOpened}
use Rattle.am_wire.proofs.Lists.{got_last, got_low, got_one, got_some}
use Rattle.am_wire.specs.declared.receiving.LinkIn.{LinkIn}
use Rattle.am_wire.specs.declared.sending.LinkOut.{LinkOut}
use Rattle.am_workers_laws.specs.Invariants.Seats.{EndPass, Ids}
use Rattle.am_workers.specs.AtWork.{IsDriverAtWork, IsInterfaceAtWork, IsThreadAtWork}
use Rattle.am_workers.specs.Begins.{IsNewDisk, IsNewSeat, NewDriversAreAtWork, NewInterfacesAreAtWork, NewThreadsAreAtWork}
use Rattle.am_workers.specs.declared.workers.ThreadWorker.{ThreadWorker}
use Rattle.am_cluster_opening.specs.Node.Openings.{EndPlaces, EndSeat, IsFreshSeat, IsOpening, births_of, threads_of}
use Rattle.am_cluster_opening.specs.declared.node.opening.Opening.{Opening}
use Rattle.am_cluster_opening.specs.Crews.{IsCrew, IsSeatOf, IsUnused}
use Rattle.am_cluster_opening.specs.Making.{AreNodeLinks, AreThreadsMade, IsThreadMade}
use Rattle.am_cluster_opening.specs.declared.crew.NodeCrew.{NodeCrew}
use Rattle.am_cluster_opening.proofs.Scripted.{is_declared, is_script, is_short}
use Rattle.am_workers_laws.specs.Invariants.Begins.{IsOpenIn}

-- the crew has these
pub record IsCrewMade (s : ScenarioLists) (o : Opening) (guests : List EndSeat) (inner last : EndSeat) (outs : List LinkOut) (ins : List LinkIn) (c : NodeCrew)
    : Type 0 where
  pub node' : c.node ≡ o.node
  pub places' : c.places ≡ o.places
  pub seats : o.seats.items ≡ (guests ++ inner ∷ []) ++ last ∷ []
  pub threads' : AreThreadsMade s o.threads.items guests (length o.threads.items) c.threads.items
  pub inner_seat : c.interface.seat ≡ inner
  pub interface' : c.interface.interface ≡ o.interface
  pub set' : c.interface.set ≡ o.set
  pub hand' : c.interface.hand ≡ None
  pub outs' : c.interface.outs.items ≡ outs
  pub ins' : c.interface.ins.items ≡ ins
  pub starts : (c.interface.last ≡ 0) × (c.interface.from ≡ 0)
  pub last_seat : c.driver.seat ≡ last
  pub driver_node : c.driver.node ≡ o.node
  pub swap' : c.driver.swap ≡ o.swap
  pub view' : c.driver.view ≡ o.view
  pub clock' : c.driver.clock ≡ 0

-- the crew that is made of these
abbrev pub made_of : ℕ → Opening → Vec ThreadWorker → EndSeat → EndSeat → Vec LinkOut → Vec LinkIn → Waits → NodeCrew
made_of first o threads inner last outs ins waits =
    record {
      node = o.node;
      first = first;
      places = o.places;
      threads = threads;
      interface = record {
        seat = inner;
        interface = o.interface;
        set = o.set;
        waits = waits;
        hand = None;
        ins = ins;
        outs = outs;
        last = 0;
        from = 0;
        end = 0;
        stop = None;
      };
      driver = record { seat = last; node = o.node; swap = o.swap; view = o.view; clock = 0; stop = None };
    }

pub is_made : (s : ScenarioLists) (first : ℕ) (o : Opening) (guests : List EndSeat) (threads : Vec ThreadWorker) (inner last : EndSeat) (outs : Vec LinkOut)
    (ins : Vec LinkIn) (waits : Waits) → o.seats.items ≡ (guests ++ inner ∷ []) ++ last ∷ [] →
    AreThreadsMade s o.threads.items guests (length o.threads.items) threads.items
    → IsCrewMade s o guests inner last outs.items ins.items (made_of first o threads inner last outs ins waits)
is_made s first o guests threads inner last outs ins waits seats made =
    record {
      node' = refl;
      places' = refl;
      seats = seats;
      threads' = made;
      inner_seat = refl;
      interface' = refl;
      set' = refl;
      hand' = refl;
      outs' = refl;
      ins' = refl;
      starts = (refl, refl);
      last_seat = refl;
      driver_node = refl;
      swap' = refl;
      view' = refl;
      clock' = refl;
    }

module _ (s : ScenarioLists) (o : Opening) (guests : List EndSeat) (inner last : EndSeat) (outs : List LinkOut) (ins : List LinkIn) (c : NodeCrew)
    (ok : lawful.IsLawful s) (packet : s.network ≡ Networks.Packet) (op : IsOpening s o.node o) (declared : o.node.0 < s.nodes)
    (links : AreNodeLinks s o.node outs ins) (made : IsCrewMade s o guests inner last outs ins c) where
  guests_all : length guests ≡ length o.threads.items
  guests_all =
      let seats : length o.seats.items ≡ length ((guests ++ inner ∷ []) ++ last ∷ []) = ap length made.seats in
      let a = length_push (guests ++ inner ∷ []) last in
      let b = length_push guests inner in
      let all = op.all in
      omega (arith, seats, a, b, all)

  seat_at : (k : ℕ) (seat : EndSeat) → slice_get ((guests ++ inner ∷ []) ++ last ∷ []) k ≡ Some seat →
      IsFreshSeat o.places.board.shared.table_id op.books o.places.ids.items k (length o.threads.items + 2) s.frames seat
  seat_at k seat at = op.seats' k seat (subst (λ (l : List EndSeat). slice_get l k ≡ Some seat) (sym made.seats) at)

  guest_at : (k : ℕ) (seat : EndSeat) → slice_get guests k ≡ Some seat →
      IsFreshSeat o.places.board.shared.table_id op.books o.places.ids.items k (length o.threads.items + 2) s.frames seat
  guest_at k seat at = seat_at k seat (slice_get-append_left (guests ++ inner ∷ []) (last ∷ []) k seat (slice_get-append_left guests (inner ∷ []) k seat at))

  inner_at : IsFreshSeat o.places.board.shared.table_id op.books o.places.ids.items (length o.threads.items) (length o.threads.items + 2) s.frames inner
  inner_at = subst (λ (n : ℕ). IsFreshSeat o.places.board.shared.table_id op.books o.places.ids.items n (length o.threads.items + 2) s.frames inner) guests_all
      (seat_at (length guests) inner (got_last guests (last ∷ []) inner))

  last_at : IsFreshSeat o.places.board.shared.table_id op.books o.places.ids.items (length o.threads.items + 1) (length o.threads.items + 2) s.frames last
  last_at =
      subst (λ (n : ℕ). IsFreshSeat o.places.board.shared.table_id op.books o.places.ids.items n (length o.threads.items + 2) s.frames last)
      (length_push guests inner ∙ ap (λ (n : ℕ). n + 1) guests_all)
      (seat_at (length (guests ++ inner ∷ [])) last (subst (λ (l : List EndSeat). slice_get l (length (guests ++ inner ∷ [])) ≡ Some last)
      (append-nil ((guests ++ inner ∷ []) ++ last ∷ [])) (got_last (guests ++ inner ∷ []) [] last)))

  new_seat : (k : ℕ) (seat : EndSeat) → IsFreshSeat o.places.board.shared.table_id op.books o.places.ids.items k (length o.threads.items + 2) s.frames seat →
      IsNewSeat o.places.board.shared.table_id op.books o.places.ids.items k (length o.threads.items + 2) s.frames seat.token
  new_seat k seat f = record { table_is = f.table_is; pass = f.pass }

  sits_at : (k mark : ℕ) (seat : EndSeat) → k + 1 ≡ mark → IsFreshSeat o.places.board.shared.table_id op.books o.places.ids.items k (length o.threads.items + 2)
      s.frames seat → IsSeatOf (births_of op.books) (length o.threads.items + 2) mark seat.token.me.0
  sits_at k mark seat is f =
      record {
        is_mark = ap (λ (m : Me (Option EndBook) EndPass). m.0.mark) f.pass ∙ is;
        of_seats = ap (λ (m : Me (Option EndBook) EndPass). m.0.seats) f.pass;
        told = ap (λ (m : Me (Option EndBook) EndPass). m.0.births) f.pass;
      }

  -- ---- threads

  threads_all : length c.threads.items ≡ length o.threads.items
  threads_all = made.threads'.all

  record HasThread (k : ℕ) (w : ThreadWorker) : Type 0 where
    id : ℕ
    seat : EndSeat
    id_at : slice_get o.threads.items k ≡ Some id
    seat_is : slice_get guests k ≡ Some seat
    thread_is : IsThreadMade s id seat w

  thread_at : (k : ℕ) (w : ThreadWorker) → slice_get c.threads.items k ≡ Some w → HasThread k w
  thread_at k w at =
      let low = got_low c.threads.items k w at in
      let all = threads_all in
      let id = got_some o.threads.items k (omega (arith, low, all)) in
      let guests_are = guests_all in
      let seat = got_some guests k (omega (arith, low, all, guests_are)) in
      record { id = id.0; seat = seat.0; id_at = id.1; seat_is = seat.1; thread_is = made.threads'.each k id.0 seat.0 w id.1 seat.1 at }

  thread_works : NewThreadsAreAtWork → (k : ℕ) (w : ThreadWorker) → slice_get c.threads.items k ≡ Some w →
      IsThreadAtWork s o.places.board.shared.table_id o.places.ids.items 0 w
  thread_works law k w at =
      let h = thread_at k w at in
      let low = got_low c.threads.items k w at in
      let all = threads_all in
      subst (λ (ids : Ids). IsThreadAtWork s o.places.board.shared.table_id ids 0 w) op.named
      (law s o.places.board.shared.table_id op.books o.places.ids.items k (length o.threads.items + 2) s.frames w op.fresh_books
      (record {
        seat = subst (λ (t : EndSeat). IsNewSeat o.places.board.shared.table_id op.books o.places.ids.items k (length o.threads.items + 2) s.frames t.token)
            (sym h.thread_is.sits) (new_seat k h.seat (guest_at k h.seat h.seat_is));
        guest = λ same. absurd (omega (arith, low, all, same));
        declared = ap (is_thread s) h.thread_is.is_thread ∙ is_declared s o.node k h.id (subst (λ (l : List ℕ). slice_get l k ≡ Some h.id) op.threads' h.id_at);
        script = subst (λ (t : ℕ). IsScript s t w.script.items) (sym h.thread_is.is_thread)
            (subst (IsScript s h.id) (sym h.thread_is.script_is) (is_script s h.id ok));
        few = subst (λ (l : List ScriptCall). length l ≤ 65536) (sym h.thread_is.script_is) (is_short s h.id ok);
        next = h.thread_is.none.0;
        clock = h.thread_is.none.1;
      }))

  thread_sits : (k : ℕ) (w : ThreadWorker) → slice_get c.threads.items k ≡ Some w →
      IsSeatOf (births_of op.books) (length c.threads.items + 2) (k + 1) w.seat.token.me.0
  thread_sits k w at =
      let h = thread_at k w at in
      subst (λ (n : ℕ). IsSeatOf (births_of op.books) (n + 2) (k + 1) w.seat.token.me.0) (sym threads_all)
      (subst (λ (t : EndSeat). IsSeatOf (births_of op.books) (length o.threads.items + 2) (k + 1) t.token.me.0) (sym h.thread_is.sits)
      (sits_at k (k + 1) h.seat refl (guest_at k h.seat h.seat_is)))

  -- the number of each is that of its place
  named_from : (ids : List ℕ) (ws : List ThreadWorker) → length ws ≡ length ids → ((k id : ℕ) (w : ThreadWorker) → slice_get ids k ≡ Some id →
      slice_get ws k ≡ Some w → w.thread ≡ id) → map (λ (w : ThreadWorker). w.thread) ws ≡ ids
  named_from [] [] all each = refl
  named_from [] (w ∷ ws) all each = absurd (omega (arith, all))
  named_from (id ∷ ids) [] all each = absurd (omega (arith, all))
  named_from (id ∷ ids) (w ∷ ws) all each = λ i. each 0 id w refl refl i ∷ named_from ids ws (omega (arith, all)) (λ k d v a b. each (suc k) d v a b) i

  threads_named : map (λ (w : ThreadWorker). w.thread) c.threads.items ≡ threads_of s o.node
  threads_named =
      named_from o.threads.items c.threads.items threads_all
      (λ k id w a b.
      (let h = thread_at k w b in
      h.thread_is.is_thread ∙ got_one o.threads.items k h.id id h.id_at a))
      ∙ op.threads'

  -- ---- the interface

  interface_works : NewInterfacesAreAtWork → IsInterfaceAtWork s o.places.board.shared.table_id o.places.ids.items o.node 0 c.interface
  interface_works law =
      let i = op.interface' in
      let is : c.interface.interface ≡ o.interface = made.interface' in
      subst (λ (ids : Ids). IsInterfaceAtWork s o.places.board.shared.table_id ids o.node 0 c.interface) op.named
      (law s o.places.board.shared.table_id op.books o.places.ids.items (length o.threads.items) (length o.threads.items + 2) s.frames o.node c.interface
      op.fresh_books
      (record {
        seat = subst (λ (t : EndSeat). IsNewSeat o.places.board.shared.table_id op.books o.places.ids.items (length o.threads.items)
            (length o.threads.items + 2) s.frames t.token) (sym made.inner_seat) (new_seat (length o.threads.items) inner inner_at);
        guest = λ same. absurd (omega (arith, same));
        lawful = subst AreLawful (sym made.set') op.lawful;
        set = made.set' ∙ op.set' ∙ ap (λ (v : InterfaceView). v.settings) (sym is);
        is_node = ap (λ (v : InterfaceView). v.settings.node) is ∙ i.is_node;
        nodes = ap (λ (v : InterfaceView). v.settings.nodes) is ∙ i.nodes;
        limit = ap (λ (v : InterfaceView). v.settings.log) is ∙ i.limit;
        layout = subst (λ (v : InterfaceView). IsSet (layout_of s) (own v)) (sym is) (record {
          packet = ap is_direct packet;
          once = (lawful_layout s ok).ids;
          channels = i.channels;
          tries = i.tries;
          bounces = i.bounces;
          homes = i.homes;
        });
        ins = ap length made.ins' ∙ links.all_ins;
        outs =
            record {
              all = ap length made.outs' ∙ links.all_outs;
              of = λ k out at. (let w = out_at k out at in record { from_is = w.from_is; to_is = w.to_is; planned = w.planned });
              spared = λ k out at other. (out_at k out at).room;
            };
        within_from = (let zero_at = made.starts.1 in let least = ok.settings.nodes.0 in omega (arith, zero_at, least));
        log = ap (λ (v : InterfaceView). v.log) is ∙ i.part;
        unused = ((λ k out at. (out_at k out at).sent.0), (λ k inn at. links.taken k inn (subst (λ (l : List LinkIn). slice_get l k ≡ Some inn) made.ins' at)));
        hand = made.hand';
      }))
    where
      out_at : (k : ℕ) (out : LinkOut) → slice_get c.interface.outs.items k ≡ Some out → IsOutOpened s.plan o.node (node_at k) out
      out_at k out at = links.opened k out (subst (λ (l : List LinkOut). slice_get l k ≡ Some out) made.outs' at)

  interface_sits : IsSeatOf (births_of op.books) (length c.threads.items + 2) (length c.threads.items + 1) c.interface.seat.token.me.0
  interface_sits =
      subst (λ (n : ℕ). IsSeatOf (births_of op.books) (n + 2) (n + 1) c.interface.seat.token.me.0) (sym threads_all)
      (subst (λ (t : EndSeat). IsSeatOf (births_of op.books) (length o.threads.items + 2) (length o.threads.items + 1) t.token.me.0) (sym made.inner_seat)
      (sits_at (length o.threads.items) (length o.threads.items + 1) inner refl inner_at))

  -- ---- the driver

  driver_works : NewDriversAreAtWork → IsDriverAtWork s o.places.board.shared.table_id o.places.ids.items o.node 0 c.driver
  driver_works law =
      let d = op.disk in
      let is : c.driver.swap ≡ o.swap = made.swap' in
      subst (λ (ids : Ids). IsDriverAtWork s o.places.board.shared.table_id ids o.node 0 c.driver) op.named
      (law s o.places.board.shared.table_id op.books o.places.ids.items (length o.threads.items + 1) (length o.threads.items + 2) s.keep o.node c.driver
      (record { packet = ap is_direct packet; homes = op.homes; fresh_books = op.fresh_books })
      (record {
        seat = subst (λ (t : EndSeat). IsNewSeat o.places.board.shared.table_id op.books o.places.ids.items (length o.threads.items + 1)
            (length o.threads.items + 2) s.frames t.token) (sym made.last_seat) (new_seat (length o.threads.items + 1) last last_at);
        last = omega arith;
        is_node = made.driver_node;
        disk =
            subst (IsNewDisk s o.node op.books) (sym is)
            (record { fails = d.fails; calls = d.calls; holds = all_mapped (λ (b : EndBook). b.end.value.settings) (IsOpenIn o.swap) op.books d.holds });
        view = made.view' ∙ op.view';
        clock = made.clock';
      }))

  driver_sits : IsSeatOf (births_of op.books) (length c.threads.items + 2) (length c.threads.items + 2) c.driver.seat.token.me.0
  driver_sits =
      subst (λ (n : ℕ). IsSeatOf (births_of op.books) (n + 2) (n + 2) c.driver.seat.token.me.0) (sym threads_all)
      (subst (λ (t : EndSeat). IsSeatOf (births_of op.books) (length o.threads.items + 2) (length o.threads.items + 2) t.token.me.0) (sym made.last_seat)
      (sits_at (length o.threads.items + 1) (length o.threads.items + 2) last (omega arith) last_at))

  -- ---- the crew

  pub crew_is : NewThreadsAreAtWork → NewInterfacesAreAtWork → NewDriversAreAtWork → IsCrew s o.node 0 c
  crew_is threads interfaces drivers =
      record {
        is_node = made.node';
        ids = ap (λ (p : EndPlaces). p.ids.items) made.places' ∙ op.ids;
        frames = ap (λ (p : EndPlaces). p.frames) made.places' ∙ op.frames;
        births = births_of op.books;
        declared = op.declared;
        named = threads_named;
        threads = λ k w at. record {
          at_work = subst (λ (p : EndPlaces). IsThreadAtWork s p.board.shared.table_id p.ids.items 0 w) (sym made.places')
              (thread_works threads k w at);
          seat = thread_sits k w at;
        };
        interface = subst (λ (p : EndPlaces). IsInterfaceAtWork s p.board.shared.table_id p.ids.items o.node 0 c.interface) (sym made.places')
            (interface_works interfaces);
        interface_seat = interface_sits;
        driver = subst (λ (p : EndPlaces). IsDriverAtWork s p.board.shared.table_id p.ids.items o.node 0 c.driver) (sym made.places') (driver_works drivers);
        driver_seat = driver_sits;
      }

-- nothing went over the links
pub crew_unused : (s : ScenarioLists) (node : NodeId) (outs : List LinkOut) (ins : List LinkIn) (c : NodeCrew) → AreNodeLinks s node outs ins →
    c.interface.hand ≡ None → c.interface.outs.items ≡ outs → c.interface.ins.items ≡ ins → IsUnused c
crew_unused s node outs ins c links hand is_outs is_ins =
    record {
      hand = hand;
      sent = λ k out at. (links.opened k out (subst (λ (l : List LinkOut). slice_get l k ≡ Some out) is_outs at)).sent;
      taken = λ k inn at. links.taken k inn (subst (λ (l : List LinkIn). slice_get l k ≡ Some inn) is_ins at);
    }
