-- What all workers keep, with the books and the links, is what a good phase is made of.
use Rattle.std.specs.Prelude.{slice_get, take}
use Rattle.std.specs.List.{filter}
use Rattle.std.proofs.Common.{◌≡◌, ◌⊎◌, ⊎_elim, ℕ, zero, suc, ◌+◌, ◌<◌, ◌≤◌, ◌==◌, true, false, ◌||◌, List, [], ◌∷◌, ◌++◌, length, Option, Some, None, refl}
use Rattle.std.proofs.Common.{sym, ap, ◌∙◌, subst, arith, append_assoc, eq-eqb, Contains}
use Rattle.std.proofs.lemmas.Bool.{cases_lt}
use Rattle.am_lemmas.proofs.Options.{some_is}
use Rattle.am_names.specs.declared.EndpointId.{EndpointId}
use Rattle.am_names.specs.declared.NodeId.{NodeId}
use Rattle.am_names.specs.declared.Packet.{Packet}
use Rattle.am_names.specs.declared.Packet.TheVariants as Packets
use Rattle.am_office_entries.specs.declared.Entry.{Entry}
use Rattle.am_office_entries.specs.declared.Event.{Event}
use Rattle.am_office_entries.specs.declared.Outcome.{Outcome}
use Rattle.am_office_entries.specs.declared.Outcome.TheVariants as Out
use Rattle.am_office_entries.specs.Entries.{is_node, node_touched, touches}
use Rattle.am_model.specs.Channels.{emitted}
use Rattle.am_model.specs.Changes.{replay}
use Rattle.am_model.specs.Endpoint.{State, front}
use Rattle.am_model.specs.History.{is_in_range}
use Rattle.am_model.specs.Layout.{AllAre, home, opening}
use Rattle.am_model.specs.Parts.{driver_of, is_by_driver}
use Rattle.am_model.proofs.Names.{same_node-is}
use Rattle.am_model_parts.specs.Interface.{event_of, needs}
use Rattle.am_model_parts.specs.Numbered.{AreNumbered}
use Rattle.am_model_parts.specs.Together.{AreDeclaredOnce, ends_of}
use Rattle.am_model_parts.specs.declared.work.Work.{Work}
use Rattle.am_model_parts.specs.declared.work.Work.TheVariants as Works
use Rattle.am_model_merge.specs.Logs.{IsRising}
use Rattle.am_model_merge.specs.Right.{IsSentBefore, state_before}
use Rattle.am_model_merge.proofs.Sorted.{Has}
use Rattle.am_scenario_plan.specs.Shape.{shape}
use Rattle.am_scenario_types.specs.declared.parts.ScriptCall.{ScriptCall}
use Rattle.am_scenario_types.specs.Lists.{ScenarioLists}
use Rattle.am_model_scripts.specs.Follows as scripts
use Rattle.am_model_scripts.specs.Follows.{is_bounced_out}
use Rattle.am_model_scripts.specs.Scripts.{calls_of, script_of}
use Rattle.am_model_scripts.specs.Layout.{layout_of}
use Rattle.am_model_scripts.proofs.Lawful.{lawful_layout}
use Rattle.am_places.specs.Rule.{Begins}
use Rattle.am_workers_laws.specs.declared.books.EndBook.{EndBook}
use Rattle.am_workers_laws.specs.Phases.Crew.{AreReceipts, IsLinkOf, IsNotLast, is_last_by, is_receipt}
use Rattle.am_workers_laws.specs.Phases.Makers.{Driver, Interface, IsEndLog, IsOfMaker, Maker, Thread}
use Rattle.am_workers_laws.specs.Phases.Received.{IsOfWork}
use Rattle.am_workers_laws.specs.Phases.Then.{ByCall, ByMove, ByWant, ByWork, IsFound, StandsAfter, WasRight}
use Rattle.am_workers_laws.proofs.Received.{got_was_sent, works_are_numbered}
use Rattle.am_workers_laws.proofs.Splits.{all_at, all_from}
use Rattle.am_workers_laws.proofs.Then.{stood}
use Rattle.am_workers_laws.specs.Invariants.Seats.{seen_log}
use Rattle.am_workers_laws.specs.Invariants.Works.{AreLow, AreSeen, Calls, IsGot, IsMoveThenHere, IsThreadsThen, IsWorkThenHere, Wants, held_from}
use Rattle.am_workers_laws.specs.Ended.{DriverEnd, InterfaceEnd, IsAtWork, IsEnded, Keeps, KeepsAs, RunEnd, ThreadEnd, Worker, log_at, logs_at, workers}
use Rattle.am_workers_laws.specs.Laws.{WorkersAreDone}
use Rattle.am_workers_laws.proofs.Passes.{IsIn, all_in, contains_in}
use Rattle.am_workers_laws.proofs.HomesDone.{IsPlaced, any_end, at_home, book_there, ends_apart, got_in, home_has, log_there, low_home, placed}
use Rattle.am_workers_laws.proofs.BooksDone.{IsEntryOf, IsWholeBook, knows, whole_book}

-- ---- words on lists

nothing_has : {X : Type 0} (xs : List X) (x : X) → xs ≡ [] → Contains xs x → ⊥
nothing_has {X} xs x none c = let d = subst (λ (ys : List X). Contains ys x) none c in let less = d.1 in absurd (omega (arith, less))

all_none : {X : Type 0} (P : X → Type 0) (xs : List X) → xs ≡ [] → AllAre P xs
all_none {X} P xs none = subst (AllAre P) (sym none) tt

take_same : {X : Type 0} (n : ℕ) (xs : List X) → take (length (take n xs)) xs ≡ take n xs
take_same zero xs = refl
take_same (suc n) [] = refl
take_same {X} (suc n) (x ∷ xs) = ap (λ (ys : List X). x ∷ ys) (take_same n xs)

-- ---- where makers are at work

pub worked : (s : ScenarioLists) (r : RunEnd) → IsEnded s r → (k : Maker) (x : Entry) → Contains (r.made k) x → IsAtWork s r k
worked s r end k x has = ⊎_elim (λ (none : r.made k ≡ []). absurd (nothing_has (r.made k) x none has)) (λ (w : IsAtWork s r k). w) (end.makers k)

pub there : (s : ScenarioLists) (r : RunEnd) (k : Maker) (w : IsAtWork s r k) → IsIn (workers (r.nodes w.node)) w.worker
there s r k w = contains_in (workers (r.nodes w.node)) w.worker w.there

pub kept : (s : ScenarioLists) (r : RunEnd) → IsEnded s r → (k : Maker) (w : IsAtWork s r k) → KeepsAs s r w.node k w.worker.pass
kept s r end k w = subst (λ (m : Maker). KeepsAs s r w.node m w.worker.pass) w.maker (all_in (Keeps s r w.node) (workers (r.nodes w.node)) w.worker
    (end.nodes w.node w.declared).keeps (there s r k w))

pub declared_once : (s : ScenarioLists) (r : RunEnd) → IsEnded s r → AreDeclaredOnce (layout_of s)
declared_once s r end = (lawful_layout s end.lawful).ids

-- what touches an endpoint was made on its node
pub touched_home : (s : ScenarioLists) (r : RunEnd) → IsEnded s r → (k : Maker) (x : Entry) (e : EndpointId) (w : IsAtWork s r k) → Contains (r.made k) x →
    touches e x ≡ true → home (layout_of s) e ≡ Some w.node
touched_home s r end k x e w has is =
    at_home (layout_of s) (declared_once s r end) e w.node
    (any_end e (ends_of (layout_of s) w.node)
    (contains_in (ends_of (layout_of s) w.node) e
    ((knows s r w.node (end.nodes w.node w.declared) w.worker (there s r k w)).here x e (subst (λ (m : Maker). Contains (r.made m) x) (sym w.maker) has) is)))

-- ---- the logs of endpoints

pub book_of : (s : ScenarioLists) (r : RunEnd) → IsEnded s r →
    (node : NodeId) (d : node.0 < s.nodes) (e : EndpointId) (p : IsPlaced (ends_of (layout_of s) node) (r.nodes node).books e) →
    IsWholeBook r (r.nodes node) e p.place p.book.end.value.log
book_of s r end node d e p = whole_book s r node (end.nodes node d) p.place e p.book p.id ((end.nodes node d).taken p.place p.book p.there)

pub place_of : (s : ScenarioLists) (r : RunEnd) → IsEnded s r → (node : NodeId) → node.0 < s.nodes → (e : EndpointId) → home (layout_of s) e ≡ Some node →
    IsPlaced (ends_of (layout_of s) node) (r.nodes node).books e
place_of s r end node d e is = placed (ends_of (layout_of s) node) (r.nodes node).books e (end.nodes node d).all
    (home_has (layout_of s) (declared_once s r end) e node is)

pub entry_of : (s : ScenarioLists) (r : RunEnd) → IsEnded s r → (node : NodeId) (e : EndpointId) (k : Maker) (x : Entry) → home (layout_of s) e ≡ Some node →
    Contains (r.made k) x → touches e x ≡ true → IsEntryOf r (r.nodes node) e x
entry_of s r end node e k x is has on =
    subst (λ (n : NodeId). IsEntryOf r (r.nodes n) e x) (some_is w.node node (sym (touched_home s r end k x e w has on) ∙ is))
    (record { worker = w.worker; there = there s r k w; made = subst (λ (m : Maker). Contains (r.made m) x) (sym w.maker) has; touches' = on })
  where
    w : IsAtWork s r k
    w = worked s r end k x has

end_log : (s : ScenarioLists) (r : RunEnd) → IsEnded s r → (e : EndpointId) → IsEndLog r.made e (log_at s r (home (layout_of s) e) e)
end_log s r end e = by_home (home (layout_of s) e) refl
  where
    by_home : (o : Option NodeId) → home (layout_of s) e ≡ o → IsEndLog r.made e (log_at s r o e)
    by_home None is =
        record {
          rising = tt;
          entries = λ x. (
            (λ c. absurd (nothing_has [] x refl c)),
            (λ a. absurd (let w = worked s r end a.0.0 x a.0.1 in let h : None ≡ Some w.node = sym is ∙ touched_home s r end a.0.0 x e w a.0.1 a.1 in cc)),
          );
          small = λ x c. absurd (nothing_has [] x refl c);
        }
    by_home (Some node) is =
        let low = low_home (layout_of s) e node (lawful_layout s end.lawful).ends is in
        let p = place_of s r end node low.node' e is in
        let b = book_of s r end node low.node' e p in
        record {
          rising = subst IsRising (sym p.log) b.rising;
          entries =
              λ x. (
                (λ c. (let o = b.to x (subst (λ (xs : List Entry). Contains xs x) p.log c) in ((o.worker.maker, o.made), o.touches'))),
                (λ a. subst (λ (xs : List Entry). Contains xs x) (sym p.log) (b.from x (entry_of s r end node e a.0.0 x is a.0.1 a.1))),
              );
          small = λ x c. low.id;
        }

-- the log of an endpoint is that of its book
pub log_is : (s : ScenarioLists) (r : RunEnd) → IsEnded s r → (node : NodeId) (k : ℕ) (e : EndpointId) (b : EndBook) →
    slice_get (ends_of (layout_of s) node) k ≡ Some e → slice_get (r.nodes node).books k ≡ Some b → log_at s r (home (layout_of s) e) e ≡ b.end.value.log
log_is s r end node k e b at there' =
    ap (λ (o : Option NodeId). log_at s r o e) (at_home (layout_of s) (declared_once s r end) e node
    (any_end e (ends_of (layout_of s) node) (got_in (ends_of (layout_of s) node) k e at)))
    ∙ log_there (ends_of (layout_of s) node) (r.nodes node).books k e b (ends_apart (layout_of s) (declared_once s r end) node) at there'

seen_in : (s : ScenarioLists) (r : RunEnd) → IsEnded s r → (node : NodeId) → node.0 < s.nodes → (w : Worker) → IsIn (workers (r.nodes node)) w →
    AreSeen (ends_of (layout_of s) node) w.pass (logs_at s r).end
seen_in s r end node d w h k e at =
    let b = book_there (ends_of (layout_of s) node) (r.nodes node).books k e (end.nodes node d).all at in
    let whole = whole_book s r node (end.nodes node d) k e b.0 at ((end.nodes node d).taken k b.0 b.1) in
    subst (λ (xs : List Entry). Begins xs (seen_log k w.pass)) (sym (log_is s r end node k e b.0 at b.1)) (whole.seen w h)

-- ---- interfaces

-- an interface at its end
pub record IsIface (s : ScenarioLists) (r : RunEnd) (node : NodeId) : Type 0 where
  pub worker : Worker
  pub there' : IsIn (workers (r.nodes node)) worker
  pub end : InterfaceEnd s (ends_of (layout_of s) node) node (r.made (Interface node)) (r.sent node) (λ (from : NodeId). r.taken from node) worker.pass

pub iface_of : (s : ScenarioLists) (r : RunEnd) → IsEnded s r → (node : NodeId) → IsAtWork s r (Interface node) → IsIface s r node
iface_of s r end node w =
    let keeps = kept s r end (Interface node) w in
    subst (IsIface s r) (sym keeps.0) (record { worker = w.worker; there' = there s r (Interface node) w; end = keeps.1 })

pub iface : (s : ScenarioLists) (r : RunEnd) → IsEnded s r → (node : NodeId) → node.0 < s.nodes → IsIface s r node
iface s r end node d = iface_of s r end node (end.interfaces node d)

-- one that isn't declared made nothing
pub strange_none : (s : ScenarioLists) (r : RunEnd) → IsEnded s r → (node : NodeId) → s.nodes ≤ node.0 → r.made (Interface node) ≡ []
strange_none s r end node far =
    ⊎_elim (λ (none : r.made (Interface node) ≡ []). none)
    (λ (w : IsAtWork s r (Interface node)). absurd (let same = ap (λ (n : NodeId). n.0) (kept s r end (Interface node) w).0 in let near = w.declared in
    omega (arith, same, near, far)))
    (end.makers (Interface node))

iface_rises : (s : ScenarioLists) (r : RunEnd) → IsEnded s r → (node : NodeId) → IsRising (r.made (Interface node))
iface_rises s r end node =
    ⊎_elim (λ (d : node.0 < s.nodes). (iface s r end node d).end.works.rising) (λ (far : s.nodes ≤ node.0). subst IsRising (sym (strange_none s r end node far))
    tt) (cases_lt node.0 s.nodes)

-- an entry of the interface was right where it made it
iface_right : (s : ScenarioLists) (r : RunEnd) (end : IsEnded s r) (node : NodeId) (d : node.0 < s.nodes) (f : IsIface s r node) →
    AllAre (IsWorkThenHere s node (logs_at s r).end f.end.works.got (r.made (Interface node))) (r.made (Interface node))
iface_right s r end node d f = f.end.works.right (logs_at s r).end (seen_in s r end node d f.worker f.there')

numbered : (s : ScenarioLists) (r : RunEnd) → IsEnded s r → (node : NodeId) → AreNumbered (r.made (Interface node))
numbered s r end node =
    works_are_numbered (r.made (Interface node)) (iface_rises s r end node)
    (⊎_elim
    (λ (d : node.0 < s.nodes).
    (let f = iface s r end node d in
    all_from (IsOfWork (r.made (Interface node))) (r.made (Interface node))
    (λ x has. (let h = all_at (IsWorkThenHere s node (logs_at s r).end f.end.works.got (r.made (Interface node))) (r.made (Interface node)) x
    (iface_right s r end node d f) has in record { i = h.i; s = h.state; w = h.w; past = h.past; event = h.event; outcome = h.outcome }))))
    (λ (far : s.nodes ≤ node.0). all_none (IsOfWork (r.made (Interface node))) (r.made (Interface node)) (strange_none s r end node far))
    (cases_lt node.0 s.nodes))

-- ---- links

-- what a link released beside what was received
record HasLeft (s : ScenarioLists) (r : RunEnd) (from to : NodeId) (got : List Packet) : Type 0 where
  pub left : List Packet
  pub shaped : shape s.plan from to (emitted from to (r.made (Interface from))) ≡ got ++ left

left_of : (s : ScenarioLists) (r : RunEnd) (end : IsEnded s r) (from to : NodeId) (d : to.0 < s.nodes) (f : IsIface s r to) →
    HasLeft s r from to (f.end.works.got from)
left_of s r end from to d f =
    ⊎_elim
    (λ (near : from.0 < s.nodes).
    record {
      left = held_from from f.end.hand ++ r.left from to;
      shaped =
          ap (shape s.plan from to) (sym ((iface s r end from near).end.works.emits to))
          ∙ sym (end.closed from to near d)
          ∙ ap (λ (ps : List Packet). ps ++ r.left from to) (f.end.works.in_hand from)
          ∙ append_assoc (f.end.works.got from) (held_from from f.end.hand) (r.left from to);
    })
    (λ (far : s.nodes ≤ from.0).
    record {
      left = held_from from f.end.hand;
      shaped = ap (λ (xs : List Entry). shape s.plan from to (emitted from to xs)) (strange_none s r end from far) ∙ sym (end.strange from to far)
          ∙ f.end.works.in_hand from;
    })
    (cases_lt from.0 s.nodes)

link_by : (s : ScenarioLists) (r : RunEnd) (end : IsEnded s r) (from to : NodeId) (d : to.0 < s.nodes) (f : IsIface s r to) → IsLinkOf s (logs_at s r) from to
link_by s r end from to d f =
    record {
      got = f.end.works.got from;
      left = (left_of s r end from to d f).left;
      shaped = (left_of s r end from to d f).shaped;
      receipts = f.end.works.receipts from;
    }

link : (s : ScenarioLists) (r : RunEnd) → IsEnded s r → (from to : NodeId) → IsLinkOf s (logs_at s r) from to
link s r end from to =
    ⊎_elim (λ (d : to.0 < s.nodes). link_by s r end from to d (iface s r end to d))
    (λ (far : s.nodes ≤ to.0).
    record {
      got = [];
      left = shape s.plan from to (emitted from to (r.made (Interface from)));
      shaped = refl;
      receipts = subst (λ (xs : List Entry). AreReceipts from to [] (filter (is_receipt from to) xs)) (sym (strange_none s r end to far)) tt;
    })
    (cases_lt to.0 s.nodes)

-- ---- what was right

packet_sent : (s : ScenarioLists) (r : RunEnd) (end : IsEnded s r) (node : NodeId) (d : node.0 < s.nodes) (f : IsIface s r node) (w : Work) (below : ℕ) →
    IsGot f.end.works.got w below → IsSentBefore (logs_at s r) node w below
unfolding link_by
packet_sent s r end node d f (Works.Receive p) below g =
    let sent = got_was_sent s (logs_at s r) g.0 node (link_by s r end g.0 node d f) p (iface_rises s r end g.0) (numbered s r end g.0) g.1 in
    record { stamp = sent.stamp; emitted = sent.emitted; earlier = sent.earlier; later = g.2 }
packet_sent s r end node d f (Works.Bind e) below g = tt
packet_sent s r end node d f (Works.Expire peer channel) below g = tt

iface_was : (s : ScenarioLists) (r : RunEnd) (end : IsEnded s r) (node : NodeId) (d : node.0 < s.nodes) (f : IsIface s r node) (x : Entry) →
    is_in_range (layout_of s) x.event ≡ true → IsWorkThenHere s node (logs_at s r).end f.end.works.got (r.made (Interface node)) x →
    WasRight (layout_of s) (logs_at s r) x
iface_was s r end node d f x ranged h =
    record {
      in_range = ranged;
      then =
          ByWork
          (record {
            i = h.i;
            s = h.state;
            w = h.w;
            settings = h.settings;
            past = subst (λ (n : NodeId). StandsAfter (r.made (Interface n)) h.i.log x) (sym h.here) h.past;
            found = h.found;
            packet = subst (λ (n : NodeId). IsSentBefore (logs_at s r) n h.w x.stamp) (sym h.here) (packet_sent s r end node d f h.w x.stamp h.packet);
            event = h.event;
            enabled = h.enabled;
            outcome = h.outcome;
          });
    }

thread_was : (s : ScenarioLists) (r : RunEnd) (x : Entry) → is_in_range (layout_of s) x.event ≡ true → IsThreadsThen (layout_of s) (logs_at s r).end x →
    WasRight (layout_of s) (logs_at s r) x
thread_was s r x ranged (Calls c) = record { in_range = ranged; then = ByCall c }
thread_was s r x ranged (Wants w) = record { in_range = ranged; then = ByWant w }

driver_is : (node n : NodeId) (o : Option NodeId) → is_node node o ≡ true → o ≡ Some n → node ≡ n
driver_is node n o h is = same_node-is node n (sym (ap (is_node node) is) ∙ h)

driver_was : (s : ScenarioLists) (r : RunEnd) (node : NodeId) (x : Entry) → is_in_range (layout_of s) x.event ≡ true → is_by_driver node x ≡ true →
    IsMoveThenHere s (logs_at s r).end (r.made (Driver node)) x → WasRight (layout_of s) (logs_at s r) x
driver_was s r node x ranged own h =
    record {
      in_range = ranged;
      then =
          ByMove
          (record {
            d = h.d;
            s = h.state;
            settings = h.settings;
            past = subst (λ (n : NodeId). StandsAfter (r.made (Driver n)) h.d.log x) (driver_is node h.d.settings.node (driver_of x.event) own h.driver) h.past;
            found = h.found;
            driver = h.driver;
            enabled = h.enabled;
            outcome = h.outcome;
          });
    }

-- ---- each maker

pub record IsMakersPart (s : ScenarioLists) (r : RunEnd) (k : Maker) : Type 0 where
  pub kinds : AllAre (IsOfMaker k) (r.made k)
  pub rising : IsRising (r.made k)
  pub few : length (r.made k) ≤ s.turns
  pub low : AreLow (r.made k)
  pub right : AllAre (WasRight (layout_of s) (logs_at s r)) (r.made k)

no_part : (s : ScenarioLists) (r : RunEnd) (k : Maker) → r.made k ≡ [] → IsMakersPart s r k
no_part s r k none =
    record {
      kinds = all_none (IsOfMaker k) (r.made k) none;
      rising = subst IsRising (sym none) tt;
      few = subst (λ (xs : List Entry). length xs ≤ s.turns) (sym none) (omega arith);
      low = subst AreLow (sym none) tt;
      right = all_none (WasRight (layout_of s) (logs_at s r)) (r.made k) none;
    }

thread_part : (s : ScenarioLists) (r : RunEnd) (end : IsEnded s r) (t : ℕ) (w : IsAtWork s r (Thread t)) → IsMakersPart s r (Thread t)
thread_part s r end t w =
    record {
      kinds = own;
      rising = subst IsRising h.same h.works.clocked.rising;
      few = subst (λ (xs : List Entry). length xs ≤ s.turns) h.same (let few = h.works.few in let within = h.within in omega (arith, few, within));
      low = subst AreLow h.same h.works.clocked.low;
      right =
          all_from (WasRight (layout_of s) (logs_at s r)) (r.made (Thread t))
          (λ x has. thread_was s r x (all_at (λ (y : Entry). is_in_range (layout_of s) y.event ≡ true) (r.made (Thread t)) x ranged has)
          (all_at (IsThreadsThen (layout_of s) (logs_at s r).end) (r.made (Thread t)) x right has));
    }
  where
    h : ThreadEnd s (ends_of (layout_of s) w.node) t (r.made (Thread t)) w.worker.pass
    h = kept s r end (Thread t) w

    own : AllAre (λ (x : Entry). scripts.is_by_thread t x.event ≡ true) (r.made (Thread t))
    own = subst (AllAre (λ (x : Entry). scripts.is_by_thread t x.event ≡ true)) h.same h.works.own

    ranged : AllAre (λ (x : Entry). is_in_range (layout_of s) x.event ≡ true) (r.made (Thread t))
    ranged = subst (AllAre (λ (x : Entry). is_in_range (layout_of s) x.event ≡ true)) h.same h.works.ranged

    right : AllAre (IsThreadsThen (layout_of s) (logs_at s r).end) (r.made (Thread t))
    right = subst (AllAre (IsThreadsThen (layout_of s) (logs_at s r).end)) h.same (h.works.right (logs_at s r).end
        (seen_in s r end w.node w.declared w.worker (there s r (Thread t) w)))

itself : (n : NodeId) → is_node n (Some n) ≡ true
itself n = eq-eqb n.0 n.0 refl

of_interface : (node : NodeId) (w : Work) (e : Event) → e ≡ event_of node w → is_node node (node_touched e) ≡ true
of_interface node (Works.Receive (Packets.Parcel p)) e is = ap (λ (z : Event). is_node node (node_touched z)) is ∙ itself node
of_interface node (Works.Receive (Packets.Answer p)) e is = ap (λ (z : Event). is_node node (node_touched z)) is ∙ itself node
of_interface node (Works.Bind end) e is = ap (λ (z : Event). is_node node (node_touched z)) is ∙ itself node
of_interface node (Works.Expire peer channel) e is = ap (λ (z : Event). is_node node (node_touched z)) is ∙ itself node

iface_part : (s : ScenarioLists) (r : RunEnd) (end : IsEnded s r) (node : NodeId) (d : node.0 < s.nodes) (f : IsIface s r node) →
    IsMakersPart s r (Interface node)
iface_part s r end node d f =
    record {
      kinds = all_from (IsOfMaker (Interface node)) (r.made (Interface node)) (λ x has. (let h = right x has in of_interface node h.w x.event (h.event
          ∙ ap (λ (n : NodeId). event_of n h.w) h.here)));
      rising = f.end.works.rising;
      few = (let few = f.end.works.few in let within = f.end.within in omega (arith, few, within));
      low = f.end.works.low;
      right = all_from (WasRight (layout_of s) (logs_at s r)) (r.made (Interface node)) (λ x has. iface_was s r end node d f x
          (all_at (λ (y : Entry). is_in_range (layout_of s) y.event ≡ true) (r.made (Interface node)) x f.end.works.ranged has) (right x has));
    }
  where
    right : (x : Entry) → Has (r.made (Interface node)) x → IsWorkThenHere s node (logs_at s r).end f.end.works.got (r.made (Interface node)) x
    right x has = all_at (IsWorkThenHere s node (logs_at s r).end f.end.works.got (r.made (Interface node))) (r.made (Interface node)) x
        (iface_right s r end node d f) has

-- the driver of a node at its end
pub record IsDriverAt (s : ScenarioLists) (r : RunEnd) (node : NodeId) : Type 0 where
  pub worker : Worker
  pub declared : node.0 < s.nodes
  pub there' : IsIn (workers (r.nodes node)) worker
  pub end : DriverEnd s (ends_of (layout_of s) node) node (r.made (Driver node)) (r.nodes node).disk worker.pass

pub driver_at : (s : ScenarioLists) (r : RunEnd) → IsEnded s r → (node : NodeId) → IsAtWork s r (Driver node) → IsDriverAt s r node
driver_at s r end node w =
    let keeps = kept s r end (Driver node) w in
    subst (IsDriverAt s r) (sym keeps.0) (record { worker = w.worker; declared = w.declared; there' = there s r (Driver node) w; end = keeps.1 })

driver_part : (s : ScenarioLists) (r : RunEnd) (end : IsEnded s r) (node : NodeId) (f : IsDriverAt s r node) → IsMakersPart s r (Driver node)
driver_part s r end node f =
    record {
      kinds = own;
      rising = subst IsRising h.same h.works.clocked.rising;
      few = subst (λ (xs : List Entry). length xs ≤ s.turns) h.same (let few = h.works.few in let within = h.within in omega (arith, few, within));
      low = subst AreLow h.same h.works.clocked.low;
      right =
          all_from (WasRight (layout_of s) (logs_at s r)) (r.made (Driver node))
          (λ x has.
          driver_was s r node x (all_at (λ (y : Entry). is_in_range (layout_of s) y.event ≡ true) (r.made (Driver node)) x ranged has)
          (all_at (IsOfMaker (Driver node)) (r.made (Driver node)) x own has)
          (all_at (IsMoveThenHere s (logs_at s r).end (r.made (Driver node))) (r.made (Driver node)) x right has));
    }
  where
    h : DriverEnd s (ends_of (layout_of s) node) node (r.made (Driver node)) (r.nodes node).disk f.worker.pass
    h = f.end

    own : AllAre (IsOfMaker (Driver node)) (r.made (Driver node))
    own = subst (AllAre (IsOfMaker (Driver node))) h.same h.works.own

    ranged : AllAre (λ (x : Entry). is_in_range (layout_of s) x.event ≡ true) (r.made (Driver node))
    ranged = subst (AllAre (λ (x : Entry). is_in_range (layout_of s) x.event ≡ true)) h.same h.works.ranged

    right : AllAre (IsMoveThenHere s (logs_at s r).end (r.made (Driver node))) (r.made (Driver node))
    right = subst (λ (xs : List Entry). AllAre (IsMoveThenHere s (logs_at s r).end xs) xs) h.same
        (h.works.right (logs_at s r).end (seen_in s r end node f.declared f.worker f.there'))

at_work_part : (s : ScenarioLists) (r : RunEnd) (end : IsEnded s r) (k : Maker) → IsAtWork s r k → IsMakersPart s r k
at_work_part s r end (Thread t) w = thread_part s r end t w
at_work_part s r end (Interface node) w = iface_part s r end node (subst (λ (n : NodeId). n.0 < s.nodes) (sym (kept s r end (Interface node) w).0) w.declared)
    (iface_of s r end node w)
at_work_part s r end (Driver node) w = driver_part s r end node (driver_at s r end node w)

pub part : (s : ScenarioLists) (r : RunEnd) (end : IsEnded s r) (k : Maker) → IsMakersPart s r k
part s r end k = ⊎_elim (λ (none : r.made k ≡ []). no_part s r k none) (λ (w : IsAtWork s r k). at_work_part s r end k w) (end.makers k)

-- ---- last tries

not_last_by : (s : ScenarioLists) (states : EndpointId → State) (state : State) (node : NodeId) (w : Work) (o : Outcome) →
    ((e : EndpointId) → w ≡ Works.Bind e → states e ≡ state) → is_last_by s (λ (e : EndpointId). state) (event_of node w) o ≡ false →
    is_last_by s states (event_of node w) o ≡ false
not_last_by s states state node (Works.Receive (Packets.Parcel p)) o f h = refl
not_last_by s states state node (Works.Receive (Packets.Answer p)) o f h = refl
not_last_by s states state node (Works.Bind e) (Out.Sent m peer channel seq attempt number) f h =
    ap (λ (st : State). (attempt + 1 == s.tries) || is_bounced_out s.bounces (front st)) (f e refl) ∙ h
not_last_by s states state node (Works.Bind e) o f h = refl
not_last_by s states state node (Works.Expire peer channel) (Out.Sent m to on seq attempt number) f h = h
not_last_by s states state node (Works.Expire peer channel) (Out.Delivered serial) f h = h
not_last_by s states state node (Works.Expire peer channel) (Out.Unknown serial) f h = h
not_last_by s states state node (Works.Expire peer channel) o f h = refl

not_last_at : (s : ScenarioLists) (r : RunEnd) (end : IsEnded s r) (rising : (e : EndpointId) → IsRising ((logs_at s r).end e)) (node : NodeId) (got : NodeId →
    List Packet) (x : Entry) → IsWorkThenHere s node (logs_at s r).end got (r.made (Interface node)) x → IsNotLast s (logs_at s r) x
not_last_at s r end rising node got x h =
    subst (λ (e : Event). is_last_by s (state_before (layout_of s) (logs_at s r) x.stamp) e x.outcome ≡ false) (sym h.event)
    (not_last_by s (state_before (layout_of s) (logs_at s r) x.stamp) h.state h.i.settings.node h.w x.outcome states
    (subst (λ (e : Event). is_last_by s (λ (e : EndpointId). h.state) e x.outcome ≡ false) h.event h.not_last))
  where
    states : (e : EndpointId) → h.w ≡ Works.Bind e → state_before (layout_of s) (logs_at s r) x.stamp e ≡ h.state
    states e is =
        let found = subst (λ (w : Work). IsFound (layout_of s) (logs_at s r).end x h.state (needs h.i w)) is h.found in
        ap (replay e (opening (layout_of s) e)) (stood ((logs_at s r).end e) found.0 x (rising e) found.1) ∙ sym found.2

-- ---- all together

pub workers_are_done : WorkersAreDone
workers_are_done s r end =
    record {
      logs' =
          record {
            kinds = λ k. (part s r end k).kinds;
            rising = λ k. (part s r end k).rising;
            ends = ends;
            nodes = λ node. refl;
            drivers = λ node. refl;
          };
      right = λ k. (part s r end k).right;
      threads =
          record {
            rising = λ t. (part s r end (Thread t)).rising;
            own = λ t. (part s r end (Thread t)).kinds;
            few = λ t. (part s r end (Thread t)).few;
            begun = begun;
            declared = λ t x has. (kept s r end (Thread t) (worked s r end (Thread t) x has)).declared;
          };
      interfaces = record { few = λ node. (part s r end (Interface node)).few; not_last = not_last; links = λ from to. link s r end from to };
      drivers = λ node. (part s r end (Driver node)).few;
    }
  where
    ends : (e : EndpointId) → IsEndLog r.made e ((logs_at s r).end e)
    ends e = end_log s r end e

    begun : (t : ℕ) → calls_of t (r.made (Thread t)) ≡ take (length (calls_of t (r.made (Thread t)))) (script_of s t)
    begun t =
        ⊎_elim (λ (none : r.made (Thread t) ≡ []). subst (λ (xs : List Entry). calls_of t xs ≡ take (length (calls_of t xs)) (script_of s t)) (sym none) refl)
        (λ (w : IsAtWork s r (Thread t)).
        (let h = kept s r end (Thread t) w in
        let calls : calls_of t (r.made (Thread t)) ≡ take h.next (script_of s t) =
        subst (λ (xs : List Entry). calls_of t xs ≡ take h.next (script_of s t)) h.same h.works.calls in
        subst (λ (cs : List ScriptCall). cs ≡ take (length cs) (script_of s t)) (sym calls) (sym (take_same h.next (script_of s t)))))
        (end.makers (Thread t))

    not_last : (node : NodeId) → AllAre (IsNotLast s (logs_at s r)) (r.made (Interface node))
    not_last node =
        ⊎_elim
        (λ (d : node.0 < s.nodes).
        (let f = iface s r end node d in
        all_from (IsNotLast s (logs_at s r)) (r.made (Interface node))
        (λ x has.
        not_last_at s r end (λ e. (ends e).rising) node f.end.works.got x
        (all_at (IsWorkThenHere s node (logs_at s r).end f.end.works.got (r.made (Interface node))) (r.made (Interface node)) x (iface_right s r end node d f)
        has))))
        (λ (far : s.nodes ≤ node.0). all_none (IsNotLast s (logs_at s r)) (r.made (Interface node)) (strange_none s r end node far))
        (cases_lt node.0 s.nodes)
