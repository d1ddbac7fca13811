-- What the worker of an interface keeps over a turn.
use Rattle.std.specs.Prelude.{is_err, slice_get}
use Rattle.std.proofs.Common.{◌≡◌, ℕ, ◌+◌, ◌<◌, ◌≤◌, List, ◌++◌, length, Option, Some, sym, ap, ◌∙◌, subst, arith, true, false, OnOk, OnErr, Result, Ok, Err, true≢false}
use Rattle.atomic_table.specs.Seated.{TableId}
use Rattle.atomic_table.specs.declared.shared.Seat as tokens
use Rattle.am_names.specs.declared.NodeId.{NodeId}
use Rattle.am_names.specs.declared.Packet.{Packet}
use Rattle.am_office_entries.specs.declared.Entry.{Entry}
use Rattle.am_model.specs.Channels.{emitted}
use Rattle.am_model.specs.Endpoint.{entry_at}
use Rattle.am_model_parts.specs.Together.{IsSet}
use Rattle.am_iface.specs.Settings.{AreLawful, SettingsView}
use Rattle.am_iface.specs.View.{InterfaceView, own}
use Rattle.am_scenario_plan.specs.Shape.{shape}
use Rattle.am_scenario_types.specs.Lists.{ScenarioLists}
use Rattle.am_scenario_types.specs.Lawful.{IsLawful}
use Rattle.am_model_scripts.specs.Layout.{layout_of}
use Rattle.am_wire.specs.Links.{SameLink}
use Rattle.am_wire.specs.declared.sending.LinkOut.{LinkOut}
use Rattle.am_workers_laws.specs.declared.books.EndBook.{EndBook}
use Rattle.am_workers_laws.specs.Invariants.Seats.{EndPass, Ids, IsIdle}
use Rattle.am_workers_laws.specs.Invariants.Works.{Hand, InterfaceWorks, held_from}
use Rattle.am_workers.specs.Turns.Servers.{sent_to}
use Rattle.am_workers.specs.AtWork.{AreOuts, IsInterfaceAtWork, IsWay, SameOuts, sent_by, taken_by}
use Rattle.am_workers.specs.Ways.{CanServe, HaveRoom, HaveRoomBut, Prepares, Serves}
use Rattle.am_workers.specs.declared.workers.InterfaceWorker.{InterfaceWorker}
use Rattle.am_workers.specs.declared.workers.Stop.{Stop}
use Rattle.am_workers.proofs.Linking.{as_there}

-- ---- works

-- the same was sent, and what was taken is in hand
works_with : (s : ScenarioLists) (ids : Ids) (node : NodeId) (turns : ℕ) (log : List Entry) (sent sent' taken taken' : NodeId →
    List Packet) (hand hand' : Hand) (v : EndPass) (t : InterfaceWorks s ids node turns log sent taken hand v) → ((to : NodeId) → sent' to ≡ sent to) →
    ((from : NodeId) → taken' from ≡ t.got from ++ held_from from hand') → InterfaceWorks s ids node turns log sent' taken' hand' v
works_with s ids node turns log sent sent' taken taken' hand hand' v t same held =
    record {
      born = t.born;
      knows = t.knows;
      guest = t.guest;
      rising = t.rising;
      low = t.low;
      few = t.few;
      ranged = t.ranged;
      emits = λ to. same to
          ∙ t.emits to;
      got = t.got;
      receipts = t.receipts;
      in_hand = held;
      right = t.right;
    }

-- ---- links

way_stays : (s : ScenarioLists) (from to : NodeId) (o p : LinkOut) → IsWay s from to o → SameLink o p → IsWay s from to p
way_stays s from to o p way same =
    record {
      from_is = same.from ∙ way.from_is;
      to_is = same.to ∙ way.to_is;
      planned = λ sent. (λ k. shape (same.plan k).items from to sent)
          ∙ way.planned sent;
    }

outs_stay : (s : ScenarioLists) (node : NodeId) (last last' : ℕ) (a b : List LinkOut) → AreOuts s node last a → SameOuts a b → HaveRoomBut last' b →
    AreOuts s node last' b
outs_stay s node last last' a b h same room =
    record {
      all = same.all ∙ h.all;
      of = λ k o at. (let p : (x : LinkOut) × (slice_get a k ≡ Some x) = as_there a b k o same.all at in
          way_stays s node _ p.0 o (h.of k p.0 p.1) (same.each k p.0 o p.1 at));
      spared = room;
    }

-- ---- a worker between turns

module _ (s : ScenarioLists) (table : TableId) (ids : Ids) (node : NodeId) where
  pub at_more : (turns more : ℕ) (w : InterfaceWorker) → turns ≤ more → IsInterfaceAtWork s table ids node turns w → IsInterfaceAtWork s table ids node more w
  at_more turns more w le h =
      record {
        idle = h.idle;
        lawful = h.lawful;
        set = h.set;
        is_node = h.is_node;
        nodes = h.nodes;
        limit = h.limit;
        layout = h.layout;
        ins = h.ins;
        outs = h.outs;
        within_from = h.within_from;
        so_far = h.so_far;
        within = let a : h.so_far ≤ turns = h.within in omega (arith, le);
        works = h.works;
      }

  pub at_stop : (turns : ℕ) (w : InterfaceWorker) (stop : Option Stop) → IsInterfaceAtWork s table ids node turns w →
      IsInterfaceAtWork s table ids node turns (record w { stop = stop })
  at_stop turns w stop h =
      record {
        idle = h.idle;
        lawful = h.lawful;
        set = h.set;
        is_node = h.is_node;
        nodes = h.nodes;
        limit = h.limit;
        layout = h.layout;
        ins = h.ins;
        outs = h.outs;
        within_from = h.within_from;
        so_far = h.so_far;
        within = h.within;
        works = h.works;
      }

  pub prepared : (turns : ℕ) (w u : InterfaceWorker) → Prepares w u → IsInterfaceAtWork s table ids node turns w → IsInterfaceAtWork s table ids node turns u
  prepared turns w u p h =
      record {
        idle = subst (λ (z : tokens.Seat (Option EndBook) EndPass). IsIdle table z) (sym p.token) h.idle;
        lawful = subst AreLawful (sym p.set) h.lawful;
        set = p.set ∙ h.set ∙ ap (λ (i : InterfaceView). i.settings) (sym p.interface);
        is_node = ap (λ (i : InterfaceView). i.settings.node) p.interface ∙ h.is_node;
        nodes = ap (λ (i : InterfaceView). i.settings.nodes) p.interface ∙ h.nodes;
        limit = ap (λ (i : InterfaceView). i.settings.log) p.interface ∙ h.limit;
        layout = subst (λ (i : InterfaceView). IsSet (layout_of s) (own i)) (sym p.interface) h.layout;
        ins = p.ins.all ∙ h.ins;
        outs = subst (λ (n : ℕ). AreOuts s node n u.outs.items) (sym p.last) (outs_stay s node w.last w.last w.outs.items u.outs.items h.outs p.outs.same
            (p.spared h.outs.spared));
        within_from = let a : w.from < s.nodes = h.within_from in let b : length w.ins.items ≡ s.nodes = h.ins in
            let c : u.from < length u.ins.items = p.within (omega (arith, a, b)) in let d : length u.ins.items ≡ length w.ins.items = p.ins.all in
            omega (arith, b, c, d);
        so_far = h.so_far;
        within = h.within;
        works = subst (λ (z : tokens.Seat (Option EndBook) EndPass). InterfaceWorks s ids node h.so_far u.interface.log (sent_by u.outs.items)
            (taken_by u.ins.items) u.hand z.me.0) (sym p.token)
            (subst (λ (i : InterfaceView). InterfaceWorks s ids node h.so_far i.log (sent_by u.outs.items) (taken_by u.ins.items) u.hand w.seat.token.me.0)
            (sym p.interface)
            (works_with s ids node h.so_far w.interface.log (sent_by w.outs.items) (sent_by u.outs.items) (taken_by w.ins.items) (taken_by u.ins.items) w.hand
            u.hand w.seat.token.me.0 h.works p.outs.sent (λ from. p.taken from (h.works.got from) (h.works.in_hand from))));
      }

  -- it may do a work where there is room on its links
  pub can_serve : (turns count : ℕ) (w : InterfaceWorker) → IsInterfaceAtWork s table ids node turns w → count ≡ length ids → HaveRoom w.outs.items →
      CanServe table count ids w
  can_serve turns count w h counted room =
      record {
        idle = h.idle;
        counted = counted;
        guest = h.works.guest;
        births = h.works.knows.births;
        lawful = h.lawful;
        settings = h.set;
        nodes = h.outs.all
            ∙ sym h.nodes;
        room = room;
      }

  layout_stays : (i j : InterfaceView) → j.settings ≡ i.settings → IsSet (layout_of s) (own i) → IsSet (layout_of s) (own j)
  layout_stays i j same h =
      record {
        packet = h.packet;
        once = h.once;
        channels = ap (λ (z : SettingsView). z.channels) same ∙ h.channels;
        tries = ap (λ (z : SettingsView). z.tries) same ∙ h.tries;
        bounces = ap (λ (z : SettingsView). z.bounces) same ∙ h.bounces;
        homes = λ e. ap (λ (z : SettingsView). entry_at z.homes e.0) same ∙ h.homes e;
      }

  pub served : (turns : ℕ) (w u : InterfaceWorker) → IsLawful s → Serves table ids w u → IsInterfaceAtWork s table ids node turns w →
      IsInterfaceAtWork s table ids node (turns + 1) u
  served turns w u lawful v h =
      record {
        idle = v.idle;
        lawful = subst AreLawful (sym v.set) h.lawful;
        set = v.set ∙ h.set ∙ sym v.settings;
        is_node = ap (λ (z : SettingsView). z.node) v.settings ∙ h.is_node;
        nodes = ap (λ (z : SettingsView). z.nodes) v.settings ∙ h.nodes;
        limit = ap (λ (z : SettingsView). z.log) v.settings ∙ h.limit;
        layout = layout_stays w.interface u.interface v.settings h.layout;
        ins = (λ k. length (v.ins k).items) ∙ h.ins;
        outs = outs_stay s node w.last u.last w.outs.items u.outs.items h.outs v.outs v.spared;
        within_from = subst (λ (n : ℕ). n < s.nodes) (sym v.from_node) h.within_from;
        so_far = h.so_far + 1;
        within = let a : h.so_far ≤ turns = h.within in omega (arith, a);
        works = subst (λ (n : NodeId). InterfaceWorks s ids n (h.so_far + 1) u.interface.log (sent_by u.outs.items) (taken_by u.ins.items) u.hand
            u.seat.token.me.0) h.is_node
            (v.works s h.so_far (record { set = h.layout; tries = lawful.settings.tries.0; nodes = h.nodes })
            (subst (λ (n : NodeId). InterfaceWorks s ids n h.so_far w.interface.log (sent_by w.outs.items) (taken_by w.ins.items) w.hand w.seat.token.me.0)
            (sym h.is_node) h.works));
      }

-- ---- the same seat

-- ---- what is emitted

-- what the log then emits was sent
pub sends_all : (node : NodeId) (log log' : List Entry) (a b : List LinkOut) (out : Option Packet) → ((to : NodeId) → sent_by a to ≡ emitted node to log) →
    ((to : NodeId) → sent_by b to ≡ sent_by a to ++ sent_to to out) → ((to : NodeId) → emitted node to log' ≡ emitted node to log ++ sent_to to out) →
    (to : NodeId) → sent_by b to ≡ emitted node to log'
sends_all node log log' a b out before more now to = more to ∙ ap (λ (ps : List Packet). ps ++ sent_to to out) (before to) ∙ sym (now to)

-- ---- a look at the links that found no room

pub on_ok : {T E : Type 0} (r : Result T E) (P : Type 0) → is_err r ≡ false → OnOk r P → P
on_ok (Ok x) P is h = h
on_ok (Err e) P is h = absurd (true≢false is)

pub on_err : {T E : Type 0} (r : Result T E) (P : Type 0) → is_err r ≡ true → OnErr r P → P
on_err (Ok x) P is h = absurd (true≢false (sym is))
on_err (Err e) P is h = h

pub prepares_stopped : (v u : InterfaceWorker) (stop : Option Stop) → Prepares v u → Prepares v (record u { stop = stop })
prepares_stopped v u stop p =
    record {
      token = p.token;
      interface = p.interface;
      set = p.set;
      last = p.last;
      outs = p.outs;
      spared = p.spared;
      ins = p.ins;
      within = p.within;
      taken = p.taken;
    }
