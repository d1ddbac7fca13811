-- A driver's move in the whole cluster, with the disks.
use Rattle.std.specs.Prelude.{nat_le, slice_index_or, slice_set}
use Rattle.std.specs.List.{filter, list_any}
use Rattle.std.proofs.Common.{◌≡◌, ℕ, zero, suc, ◌+◌, ◌<◌, ◌==◌, ◌^◌, Bool, true, false, cond, ◌||◌, ◌&&◌, List, [], ◌∷◌, ◌++◌, map, length, slice_get, Some}
use Rattle.std.proofs.Common.{refl, sym, ap, ◌∙◌, subst, arith, true≢false, if◌then◌else◌}
use Rattle.std.proofs.lemmas.List.Sums.{count_by-le-length}
use Rattle.am_lemmas.proofs.Options.{some_is}
use Rattle.std.proofs.lemmas.Option.{slice_get-get_or}
use Rattle.am_names.specs.declared.EndpointId.{EndpointId}
use Rattle.am_names.specs.declared.NodeId.{NodeId}
use Rattle.am_names.specs.Names.{same_node}
use Rattle.am_office_entries.specs.declared.Event.{Event}
use Rattle.am_office_entries.specs.declared.Event.TheVariants as Events
use Rattle.am_office_entries.specs.declared.Outcome.TheVariants as Out
use Rattle.am_office_entries.specs.declared.Entry.{Entry}
use Rattle.am_model.specs.Endpoint.{State, is_on_disk}
use Rattle.am_model.specs.History.{MayFollow, is_page_call, outcome_of, page, state_of, page_calls}
use Rattle.am_model.specs.Layout.{Fault, Layout}
use Rattle.am_model_drain.specs.Made.{next_entry, next_stamp}
use Rattle.am_model.proofs.Names.{same_end-is}
use Rattle.am_model_parts.specs.Driver.{end_moved}
use Rattle.am_model.specs.Parts.{driver_of}
use Rattle.am_model_parts.specs.Granted.{MayMove}
use Rattle.am_laws_cluster.specs.Disk.Disk.{pages_out}
use Rattle.am_model_drain.proofs.Entries.{entry_may_follow}
use Rattle.am_swap_device.specs.Causes.{fails_after, one_more}
use Rattle.am_swap_device.specs.Memory.{Store}
use Rattle.am_endpoint.specs.View.{EndpointView, state_after}
use Rattle.am_driver_moves.specs.Logs.{EndLog, kept}
use Rattle.am_machine.specs.Ends.{setting_in}
use Rattle.am_driver_moves.proofs.Stores.{one_more_is}
use Rattle.am_machine.specs.Kept.{IsOwn}
use Rattle.am_driver_moves.specs.Moves.{CanMove, IsMovedBy, outcome_with}
use Rattle.am_driver_moves.specs.Pages.{CanPage, HoldsBody, IsBodyValid, IsPagedBy, after_page, is_page, page_outcome}
use Rattle.am_machine.specs.Swaps.{AreSwaps, IsSwap}
use Rattle.am_machine.proofs.Applied.{IsNext, own_here, state_here}
use Rattle.am_machine.proofs.Moving as moving
use Rattle.am_machine.proofs.Moving.{Move}
use Rattle.am_machine.proofs.Holding.{Paging, swaps_paged, swaps_same}
use Rattle.am_machine.proofs.Joint.{set_got}
use Rattle.am_machine.proofs.Tied.{kept_at}

-- ---- what the swap answers is what comes of the page call

-- whether the call with this number fails, told by the faults of all nodes
numbers_told : (node : NodeId) (number : ℕ) (fs : List Fault) →
    list_any (λ (k : ℕ). k == number) (map (λ (f : Fault). f.number) (filter (λ (f : Fault). same_node node f.node) fs)) ≡ list_any
    (λ (f : Fault). same_node node f.node && (f.number == number)) fs
numbers_told node number [] = refl
numbers_told node number (x ∷ xs) = by_test (same_node node x.node) (numbers_told node number xs)
  where
    others : List Fault
    others = filter (λ (f : Fault). same_node node f.node) xs

    by_test : (b : Bool) → list_any (λ (k : ℕ). k == number) (map (λ (f : Fault). f.number) others) ≡ list_any
        (λ (f : Fault). same_node node f.node && (f.number == number)) xs →
        list_any (λ (k : ℕ). k == number) (map (λ (f : Fault). f.number) (cond b (x ∷ others) others)) ≡
        ((b && (x.number == number)) || list_any (λ (f : Fault). same_node node f.node && (f.number == number)) xs)
    by_test true more = ap (λ (b : Bool). (x.number == number) || b) more
    by_test false more = more

pub page_told : (layout : Layout) (journal : List Entry) (node : NodeId) (s : Store) → IsSwap layout journal node s → page_calls node journal + 1 < 2 ^ 64 →
    page layout node journal ≡ page_outcome s
page_told layout journal node s is few =
    let more : one_more s.calls ≡ page_calls node journal + 1 = one_more_is s.calls (omega (arith, is.calls, few)) ∙ ap (λ (n : ℕ). n + 1) is.calls in
    let fails : fails_after s.fails s.calls ≡ list_any (λ (f : Fault). same_node node f.node && (f.number == page_calls node journal + 1)) layout.faults =
    (λ i. list_any (λ (k : ℕ). k == more i) (is.fails i)) ∙ numbers_told node (page_calls node journal + 1) layout.faults in
    ap (λ (b : Bool). if b then Out.Failed else Out.Done) (sym fails)

-- ---- which events are page calls

page_outcome_is : (layout : Layout) (journal : List Entry) (event : Event) (node : NodeId) → driver_of event ≡ Some node → is_page event ≡ true →
    outcome_of layout journal event ≡ page layout node journal
page_outcome_is layout journal (Events.PageOut at e) node by paged = ap (λ (n : NodeId). page layout n journal) (some_is at node by)
page_outcome_is layout journal (Events.PageIn at e) node by paged = ap (λ (n : NodeId). page layout n journal) (some_is at node by)
page_outcome_is layout journal event node by paged = absurd (true≢false (sym paged))

page_called : (event : Event) (node other : NodeId) → driver_of event ≡ Some node → is_page event ≡ true → is_page_call other event ≡ same_node other node
page_called (Events.PageOut at e) node other by paged = ap (same_node other) (some_is at node by)
page_called (Events.PageIn at e) node other by paged = ap (same_node other) (some_is at node by)
page_called event node other by paged = absurd (true≢false (sym paged))

page_moved : (event : Event) (end f : EndpointId) → end_moved event ≡ Some end → pages_out f event ≡ true → f ≡ end
page_moved (Events.PageOut at e) end f is out = same_end-is f e out ∙ some_is e end is
page_moved event end f is out = absurd (true≢false (sym out))

-- ---- the move

-- a driver's move that may be made, with the swaps, of which the one at the node's place is called where it is a page call
pub record DiskMove : Type 0 where
  pub move : Move
  pub swaps : List Store
  pub s : Store
  pub at : slice_get swaps move.node.0 ≡ Some s
  pub are : AreSwaps (moving.layout_of move) move.journal swaps
  pub few : page_calls move.node move.journal + 1 < 2 ^ 64

swap_of : (c : DiskMove) → IsSwap (moving.layout_of c.move) c.move.journal c.move.node c.s
swap_of c = c.are.each c.move.node.0 c.s c.at

own_of : (c : DiskMove) → IsOwn (moving.layout_of c.move) c.move.journal (kept c.move.one)
own_of c = own_here (moving.layout_of c.move) c.move.ends c.move.journal c.move.end c.move.place c.move.one c.move.tied (moving.move_here c.move)

state_at : (c : DiskMove) → state_after c.move.one ≡ state_of (moving.layout_of c.move) c.move.journal c.move.end
state_at c = state_here (moving.layout_of c.move) c.move.ends c.move.journal c.move.end c.move.place c.move.one c.move.tied (moving.move_here c.move)

setting_at : (es : List EndLog) (k : ℕ) (e : EndLog) → slice_get es k ≡ Some e → slice_get (map setting_in es) k ≡ Some (setting_in e)
setting_at [] k e at = absurd (cc)
setting_at (d ∷ es) zero e at = let same : d ≡ e = cc in ap (λ (w : EndLog). Some (setting_in w)) same
setting_at (d ∷ es) (suc k) e at = setting_at es k e at

-- what the swap holds of an endpoint on disk
held_of : (c : DiskMove) → is_on_disk (state_after c.move.one).head.place ≡ true →
    HoldsBody c.s c.move.one.settings.pool c.move.one.settings.id (state_after c.move.one).body
held_of c on =
    let m = c.move in
    let layout = moving.layout_of m in
    let here = moving.move_here m in
    let state : state_after m.one ≡ state_of layout m.journal m.one.settings.id = state_at c ∙ ap (state_of layout m.journal) (sym here.id) in
    let held : HoldsBody c.s layout.pool m.one.settings.id (state_of layout m.journal m.one.settings.id).body =
    (swap_of c).bodies m.place (setting_in (kept m.one)) (setting_at (map kept m.ends) m.place (kept m.one) (kept_at m.ends m.place m.one here.at))
    (sym (moving.move_node m))
    (ap (λ (s : State). is_on_disk s.head.place) (sym state) ∙ on) in
    coe 0 1 (k. HoldsBody c.s (sym (own_of c).pool k) m.one.settings.id (sym state k).body) held

can_by : (c : DiskMove) (x : Entry) (event : Event) → x.event ≡ event →
    MayMove c.move.one.settings.node c.move.one.settings.id (state_after c.move.one) x event → CanMove c.s (kept c.move.one) event
can_by c x (Events.Drain at e) ev may =
    let same : Events.Drain at e ≡ Events.Drain c.move.one.settings.node c.move.one.settings.id = sym ev ∙ may.event in
    record { is_node = cc; is_end = cc; framed = may.framed; undrained = may.undrained }
can_by c x (Events.Unload at e) ev may =
    let same : Events.Unload at e ≡ Events.Unload c.move.one.settings.node c.move.one.settings.id = sym ev ∙ may.event in
    record { is_node = cc; is_end = cc; framed = may.framed; draining = may.draining; none_in_flight = may.none_in_flight }
can_by c x (Events.Load at e frame) ev may =
    let same : Events.Load at e frame ≡ Events.Load c.move.one.settings.node c.move.one.settings.id may.frame = sym ev ∙ may.event in
    record { is_node = cc; is_end = cc; on_host = may.on_host; opened = may.unclosed }
can_by c x (Events.PageOut at e) ev may =
    let same : Events.PageOut at e ≡ Events.PageOut c.move.one.settings.node c.move.one.settings.id = sym ev ∙ may.event in
    record { is_node = cc; is_end = cc; on_host = may.on_host; opened = may.unclosed }
can_by c x (Events.PageIn at e) ev may =
    let same : Events.PageIn at e ≡ Events.PageIn c.move.one.settings.node c.move.one.settings.id = sym ev ∙ may.event in
    record { is_node = cc; is_end = cc; on_disk = may.on_disk; holds = held_of c may.on_disk }
can_by c x event ev may = absurd may

pub can_move : (c : DiskMove) → CanMove c.s (kept c.move.one) c.move.event
can_move c =
    let x = next_entry (moving.layout_of c.move) c.move.journal c.move.event in
    can_by c x c.move.event refl (moving.move_allowed c.move c.move.one x refl refl refl)

-- a page call is a move of its own kind
paged_by : (s t : Store) (e f : EndLog) (event : Event) (stamp : ℕ) (x : Entry) → is_page event ≡ true → IsMovedBy s t e f event stamp x →
    IsPagedBy s t e f event stamp x
paged_by s t e f event stamp x paged by =
    record {
      entry = by.entry ∙ ap (λ (b : Bool). record { stamp = stamp; event = event; outcome = if b then page_outcome s else Out.Silent }) paged;
      swap = by.swap ∙ ap (λ (b : Bool). if b then after_page s e event else s) paged;
      valid = by.valid;
      settings = by.settings;
      log = by.log;
    }

-- what comes of it
outcome_told : (c : DiskMove) → outcome_of (moving.layout_of c.move) c.move.journal c.move.event ≡ outcome_with c.s c.move.event
outcome_told c = by_test (is_page c.move.event) refl
  where
    by_test : (b : Bool) → is_page c.move.event ≡ b → outcome_of (moving.layout_of c.move) c.move.journal c.move.event ≡
        (if b then page_outcome c.s else Out.Silent)
    by_test true paged =
        page_outcome_is (moving.layout_of c.move) c.move.journal c.move.event c.move.node c.move.driver paged
        ∙ page_told (moving.layout_of c.move) c.move.journal c.move.node c.s (swap_of c) c.few
    by_test false unpaged = sym (moving.moved_silently (moving.layout_of c.move) c.move.journal c.move.event c.move.end c.move.moved unpaged)

-- its entry is the one that the definitions give
pub move_entry : (c : DiskMove) (t : Store) (f : EndLog) (stamp : ℕ) (x : Entry) → stamp ≡ next_stamp c.move.journal →
    IsMovedBy c.s t (kept c.move.one) f c.move.event stamp x → x ≡ next_entry (moving.layout_of c.move) c.move.journal c.move.event
move_entry c t f stamp x at by =
    let outcome = outcome_told c in
    by.entry ∙ λ i. record { stamp = at i; event = c.move.event; outcome = sym outcome i }

pub disk_next : (c : DiskMove) (t : Store) (w : EndpointView) (stamp : ℕ) (x : Entry) (longer : List Entry) → stamp ≡ next_stamp c.move.journal →
    nat_le c.move.settings.log (length c.move.one.log) ≡ false → IsMovedBy c.s t (kept c.move.one) (kept w) c.move.event stamp x →
    longer ≡ c.move.journal ++ x ∷ [] → IsNext c.move.settings c.move.faults (map kept c.move.ends) c.move.journal c.move.event x
    (map kept (slice_set c.move.ends c.move.place w)) longer
disk_next c t w stamp x longer at room by more = moving.move_next c.move w x longer room (move_entry c t (kept w) stamp x at by) by.settings by.log more

-- its entry may follow
may_follow : (c : DiskMove) (t : Store) (f : EndLog) (stamp : ℕ) (x : Entry) → stamp ≡ next_stamp c.move.journal →
    IsMovedBy c.s t (kept c.move.one) f c.move.event stamp x → MayFollow (moving.layout_of c.move) c.move.journal x
may_follow c t f stamp x at by =
    subst (MayFollow (moving.layout_of c.move) c.move.journal) (sym (move_entry c t f stamp x at by))
    (entry_may_follow (moving.layout_of c.move) c.move.journal c.move.event c.move.in_range c.move.enabled)

-- the swaps after a page call
page_swaps : (c : DiskMove) (t : Store) (f : EndLog) (stamp : ℕ) (x : Entry) → is_page c.move.event ≡ true →
    MayFollow (moving.layout_of c.move) c.move.journal x → IsPagedBy c.s t (kept c.move.one) f c.move.event stamp x →
    AreSwaps (moving.layout_of c.move) (c.move.journal ++ x ∷ []) (slice_set c.swaps c.move.node.0 t)
page_swaps c t f stamp x paged may by =
    let m = c.move in
    let layout = moving.layout_of m in
    let here = moving.move_here m in
    let event : m.event ≡ x.event = sym (ap (λ (y : Entry). y.event) by.entry) in
    let p : Paging = record {
      layout = layout;
      journal = m.journal;
      node = m.node;
      end = m.end;
      x = x;
      e = kept m.one;
      s = c.s;
      t = t;
      swaps = c.swaps;
      packet = moving.move_packet m;
      lawful = m.tied.lawful;
      history = m.tied.history;
      may = may;
      home = moving.move_home m;
      id = here.id;
      pool = (own_of c).pool;
      state = state_at c;
      outcome = ap (λ (y : Entry). y.outcome) by.entry;
      called = λ other. ap (is_page_call other) (sym event) ∙ page_called m.event m.node other m.driver paged;
      moved = λ g out. page_moved m.event m.end g m.moved (ap (pages_out g) event ∙ out);
      can = subst (CanPage c.s (kept m.one)) event (can_page m.event paged (can_move c));
      after = by.swap ∙ ap (after_page c.s (kept m.one)) event;
      valid = subst (IsBodyValid (kept m.one)) event by.valid;
      few = c.few;
      at = c.at;
      are = c.are;
    } in
    swaps_paged p
  where
    can_page : (event : Event) → is_page event ≡ true → CanMove c.s (kept c.move.one) event → CanPage c.s (kept c.move.one) event
    can_page (Events.PageOut at e) paged can = can
    can_page (Events.PageIn at e) paged can = can
    can_page event paged can = absurd (true≢false (sym paged))

-- and after any move
pub move_swaps : (c : DiskMove) (t : Store) (f : EndLog) (stamp : ℕ) (x : Entry) → stamp ≡ next_stamp c.move.journal →
    IsMovedBy c.s t (kept c.move.one) f c.move.event stamp x → AreSwaps (moving.layout_of c.move) (c.move.journal ++ x ∷ []) (slice_set c.swaps c.move.node.0 t)
move_swaps c t f stamp x at by = by_test (is_page c.move.event) refl
  where
    by_test : (b : Bool) → is_page c.move.event ≡ b → AreSwaps (moving.layout_of c.move) (c.move.journal ++ x ∷ []) (slice_set c.swaps c.move.node.0 t)
    by_test true paged = page_swaps c t f stamp x paged (may_follow c t f stamp x at by) (paged_by c.s t (kept c.move.one) f c.move.event stamp x paged by)
    by_test false unpaged =
        let same : t ≡ c.s = by.swap ∙ ap (λ (b : Bool). if b then after_page c.s (kept c.move.one) c.move.event else c.s) unpaged in
        subst (AreSwaps (moving.layout_of c.move) (c.move.journal ++ x ∷ [])) (sym (set_got c.swaps c.move.node.0 c.s t c.at same))
        (swaps_same (moving.layout_of c.move) c.move.journal x c.swaps c.move.tied.lawful c.move.tied.history (may_follow c t f stamp x at by)
        (ap (λ (y : Entry). is_page y.event) by.entry ∙ unpaged) c.are)

-- ---- what was read

-- there is a swap for each node
pub swap_there : (layout : Layout) (journal : List Entry) (ss : List Store) (node : NodeId) → AreSwaps layout journal ss → layout.direct ≡ false →
    node.0 < layout.nodes → node.0 < length ss
swap_there layout journal ss node are packet lt =
    let all : length ss ≡ layout.nodes = are.all ∙ ap (λ (b : Bool). if b then 0 else layout.nodes) packet in
    omega (arith, all, lt)

pub swap_read : (ss : List Store) (k : ℕ) (s : Store) → k < length ss → s ≡ slice_index_or ss k s → slice_get ss k ≡ Some s
swap_read ss k s lt value = slice_get-get_or ss k s lt ∙ ap (λ (t : Store). Some t) (sym value)

-- page calls are entries of the journal
pub calls_few : (node : NodeId) (journal : List Entry) → length journal + 1 < 2 ^ 64 → page_calls node journal + 1 < 2 ^ 64
calls_few node journal few =
    let fewer = count_by-le-length (λ (x : Entry). is_page_call node x.event) journal in
    omega (arith, few, fewer)
