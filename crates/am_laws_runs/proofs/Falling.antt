-- What a page-in leaves of the work: all but the endpoints on disk and the faults that are left.
use Rattle.std.proofs.Common.{◌≡◌, ℕ, ◌+◌, ◌-◌, ◌*◌, ◌<◌, ◌≤◌, Bool, true, false, cond, ◌||◌, List, [], ◌∷◌, map, length, Option, Some, None, refl, sym, ap}
use Rattle.std.proofs.Common.{◌∙◌, subst, arith, true≢false, append-nil, ltb-true, lt-ltb, eqb-true, if◌then◌else◌}
use Rattle.std.specs.Prelude.{◌&&◌, ◌==◌, count_by, sum_by, drop, find}
use Rattle.std.specs.List.{list_any, range_with_len}
use Rattle.std.proofs.lemmas.Bool.{and_parts}
use Rattle.std.proofs.lemmas.List.Sums.{sum_by-cons, sum_by_push}
use Rattle.am_lemmas.proofs.Lists.{find_passes}
use Rattle.am_names.specs.declared.EndpointId.{EndpointId}
use Rattle.am_names.specs.declared.NodeId.{NodeId}
use Rattle.am_names.specs.declared.Message.{Message}
use Rattle.am_names.specs.Names.{same_end, same_node}
use Rattle.am_office_entries.specs.declared.Event.TheVariants as Events
use Rattle.am_office_entries.specs.declared.Outcome.TheVariants as Out
use Rattle.am_office_entries.specs.declared.Entry.{Entry}
use Rattle.am_model.specs.Endpoint.{State, is_on_disk}
use Rattle.am_model.specs.Changes.{flying_of, paged_in}
use Rattle.am_model.specs.Layout.{Layout, EndSetting, Fault, has_id, declared}
use Rattle.am_model.specs.Channels.{Channel, bound_message, attempt, emitted}
use Rattle.am_model.specs.History.{channel_to, bounced, is_page_call, page, state_of, page_calls}
use Rattle.am_model.proofs.Ends.{attempt_push}
use Rattle.am_model.proofs.Received.{bit}
use Rattle.am_model.proofs.Names.{same_end-is, same_node-is, same_node-refl}
use Rattle.am_scenario_plan.specs.Shape.{fault_at, shape}
use Rattle.am_scenario_types.specs.declared.parts.ThreadLine.{ThreadLine}
use Rattle.am_scenario_types.specs.Lists.{ScenarioLists}
use Rattle.am_model_scripts.specs.Layout.{layout_of}
use Rattle.am_model_scripts.proofs.Lawful.{lawful_layout}
use Rattle.am_model_scripts.specs.Links.{nodes_of, received}
use Rattle.am_model_scripts.specs.Scripts.{calls_of, script_of}
use Rattle.am_model_scripts.specs.Standings.{Standing, standings, is_missed, standing_in}
use Rattle.am_model_scripts.proofs.Links.{emitted_push, received_push}
use Rattle.am_model_scripts.proofs.Lists.{some_mapped}
use Rattle.am_model_drain.specs.declared.Turn.{Turn}
use Rattle.am_model_drain.specs.Made.{next_entry, after_event}
use Rattle.am_model_drain.specs.Rules.{page_in_of}
use Rattle.am_model_drain.specs.Drain.{after_turn}
use Rattle.am_model_drain.proofs.Scripts.{calls_same}
use Rattle.am_laws_runs.specs.Turns.Work.{time_outs, bindings, copy_of, packet_copy, queued_work, received_work, end_work, bound_work, channel_work}
use Rattle.am_laws_runs.specs.Turns.Work.{still_late, link_work, node_work, thread_work, new_request, is_fault_left, is_standing_on_disk, work}
use Rattle.am_laws_runs.specs.Turns.Endings.{PageInsFall}
use Rattle.am_laws_runs.proofs.Enabled.{IsStanding, is_standing}
use Rattle.am_laws_runs.proofs.Paging.{after_page_in}
use Rattle.am_laws_runs.proofs.Moves.{Spares, spares, move_keeps}

-- ---- what no driver changes

-- what the messages, the links and the threads are as they were
pub record IsStill (layout : Layout) (past next : List Entry) : Type 0 where
  pub body' : (f : EndpointId) → (state_of layout next f).body ≡ (state_of layout past f).body
  pub bound' : (c : Channel) → bound_message c next ≡ bound_message c past
  pub attempt' : (c : Channel) → attempt c next ≡ attempt c past
  pub emitted' : (from to : NodeId) → emitted from to next ≡ emitted from to past
  pub received' : (from to : NodeId) → received from to next ≡ received from to past
  pub calls' : (thread : ℕ) → calls_of thread next ≡ calls_of thread past

page_in_still : (layout : Layout) (past : List Entry) (node : NodeId) (e : EndpointId) → IsStill layout past (after_event layout (Events.PageIn node e) past)
page_in_still layout past node e =
    let x : Entry = next_entry layout past (Events.PageIn node e) in
    let k : Spares layout past (after_event layout (Events.PageIn node e) past) =
    spares layout e past (after_event layout (Events.PageIn node e) past) (move_keeps e layout past (Events.PageIn node e) refl) in
    record {
      body' = k.body';
      bound' = k.bound';
      attempt' = λ c. attempt_push c past x false refl;
      emitted' = λ from to. emitted_push from to past x ∙ append-nil (emitted from to past);
      received' = λ from to. received_push from to past x ∙ append-nil (received from to past);
      calls' = λ thread. calls_same thread past x refl;
    }

-- ---- the work of the messages

pub ends_same : (s : ScenarioLists) (past next : List Entry) → IsStill (layout_of s) past next → (xs : List EndSetting) →
    sum_by (end_work s) (map (standing_in (layout_of s) next) xs) ≡ sum_by (end_work s) (map (standing_in (layout_of s) past) xs)
ends_same s past next k [] = refl
ends_same s past next k (x ∷ xs) =
    sum_by-cons (end_work s) (standing_in (layout_of s) next x) (map (standing_in (layout_of s) next) xs)
    ∙ ((λ i. (sum_by (queued_work s) (k.body' x.id i).requests + sum_by (queued_work s) (k.body' x.id i).replies + length (k.body' x.id i).notices + sum_by
    (received_work s) (k.body' x.id i).received) + ends_same s past next k xs i)
    ∙ sym (sum_by-cons (end_work s) (standing_in (layout_of s) past x) (map (standing_in (layout_of s) past) xs)))

bound_same : (s : ScenarioLists) (past next : List Entry) → IsStill (layout_of s) past next → (c : Channel) (o : Option Message) →
    bound_work s next c o ≡ bound_work s past c o
bound_same s past next k c None = refl
bound_same s past next k c (Some m) =
    λ i. time_outs (copy_of s m) (s.tries - 1 - k.attempt' c i) + bindings s.tries (copy_of s m)
    (s.bounces - bounced (flying_of m.serial (k.body' m.serial.source i).in_flight))

channel_same : (s : ScenarioLists) (past next : List Entry) → IsStill (layout_of s) past next → (c : Channel) → channel_work s next c ≡ channel_work s past c
channel_same s past next k c = ap (bound_work s next c) (k.bound' c) ∙ bound_same s past next k c (bound_message c past)

link_same : (s : ScenarioLists) (past next : List Entry) → IsStill (layout_of s) past next → (from to : NodeId) →
    link_work s next from to ≡ link_work s past from to
link_same s past next k from to =
    λ i. sum_by (packet_copy s) (drop (length (k.received' from to i)) (shape s.plan from to (k.emitted' from to i))) + sum_by (packet_copy s)
    (still_late (fault_at s.plan from to) (length (k.emitted' from to i)) 1 (k.emitted' from to i))

pub nodes_same : (s : ScenarioLists) (past next : List Entry) → IsStill (layout_of s) past next →
    sum_by (node_work s next) (nodes_of s) ≡ sum_by (node_work s past) (nodes_of s)
nodes_same s past next k =
    λ i. sum_by (λ (node : NodeId). sum_by (λ (peer : NodeId). link_same s past next k node peer i + sum_by
    (λ (number : ℕ). channel_same s past next k (channel_to node peer number) i) (range_with_len 0 s.channels)) (nodes_of s)) (nodes_of s)

pub threads_same : (s : ScenarioLists) (past next : List Entry) → IsStill (layout_of s) past next →
    sum_by (thread_work s next) s.threads ≡ sum_by (thread_work s past) s.threads
threads_same s past next k = λ i. sum_by (λ (t : ThreadLine). (length (script_of s t.id) - length (k.calls' t.id i)) * (1 + new_request s)) s.threads

-- ---- endpoints on disk

pub bit_le : (a b : Bool) → (a ≡ true → b ≡ true) → cond a 1 0 ≤ cond b 1 0
bit_le true true h = omega arith
bit_le true false h = absurd (true≢false (sym (h refl)))
bit_le false b h = omega arith

abbrev pub IsOnDiskBefore : Layout → List Entry → List Entry → Type 0
IsOnDiskBefore layout past next =
    (f : EndpointId) → is_on_disk (state_of layout next f).head.place ≡ true → is_on_disk (state_of layout past f).head.place ≡ true

abbrev pub on_disk_bit : Standing → ℕ
on_disk_bit st = cond (is_standing_on_disk st) 1 0

pub disk_fewer : (layout : Layout) (past next : List Entry) → IsOnDiskBefore layout past next → (xs : List EndSetting) →
    count_by is_standing_on_disk (map (standing_in layout next) xs) ≤ count_by is_standing_on_disk (map (standing_in layout past) xs)
disk_fewer layout past next h [] = omega arith
disk_fewer layout past next h (x ∷ xs) =
    omega (
      arith,
      sum_by-cons on_disk_bit (standing_in layout next x) (map (standing_in layout next) xs),
      sum_by-cons on_disk_bit (standing_in layout past x) (map (standing_in layout past) xs),
      bit_le (is_on_disk (state_of layout next x.id).head.place) (is_on_disk (state_of layout past x.id).head.place) (h x.id),
      disk_fewer layout past next h xs,
    )

disk_less : (layout : Layout) (past next : List Entry) (e : EndpointId) → IsOnDiskBefore layout past next →
    is_on_disk (state_of layout past e).head.place ≡ true → is_on_disk (state_of layout next e).head.place ≡ false → (xs : List EndSetting) →
    list_any (has_id e) xs ≡ true → count_by is_standing_on_disk (map (standing_in layout next) xs) + 1 ≤ count_by is_standing_on_disk
    (map (standing_in layout past) xs)
disk_less layout past next e h on off [] known = absurd (true≢false (sym known))
disk_less layout past next e h on off (x ∷ xs) known = by_test (same_end e x.id) refl known (disk_less layout past next e h on off xs)
  where
    by_test : (b : Bool) → same_end e x.id ≡ b → (b || list_any (has_id e) xs) ≡ true → (list_any (has_id e) xs ≡ true →
        count_by is_standing_on_disk (map (standing_in layout next) xs) + 1 ≤ count_by is_standing_on_disk (map (standing_in layout past) xs)) →
        count_by is_standing_on_disk (map (standing_in layout next) (x ∷ xs)) + 1 ≤ count_by is_standing_on_disk (map (standing_in layout past) (x ∷ xs))
    by_test true is k later =
        let here : on_disk_bit (standing_in layout past x) ≡ bit true =
        ap (λ (i : EndpointId). bit (is_on_disk (state_of layout past i).head.place)) (sym (same_end-is e x.id is)) ∙ ap bit on in
        let gone : on_disk_bit (standing_in layout next x) ≡ bit false =
        ap (λ (i : EndpointId). bit (is_on_disk (state_of layout next i).head.place)) (sym (same_end-is e x.id is)) ∙ ap bit off in
        omega (
          arith,
          here,
          gone,
          sum_by-cons on_disk_bit (standing_in layout next x) (map (standing_in layout next) xs),
          sum_by-cons on_disk_bit (standing_in layout past x) (map (standing_in layout past) xs),
          disk_fewer layout past next h xs,
        )
    by_test false is k later =
        omega (
          arith,
          sum_by-cons on_disk_bit (standing_in layout next x) (map (standing_in layout next) xs),
          sum_by-cons on_disk_bit (standing_in layout past x) (map (standing_in layout past) xs),
          bit_le (is_on_disk (state_of layout next x.id).head.place) (is_on_disk (state_of layout past x.id).head.place) (h x.id),
          later k,
        )

-- ---- faults that are left

abbrev pub fault_bit : List Entry → Fault → ℕ
fault_bit past f = cond (is_fault_left past f) 1 0

calls_more : (layout : Layout) (past : List Entry) (node on : NodeId) (e : EndpointId) →
    page_calls on (after_event layout (Events.PageIn node e) past) ≡ page_calls on past + cond (same_node on node) 1 0
calls_more layout past node on e = sum_by_push (λ (y : Entry). cond (is_page_call on y.event) 1 0) past (next_entry layout past (Events.PageIn node e))

left_before : (layout : Layout) (past : List Entry) (node : NodeId) (e : EndpointId) (f : Fault) →
    is_fault_left (after_event layout (Events.PageIn node e) past) f ≡ true → is_fault_left past f ≡ true
left_before layout past node e f h =
    lt-ltb (page_calls f.node past) f.number (omega (
      arith,
      ltb-true (page_calls f.node (after_event layout (Events.PageIn node e) past)) f.number h,
      calls_more layout past node f.node e,
    ))

faults_fewer : (layout : Layout) (past : List Entry) (node : NodeId) (e : EndpointId) (fs : List Fault) →
    count_by (is_fault_left (after_event layout (Events.PageIn node e) past)) fs ≤ count_by (is_fault_left past) fs
faults_fewer layout past node e [] = omega arith
faults_fewer layout past node e (f ∷ fs) =
    omega (
      arith,
      sum_by-cons (fault_bit (after_event layout (Events.PageIn node e) past)) f fs,
      sum_by-cons (fault_bit past) f fs,
      bit_le (is_fault_left (after_event layout (Events.PageIn node e) past) f) (is_fault_left past f) (left_before layout past node e f),
      faults_fewer layout past node e fs,
    )

faults_less : (layout : Layout) (past : List Entry) (node : NodeId) (e : EndpointId) (fs : List Fault) →
    list_any (λ (f : Fault). same_node node f.node && (f.number == page_calls node past + 1)) fs ≡ true →
    count_by (is_fault_left (after_event layout (Events.PageIn node e) past)) fs + 1 ≤ count_by (is_fault_left past) fs
faults_less layout past node e [] h = absurd (true≢false (sym h))
faults_less layout past node e (f ∷ fs) h = by_test (same_node node f.node && (f.number == page_calls node past + 1)) refl h (faults_less layout past node e fs)
  where
    gone : (b : Bool) → is_fault_left (after_event layout (Events.PageIn node e) past) f ≡ b → same_node node f.node ≡ true →
        f.number ≡ page_calls node past + 1 → b ≡ false
    gone false is own number = refl
    gone true is own number =
        let same : node ≡ f.node = same_node-is node f.node own in
        let calls : page_calls f.node past ≡ page_calls node past = ap (λ (n : NodeId). page_calls n past) (sym same) in
        let one : bit (same_node f.node node) ≡ bit true = ap (λ (n : NodeId). bit (same_node f.node n)) same ∙ ap bit (same_node-refl f.node) in
        absurd (omega (
          arith,
          ltb-true (page_calls f.node (after_event layout (Events.PageIn node e) past)) f.number is,
          calls_more layout past node f.node e,
          one,
          calls,
          number,
        ))

    there : same_node node f.node ≡ true → f.number ≡ page_calls node past + 1 → is_fault_left past f ≡ true
    there own number =
        let calls : page_calls f.node past ≡ page_calls node past = ap (λ (n : NodeId). page_calls n past) (sym (same_node-is node f.node own)) in
        lt-ltb (page_calls f.node past) f.number (omega (arith, calls, number))

    by_test : (b : Bool) → (same_node node f.node && (f.number == page_calls node past + 1)) ≡ b →
        (b || list_any (λ (g : Fault). same_node node g.node && (g.number == page_calls node past + 1)) fs) ≡ true →
        (list_any (λ (g : Fault). same_node node g.node && (g.number == page_calls node past + 1)) fs ≡ true →
        count_by (is_fault_left (after_event layout (Events.PageIn node e) past)) fs + 1 ≤ count_by (is_fault_left past) fs) →
        count_by (is_fault_left (after_event layout (Events.PageIn node e) past)) (f ∷ fs) + 1 ≤ count_by (is_fault_left past) (f ∷ fs)
    by_test true is k later =
        let parts = and_parts (same_node node f.node) (f.number == page_calls node past + 1) is in
        let number : f.number ≡ page_calls node past + 1 = eqb-true f.number (page_calls node past + 1) parts.1 in
        let before : fault_bit past f ≡ bit true = ap bit (there parts.0 number) in
        let now : fault_bit (after_event layout (Events.PageIn node e) past) f ≡ bit false =
        ap bit (gone (is_fault_left (after_event layout (Events.PageIn node e) past) f) refl parts.0 number) in
        omega (
          arith,
          before,
          now,
          sum_by-cons (fault_bit (after_event layout (Events.PageIn node e) past)) f fs,
          sum_by-cons (fault_bit past) f fs,
          faults_fewer layout past node e fs,
        )
    by_test false is k later =
        omega (
          arith,
          sum_by-cons (fault_bit (after_event layout (Events.PageIn node e) past)) f fs,
          sum_by-cons (fault_bit past) f fs,
          bit_le (is_fault_left (after_event layout (Events.PageIn node e) past) f) (is_fault_left past f) (left_before layout past node e f),
          later k,
        )

-- ---- a page-in

page_in_falls : (s : ScenarioLists) (past : List Entry) (node : NodeId) (e : EndpointId) → declared (layout_of s) e ≡ true →
    is_on_disk (state_of (layout_of s) past e).head.place ≡ true → work s (after_event (layout_of s) (Events.PageIn node e) past) < work s past
page_in_falls s past node e known on = by_page (list_any (λ (f : Fault). same_node node f.node && (f.number == page_calls node past + 1)) (layout_of s).faults)
    refl
  where
    still : IsStill (layout_of s) past (after_event (layout_of s) (Events.PageIn node e) past)
    still = page_in_still (layout_of s) past node e

    before : IsOnDiskBefore (layout_of s) past (after_event (layout_of s) (Events.PageIn node e) past)
    before f h = by_same (same_end f e) refl
      where
        by_same : (b : Bool) → same_end f e ≡ b → is_on_disk (state_of (layout_of s) past f).head.place ≡ true
        by_same true is = ap (λ (i : EndpointId). is_on_disk (state_of (layout_of s) past i).head.place) (same_end-is f e is) ∙ on
        by_same false is = ap (λ (z : State). is_on_disk z.head.place) (sym ((move_keeps e (layout_of s) past (Events.PageIn node e) refl).others f is)) ∙ h

    messages : sum_by (thread_work s (after_event (layout_of s) (Events.PageIn node e) past)) s.threads + sum_by (end_work s)
        (standings (layout_of s) (after_event (layout_of s) (Events.PageIn node e) past)) + sum_by
        (node_work s (after_event (layout_of s) (Events.PageIn node e) past)) (nodes_of s) ≡ sum_by (thread_work s past) s.threads + sum_by (end_work s)
        (standings (layout_of s) past) + sum_by (node_work s past) (nodes_of s)
    messages =
        λ i. threads_same s past (after_event (layout_of s) (Events.PageIn node e) past) still i + ends_same s past
        (after_event (layout_of s) (Events.PageIn node e) past) still (layout_of s).ends i + nodes_same s past
        (after_event (layout_of s) (Events.PageIn node e) past) still i

    by_page : (b : Bool) → list_any (λ (f : Fault). same_node node f.node && (f.number == page_calls node past + 1)) (layout_of s).faults ≡ b →
        work s (after_event (layout_of s) (Events.PageIn node e) past) < work s past
    by_page true fails =
        omega (
          arith,
          messages,
          disk_fewer (layout_of s) past (after_event (layout_of s) (Events.PageIn node e) past) before (layout_of s).ends,
          faults_less (layout_of s) past node e (layout_of s).faults fails,
        )
    by_page false works =
        let done : page (layout_of s) node past ≡ Out.Done = ap (λ (b : Bool). if b then Out.Failed else Out.Done) works in
        let off : is_on_disk (state_of (layout_of s) (after_event (layout_of s) (Events.PageIn node e) past) e).head.place ≡ false =
        ap (λ (z : State). is_on_disk z.head.place) (after_page_in (layout_of s) node e past ∙ ap (paged_in (state_of (layout_of s) past e)) done) in
        omega (
          arith,
          messages,
          disk_less (layout_of s) past (after_event (layout_of s) (Events.PageIn node e) past) e before on off (layout_of s).ends known,
          faults_fewer (layout_of s) past node e (layout_of s).faults,
        )

pub page_ins_fall : PageInsFall
page_ins_fall s past t run is =
    let found = some_mapped page_in_of (find is_missed (standings (layout_of s) past)) t is in
    let k : IsStanding (layout_of s) past found.0 = is_standing (layout_of s) past is_missed found.0 (lawful_layout s run.lawful) found.1 in
    let missed = and_parts found.0.state.head.wanted (is_on_disk found.0.state.head.place)
    (find_passes is_missed (standings (layout_of s) past) found.0 found.1) in
    let on : is_on_disk (state_of (layout_of s) past found.0.setting.id).head.place ≡ true = ap (λ (z : State). is_on_disk z.head.place) (sym k.state)
    ∙ missed.1 in
    subst (λ (u : Turn). work s (after_turn s past u) < work s past) found.2 (page_in_falls s past found.0.setting.node found.0.setting.id k.seated.declared'
    on)
