-- What a driver's moves leave of the work: all but the endpoints on disk and the page calls that are to fail.
use Rattle.std.proofs.Common.{◌≡◌, ℕ, zero, suc, ◌+◌, ◌≤◌, Bool, true, false, List, length, Option, Some, None, refl, sym, ap, ◌∙◌, arith, true≢false}
use Rattle.std.specs.Prelude.{◌&&◌, not, is_none, count_by, find, sum_by}
use Rattle.am_names.specs.declared.EndpointId.{EndpointId}
use Rattle.am_names.specs.declared.NodeId.{NodeId}
use Rattle.am_names.specs.Names.{same_end}
use Rattle.am_office_entries.specs.declared.Event.{Event}
use Rattle.am_office_entries.specs.declared.Event.TheVariants as Events
use Rattle.am_office_entries.specs.declared.Outcome.{Outcome}
use Rattle.am_office_entries.specs.declared.Outcome.TheVariants as Out
use Rattle.am_office_entries.specs.declared.Entry.{Entry}
use Rattle.am_model.specs.Endpoint.{State, is_on_disk, is_on_host}
use Rattle.am_model.specs.Changes.{changed, paged_in}
use Rattle.am_model.specs.Layout.{Layout, EndSetting, IsLawful, has_id, home}
use Rattle.am_model.specs.Channels.{Channel, sends}
use Rattle.am_model.specs.History.{state_of}
use Rattle.am_model.proofs.Ends.{attempt_push}
use Rattle.am_model.proofs.Names.{same_end-is, same_end-refl}
use Rattle.am_model.proofs.Received.{bit}
use Rattle.am_scenario_types.specs.Lists.{ScenarioLists}
use Rattle.am_model_scripts.specs.Layout.{layout_of}
use Rattle.am_model_scripts.specs.Scripts.{call_made}
use Rattle.am_model_scripts.specs.Standings.{Standing, standings, standing_in}
use Rattle.am_model_drain.specs.Made.{next_entry, after_event, after_event_if}
use Rattle.am_model_drain.specs.Ready.{paged_in as page_ins, off_disk, off_disk_at, is_draining_in_frame, not_draining, free_frame, may_leave, unloaded}
use Rattle.am_model_drain.specs.Ready.{paged_out, spare, emptied, emptied_if, with_frame, loaded_into, ready, ready_at, ready_dest_if, ready_dest}
use Rattle.am_model_drain.proofs.LastTries.{emitted_same, received_same}
use Rattle.am_model_drain.proofs.Quiet.{is_driven}
use Rattle.am_model_drain.proofs.Scripts.{calls_same}
use Rattle.am_laws_runs.specs.Turns.Work.{is_standing_on_disk, work}
use Rattle.am_laws_runs.proofs.Falling.{IsStill, ends_same, nodes_same, threads_same, IsOnDiskBefore, on_disk_bit, disk_fewer}
use Rattle.am_laws_runs.proofs.Moves.{moves, Spares, spares, move_keeps, after_move}
use Rattle.am_laws_runs.proofs.Sums.{most_more, ends_most}
use Rattle.am_laws_runs.proofs.EndStates.{sum_mapped}
use Rattle.am_laws_runs.proofs.Parts.{faults_kept}

-- ---- what no move changes

move_sends : (e : EndpointId) (c : Channel) (event : Event) (o : Outcome) → moves e event → sends c event o ≡ false
move_sends e c (Events.Drain node end) o m = refl
move_sends e c (Events.Unload node end) o m = refl
move_sends e c (Events.Load node end frame) o m = refl
move_sends e c (Events.PageOut node end) o m = refl
move_sends e c (Events.PageIn node end) o m = refl
move_sends e c event o m = absurd m

move_driven : (e : EndpointId) (layout : Layout) (past : List Entry) (event : Event) → moves e event → is_driven (next_entry layout past event) ≡ true
move_driven e layout past (Events.Drain node end) m = refl
move_driven e layout past (Events.Unload node end) m = refl
move_driven e layout past (Events.Load node end frame) m = refl
move_driven e layout past (Events.PageOut node end) m = refl
move_driven e layout past (Events.PageIn node end) m = refl
move_driven e layout past event m = absurd m

move_calls : (e : EndpointId) (event : Event) → moves e event → call_made event ≡ None
move_calls e (Events.Drain node end) m = refl
move_calls e (Events.Unload node end) m = refl
move_calls e (Events.Load node end frame) m = refl
move_calls e (Events.PageOut node end) m = refl
move_calls e (Events.PageIn node end) m = refl
move_calls e event m = absurd m

move_still : (layout : Layout) (past : List Entry) (e : EndpointId) (event : Event) → moves e event → IsStill layout past (after_event layout event past)
move_still layout past e event m =
    let x : Entry = next_entry layout past event in
    let k : Spares layout past (after_event layout event past) = spares layout e past (after_event layout event past) (move_keeps e layout past event m) in
    record {
      body' = k.body';
      bound' = k.bound';
      attempt' = λ c. attempt_push c past x false (move_sends e c event x.outcome m);
      emitted' = λ from to. emitted_same from to past x (move_driven e layout past event m);
      received' = λ from to. received_same from to past x (move_driven e layout past event m);
      calls' = λ thread. calls_same thread past x (move_calls e event m);
    }

-- the endpoints on disk
abbrev disk_count : ScenarioLists → List Entry → ℕ
disk_count s past = count_by is_standing_on_disk (standings (layout_of s) past)

-- where the work is that of the moved endpoint alone
still_work : (s : ScenarioLists) (past : List Entry) (e : EndpointId) (event : Event) (n : ℕ) → moves e event →
    disk_count s (after_event (layout_of s) event past) ≤ disk_count s past + n → work s (after_event (layout_of s) event past) ≤ work s past + n
still_work s past e event n m few =
    let k : IsStill (layout_of s) past (after_event (layout_of s) event past) = move_still (layout_of s) past e event m in
    omega (
      arith,
      few,
      threads_same s past (after_event (layout_of s) event past) k,
      ends_same s past (after_event (layout_of s) event past) k (layout_of s).ends,
      nodes_same s past (after_event (layout_of s) event past) k,
      faults_kept past (next_entry (layout_of s) past event) (layout_of s).faults,
    )

-- ---- a move that is no page-out

abbrev IsNoPageOut : Event → Type 0
IsNoPageOut (Events.PageOut node end) = ⊥
IsNoPageOut event = Unit {0}

in_place : (st : State) (o : Outcome) → is_on_disk (paged_in st o).head.place ≡ true → is_on_disk st.head.place ≡ true
in_place st Out.Done h = absurd (true≢false (sym h))
in_place st o h = h

moved_place : (e : EndpointId) (st : State) (event : Event) (o : Outcome) → moves e event → IsNoPageOut event →
    is_on_disk (changed e st event o).head.place ≡ true → is_on_disk st.head.place ≡ true
moved_place e st (Events.Drain node end) o m out h = h
moved_place e st (Events.Unload node end) o m out h = absurd (true≢false (sym h))
moved_place e st (Events.Load node end frame) o m out h = absurd (true≢false (sym h))
moved_place e st (Events.PageOut node end) o m out h = absurd out
moved_place e st (Events.PageIn node end) o m out h = in_place st o h
moved_place e st event o m out h = absurd m

move_work : (s : ScenarioLists) (past : List Entry) (e : EndpointId) (event : Event) → moves e event → IsNoPageOut event →
    work s (after_event (layout_of s) event past) ≤ work s past
move_work s past e event m out =
    let few = disk_fewer (layout_of s) past (after_event (layout_of s) event past) before (layout_of s).ends in
    let level = still_work s past e event 0 m (omega (arith, few)) in
    omega (arith, level)
  where
    before : IsOnDiskBefore (layout_of s) past (after_event (layout_of s) event past)
    before f h = by_same (same_end f e) refl
      where
        by_same : (b : Bool) → same_end f e ≡ b → is_on_disk (state_of (layout_of s) past f).head.place ≡ true
        by_same true is =
            let own : is_on_disk (state_of (layout_of s) (after_event (layout_of s) event past) e).head.place ≡ true =
            ap (λ (i : EndpointId). is_on_disk (state_of (layout_of s) (after_event (layout_of s) event past) i).head.place) (sym (same_end-is f e is))
            ∙ h in
            let at = moved_place e (state_of (layout_of s) past e) event (next_entry (layout_of s) past event).outcome m out
            (ap (λ (z : State). is_on_disk z.head.place) (sym (after_move e (layout_of s) past event m)) ∙ own) in
            ap (λ (i : EndpointId). is_on_disk (state_of (layout_of s) past i).head.place) (same_end-is f e is) ∙ at
        by_same false is = ap (λ (z : State). is_on_disk z.head.place) (sym ((move_keeps e (layout_of s) past event m).others f is)) ∙ h

move_if_work : (s : ScenarioLists) (past : List Entry) (e : EndpointId) (event : Event) (b : Bool) → moves e event → IsNoPageOut event →
    work s (after_event_if b (layout_of s) event past) ≤ work s past
move_if_work s past e event true m out = move_work s past e event m out
move_if_work s past e event false m out = omega arith

-- ---- a page-out

bit_most : (b c : Bool) → bit b ≤ bit c + 1
bit_most true c = omega arith
bit_most false c = omega arith

page_out_work : (s : ScenarioLists) (past : List Entry) (node : NodeId) (e : EndpointId) → IsLawful (layout_of s) →
    work s (after_event (layout_of s) (Events.PageOut node e) past) ≤ work s past + 1
page_out_work s past node e ok = still_work s past e (Events.PageOut node e) 1 refl (omega (arith, mapped past, mapped next, more))
  where
    next : List Entry
    next = after_event (layout_of s) (Events.PageOut node e) past

    on_disk : List Entry → EndSetting → ℕ
    on_disk xs x = bit (is_on_disk (state_of (layout_of s) xs x.id).head.place)

    mapped : (xs : List Entry) → disk_count s xs ≡ sum_by (on_disk xs) (layout_of s).ends
    mapped xs = sum_mapped on_disk_bit (standing_in (layout_of s) xs) (layout_of s).ends

    other : (f : EndpointId) → same_end e f ≡ false → same_end f e ≡ false
    other f apart = by_test (same_end f e) refl
      where
        by_test : (b : Bool) → same_end f e ≡ b → b ≡ false
        by_test true is = sym (ap (same_end e) (same_end-is f e is) ∙ same_end-refl e) ∙ apart
        by_test false is = refl

    more : sum_by (on_disk next) (layout_of s).ends ≤ sum_by (on_disk past) (layout_of s).ends + 1
    more =
        most_more (on_disk past) (on_disk next) (has_id e) 1 (layout_of s).ends
        (λ (x : EndSetting) is.
        let same : on_disk next x ≡ on_disk past x = ap (λ (z : State). bit (is_on_disk z.head.place))
        ((move_keeps e (layout_of s) past (Events.PageOut node e) refl).others x.id (other x.id is)) in
        omega (arith, same))
        (λ (x : EndSetting) is. bit_most (is_on_disk (state_of (layout_of s) next x.id).head.place) (is_on_disk (state_of (layout_of s) past x.id).head.place))
        (ends_most e (layout_of s).ends ok.ids)

-- ---- off the disk

page_ins_work : (n : ℕ) (s : ScenarioLists) (node : NodeId) (e : EndpointId) (past : List Entry) → work s (page_ins n (layout_of s) node e past) ≤ work s past
page_ins_work zero s node e past = omega arith
page_ins_work (suc n) s node e past =
    let next : List Entry = after_event_if (is_on_disk (state_of (layout_of s) past e).head.place) (layout_of s) (Events.PageIn node e) past in
    omega (arith, page_ins_work n s node e next, move_if_work s past e (Events.PageIn node e) (is_on_disk (state_of (layout_of s) past e).head.place) refl tt)

pub off_disk_work : (s : ScenarioLists) (node : NodeId) (e : EndpointId) (past : List Entry) → work s (off_disk (layout_of s) node e past) ≤ work s past
off_disk_work s node e past = page_ins_work (length (layout_of s).faults + 1) s node e past

pub off_disk_at_work : (s : ScenarioLists) (o : Option NodeId) (e : EndpointId) (past : List Entry) → work s (off_disk_at o (layout_of s) e past) ≤ work s past
off_disk_at_work s None e past = omega arith
off_disk_at_work s (Some node) e past = off_disk_work s node e past

-- ---- ready

unloaded_work : (s : ScenarioLists) (o : Option Standing) (past : List Entry) → work s (unloaded (layout_of s) o past) ≤ work s past
unloaded_work s None past = omega arith
unloaded_work s (Some st) past =
    let next : List Entry = after_event_if (not st.state.head.draining) (layout_of s) (Events.Drain st.setting.node st.setting.id) past in
    omega (
      arith,
      move_if_work s past st.setting.id (Events.Drain st.setting.node st.setting.id) (not st.state.head.draining) refl tt,
      move_work s next st.setting.id (Events.Unload st.setting.node st.setting.id) refl tt,
    )

paged_out_work : (s : ScenarioLists) (o : Option Standing) (past : List Entry) → IsLawful (layout_of s) →
    work s (paged_out (layout_of s) o past) ≤ work s past + 1
paged_out_work s None past ok = omega arith
paged_out_work s (Some st) past ok = page_out_work s past st.setting.node st.setting.id ok

emptied_work : (s : ScenarioLists) (node : NodeId) (source dest : EndpointId) (past : List Entry) → IsLawful (layout_of s) →
    work s (emptied (layout_of s) s.keep node source dest past) ≤ work s past + 1
emptied_work s node source dest past ok =
    let next : List Entry = unloaded (layout_of s) (find (may_leave node source dest) (standings (layout_of s) past)) past in
    omega (
      arith,
      unloaded_work s (find (may_leave node source dest) (standings (layout_of s) past)) past,
      paged_out_work s (spare s.keep node source dest (standings (layout_of s) next)) next ok,
    )

emptied_if_work : (s : ScenarioLists) (b : Bool) (node : NodeId) (source dest : EndpointId) (past : List Entry) → IsLawful (layout_of s) →
    work s (emptied_if b (layout_of s) s.keep node source dest past) ≤ work s past + 1
emptied_if_work s true node source dest past ok = emptied_work s node source dest past ok
emptied_if_work s false node source dest past ok = omega arith

loaded_into_work : (s : ScenarioLists) (o : Option ℕ) (node : NodeId) (e : EndpointId) (past : List Entry) →
    work s (loaded_into o (layout_of s) node e past) ≤ work s past
loaded_into_work s None node e past = omega arith
loaded_into_work s (Some frame) node e past = move_if_work s past e (Events.Load node e frame) (is_on_host (state_of (layout_of s) past e).head.place) refl tt

-- making an endpoint ready sends at most one to disk
ready_work : (s : ScenarioLists) (node : NodeId) (e source dest : EndpointId) (past : List Entry) → IsLawful (layout_of s) →
    work s (ready (layout_of s) s.keep node e source dest past) ≤ work s past + 1
ready_work s node e source dest past ok =
    let one : List Entry = off_disk (layout_of s) node e past in
    let two : List Entry = not_draining (layout_of s) node e one in
    let three : List Entry = with_frame (layout_of s) s.keep node e source dest two in
    omega (
      arith,
      off_disk_work s node e past,
      move_if_work s one e (Events.Unload node e) (is_draining_in_frame (state_of (layout_of s) one e)) refl tt,
      emptied_if_work s (is_on_host (state_of (layout_of s) two e).head.place && is_none (free_frame (layout_of s) node (standings (layout_of s) two))) node
          source dest two ok,
      loaded_into_work s (free_frame (layout_of s) node (standings (layout_of s) three)) node e three,
    )

ready_at_work : (s : ScenarioLists) (o : Option NodeId) (source dest : EndpointId) (past : List Entry) → IsLawful (layout_of s) →
    work s (ready_at o (layout_of s) s.keep source dest past) ≤ work s past + 1
ready_at_work s None source dest past ok = omega arith
ready_at_work s (Some node) source dest past ok = ready_work s node dest source dest past ok

ready_if_work : (s : ScenarioLists) (b : Bool) (source dest : EndpointId) (past : List Entry) → IsLawful (layout_of s) →
    work s (ready_dest_if b (layout_of s) s.keep source dest past) ≤ work s past + 1
ready_if_work s true source dest past ok = ready_at_work s (home (layout_of s) dest) source dest past ok
ready_if_work s false source dest past ok = omega arith

-- making both endpoints of a message ready sends at most two to disk
pub both_ready_work : (s : ScenarioLists) (node : NodeId) (e dest : EndpointId) (past : List Entry) → IsLawful (layout_of s) →
    work s (ready_dest (layout_of s) s.keep e dest (ready (layout_of s) s.keep node e e dest past)) ≤ work s past + 2
both_ready_work s node e dest past ok =
    let one : List Entry = ready (layout_of s) s.keep node e e dest past in
    omega (
      arith,
      ready_work s node e e dest past ok,
      ready_if_work s (not (same_end e dest) && not (state_of (layout_of s) one dest).head.closed) e dest one
          ok,
    )
