-- A call of a script and a poll leave less work.
use Rattle.std.proofs.Common.{◌≡◌, ℕ, ◌+◌, ◌-◌, ◌*◌, ◌<◌, ◌≤◌, Bool, true, false, cond, ◌||◌, List, [], ◌∷◌, ◌++◌, length, Option, Some, refl, sym, ap, ◌∙◌}
use Rattle.std.proofs.Common.{subst, arith, true≢false, eqb-true, length-append}
use Rattle.std.specs.Prelude.{◌==◌, ◌&&◌, not, nat_le, filter, filter_map, slice_get, find}
use Rattle.std.specs.List.{cons_option}
use Rattle.std.proofs.lemmas.Bool.{and_parts}
use Rattle.std.proofs.lemmas.List.Elements.{filter-append, filter_map-append}
use Rattle.std.proofs.lemmas.Option.{slice_get_within}
use Rattle.am_lemmas.proofs.Lists.{count_by-empty, find_passes}
use Rattle.am_names.specs.declared.EndpointId.{EndpointId}
use Rattle.am_names.specs.Names.{is_reply}
use Rattle.am_office_entries.specs.declared.Actor.TheVariants.{Outside, Thread}
use Rattle.am_office_entries.specs.declared.Call.TheVariants as Calls
use Rattle.am_office_entries.specs.declared.Event.{Event}
use Rattle.am_office_entries.specs.declared.Event.TheVariants as Events
use Rattle.am_office_entries.specs.declared.Entry.{Entry}
use Rattle.am_model.specs.declared.Flying.{Flying}
use Rattle.am_model.specs.declared.Notice.{Notice}
use Rattle.am_model.specs.Calls.{poll}
use Rattle.am_model.specs.Endpoint.{State, Body, replies_held}
use Rattle.am_model.specs.Changes.{called, has_arrivals}
use Rattle.am_model.specs.Channels.{Channel}
use Rattle.am_model.specs.Layout.{Layout, IsLawful, declared, home}
use Rattle.am_model.specs.History.{MayFollow, state_of, is_actor_in_range, is_call_in_range}
use Rattle.am_model.proofs.Each.{each_at}
use Rattle.am_model.proofs.Received.{bit}
use Rattle.am_scenario_types.specs.declared.parts.ThreadLine.{ThreadLine}
use Rattle.am_scenario_types.specs.declared.parts.ScriptCall.{ScriptCall}
use Rattle.am_scenario_types.specs.Lists.{ScenarioLists}
use Rattle.am_model_scripts.specs.Layout.{layout_of}
use Rattle.am_model_scripts.proofs.Lawful.{lawful_layout}
use Rattle.am_model_scripts.specs.Scripts.{call_made, is_of_thread, calls_of, script_of, call_left}
use Rattle.am_model_scripts.specs.Standings.{Standing, standings}
use Rattle.am_model_scripts.specs.Follows.{is_thread}
use Rattle.am_model_scripts.proofs.Lists.{some_mapped, none_all, found_in}
use Rattle.am_model_drain.specs.declared.Turn.{Turn}
use Rattle.am_model_drain.specs.Made.{next_entry, after_event}
use Rattle.am_model_drain.specs.Ready.{off_disk_at}
use Rattle.am_model_drain.specs.Rules.{has_reply, is_pollable, poll_of}
use Rattle.am_model_drain.proofs.Quiet.{off_disk_at-quiet}
use Rattle.am_model_drain.proofs.Turns.{ready_keeps}
use Rattle.am_model_drain.proofs.Rest.{zero_of, no_reply}
use Rattle.am_model_drain.proofs.Scripts.{calls_same, driven_call}
use Rattle.am_laws_runs.specs.Turns.Work.{new_request, thread_work, work}
use Rattle.am_laws_runs.proofs.Enabled.{IsStanding, is_standing}
use Rattle.am_laws_runs.proofs.Calls.{calls_may_follow}
use Rattle.am_laws_runs.proofs.Sends.{grounded}
use Rattle.am_laws_runs.specs.Ends.Falls.{Falls, CallsFall, PollsFall}
use Rattle.am_laws_runs.proofs.Sums.{least_less}
use Rattle.am_laws_runs.proofs.Links.{sent_by, taken_by, links_still, links_untaken}
use Rattle.am_laws_runs.proofs.EndStates.{ends_work, entry_ends}
use Rattle.am_laws_runs.proofs.EndChannels.{channels_fewer, never}
use Rattle.am_laws_runs.proofs.Parts.{threads_work, links_left, channels_work, work_parts, places_fewer, acted_less}
use Rattle.am_laws_runs.proofs.Polling.{Polled, Less, Empty, Full, poll_work, call_work}
use Rattle.am_laws_runs.proofs.Moving.{off_disk_at_work}

-- ---- the calls that are left

calls_more : (thread : ℕ) (past : List Entry) (x : Entry) (c : ScriptCall) → call_made x.event ≡ Some c →
    calls_of thread (past ++ x ∷ []) ≡ calls_of thread past ++ cond (is_of_thread thread c) (c ∷ []) []
calls_more thread past x c is =
    ap (filter (is_of_thread thread)) (filter_map-append (λ (y : Entry). call_made y.event) past (x ∷ []))
    ∙ (filter-append (is_of_thread thread) (filter_map (λ (y : Entry). call_made y.event) past) (cons_option (call_made x.event) [])
    ∙ ap (λ (o : Option ScriptCall). calls_of thread past ++ filter (is_of_thread thread) (cons_option o [])) is)

-- so many calls are made: one more where the thread makes it
counted_calls : (thread : ℕ) (past : List Entry) (x : Entry) (c : ScriptCall) (b : Bool) → call_made x.event ≡ Some c → is_of_thread thread c ≡ b →
    length (calls_of thread (past ++ x ∷ [])) ≡ length (calls_of thread past) + bit b
counted_calls thread past x c b made is =
    let all : length (calls_of thread (past ++ x ∷ [])) ≡ length (calls_of thread past ++ cond b (c ∷ []) []) = ap length (calls_more thread past x c made)
    ∙ ap (λ (t : Bool). length (calls_of thread past ++ cond t (c ∷ []) [])) is in
    all ∙ by_test b
  where
    by_test : (t : Bool) → length (calls_of thread past ++ cond t (c ∷ []) []) ≡ length (calls_of thread past) + bit t
    by_test true = length-append (calls_of thread past) (c ∷ [])
    by_test false = length-append (calls_of thread past) []

times_more : (a d w : ℕ) → (a + d) * w ≡ a * w + d * w
times_more a d w = omega arith

times_less : (a b w : ℕ) → a ≤ b → a * w ≤ b * w
times_less a b w h =
    let whole : b ≡ a + (b - a) = omega (arith, h) in
    let times : b * w ≡ (a + (b - a)) * w = ap (λ (n : ℕ). n * w) whole in
    omega (arith, times, times_more a (b - a) w)

times_one : (a b w : ℕ) → b ≡ a + 1 → a * w + w ≤ b * w
times_one a b w h =
    let times : b * w ≡ (a + 1) * w = ap (λ (n : ℕ). n * w) h in
    omega (arith, times, times_more a 1 w)

threads_less : (s : ScenarioLists) (past : List Entry) (x : Entry) (c : ScriptCall) → is_thread s c.thread ≡ true → call_left s past c.thread ≡ Some c →
    call_made x.event ≡ Some c → threads_work s (past ++ x ∷ []) + (1 + new_request s) ≤ threads_work s past
threads_less s past x c known left made =
    least_less (thread_work s past) (thread_work s (past ++ x ∷ [])) (λ (t : ThreadLine). t.id == c.thread) (1 + new_request s) s.threads all here known
  where
    all : (t : ThreadLine) → thread_work s (past ++ x ∷ []) t ≤ thread_work s past t
    all t =
        times_less (length (script_of s t.id) - length (calls_of t.id (past ++ x ∷ []))) (length (script_of s t.id) - length (calls_of t.id past))
        (1 + new_request s)
        (omega (arith, counted_calls t.id past x c (is_of_thread t.id c) made refl))

    here : (t : ThreadLine) → (t.id == c.thread) ≡ true → thread_work s (past ++ x ∷ []) t + (1 + new_request s) ≤ thread_work s past t
    here t is =
        let room : length (calls_of c.thread past) < length (script_of s c.thread) =
        slice_get_within (script_of s c.thread) (length (calls_of c.thread past)) c left in
        let own : length (calls_of t.id past) < length (script_of s t.id) =
        subst (λ (i : ℕ). length (calls_of i past) < length (script_of s i)) (sym (eqb-true t.id c.thread is)) room in
        times_one (length (script_of s t.id) - length (calls_of t.id (past ++ x ∷ []))) (length (script_of s t.id) - length (calls_of t.id past))
        (1 + new_request s)
        (omega (arith, own, counted_calls t.id past x c true made is))

-- ---- the call

call_falls : (s : ScenarioLists) (past : List Entry) (c : ScriptCall) → IsLawful (layout_of s) → declared (layout_of s) c.endpoint ≡ true →
    is_thread s c.thread ≡ true → call_left s past c.thread ≡ Some c →
    work s (after_event (layout_of s) (Events.Call (Thread c.thread) c.endpoint c.call) past) < work s past
call_falls s past c ok known thread left =
    omega (arith, work_parts s past, work_parts s (past ++ x ∷ []), threads_less s past x c thread left refl, ends, links, channels, places_fewer s past x tt)
  where
    x : Entry
    x = next_entry (layout_of s) past (Events.Call (Thread c.thread) c.endpoint c.call)

    ends : ends_work s (past ++ x ∷ []) + 0 ≤ ends_work s past + new_request s
    ends = entry_ends s past x c.endpoint 0 (new_request s) ok known refl (omega (
      arith,
      call_work s s.pool c.endpoint (state_of (layout_of s) past c.endpoint) c.call,
    ))

    links : links_left s (past ++ x ∷ []) ≤ links_left s past
    links = omega (arith, links_still s past x (taken_by (past ++ x ∷ [])) refl, links_untaken s past x (sent_by past) (λ from to. refl))

    channels : channels_work s (past ++ x ∷ []) ≤ channels_work s past
    channels = channels_fewer s past x tt (λ (d : Channel). record { bound' = refl; sent' = refl; stays = λ m other u e same. never u e })

-- page-ins make no calls
paged_calls : (s : ScenarioLists) (c : ScriptCall) (past : List Entry) →
    calls_of c.thread (off_disk_at (home (layout_of s) c.endpoint) (layout_of s) c.endpoint past) ≡ calls_of c.thread past
paged_calls s c past =
    ready_keeps (λ (xs : List Entry). calls_of c.thread xs ≡ calls_of c.thread past) (λ (xs : List Entry) (x : Entry) driven same. calls_same c.thread xs x
    (driven_call x.event driven) ∙ same) past (off_disk_at (home (layout_of s) c.endpoint) (layout_of s) c.endpoint past)
    (off_disk_at-quiet (home (layout_of s) c.endpoint) (layout_of s) c.endpoint past) refl

pub calls_fall : CallsFall
calls_fall s past c run thread left =
    let layout : Layout = layout_of s in
    let mid : List Entry = off_disk_at (home layout c.endpoint) layout c.endpoint past in
    let event : Event = Events.Call (Thread c.thread) c.endpoint c.call in
    let may : MayFollow layout mid (next_entry layout mid event) =
    each_at (MayFollow layout) [] mid (next_entry layout mid event) [] (calls_may_follow s past c run left) in
    let known = (and_parts (is_actor_in_range (Thread c.thread)) (declared layout c.endpoint)
    (and_parts (is_actor_in_range (Thread c.thread) && declared layout c.endpoint) (is_call_in_range layout c.call) may.in_range).0).1 in
    let here : call_left s mid c.thread ≡ Some c = ap (λ (cs : List ScriptCall). slice_get (script_of s c.thread) (length cs)) (paged_calls s c past) ∙ left in
    omega (arith, off_disk_at_work s (home layout c.endpoint) c.endpoint past, call_falls s mid c (lawful_layout s run.lawful) known thread here)

-- ---- a poll

-- an endpoint with nothing to send, nothing in flight and no notice has room for a reply
has_slots : (b : Body) → length b.replies ≡ 0 → length b.in_flight ≡ 0 → length b.notices ≡ 0 → nat_le 16 (replies_held b) ≡ false
has_slots b r f n =
    let held : replies_held b ≡ 0 = omega (
      arith,
      r,
      count_by-empty (λ (g : Flying). is_reply g.message) b.in_flight f,
      count_by-empty (λ (w : Notice). is_reply w.message) b.notices n,
    ) in
    ap (nat_le 16) held

nothing_arrived : (b : Body) → length b.notices ≡ 0 → length b.received ≡ 0 → has_arrivals b ≡ false
nothing_arrived b n r = (λ i. not (n i == 0) || not (r i == 0))

poll_falls : (s : ScenarioLists) (past : List Entry) (e : EndpointId) → IsLawful (layout_of s) → declared (layout_of s) e ≡ true →
    length (state_of (layout_of s) past e).body.replies ≡ 0 → length (state_of (layout_of s) past e).body.in_flight ≡ 0 →
    has_arrivals (state_of (layout_of s) past e).body ≡ true → work s (after_event (layout_of s) (Events.Call Outside e Calls.Poll) past) < work s past
poll_falls s past e ok known replies flights arrived = by_poll (poll_work s e (state_of (layout_of s) past e))
  where
    x : Entry
    x = next_entry (layout_of s) past (Events.Call Outside e Calls.Poll)

    st : State
    st = state_of (layout_of s) past e

    links : links_left s (past ++ x ∷ []) ≤ links_left s past
    links = omega (arith, links_still s past x (taken_by (past ++ x ∷ [])) refl, links_untaken s past x (sent_by past) (λ from to. refl))

    channels : channels_work s (past ++ x ∷ []) ≤ channels_work s past
    channels = channels_fewer s past x tt (λ (d : Channel). record { bound' = refl; sent' = refl; stays = λ m other u e same. never u e })

    by_poll : Polled s st.body (called st Calls.Poll (poll e st st.body.notices)).body → work s (past ++ x ∷ []) < work s past
    by_poll (Less less) =
        let ends : ends_work s (past ++ x ∷ []) + 1 ≤ ends_work s past + 0 = entry_ends s past x e 1 0 ok known refl (omega (arith, less)) in
        acted_less s past x tt refl (omega (arith, ends, links, channels))
    by_poll (Empty most notices received) = absurd (true≢false (sym arrived ∙ nothing_arrived st.body notices received))
    by_poll (Full most notices full) = absurd (true≢false (sym full ∙ has_slots st.body replies flights notices))

pub polls_fall : PollsFall
polls_fall s past t run free quiet is =
    let layout : Layout = layout_of s in
    let ends : List Standing = standings layout past in
    let ok : IsLawful layout = lawful_layout s run.lawful in
    let found = some_mapped poll_of (find is_pollable ends) t is in
    let st : Standing = found.0 in
    let k : IsStanding layout past st = is_standing layout past is_pollable st ok found.1 in
    let e : EndpointId = st.setting.id in
    let none = none_all has_reply ends (no_reply ends (find has_reply ends) refl quiet) in
    let replies : length (state_of layout past e).body.replies ≡ 0 = ap (λ (z : State). length z.body.replies) (sym k.state)
    ∙ zero_of (length st.state.body.replies) (found_in is_pollable (λ (y : Standing). not (has_reply y)) ends st found.1 none) in
    let flights : length (state_of layout past e).body.in_flight ≡ 0 =
    eqb-true (length (state_of layout past e).body.in_flight) 0 (grounded s past run free e k.seated.declared') in
    let arrived : has_arrivals (state_of layout past e).body ≡ true = ap (λ (z : State). has_arrivals z.body) (sym k.state)
    ∙ find_passes is_pollable ends st found.1 in
    subst (λ (u : Turn). Falls s past u) found.2 (poll_falls s past e ok k.seated.declared' replies flights arrived)
