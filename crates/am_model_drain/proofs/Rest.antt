-- Where no rule of the drain applies, all is at rest.
use Rattle.std.proofs.Common.{◌≡◌, ℕ, ◌+◌, List, [], ◌∷◌, length, map, Option, Some, None, Bool, true, false, refl, ap, subst, cond, arith, eqb-true}
use Rattle.std.specs.Prelude.{◌==◌, ◌||◌, not, nat_lt, is_some, find, count_by, filter_map, fold, slice_get, option_map}
use Rattle.std.specs.List.{list_all, range_with_len, cons_option, AllByRecursion}
use Rattle.std.proofs.lemmas.Bool.{and_parts, and_from}
use Rattle.am_lemmas.proofs.Lists.{find_passes}
use Rattle.am_names.specs.declared.NodeId.{NodeId}
use Rattle.am_names.specs.declared.Message.{Message}
use Rattle.am_names.specs.Names.{is_request}
use Rattle.am_office_entries.specs.declared.Entry.{Entry}
use Rattle.am_model.specs.declared.Queued.{Queued}
use Rattle.am_model.specs.Endpoint.{front_of}
use Rattle.am_model.specs.History.{is_bound, channel_to}
use Rattle.am_scenario_types.specs.declared.parts.ThreadLine.{ThreadLine}
use Rattle.am_scenario_types.specs.declared.parts.ScriptCall.{ScriptCall}
use Rattle.am_scenario_types.specs.Lists.{ScenarioLists}
use Rattle.am_model_scripts.specs.Layout.{layout_of}
use Rattle.am_model_scripts.specs.Links.{first_some, nodes_of, next_receipt}
use Rattle.am_model_scripts.specs.Scripts.{calls_of, call_left}
use Rattle.am_model_scripts.specs.Standings.{Standing, standings, is_standing_of, is_missed, holds_nothing, is_idle}
use Rattle.am_model_scripts.proofs.Lists.{first_none, none_mapped, none_all, found_in}
use Rattle.am_model_drain.specs.declared.Turn.{Turn}
use Rattle.am_model_drain.specs.declared.Turn.TheVariants.{Once}
use Rattle.am_model_drain.specs.Rules.{time_out, time_out_to, time_out_at, next_time_out, page_in_of, next_page_in, has_reply, has_room, finds_room}
use Rattle.am_model_drain.specs.Rules.{has_request, send_front, send_of, next_send, Left, left_after, left_to, fewer, make_of, next_call, is_pollable, poll_of}
use Rattle.am_model_drain.specs.Rules.{next_poll, next_turn}
use Rattle.am_model_drain.specs.Laws.{is_known, has_known_front, has_no_flight, RestsAtEnd}

neither_left : (a b : Bool) → not (a || b) ≡ true → not a ≡ true
neither_left true b e = absurd (cc)
neither_left false b e = refl

neither_right : (a b : Bool) → not (a || b) ≡ true → not b ≡ true
neither_right true b e = absurd (cc)
neither_right false b e = e

is_zero : (n : ℕ) → (n == 0) ≡ true → n ≡ 0
is_zero n e = eqb-true n 0 e

twice_not : (b : Bool) → not (not b) ≡ true → b ≡ true
twice_not true e = refl
twice_not false e = absurd (cc)

pub zero_of : (n : ℕ) → not (not (n == 0)) ≡ true → n ≡ 0
zero_of n e = eqb-true n 0 (twice_not (n == 0) e)

-- an endpoint with something queued has a front message to send
sends_reply : (s : Standing) (replies requests : List Queued) → not (length replies == 0) ≡ true → send_front s (front_of replies requests) ≡ None → ⊥
sends_reply s [] requests has e = cc
sends_reply s (q ∷ qs) requests has e = cc

sends_request : (ends : List Standing) (s : Standing) (replies requests : List Queued) → finds_room ends (slice_get requests 0) ≡ true →
    send_front s (front_of replies requests) ≡ None → ⊥
sends_request ends s replies [] has e = cc
sends_request ends s [] (q ∷ qs) has e = cc
sends_request ends s (r ∷ rs) (q ∷ qs) has e = cc

pub no_reply : (ends : List Standing) (o : Option Standing) → find has_reply ends ≡ o → send_of (first_some (o ∷ find (has_request ends) ends ∷ [])) ≡ None →
    o ≡ None
no_reply ends None is e = refl
no_reply ends (Some s) is e = absurd (sends_reply s s.state.body.replies s.state.body.requests (find_passes has_reply ends s is) e)

no_request : (ends : List Standing) (o : Option Standing) → find (has_request ends) ends ≡ o → send_of (first_some (None ∷ o ∷ [])) ≡ None → o ≡ None
no_request ends None is e = refl
no_request ends (Some s) is e = absurd (sends_request ends s s.state.body.replies s.state.body.requests (find_passes (has_request ends) ends s is) e)

no_count : (received : List Message) → length received ≡ 0 → count_by is_request received ≡ 0
no_count [] e = refl
no_count (m ∷ ms) e = absurd (omega (arith, e))

-- an endpoint with nothing received has room
room : (closed : Bool) (count : ℕ) → count ≡ 0 → (closed || nat_lt count 16) ≡ true
room true count e = refl
room false count e = ap (λ (n : ℕ). nat_lt n 16) e

has_room_found : (ends : List Standing) (o : Option Standing) (p : Standing → Bool) → find p ends ≡ o →
    list_all (λ (s : Standing). not (is_pollable s)) ends ≡ true → is_some o ≡ true → has_room o ≡ true
has_room_found ends None p is none known = absurd (cc)
has_room_found ends (Some s) p is none known =
    let quiet : not (is_pollable s) ≡ true = found_in p (λ (x : Standing). not (is_pollable x)) ends s is none in
    let received : length s.state.body.received ≡ 0 = zero_of (length s.state.body.received)
    (neither_right (not (length s.state.body.notices == 0)) (not (length s.state.body.received == 0)) quiet) in
    room s.state.head.closed (count_by is_request s.state.body.received) (no_count s.state.body.received received)

no_requests : (ends : List Standing) (replies requests : List Queued) → length replies ≡ 0 → list_all (λ (s : Standing). not (is_pollable s)) ends ≡ true →
    not (finds_room ends (slice_get requests 0)) ≡ true → is_known ends (front_of replies requests) ≡ true → length requests ≡ 0
no_requests ends (r ∷ rs) requests e none no_room known = absurd (omega (arith, e))
no_requests ends [] [] e none no_room known = refl
no_requests ends [] (q ∷ qs) e none no_room known =
    let has : has_room (find (is_standing_of q.message.dest) ends) ≡ true =
    has_room_found ends (find (is_standing_of q.message.dest) ends) (is_standing_of q.message.dest) refl none known in
    let not_true : not true ≡ true = subst (λ (b : Bool). not b ≡ true) has no_room in
    absurd (cc)

nothing : (a b c d e : ℕ) → a ≡ 0 → b ≡ 0 → c ≡ 0 → d ≡ 0 → e ≡ 0 → (a + b + c + d + e == 0) ≡ true
nothing a b c d e p q r s t =
    let sum : a + b + c + d + e ≡ 0 = omega arith in
    ap (λ (n : ℕ). n == 0) sum

rests_one : (ends : List Standing) (s : Standing) → list_all (λ (x : Standing). not (is_pollable x)) ends ≡ true → not (is_pollable s) ≡ true →
    not (has_reply s) ≡ true → not (has_request ends s) ≡ true → has_known_front ends s ≡ true → has_no_flight s ≡ true → holds_nothing s ≡ true
rests_one ends s none quiet no_reply no_request known flight =
    nothing (length s.state.body.requests) (length s.state.body.replies) (length s.state.body.in_flight) (length s.state.body.notices)
    (length s.state.body.received)
    (no_requests ends s.state.body.replies s.state.body.requests (zero_of (length s.state.body.replies) no_reply) none no_request known)
    (zero_of (length s.state.body.replies) no_reply)
    (is_zero (length s.state.body.in_flight) flight)
    (zero_of (length s.state.body.notices) (neither_left (not (length s.state.body.notices == 0)) (not (length s.state.body.received == 0)) quiet))
    (zero_of (length s.state.body.received) (neither_right (not (length s.state.body.notices == 0)) (not (length s.state.body.received == 0)) quiet))

rests_all : (ends xs : List Standing) → list_all (λ (x : Standing). not (is_pollable x)) ends ≡ true →
    list_all (λ (x : Standing). not (is_pollable x)) xs ≡ true → list_all (λ (x : Standing). not (has_reply x)) xs ≡ true →
    list_all (λ (x : Standing). not (has_request ends x)) xs ≡ true → list_all (has_known_front ends) xs ≡ true → list_all has_no_flight xs ≡ true →
    list_all holds_nothing xs ≡ true
rests_all ends [] none a b c d e = refl
rests_all ends (x ∷ xs) none a b c d e =
    and_from (holds_nothing x) (list_all holds_nothing xs)
    (rests_one ends x none (and_parts _ _ a).0 (and_parts _ _ b).0 (and_parts _ _ c).0 (and_parts _ _ d).0 (and_parts _ _ e).0)
    (rests_all ends xs none (and_parts _ _ a).1 (and_parts _ _ b).1 (and_parts _ _ c).1 (and_parts _ _ d).1 (and_parts _ _ e).1)

-- ---- no time-out means no bound channel

idle_numbers : (past : List Entry) (node peer : NodeId) (numbers : List ℕ) → first_some (map (time_out node peer past) numbers) ≡ None →
    list_all (λ (number : ℕ). not (is_bound (channel_to node peer number) past)) numbers ≡ true
idle_numbers past node peer [] e = refl
idle_numbers past node peer (k ∷ ks) e =
    let parts = first_none (time_out node peer past k) (map (time_out node peer past) ks) e in
    and_from (not (is_bound (channel_to node peer k) past)) (list_all (λ (number : ℕ). not (is_bound (channel_to node peer number) past)) ks)
    (unbound (is_bound (channel_to node peer k) past) _ parts.0)
    (idle_numbers past node peer ks parts.1)
  where
    unbound : (b : Bool) (t : Turn) → cond b (Some t) None ≡ None → not b ≡ true
    unbound true t e = absurd (cc)
    unbound false t e = refl

idle_peers : (scenario : ScenarioLists) (past : List Entry) (node : NodeId) (peers : List NodeId) →
    first_some (map (time_out_to scenario past node) peers) ≡ None → AllByRecursion (λ (peer : NodeId). is_idle scenario past node peer ≡ true) peers
idle_peers scenario past node [] e = tt
idle_peers scenario past node (peer ∷ peers) e =
    let parts = first_none (time_out_to scenario past node peer) (map (time_out_to scenario past node) peers) e in
    (idle_numbers past node peer (range_with_len 0 scenario.channels) parts.0, idle_peers scenario past node peers parts.1)

pub idle_nodes : (scenario : ScenarioLists) (past : List Entry) (nodes : List NodeId) → first_some (map (time_out_at scenario past) nodes) ≡ None →
    AllByRecursion (λ (node : NodeId). AllByRecursion (λ (peer : NodeId). is_idle scenario past node peer ≡ true) (nodes_of scenario)) nodes
idle_nodes scenario past [] e = tt
idle_nodes scenario past (node ∷ nodes) e =
    let parts = first_none (time_out_at scenario past node) (map (time_out_at scenario past) nodes) e in
    (idle_peers scenario past node (nodes_of scenario) parts.0, idle_nodes scenario past nodes parts.1)

-- ---- none of the six rules applies

pub record NoRule (scenario : ScenarioLists) (past : List Entry) : Type 0 where
  pub receipt : next_receipt scenario past ≡ None
  pub time_out : next_time_out scenario past ≡ None
  pub page_in : next_page_in (standings (layout_of scenario) past) ≡ None
  pub send : next_send (standings (layout_of scenario) past) ≡ None
  pub call : next_call scenario past ≡ None
  pub poll : next_poll (standings (layout_of scenario) past) ≡ None

pub no_rule : (scenario : ScenarioLists) (past : List Entry) → next_turn scenario past ≡ None → NoRule scenario past
no_rule scenario past end =
    let ends : List Standing = standings (layout_of scenario) past in
    let r = first_none (option_map Once (next_receipt scenario past)) (next_time_out scenario past ∷ next_page_in ends ∷ next_send ends ∷ next_call scenario
    past ∷ next_poll ends ∷ []) end in
    let t = first_none (next_time_out scenario past) (next_page_in ends ∷ next_send ends ∷ next_call scenario past ∷ next_poll ends ∷ []) r.1 in
    let p = first_none (next_page_in ends) (next_send ends ∷ next_call scenario past ∷ next_poll ends ∷ []) t.1 in
    let s = first_none (next_send ends) (next_call scenario past ∷ next_poll ends ∷ []) p.1 in
    let c = first_none (next_call scenario past) (next_poll ends ∷ []) s.1 in
    let l = first_none (next_poll ends) [] c.1 in
    record { receipt = none_mapped Once (next_receipt scenario past) r.0; time_out = t.0; page_in = p.0; send = s.0; call = c.0; poll = l.0 }

pub rests_at_end : RestsAtEnd
rests_at_end scenario journal sound end =
    let ends : List Standing = standings (layout_of scenario) journal in
    let no = no_rule scenario journal end in
    let quiet = none_all is_pollable ends (none_mapped poll_of (find is_pollable ends) no.poll) in
    let replies = no_reply ends (find has_reply ends) refl no.send in
    let sender : send_of (first_some (None ∷ find (has_request ends) ends ∷ [])) ≡ None =
    subst (λ (o : Option Standing). send_of (first_some (o ∷ find (has_request ends) ends ∷ [])) ≡ None) replies no.send in
    let requests = no_request ends (find (has_request ends) ends) refl sender in
    record {
      channels = idle_nodes scenario journal (nodes_of scenario) no.time_out;
      messages = rests_all ends ends quiet quiet (none_all has_reply ends replies) (none_all (has_request ends) ends requests) sound.known
          (sound.bound no.time_out);
      wanted = none_all is_missed ends (none_mapped page_in_of (find is_missed ends) no.page_in);
    }

-- ---- no call is left

some_fewest : (ls : List Left) (best : Left) → fold fewer (Some best) ls ≡ None → ⊥
some_fewest [] best e = cc
some_fewest (l ∷ ls) best e = some_fewest ls _ e

no_left : (n : ℕ) (o : Option ScriptCall) → left_after n o ≡ None → o ≡ None
no_left n None e = refl
no_left n (Some c) e = absurd (cc)

-- the first of some threads has no call left, nor have the others
first_left : (o : Option Left) (ls : List Left) → fold fewer None (cons_option o ls) ≡ None → (o ≡ None) × (fold fewer None ls ≡ None)
first_left None ls e = (refl, e)
first_left (Some l) ls e = absurd (some_fewest ls l e)

none_left : (scenario : ScenarioLists) (journal : List Entry) (threads : List ThreadLine) →
    fold fewer None (filter_map (left_to scenario journal) threads) ≡ None → AllByRecursion (λ (t : ThreadLine). call_left scenario journal t.id ≡ None) threads
none_left scenario journal [] e = tt
none_left scenario journal (t ∷ ts) e =
    let parts = first_left (left_to scenario journal t) (filter_map (left_to scenario journal) ts) e in
    (no_left (length (calls_of t.id journal)) (call_left scenario journal t.id) parts.0, none_left scenario journal ts parts.1)

pub no_call_left : (scenario : ScenarioLists) (journal : List Entry) → next_call scenario journal ≡ None →
    AllByRecursion (λ (t : ThreadLine). call_left scenario journal t.id ≡ None) scenario.threads
no_call_left scenario journal e =
    none_left scenario journal scenario.threads (none_mapped make_of (fold fewer None (filter_map (left_to scenario journal) scenario.threads)) e)
