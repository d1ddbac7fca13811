-- Where a run is at its end, no rule of the drain applies.
use Rattle.std.specs.Prelude.{◌↔◌, IsTrue, is_none, is_some, ◌==◌, ◌||◌, not, find, filter_map, fold, slice_get, option_map}
use Rattle.std.specs.List.{list_all, range_with_len, cons_option, AllByRecursion}
use Rattle.std.proofs.Common.{◌≡◌, ℕ, ◌+◌, Bool, true, false, cond, Option, Some, None, List, [], ◌∷◌, length, map, refl, sym, ap, ◌∙◌, arith, eqb-true}
use Rattle.std.proofs.lemmas.Bool.{and_parts, not-true}
use Rattle.am_names.specs.declared.NodeId.{NodeId}
use Rattle.am_office_entries.specs.declared.Entry.{Entry}
use Rattle.am_office_entries.specs.declared.Event.TheVariants as Events
use Rattle.am_model.specs.declared.Queued.{Queued}
use Rattle.am_model.specs.History.{is_bound, channel_to}
use Rattle.am_scenario_types.specs.declared.parts.ThreadLine.{ThreadLine}
use Rattle.am_scenario_types.specs.declared.parts.ScriptCall.{ScriptCall}
use Rattle.am_scenario_types.specs.Lists.{ScenarioLists}
use Rattle.am_model_scripts.specs.Layout.{layout_of}
use Rattle.am_model_scripts.specs.Links.{first_some, nodes_of}
use Rattle.am_model_scripts.specs.Scripts.{calls_of, script_of}
use Rattle.am_model_scripts.specs.Standings.{Standing, standings, is_missed, holds_nothing, is_idle}
use Rattle.am_model_drain.specs.declared.Turn.{Turn}
use Rattle.am_model_drain.specs.declared.Turn.TheVariants.{Once}
use Rattle.am_model_drain.specs.Rules.{Left, fewer, finds_room, has_reply, has_request, is_pollable, left_after, left_to, make_of, next_call, next_page_in}
use Rattle.am_model_drain.specs.Rules.{next_poll, next_send, next_time_out, next_turn, page_in_of, poll_of, send_of, time_out, time_out_at, time_out_to}
use Rattle.am_model.specs.History.{IsHistory}
use Rattle.am_scenario_types.specs.Lawful.{IsLawful}
use Rattle.am_model_scripts.specs.Scripts.{BeginsScripts}
use Rattle.am_model_scripts.proofs.Done.{scripts_are_done}
use Rattle.am_model_drain.proofs.Rest.{NoRule, no_call_left, no_rule, rests_at_end}
use Rattle.am_laws_runs.proofs.Soundness.{histories_are_sound}
use Rattle.am_check.specs.Follows.{IsRunEnded}

-- none of some there is
none_from : {X Y : Type 0} (f : X → Option Y) (P : X → Type 0) → ((x : X) → P x → f x ≡ None) → (xs : List X) → AllByRecursion P xs →
    first_some (map f xs) ≡ None
none_from f P step [] h = refl
none_from f P step (x ∷ xs) h = ap (λ o. first_some (o ∷ map f xs)) (step x h.0) ∙ none_from f P step xs h.1

none_of : {X Y : Type 0} (f : X → Option Y) (p : X → Bool) → ((x : X) → p x ≡ true → f x ≡ None) → (xs : List X) → list_all p xs ≡ true →
    first_some (map f xs) ≡ None
none_of f p step [] h = refl
none_of f p step (x ∷ xs) h =
    let both = and_parts (p x) (list_all p xs) h in
    ap (λ o. first_some (o ∷ map f xs)) (step x both.0) ∙ none_of f p step xs both.1

none_found : {X : Type 0} (p q : X → Bool) → ((x : X) → q x ≡ true → p x ≡ false) → (xs : List X) → list_all q xs ≡ true → find p xs ≡ None
none_found p q step [] h = refl
none_found p q step (x ∷ xs) h =
    let both = and_parts (q x) (list_all q xs) h in
    ap (λ b. cond b (Some x) (find p xs)) (step x both.0) ∙ none_found p q step xs both.1

-- ---- channels

idle_number : (past : List Entry) (node peer : NodeId) (number : ℕ) → not (is_bound (channel_to node peer number) past) ≡ true →
    time_out node peer past number ≡ None
idle_number past node peer number h = ap (λ (b : Bool). cond b (Some (Once (Events.Expire node peer number))) None)
    (not-true (is_bound (channel_to node peer number) past) h)

idle_peer : (s : ScenarioLists) (past : List Entry) (node peer : NodeId) → is_idle s past node peer ≡ true → time_out_to s past node peer ≡ None
idle_peer s past node peer h = none_of (time_out node peer past) (λ (number : ℕ). not (is_bound (channel_to node peer number) past))
    (idle_number past node peer) (range_with_len 0 s.channels) h

idle_node : (s : ScenarioLists) (past : List Entry) (node : NodeId) → AllByRecursion (λ (peer : NodeId). is_idle s past node peer ≡ true) (nodes_of s) →
    time_out_at s past node ≡ None
idle_node s past node h = none_from (time_out_to s past node) (λ (peer : NodeId). is_idle s past node peer ≡ true) (idle_peer s past node) (nodes_of s) h

-- ---- endpoints

record IsEmpty (s : Standing) : Type 0 where
  requests : length s.state.body.requests ≡ 0
  replies : length s.state.body.replies ≡ 0
  notices : length s.state.body.notices ≡ 0
  received : length s.state.body.received ≡ 0

empty : (s : Standing) → holds_nothing s ≡ true → IsEmpty s
empty s h =
    let b = s.state.body in
    let none : length b.requests + length b.replies + length b.in_flight + length b.notices + length b.received ≡ 0 = eqb-true _ 0 h in
    record { requests = omega (arith, none); replies = omega (arith, none); notices = omega (arith, none); received = omega (arith, none) }

zero_test : (n : ℕ) → n ≡ 0 → not (n == 0) ≡ false
zero_test n h = ap (λ (k : ℕ). not (k == 0)) h

no_reply : (s : Standing) → holds_nothing s ≡ true → has_reply s ≡ false
no_reply s h = zero_test (length s.state.body.replies) (empty s h).replies

no_front : (ends : List Standing) (requests : List Queued) → length requests ≡ 0 → finds_room ends (slice_get requests 0) ≡ false
no_front ends [] h = refl
no_front ends (q ∷ qs) h = absurd (omega (arith, h))

no_request : (ends : List Standing) (s : Standing) → holds_nothing s ≡ true → has_request ends s ≡ false
no_request ends s h = no_front ends s.state.body.requests (empty s h).requests

no_arrival : (s : Standing) → holds_nothing s ≡ true → is_pollable s ≡ false
no_arrival s h =
    let e = empty s h in
    λ i. zero_test (length s.state.body.notices) e.notices i || zero_test (length s.state.body.received) e.received i

-- ---- threads

none_after : (s : ScenarioLists) (past : List Entry) (t : ThreadLine) → calls_of t.id past ≡ script_of s t.id → left_to s past t ≡ None
none_after s past t h = ap (left_after (length (calls_of t.id past))) (ap (λ (cs : List ScriptCall). slice_get (script_of s t.id) (length cs)) h
    ∙ past_end (script_of s t.id))
  where
    past_end : (cs : List ScriptCall) → slice_get cs (length cs) ≡ None
    past_end [] = refl
    past_end (c ∷ cs) = past_end cs

none_called : (s : ScenarioLists) (past : List Entry) (ts : List ThreadLine) → AllByRecursion (λ (t : ThreadLine). calls_of t.id past ≡ script_of s t.id) ts →
    fold fewer None (filter_map (left_to s past) ts) ≡ None
none_called s past [] h = refl
none_called s past (t ∷ ts) h =
    ap (λ (o : Option Left). fold fewer None (cons_option o (filter_map (left_to s past) ts))) (none_after s past t h.0) ∙ none_called s past ts h.1

no_turn : (s : ScenarioLists) (journal : List Entry) → IsRunEnded s journal → next_turn s journal ≡ None
no_turn s journal ended =
    λ i. first_some (option_map Once (ended.received i) ∷ time_outs i ∷ pages i ∷ sends i ∷ calls i ∷ polls i ∷ [])
  where
    ends : List Standing
    ends = standings (layout_of s) journal

    time_outs : next_time_out s journal ≡ None
    time_outs = none_from (time_out_at s journal) (λ (node : NodeId). AllByRecursion (λ (peer : NodeId). is_idle s journal node peer ≡ true) (nodes_of s))
        (idle_node s journal) (nodes_of s) ended.rest.channels

    pages : next_page_in ends ≡ None
    pages = ap (option_map page_in_of) (none_found is_missed (λ (x : Standing). not (is_missed x)) (λ x h. not-true (is_missed x) h) ends ended.rest.wanted)

    replies : find has_reply ends ≡ None
    replies = none_found has_reply holds_nothing no_reply ends ended.rest.messages

    requests : find (has_request ends) ends ≡ None
    requests = none_found (has_request ends) holds_nothing (no_request ends) ends ended.rest.messages

    sends : next_send ends ≡ None
    sends = λ i. send_of (first_some (replies i ∷ requests i ∷ []))

    calls : next_call s journal ≡ None
    calls = ap (option_map make_of) (none_called s journal s.threads ended.scripts)

    polls : next_poll ends ≡ None
    polls = ap (option_map poll_of) (none_found is_pollable holds_nothing no_arrival ends ended.rest.messages)

no_some : (t : Option Turn) → is_none t ≡ true → t ≡ None
no_some None h = refl
no_some (Some t) h = absurd (cc)

ends : (s : ScenarioLists) (journal : List Entry) → IsLawful s → IsHistory (layout_of s) journal → BeginsScripts s journal → next_turn s journal ≡ None →
    IsRunEnded s journal
ends s journal lawful history scripts none =
    let no : NoRule s journal = no_rule s journal none in
    record {
      scripts = scripts_are_done s journal scripts (no_call_left s journal no.call);
      received = no.receipt;
      rest = rests_at_end s journal (histories_are_sound s journal lawful history) none;
    }

none_test : (t : Option Turn) (test : Bool) → is_some t ≡ not test → test ≡ is_none t
none_test None true h = refl
none_test None false h = absurd (cc)
none_test (Some t) true h = absurd (cc)
none_test (Some t) false h = refl

-- a run is at its end exactly where no rule applies
pub ended_test : (s : ScenarioLists) (journal : List Entry) (test : Bool) (t : Option Turn) → IsLawful s → IsHistory (layout_of s) journal →
    BeginsScripts s journal → is_some t ≡ not test → t ≡ next_turn s journal → IsTrue test ↔ IsRunEnded s journal
ended_test s journal test t lawful history scripts told turn = (
  (λ yes'. ends s journal lawful history scripts (sym turn ∙ no_some t (sym is ∙ yes'))),
  (λ ended. is ∙ ap (λ (o : Option Turn). is_none o) (turn ∙ no_turn s journal ended)),
)
  where
    is : test ≡ is_none t
    is = none_test t test told
