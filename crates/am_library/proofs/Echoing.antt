-- The replies of an endpoint that echoes have the words of their requests.
use Rattle.std.specs.Prelude.{MatchOption, not, is_none, nat_le}
use Rattle.std.proofs.Common.{◌≡◌, ℕ, Bool, true, false, ◌&&◌, ◌||◌, List, [], ◌∷◌, ◌++◌, Option, Some, None, refl, sym, ap, ◌∙◌, subst, ⊎_elim, filter_map}
use Rattle.std.proofs.Common.{if◌then◌else◌, arith}
use Rattle.std.specs.List.{Contains, cons_option, find, list_any}
use Rattle.std.proofs.lemmas.List.Elements.{Contains-append_cases, Contains-append_left, Contains-append_right, Contains-push, filter_map-append}
use Rattle.am_names.specs.declared.EndpointId.{EndpointId}
use Rattle.am_names.specs.declared.Message.{Message}
use Rattle.am_names.specs.declared.Serial.{Serial}
use Rattle.am_names.specs.Names.{is_reply, is_request, same_end, same_serial}
use Rattle.am_office_entries.specs.declared.Actor.{Actor}
use Rattle.am_office_entries.specs.declared.Actor.TheVariants.{Thread, Outside}
use Rattle.am_office_entries.specs.declared.HandlerKind.{HandlerKind}
use Rattle.am_office_entries.specs.declared.HandlerKind.TheVariants.{Note, Echo, Add}
use Rattle.am_office_entries.specs.declared.Call.{Call}
use Rattle.am_office_entries.specs.declared.Call.TheVariants as Calls
use Rattle.am_office_entries.specs.declared.Event.{Event}
use Rattle.am_office_entries.specs.declared.Event.TheVariants as Events
use Rattle.am_office_entries.specs.declared.Outcome.{Outcome}
use Rattle.am_office_entries.specs.declared.Outcome.TheVariants as Out
use Rattle.am_office_entries.specs.declared.Entry.{Entry}
use Rattle.am_office_entries.specs.Entries.{accepted_in, accepted_of, ends_touched, is_serial, put_in, run_in, run_of, touches}
use Rattle.am_model.specs.declared.Mapping.{Mapping}
use Rattle.am_model.specs.declared.Notice.{Notice}
use Rattle.am_model.specs.Calls.{answer, poll, poll_received, poll_requests}
use Rattle.am_model.specs.Changes.{called, changed}
use Rattle.am_model.specs.Endpoint.{State, entry_at, replies_held}
use Rattle.am_model.specs.Layout.{EndSetting, has_id, opening_by}
use Rattle.am_model.specs.History.{IsHistory, MayFollow, outcome_of, state_of}
use Rattle.am_model.specs.PostOffice.{IsAcceptedBy, IsAt, IsFirstRun, PostOffice, SendsOne, is_about, mapping_of}
use Rattle.am_model.proofs.Each.{each_push, over_each, state_of_push}
use Rattle.am_model.proofs.Names.{same_end-is, same_serial-is}
use Rattle.am_model.proofs.Own.{Own, own_kept}
use Rattle.am_model.proofs.Received.{one_touched}
use Rattle.am_laws.proofs.Alls.{all_map}
use Rattle.am_laws.proofs.Delivered.{delivers, put_facts}
use Rattle.am_laws.proofs.Held.{ReceivedAre, held_kept, polled_run}
use Rattle.am_scenario_types.specs.Lawful.{IsLawful}
use Rattle.am_scenario_types.specs.Lists.{ScenarioLists}
use Rattle.am_model_scripts.specs.Layout.{layout_of}
use Rattle.am_model_scripts.specs.Scripts.{KeepsScripts, call_made}
use Rattle.am_model_scripts.specs.Follows.{KeepsToEvents, is_of_run}
use Rattle.am_library.specs.Laws.{Echoes, is_echoing, leaves_echoing}
use Rattle.am_library_views.specs.Views.{is_to, reply_to, requests_run, runs_at}
use Rattle.am_library.proofs.Adding.{HasHandler, changed_set, none_at, set_at}
use Rattle.am_library_views.proofs.Distinct.{all_accepted, only_one, runs_once, unique}
use Rattle.am_library_views.proofs.Ended.{request_as}
use Rattle.am_library.proofs.Replied.{kept_among}
use Rattle.am_library.proofs.Scripted.{Goes, all_go, call_passes}

-- ---- its handlers echo

abbrev IsEcho : Option HandlerKind → Type 0
IsEcho None = Unit {0}
IsEcho (Some Note) = ⊥
IsEcho (Some (Echo to)) = Unit {0}
IsEcho (Some (Add to)) = ⊥

abbrev AllEcho : List (Option HandlerKind) → Type 0
AllEcho kinds = (index : ℕ) → IsEcho (entry_at kinds index)

echoing_kind : (index : ℕ) (kind : HandlerKind) → is_echoing (Calls.SetHandler index kind) ≡ true → IsEcho (Some kind)
echoing_kind index Note is = absurd (cc)
echoing_kind index (Echo to) is = tt
echoing_kind index (Add to) is = absurd (cc)

called_echo : (s : State) (c : Call) (o : Outcome) → is_echoing c ≡ true → AllEcho s.body.handlers → AllEcho (called s c o).body.handlers
called_echo s (Calls.Request at handler words) (Out.Requested m) good echo = echo
called_echo s Calls.Poll (Out.Zero serial why) good echo = echo
called_echo s Calls.Poll (Out.Ran handler m None) good echo = echo
called_echo s Calls.Poll (Out.Ran handler m (Some reply)) good echo = echo
called_echo s (Calls.SetTag tag) Out.Done good echo = echo
called_echo s (Calls.Map at name tag credits) Out.Done good echo = echo
called_echo s (Calls.Unmap at) Out.Done good echo = echo
called_echo s (Calls.SetHandler at kind) Out.Done good echo = λ (index : ℕ). set_at s.body.handlers at (Some kind) IsEcho index (echo index)
    (echoing_kind at kind good)
called_echo s (Calls.GiveUp serial) Out.Done good echo = echo
called_echo s Calls.Close Out.Done good echo = echo
called_echo s c o good echo = echo

-- a call at the endpoint is one that an endpoint which echoes makes
good_call : (s : ScenarioLists) (e end : EndpointId) (actor : Actor) (call : Call) → same_end e end ≡ true → is_of_run s (Events.Call actor end call) ≡ true →
    call_passes (leaves_echoing e) (call_made (Events.Call actor end call)) ≡ true → is_echoing call ≡ true
good_call s e end (Thread t) call at run good = by_test (same_end e end) at good
  where
    by_test : (b : Bool) → b ≡ true → (not b || is_echoing call) ≡ true → is_echoing call ≡ true
    by_test true is all = all
    by_test false is all = absurd (cc)
good_call s e end Outside Calls.Poll at run good = refl
good_call s e end Outside call at run good = absurd (cc)

changed_echo : (s : ScenarioLists) (e : EndpointId) (t : State) (event : Event) (o : Outcome) → list_any (same_end e) (ends_touched event o) ≡ true →
    is_of_run s event ≡ true → call_passes (leaves_echoing e) (call_made event) ≡ true → AllEcho t.body.handlers →
    AllEcho (changed e t event o).body.handlers
changed_echo s e t (Events.Call actor end call) o at run good echo =
    called_echo t call o (good_call s e end actor call (one_touched (same_end e end) at) run good) echo
changed_echo s e t event o at run good echo = subst AllEcho (sym (ap (λ (w : Own). w.handlers) (own_kept e t event o refl))) echo

-- the handler of each request that it received stays set
received_set : (s : ScenarioLists) (e : EndpointId) (past : List Entry) (x : Entry) → IsHistory (layout_of s) past → MayFollow (layout_of s) past x →
    touches e x ≡ true → ReceivedAre (HasHandler (state_of (layout_of s) past e).body.handlers) (state_of (layout_of s) past e) →
    ReceivedAre (HasHandler (changed e (state_of (layout_of s) past e) x.event x.outcome).body.handlers)
    (changed e (state_of (layout_of s) past e) x.event x.outcome)
received_set s e past x history may at set =
    let t : State = state_of (layout_of s) past e in
    held_kept (HasHandler (changed e t x.event x.outcome).body.handlers) e t x.event x.outcome at
    (all_map (HasHandler t.body.handlers) (HasHandler (changed e t x.event x.outcome).body.handlers) t.body.received
    (λ (m : Message) (is : HasHandler t.body.handlers m). changed_set e t x.event x.outcome m is) set)
    (λ (m : Message) (is : put_in x.event x.outcome ≡ Some m) (to : same_end e m.dest ≡ true).
    changed_set e t x.event x.outcome m
    (subst (λ (d : EndpointId). HasHandler (state_of (layout_of s) past d).body.handlers m) (sym (same_end-is e m.dest to))
    (put_facts (layout_of s) past x (delivers (layout_of s) past history) may m is).welcome.handler))

-- ---- what a poll replies

polled_request : (e : EndpointId) (t : State) (ms : List Message) (q r : Message) (h : Option ℕ) → poll_requests e t ms ≡ Out.Ran h q (Some r) →
    r ≡ answer e t q (entry_at t.body.handlers q.handler)
polled_request e t [] q r h is = absurd (cc)
polled_request e t (m ∷ ms) q r h is = by_room (nat_le 16 (replies_held t.body)) is
  where
    by_room : (b : Bool) → (if b then Out.Blocked else Out.Ran (Some m.handler) m (Some (answer e t m (entry_at t.body.handlers m.handler)))) ≡
        Out.Ran h q (Some r) → r ≡ answer e t q (entry_at t.body.handlers q.handler)
    by_room true never = absurd (cc)
    by_room false same =
        let request : m ≡ q = cc in
        let reply : answer e t m (entry_at t.body.handlers m.handler) ≡ r = cc in
        sym reply ∙ ap (λ (n : Message). answer e t n (entry_at t.body.handlers n.handler)) request

polled_received : (e : EndpointId) (t : State) (o : Option Message) (q r : Message) (h : Option ℕ) → poll_received e t o ≡ Out.Ran h q (Some r) →
    r ≡ answer e t q (entry_at t.body.handlers q.handler)
polled_received e t (Some m) q r h is = absurd (cc)
polled_received e t None q r h is = polled_request e t t.body.received q r h is

polled : (e : EndpointId) (t : State) (notices : List Notice) (q r : Message) (h : Option ℕ) → poll e t notices ≡ Out.Ran h q (Some r) →
    r ≡ answer e t q (entry_at t.body.handlers q.handler)
polled e t (notice ∷ notices) q r h is = absurd (cc)
polled e t [] q r h is = polled_received e t (find is_reply t.body.received) q r h is

echoed : (e : EndpointId) (t : State) (q : Message) (kind : Option HandlerKind) → IsEcho kind → is_none kind ≡ false → (answer e t q kind).words ≡ q.words
echoed e t q None echo some = absurd (cc)
echoed e t q (Some Note) echo some = absurd echo
echoed e t q (Some (Echo to)) echo some = refl
echoed e t q (Some (Add to)) echo some = absurd echo

request_set : (request : Bool) (o : Option HandlerKind) → request ≡ true → (request && is_none o) ≡ false → is_none o ≡ false
request_set true o is set = set
request_set false o is set = absurd (cc)

-- ---- entry after entry

-- a reply that was accepted is to a request that ran; where that was at the endpoint, it has its words
record IsEchoOf (e : EndpointId) (runs : List Message) (r : Message) : Type 0 where
  request : Message
  ran : Contains runs request
  about' : r.about ≡ Some request.serial
  words' : is_to e request ≡ true → r.words ≡ request.words

abbrev AllEchoed : EndpointId → List Entry → Type 0
AllEchoed e past = (r : Message) (s : Serial) → Contains (filter_map accepted_of past) r → r.about ≡ Some s → IsEchoOf e (filter_map run_of past) r

record EchoesSo (s : ScenarioLists) (e : EndpointId) (past : List Entry) : Type 0 where
  history : IsHistory (layout_of s) past
  echo : AllEcho (state_of (layout_of s) past e).body.handlers
  set : ReceivedAre (HasHandler (state_of (layout_of s) past e).body.handlers) (state_of (layout_of s) past e)
  replies : AllEchoed e past

-- what an entry replies
record RepliesNow (e : EndpointId) (event : Event) (o : Outcome) (r : Message) : Type 0 where
  request : Message
  ran : run_in event o ≡ Some request
  about' : r.about ≡ Some request.serial
  words' : is_to e request ≡ true → r.words ≡ request.words

replies_now : (s : ScenarioLists) (e : EndpointId) (past : List Entry) (event : Event) (o : Outcome) (r : Message) (serial : Serial) →
    EchoesSo s e past → o ≡ outcome_of (layout_of s) past event → IsAcceptedBy (layout_of s) past event o → SendsOne event o →
    MatchOption (run_in event o) (Unit {0}) (λ (m : Message). IsAt (layout_of s) m.dest event) → accepted_in event o ≡ Some r → r.about ≡ Some serial → RepliesNow e event o r
replies_now s e past (Events.Call actor end (Calls.Request index handler words)) (Out.Requested m) r serial so_far fits asked sends place is about =
    by_mapping (mapping_of past end index) asked
  where
    same : m ≡ r
    same = cc

    by_mapping : (o : Option Mapping) → MatchOption o ⊥ (λ (mapping : Mapping). m ≡ request_as (layout_of s) past end handler words mapping) →
        RepliesNow e (Events.Call actor end (Calls.Request index handler words)) (Out.Requested m) r
    by_mapping None never = absurd never
    by_mapping (Some mapping) made =
        let none : m.about ≡ None = ap (λ (n : Message). n.about) made in
        let some : m.about ≡ Some serial = ap (λ (n : Message). n.about) same ∙ about in
        let never : None ≡ Some serial = sym none ∙ some in absurd (cc)
replies_now s e past (Events.Call actor end Calls.Poll) (Out.Ran handler m (Some reply)) r serial so_far fits asked sends place is about =
    let same : reply ≡ r = cc in
    let t : State = state_of (layout_of s) past end in
    let from : reply ≡ answer end t m (entry_at t.body.handlers m.handler) = polled end t t.body.notices m reply handler (sym fits) in
    record {
      request = m;
      ran = refl;
      about' = subst (λ (n : Message). n.about ≡ Some m.serial) same asked.about;
      words' = λ (at : is_to e m ≡ true).
          let here : e ≡ end = same_end-is e m.dest at ∙ sym place in
          let echo : IsEcho (entry_at t.body.handlers m.handler) =
          subst (λ (d : EndpointId). IsEcho (entry_at (state_of (layout_of s) past d).body.handlers m.handler)) here (so_far.echo m.handler) in
          let set : ReceivedAre (HasHandler t.body.handlers) t =
          subst (λ (d : EndpointId). ReceivedAre (HasHandler (state_of (layout_of s) past d).body.handlers) (state_of (layout_of s) past d)) here so_far.set in
          let held = polled_run (HasHandler t.body.handlers) end t m set t.body.notices
          (ap (λ (w : Outcome). run_in (Events.Call actor end Calls.Poll) w) (sym fits)) in
          ap (λ (n : Message). n.words) (sym same ∙ from)
          ∙ echoed end t m (entry_at t.body.handlers m.handler) echo
          (request_set (is_request m) (entry_at t.body.handlers m.handler) sends.0 held.held);
    }
replies_now s e past (Events.Call actor end Calls.Poll) (Out.Ran handler m None) r serial so_far fits asked sends place is about = absurd (cc)
replies_now s e past (Events.Call actor end call) o r serial so_far fits asked sends place is about = absurd (cc)
replies_now s e past event o r serial so_far fits asked sends place is about = absurd (cc)

nothing : (m : Message) → Contains [] m → ⊥
nothing m (k, below, is) = omega arith

place_of : (s : ScenarioLists) (past : List Entry) (x : Entry) (o : Option Message) → MatchOption o (Unit {0}) (IsFirstRun (layout_of s) past x) →
    MatchOption o (Unit {0}) (λ (m : Message). IsAt (layout_of s) m.dest x.event)
place_of s past x None first = tt
place_of s past x (Some m) first = first.place

replies_more : (s : ScenarioLists) (e : EndpointId) (past : List Entry) (x : Entry) → EchoesSo s e past → Goes (leaves_echoing e) s past x →
    AllEchoed e (past ++ x ∷ [])
replies_more s e past x so_far goes = λ (r : Message) (serial : Serial) (has : Contains (filter_map accepted_of (past ++ x ∷ [])) r)
    (about : r.about ≡ Some serial).
    ⊎_elim
    (λ (before : Contains (filter_map accepted_of past) r).
    let earlier : IsEchoOf e (filter_map run_of past) r = so_far.replies r serial before about in
    record {
      request = earlier.request;
      ran = subst (λ (l : List Message). Contains l earlier.request) (sym (filter_map-append run_of past (x ∷ [])))
          (Contains-append_left (filter_map run_of past) (filter_map run_of (x ∷ [])) earlier.request earlier.ran);
      about' = earlier.about';
      words' = earlier.words';
    })
    (λ (now : Contains (filter_map accepted_of (x ∷ [])) r). by_accepted r serial about (accepted_of x) refl now)
    (Contains-append_cases (filter_map accepted_of past) (filter_map accepted_of (x ∷ [])) r
    (subst (λ (l : List Message). Contains l r) (filter_map-append accepted_of past (x ∷ [])) has))
  where
    by_accepted : (r : Message) (serial : Serial) → r.about ≡ Some serial → (o : Option Message) → accepted_of x ≡ o →
        Contains (filter_map accepted_of (x ∷ [])) r → IsEchoOf e (filter_map run_of (past ++ x ∷ [])) r
    by_accepted r serial about None is now = absurd (nothing r (subst (λ (o : Option Message). Contains (cons_option o []) r) is now))
    by_accepted r serial about (Some y) is now =
        let same : y ≡ r = only_one y r (subst (λ (o : Option Message). Contains (cons_option o []) r) is now) in
        let here : RepliesNow e x.event x.outcome r =
        replies_now s e past x.event x.outcome r serial so_far goes.may.outcome goes.asked goes.sends (place_of s past x (run_of x) goes.first.1)
        (is ∙ ap (λ (m : Message). Some m) same) about in
        let listed : filter_map run_of (x ∷ []) ≡ here.request ∷ [] = ap (λ (o : Option Message). cons_option o []) here.ran in
        record {
          request = here.request;
          ran = subst (λ (l : List Message). Contains l here.request) (sym (filter_map-append run_of past (x ∷ [])))
              (Contains-append_right (filter_map run_of past) (filter_map run_of (x ∷ [])) here.request
              (subst (λ (l : List Message). Contains l here.request) (sym listed) (Contains-push [] here.request)));
          about' = here.about';
          words' = here.words';
        }

echoes_step : (s : ScenarioLists) (e : EndpointId) (past : List Entry) (x : Entry) → EchoesSo s e past → Goes (leaves_echoing e) s past x →
    EchoesSo s e (past ++ x ∷ [])
echoes_step s e past x so_far goes = record {
  history = each_push (MayFollow (layout_of s)) [] past x so_far.history goes.may;
  echo = echo' (touches e x) refl;
  set = set' (touches e x) refl;
  replies = replies_more s e past x so_far goes;
}
  where
    echo' : (b : Bool) → touches e x ≡ b → AllEcho (state_of (layout_of s) (past ++ x ∷ []) e).body.handlers
    echo' true at = subst (λ (w : State). AllEcho w.body.handlers) (sym (state_of_push (layout_of s) past x e true at))
        (changed_echo s e (state_of (layout_of s) past e) x.event x.outcome at goes.run goes.passes so_far.echo)
    echo' false at = subst (λ (w : State). AllEcho w.body.handlers) (sym (state_of_push (layout_of s) past x e false at)) so_far.echo

    set' : (b : Bool) → touches e x ≡ b →
        ReceivedAre (HasHandler (state_of (layout_of s) (past ++ x ∷ []) e).body.handlers) (state_of (layout_of s) (past ++ x ∷ []) e)
    set' true at =
        subst (λ (w : State). ReceivedAre (HasHandler w.body.handlers) w) (sym (state_of_push (layout_of s) past x e true at))
        (received_set s e past x so_far.history goes.may at so_far.set)
    set' false at = subst (λ (w : State). ReceivedAre (HasHandler w.body.handlers) w) (sym (state_of_push (layout_of s) past x e false at)) so_far.set

echoes_begin : (s : ScenarioLists) (e : EndpointId) → EchoesSo s e []
echoes_begin s e = by_setting (find (has_id e) (layout_of s).ends) refl
  where
    by_setting : (setting : Option EndSetting) → find (has_id e) (layout_of s).ends ≡ setting → EchoesSo s e []
    by_setting setting is = record {
      history = tt;
      echo = λ (index : ℕ). echo' setting index is;
      set = set' setting is;
      replies = λ (r : Message) (serial : Serial) (has : Contains [] r) (about : r.about ≡ Some serial). absurd (nothing r has);
    }
      where
        echo' : (setting : Option EndSetting) (index : ℕ) → find (has_id e) (layout_of s).ends ≡ setting →
            IsEcho (entry_at (state_of (layout_of s) [] e).body.handlers index)
        echo' None index is = subst (λ (w : Option EndSetting). IsEcho (entry_at (opening_by (layout_of s) w).body.handlers index)) (sym is)
            (subst IsEcho (sym (none_at 16 index)) tt)
        echo' (Some setting) index is = subst (λ (w : Option EndSetting). IsEcho (entry_at (opening_by (layout_of s) w).body.handlers index)) (sym is)
            (subst IsEcho (sym (none_at 16 index)) tt)

        set' : (setting : Option EndSetting) → find (has_id e) (layout_of s).ends ≡ setting →
            ReceivedAre (HasHandler (state_of (layout_of s) [] e).body.handlers) (state_of (layout_of s) [] e)
        set' None is = subst (λ (w : Option EndSetting). ReceivedAre (HasHandler (opening_by (layout_of s) w).body.handlers) (opening_by (layout_of s) w))
            (sym is) tt
        set' (Some setting) is =
            subst (λ (w : Option EndSetting). ReceivedAre (HasHandler (opening_by (layout_of s) w).body.handlers) (opening_by (layout_of s) w))
            (sym is) tt

-- ---- what is heard

found : (p : Message → Bool) (ms : List Message) (m : Message) → find p ms ≡ Some m → Contains ms m × (p m ≡ true)
found p [] m is = absurd (cc)
found p (n ∷ ms) m is = by_test (λ (later : find p ms ≡ Some m). found p ms m later) (p n) refl is
  where
    by_test : (find p ms ≡ Some m → Contains ms m × (p m ≡ true)) → (b : Bool) → p n ≡ b → (if b then Some n else find p ms) ≡ Some m →
        Contains (n ∷ ms) m × (p m ≡ true)
    by_test later true passes' at =
        let same : n ≡ m = cc in (
          subst (λ (y : Message). Contains (n ∷ ms) y) same (Contains-append_left (n ∷ []) ms n (Contains-push [] n)),
          subst (λ (y : Message). p y ≡ true) same passes',
        )
    by_test later false passes' at =
        let next = later at in (Contains-append_right (n ∷ []) ms m next.0, next.1)

pub echoes_are_words : (s : ScenarioLists) (journal : List Entry) (e : EndpointId) (m r : Message) → IsLawful s → IsHistory (layout_of s) journal →
    PostOffice (layout_of s) journal → KeepsScripts s journal → KeepsToEvents s journal → Echoes s e → Contains (runs_at journal e) m →
    reply_to journal m.serial ≡ Some r → r.words ≡ m.words
echoes_are_words s journal e m r lawful history laws scripts events echoes has heard =
    let here = kept_among (is_to e) (requests_run journal) m has in
    let ran = kept_among is_request (filter_map run_of journal) m here.0 in
    let reply = found (is_about m.serial) (filter_map run_of journal) r heard in
    by_about r.about refl here.1 ran.0 reply.0 reply.1
  where
    so : EchoesSo s e journal
    so =
        over_each (Goes (leaves_echoing e) s) (EchoesSo s e) (λ (past : List Entry) (x : Entry) (so_far : EchoesSo s e past)
        (goes : Goes (leaves_echoing e) s past x). echoes_step s e past x so_far goes) [] journal (echoes_begin s e)
        (all_go (leaves_echoing e) s journal lawful history laws scripts events echoes)

    by_about : (o : Option Serial) → r.about ≡ o → is_to e m ≡ true → Contains (filter_map run_of journal) m → Contains (filter_map run_of journal) r →
        is_serial m.serial o ≡ true → r.words ≡ m.words
    by_about None is at ran heard' never = absurd (cc)
    by_about (Some serial) is at ran heard' same =
        let back : IsEchoOf e (filter_map run_of journal) r = so.replies r serial (all_accepted (layout_of s) journal laws r heard') is in
        let own : m.serial ≡ serial = same_serial-is m.serial serial same in
        let both : Some serial ≡ Some back.request.serial = sym is ∙ back.about' in
        let other : serial ≡ back.request.serial = cc in
        let request : back.request ≡ m =
        unique (filter_map run_of journal) m back.request (runs_once (layout_of s) journal laws) ran back.ran
        (subst (λ (t : Serial). same_serial m.serial t ≡ true) other same) in
        back.words' (subst (λ (n : Message). is_to e n ≡ true) (sym request) at) ∙ ap (λ (n : Message). n.words) request
