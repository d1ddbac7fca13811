-- A request runs only where the script sets a handler.
use Rattle.std.specs.Prelude.{MatchOption, is_none, sum_by}
use Rattle.std.proofs.Common.{◌≡◌, ℕ, Bool, true, false, ◌&&◌, ◌||◌, List, [], ◌∷◌, ◌++◌, Option, Some, None, refl, sym, ap, ◌∙◌, subst}
use Rattle.std.proofs.Common.{filter_map, get_or, arith}
use Rattle.std.specs.List.{Contains, find, list_all, list_any}
use Rattle.std.proofs.lemmas.Bool.{and_parts}
use Rattle.std.proofs.lemmas.List.Sums.{get_or-le-sum_by, sum_by-cons}
use Rattle.am_names.specs.declared.EndpointId.{EndpointId}
use Rattle.am_names.specs.declared.Message.{Message}
use Rattle.am_names.specs.Names.{is_request, same_end}
use Rattle.am_office_entries.specs.declared.Actor.{Actor}
use Rattle.am_office_entries.specs.declared.Actor.TheVariants.{Thread, Outside}
use Rattle.am_office_entries.specs.declared.HandlerKind.{HandlerKind}
use Rattle.am_office_entries.specs.declared.Call.{Call}
use Rattle.am_office_entries.specs.declared.Call.TheVariants as Calls
use Rattle.am_office_entries.specs.declared.Event.{Event}
use Rattle.am_office_entries.specs.declared.Event.TheVariants as Events
use Rattle.am_office_entries.specs.declared.Outcome.{Outcome}
use Rattle.am_office_entries.specs.declared.Outcome.TheVariants as Out
use Rattle.am_office_entries.specs.declared.Entry.{Entry}
use Rattle.am_office_entries.specs.Entries.{ends_touched, put_in, run_in, run_of, touches}
use Rattle.am_model.specs.Changes.{called, changed}
use Rattle.am_model.specs.Endpoint.{State, entry_at}
use Rattle.am_model.specs.Layout.{EndSetting, Layout, has_id, opening_by}
use Rattle.am_model.specs.History.{EachAfter, IsHistory, MayFollow, state_of}
use Rattle.am_model.specs.PostOffice.{IsFirstRun, IsPutAndRunFirst, PostOffice}
use Rattle.am_model.proofs.Each.{each_push, over_each, state_of_push}
use Rattle.am_model.proofs.Names.{same_end-is, same_end-refl}
use Rattle.am_model.proofs.Own.{Own, own_kept}
use Rattle.am_model.proofs.Books.{fits_call}
use Rattle.am_model.proofs.Received.{FitsCall, one_touched}
use Rattle.am_laws.proofs.Delivered.{delivers, put_facts}
use Rattle.am_laws.proofs.Held.{ReceivedAre, held_kept, polled_run}
use Rattle.am_scenario_types.specs.declared.parts.ScriptCall.{ScriptCall}
use Rattle.am_scenario_types.specs.Lawful.{IsLawful}
use Rattle.am_scenario_types.specs.Lists.{ScenarioLists}
use Rattle.am_model_scripts.specs.Layout.{layout_of}
use Rattle.am_model_scripts.specs.Scripts.{KeepsScripts, call_made}
use Rattle.am_model_scripts.specs.Follows.{KeepsToEvents, is_of_run}
use Rattle.am_library.specs.Laws.{is_handler, sets_handler}
use Rattle.am_library_views.specs.Views.{is_to, requests_run}
use Rattle.am_library.proofs.Adding.{none_at}
use Rattle.am_library_views.proofs.Called.{calls_are_script, made}
use Rattle.am_library_views.proofs.Weights.{of, only, sum_filter, sum_one, sum_push}

-- ---- the calls leave it without handlers

abbrev sets : EndpointId → ScriptCall → ℕ
sets e c = only (sets_handler e c) 1

none_set : (e : EndpointId) (calls : List ScriptCall) → list_any (sets_handler e) calls ≡ false → sum_by (sets e) calls ≡ 0
none_set e [] none = refl
none_set e (c ∷ calls) none = by_test (none_set e calls) (sets_handler e c) refl none
  where
    by_test : (list_any (sets_handler e) calls ≡ false → sum_by (sets e) calls ≡ 0) → (b : Bool) → sets_handler e c ≡ b →
        (b || list_any (sets_handler e) calls) ≡ false → sum_by (sets e) (c ∷ calls) ≡ 0
    by_test later true is never = absurd (cc)
    by_test later false is rest =
        let here : sets e c ≡ 0 = ap (λ (b : Bool). only b 1) is in omega (arith, sum_by-cons (sets e) c calls, here, later rest)

not_one : (b : Bool) → only b 1 ≡ 0 → b ≡ false
not_one true none = absurd (omega (arith, none))
not_one false none = refl

-- an event, if it is a call of a thread, sets no handler there
abbrev IsBare : EndpointId → Event → Type 0
IsBare e event = MatchOption (call_made event) (Unit {0}) (λ (c : ScriptCall). sets_handler e c ≡ false)

bare_now : (e : EndpointId) (o : Option ScriptCall) → of (sets e) o ≡ 0 → MatchOption o (Unit {0}) (λ (c : ScriptCall). sets_handler e c ≡ false)
bare_now e None none = tt
bare_now e (Some c) none = not_one (sets_handler e c) none

record Goes (s : ScenarioLists) (e : EndpointId) (past : List Entry) (x : Entry) : Type 0 where
  may : MayFollow (layout_of s) past x
  first : IsPutAndRunFirst (layout_of s) past x
  run : is_of_run s x.event ≡ true
  bare : IsBare e x.event

all_go : (s : ScenarioLists) (e : EndpointId) (past journal : List Entry) → EachAfter (MayFollow (layout_of s)) past journal →
    EachAfter (IsPutAndRunFirst (layout_of s)) past journal → list_all (λ (x : Entry). is_of_run s x.event) journal ≡ true →
    sum_by (sets e) (filter_map made journal) ≡ 0 → EachAfter (Goes s e) past journal
all_go s e past [] may first run none = tt
all_go s e past (x ∷ journal) may first run none =
    let parts = and_parts (is_of_run s x.event) (list_all (λ (y : Entry). is_of_run s y.event) journal) run in
    let here : of (sets e) (made x) ≡ 0 = omega (arith, sum_one made (sets e) x journal, none) in
    let rest : sum_by (sets e) (filter_map made journal) ≡ 0 = omega (arith, sum_one made (sets e) x journal, none) in (
      record { may = may.0; first = first.0; run = parts.0; bare = bare_now e (made x) here },
      all_go s e (past ++ x ∷ []) journal may.1 first.1 parts.1 rest,
    )

bare_call : (s : ScenarioLists) (e end : EndpointId) (actor : Actor) (call : Call) → same_end e end ≡ true → is_of_run s (Events.Call actor end call) ≡ true →
    IsBare e (Events.Call actor end call) → is_handler call ≡ false
bare_call s e end (Thread t) call at run bare = by_test (same_end e end) at bare
  where
    by_test : (b : Bool) → b ≡ true → (b && is_handler call) ≡ false → is_handler call ≡ false
    by_test true is none = none
    by_test false is none = absurd (cc)
bare_call s e end Outside Calls.Poll at run bare = refl
bare_call s e end Outside call at run bare = absurd (cc)

-- ---- so it has none

abbrev AllUnset : List (Option HandlerKind) → Type 0
AllUnset kinds = (index : ℕ) → entry_at kinds index ≡ None

called_unset : (s : State) (c : Call) (o : Outcome) → is_handler c ≡ false → AllUnset s.body.handlers → AllUnset (called s c o).body.handlers
called_unset s (Calls.Request at handler words) (Out.Requested m) bare unset = unset
called_unset s Calls.Poll (Out.Zero serial why) bare unset = unset
called_unset s Calls.Poll (Out.Ran handler m None) bare unset = unset
called_unset s Calls.Poll (Out.Ran handler m (Some reply)) bare unset = unset
called_unset s (Calls.SetTag tag) Out.Done bare unset = unset
called_unset s (Calls.Map at name tag credits) Out.Done bare unset = unset
called_unset s (Calls.Unmap at) Out.Done bare unset = unset
called_unset s (Calls.SetHandler at kind) Out.Done bare unset = absurd (cc)
called_unset s (Calls.GiveUp serial) Out.Done bare unset = unset
called_unset s Calls.Close Out.Done bare unset = unset
called_unset s c o bare unset = unset

changed_unset : (s : ScenarioLists) (e : EndpointId) (t : State) (event : Event) (o : Outcome) → list_any (same_end e) (ends_touched event o) ≡ true →
    is_of_run s event ≡ true → IsBare e event → AllUnset t.body.handlers → AllUnset (changed e t event o).body.handlers
changed_unset s e t (Events.Call actor end call) o at run bare unset =
    called_unset t call o (bare_call s e end actor call (one_touched (same_end e end) at) run bare) unset
changed_unset s e t event o at run bare unset = subst AllUnset (sym (ap (λ (w : Own). w.handlers) (own_kept e t event o refl))) unset

-- ---- and receives no request

abbrev NoRequest : Message → Type 0
NoRequest m = is_request m ≡ false

unset_refuses : (request : Bool) (o : Option HandlerKind) → o ≡ None → (request && is_none o) ≡ false → request ≡ false
unset_refuses true None is welcome = absurd (cc)
unset_refuses true (Some kind) is welcome = absurd (cc)
unset_refuses false o is welcome = refl

-- what runs there is no request
run_quiet : (s : ScenarioLists) (e : EndpointId) (t : State) (event : Event) (o : Outcome) (m : Message) → run_in event o ≡ Some m →
    FitsCall (layout_of s).pool t event o → ReceivedAre NoRequest t → NoRequest m
run_quiet s e t (Events.Call actor end Calls.Poll) (Out.Ran handler n sends) m is fits quiet =
    (polled_run NoRequest end t m quiet t.body.notices (ap (λ (w : Outcome). run_in (Events.Call actor end Calls.Poll) w) (sym fits) ∙ is)).held
run_quiet s e t event o m is fits quiet = absurd (cc)

abbrev runs_there : EndpointId → Message → ℕ
runs_there e m = only (is_request m) (only (is_to e m) 1)

record QuietSo (s : ScenarioLists) (e : EndpointId) (past : List Entry) : Type 0 where
  history : IsHistory (layout_of s) past
  unset : AllUnset (state_of (layout_of s) past e).body.handlers
  quiet : ReceivedAre NoRequest (state_of (layout_of s) past e)
  none : sum_by (runs_there e) (filter_map run_of past) ≡ 0

nothing_there : (b : Bool) → only b 0 ≡ 0
nothing_there true = refl
nothing_there false = refl

quiet_step : (s : ScenarioLists) (e : EndpointId) (past : List Entry) (x : Entry) → QuietSo s e past → Goes s e past x → QuietSo s e (past ++ x ∷ [])
quiet_step s e past x so_far goes = record {
  history = each_push (MayFollow layout) [] past x so_far.history goes.may;
  unset = unset' (touches e x) refl;
  quiet = quiet' (touches e x) refl;
  none = omega (arith, sum_push run_of (runs_there e) past x, so_far.none, runs (run_of x) refl goes.first.1);
}
  where
    layout : Layout
    layout = layout_of s

    unset' : (b : Bool) → touches e x ≡ b → AllUnset (state_of (layout_of s) (past ++ x ∷ []) e).body.handlers
    unset' true at = subst (λ (w : State). AllUnset w.body.handlers) (sym (state_of_push (layout_of s) past x e true at))
        (changed_unset s e (state_of (layout_of s) past e) x.event x.outcome at goes.run goes.bare so_far.unset)
    unset' false at = subst (λ (w : State). AllUnset w.body.handlers) (sym (state_of_push (layout_of s) past x e false at)) so_far.unset

    put_quiet : (m : Message) → put_in x.event x.outcome ≡ Some m → same_end e m.dest ≡ true → NoRequest m
    put_quiet m is at =
        let there : e ≡ m.dest = same_end-is e m.dest at in
        unset_refuses (is_request m) (entry_at (state_of (layout_of s) past m.dest).body.handlers m.handler)
        (subst (λ (d : EndpointId). entry_at (state_of (layout_of s) past d).body.handlers m.handler ≡ None) there (so_far.unset m.handler))
        (put_facts (layout_of s) past x (delivers (layout_of s) past so_far.history) goes.may m is).welcome.handler

    quiet' : (b : Bool) → touches e x ≡ b → ReceivedAre NoRequest (state_of (layout_of s) (past ++ x ∷ []) e)
    quiet' true at = subst (λ (w : State). ReceivedAre NoRequest w) (sym (state_of_push (layout_of s) past x e true at))
        (held_kept NoRequest e (state_of (layout_of s) past e) x.event x.outcome at so_far.quiet put_quiet)
    quiet' false at = subst (λ (w : State). ReceivedAre NoRequest w) (sym (state_of_push (layout_of s) past x e false at)) so_far.quiet

    runs : (r : Option Message) → run_of x ≡ r → MatchOption r (Unit {0}) (IsFirstRun (layout_of s) past x) → of (runs_there e) r ≡ 0
    runs None is first = refl
    runs (Some m) is first = by_test (is_to e m) refl
      where
        by_test : (b : Bool) → is_to e m ≡ b → runs_there e m ≡ 0
        by_test true to =
            let there : touches e x ≡ true = subst (λ (d : EndpointId). touches d x ≡ true) (sym (same_end-is e m.dest to)) first.touched in
            ap (λ (b : Bool). only b (only (is_to e m) 1))
            (run_quiet s e (state_of (layout_of s) past e) x.event x.outcome m is (fits_call (layout_of s) past e x goes.may there) so_far.quiet)
        by_test false to = ap (λ (b : Bool). only (is_request m) (only b 1)) to ∙ nothing_there (is_request m)

quiet_begins : (s : ScenarioLists) (e : EndpointId) → QuietSo s e []
quiet_begins s e = record { history = tt; unset = unset' (find (has_id e) (layout_of s).ends); quiet = quiet' (find (has_id e) (layout_of s).ends); none = refl }
  where
    unset' : (setting : Option EndSetting) → AllUnset (opening_by (layout_of s) setting).body.handlers
    unset' None index = none_at 16 index
    unset' (Some setting) index = none_at 16 index

    quiet' : (setting : Option EndSetting) → ReceivedAre NoRequest (opening_by (layout_of s) setting)
    quiet' None = tt
    quiet' (Some setting) = tt

pub runs_where_handlers_are : (s : ScenarioLists) (journal : List Entry) (m : Message) → IsLawful s → IsHistory (layout_of s) journal →
    PostOffice (layout_of s) journal → KeepsScripts s journal → KeepsToEvents s journal → Contains (requests_run journal) m →
    list_any (sets_handler m.dest) s.script ≡ true
runs_where_handlers_are s journal m lawful history laws scripts events (k, below, at) = by_test (list_any (sets_handler m.dest) s.script) refl
  where
    to_it : Message → ℕ
    to_it n = only (is_to m.dest n) 1

    by_test : (b : Bool) → list_any (sets_handler m.dest) s.script ≡ b → b ≡ true
    by_test true is = refl
    by_test false is =
        let none : sum_by (sets m.dest) (filter_map made journal) ≡ 0 =
        calls_are_script (sets m.dest) s journal lawful scripts events ∙ none_set m.dest s.script is in
        let quiet : QuietSo s m.dest journal =
        over_each (Goes s m.dest) (QuietSo s m.dest)
        (λ (past : List Entry) (x : Entry) (so_far : QuietSo s m.dest past) (goes : Goes s m.dest past x). quiet_step s m.dest past x so_far goes) [] journal
        (quiet_begins s m.dest) (all_go s m.dest [] journal history laws.delivery.places events none) in
        let one : to_it (get_or (requests_run journal) k m) ≡ 1 =
        ap to_it at ∙ ap (λ (b : Bool). only b 1) (same_end-refl m.dest) in
        absurd (omega (
          arith,
          get_or-le-sum_by to_it (requests_run journal) k m below,
          sum_filter to_it is_request (filter_map run_of journal),
          one,
          quiet.none,
        ))
