-- The sum of an endpoint that adds is that of the first words of the requests that ran there.
use Rattle.std.specs.Prelude.{MatchOption, not, is_none, nat_lt, replicate, slice_set, sum_by}
use Rattle.std.proofs.Common.{◌≡◌, ℕ, ◌+◌, ◌%◌, ◌^◌, ◌<◌, ◌≤◌, Bool, true, false, ◌&&◌, ◌||◌, List, [], ◌∷◌, ◌++◌, Option, Some, None, refl, sym, ap, ◌∙◌}
use Rattle.std.proofs.Common.{subst}
use Rattle.std.proofs.Common.{◌⊎◌, inl, inr, ⊎_elim, filter_map, get_or, length, ltb-true, ltb-false, if◌then◌else◌, arith}
use Rattle.std.specs.List.{Contains, find, list_all, list_any}
use Rattle.std.proofs.lemmas.Bool.{and_parts, cases_lt}
use Rattle.std.proofs.lemmas.List.{get_or-set_same, get_or-set_other, set_past, get_or-replicate, get_or_past, length-replicate}
use Rattle.std.proofs.lemmas.List.Sums.{get_or-le-sum_by, sum_by-cons}
use Rattle.am_names.specs.declared.EndpointId.{EndpointId}
use Rattle.am_names.specs.declared.Message.{Message}
use Rattle.am_names.specs.Names.{is_reply, is_request, same_end}
use Rattle.am_office_entries.specs.declared.Actor.{Actor}
use Rattle.am_office_entries.specs.declared.Actor.TheVariants.{Thread, Outside}
use Rattle.am_office_entries.specs.declared.HandlerKind.{HandlerKind}
use Rattle.am_office_entries.specs.declared.HandlerKind.TheVariants.{Note, Echo, Add}
use Rattle.am_office_entries.specs.declared.Call.{Call}
use Rattle.am_office_entries.specs.declared.Call.TheVariants as Calls
use Rattle.am_office_entries.specs.declared.Event.{Event}
use Rattle.am_office_entries.specs.declared.Event.TheVariants as Events
use Rattle.am_office_entries.specs.declared.Outcome.{Outcome}
use Rattle.am_office_entries.specs.declared.Outcome.TheVariants as Out
use Rattle.am_office_entries.specs.declared.Entry.{Entry}
use Rattle.am_office_entries.specs.Entries.{accepted_in, accepted_of, ends_touched, put_in, run_in, run_of, touches}
use Rattle.am_model.specs.declared.Mapping.{Mapping}
use Rattle.am_model.specs.Calls.{outcome_of_call, sum_after}
use Rattle.am_model.specs.Changes.{called, changed, kind_run}
use Rattle.am_model.specs.Endpoint.{State, entry_at}
use Rattle.am_model.specs.Layout.{EndSetting, Layout, has_id, opening_by}
use Rattle.am_model.specs.History.{EachAfter, IsHistory, MayFollow, state_of}
use Rattle.am_model.specs.PostOffice.{IsAcceptedAsAsked, IsAcceptedBy, IsAt, IsFirstRun, IsPutAndRunFirst, PostOffice, RunsOwnHandler, SendsOne, mapping_of}
use Rattle.am_model.proofs.Each.{each_push, over_each, state_of_push}
use Rattle.am_model.proofs.Names.{same_end-is, same_end-refl}
use Rattle.am_model.proofs.Own.{Own, own_kept}
use Rattle.am_model.proofs.Books.{fits_call}
use Rattle.am_model.proofs.Received.{FitsCall, one_touched}
use Rattle.am_laws.proofs.Alls.{all_map}
use Rattle.am_laws.proofs.Delivered.{delivers, put_facts}
use Rattle.am_laws.proofs.Held.{ReceivedAre, held_kept, polled_run}
use Rattle.am_scenario_types.specs.declared.parts.ScriptCall.{ScriptCall}
use Rattle.am_scenario_types.specs.Lawful.{IsLawful}
use Rattle.am_scenario_types.specs.Lists.{ScenarioLists}
use Rattle.am_model_scripts.specs.Layout.{layout_of}
use Rattle.am_model_scripts.specs.Scripts.{KeepsScripts, call_made}
use Rattle.am_model_scripts.specs.Follows.{KeepsToEvents, is_of_run}
use Rattle.am_library_views.proofs.Summed.{Sums}
use Rattle.am_library.specs.Laws.{Adds, IsSumOfRuns, is_adding, leaves_adding}
use Rattle.am_library_views.specs.Views.{first_word, is_to, requests_run, runs_at}
use Rattle.am_library_views.proofs.Called.{calls_are_script, made}
use Rattle.am_library_views.proofs.Distinct.{has_at}
use Rattle.am_library_views.proofs.Ended.{request_as}
use Rattle.am_library_views.proofs.Summed.{is_shown}
use Rattle.am_library_views.proofs.Weights.{of, only, sum_filter, sum_one, sum_push}

-- ---- the calls leave it adding

abbrev bad : EndpointId → ScriptCall → ℕ
bad e c = only (if leaves_adding e c then false else true) 1

none_bad : (e : EndpointId) (calls : List ScriptCall) → list_all (leaves_adding e) calls ≡ true → sum_by (bad e) calls ≡ 0
none_bad e [] all = refl
none_bad e (c ∷ calls) all =
    let parts = and_parts (leaves_adding e c) (list_all (leaves_adding e) calls) all in
    let here : bad e c ≡ 0 = ap (λ (b : Bool). only (if b then false else true) 1) parts.0 in
    omega (arith, sum_by-cons (bad e) c calls, here, none_bad e calls parts.1)

not_bad : (b : Bool) → only (if b then false else true) 1 ≡ 0 → b ≡ true
not_bad true none = refl
not_bad false none = absurd (omega (arith, none))

-- an event, if it is a call of a thread, leaves it adding
abbrev IsGood : EndpointId → Event → Type 0
IsGood e event = MatchOption (call_made event) (Unit {0}) (λ (c : ScriptCall). leaves_adding e c ≡ true)

good_now : (e : EndpointId) (o : Option ScriptCall) → of (bad e) o ≡ 0 → MatchOption o (Unit {0}) (λ (c : ScriptCall). leaves_adding e c ≡ true)
good_now e None none = tt
good_now e (Some c) none = not_bad (leaves_adding e c) none

record Goes (s : ScenarioLists) (e : EndpointId) (past : List Entry) (x : Entry) : Type 0 where
  may : MayFollow (layout_of s) past x
  asked : IsAcceptedAsAsked (layout_of s) past x
  first : IsPutAndRunFirst (layout_of s) past x
  sends : SendsOne x.event x.outcome
  run : is_of_run s x.event ≡ true
  good : IsGood e x.event

all_go : (s : ScenarioLists) (e : EndpointId) (past journal : List Entry) → EachAfter (MayFollow (layout_of s)) past journal →
    EachAfter (IsAcceptedAsAsked (layout_of s)) past journal → EachAfter (IsPutAndRunFirst (layout_of s)) past journal →
    EachAfter (λ past x. SendsOne x.event x.outcome) past journal → list_all (λ (x : Entry). is_of_run s x.event) journal ≡ true →
    sum_by (bad e) (filter_map made journal) ≡ 0 → EachAfter (Goes s e) past journal
all_go s e past [] may asked first sends run none = tt
all_go s e past (x ∷ journal) may asked first sends run none =
    let parts = and_parts (is_of_run s x.event) (list_all (λ (y : Entry). is_of_run s y.event) journal) run in
    let here : of (bad e) (made x) ≡ 0 = omega (arith, sum_one made (bad e) x journal, none) in
    let rest : sum_by (bad e) (filter_map made journal) ≡ 0 = omega (arith, sum_one made (bad e) x journal, none) in (
      record { may = may.0; asked = asked.0; first = first.0; sends = sends.0; run = parts.0; good = good_now e (made x) here },
      all_go s e (past ++ x ∷ []) journal may.1 asked.1 first.1 sends.1 parts.1 rest,
    )

-- a call at the endpoint is one that an endpoint that adds makes
good_call : (s : ScenarioLists) (e end : EndpointId) (actor : Actor) (call : Call) → same_end e end ≡ true → is_of_run s (Events.Call actor end call) ≡ true →
    IsGood e (Events.Call actor end call) → is_adding call ≡ true
good_call s e end (Thread t) call at run good = by_test (same_end e end) at good
  where
    by_test : (b : Bool) → b ≡ true → (not b || is_adding call) ≡ true → is_adding call ≡ true
    by_test true is all = all
    by_test false is all = absurd (cc)
good_call s e end Outside Calls.Poll at run good = refl
good_call s e end Outside call at run good = absurd (cc)

-- ---- no reply comes to it

abbrev asked_by : EndpointId → Message → ℕ
asked_by e m = only (is_request m) (only (same_end e m.serial.source) 1)

abbrev answers_to : EndpointId → Message → ℕ
answers_to e m = only (is_reply m) (only (is_to e m) 1)

reply_weighs : (m : Message) (b : Bool) (n : ℕ) → is_request m ≡ b → (if b then false else true) ≡ true → only (is_request m) n ≡ 0
reply_weighs m true n is never = absurd (cc)
reply_weighs m false n is none = ap (λ (b : Bool). only b n) is

request_weighs : (m : Message) (n : ℕ) → is_request m ≡ true → only (is_reply m) n ≡ 0
request_weighs m n is = ap (λ (b : Bool). only (if b then false else true) n) is

elsewhere : (b : Bool) → (b ≡ true → ⊥) → only b 1 ≡ 0
elsewhere true never = absurd (never refl)
elsewhere false never = refl

-- it sends no request
sends_none : (s : ScenarioLists) (e : EndpointId) (layout : Layout) (past : List Entry) (event : Event) (o : Outcome) → is_of_run s event ≡ true →
    IsGood e event → IsAcceptedBy layout past event o → of (asked_by e) (accepted_in event o) ≡ 0
sends_none s e layout past (Events.Call actor end (Calls.Request index handler words)) (Out.Requested m) run good asked =
    by_mapping (mapping_of past end index) asked
  where
    by_mapping : (o : Option Mapping) → MatchOption o ⊥ (λ (mapping : Mapping). m ≡ request_as layout past end handler words mapping) → asked_by e m ≡ 0
    by_mapping None never = absurd never
    by_mapping (Some mapping) is =
        ap (asked_by e) is
        ∙ elsewhere (same_end e end) (λ (at : same_end e end ≡ true).
        let never : false ≡ true = good_call s e end actor (Calls.Request index handler words) at run good in absurd (cc))
sends_none s e layout past (Events.Call actor end Calls.Poll) (Out.Ran handler m (Some reply)) run good asked =
    reply_weighs reply (is_request reply) (only (same_end e reply.serial.source) 1) refl asked.kind
sends_none s e layout past (Events.Call actor end Calls.Poll) (Out.Ran handler m None) run good asked = refl
sends_none s e layout past (Events.Call actor end call) o run good asked = refl
sends_none s e layout past event o run good asked = refl

-- what was accepted and weighs nothing is not among what weighs something
pub weighs_none : (f : Message → ℕ) (past : List Entry) (m : Message) → sum_by f (filter_map accepted_of past) ≡ 0 → Contains (filter_map accepted_of past) m →
    f m ≡ 0
weighs_none f past m none (k, below, at) =
    let here : f (get_or (filter_map accepted_of past) k m) ≡ f m = ap f at in
    omega (arith, get_or-le-sum_by f (filter_map accepted_of past) k m below, here, none)

-- and no reply comes to it
answers_none : (e : EndpointId) (layout : Layout) (past : List Entry) (event : Event) (o : Outcome) → IsAcceptedBy layout past event o → SendsOne event o →
    ((m : Message) → run_in event o ≡ Some m → Contains (filter_map accepted_of past) m) → sum_by (asked_by e) (filter_map accepted_of past) ≡ 0 →
    of (answers_to e) (accepted_in event o) ≡ 0
answers_none e layout past (Events.Call actor end (Calls.Request index handler words)) (Out.Requested m) asked sends ran none =
    request_weighs m (only (is_to e m) 1) sends
answers_none e layout past (Events.Call actor end Calls.Poll) (Out.Ran handler m (Some reply)) asked sends ran none =
    ap (λ (b : Bool). only b (only (is_to e reply) 1)) sends.1
    ∙ elsewhere (is_to e reply) (λ (at : is_to e reply ≡ true).
    let source : e ≡ m.serial.source = same_end-is e reply.dest at ∙ asked.dest in
    let one : asked_by e m ≡ 1 =
    ap (λ (b : Bool). only b (only (same_end e m.serial.source) 1)) sends.0
    ∙ ap (λ (b : Bool). only b 1) (subst (λ (d : EndpointId). same_end e d ≡ true) source (same_end-refl e)) in
    absurd (omega (arith, one, weighs_none (asked_by e) past m none (ran m refl))))
answers_none e layout past (Events.Call actor end Calls.Poll) (Out.Ran handler m None) asked sends ran none = refl
answers_none e layout past (Events.Call actor end call) o asked sends ran none = refl
answers_none e layout past event o asked sends ran none = refl

-- ---- its handlers add

abbrev IsAdd : Option HandlerKind → Type 0
IsAdd None = Unit {0}
IsAdd (Some Note) = ⊥
IsAdd (Some (Echo to)) = ⊥
IsAdd (Some (Add to)) = Unit {0}

abbrev AllAdd : List (Option HandlerKind) → Type 0
AllAdd kinds = (index : ℕ) → IsAdd (entry_at kinds index)

-- what a handler's index has after another was set
pub set_at : (kinds : List (Option HandlerKind)) (at : ℕ) (kind : Option HandlerKind) (P : Option HandlerKind → Type 0) (index : ℕ) → P (entry_at kinds index) →
    P kind → P (entry_at (slice_set kinds at kind) index)
set_at kinds at kind P index old new =
    ⊎_elim
    (λ (low : at < length kinds).
    ⊎_elim
    (λ (before : index < at). subst P (sym (get_or-set_other kinds at index kind None (λ (e : index ≡ at). absurd (omega arith)))) old)
    (λ (past : at ≤ index).
    ⊎_elim
    (λ (after : at < index). subst P (sym (get_or-set_other kinds at index kind None (λ (e : index ≡ at). absurd (omega arith)))) old)
    (λ (upto : index ≤ at). let same : at ≡ index = omega arith in
    subst (λ (k : ℕ). P (entry_at (slice_set kinds at kind) k)) same (subst P (sym (get_or-set_same kinds at kind None low)) new))
    (cases_lt at index))
    (cases_lt index at))
    (λ (beyond : length kinds ≤ at). subst (λ (l : List (Option HandlerKind)). P (entry_at l index)) (sym (set_past kinds at kind beyond)) old)
    (cases_lt at (length kinds))

adding_kind : (index : ℕ) (kind : HandlerKind) → is_adding (Calls.SetHandler index kind) ≡ true → IsAdd (Some kind)
adding_kind index Note is = absurd (cc)
adding_kind index (Echo to) is = absurd (cc)
adding_kind index (Add to) is = tt

called_adds : (s : State) (c : Call) (o : Outcome) → is_adding c ≡ true → AllAdd s.body.handlers → AllAdd (called s c o).body.handlers
called_adds s (Calls.Request at handler words) (Out.Requested m) good adds = adds
called_adds s Calls.Poll (Out.Zero serial why) good adds = adds
called_adds s Calls.Poll (Out.Ran handler m None) good adds = adds
called_adds s Calls.Poll (Out.Ran handler m (Some reply)) good adds = adds
called_adds s (Calls.SetTag tag) Out.Done good adds = adds
called_adds s (Calls.Map at name tag credits) Out.Done good adds = adds
called_adds s (Calls.Unmap at) Out.Done good adds = adds
called_adds s (Calls.SetHandler at kind) Out.Done good adds = λ (index : ℕ). set_at s.body.handlers at (Some kind) IsAdd index (adds index)
    (adding_kind at kind good)
called_adds s (Calls.GiveUp serial) Out.Done good adds = adds
called_adds s Calls.Close Out.Done good adds = adds
called_adds s c o good adds = adds

-- ---- the handler of each request that it received is set

abbrev pub is_unset : List (Option HandlerKind) → Message → Bool
is_unset kinds m = is_request m && is_none (entry_at kinds m.handler)

abbrev pub HasHandler : List (Option HandlerKind) → Message → Type 0
HasHandler kinds m = is_unset kinds m ≡ false

still_set : (request : Bool) (o p : Option HandlerKind) → (is_none o ≡ false → is_none p ≡ false) → (request && is_none o) ≡ false →
    (request && is_none p) ≡ false
still_set true o p keeps is = keeps is
still_set false o p keeps is = refl

stays_set : (kinds : List (Option HandlerKind)) (at : ℕ) (kind : HandlerKind) (m : Message) → HasHandler kinds m → HasHandler (slice_set kinds at (Some kind)) m
stays_set kinds at kind m is =
    still_set (is_request m) (entry_at kinds m.handler) (entry_at (slice_set kinds at (Some kind)) m.handler) (λ (old : is_none
    (entry_at kinds m.handler) ≡ false).
    set_at kinds at (Some kind) (λ (o : Option HandlerKind). is_none o ≡ false) m.handler old refl) is

-- a call leaves the handlers, or sets one
called_set : (s : State) (c : Call) (o : Outcome) (m : Message) → HasHandler s.body.handlers m → HasHandler (called s c o).body.handlers m
called_set s (Calls.Request at handler words) (Out.Requested n) m is = is
called_set s Calls.Poll (Out.Zero serial why) m is = is
called_set s Calls.Poll (Out.Ran handler n None) m is = is
called_set s Calls.Poll (Out.Ran handler n (Some reply)) m is = is
called_set s (Calls.SetTag tag) Out.Done m is = is
called_set s (Calls.Map at name tag credits) Out.Done m is = is
called_set s (Calls.Unmap at) Out.Done m is = is
called_set s (Calls.SetHandler at kind) Out.Done m is = stays_set s.body.handlers at kind m is
called_set s (Calls.GiveUp serial) Out.Done m is = is
called_set s Calls.Close Out.Done m is = is
called_set s c o m is = is

pub changed_set : (e : EndpointId) (s : State) (event : Event) (o : Outcome) (m : Message) → HasHandler s.body.handlers m →
    HasHandler (changed e s event o).body.handlers m
changed_set e s (Events.Call actor end call) o m is = called_set s call o m is
changed_set e s event o m is =
    subst (λ (kinds : List (Option HandlerKind)). HasHandler kinds m) (sym (ap (λ (w : Own). w.handlers) (own_kept e s event o refl))) is

-- ---- what runs adds

-- what a run adds to the sum of the runs at the endpoint
abbrev adds_word : EndpointId → Message → ℕ
adds_word e m = only (is_request m) (only (is_to e m) (first_word m))

sum_of_runs : (journal : List Entry) (e : EndpointId) → sum_by first_word (runs_at journal e) ≡ sum_by (adds_word e) (filter_map run_of journal)
sum_of_runs journal e =
    sum_filter first_word (is_to e) (requests_run journal)
    ∙ sum_filter (λ (m : Message). only (is_to e m) (first_word m)) is_request (filter_map run_of journal)

is_some_add : (kinds : List (Option HandlerKind)) (m : Message) (o : Option HandlerKind) (sum : ℕ) → IsAdd o → is_none o ≡ false →
    sum_after o m.words sum ≡ (sum + m.words.a) % 2 ^ 64
is_some_add kinds m None sum add some = absurd (cc)
is_some_add kinds m (Some Note) sum add some = absurd add
is_some_add kinds m (Some (Echo to)) sum add some = absurd add
is_some_add kinds m (Some (Add to)) sum add some = refl

request_set : (request : Bool) (o : Option HandlerKind) → request ≡ true → (request && is_none o) ≡ false → is_none o ≡ false
request_set true o is set = set
request_set false o is set = absurd (cc)

own_handler : (m : Message) (handler : Option ℕ) (reply : Message) → is_request m ≡ true → RunsOwnHandler (Out.Ran handler m (Some reply)) →
    handler ≡ Some m.handler
own_handler m None reply is own = let never : false ≡ true = sym (ap (λ (b : Bool). if b then false else true) is) ∙ own in absurd (cc)
own_handler m (Some handler) reply is own = ap (λ (n : ℕ). Some n) own

added : (sum total a next : ℕ) → sum ≡ total % 2 ^ 64 → next ≡ (sum + a) % 2 ^ 64 → next ≡ (total + a) % 2 ^ 64
added sum total a next is more = omega arith

same_sum : (sum total : ℕ) → sum ≡ total % 2 ^ 64 → sum ≡ (total + 0) % 2 ^ 64
same_sum sum total is = omega arith

-- ---- entry after entry

record SumsSo (s : ScenarioLists) (e : EndpointId) (past : List Entry) : Type 0 where
  history : IsHistory (layout_of s) past
  adds : AllAdd (state_of (layout_of s) past e).body.handlers
  set : ReceivedAre (HasHandler (state_of (layout_of s) past e).body.handlers) (state_of (layout_of s) past e)
  none_asked : sum_by (asked_by e) (filter_map accepted_of past) ≡ 0
  none_answers : sum_by (answers_to e) (filter_map accepted_of past) ≡ 0
  sum : (state_of (layout_of s) past e).body.sum ≡ sum_by (adds_word e) (filter_map run_of past) % 2 ^ 64

ran_accepted : (s : ScenarioLists) (e : EndpointId) (past : List Entry) (x : Entry) → Goes s e past x → (m : Message) → run_of x ≡ Some m →
    IsFirstRun (layout_of s) past x m
ran_accepted s e past x goes m is = subst (λ (o : Option Message). MatchOption o (Unit {0}) (IsFirstRun (layout_of s) past x)) is goes.first.1

-- what a call at the endpoint adds to its sum is what the request that it runs adds
called_sum : (s : ScenarioLists) (e : EndpointId) (past : List Entry) (t : State) (actor : Actor) (end : EndpointId) (call : Call) (o : Outcome) →
    same_end e end ≡ true → AllAdd t.body.handlers → ReceivedAre (HasHandler t.body.handlers) t → SendsOne (Events.Call actor end call) o →
    o ≡ outcome_of_call (layout_of s).pool end t call →
    ((m : Message) → run_in (Events.Call actor end call) o ≡ Some m → (end ≡ m.dest) × RunsOwnHandler o × (answers_to e m ≡ 0)) →
    (called t call o).body.sum ≡ (t.body.sum + of (adds_word e) (run_in (Events.Call actor end call) o)) % 2 ^ 64 ⊎
    (((called t call o).body.sum ≡ t.body.sum) × (of (adds_word e) (run_in (Events.Call actor end call) o) ≡ 0))
called_sum s e past t actor end Calls.Poll (Out.Ran handler m (Some reply)) at adds set sends fits runs =
    let here = runs m refl in
    let held = polled_run (HasHandler t.body.handlers) end t m set t.body.notices (ap (λ (w : Outcome). run_in (Events.Call actor end Calls.Poll) w)
    (sym fits)) in
    let some : is_none (entry_at t.body.handlers m.handler) ≡ false =
    request_set (is_request m) (entry_at t.body.handlers m.handler) sends.0 held.held in
    let weight : adds_word e m ≡ m.words.a =
    ap (λ (b : Bool). only b (only (is_to e m) (first_word m))) sends.0
    ∙ ap (λ (b : Bool). only b (first_word m)) (subst (λ (d : EndpointId). same_end e d ≡ true) here.0 at) in
    inl
    (ap (λ (h : Option ℕ). sum_after (kind_run t.body.handlers h) m.words t.body.sum) (own_handler m handler reply sends.0 here.1)
    ∙ is_some_add t.body.handlers m (entry_at t.body.handlers m.handler) t.body.sum (adds m.handler) some
    ∙ ap (λ (n : ℕ). (t.body.sum + n) % 2 ^ 64) (sym weight))
called_sum s e past t actor end Calls.Poll (Out.Ran handler m None) at adds set sends fits runs =
    let here = runs m refl in
    let one : answers_to e m ≡ 1 =
    ap (λ (b : Bool). only b (only (is_to e m) 1)) sends
    ∙ ap (λ (b : Bool). only b 1) (subst (λ (d : EndpointId). same_end e d ≡ true) here.0 at) in
    absurd (omega (arith, one, here.2))
called_sum s e past t actor end (Calls.Request index handler words) (Out.Requested m) at adds set sends fits runs = inr (refl, refl)
called_sum s e past t actor end Calls.Poll (Out.Zero serial why) at adds set sends fits runs = inr (refl, refl)
called_sum s e past t actor end (Calls.SetTag tag) Out.Done at adds set sends fits runs = inr (refl, refl)
called_sum s e past t actor end (Calls.Map index name tag credits) Out.Done at adds set sends fits runs = inr (refl, refl)
called_sum s e past t actor end (Calls.Unmap index) Out.Done at adds set sends fits runs = inr (refl, refl)
called_sum s e past t actor end (Calls.SetHandler index kind) Out.Done at adds set sends fits runs = inr (refl, refl)
called_sum s e past t actor end (Calls.GiveUp serial) Out.Done at adds set sends fits runs = inr (refl, refl)
called_sum s e past t actor end Calls.Close Out.Done at adds set sends fits runs = inr (refl, refl)
called_sum s e past t actor end call o at adds set sends fits runs = inr (refl, refl)

changed_adds : (s : ScenarioLists) (e : EndpointId) (t : State) (event : Event) (o : Outcome) → list_any (same_end e) (ends_touched event o) ≡ true →
    is_of_run s event ≡ true → IsGood e event → AllAdd t.body.handlers → AllAdd (changed e t event o).body.handlers
changed_adds s e t (Events.Call actor end call) o at run good adds =
    called_adds t call o (good_call s e end actor call (one_touched (same_end e end) at) run good) adds
changed_adds s e t event o at run good adds = subst AllAdd (sym (ap (λ (w : Own). w.handlers) (own_kept e t event o refl))) adds

-- the sum of an endpoint after an entry that touches it
changed_sum : (s : ScenarioLists) (e : EndpointId) (past : List Entry) (t : State) (event : Event) (o : Outcome) (total : ℕ) →
    list_any (same_end e) (ends_touched event o) ≡ true → AllAdd t.body.handlers → ReceivedAre (HasHandler t.body.handlers) t → SendsOne event o →
    FitsCall (layout_of s).pool t event o → ((m : Message) → run_in event o ≡ Some m → IsAt (layout_of s) m.dest event × RunsOwnHandler o ×
    (answers_to e m ≡ 0)) → t.body.sum ≡ total % 2 ^ 64 → (changed e t event o).body.sum ≡ (total + of (adds_word e) (run_in event o)) % 2 ^ 64
changed_sum s e past t (Events.Call actor end call) o total at adds set sends fits runs is =
    ⊎_elim
    (λ (more : (called t call o).body.sum ≡ (t.body.sum + of (adds_word e) (run_in (Events.Call actor end call) o)) % 2 ^ 64).
    added t.body.sum total (of (adds_word e) (run_in (Events.Call actor end call) o)) (called t call o).body.sum is more)
    (λ (same : ((called t call o).body.sum ≡ t.body.sum) × (of (adds_word e) (run_in (Events.Call actor end call) o) ≡ 0)).
    same.0 ∙ same_sum t.body.sum total is ∙ ap (λ (n : ℕ). (total + n) % 2 ^ 64) (sym same.1))
    (called_sum s e past t actor end call o (one_touched (same_end e end) at) adds set sends fits runs)
changed_sum s e past t event o total at adds set sends fits runs is =
    ap (λ (w : Own). w.sum) (own_kept e t event o refl) ∙ same_sum t.body.sum total is ∙ ap (λ (n : ℕ). (total + n) % 2 ^ 64) (sym (no_run event o))
  where
    no_run : (event' : Event) (o' : Outcome) → of (adds_word e) (run_in event o) ≡ 0
    no_run event' o' = refl

-- an entry that doesn't touch it runs nothing there
untouched_adds : (layout : Layout) (e : EndpointId) (past : List Entry) (x : Entry) → touches e x ≡ false → (r : Option Message) →
    MatchOption r (Unit {0}) (IsFirstRun layout past x) → of (adds_word e) r ≡ 0
untouched_adds layout e past x off None first = refl
untouched_adds layout e past x off (Some m) first = by_test (is_to e m) refl
  where
    at_zero : (b : Bool) → only b 0 ≡ 0
    at_zero true = refl
    at_zero false = refl

    by_test : (b : Bool) → is_to e m ≡ b → adds_word e m ≡ 0
    by_test true at =
        let there : touches e x ≡ true = subst (λ (d : EndpointId). touches d x ≡ true) (sym (same_end-is e m.dest at)) first.touched in
        let never : true ≡ false = sym there ∙ off in absurd (cc)
    by_test false at = ap (λ (b : Bool). only (is_request m) (only b (first_word m))) at ∙ at_zero (is_request m)

sums_step : (s : ScenarioLists) (e : EndpointId) (past : List Entry) (x : Entry) → SumsSo s e past → Goes s e past x → SumsSo s e (past ++ x ∷ [])
sums_step s e past x so_far goes = record {
  history = each_push (MayFollow layout) [] past x so_far.history goes.may;
  adds = adds' (touches e x) refl;
  set = set' (touches e x) refl;
  none_asked = omega (
    arith,
    sum_push accepted_of (asked_by e) past x,
    sends_none s e layout past x.event x.outcome goes.run goes.good goes.asked,
    so_far.none_asked,
  );
  none_answers = omega (
    arith,
    sum_push accepted_of (answers_to e) past x,
    answers_none e layout past x.event x.outcome goes.asked goes.sends ran so_far.none_asked,
    so_far.none_answers,
  );
  sum = sum' (touches e x) refl;
}
  where
    layout : Layout
    layout = layout_of s

    ran : (m : Message) → run_in x.event x.outcome ≡ Some m → Contains (filter_map accepted_of past) m
    ran m is = let first = ran_accepted s e past x goes m is in has_at (filter_map accepted_of past) first.accepted.0 m first.accepted.1

    adds' : (b : Bool) → touches e x ≡ b → AllAdd (state_of (layout_of s) (past ++ x ∷ []) e).body.handlers
    adds' true at = subst (λ (w : State). AllAdd w.body.handlers) (sym (state_of_push (layout_of s) past x e true at))
        (changed_adds s e (state_of (layout_of s) past e) x.event x.outcome at goes.run goes.good so_far.adds)
    adds' false at = subst (λ (w : State). AllAdd w.body.handlers) (sym (state_of_push (layout_of s) past x e false at)) so_far.adds

    welcome : (m : Message) → put_in x.event x.outcome ≡ Some m → same_end e m.dest ≡ true → HasHandler (state_of (layout_of s) past e).body.handlers m
    welcome m is at =
        subst (λ (d : EndpointId). HasHandler (state_of (layout_of s) past d).body.handlers m) (sym (same_end-is e m.dest at))
        (put_facts (layout_of s) past x (delivers (layout_of s) past so_far.history) goes.may m is).welcome.handler

    set' : (b : Bool) → touches e x ≡ b →
        ReceivedAre (HasHandler (state_of (layout_of s) (past ++ x ∷ []) e).body.handlers) (state_of (layout_of s) (past ++ x ∷ []) e)
    set' true at =
        subst (λ (w : State). ReceivedAre (HasHandler w.body.handlers) w) (sym (state_of_push (layout_of s) past x e true at))
        (held_kept (HasHandler (changed e (state_of (layout_of s) past e) x.event x.outcome).body.handlers) e (state_of
        (layout_of s) past e) x.event x.outcome at
        (all_map (HasHandler (state_of (layout_of s) past e).body.handlers)
        (HasHandler (changed e (state_of (layout_of s) past e) x.event x.outcome).body.handlers) (state_of (layout_of s) past e).body.received
        (λ (m : Message) (is : HasHandler (state_of (layout_of s) past e).body.handlers m). changed_set e (state_of
        (layout_of s) past e) x.event x.outcome m is)
        so_far.set)
        (λ (m : Message) (is : put_in x.event x.outcome ≡ Some m) (to : same_end e m.dest ≡ true).
        changed_set e (state_of (layout_of s) past e) x.event x.outcome m (welcome m is to)))
    set' false at = subst (λ (w : State). ReceivedAre (HasHandler w.body.handlers) w) (sym (state_of_push (layout_of s) past x e false at)) so_far.set

    runs : (m : Message) → run_in x.event x.outcome ≡ Some m → IsAt (layout_of s) m.dest x.event × RunsOwnHandler x.outcome × (answers_to e m ≡ 0)
    runs m is =
        let first = ran_accepted s e past x goes m is in (
          first.place,
          first.handler,
          weighs_none (answers_to e) past m so_far.none_answers (has_at (filter_map accepted_of past) first.accepted.0 m first.accepted.1),
        )

    total : sum_by (adds_word e) (filter_map run_of (past ++ x ∷ [])) ≡ sum_by (adds_word e) (filter_map run_of past) + of (adds_word e) (run_of x)
    total = sum_push run_of (adds_word e) past x

    sum' : (b : Bool) → touches e x ≡ b →
        (state_of (layout_of s) (past ++ x ∷ []) e).body.sum ≡ sum_by (adds_word e) (filter_map run_of (past ++ x ∷ [])) % 2 ^ 64
    sum' true at =
        ap (λ (w : State). w.body.sum) (state_of_push (layout_of s) past x e true at)
        ∙ changed_sum s e past (state_of (layout_of s) past e) x.event x.outcome (sum_by (adds_word e) (filter_map run_of past)) at so_far.adds so_far.set
        goes.sends (fits_call (layout_of s) past e x goes.may at) runs so_far.sum
        ∙ ap (λ (n : ℕ). n % 2 ^ 64) (sym total)
    sum' false at =
        ap (λ (w : State). w.body.sum) (state_of_push (layout_of s) past x e false at)
        ∙ same_sum (state_of (layout_of s) past e).body.sum (sum_by (adds_word e) (filter_map run_of past)) so_far.sum
        ∙ ap (λ (n : ℕ). (sum_by (adds_word e) (filter_map run_of past) + n) % 2 ^ 64) (sym (untouched_adds (layout_of s) e past x at (run_of x) goes.first.1))
        ∙ ap (λ (n : ℕ). n % 2 ^ 64) (sym total)

pub none_at : (n index : ℕ) → entry_at {X = HandlerKind} (replicate n None) index ≡ None
none_at n index = by_test (nat_lt index n) refl
  where
    by_test : (t : Bool) → nat_lt index n ≡ t → entry_at {X = HandlerKind} (replicate n None) index ≡ None
    by_test true h = get_or-replicate n index None None (ltb-true index n h)
    by_test false h = get_or_past (replicate n None) index None (omega (arith, ltb-false index n h, length-replicate {A = Option HandlerKind} n None))

sums_begin : (s : ScenarioLists) (e : EndpointId) → SumsSo s e []
sums_begin s e = by_setting (find (has_id e) (layout_of s).ends) refl
  where
    by_setting : (setting : Option EndSetting) → find (has_id e) (layout_of s).ends ≡ setting → SumsSo s e []
    by_setting setting is = record {
      history = tt;
      adds = λ (index : ℕ). adds' setting index is;
      set = set' setting is;
      none_asked = refl;
      none_answers = refl;
      sum = sum' setting is;
    }
      where
        adds' : (setting : Option EndSetting) (index : ℕ) → find (has_id e) (layout_of s).ends ≡ setting →
            IsAdd (entry_at (state_of (layout_of s) [] e).body.handlers index)
        adds' None index is = subst (λ (w : Option EndSetting). IsAdd (entry_at (opening_by (layout_of s) w).body.handlers index)) (sym is)
            (subst IsAdd (sym (none_at 16 index)) tt)
        adds' (Some setting) index is = subst (λ (w : Option EndSetting). IsAdd (entry_at (opening_by (layout_of s) w).body.handlers index)) (sym is)
            (subst IsAdd (sym (none_at 16 index)) tt)

        set' : (setting : Option EndSetting) → find (has_id e) (layout_of s).ends ≡ setting →
            ReceivedAre (HasHandler (state_of (layout_of s) [] e).body.handlers) (state_of (layout_of s) [] e)
        set' None is = subst (λ (w : Option EndSetting). ReceivedAre (HasHandler (opening_by (layout_of s) w).body.handlers) (opening_by (layout_of s) w))
            (sym is) tt
        set' (Some setting) is =
            subst (λ (w : Option EndSetting). ReceivedAre (HasHandler (opening_by (layout_of s) w).body.handlers) (opening_by (layout_of s) w))
            (sym is) tt

        sum' : (setting : Option EndSetting) → find (has_id e) (layout_of s).ends ≡ setting → (state_of (layout_of s) [] e).body.sum ≡ 0 % 2 ^ 64
        sum' None is = ap (λ (w : Option EndSetting). (opening_by (layout_of s) w).body.sum) is
        sum' (Some setting) is = ap (λ (w : Option EndSetting). (opening_by (layout_of s) w).body.sum) is

pub is_sum_of_runs : (s : ScenarioLists) (journal : List Entry) (e : EndpointId) → IsLawful s → IsHistory (layout_of s) journal →
    PostOffice (layout_of s) journal → KeepsScripts s journal → KeepsToEvents s journal → Adds s e → IsSumOfRuns journal e
is_sum_of_runs s journal e lawful history laws scripts events adds =
    let none : sum_by (bad e) (filter_map made journal) ≡ 0 = calls_are_script (bad e) s journal lawful scripts events ∙ none_bad e s.script adds in
    let sums : SumsSo s e journal =
    over_each (Goes s e) (SumsSo s e) (λ (past : List Entry) (x : Entry) (so_far : SumsSo s e past) (goes : Goes s e past x). sums_step s e past x so_far goes)
    [] journal (sums_begin s e)
    (all_go s e [] journal history laws.acceptance.as_asked laws.delivery.places laws.replies.sends events none) in
    sym (ap (λ (w : Sums). w.sum) (is_shown (layout_of s) journal history e))
    ∙ sums.sum
    ∙ ap (λ (n : ℕ). n % 2 ^ 64) (sym (sum_of_runs journal e))
