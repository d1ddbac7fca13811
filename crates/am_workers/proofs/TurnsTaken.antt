-- A turn of a thread keeps what it works by.
use Rattle.std.proofs.Common.{◌≡◌, ℕ, suc, ◌+◌, ◌^◌, ◌<◌, ◌≤◌, ◌||◌, Bool, true, false, cond, max, List, [], ◌∷◌, ◌++◌, length, take, Option, Some, None, sym}
use Rattle.std.proofs.Common.{refl, ap, ◌∙◌, subst, arith, append_assoc, append-nil, eq-eqb}
use Rattle.std.specs.Prelude.{not}
use Rattle.std.specs.List.{filter, filter_map, slice_get}
use Rattle.std.proofs.lemmas.Option.{slice_get_within}
use Rattle.am_lemmas.proofs.Lists.{take-slice_get}
use mathlib.Core.Option.{some}
use lib.ListN.{get_elem?}
use Rattle.am_names.specs.declared.EndpointId.{EndpointId}
use Rattle.am_names.specs.Names.{same_end}
use Rattle.am_office_entries.specs.declared.Actor.TheVariants.{Thread}
use Rattle.am_office_entries.specs.declared.Call.{Call}
use Rattle.am_office_entries.specs.declared.Condition.TheVariants as Needs
use Rattle.am_office_entries.specs.declared.Event.{Event}
use Rattle.am_office_entries.specs.declared.Event.TheVariants as Events
use Rattle.am_office_entries.specs.declared.Entry.{Entry}
use Rattle.am_office_entries.specs.Entries.{touches}
use Rattle.am_endpoint_body.specs.declared.settings.EndSettings.{EndSettings}
use Rattle.am_endpoint.specs.View.{state_by}
use Rattle.am_model.specs.Parts.{last_stamp}
use Rattle.am_model.specs.Calls.{outcome_of_call}
use Rattle.am_model.specs.Choice.{first_holding}
use Rattle.am_model.specs.Changes.{replay}
use Rattle.am_model.specs.Endpoint.{State}
use Rattle.am_model.specs.History.{is_in_range}
use Rattle.am_workers_laws.specs.Phases.Then.{StandsAfter}
use Rattle.am_places.specs.Rule.{Begins, joined, read}
use Rattle.am_places.specs.declared.board.Tenure.{Tenure}
use Rattle.am_scenario_types.specs.Lists.{ScenarioLists}
use Rattle.am_scenario_types.specs.declared.parts.ScriptCall.{ScriptCall}
use Rattle.am_model_scripts.specs.Layout.{layout_of}
use Rattle.am_model_scripts.specs.Follows.{is_by_thread}
use Rattle.am_model_scripts.specs.Scripts.{call_made, calls_of, is_of_thread, script_of}
use Rattle.am_workers.specs.Turns.Callers.{IsScript, next_after}
use Rattle.am_workers_laws.proofs.Keeps.{threads_go_on}
use Rattle.am_workers_laws.specs.Invariants.Keeps.{IsThreadsStep}
use Rattle.am_workers_laws.specs.Invariants.Seats.{EndPass, Ids, KnowsNode, Stayed, Stays, seen_log}
use Rattle.am_workers.specs.Turns.Turns.{IsCall, IsWant, ThreadFound, ThreadTurns, clock_after}
use Rattle.am_workers_laws.specs.Invariants.Works.{AreSeen, Calls, Wants, ThreadWorks}
use Rattle.am_workers.specs.declared.turns.turns.ThreadTurn.{ThreadTurn}
use Rattle.am_workers.specs.declared.turns.turns.ThreadTurn.TheVariants as Turns
use Rattle.am_workers_laws.proofs.Keeping.{AreOf, knows_after, only_of, same_births, same_mark, same_seats, seen_here, seen_more}

-- ---- stamps

low_by : (clock n stamp top : ℕ) → stamp ≡ 1 + max clock n → max clock n < top → stamp ≤ top
low_by clock n stamp top is low = omega arith

later_by : (clock n stamp : ℕ) → stamp ≡ 1 + max clock n → clock < stamp
later_by clock n stamp is = omega arith

-- ---- the calls

take_more : (xs : List ScriptCall) (n : ℕ) (x : ScriptCall) → slice_get xs n ≡ Some x → take (n + 1) xs ≡ take n xs ++ x ∷ []
take_more xs n x h = let e : n + 1 ≡ suc n = omega arith in ap (λ (m : ℕ). take m xs) e ∙ take-slice_get xs n x h

one_call : (thread : ℕ) (x : Entry) (c : ScriptCall) → call_made x.event ≡ Some c → c.thread ≡ thread → calls_of thread (x ∷ []) ≡ c ∷ []
one_call thread x c made same = by_option (call_made x.event) made
  where
    by_option : (o : Option ScriptCall) → o ≡ Some c → filter (is_of_thread thread) (filter_map (λ (y : Option ScriptCall). y) (o ∷ [])) ≡ c ∷ []
    by_option o is = subst (λ (z : Option ScriptCall). filter (is_of_thread thread) (filter_map (λ (y : Option ScriptCall). y) (z ∷ [])) ≡ c ∷ []) (sym is)
        (ap (λ (b : Bool). cond b (c ∷ []) []) (eq-eqb thread c.thread (sym same)))

-- ---- what touches the endpoint

call_of : (x : Entry) (thread : ℕ) (e : EndpointId) (c : Call) → x.event ≡ Events.Call (Thread thread) e c → AreOf e (x ∷ [])
call_of x thread e c is = ((λ d. ap (λ (ev : Event). touches d (record { stamp = x.stamp; event = ev; outcome = x.outcome })) is ∙ or_none (same_end d e)), tt)
  where
    or_none : (b : Bool) → (b || false) ≡ b
    or_none true = refl
    or_none false = refl

want_of : (x : Entry) (thread : ℕ) (e : EndpointId) → x.event ≡ Events.Want (Thread thread) e → AreOf e (x ∷ [])
want_of x thread e is = ((λ d. ap (λ (ev : Event). touches d (record { stamp = x.stamp; event = ev; outcome = x.outcome })) is ∙ or_none (same_end d e)), tt)
  where
    or_none : (b : Bool) → (b || false) ≡ b
    or_none true = refl
    or_none false = refl

-- ---- a turn that met another seat

busy_keeps : (s : ScenarioLists) (ids : Ids) (thread turns next clock word n : ℕ) (v w : EndPass) → w ≡ read word n v →
    ThreadWorks s ids thread turns next clock v → ThreadWorks s ids thread (turns + 1) next clock w
busy_keeps s ids thread turns next clock word n v w is t =
    subst (λ (z : EndPass). ThreadWorks s ids thread (turns + 1) next clock z) (sym is)
    (record {
      made = t.made;
      born = t.born;
      knows = record {
        apart = t.knows.apart;
        births = t.knows.births;
        all = t.knows.all;
        wide = t.knows.wide;
        keeps = t.knows.keeps;
        own = t.knows.own;
        here = t.knows.here;
      };
      guest = t.guest;
      clocked = t.clocked;
      own = t.own;
      few = let f : length t.made ≤ turns = t.few in omega arith;
      calls = t.calls;
      ranged = t.ranged;
      right = t.right;
    })

pub idle_keeps : (s : ScenarioLists) (ids : Ids) (thread turns next clock : ℕ) (v : EndPass) → ThreadWorks s ids thread turns next clock v →
    ThreadWorks s ids thread (turns + 1) next clock v
idle_keeps s ids thread turns next clock v t =
    record {
      made = t.made;
      born = t.born;
      knows = t.knows;
      guest = t.guest;
      clocked = t.clocked;
      own = t.own;
      few = let f : length t.made ≤ turns = t.few in omega arith;
      calls = t.calls;
      ranged = t.ranged;
      right = t.right;
    }

-- ---- a turn in which the seat stayed

pub near_of : (ids : Ids) (made : List Entry) (v : EndPass) (k : ℕ) (set : EndSettings) → KnowsNode ids made v → get_elem? v.births k ≡ some set →
    k < length v.known
near_of ids made v k set knows born = let lt : k < length ids = slice_get_within ids k set.id (knows.births k set born) in
    let same : length v.known ≡ length ids = knows.wide in omega arith

pub begins_more : {X : Type 0} (xs ys zs : List X) → Begins xs ys → Begins ys zs → Begins xs zs
begins_more xs ys zs b c = (c.0 ++ b.0, b.1 ∙ ap (λ us. us ++ b.0) c.1 ∙ append_assoc zs c.0 b.0)

-- the endpoint as the new entry found it
pub stands : (ids : Ids) (k : ℕ) (set : EndSettings) (place : ℕ) (log : List (Tenure Entry)) (x : Entry) (made : List Entry) (v w : EndPass)
    (logs : EndpointId → List Entry) → KnowsNode ids made v → Stays k set place log (x ∷ []) v w → AreSeen ids w logs → StandsAfter (logs set.id) (joined log) x
stands ids k set place log x made v w logs knows h seen =
    let b : Begins (logs set.id) (seen_log k w) = seen k set.id (knows.births k set h.born) in (
      b.0,
      b.1 ∙ ap (λ (xs : List Entry). xs ++ b.0) (seen_here k set place log (x ∷ []) v w (near_of ids made v k set knows h.born) h)
          ∙ append_assoc (joined log) (x ∷ []) b.0,
    )

a_call : (s : ScenarioLists) (ids : Ids) (thread turns next clock k : ℕ) (c : ScriptCall) (calls : List ScriptCall) (set : EndSettings) (place : ℕ)
    (log : List (Tenure Entry)) (x : Entry) (v w : EndPass) → IsScript s thread calls → slice_get calls next ≡ Some c
    → set.id ≡ c.endpoint → (t : ThreadWorks s ids thread turns next clock v) → Stays k set place log (x ∷ []) v w →
    IsCall thread c.call clock set (joined log) x → IsThreadsStep s thread next (next + 1) clock k set place log v w x
a_call s ids thread turns next clock k c calls set place log x v w script at same t h is =
    record {
      stays = h;
      only = only_of set.id (x ∷ []) (call_of x thread set.id c.call is.event);
      later = later_by clock (last_stamp (joined log)) x.stamp is.stamped;
      low = low_by clock (last_stamp (joined log)) x.stamp (2 ^ 63) is.stamped is.low;
      own = ap (is_by_thread thread) is.event ∙ eq-eqb thread thread refl;
      calls = sym (ap (λ (cs : List ScriptCall). take next (script_of s thread) ++ cs) (one_call thread x c (ap call_made is.event
          ∙ ap (λ (z : ScriptCall). Some z) (λ i. record { thread = sym (script.own next c at) i; endpoint = same i; call = c.call })) (script.own next c at))
          ∙ sym (take_more (script_of s thread) next c (ap (λ (cs : List ScriptCall). slice_get cs next) (sym script.script) ∙ at)));
      ranged = ap (λ (ev : Event). is_in_range (layout_of s) ev) (is.event ∙ ap (λ (e : EndpointId). Events.Call (Thread thread) e c.call) same)
          ∙ script.called next c at;
      right = λ logs stood. Calls (record {
        actor = Thread thread;
        end = set.id;
        call = c.call;
        s = state_by set (joined log);
        found = (joined log, stood, ap (λ (st : State). replay set.id st (joined log)) (t.born k set h.born).opens);
        event = is.event;
        enabled = ap (λ (b : Bool). first_holding ((b, Needs.OnDisk) ∷ [])) is.here;
        outcome = is.outcome ∙ ap (λ (p : Option ℕ). outcome_of_call p set.id (state_by set (joined log)) c.call) (t.born k set h.born).pool;
      });
    }

a_want : (s : ScenarioLists) (ids : Ids) (thread turns next clock k : ℕ) (c : ScriptCall) (calls : List ScriptCall) (set : EndSettings) (place : ℕ)
    (log : List (Tenure Entry)) (x : Entry) (v w : EndPass) → IsScript s thread calls → slice_get calls next ≡ Some c
    → set.id ≡ c.endpoint → (t : ThreadWorks s ids thread turns next clock v) → Stays k set place log (x ∷ []) v w → IsWant thread clock set (joined log) x →
    IsThreadsStep s thread next next clock k set place log v w x
a_want s ids thread turns next clock k c calls set place log x v w script at same t h is =
    record {
      stays = h;
      only = only_of set.id (x ∷ []) (want_of x thread set.id is.event);
      later = later_by clock (last_stamp (joined log)) x.stamp is.stamped;
      low = low_by clock (last_stamp (joined log)) x.stamp (2 ^ 63) is.stamped is.low;
      own = ap (is_by_thread thread) is.event ∙ eq-eqb thread thread refl;
      calls = sym (ap (λ (cs : List ScriptCall). take next (script_of s thread) ++ cs) (no_call thread x (ap call_made is.event)) ∙ append-nil _);
      ranged = ap (λ (ev : Event). is_in_range (layout_of s) ev) (is.event ∙ ap (λ (e : EndpointId). Events.Want (Thread thread) e) same)
          ∙ script.wanted next c at;
      right = λ logs stood. Wants (record {
        actor = Thread thread;
        end = set.id;
        s = state_by set (joined log);
        found = (joined log, stood, ap (λ (st : State). replay set.id st (joined log)) (t.born k set h.born).opens);
        event = is.event;
        enabled = ap (λ (b : Bool). first_holding ((not b, Needs.NotOnDisk) ∷ [])) is.away;
        outcome = is.outcome;
      });
    }
  where
    no_call : (thread : ℕ) (x : Entry) → call_made x.event ≡ None → calls_of thread (x ∷ []) ≡ []
    no_call thread x none = subst (λ (o : Option ScriptCall). filter (is_of_thread thread) (filter_map (λ (y : Option ScriptCall). y) (o ∷ [])) ≡ []) (sym none)
        refl

same_id : (ids : Ids) (made : List Entry) (v : EndPass) (k : ℕ) (set : EndSettings) (e : EndpointId) → KnowsNode ids made v → get_elem? v.births k ≡ some set →
    slice_get ids k ≡ Some e → set.id ≡ e
same_id ids made v k set e knows born at = let z : Some set.id ≡ Some e = sym (knows.births k set born) ∙ at in cc

still_keeps : (s : ScenarioLists) (ids : Ids) (thread turns next clock k : ℕ) (Why : EndSettings → List Entry → Type 0) (v w : EndPass) →
    ThreadWorks s ids thread turns next clock v → Stayed k [] Why v w → ThreadWorks s ids thread (turns + 1) next clock w
still_keeps s ids thread turns next clock k Why v w t h =
    record {
      made = t.made;
      born = λ j b is. t.born j b (ap (λ (bs : List EndSettings). get_elem? bs j) (sym (same_births k h.set h.place h.log [] v w h.stays)) ∙ is);
      knows = subst (λ (xs : List Entry). KnowsNode ids xs w) (append-nil t.made) (knows_after k h.set h.place h.log [] v w ids t.made t.knows tt h.stays);
      guest = λ e. t.guest (sym (same_mark k h.set h.place h.log [] v w h.stays) ∙ e ∙ same_seats k h.set h.place h.log [] v w h.stays);
      clocked = t.clocked;
      own = t.own;
      few = let f : length t.made ≤ turns = t.few in omega arith;
      calls = t.calls;
      ranged = t.ranged;
      right = λ logs seen. t.right logs (λ j e at. begins_more (logs e) (seen_log j w) (seen_log j v) (seen j e at)
          (seen_more k h.set h.place h.log [] v w (near_of ids t.made v k h.set t.knows h.stays.born) h.stays j));
    }

pub turn_keeps : (s : ScenarioLists) (ids : Ids) (thread turns next clock k : ℕ) (c : ScriptCall) (calls : List ScriptCall) (turn : ThreadTurn)
    (v w : EndPass) → IsScript s thread calls → slice_get calls next ≡ Some c → slice_get ids k ≡ Some c.endpoint
    → ThreadWorks s ids thread turns next clock v → ThreadTurns k thread c.call clock v w turn →
    ThreadWorks s ids thread (turns + 1) (next_after next turn) (clock_after clock turn) w
turn_keeps s ids thread turns next clock k c calls (Turns.Made x) v w script at here t h =
    threads_go_on s ids thread turns next (next + 1) clock k h.set h.place h.log v w x t
    (a_call s ids thread turns next clock k c calls h.set h.place h.log x v w script at (same_id ids t.made v k h.set c.endpoint t.knows h.stays.born here) t
    h.stays h.why)
turn_keeps s ids thread turns next clock k c calls (Turns.Wanted x) v w script at here t h =
    threads_go_on s ids thread turns next next clock k h.set h.place h.log v w x t
    (a_want s ids thread turns next clock k c calls h.set h.place h.log x v w script at (same_id ids t.made v k h.set c.endpoint t.knows h.stays.born here) t
    h.stays h.why)
turn_keeps s ids thread turns next clock k c calls (Turns.Busy holder) v w script at here t h = busy_keeps s ids thread turns next clock _ _ v w h.1 t
turn_keeps s ids thread turns next clock k c calls Turns.Waits v w script at here t h =
    still_keeps s ids thread turns next clock k (ThreadFound thread c.call clock Turns.Waits) v w t h
turn_keeps s ids thread turns next clock k c calls Turns.Full v w script at here t h =
    still_keeps s ids thread turns next clock k (ThreadFound thread c.call clock Turns.Full) v w t h
turn_keeps s ids thread turns next clock k c calls Turns.Spent v w script at here t h =
    still_keeps s ids thread turns next clock k (ThreadFound thread c.call clock Turns.Spent) v w t h
turn_keeps s ids thread turns next clock k c calls Turns.NoMemory v w script at here t h =
    still_keeps s ids thread turns next clock k (ThreadFound thread c.call clock Turns.NoMemory) v w t h
