-- The next call of a thread may happen, after the page-ins that it needs.
use Rattle.std.proofs.Common.{◌≡◌, ℕ, zero, suc, Bool, true, false, cond, List, [], ◌∷◌, length, Option, Some, None, refl, sym, ap, ◌∙◌, subst, arith}
use Rattle.std.proofs.Common.{true≢false, lt-ltb}
use Rattle.std.specs.Prelude.{◌&&◌, ◌||◌, nat_lt, find, filter, slice_get}
use Rattle.std.specs.List.{list_any, All}
use Rattle.am_lemmas.proofs.Options.{cond-None}
use Rattle.am_names.specs.declared.EndpointId.{EndpointId}
use Rattle.am_names.specs.declared.NodeId.{NodeId}
use Rattle.am_names.specs.Names.{same_end}
use Rattle.am_office_entries.specs.declared.Actor.TheVariants.{Thread, Outside}
use Rattle.am_office_entries.specs.declared.Condition.TheVariants as Needs
use Rattle.am_office_entries.specs.declared.Event.TheVariants as Events
use Rattle.am_office_entries.specs.declared.Entry.{Entry}
use Rattle.am_model.specs.Endpoint.{is_on_disk}
use Rattle.am_model.specs.Layout.{Layout, EndSetting, IsLawful, has_id, declared, home, home_by}
use Rattle.am_model.specs.History.{IsHistory, state_of, is_in_range, is_call_in_range}
use Rattle.am_model.proofs.Names.{same_end-is}
use Rattle.am_laws.proofs.Alls.{all_found}
use Rattle.am_scenario_types.specs.declared.parts.ScriptCall.{ScriptCall}
use Rattle.am_scenario_types.specs.Lawful as lawful
use Rattle.am_scenario_types.specs.Lists.{ScenarioLists}
use Rattle.am_model_scripts.specs.Layout.{layout_of}
use Rattle.am_model_scripts.proofs.Lawful.{lawful_layout, is_declared, event_in_range}
use Rattle.am_model_scripts.specs.Scripts.{is_of_thread, calls_of}
use Rattle.am_model_scripts.proofs.Declared.{thread_below_64, is_on_declared}
use Rattle.am_model_drain.specs.Made.{after_event}
use Rattle.am_model_drain.specs.Ready.{off_disk_at}
use Rattle.am_laws_runs.specs.Turns.Enabled.{CallsMayFollow}
use Rattle.am_laws_runs.proofs.Enabled.{event_follows, of_packets, IsSeated, IsSeatedSetting, all_seated}
use Rattle.am_laws_runs.proofs.Paging.{IsOffDisk, leaves_disk}

-- ---- homes

found_has : (e : EndpointId) (xs : List EndSetting) (x : EndSetting) → find (has_id e) xs ≡ Some x → same_end e x.id ≡ true
found_has e [] x h = absurd (cc)
found_has e (y ∷ ys) x h = by_test (has_id e y) refl h (found_has e ys x)
  where
    by_test : (b : Bool) → has_id e y ≡ b → cond b (Some y) (find (has_id e) ys) ≡ Some x → (find (has_id e) ys ≡ Some x → same_end e x.id ≡ true) →
        same_end e x.id ≡ true
    by_test true is k later =
        let same : y ≡ x = cc in
        ap (has_id e) (sym same) ∙ is
    by_test false is k later = later k

pub home_seated : (layout : Layout) (e : EndpointId) (node : NodeId) → IsLawful layout → home layout e ≡ Some node → IsSeated layout e node
home_seated layout e node ok h = by_found (find (has_id e) layout.ends) refl h
  where
    by_found : (o : Option EndSetting) → find (has_id e) layout.ends ≡ o → home_by o ≡ Some node → IsSeated layout e node
    by_found None is k = absurd (cc)
    by_found (Some x) is k =
        let same : x.node ≡ node = cc in
        let own : x.id ≡ e = sym (same_end-is e x.id (found_has e layout.ends x is)) in
        subst (λ (n : NodeId). IsSeated layout e n) same (subst (λ (i : EndpointId). IsSeated layout i x.node) own
        (all_found (IsSeatedSetting layout) (has_id e) layout.ends x is (all_seated layout ok)))

declared_in : (e : EndpointId) (xs : List EndSetting) → list_any (has_id e) xs ≡ true → home_by (find (has_id e) xs) ≡ None → ⊥
declared_in e [] k n = true≢false (sym k)
declared_in e (x ∷ xs) k n = by_test (has_id e x) k n (declared_in e xs)
  where
    by_test : (b : Bool) → (b || list_any (has_id e) xs) ≡ true → home_by (cond b (Some x) (find (has_id e) xs)) ≡ None →
        (list_any (has_id e) xs ≡ true → home_by (find (has_id e) xs) ≡ None → ⊥) → ⊥
    by_test true k n later = cc
    by_test false k n later = later k n

pub declared_home : (layout : Layout) (e : EndpointId) → declared layout e ≡ true → home layout e ≡ None → ⊥
declared_home layout e known none = declared_in e layout.ends known none

-- ---- a call of the script

pub All-filter_at : {X : Type 0} (P : X → Type 0) (q : X → Bool) (xs : List X) (k : ℕ) (x : X) → All P xs → slice_get (filter q xs) k ≡ Some x → P x
All-filter_at P q [] k x all e = absurd (cc)
All-filter_at P q (y ∷ ys) k x all e = by_test (q y) k e (λ j h. All-filter_at P q ys j x (λ i d lt. all (suc i) d (omega (arith, lt))) h)
  where
    by_test : (b : Bool) (j : ℕ) → slice_get (cond b (y ∷ filter q ys) (filter q ys)) j ≡ Some x → ((i : ℕ) → slice_get (filter q ys) i ≡ Some x → P x) → P x
    by_test true zero h later =
        let same : y ≡ x = cc in
        subst P same (all zero y (omega arith))
    by_test true (suc j) h later = later j h
    by_test false j h later = later j h

pub call_is_in_range : (s : ScenarioLists) (c : ScriptCall) → lawful.IsLawful s → lawful.IsLawfulScriptCall s.ends s.threads (lawful.least_credits s.pool) c →
    (is_in_range (layout_of s) (Events.Call (Thread c.thread) c.endpoint c.call) ≡ true) × (declared (layout_of s) c.endpoint ≡ true)
call_is_in_range s c ok k =
    let known : lawful.IsDeclared s.ends c.endpoint = is_on_declared s k.placed.0 c.endpoint k.placed.1.1 in
    let outside : is_in_range (layout_of s) (Events.Call Outside c.endpoint c.call) ≡ true =
    event_in_range s (Events.Call Outside c.endpoint c.call) (refl, known, k.call) in
    let thread : nat_lt c.thread 64 ≡ true = lt-ltb c.thread 64 (thread_below_64 s.threads c.thread k.placed.0 s ok.threads k.placed.1.0) in
    (ap (λ (b : Bool). b && declared (layout_of s) c.endpoint && is_call_in_range (layout_of s) c.call) thread ∙ outside, is_declared s c.endpoint known)

-- ---- off the disk, and then the call

call_off_disk : (layout : Layout) (c : ScriptCall) (ready : List Entry) → is_in_range layout (Events.Call (Thread c.thread) c.endpoint c.call) ≡ true →
    IsOffDisk layout c.endpoint ready → IsHistory layout (after_event layout (Events.Call (Thread c.thread) c.endpoint c.call) ready)
call_off_disk layout c ready ranged k =
    event_follows layout ready (Events.Call (Thread c.thread) c.endpoint c.call) k.history ranged
    (cond-None (is_on_disk (state_of layout ready c.endpoint).head.place) Needs.OnDisk None k.off refl)

pub calls_may_follow : CallsMayFollow
calls_may_follow s past c run left =
    let layout : Layout = layout_of s in
    let ok : IsLawful layout = lawful_layout s run.lawful in
    let made = All-filter_at (lawful.IsLawfulScriptCall s.ends s.threads (lawful.least_credits s.pool)) (is_of_thread c.thread) s.script
    (length (calls_of c.thread past)) c run.lawful.script left in
    let ranged = call_is_in_range s c run.lawful made in
    call_off_disk layout c (off_disk_at (home layout c.endpoint) layout c.endpoint past) ranged.0 (by_home ok ranged.1 (home layout c.endpoint) refl)
  where
    by_home : IsLawful (layout_of s) → declared (layout_of s) c.endpoint ≡ true → (o : Option NodeId) → home (layout_of s) c.endpoint ≡ o →
        IsOffDisk (layout_of s) c.endpoint (off_disk_at o (layout_of s) c.endpoint past)
    by_home ok known None is = absurd (declared_home (layout_of s) c.endpoint known is)
    by_home ok known (Some node) is = leaves_disk (layout_of s) node c.endpoint past (of_packets s run.packet) run.history
        (home_seated (layout_of s) c.endpoint node ok is)
