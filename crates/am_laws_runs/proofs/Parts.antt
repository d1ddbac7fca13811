-- The work in its parts: threads, endpoints, links, channels, and places.
use Rattle.std.proofs.Common.{◌≡◌, ℕ, ◌+◌, ◌-◌, ◌*◌, ◌<◌, ◌≤◌, true, cond, List, [], ◌∷◌, ◌++◌, length, None, refl, sym, ap, ◌∙◌, arith, lt-ltb, ltb-true}
use Rattle.std.specs.Prelude.{sum_by, count_by}
use Rattle.std.specs.List.{range_with_len}
use Rattle.std.proofs.lemmas.List.Sums.{sum_by-cons, sum_by_push, sum_by-le-sum_by}
use Rattle.am_names.specs.declared.EndpointId.{EndpointId}
use Rattle.am_names.specs.declared.NodeId.{NodeId}
use Rattle.am_office_entries.specs.declared.Entry.{Entry}
use Rattle.am_model.specs.Endpoint.{is_on_disk}
use Rattle.am_model.specs.Layout.{Fault}
use Rattle.am_model.specs.History.{channel_to, is_page_call, page_calls}
use Rattle.am_scenario_types.specs.declared.parts.ThreadLine.{ThreadLine}
use Rattle.am_scenario_types.specs.Lists.{ScenarioLists}
use Rattle.am_model_scripts.specs.Layout.{layout_of}
use Rattle.am_model_scripts.specs.Links.{nodes_of}
use Rattle.am_model_scripts.specs.Scripts.{call_made, script_of}
use Rattle.am_model_scripts.specs.Standings.{standings}
use Rattle.am_model_drain.proofs.Scripts.{calls_same}
use Rattle.am_laws_runs.specs.Turns.Work.{channel_work, link_work, node_work, thread_work, new_request, is_fault_left, is_standing_on_disk, work}
use Rattle.am_laws_runs.proofs.Falling.{bit_le, disk_fewer, fault_bit}
use Rattle.am_laws_runs.proofs.Sums.{over_channels}
use Rattle.am_laws_runs.proofs.Flights.{Acts, places_kept}
use Rattle.am_laws_runs.proofs.Links.{links_work, sent_by, taken_by}
use Rattle.am_laws_runs.proofs.EndStates.{ends_work}

abbrev pub threads_work : ScenarioLists → List Entry → ℕ
threads_work s past = sum_by (thread_work s past) s.threads

abbrev pub channels_work : ScenarioLists → List Entry → ℕ
channels_work s past = over_channels s (channel_work s past)

abbrev pub links_left : ScenarioLists → List Entry → ℕ
links_left s past = links_work s (sent_by past) (taken_by past)

-- the endpoints on disk, and the page calls that are to fail
abbrev pub places_work : ScenarioLists → List Entry → ℕ
places_work s past = count_by is_standing_on_disk (standings (layout_of s) past) + count_by (is_fault_left past) (layout_of s).faults

sum_both : {X : Type 0} (f g : X → ℕ) (xs : List X) → sum_by (λ (x : X). f x + g x) xs ≡ sum_by f xs + sum_by g xs
sum_both f g [] = refl
sum_both {X} f g (x ∷ xs) = omega (arith, sum_both f g xs, sum_by-cons f x xs, sum_by-cons g x xs, sum_by-cons (λ (y : X). f y + g y) x xs)

abbrev number_work : ScenarioLists → List Entry → NodeId → NodeId → ℕ
number_work s past node peer = sum_by (λ (number : ℕ). channel_work s past (channel_to node peer number)) (range_with_len 0 s.channels)

nodes_apart : (s : ScenarioLists) (past : List Entry) → sum_by (node_work s past) (nodes_of s) ≡ links_left s past + channels_work s past
nodes_apart s past =
    (λ i. sum_by (λ (node : NodeId). sum_both (link_work s past node) (number_work s past node) (nodes_of s) i) (nodes_of s))
    ∙ sum_both (λ (node : NodeId). sum_by (link_work s past node) (nodes_of s)) (λ (node : NodeId). sum_by (number_work s past node) (nodes_of s)) (nodes_of s)

pub work_parts : (s : ScenarioLists) (past : List Entry) → work s past ≡ threads_work s past + ends_work s past + links_left s past + channels_work s past +
    places_work s past
work_parts s past = omega (arith, nodes_apart s past)

-- ---- places

pub faults_kept : (past : List Entry) (x : Entry) (fs : List Fault) → count_by (is_fault_left (past ++ x ∷ [])) fs ≤ count_by (is_fault_left past) fs
faults_kept past x fs = sum_by-le-sum_by (fault_bit (past ++ x ∷ [])) (fault_bit past) fs
    (λ (f : Fault). bit_le (is_fault_left (past ++ x ∷ []) f) (is_fault_left past f) (before f))
  where
    before : (f : Fault) → is_fault_left (past ++ x ∷ []) f ≡ true → is_fault_left past f ≡ true
    before f h =
        let more : page_calls f.node (past ++ x ∷ []) ≡ page_calls f.node past + cond (is_page_call f.node x.event) 1 0 =
        sum_by_push (λ (y : Entry). cond (is_page_call f.node y.event) 1 0) past x in
        lt-ltb (page_calls f.node past) f.number (omega (arith, more, ltb-true (page_calls f.node (past ++ x ∷ [])) f.number h))

-- an entry that moves no endpoint
pub places_fewer : (s : ScenarioLists) (past : List Entry) (x : Entry) → Acts x.event → places_work s (past ++ x ∷ []) ≤ places_work s past
places_fewer s past x acts =
    omega (
      arith,
      faults_kept past x (layout_of s).faults,
      disk_fewer (layout_of s) past (past ++ x ∷ [])
          (λ (f : EndpointId) h. sym (ap is_on_disk (places_kept (layout_of s) past x f acts)) ∙ h) (layout_of s).ends,
    )

-- ---- an entry that is no call of a thread

threads_kept : (s : ScenarioLists) (past : List Entry) (x : Entry) → call_made x.event ≡ None → threads_work s (past ++ x ∷ []) ≡ threads_work s past
threads_kept s past x none = λ i. sum_by (λ (t : ThreadLine). (length (script_of s t.id) - length (calls_same t.id past x none i)) * (1 + new_request s))
    s.threads

pub acted : (s : ScenarioLists) (past : List Entry) (x : Entry) (n : ℕ) → Acts x.event → call_made x.event ≡ None →
    ends_work s (past ++ x ∷ []) + links_left s (past ++ x ∷ []) + channels_work s (past ++ x ∷ []) + n ≤ ends_work s past + links_left s past + channels_work s
    past → work s (past ++ x ∷ []) + n ≤ work s past
acted s past x n acts none less =
    omega (arith, work_parts s past, work_parts s (past ++ x ∷ []), threads_kept s past x none, places_fewer s past x acts, less)

pub acted_less : (s : ScenarioLists) (past : List Entry) (x : Entry) → Acts x.event → call_made x.event ≡ None →
    ends_work s (past ++ x ∷ []) + links_left s (past ++ x ∷ []) + channels_work s (past ++ x ∷ []) + 1 ≤ ends_work s past + links_left s past + channels_work s
    past → work s (past ++ x ∷ []) < work s past
acted_less s past x acts none less = omega (arith, acted s past x 1 acts none less)
