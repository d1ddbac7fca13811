-- A draft stays lawful.
use Rattle.std.proofs.Common.{◌≡◌, ◌≢◌, ℕ, ◌+◌, ◌<◌, ◌≤◌, ◌^◌, Bool, true, false, ◌||◌, List, [], ◌∷◌, ◌++◌, length, Option, Some, None, Result, Ok, Err}
use Rattle.std.proofs.Common.{refl, sym, ap, ◌∙◌, subst, arith}
use Rattle.std.specs.Prelude.{◌==◌, ◌&&◌, not, nat_le, find, count_by, is_none, if◌then◌else◌, IsSome, OnErr, OnOk}
use Rattle.std.specs.List.{All, AllPairs, list_any}
use Rattle.std.specs.Option.{option_map}
use Rattle.std.proofs.lemmas.Bool.{and_parts, eqb-true, eq-eqb, leb-false, leb-true}
use Rattle.std.proofs.lemmas.List.{length_push}
use Rattle.std.proofs.lemmas.List.Elements.{All-nil, All-push, All-weaker}
use Rattle.std.proofs.lemmas.List.Folds.{find-append}
use Rattle.std.proofs.lemmas.List.Sums.{sum_by_push}
use Rattle.am_lemmas.proofs.Bools.{and_from_three}
use Rattle.am_lemmas.proofs.Lists.{none_passes, all_pairs_none, all_pairs_grow}
use Rattle.am_lemmas.proofs.Options.{option_map-option_or}
use Rattle.am_names.specs.declared.EndpointId.{EndpointId}
use Rattle.am_names.specs.declared.NodeId.{NodeId}
use Rattle.am_names.specs.declared.Tag.{Tag}
use Rattle.am_bundle.specs.Lists.{BundleLists}
use Rattle.am_office_entries.specs.declared.Call.{Call}
use Rattle.am_office_entries.specs.declared.Call.TheVariants as Calls
use Rattle.am_office_entries.specs.declared.HandlerKind.{HandlerKind}
use Rattle.am_office_entries.specs.declared.HandlerKind.TheVariants.{Note, Echo, Add}
use Rattle.am_model.specs.Choice.{first_holding}
use Rattle.am_scenario_plan.specs.declared.plan.LinkFault.{LinkFault}
use Rattle.am_scenario_plan.specs.declared.plan.LinkFault.TheVariants.{Lose, Repeat, Late}
use Rattle.am_scenario_plan.specs.declared.plan.PlanLine.{PlanLine}
use Rattle.am_scenario_types.specs.declared.parts.Network.TheVariants.{Packet}
use Rattle.am_scenario_types.specs.declared.parts.EndLine.{EndLine}
use Rattle.am_scenario_types.specs.declared.parts.FaultLine.{FaultLine}
use Rattle.am_scenario_types.specs.declared.parts.ThreadLine.{ThreadLine}
use Rattle.am_scenario_types.specs.declared.parts.ScriptCall.{ScriptCall}
use Rattle.am_scenario_types.specs.declared.parts.StepLine.{StepLine}
use Rattle.am_scenario_types.specs.Lawful.{HasLawfulSettings, IsDeclared, IsLawfulBundle, IsLawfulCall, IsLawfulEnd, IsLawfulEvent, IsLawfulFault}
use Rattle.am_scenario_types.specs.Lawful.{IsLawfulFaultLine, IsLawfulKind}
use Rattle.am_scenario_types.specs.Lawful.{IsLawfulPlanLine, IsLawfulScriptCall, IsLawfulThread, IsOn, IsSamePageCall, IsSamePlace, IsWithin, least_credits}
use Rattle.am_scenario_types.specs.Lawful.{node_of, thread_node}
use Rattle.am_scenario_types.specs.Lists.{ScenarioLists}
use Rattle.am_library_drafts.specs.declared.draft.DraftFault.{DraftFault}
use Rattle.am_library_drafts.specs.declared.draft.DraftFault.TheVariants as Fault
use Rattle.am_library_drafts.specs.declared.draft.Setting.{Setting}
use Rattle.am_library_drafts.specs.declared.draft.Setting.TheVariants as Set
use Rattle.am_library_drafts.specs.Drafts.{IsDraft, IsTyped, are_together, call_fault, end_fault, end_line, ends_on, is_good_call, is_good_fault, is_good_kind}
use Rattle.am_library_drafts.specs.Drafts.{is_good_setting, is_same_packet}
use Rattle.am_library_drafts.specs.Drafts.{is_within, names_nothing, plan_fault, started, thread_fault, thread_line, threads_on}
use Rattle.am_library_drafts.specs.Drafts.{with_call, with_end}
use Rattle.am_library_drafts.specs.Drafts.{with_plan, with_setting, with_thread}

-- ---- no condition holds

record Three (a b c : Bool) : Type 0 where
  first : a ≡ false
  second : b ≡ false
  third : c ≡ false

three : (a b c : Bool) (x y z : DraftFault) → first_holding ((a, x) ∷ (b, y) ∷ (c, z) ∷ []) ≡ None → Three a b c
three true b c x y z none = absurd (cc)
three false true c x y z none = absurd (cc)
three false false true x y z none = absurd (cc)
three false false false x y z none = record { first = refl; second = refl; third = refl }

record Four (a b c d : Bool) : Type 0 where
  first : a ≡ false
  second : b ≡ false
  third : c ≡ false
  fourth : d ≡ false

four : (a b c d : Bool) (x y z w : DraftFault) → first_holding ((a, x) ∷ (b, y) ∷ (c, z) ∷ (d, w) ∷ []) ≡ None → Four a b c d
four true b c d x y z w none = absurd (cc)
four false true c d x y z w none = absurd (cc)
four false false true d x y z w none = absurd (cc)
four false false false true x y z w none = absurd (cc)
four false false false false x y z w none = record { first = refl; second = refl; third = refl; fourth = refl }

record Five (a b c d e : Bool) : Type 0 where
  first : a ≡ false
  second : b ≡ false
  third : c ≡ false
  fourth : d ≡ false
  fifth : e ≡ false

five : (a b c d e : Bool) (x y z w v : DraftFault) → first_holding ((a, x) ∷ (b, y) ∷ (c, z) ∷ (d, w) ∷ (e, v) ∷ []) ≡ None → Five a b c d e
five true b c d e x y z w v none = absurd (cc)
five false true c d e x y z w v none = absurd (cc)
five false false true d e x y z w v none = absurd (cc)
five false false false true e x y z w v none = absurd (cc)
five false false false false true x y z w v none = absurd (cc)
five false false false false false x y z w v none = record { first = refl; second = refl; third = refl; fourth = refl; fifth = refl }

not_not : (b : Bool) → not b ≡ false → b ≡ true
not_not true is = refl
not_not false is = absurd (cc)

neither : (a b : Bool) → (a || b) ≡ false → (a ≡ false) × (b ≡ false)
neither true b none = absurd (cc)
neither false b none = (refl, none)

within : (low high n : ℕ) → is_within low high n ≡ true → IsWithin low high n
within low high n is = let parts = and_parts (nat_le low n) (nat_le n high) is in (leb-true low n parts.0, leb-true n high parts.1)

-- ---- one element more

at_most_one : (b : Bool) → (if b then 1 else 0) ≤ 1
at_most_one true = omega arith
at_most_one false = omega arith

none_if : (b : Bool) → b ≡ false → (if b then 1 else 0) ≤ 0
none_if false e = omega arith
none_if true e = absurd (cc)

counted : {A : Type 0} (p : A → Bool) (xs : List A) (x : A) → count_by p (xs ++ x ∷ []) ≡ count_by p xs + (if p x then 1 else 0)
counted p xs x = sum_by_push (λ a. if p a then 1 else 0) xs x

-- where at most so many elements of each key stand, and fewer of this one's key, one more is not too many
still_few : {A : Type 0} (key : A → ℕ) (most : ℕ) (xs : List A) (x : A) → ((k : ℕ) → count_by (λ a. key a == k) xs ≤ most) →
    count_by (λ a. key a == key x) xs < most → (k : ℕ) → count_by (λ a. key a == k) (xs ++ x ∷ []) ≤ most
still_few key most xs x few fewer k = few_at (key x == k) refl
  where
    few_at : (b : Bool) → (key x == k) ≡ b → count_by (λ a. key a == k) (xs ++ x ∷ []) ≤ most
    few_at true e =
        let same : key x ≡ k = eqb-true (key x) k e in
        let here : count_by (λ a. key a == k) xs < most = subst (λ (n : ℕ). count_by (λ a. key a == n) xs < most) same fewer in
        let one : (if key x == k then 1 else 0) ≤ 1 = at_most_one (key x == k) in
        omega (arith, counted (λ a. key a == k) xs x, one)
    few_at false e =
        let none : (if key x == k then 1 else 0) ≤ 0 = none_if (key x == k) e in
        omega (arith, counted (λ a. key a == k) xs x, none, few k)

-- numbers below a length stay below it, and the next number is below the next length
numbered : {A : Type 0} (key : A → ℕ) (xs : List A) (x : A) → key x ≡ length xs → All (λ a. key a < length xs) xs →
    All (λ a. key a < length (xs ++ x ∷ [])) (xs ++ x ∷ [])
numbered {A} key xs x is below =
    let more : length (xs ++ x ∷ []) ≡ length xs + 1 = length_push xs x in
    All-push (λ (a : A). key a < length (xs ++ x ∷ [])) xs x
    (All-weaker (λ (a : A). key a < length xs) (λ (a : A). key a < length (xs ++ x ∷ [])) (λ (a : A) (less : key a < length xs). omega (arith, less, more)) xs
    below)
    (omega (arith, is, more))

rises : {A : Type 0} (key : A → ℕ) (xs : List A) (x : A) → key x ≡ length xs → All (λ a. key a < length xs) xs → AllPairs (λ a b. key a < key b) xs →
    AllPairs (λ a b. key a < key b) (xs ++ x ∷ [])
rises {A} key xs x is below rising =
    all_pairs_grow (λ (a b : A). key a < key b) xs x rising
    (All-weaker (λ (a : A). key a < length xs) (λ (a : A). key a < key x) (λ (a : A) (less : key a < length xs). omega (arith, less, is)) xs below)

-- ---- what was declared stays declared

stays_on : (ends : List EndLine) (end : EndLine) (node : NodeId) (id : EndpointId) → IsOn ends node id → IsOn (ends ++ end ∷ []) node id
stays_on ends end node id h =
    ap (λ (o : Option EndLine). option_map (λ end. end.node) o) (find-append (λ end. end.id.0 == id.0) ends (end ∷ []))
    ∙ option_map-option_or (λ (x : EndLine). x.node) (find (λ end. end.id.0 == id.0) ends) (find (λ end. end.id.0 == id.0) (end ∷ [])) node h

thread_stays_on : (threads : List ThreadLine) (thread : ThreadLine) (node : NodeId) (id : ℕ) → thread_node threads id ≡ Some node →
    thread_node (threads ++ thread ∷ []) id ≡ Some node
thread_stays_on threads thread node id h =
    ap (λ (o : Option ThreadLine). option_map (λ thread. thread.node) o) (find-append (λ thread. thread.id == id) threads (thread ∷ []))
    ∙ option_map-option_or (λ (x : ThreadLine). x.node) (find (λ thread. thread.id == id) threads) (find (λ thread. thread.id == id) (thread ∷ [])) node h

some_of : (o : Option NodeId) → IsSome o → (node : NodeId) × (o ≡ Some node)
some_of None is = absurd (cc)
some_of (Some node) is = (node, refl)

declared_stays : (ends : List EndLine) (end : EndLine) (id : EndpointId) → IsDeclared ends id → IsDeclared (ends ++ end ∷ []) id
declared_stays ends end id h =
    let there = some_of (node_of ends id) h in subst (λ (o : Option NodeId). IsSome o) (sym (stays_on ends end there.0 id there.1)) refl

call_stays : (ends : List EndLine) (end : EndLine) (least : ℕ) (call : Call) → IsLawfulCall ends least call → IsLawfulCall (ends ++ end ∷ []) least call
call_stays ends end least (Calls.Request index handler words) h = h
call_stays ends end least Calls.Poll h = h
call_stays ends end least (Calls.SetTag tag) h = h
call_stays ends end least (Calls.Map index name tag credits) h = (h.0, declared_stays ends end name h.1, h.2, h.3)
call_stays ends end least (Calls.Unmap index) h = h
call_stays ends end least (Calls.SetHandler index kind) h = h
call_stays ends end least (Calls.GiveUp serial) h = h
call_stays ends end least Calls.Close h = h
call_stays ends end least (Calls.Test mask) h = h

made_stays : (ends : List EndLine) (end : EndLine) (threads : List ThreadLine) (least : ℕ) (made : ScriptCall) → IsLawfulScriptCall ends threads least made →
    IsLawfulScriptCall (ends ++ end ∷ []) threads least made
made_stays ends end threads least made h = record {
  placed = (h.placed.0, (h.placed.1.0, stays_on ends end h.placed.0 made.endpoint h.placed.1.1));
  call = call_stays ends end least made.call h.call;
}

made_stays_by : (ends : List EndLine) (threads : List ThreadLine) (thread : ThreadLine) (least : ℕ) (made : ScriptCall) →
    IsLawfulScriptCall ends threads least made → IsLawfulScriptCall ends (threads ++ thread ∷ []) least made
made_stays_by ends threads thread least made h = record {
  placed = (h.placed.0, (thread_stays_on threads thread h.placed.0 made.thread h.placed.1.0, h.placed.1.1));
  call = h.call;
}

no_bundles : (ends : List EndLine) (bundles : List BundleLists) → bundles ≡ [] → All (IsLawfulBundle ends) bundles
no_bundles ends bundles none = subst (λ (l : List BundleLists). All (IsLawfulBundle ends) l) (sym none) (All-nil (IsLawfulBundle ends))

no_steps : (ends : List EndLine) (nodes frames channels least : ℕ) (steps : List StepLine) → steps ≡ [] →
    All (λ (step : StepLine). IsLawfulEvent ends nodes frames channels least step.event) steps
no_steps ends nodes frames channels least steps none =
    subst (λ (l : List StepLine). All (λ (step : StepLine). IsLawfulEvent ends nodes frames channels least step.event) l) (sym none)
    (All-nil (λ (step : StepLine). IsLawfulEvent ends nodes frames channels least step.event))

-- ---- the beginning

pub started_is : (nodes : ℕ) → is_within 1 16 nodes ≡ true → IsDraft (started nodes)
started_is nodes good = record {
  lawful = record {
    settings = record {
      nodes = within 1 16 nodes good;
      frames = (omega arith, omega arith);
      channels = (omega arith, omega arith);
      tries = (omega arith, omega arith);
      bounces = omega arith;
      pool = tt;
      keep = omega arith;
      log = (omega arith, omega arith);
      turns = omega arith;
    };
    ends = All-nil (IsLawfulEnd Packet nodes);
    ends_rise = all_pairs_none (λ (a b : EndLine). a.id.0 < b.id.0);
    ends_of_a_node = λ node. omega arith;
    bundles = All-nil (IsLawfulBundle []);
    bundles_once = all_pairs_none (λ (a b : BundleLists). a.id ≢ b.id);
    threads = All-nil (IsLawfulThread nodes);
    threads_rise = all_pairs_none (λ (a b : ThreadLine). a.id < b.id);
    threads_of_a_node = λ node. omega arith;
    plan = All-nil (IsLawfulPlanLine nodes);
    plan_once = all_pairs_none (λ (a b : PlanLine). ¬ IsSamePlace a b);
    plan_lines = omega arith;
    faults = All-nil (IsLawfulFaultLine nodes);
    faults_once = all_pairs_none (λ (a b : FaultLine). ¬ IsSamePageCall a b);
    fault_lines = omega arith;
    script = All-nil (IsLawfulScriptCall [] [] 1);
    script_calls = omega arith;
    steps = All-nil (λ (step : StepLine). IsLawfulEvent [] nodes 2 1 1 step.event);
    step_lines = omega arith;
  };
  packet = refl;
  pool = refl;
  bundles = refl;
  steps = refl;
  ends = All-nil (λ (end : EndLine). end.id.0 < 0);
  threads = All-nil (λ (thread : ThreadLine). thread.id < 0);
}

-- ---- an endpoint, a thread, a call, a line of the plan more

pub end_kept : (s : ScenarioLists) (node : NodeId) (tag : Tag) → IsDraft s → end_fault s node ≡ None → tag.0 < 2 ^ 64 → IsDraft (with_end s node tag)
end_kept s node tag d none small =
    let no = three (nat_le s.nodes node.0) (nat_le 256 (length s.ends)) (nat_le 64 (ends_on s node)) Fault.NoNode Fault.Full Fault.Full none in
    let there : node.0 < s.nodes = leb-false s.nodes node.0 no.first in
    let few : length s.ends < 256 = leb-false 256 (length s.ends) no.second in
    let room : ends_on s node < 64 = leb-false 64 (ends_on s node) no.third in
    let l = d.lawful in
    record {
      lawful = record {
        settings = record {
          nodes = l.settings.nodes;
          frames = l.settings.frames;
          channels = l.settings.channels;
          tries = l.settings.tries;
          bounces = l.settings.bounces;
          pool = l.settings.pool;
          keep = l.settings.keep;
          log = l.settings.log;
          turns = l.settings.turns;
        };
        ends = All-push (IsLawfulEnd s.network s.nodes) s.ends (end_line s node tag) l.ends
            (record { id = omega (arith, few); node = there; tag = small; disk = λ never. absurd (cc) });
        ends_rise = rises (λ (end : EndLine). end.id.0) s.ends (end_line s node tag) refl d.ends l.ends_rise;
        ends_of_a_node = still_few (λ (end : EndLine). end.node.0) 64 s.ends (end_line s node tag) l.ends_of_a_node room;
        bundles = no_bundles (s.ends ++ end_line s node tag ∷ []) s.bundles d.bundles;
        bundles_once = l.bundles_once;
        threads = l.threads;
        threads_rise = l.threads_rise;
        threads_of_a_node = l.threads_of_a_node;
        plan = l.plan;
        plan_once = l.plan_once;
        plan_lines = l.plan_lines;
        faults = l.faults;
        faults_once = l.faults_once;
        fault_lines = l.fault_lines;
        script = All-weaker (IsLawfulScriptCall s.ends s.threads (least_credits s.pool))
            (IsLawfulScriptCall (s.ends ++ end_line s node tag ∷ []) s.threads (least_credits s.pool))
            (λ (made : ScriptCall) (h : IsLawfulScriptCall s.ends s.threads (least_credits s.pool) made). made_stays s.ends (end_line s node tag) s.threads
            (least_credits s.pool) made h) s.script l.script;
        script_calls = l.script_calls;
        steps = no_steps (s.ends ++ end_line s node tag ∷ []) s.nodes s.frames s.channels (least_credits s.pool) s.steps d.steps;
        step_lines = l.step_lines;
      };
      packet = d.packet;
      pool = d.pool;
      bundles = d.bundles;
      steps = d.steps;
      ends = numbered (λ (end : EndLine). end.id.0) s.ends (end_line s node tag) refl d.ends;
      threads = d.threads;
    }

pub thread_kept : (s : ScenarioLists) (node : NodeId) → IsDraft s → thread_fault s node ≡ None → IsDraft (with_thread s node)
thread_kept s node d none =
    let no = three (nat_le s.nodes node.0) (nat_le 64 (length s.threads)) (nat_le 4 (threads_on s node)) Fault.NoNode Fault.Full Fault.Full none in
    let there : node.0 < s.nodes = leb-false s.nodes node.0 no.first in
    let few : length s.threads < 64 = leb-false 64 (length s.threads) no.second in
    let room : threads_on s node < 4 = leb-false 4 (threads_on s node) no.third in
    let l = d.lawful in
    record {
      lawful = record {
        settings = record {
          nodes = l.settings.nodes;
          frames = l.settings.frames;
          channels = l.settings.channels;
          tries = l.settings.tries;
          bounces = l.settings.bounces;
          pool = l.settings.pool;
          keep = l.settings.keep;
          log = l.settings.log;
          turns = l.settings.turns;
        };
        ends = l.ends;
        ends_rise = l.ends_rise;
        ends_of_a_node = l.ends_of_a_node;
        bundles = l.bundles;
        bundles_once = l.bundles_once;
        threads = All-push (IsLawfulThread s.nodes) s.threads (thread_line s node) l.threads (record { id = omega (arith, few); node = there });
        threads_rise = rises (λ (thread : ThreadLine). thread.id) s.threads (thread_line s node) refl d.threads l.threads_rise;
        threads_of_a_node = still_few (λ (thread : ThreadLine). thread.node.0) 4 s.threads (thread_line s node) l.threads_of_a_node room;
        plan = l.plan;
        plan_once = l.plan_once;
        plan_lines = l.plan_lines;
        faults = l.faults;
        faults_once = l.faults_once;
        fault_lines = l.fault_lines;
        script = All-weaker (IsLawfulScriptCall s.ends s.threads (least_credits s.pool))
            (IsLawfulScriptCall s.ends (s.threads ++ thread_line s node ∷ []) (least_credits s.pool))
            (λ (made : ScriptCall) (h : IsLawfulScriptCall s.ends s.threads (least_credits s.pool) made). made_stays_by s.ends s.threads (thread_line s node)
            (least_credits s.pool) made h) s.script l.script;
        script_calls = l.script_calls;
        steps = l.steps;
        step_lines = l.step_lines;
      };
      packet = d.packet;
      pool = d.pool;
      bundles = d.bundles;
      steps = d.steps;
      ends = d.ends;
      threads = numbered (λ (thread : ThreadLine). thread.id) s.threads (thread_line s node) refl d.threads;
    }

-- ---- a call

there_is : (o : Option NodeId) → is_none o ≡ false → IsSome o
there_is None is = absurd (cc)
there_is (Some node) is = refl

good_kind : (kind : HandlerKind) → is_good_kind kind ≡ true → IsLawfulKind kind
good_kind Note is = tt
good_kind (Echo to) is = within 1 15 to is
good_kind (Add to) is = within 1 15 to is

typed_call : (ends : List EndLine) (call : Call) → IsTyped call → names_nothing ends call ≡ false → is_good_call call ≡ true → IsLawfulCall ends 1 call
typed_call ends (Calls.Request index handler words) types named good = types
typed_call ends Calls.Poll types named good = types
typed_call ends (Calls.SetTag tag) types named good = types
typed_call ends (Calls.Map index name tag credits) types named good = (types.0, there_is (node_of ends name) named, types.1, within 1 8 credits good)
typed_call ends (Calls.Unmap index) types named good = types
typed_call ends (Calls.SetHandler index kind) types named good = (types, good_kind kind good)
typed_call ends (Calls.GiveUp serial) types named good = types
typed_call ends Calls.Close types named good = types
typed_call ends (Calls.Test mask) types named good = types

placed : (node other : Option NodeId) → are_together node other ≡ true → (n : NodeId) × ((node ≡ Some n) × (other ≡ Some n))
placed None other is = absurd (cc)
placed (Some n) None is = absurd (cc)
placed (Some n) (Some m) is = let e : n.0 ≡ m.0 = eqb-true n.0 m.0 is in (n, (refl, λ i. Some (record { 0 = sym e i })))

pub call_kept : (s : ScenarioLists) (made : ScriptCall) → IsDraft s → call_fault s made ≡ None → IsTyped made.call → IsDraft (with_call s made)
call_kept s made d none types =
    let no = five (is_none (thread_node s.threads made.thread)) (is_none (node_of s.ends made.endpoint) || names_nothing s.ends made.call)
    (not (are_together (thread_node s.threads made.thread) (node_of s.ends made.endpoint))) (not (is_good_call made.call)) (nat_le 16_384 (length s.script))
    Fault.NoThread Fault.NoEndpoint Fault.OtherNode Fault.BadNumber Fault.Full none in
    let few : length s.script < 16_384 = leb-false 16_384 (length s.script) no.fifth in
    let l = d.lawful in
    let credits : 1 ≡ least_credits s.pool = ap least_credits (sym d.pool) in
    let lawful : IsLawfulScriptCall s.ends s.threads (least_credits s.pool) made =
    record {
      placed = placed (thread_node s.threads made.thread) (node_of s.ends made.endpoint)
          (not_not (are_together (thread_node s.threads made.thread) (node_of s.ends made.endpoint)) no.third);
      call = subst (λ (least : ℕ). IsLawfulCall s.ends least made.call) credits
          (typed_call s.ends made.call types (neither (is_none (node_of s.ends made.endpoint)) (names_nothing s.ends made.call) no.second).1
          (not_not (is_good_call made.call) no.fourth));
    } in
    record {
      lawful = record {
        settings = record {
          nodes = l.settings.nodes;
          frames = l.settings.frames;
          channels = l.settings.channels;
          tries = l.settings.tries;
          bounces = l.settings.bounces;
          pool = l.settings.pool;
          keep = l.settings.keep;
          log = l.settings.log;
          turns = l.settings.turns;
        };
        ends = l.ends;
        ends_rise = l.ends_rise;
        ends_of_a_node = l.ends_of_a_node;
        bundles = l.bundles;
        bundles_once = l.bundles_once;
        threads = l.threads;
        threads_rise = l.threads_rise;
        threads_of_a_node = l.threads_of_a_node;
        plan = l.plan;
        plan_once = l.plan_once;
        plan_lines = l.plan_lines;
        faults = l.faults;
        faults_once = l.faults_once;
        fault_lines = l.fault_lines;
        script = All-push (IsLawfulScriptCall s.ends s.threads (least_credits s.pool)) s.script made l.script lawful;
        script_calls = omega (arith, few, length_push s.script made);
        steps = l.steps;
        step_lines = l.step_lines;
      };
      packet = d.packet;
      pool = d.pool;
      bundles = d.bundles;
      steps = d.steps;
      ends = d.ends;
      threads = d.threads;
    }

-- ---- a line of the plan

good_fault : (fault : LinkFault) → is_good_fault fault ≡ true → IsLawfulFault fault
good_fault Lose is = tt
good_fault Repeat is = tt
good_fault (Late by) is = within 1 16 by is

another_packet : (line other : PlanLine) → is_same_packet line other ≡ false → ¬ IsSamePlace other line
another_packet line other e = λ same.
    let all : is_same_packet line other ≡ true =
    and_from_three _ _ _ (eq-eqb other.from.0 line.from.0 same.0) (eq-eqb other.to.0 line.to.0 same.1) (eq-eqb other.number line.number same.2) in
    let never : true ≡ false = sym all ∙ e in cc

pub plan_kept : (s : ScenarioLists) (line : PlanLine) → IsDraft s → plan_fault s line ≡ None → IsDraft (with_plan s line)
plan_kept s line d none =
    let no = four (nat_le s.nodes line.from.0 || nat_le s.nodes line.to.0) (not (is_within 1 65_536 line.number && is_good_fault line.fault))
    (list_any (is_same_packet line) s.plan) (nat_le 4096 (length s.plan)) Fault.NoNode Fault.BadNumber Fault.Planned Fault.Full none in
    let nodes = neither (nat_le s.nodes line.from.0) (nat_le s.nodes line.to.0) no.first in
    let good = and_parts (is_within 1 65_536 line.number) (is_good_fault line.fault)
    (not_not (is_within 1 65_536 line.number && is_good_fault line.fault) no.second) in
    let few : length s.plan < 4096 = leb-false 4096 (length s.plan) no.fourth in
    let l = d.lawful in
    record {
      lawful = record {
        settings = record {
          nodes = l.settings.nodes;
          frames = l.settings.frames;
          channels = l.settings.channels;
          tries = l.settings.tries;
          bounces = l.settings.bounces;
          pool = l.settings.pool;
          keep = l.settings.keep;
          log = l.settings.log;
          turns = l.settings.turns;
        };
        ends = l.ends;
        ends_rise = l.ends_rise;
        ends_of_a_node = l.ends_of_a_node;
        bundles = l.bundles;
        bundles_once = l.bundles_once;
        threads = l.threads;
        threads_rise = l.threads_rise;
        threads_of_a_node = l.threads_of_a_node;
        plan = All-push (IsLawfulPlanLine s.nodes) s.plan line l.plan (record {
          from = leb-false s.nodes line.from.0 nodes.0;
          to = leb-false s.nodes line.to.0 nodes.1;
          number = within 1 65_536 line.number good.0;
          fault = good_fault line.fault good.1;
        });
        plan_once = all_pairs_grow (λ (a b : PlanLine). ¬ IsSamePlace a b) s.plan line l.plan_once
            (All-weaker (λ (other : PlanLine). is_same_packet line other ≡ false) (λ (other : PlanLine). ¬ IsSamePlace other line)
            (λ (other : PlanLine) (e : is_same_packet line other ≡ false). another_packet line other e) s.plan
            (none_passes (is_same_packet line) s.plan no.third));
        plan_lines = omega (arith, few, length_push s.plan line);
        faults = l.faults;
        faults_once = l.faults_once;
        fault_lines = l.fault_lines;
        script = l.script;
        script_calls = l.script_calls;
        steps = l.steps;
        step_lines = l.step_lines;
      };
      packet = d.packet;
      pool = d.pool;
      bundles = d.bundles;
      steps = d.steps;
      ends = d.ends;
      threads = d.threads;
    }

-- ---- a setting

settings_kept : (s : ScenarioLists) (setting : Setting) → HasLawfulSettings s → is_good_setting setting ≡ true → HasLawfulSettings (with_setting s setting)
settings_kept s (Set.Frames n) h good = record {
  nodes = h.nodes;
  frames = within 2 16 n good;
  channels = h.channels;
  tries = h.tries;
  bounces = h.bounces;
  pool = h.pool;
  keep = h.keep;
  log = h.log;
  turns = h.turns;
}
settings_kept s (Set.Channels n) h good = record {
  nodes = h.nodes;
  frames = h.frames;
  channels = within 1 4 n good;
  tries = h.tries;
  bounces = h.bounces;
  pool = h.pool;
  keep = h.keep;
  log = h.log;
  turns = h.turns;
}
settings_kept s (Set.Tries n) h good = record {
  nodes = h.nodes;
  frames = h.frames;
  channels = h.channels;
  tries = within 2 16 n good;
  bounces = h.bounces;
  pool = h.pool;
  keep = h.keep;
  log = h.log;
  turns = h.turns;
}
settings_kept s (Set.Bounces n) h good = record {
  nodes = h.nodes;
  frames = h.frames;
  channels = h.channels;
  tries = h.tries;
  bounces = leb-true n 16 good;
  pool = h.pool;
  keep = h.keep;
  log = h.log;
  turns = h.turns;
}
settings_kept s (Set.Keep n) h good = record {
  nodes = h.nodes;
  frames = h.frames;
  channels = h.channels;
  tries = h.tries;
  bounces = h.bounces;
  pool = h.pool;
  keep = leb-true n 64 good;
  log = h.log;
  turns = h.turns;
}
settings_kept s (Set.Log n) h good = record {
  nodes = h.nodes;
  frames = h.frames;
  channels = h.channels;
  tries = h.tries;
  bounces = h.bounces;
  pool = h.pool;
  keep = h.keep;
  log = within 1 65_536 n good;
  turns = h.turns;
}
settings_kept s (Set.Turns n) h good = record {
  nodes = h.nodes;
  frames = h.frames;
  channels = h.channels;
  tries = h.tries;
  bounces = h.bounces;
  pool = h.pool;
  keep = h.keep;
  log = h.log;
  turns = leb-true n 10_000 good;
}

-- what a draft has but for its settings
draft_with : (s t : ScenarioLists) →
    t ≡ record s { frames = t.frames; channels = t.channels; tries = t.tries; bounces = t.bounces; keep = t.keep; log = t.log; turns = t.turns } →
    IsDraft s → HasLawfulSettings t →
    IsDraft (record s { frames = t.frames; channels = t.channels; tries = t.tries; bounces = t.bounces; keep = t.keep; log = t.log; turns = t.turns })
draft_with s t is d settings =
    let l = d.lawful in
    record {
      lawful = record {
        settings = subst HasLawfulSettings is settings;
        ends = l.ends;
        ends_rise = l.ends_rise;
        ends_of_a_node = l.ends_of_a_node;
        bundles = l.bundles;
        bundles_once = l.bundles_once;
        threads = l.threads;
        threads_rise = l.threads_rise;
        threads_of_a_node = l.threads_of_a_node;
        plan = l.plan;
        plan_once = l.plan_once;
        plan_lines = l.plan_lines;
        faults = l.faults;
        faults_once = l.faults_once;
        fault_lines = l.fault_lines;
        script = l.script;
        script_calls = l.script_calls;
        steps = no_steps s.ends s.nodes t.frames t.channels (least_credits s.pool) s.steps d.steps;
        step_lines = l.step_lines;
      };
      packet = d.packet;
      pool = d.pool;
      bundles = d.bundles;
      steps = d.steps;
      ends = d.ends;
      threads = d.threads;
    }

pub setting_kept : (s : ScenarioLists) (setting : Setting) → IsDraft s → is_good_setting setting ≡ true → IsDraft (with_setting s setting)
setting_kept s (Set.Frames n) d good = draft_with s (with_setting s (Set.Frames n)) refl d (settings_kept s (Set.Frames n) d.lawful.settings good)
setting_kept s (Set.Channels n) d good = draft_with s (with_setting s (Set.Channels n)) refl d (settings_kept s (Set.Channels n) d.lawful.settings good)
setting_kept s (Set.Tries n) d good = draft_with s (with_setting s (Set.Tries n)) refl d (settings_kept s (Set.Tries n) d.lawful.settings good)
setting_kept s (Set.Bounces n) d good = draft_with s (with_setting s (Set.Bounces n)) refl d (settings_kept s (Set.Bounces n) d.lawful.settings good)
setting_kept s (Set.Keep n) d good = draft_with s (with_setting s (Set.Keep n)) refl d (settings_kept s (Set.Keep n) d.lawful.settings good)
setting_kept s (Set.Log n) d good = draft_with s (with_setting s (Set.Log n)) refl d (settings_kept s (Set.Log n) d.lawful.settings good)
setting_kept s (Set.Turns n) d good = draft_with s (with_setting s (Set.Turns n)) refl d (settings_kept s (Set.Turns n) d.lawful.settings good)

-- ---- what is put, or not for want of memory

pub put_kept : {A E : Type 0} (r : Result A E) (s new next : ScenarioLists) → IsDraft s → IsDraft next → OnOk r (new ≡ next) → OnErr r (new ≡ s) → IsDraft new
put_kept (Ok x) s new next old more ok err = subst IsDraft (sym ok) more
put_kept (Err e) s new next old more ok err = subst IsDraft (sym err) old

-- the same where the number is one that was reckoned
abbrev pub with_end_at : ScenarioLists → NodeId → Tag → ℕ → ScenarioLists
with_end_at s node tag n = record s { ends = s.ends ++ record { id = record { 0 = n }; node = node; tag = tag; disk = false } ∷ [] }

pub end_at_kept : (s : ScenarioLists) (node : NodeId) (tag : Tag) (n : ℕ) → n ≡ length s.ends → IsDraft s → end_fault s node ≡ None → tag.0 < 2 ^ 64 →
    IsDraft (with_end_at s node tag n)
end_at_kept s node tag n is d none small = subst (λ (k : ℕ). IsDraft (with_end_at s node tag k)) (sym is) (end_kept s node tag d none small)

abbrev pub with_thread_at : ScenarioLists → NodeId → ℕ → ScenarioLists
with_thread_at s node n = record s { threads = s.threads ++ record { id = n; node = node } ∷ [] }

pub thread_at_kept : (s : ScenarioLists) (node : NodeId) (n : ℕ) → n ≡ length s.threads → IsDraft s → thread_fault s node ≡ None →
    IsDraft (with_thread_at s node n)
thread_at_kept s node n is d none = subst (λ (k : ℕ). IsDraft (with_thread_at s node k)) (sym is) (thread_kept s node d none)
