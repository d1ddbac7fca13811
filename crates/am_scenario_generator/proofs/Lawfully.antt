-- A generated scenario is lawful.
use Rattle.std.proofs.Common.{◌≡◌, ◌≢◌, ℕ, zero, suc, ◌+◌, ◌-◌, ◌*◌, ◌/◌, ◌%◌, ◌^◌, ◌<◌, ◌≤◌, Bool, true, false, List, [], ◌∷◌, ◌++◌, length, Option, Some}
use Rattle.std.proofs.Common.{refl, sym, ap, ◌∙◌, subst, arith, length-append}
use Rattle.std.specs.Prelude.{◌==◌, ◌&&◌, nat_lt, count_by, if◌then◌else◌, IsSome, bit_xor}
use Rattle.std.specs.List.{All, AllPairs}
use Rattle.std.specs.Option.{option_map}
use Rattle.std.proofs.Math.Nat.{div-le_self}
use Rattle.std.proofs.lemmas.Nat.{or_lt}
use Rattle.std.proofs.lemmas.Bool.{ltb-true, ltb-false, eq-eqb, both_ways}
use Rattle.std.proofs.lemmas.Bool.Decides.{nat_tests}
use Rattle.std.proofs.lemmas.List.{length_push}
use Rattle.std.proofs.lemmas.List.Elements.{All-nil, All-cons, All-push, All-append, All-weaker}
use Rattle.std.proofs.lemmas.List.Sums.{sum_by_push, count_by-le-length}
use Rattle.std.proofs.lemmas.List.FromFn.{length-map-range_with_len}
use Rattle.rand_pcg.specs.Lcg.{Lcg}
use Rattle.am_lemmas.proofs.Bools.{and_from_three}
use Rattle.am_lemmas.proofs.Lists.{none_passes, all_pairs_none, all_pairs_grow}
use Rattle.am_lemmas.proofs.Numbered.{lines_more, lines_all, keys_rise, key_finds}
use Rattle.am_names.specs.declared.EndpointId.{EndpointId}
use Rattle.am_names.specs.declared.NodeId.{NodeId}
use Rattle.am_office_entries.specs.declared.Call.{Call}
use Rattle.am_office_entries.specs.declared.Call.TheVariants.{Request, Poll, SetHandler}
use Rattle.am_office_entries.specs.declared.HandlerKind.TheVariants.{Note, Echo, Add}
use Rattle.am_scenario_plan.specs.declared.plan.PlanLine.{PlanLine}
use Rattle.am_scenario_plan.specs.declared.plan.LinkFault.TheVariants.{Lose, Repeat, Late}
use Rattle.am_scenario_types.specs.declared.parts.Network.TheVariants.{Packet}
use Rattle.am_scenario_types.specs.declared.parts.EndLine.{EndLine}
use Rattle.am_scenario_types.specs.declared.parts.ThreadLine.{ThreadLine}
use Rattle.am_scenario_types.specs.declared.parts.ScriptCall.{ScriptCall}
use Rattle.am_scenario_types.specs.Lawful.{node_of, thread_node, IsDeclared, IsOn, IsLawfulEnd, IsLawfulBundle, IsLawfulThread, IsLawfulFault, IsLawfulPlanLine}
use Rattle.am_scenario_types.specs.Lawful.{IsSamePlace, IsLawfulFaultLine, IsSamePageCall, IsLawfulCall, IsLawfulScriptCall, IsLawfulEvent, IsLawful}
use Rattle.am_scenario_generator.specs.Words.{seeded, word, steps, after_threads}
use Rattle.am_scenario_generator.specs.Calls.{call_on, map_to, greeting, greetings, polls, opening, drawn_end, drawn_call, drawn_calls, thread_calls}
use Rattle.am_scenario_generator.specs.Calls.{script_below}
use Rattle.am_scenario_generator.specs.Plan.{line_of, stands, with_line, plan_after}
use Rattle.am_scenario_generator.specs.Scenarios.{end_line, thread_line, generated}
use Rattle.am_scenario_generator.proofs.Below.{ends_below, threads_below}

-- ---- tests and lists

-- ---- words

word_small : (g : Lcg) → word g < 2 ^ 32
word_small g =
    let mixed : ℕ = bit_xor (g.state / 2 ^ 18) g.state / 2 ^ 27 % 2 ^ 32 in
    let by : ℕ = g.state / 2 ^ 59 in
    or_lt 32 (mixed / 2 ^ (by % 32)) ((mixed * 2 ^ ((32 - by % 32) % 32)) % 2 ^ 32) (omega (arith, div-le_self mixed (2 ^ (by % 32)))) (omega arith)

-- ---- endpoints and threads

ends_all : (n : ℕ) → n ≤ 256 → All (IsLawfulEnd Packet 4) (ends_below n)
ends_all n small = lines_all end_line (IsLawfulEnd Packet 4) n (λ k less. record {
  id = omega (arith, less, small);
  node = omega arith;
  tag = omega (arith, less, small);
  disk = λ h. absurd (cc);
})

threads_all : (n : ℕ) → n ≤ 64 → All (IsLawfulThread 4) (threads_below n)
threads_all n small = lines_all thread_line (IsLawfulThread 4) n (λ k less. record { id = omega (arith, less, small); node = omega arith })

-- of the threads below 4 * k each node has k
counted : (node n : ℕ) → count_by (λ thread. thread.node.0 == node) (threads_below (n + 1)) ≡ count_by (λ thread. thread.node.0 ==
    node) (threads_below n) + (if n % 4 == node then 1 else 0)
counted node n =
    ap (λ (threads : List ThreadLine). count_by (λ thread. thread.node.0 == node) threads) (lines_more thread_line n)
    ∙ sum_by_push (λ thread. if thread.node.0 == node then 1 else 0) (threads_below n) (thread_line n)

four_tests : (node : ℕ) → (if 0 == node then 1 else 0) + (if 1 == node then 1 else 0) + (if 2 == node then 1 else 0) + (if 3 == node then 1 else 0) ≤ 1
four_tests node = grind (arith, nat_tests)

few_threads : (node : ℕ) → count_by (λ thread. thread.node.0 == node) (threads_below 8) ≤ 4
few_threads node =
    omega (
      arith,
      four_tests node,
      counted node 0,
      counted node 1,
      counted node 2,
      counted node 3,
      counted node 4,
      counted node 5,
      counted node 6,
      counted node 7,
    )

-- ---- declared

-- a number below the count is declared, on its node
end_there : (id : EndpointId) (n : ℕ) → id.0 < n → node_of (ends_below n) id ≡ Some (record { 0 = id.0 % 4 })
end_there id n less = ap (λ (o : Option EndLine). option_map (λ end. end.node) o) (key_finds end_line (λ end. end.id.0) (λ k. refl) n id.0 less)

thread_there : (id n : ℕ) → id < n → thread_node (threads_below n) id ≡ Some (record { 0 = id % 4 })
thread_there id n less = ap (λ (o : Option ThreadLine). option_map (λ thread. thread.node) o)
    (key_finds thread_line (λ thread. thread.id) (λ k. refl) n id less)

-- ---- calls

abbrev pub IsGenerated : ScriptCall → Type 0
IsGenerated made = IsLawfulScriptCall (ends_below 12) (threads_below 8) 1 made

-- a thread's lawful call on an endpoint of its node
a_call : (thread end : ℕ) (call : Call) → thread < 8 → end < 12 → end % 4 ≡ thread % 4 → IsLawfulCall (ends_below 12) 1 call →
    IsGenerated (call_on thread end call)
a_call thread end call t e same lawful =
    let on : IsOn (ends_below 12) (record { 0 = end % 4 }) (record { 0 = end }) = end_there (record { 0 = end }) 12 e in
    record {
      placed = (record { 0 = thread % 4 }, (thread_there thread 8 t, subst (λ (k : ℕ). IsOn (ends_below 12) (record { 0 = k }) (record { 0 = end })) same on));
      call = lawful;
    }

is_declared : (name : ℕ) → name < 12 → IsDeclared (ends_below 12) (record { 0 = name })
is_declared name small = subst (λ (o : Option NodeId). IsSome o) (sym (end_there (record { 0 = name }) 12 small)) refl

a_map : (index name : ℕ) → index ≤ 1 → name < 12 → IsLawfulCall (ends_below 12) 1 (map_to index name)
a_map index name i n = (omega arith, is_declared name n, omega arith, (omega arith, omega arith))

a_greeting : (thread end : ℕ) → thread < 8 → end < 12 → end % 4 ≡ thread % 4 → All IsGenerated (greeting thread end)
unfolding greeting
a_greeting thread end t e same =
    let note : ScriptCall = call_on thread end (SetHandler 1 Note) in
    let echo : ScriptCall = call_on thread end (SetHandler 2 (Echo 1)) in
    let add : ScriptCall = call_on thread end (SetHandler 3 (Add 1)) in
    let first : ScriptCall = call_on thread end (map_to 0 ((end + 1) % 12)) in
    let second : ScriptCall = call_on thread end (map_to 1 ((end + 5) % 12)) in
    let poll : ScriptCall = call_on thread end Poll in
    All-cons IsGenerated note (echo ∷ add ∷ first ∷ second ∷ poll ∷ []) (a_call thread end (SetHandler 1 Note) t e same (omega arith, tt))
    (All-cons IsGenerated echo (add ∷ first ∷ second ∷ poll ∷ []) (a_call thread end (SetHandler 2 (Echo 1)) t e same (omega arith, (omega arith, omega arith)))
    (All-cons IsGenerated add (first ∷ second ∷ poll ∷ []) (a_call thread end (SetHandler 3 (Add 1)) t e same (omega arith, (omega arith, omega arith)))
    (All-cons IsGenerated first (second ∷ poll ∷ []) (a_call thread end (map_to 0 ((end + 1) % 12)) t e same
    (a_map 0 ((end + 1) % 12) (omega arith) (omega arith)))
    (All-cons IsGenerated second (poll ∷ []) (a_call thread end (map_to 1 ((end + 5) % 12)) t e same (a_map 1 ((end + 5) % 12) (omega arith) (omega arith)))
    (All-cons IsGenerated poll [] (a_call thread end Poll t e same tt)
    (All-nil IsGenerated))))))

some_polls : (thread end n : ℕ) → thread < 8 → end < 12 → end % 4 ≡ thread % 4 → All IsGenerated (polls thread end n)
unfolding polls
some_polls thread end zero t e same = All-nil IsGenerated
some_polls thread end (suc n) t e same = All-push IsGenerated (polls thread end n) (call_on thread end Poll) (some_polls thread end n t e same)
    (a_call thread end Poll t e same tt)

all_greetings : (thread : ℕ) → thread < 4 → All IsGenerated (greetings thread)
all_greetings thread t =
    All-append IsGenerated (greeting thread thread ++ greeting thread (thread + 4)) (greeting thread (thread + 8))
    (All-append IsGenerated (greeting thread thread) (greeting thread (thread + 4))
    (a_greeting thread thread (omega arith) (omega arith) refl) (a_greeting thread (thread + 4) (omega arith) (omega arith) (omega arith)))
    (a_greeting thread (thread + 8) (omega arith) (omega arith) (omega arith))

an_opening_at : (thread : ℕ) (b : Bool) → nat_lt thread 4 ≡ b → thread < 8 → All IsGenerated (if b then greetings thread else polls thread (thread - 4) 18)
an_opening_at thread true e t = all_greetings thread (ltb-true thread 4 e)
an_opening_at thread false e t = let four : 4 ≤ thread = ltb-false thread 4 e in some_polls thread (thread - 4) 18 t (omega arith) (omega arith)

an_opening : (thread : ℕ) → thread < 8 → All IsGenerated (opening thread)
unfolding opening
an_opening thread t = an_opening_at thread (nat_lt thread 4) refl t

drawn_small : (thread w : ℕ) → drawn_end thread w < 12
drawn_small thread w = omega arith

drawn_same : (thread w : ℕ) → drawn_end thread w % 4 ≡ thread % 4
drawn_same thread w = omega arith

a_drawn_at : (thread place w : ℕ) (b : Bool) → thread < 8 → place < 200 → w < 2 ^ 32
    → IsGenerated (if b then call_on thread (drawn_end thread w) (Request (w / 16 % 2) (1 + w / 32 % 3) (record { a = w; b = thread; c = place; d = 0 })) else
    call_on thread (drawn_end thread w) Poll)
a_drawn_at thread place w true t p small =
    a_call thread (drawn_end thread w) (Request (w / 16 % 2) (1 + w / 32 % 3) (record { a = w; b = thread; c = place; d = 0 })) t (drawn_small thread w)
    (drawn_same thread w)
    (omega arith, omega arith, (omega arith, omega arith, omega arith, omega arith))
a_drawn_at thread place w false t p small = a_call thread (drawn_end thread w) Poll t (drawn_small thread w) (drawn_same thread w) tt

a_drawn : (thread place w : ℕ) → thread < 8 → place < 200 → w < 2 ^ 32 → IsGenerated (drawn_call thread place w)
unfolding drawn_call
a_drawn thread place w t p small = a_drawn_at thread place w (nat_lt (w % 4) 2) t p small

all_drawn : (g : Lcg) (thread n : ℕ) → thread < 8 → n ≤ 200 → All IsGenerated (drawn_calls g thread n)
unfolding drawn_calls
all_drawn g thread zero t less = All-nil IsGenerated
all_drawn g thread (suc n) t less =
    All-push IsGenerated (drawn_calls g thread n) (drawn_call thread n (word (steps g n))) (all_drawn g thread n t (omega arith))
    (a_drawn thread n (word (steps g n)) t (omega arith) (word_small (steps g n)))

all_of_thread : (g : Lcg) (thread : ℕ) → thread < 8 → All IsGenerated (thread_calls g thread)
unfolding thread_calls
all_of_thread g thread t = All-append IsGenerated (opening thread) (drawn_calls g thread 200) (an_opening thread t) (all_drawn g thread 200 t (omega arith))

all_calls : (g : Lcg) (n : ℕ) → n ≤ 8 → All IsGenerated (script_below g n)
unfolding script_below
all_calls g zero less = All-nil IsGenerated
all_calls g (suc n) less = All-append IsGenerated (script_below g n) (thread_calls (after_threads g n) n) (all_calls g n (omega arith))
    (all_of_thread (after_threads g n) n (omega arith))

-- ---- numbers of calls

polls_length : (thread end n : ℕ) → length (polls thread end n) ≡ n
unfolding polls
polls_length thread end zero = refl
polls_length thread end (suc n) = omega (arith, length_push (polls thread end n) (call_on thread end Poll), polls_length thread end n)

greeting_length : (thread end : ℕ) → length (greeting thread end) ≡ 6
unfolding greeting
greeting_length thread end = refl

opening_length_at : (thread : ℕ) (b : Bool) → length (if b then greetings thread else polls thread (thread - 4) 18) ≡ 18
opening_length_at thread true =
    omega (
      arith,
      length-append (greeting thread thread ++ greeting thread (thread + 4)) (greeting thread (thread + 8)),
      length-append (greeting thread thread) (greeting thread (thread + 4)),
      greeting_length thread thread,
      greeting_length thread (thread + 4),
      greeting_length thread (thread + 8),
    )
opening_length_at thread false = polls_length thread (thread - 4) 18

opening_length : (thread : ℕ) → length (opening thread) ≡ 18
unfolding opening
opening_length thread = opening_length_at thread (nat_lt thread 4)

drawn_length : (g : Lcg) (thread n : ℕ) → length (drawn_calls g thread n) ≡ n
unfolding drawn_calls
drawn_length g thread zero = refl
drawn_length g thread (suc n) = omega (arith, length_push (drawn_calls g thread n) (drawn_call thread n (word (steps g n))), drawn_length g thread n)

thread_length : (g : Lcg) (thread : ℕ) → length (thread_calls g thread) ≡ 218
unfolding thread_calls
thread_length g thread = omega (arith, length-append (opening thread) (drawn_calls g thread 200), opening_length thread, drawn_length g thread 200)

pub script_length : (g : Lcg) (n : ℕ) → length (script_below g n) ≡ 218 * n
unfolding script_below
script_length g zero = refl
script_length g (suc n) = omega (
  arith,
  length-append (script_below g n) (thread_calls (after_threads g n) n),
  thread_length (after_threads g n) n,
  script_length g n,
)

-- ---- the plan

fault_at : (b c : Bool) (w : ℕ) → IsLawfulFault (if b then Lose else (if c then Repeat else Late (1 + w / 32_768 % 16)))
fault_at true c w = tt
fault_at false true w = tt
fault_at false false w = (omega arith, omega arith)

a_line : (w : ℕ) → IsLawfulPlanLine 4 (line_of w)
a_line w = record { from = omega arith; to = omega arith; number = (omega arith, omega arith); fault = fault_at (w / 8192 % 3 == 0) (w / 8192 % 3 == 1) w }

-- lawful lines, none of them twice, so many at most
pub record IsPlan (most : ℕ) (plan : List PlanLine) : Type 0 where
  pub each : All (IsLawfulPlanLine 4) plan
  pub once : AllPairs (λ a b. ¬ IsSamePlace a b) plan
  pub lines : length plan ≤ most

line_more : (most : ℕ) (plan : List PlanLine) (line : PlanLine) (b : Bool) → stands plan line ≡ b → IsLawfulPlanLine 4 line → IsPlan most plan →
    IsPlan (most + 1) (if b then plan else plan ++ line ∷ [])
line_more most plan line true e l h = record { each = h.each; once = h.once; lines = omega (arith, h.lines) }
line_more most plan line false e l h = record {
  each = All-push (IsLawfulPlanLine 4) plan line h.each l;
  once = all_pairs_grow (λ a b. ¬ IsSamePlace a b) plan line h.once
      (All-weaker (λ other. ((other.from.0 == line.from.0) && (other.to.0 == line.to.0) && (other.number == line.number)) ≡ false)
      (λ other. ¬ IsSamePlace other line) (λ other e same. both_ways _ e (and_from_three _ _ _ (eq-eqb other.from.0 line.from.0 same.0)
      (eq-eqb other.to.0 line.to.0 same.1) (eq-eqb other.number line.number same.2))) plan
      (none_passes (λ other. (other.from.0 == line.from.0) && (other.to.0 == line.to.0) && (other.number == line.number)) plan e));
  lines = omega (arith, h.lines, length_push plan line);
}

pub a_plan : (g : Lcg) (n : ℕ) → IsPlan n (plan_after g n)
unfolding plan_after
a_plan g zero = record { each = All-nil (IsLawfulPlanLine 4); once = all_pairs_none (λ a b. ¬ IsSamePlace a b); lines = omega arith }
a_plan g (suc n) =
    let more : IsPlan (n + 1) (with_line (plan_after g n) (line_of (word (steps g n)))) =
    line_more n (plan_after g n) (line_of (word (steps g n))) (stands (plan_after g n) (line_of (word (steps g n)))) refl (a_line (word (steps g n)))
    (a_plan g n) in
    subst (λ (k : ℕ). IsPlan k (with_line (plan_after g n) (line_of (word (steps g n))))) (omega arith) more

-- ---- the whole

pub generated_lawful : (n : ℕ) → IsLawful (generated n)
unfolding generated
generated_lawful n =
    let plan : IsPlan 32 (plan_after (after_threads (seeded n) 8) 32) = a_plan (after_threads (seeded n) 8) 32 in
    record {
      settings = record {
        nodes = (omega arith, omega arith);
        frames = (omega arith, omega arith);
        channels = (omega arith, omega arith);
        tries = (omega arith, omega arith);
        bounces = omega arith;
        pool = tt;
        keep = omega arith;
        log = (omega arith, omega arith);
        turns = omega arith;
      };
      ends = ends_all 12 (omega arith);
      ends_rise = keys_rise end_line (λ end. end.id.0) (λ k. refl) 12;
      ends_of_a_node = λ node. omega (arith, count_by-le-length (λ end. end.node.0 == node) (ends_below 12), length-map-range_with_len end_line 0 12);
      bundles = All-nil (IsLawfulBundle (ends_below 12));
      bundles_once = all_pairs_none (λ a b. a.id ≢ b.id);
      threads = threads_all 8 (omega arith);
      threads_rise = keys_rise thread_line (λ thread. thread.id) (λ k. refl) 8;
      threads_of_a_node = λ node. few_threads node;
      plan = plan.each;
      plan_once = plan.once;
      plan_lines = omega (arith, plan.lines);
      faults = All-nil (IsLawfulFaultLine 4);
      faults_once = all_pairs_none (λ a b. ¬ IsSamePageCall a b);
      fault_lines = omega arith;
      script = all_calls (seeded n) 8 (omega arith);
      script_calls = omega (arith, script_length (seeded n) 8);
      steps = All-nil (λ step. IsLawfulEvent (ends_below 12) 4 2 2 1 step.event);
      step_lines = omega arith;
    }
