-- A scenario with a drawn plan is lawful.
use Rattle.std.proofs.Common.{◌≡◌, ℕ, zero, suc, ◌+◌, ◌-◌, ◌*◌, ◌/◌, ◌%◌, ◌<◌, ◌≤◌, Bool, true, false, List, [], ◌∷◌, ◌++◌, length, sym, ap, ◌∙◌, subst, arith}
use Rattle.std.proofs.Math.Nat.{div-lt_iff_lt-mul, mod-lt, mul-div-le, mul-le-mul_left}
use Rattle.std.proofs.lemmas.Nat.{div-add-mod'}
use Rattle.std.proofs.lemmas.List.{length_push}
use Rattle.std.proofs.lemmas.List.Elements.{All-nil, All-push, All-weaker}
use Rattle.std.specs.Prelude.{◌==◌, if◌then◌else◌, min}
use Rattle.std.specs.List.{All, AllPairs}
use Rattle.rand_pcg.specs.Lcg.{Lcg}
use Rattle.am_lemmas.proofs.Lists.{all_pairs_none, all_pairs_grow}
use Rattle.am_scenario_generator.specs.Words.{steps, word}
use Rattle.am_scenario_plan.specs.declared.plan.LinkFault.TheVariants.{Lose, Repeat, Late}
use Rattle.am_scenario_plan.specs.declared.plan.PlanLine.{PlanLine}
use Rattle.am_scenario_types.specs.Lawful.{IsLawful, IsLawfulFault, IsLawfulPlanLine, IsSamePlace}
use Rattle.am_scenario_types.specs.Lists.{ScenarioLists}
use Rattle.am_lab_scenarios.specs.Faults.Plans.{drawn_lines, is_drawn, line_at, packets_asked, seeded, with_drawn_plan}

-- ---- places of the row

-- the place of a line's packet in the row
unfoldable pub place_of : (nodes packets : ℕ) → PlanLine → ℕ
place_of nodes packets line = (line.from.0 * nodes + line.to.0) * packets + (line.number - 1)

pub line_place : (nodes packets place w : ℕ) → place_of nodes packets (line_at nodes packets place w) ≡ place
unfolding place_of
line_place nodes packets place w =
    let link = place / packets in
    let number : place % packets + 1 - 1 ≡ place % packets = omega arith in
    ap (λ (k : ℕ). k * packets + (place % packets + 1 - 1)) (div-add-mod' link nodes)
    ∙ ap (λ (k : ℕ). link * packets + k) number
    ∙ div-add-mod' place packets

pub right_positive : (a b i : ℕ) → i < a * b → 0 < b
right_positive a zero i h = absurd (omega (arith, h))
right_positive a (suc b) i h = omega arith

left_positive : (a b i : ℕ) → i < a * b → 0 < a
left_positive zero b i h = absurd (omega (arith, h))
left_positive (suc a) b i h = omega arith

-- the link of a place is one of the links
pub link_below : (nodes packets place : ℕ) → place < nodes * nodes * packets → place / packets < nodes * nodes
link_below nodes packets place h = (div-lt_iff_lt-mul {y = nodes * nodes} (right_positive (nodes * nodes) packets place h)).1 h

pub node_below : (nodes packets place : ℕ) → place < nodes * nodes * packets → place / packets / nodes < nodes
node_below nodes packets place h =
    let link = link_below nodes packets place h in
    (div-lt_iff_lt-mul {y = nodes} (left_positive nodes nodes (place / packets) link)).1 link

pub to_below : (nodes packets place : ℕ) → place < nodes * nodes * packets → place / packets % nodes < nodes
to_below nodes packets place h =
    mod-lt (place / packets) (left_positive nodes nodes (place / packets) (link_below nodes packets place h))

pub number_below : (nodes packets place : ℕ) → place < nodes * nodes * packets → place % packets < packets
number_below nodes packets place h = mod-lt place (right_positive (nodes * nodes) packets place h)

-- ---- each line

lawful_fault : (b c : Bool) (w : ℕ) → IsLawfulFault (if b then Lose else (if c then Repeat else Late (1 + w / 300 % 16)))
lawful_fault true c w = tt
lawful_fault false true w = tt
lawful_fault false false w = (omega arith, omega arith)

a_line : (nodes packets place w : ℕ) → packets ≤ 4096 → place < nodes * nodes * packets → IsLawfulPlanLine nodes (line_at nodes packets place w)
a_line nodes packets place w few h = record {
  from = node_below nodes packets place h;
  to = to_below nodes packets place h;
  number = (omega arith, omega (arith, few, number_below nodes packets place h));
  fault = lawful_fault (w / 100 % 3 == 0) (w / 100 % 3 == 1) w;
}

-- ---- all lines

-- lawful lines of packets before a place of the row, none of them twice
pub record IsRow (nodes packets places : ℕ) (plan : List PlanLine) : Type 0 where
  pub each : All (IsLawfulPlanLine nodes) plan
  pub before : All (λ line. place_of nodes packets line < places) plan
  pub once : AllPairs (λ a b. ¬ IsSamePlace a b) plan
  pub lines : length plan ≤ places

same_places : (nodes packets : ℕ) (a b : PlanLine) → IsSamePlace a b → place_of nodes packets a ≡ place_of nodes packets b
unfolding place_of
same_places nodes packets a b same =
    ap (λ (k : ℕ). (k * nodes + a.to.0) * packets + (a.number - 1)) same.0
    ∙ ap (λ (k : ℕ). (b.from.0 * nodes + k) * packets + (a.number - 1)) same.1
    ∙ ap (λ (k : ℕ). (b.from.0 * nodes + b.to.0) * packets + (k - 1)) same.2

row_more : (nodes packets place w : ℕ) (plan : List PlanLine) (b : Bool) → packets ≤ 4096 → place < nodes * nodes * packets →
    IsRow nodes packets place plan →
    IsRow nodes packets (place + 1) (if b then plan ++ line_at nodes packets place w ∷ [] else plan)
row_more nodes packets place w plan true few h row =
    let line = line_at nodes packets place w in
    let at = line_place nodes packets place w in
    record {
      each = All-push (IsLawfulPlanLine nodes) plan line row.each (a_line nodes packets place w few h);
      before = All-push (λ other. place_of nodes packets other < place + 1) plan line
          (All-weaker (λ other. place_of nodes packets other < place) (λ other. place_of nodes packets other < place + 1) (λ other less. omega (arith, less)) plan row.before)
          (omega (arith, at));
      once = all_pairs_grow (λ a b. ¬ IsSamePlace a b) plan line row.once
          (All-weaker (λ other. place_of nodes packets other < place) (λ other. ¬ IsSamePlace other line)
          (λ other less same. omega (arith, less, at, same_places nodes packets other line same)) plan row.before);
      lines = omega (arith, row.lines, length_push plan line);
    }
row_more nodes packets place w plan false few h row = record {
  each = row.each;
  before = All-weaker (λ other. place_of nodes packets other < place) (λ other. place_of nodes packets other < place + 1) (λ other less. omega (arith, less)) plan row.before;
  once = row.once;
  lines = omega (arith, row.lines);
}

add_one : (n : ℕ) → suc n ≡ n + 1
add_one n = omega arith

a_row : (g : Lcg) (percent nodes packets n : ℕ) → packets ≤ 4096 → n ≤ nodes * nodes * packets → IsRow nodes packets n (drawn_lines g percent nodes packets n)
unfolding drawn_lines
a_row g percent nodes packets zero few h = record {
  each = All-nil (IsLawfulPlanLine nodes);
  before = All-nil (λ line. place_of nodes packets line < 0);
  once = all_pairs_none (λ a b. ¬ IsSamePlace a b);
  lines = omega arith;
}
a_row g percent nodes packets (suc n) few h =
    let w = word (steps g n) in
    let plan = drawn_lines g percent nodes packets n in
    subst (λ (k : ℕ). IsRow nodes packets k (if is_drawn percent w then plan ++ line_at nodes packets n w ∷ [] else plan)) (sym (add_one n))
    (row_more nodes packets n w plan (is_drawn percent w) few (omega (arith, h)) (a_row g percent nodes packets n few (omega (arith, h))))

-- ---- how many

min_right : (a b : ℕ) → min a b ≤ b
min_right a b = omega arith

-- the row has room in a plan
pub few_places : (nodes calls : ℕ) → nodes * nodes * packets_asked nodes calls ≤ 4096
few_places nodes calls =
    omega (arith, mul-le-mul_left (nodes * nodes) (min_right (2 * calls) (4096 / (nodes * nodes))), mul-div-le 4096 (nodes * nodes))

div_small : (n k : ℕ) → n / k ≤ n
div_small n k = omega (arith, mul-div-le n k)

pub few_packets : (nodes calls : ℕ) → packets_asked nodes calls ≤ 4096
few_packets nodes calls = omega (arith, min_right (2 * calls) (4096 / (nodes * nodes)), div_small 4096 (nodes * nodes))

-- ---- the whole

pub drawn_lawful : (seed percent : ℕ) (s : ScenarioLists) → IsLawful s → IsLawful (with_drawn_plan seed percent s)
drawn_lawful seed percent s h =
    let packets = packets_asked s.nodes (length s.script) in
    let row = a_row (seeded seed) percent s.nodes packets (s.nodes * s.nodes * packets) (few_packets s.nodes (length s.script)) (omega arith) in
    record {
      settings = record {
        nodes = h.settings.nodes;
        frames = h.settings.frames;
        channels = h.settings.channels;
        tries = h.settings.tries;
        bounces = h.settings.bounces;
        pool = h.settings.pool;
        keep = h.settings.keep;
        log = h.settings.log;
        turns = h.settings.turns;
      };
      ends = h.ends;
      ends_rise = h.ends_rise;
      ends_of_a_node = h.ends_of_a_node;
      bundles = h.bundles;
      bundles_once = h.bundles_once;
      threads = h.threads;
      threads_rise = h.threads_rise;
      threads_of_a_node = h.threads_of_a_node;
      plan = row.each;
      plan_once = row.once;
      plan_lines = omega (arith, row.lines, few_places s.nodes (length s.script));
      faults = h.faults;
      faults_once = h.faults_once;
      fault_lines = h.fault_lines;
      script = h.script;
      script_calls = h.script_calls;
      steps = h.steps;
      step_lines = h.step_lines;
    }
