-- The text of a replayed journal spells its step script.
use Rattle.std.proofs.Common.{◌≡◌, ℕ, ◌+◌, List, [], ◌∷◌, ◌++◌, length, map, refl, sym, ap, ◌∙◌, arith}
use Rattle.std.specs.List.{flat_map}
use Rattle.std.proofs.lemmas.List.{append-nil}
use Rattle.std.proofs.lemmas.List.Elements.{All-nil, All-map}
use Rattle.am_lemmas.proofs.Lists.{all_pairs_none}
use Rattle.am_office_entries.specs.declared.Event.{Event}
use Rattle.am_office_entries.specs.declared.Entry.{Entry}
use Rattle.am_scenario_plan.specs.declared.plan.PlanLine.{PlanLine}
use Rattle.am_scenario_types.specs.declared.parts.Form.TheVariants.{Step}
use Rattle.am_scenario_types.specs.declared.parts.StepLine.{StepLine}
use Rattle.am_scenario_types.specs.Lists.{ScenarioLists}
use Rattle.am_scenario_types.specs.Lawful.{IsLawful, IsLawfulPlanLine, IsSamePlace, IsLawfulScriptCall, IsLawfulEvent, least_credits}
use Rattle.am_lab_scenarios.specs.Spelling.Texts.{setting_lines, number_lines, declared_lines, end_line, bundle_line, thread_line, swap_fault_line, step_line}
use Rattle.am_lab_scenarios.specs.Spelling.Texts.{scenario_text, lines_before, in_lines}
use Rattle.am_lab_scenarios.specs.Spelling.Replays.{by_anyone, step_of, replay_line, step_script, IsReplayable, ReplaysAreRead, StepsAreEvents}
use Rattle.am_lab_scenarios.proofs.Spelled.{printed_is_read}

as_long : (journal : List Entry) → length (map step_of journal) ≡ length journal
as_long [] = refl
as_long (x ∷ journal) = let rest = as_long journal in omega (arith, rest)

is_lawful : (s : ScenarioLists) (journal : List Entry) → IsLawful s → IsReplayable s journal → IsLawful (step_script s journal)
is_lawful s journal lawful may =
    let count = may.count in
    let long = as_long journal in
    record {
      settings = record {
        nodes = lawful.settings.nodes;
        frames = lawful.settings.frames;
        channels = lawful.settings.channels;
        tries = lawful.settings.tries;
        bounces = lawful.settings.bounces;
        pool = lawful.settings.pool;
        keep = lawful.settings.keep;
        log = lawful.settings.log;
        turns = lawful.settings.turns;
      };
      ends = lawful.ends;
      ends_rise = lawful.ends_rise;
      ends_of_a_node = lawful.ends_of_a_node;
      bundles = lawful.bundles;
      bundles_once = lawful.bundles_once;
      threads = lawful.threads;
      threads_rise = lawful.threads_rise;
      threads_of_a_node = lawful.threads_of_a_node;
      plan = All-nil (IsLawfulPlanLine s.nodes);
      plan_once = all_pairs_none (λ (a : PlanLine) (b : PlanLine). ¬ IsSamePlace a b);
      plan_lines = omega arith;
      faults = lawful.faults;
      faults_once = lawful.faults_once;
      fault_lines = lawful.fault_lines;
      script = All-nil (IsLawfulScriptCall s.ends s.threads (least_credits s.pool));
      script_calls = omega arith;
      steps = All-map (λ (step : StepLine). IsLawfulEvent s.ends s.nodes s.frames s.channels (least_credits s.pool) step.event) step_of journal may.events;
      step_lines = omega (arith, count, long);
    }

pub replay_is_read : ReplaysAreRead
replay_is_read s journal lawful may = printed_is_read Step (step_script s journal) (is_lawful s journal lawful may) (refl, refl)

events_kept : (before : ℕ) (journal : List Entry) → map (λ (step : StepLine). step.event) (in_lines before (map step_of journal)) ≡ map
    (λ (x : Entry). by_anyone x.event) journal
unfolding in_lines
events_kept before [] = refl
events_kept before (x ∷ journal) = ap (λ (l : List Event). by_anyone x.event ∷ l) (events_kept (before + 1) journal)

pub steps_are_events : StepsAreEvents
steps_are_events s journal = events_kept (lines_before (step_script s journal)) journal

-- ---- as the calls that print append it

step_by_step : (journal : List Entry) → flat_map replay_line journal ≡ flat_map step_line (map step_of journal)
step_by_step [] = refl
step_by_step (x ∷ journal) = ap (λ (l : List ℕ). replay_line x ++ l) (step_by_step journal)

pub declared_is : (s : ScenarioLists) (journal : List Entry) →
    flat_map end_line s.ends ++ flat_map bundle_line s.bundles ++ flat_map thread_line s.threads ++ flat_map swap_fault_line s.faults ≡ declared_lines
    (step_script s journal)
unfolding declared_lines
declared_is s journal = ap (λ (l : List ℕ). l ++ flat_map swap_fault_line s.faults) (sym
    (append-nil (flat_map end_line s.ends ++ flat_map bundle_line s.bundles ++ flat_map thread_line s.threads)))

pub text_is : (s : ScenarioLists) (journal : List Entry) → setting_lines s ++ (flat_map end_line s.ends ++ flat_map bundle_line s.bundles ++ flat_map
    thread_line s.threads ++ flat_map swap_fault_line s.faults) ++ flat_map replay_line journal ≡ scenario_text (step_script s journal)
unfolding scenario_text setting_lines number_lines
text_is s journal =
    ap (λ (l : List ℕ). setting_lines s ++ l ++ flat_map replay_line journal) (declared_is s journal)
    ∙ ap (λ (l : List ℕ). setting_lines s ++ declared_lines (step_script s journal) ++ l) (step_by_step journal)
    ∙ ap (λ (l : List ℕ). l ++ flat_map step_line (map step_of journal)) (sym (append-nil (setting_lines s ++ declared_lines (step_script s journal))))

pub joined : (a b d out0 out1 out2 out3 : List ℕ) → out0 ≡ [] → out1 ≡ out0 ++ a → out2 ≡ out1 ++ b → out3 ≡ out2 ++ d → out3 ≡ a ++ b ++ d
joined a b d out0 out1 out2 out3 e0 e1 e2 e3 = rw (e3, e2, e1, e0) refl
