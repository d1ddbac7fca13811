-- The text of a lawful scenario spells it.
use Rattle.std.proofs.Common.{◌≡◌, ℕ, zero, suc, ◌+◌, ◌-◌, ◌^◌, ◌≤◌, ◌<◌, false, eqb, List, [], ◌∷◌, ◌++◌, length, Option, Some, None, Ok, refl, sym, ap, subst}
use Rattle.std.proofs.Common.{◌∙◌, arith}
use Rattle.std.specs.Prelude.{codes}
use Rattle.std.specs.List.{flat_map}
use Rattle.std.specs.Option.{option_to_list}
use Rattle.std.proofs.lemmas.Bool.{ne_eqb}
use Rattle.std.proofs.lemmas.List.{append-nil}
use Rattle.std.proofs.lemmas.List.Elements.{All-weaker}
use Rattle.std.proofs.Math.Nat.{min-eq_left}
use Rattle.am_lexer.specs.Text.{lines_of}
use Rattle.am_office_text.specs.Words.{line}
use Rattle.am_scenario_plan.specs.declared.plan.PlanLine.{PlanLine}
use Rattle.am_scenario_types.specs.declared.parts.Form.{Form}
use Rattle.am_scenario_types.specs.declared.parts.Form.TheVariants.{Step, Run}
use Rattle.am_scenario_types.specs.declared.parts.Network.TheVariants.{Packet}
use Rattle.am_scenario_types.specs.declared.parts.EndLine.{EndLine}
use Rattle.am_scenario_types.specs.declared.parts.ThreadLine.{ThreadLine}
use Rattle.am_scenario_types.specs.declared.parts.ScriptCall.{ScriptCall}
use Rattle.am_scenario_types.specs.declared.parts.StepLine.{StepLine}
use Rattle.am_scenario_types.specs.Lists.{ScenarioLists}
use Rattle.am_scenario_types.specs.Lawful.{IsLawful, IsOfForm, IsLawfulEnd, IsLawfulThread}
use Rattle.am_scenario.specs.declared.drafts.settings.Setting.TheVariants as setting
use Rattle.am_scenario.specs.Drafts.Said.{Said, nothing, end_of, thread_of}
use Rattle.am_scenario.specs.Grammar.{ends_below, threads_below, pool_of, whole, read_from}
use Rattle.am_scenario.specs.Laws.{Spells}
use Rattle.am_scenario.proofs.Below.{below}
use Rattle.am_lab_scenarios.specs.Spelling.Texts.{version_number, network_word, setting_line, number_lines, pool_line, setting_lines, end_line, bundle_line, thread_line}
use Rattle.am_lab_scenarios.specs.Spelling.Texts.{plan_line, swap_fault_line, declared_lines, call_line, step_line, scenario_text, lines_before, line_behind, in_lines}
use Rattle.am_lab_scenarios.specs.Spelling.Texts.{as_printed}
use Rattle.am_lab_scenarios.specs.Spelling.Laws.{PrintedScenariosAreRead, PrintedRunsAreRead}
use Rattle.am_lab_scenarios.proofs.Lists.{fewer, all_below_are}
use Rattle.am_lab_scenarios.proofs.Leading.{in_section, Reads, Leads, both_texts, from_lower, each}
use Rattle.am_lab_scenarios.proofs.Standing.{standing, settings_said, version_said}
use Rattle.am_lab_scenarios.proofs.Setting.{Begins, begins_with, of_version, set, version_begins, network_leads, numbers_lead, with_turns, pool_leads, all_set}
use Rattle.am_lab_scenarios.proofs.Declaring.{end_leads, bundle_leads, thread_leads, plan_leads, swap_fault_leads}
use Rattle.am_lab_scenarios.proofs.Acting.{call_leads, step_leads}

-- ---- the parts of the text

network_of_form : (form : Form) (s : ScenarioLists) → IsOfForm form s → form ≡ Run → s.network ≡ Packet
network_of_form Step s h e = absurd (cc e)
network_of_form Run s h e = h.0

settings_begin : (form : Form) (s : ScenarioLists) → IsLawful s → IsOfForm form s →
    Begins form (setting_lines s) (version_number s.pool + 9) 2 (standing s [] [] [] [] [] [] [])
unfolding setting_lines
settings_begin form s lawful of_form =
    let version = begins_with form 1 2 1 2 (of_version s.pool) (set (of_version s.pool) (setting.Network s.network))
    (setting_line (codes "am2") (version_number s.pool)) (line (codes "network") (network_word s.network ∷ [])) (version_begins form s.pool)
    (from_lower form 1 2 1 2 2 (of_version s.pool) (set (of_version s.pool) (setting.Network s.network)) (line (codes "network") (network_word s.network ∷ []))
    (omega arith) (network_leads form s s.pool (network_of_form form s of_form))) in
    let numbers = begins_with form 2 10 2 2 (set (of_version s.pool) (setting.Network s.network)) (with_turns s s.pool) _ (number_lines s) version
    (numbers_lead form s s.pool lawful.settings) in
    begins_with form 10 (version_number s.pool + 9) 2 2 (with_turns s s.pool) (all_set s s.pool) _ (pool_line s.pool) numbers
    (pool_leads form s s.pool lawful.settings.pool)

no_plan : (s : ScenarioLists) (pre : List PlanLine) (x : PlanLine) (post : List PlanLine) → length s.plan ≡ 0 → pre ++ x ∷ post ≡ s.plan → ⊥
no_plan s pre x post none e = let few = fewer pre x post 0 (subst (λ l. length l ≤ 0) (sym e) (omega (arith, none))) in omega (arith, few)

no_call : (s : ScenarioLists) (pre : List ScriptCall) (x : ScriptCall) (post : List ScriptCall) → length s.script ≡ 0 → pre ++ x ∷ post ≡ s.script → ⊥
no_call s pre x post none e = let few = fewer pre x post 0 (subst (λ l. length l ≤ 0) (sym e) (omega (arith, none))) in omega (arith, few)

no_step : (s : ScenarioLists) (pre : List StepLine) (x : StepLine) (post : List StepLine) → length s.steps ≡ 0 → pre ++ x ∷ post ≡ s.steps → ⊥
no_step s pre x post none e = let few = fewer pre x post 0 (subst (λ l. length l ≤ 0) (sym e) (omega (arith, none))) in omega (arith, few)

plan_lead : (form : Form) (s : ScenarioLists) → IsLawful s → IsOfForm form s → (first : ℕ) →
    Leads form first 3 (standing s s.ends s.bundles s.threads [] [] [] []) (flat_map plan_line s.plan) (first + length s.plan) 3
    (standing s s.ends s.bundles s.threads s.plan [] [] [])
plan_lead Step s lawful of_form first = each Step 3 plan_line (λ pre. standing s s.ends s.bundles s.threads pre [] [] []) first s.plan
    (λ pre x post e. absurd (no_plan s pre x post of_form.0 e))
plan_lead Run s lawful of_form first = each Run 3 plan_line (λ pre. standing s s.ends s.bundles s.threads pre [] [] []) first s.plan (plan_leads s lawful first)

calls_lead : (form : Form) (s : ScenarioLists) → IsLawful s → IsOfForm form s → (first : ℕ) →
    Leads form first 4 (standing s s.ends s.bundles s.threads s.plan s.faults [] []) (flat_map call_line s.script) (first + length s.script) 4
    (standing s s.ends s.bundles s.threads s.plan s.faults s.script [])
calls_lead Step s lawful of_form first = each Step 4 call_line (λ pre. standing s s.ends s.bundles s.threads s.plan s.faults pre []) first s.script
    (λ pre x post e. absurd (no_call s pre x post of_form.1 e))
calls_lead Run s lawful of_form first = each Run 4 call_line (λ pre. standing s s.ends s.bundles s.threads s.plan s.faults pre []) first s.script
    (call_leads s lawful first)

no_lines : (first : ℕ) → in_lines first [] ≡ []
unfolding in_lines
no_lines first = refl

abbrev stepped : ScenarioLists → ℕ → List StepLine → Said
stepped s first pre = standing s s.ends s.bundles s.threads s.plan s.faults s.script (in_lines first pre)

steps_lead : (form : Form) (s : ScenarioLists) → IsLawful s → IsOfForm form s → (first : ℕ) →
    Leads form first 4 (stepped s first []) (flat_map step_line s.steps) (first + length s.steps) 4 (stepped s first s.steps)
steps_lead Step s lawful of_form first = each Step 4 step_line (stepped s first) first s.steps (step_leads s lawful first)
steps_lead Run s lawful of_form first = each Run 4 step_line (stepped s first) first s.steps (λ pre x post e. absurd (no_step s pre x post of_form.1 e))

declared_lead : (form : Form) (s : ScenarioLists) → IsLawful s → IsOfForm form s → (b : ℕ)
    → Leads form b 3 (standing s [] [] [] [] [] [] []) (declared_lines s) (b + length s.ends + length s.bundles + length s.threads + length s.plan + length
    s.faults) 3 (standing s s.ends s.bundles s.threads s.plan s.faults [] [])
unfolding declared_lines
declared_lead form s lawful of_form b =
    let b1 : ℕ = b + length s.ends in
    let b2 : ℕ = b1 + length s.bundles in
    let b3 : ℕ = b2 + length s.threads in
    let b4 : ℕ = b3 + length s.plan in
    let ends = each form 3 end_line (λ pre. standing s pre [] [] [] [] [] []) b s.ends (end_leads form s lawful b) in
    let bundles = each form 3 bundle_line (λ pre. standing s s.ends pre [] [] [] [] []) b1 s.bundles (bundle_leads form s lawful b1) in
    let threads = each form 3 thread_line (λ pre. standing s s.ends s.bundles pre [] [] [] []) b2 s.threads (thread_leads form s lawful b2) in
    let faults = each form 3 swap_fault_line (λ pre. standing s s.ends s.bundles s.threads s.plan pre [] []) b4 s.faults (swap_fault_leads form s lawful b4) in
    let two = both_texts form b b1 b2 3 3 3 (standing s [] [] [] [] [] [] []) (standing s s.ends [] [] [] [] [] []) (standing s s.ends s.bundles [] [] [] [] [])
    (flat_map end_line s.ends) (flat_map bundle_line s.bundles) ends bundles in
    let three = both_texts form b b2 b3 3 3 3 (standing s [] [] [] [] [] [] []) (standing s s.ends s.bundles [] [] [] [] [])
    (standing s s.ends s.bundles s.threads [] [] [] []) _ (flat_map thread_line s.threads) two threads in
    let four = both_texts form b b3 b4 3 3 3 (standing s [] [] [] [] [] [] []) (standing s s.ends s.bundles s.threads [] [] [] [])
    (standing s s.ends s.bundles s.threads s.plan [] [] []) _ (flat_map plan_line s.plan) three (plan_lead form s lawful of_form b3) in
    both_texts form b b4 (b4 + length s.faults) 3 3 3 (standing s [] [] [] [] [] [] []) (standing s s.ends s.bundles s.threads s.plan [] [] [])
    (standing s s.ends s.bundles s.threads s.plan s.faults [] []) _ (flat_map swap_fault_line s.faults) four faults

-- ---- what all lines together have said

ends_are_below : (said : Said) (n : ℕ) → ends_below said n ≡ below (λ end. end.id.0) said.ends n
unfolding ends_below
ends_are_below said zero = refl
ends_are_below said (suc n) = ap (λ (l : List EndLine). l ++ option_to_list (end_of said n)) (ends_are_below said n)

threads_are_below : (said : Said) (n : ℕ) → threads_below said n ≡ below (λ thread. thread.id) said.threads n
unfolding threads_below
threads_are_below said zero = refl
threads_are_below said (suc n) = ap (λ (l : List ThreadLine). l ++ option_to_list (thread_of said n)) (threads_are_below said n)

pool_is : (s : ScenarioLists) (pool : Option ℕ) → pool_of (version_said pool) (record (settings_said s) { pool = pool }) ≡ pool
pool_is s None = refl
pool_is s (Some pool) = refl

whole_is : (s : ScenarioLists) → IsLawful s → (steps : List StepLine) (at : ℕ) → 1 ≤ at →
    whole (in_section (standing s s.ends s.bundles s.threads s.plan s.faults s.script steps) at) ≡ Ok (record s { steps = steps })
unfolding whole
whole_is s lawful steps at some =
    let said : Said = in_section (standing s s.ends s.bundles s.threads s.plan s.faults s.script steps) at in
    let begun : eqb at 0 ≡ false = ne_eqb at 0 (λ e. omega arith) in
    let ends : ends_below said 256 ≡ s.ends = ends_are_below said 256
    ∙ all_below_are (λ end. end.id.0) s.ends 256 lawful.ends_rise (All-weaker (IsLawfulEnd s.network s.nodes) (λ end. end.id.0 < 256)
    (λ end h. let id = h.id in omega (arith, id)) s.ends lawful.ends) in
    let threads : threads_below said 64 ≡ s.threads = threads_are_below said 64
    ∙ all_below_are (λ thread. thread.id) s.threads 64 lawful.threads_rise (All-weaker (IsLawfulThread s.nodes) (λ thread. thread.id < 64)
    (λ thread h. let id = h.id in omega (arith, id)) s.threads lawful.threads) in
    rw (begun, ends, threads, pool_is s s.pool) refl

ended : (form : Form) (number : ℕ) (said : Said) (s : ScenarioLists) → whole said ≡ Ok s → read_from form number said [] ≡ Ok s
unfolding read_from
ended form number said s e = rw e refl

no_more : (form : Form) (s : ScenarioLists) → IsLawful s → (steps : List StepLine) (before : ℕ) →
    Reads form before 4 (standing s s.ends s.bundles s.threads s.plan s.faults s.script steps) [] (Ok (record s { steps = steps }))
unfolding lines_of
no_more form s lawful steps before at some high = ended form (line_behind before) (in_section
    (standing s s.ends s.bundles s.threads s.plan s.faults s.script steps) at) (record s { steps = steps }) (whole_is s lawful steps at some)

-- ---- the whole

first_line : line_behind 0 ≡ 1
first_line = min-eq_left {n = 1} {m = 2 ^ 32 - 1} (omega arith)

text_begins : (form : Form) (s : ScenarioLists) → IsLawful s → IsOfForm form s →
    Begins form (scenario_text s) (lines_before s + length s.steps) 4 (stepped s (lines_before s) s.steps)
unfolding scenario_text
text_begins form s lawful of_form =
    let b : ℕ = version_number s.pool + 9 in
    let b5 : ℕ = b + length s.ends + length s.bundles + length s.threads + length s.plan + length s.faults in
    let none : Said = standing s [] [] [] [] [] [] [] in
    let declared : Said = standing s s.ends s.bundles s.threads s.plan s.faults [] [] in
    let called : Said = standing s s.ends s.bundles s.threads s.plan s.faults s.script [] in
    let first = begins_with form b b5 2 3 none declared (setting_lines s) (declared_lines s) (settings_begin form s lawful of_form)
    (from_lower form b b5 2 3 3 none declared (declared_lines s) (omega arith) (declared_lead form s lawful of_form b)) in
    let second = begins_with form b5 (lines_before s) 3 4 declared called _ (flat_map call_line s.script) first
    (from_lower form b5 (lines_before s) 3 4 4 declared called (flat_map call_line s.script) (omega arith) (calls_lead form s lawful of_form b5)) in
    let steps : Leads form (lines_before s) 4 called (flat_map step_line s.steps) (lines_before s + length s.steps) 4 (stepped s (lines_before s) s.steps) =
    subst (λ (l : List StepLine). Leads form (lines_before s) 4 (standing s s.ends s.bundles s.threads s.plan s.faults s.script l) (flat_map step_line s.steps)
    (lines_before s + length s.steps) 4 (stepped s (lines_before s) s.steps)) (no_lines (lines_before s))
    (steps_lead form s lawful of_form (lines_before s)) in
    begins_with form (lines_before s) (lines_before s + length s.steps) 4 4 called (stepped s (lines_before s) s.steps) _ (flat_map step_line s.steps) second
    steps

pub printed_is_read : PrintedScenariosAreRead
printed_is_read form s lawful of_form =
    ap (λ (text : List ℕ). read_from form 1 nothing (lines_of text)) (sym (append-nil (scenario_text s)))
    ∙ ap (λ (number : ℕ). read_from form number nothing (lines_of (scenario_text s ++ []))) (sym first_line)
    ∙ text_begins form s lawful of_form [] (Ok (as_printed s)) (no_more form s lawful (in_lines (lines_before s) s.steps) (lines_before s + length s.steps))

as_they_are : (before : ℕ) (steps : List StepLine) → length steps ≡ 0 → in_lines before steps ≡ steps
unfolding in_lines
as_they_are before [] none = refl
as_they_are before (step ∷ steps) none = absurd (omega (arith, none))

pub printed_run_is_read : PrintedRunsAreRead
printed_run_is_read s lawful of_form =
    subst (λ (steps : List StepLine). Spells Run (scenario_text s) (record s { steps = steps })) (as_they_are (lines_before s) s.steps of_form.1)
    (printed_is_read Run s lawful of_form)
