-- With a lawful line what was said stays sound.
use Rattle.std.proofs.Common.{◌≡◌, ◌≢◌, ℕ, ◌+◌, ◌<◌, ◌≤◌, Bool, true, false, List, [], ◌∷◌, ◌++◌, length, Option, Some, None, refl, sym, ap, ◌∙◌, subst, arith}
use Rattle.std.proofs.Common.{length-append}
use Rattle.std.specs.Prelude.{◌==◌, ◌&&◌, map, find, count_by, if◌then◌else◌}
use Rattle.std.specs.List.{All}
use Rattle.std.specs.Option.{option_map}
use Rattle.std.proofs.lemmas.Bool.Decides.{nat_tests}
use Rattle.std.proofs.lemmas.List.{length_push, length-map}
use Rattle.std.proofs.lemmas.List.Elements.{All-nil, All-cons, All-push, All-append, All-weaker}
use Rattle.std.proofs.lemmas.List.Sums.{sum_by_push}
use Rattle.std.proofs.lemmas.List.Folds.{find-append}
use Rattle.std.proofs.lemmas.Bool.{and_from, eqb-true, eq-eqb}
use Rattle.am_lemmas.proofs.Bools.{and_from_three}
use Rattle.am_lemmas.proofs.Lists.{none_passes, all_pairs_none, all_pairs_grow}
use Rattle.am_lemmas.proofs.Options.{option_map-option_or}
use Rattle.am_names.specs.declared.EndpointId.{EndpointId}
use Rattle.am_names.specs.declared.NodeId.{NodeId}
use Rattle.am_bundle.specs.Lists.{BundleLists}
use Rattle.am_scenario_plan.specs.declared.plan.PlanLine.{PlanLine}
use Rattle.am_scenario_types.specs.declared.parts.Form.{Form}
use Rattle.am_scenario_types.specs.declared.parts.Form.TheVariants.{Step, Run}
use Rattle.am_scenario_types.specs.declared.parts.Network.{Network}
use Rattle.am_scenario_types.specs.declared.parts.EndLine.{EndLine}
use Rattle.am_scenario_types.specs.declared.parts.ThreadLine.{ThreadLine}
use Rattle.am_scenario_types.specs.declared.parts.FaultLine.{FaultLine}
use Rattle.am_scenario_types.specs.declared.parts.ScriptCall.{ScriptCall}
use Rattle.am_scenario_types.specs.declared.parts.StepLine.{StepLine}
use Rattle.am_scenario_types.specs.Lawful.{IsOn, IsLawfulEnd, IsLawfulBundle, IsLawfulThread, IsLawfulPlanLine, IsSamePlace, IsLawfulFaultLine, IsSamePageCall}
use Rattle.am_scenario_types.specs.Lawful.{IsLawfulScriptCall, IsLawfulEvent}
use Rattle.am_scenario.specs.declared.drafts.settings.Settings.{Settings}
use Rattle.am_scenario.specs.declared.drafts.settings.Setting.{Setting}
use Rattle.am_scenario.specs.declared.drafts.settings.Setting.TheVariants as setting
use Rattle.am_scenario.specs.declared.drafts.line.Line.TheVariants as line
use Rattle.am_scenario.specs.Drafts.Said.{Said, with_line, with_setting, nothing, node_count, frame_count, channel_count, end_of, thread_of, bundle_of}
use Rattle.am_scenario.specs.Drafts.Said.{is_planned, is_faulty, script_call}
use Rattle.am_scenario.specs.Lines.Calls.{least_share}
use Rattle.am_scenario.specs.LineLaws.LineLaws.{network_of, fits_form, IsLawfulSetting}
use Rattle.am_scenario.specs.LineLaws.Sound.{SettingsAreSound, EndsAreSound, BundlesAreSound, ThreadsAreSound, PlanIsSound, FaultsAreSound, ScriptIsSound}
use Rattle.am_scenario.specs.LineLaws.Sound.{StepsAreSound, DeclaresNothing, DoesNothing, HasForm, IsSound}
use Rattle.am_scenario.specs.LineLaws.Growth.{StaysSound, BeginsSound}

-- ---- nothing

no_ends : (network : Network) (nodes : ℕ) (ends : List EndLine) → ends ≡ [] → EndsAreSound network nodes ends
no_ends network nodes ends e = subst (λ (l : List EndLine). EndsAreSound network nodes l) (sym e)
    (record { each = All-nil (IsLawfulEnd network nodes); once = all_pairs_none (λ a b. a.id.0 ≢ b.id.0); of_a_node = λ node. omega arith })

no_bundles : (ends : List EndLine) (bundles : List BundleLists) → bundles ≡ [] → BundlesAreSound ends bundles
no_bundles ends bundles e = subst (λ (l : List BundleLists). BundlesAreSound ends l) (sym e)
    (record { each = All-nil (IsLawfulBundle ends); once = all_pairs_none (λ a b. a.id ≢ b.id) })

no_threads : (nodes : ℕ) (threads : List ThreadLine) → threads ≡ [] → ThreadsAreSound nodes threads
no_threads nodes threads e = subst (λ (l : List ThreadLine). ThreadsAreSound nodes l) (sym e)
    (record { each = All-nil (IsLawfulThread nodes); once = all_pairs_none (λ a b. a.id ≢ b.id); of_a_node = λ node. omega arith })

no_plan : (nodes : ℕ) (plan : List PlanLine) → plan ≡ [] → PlanIsSound nodes plan
no_plan nodes plan e = subst (λ (l : List PlanLine). PlanIsSound nodes l) (sym e)
    (record { each = All-nil (IsLawfulPlanLine nodes); once = all_pairs_none (λ a b. ¬ IsSamePlace a b); lines = omega arith })

no_faults : (nodes : ℕ) (faults : List FaultLine) → faults ≡ [] → FaultsAreSound nodes faults
no_faults nodes faults e = subst (λ (l : List FaultLine). FaultsAreSound nodes l) (sym e)
    (record { each = All-nil (IsLawfulFaultLine nodes); once = all_pairs_none (λ a b. ¬ IsSamePageCall a b); lines = omega arith })

no_script : (ends : List EndLine) (threads : List ThreadLine) (least : ℕ) (script : List ScriptCall) → script ≡ [] → ScriptIsSound ends threads least script
no_script ends threads least script e = subst (λ (l : List ScriptCall). ScriptIsSound ends threads least l) (sym e)
    (record { each = All-nil (IsLawfulScriptCall ends threads least); calls = omega arith })

no_steps : (ends : List EndLine) (nodes frames channels least : ℕ) (steps : List StepLine) → steps ≡ [] → StepsAreSound ends nodes frames channels least steps
no_steps ends nodes frames channels least steps e = subst (λ (l : List StepLine). StepsAreSound ends nodes frames channels least l) (sym e)
    (record { each = All-nil (λ step. IsLawfulEvent ends nodes frames channels least step.event); lines = omega arith })

-- ---- one setting more

pub setting_kept : (form : Form) (settings : Settings) (one : Setting) → SettingsAreSound form settings → IsLawfulSetting form one →
    SettingsAreSound form (with_setting settings one)
setting_kept form settings (setting.Network value) h l = record {
  network = l;
  nodes = h.nodes;
  frames = h.frames;
  channels = h.channels;
  tries = h.tries;
  bounces = h.bounces;
  pool = h.pool;
  keep = h.keep;
  log = h.log;
  turns = h.turns;
}
setting_kept form settings (setting.Nodes value) h l = record {
  network = h.network;
  nodes = l;
  frames = h.frames;
  channels = h.channels;
  tries = h.tries;
  bounces = h.bounces;
  pool = h.pool;
  keep = h.keep;
  log = h.log;
  turns = h.turns;
}
setting_kept form settings (setting.Frames value) h l = record {
  network = h.network;
  nodes = h.nodes;
  frames = l;
  channels = h.channels;
  tries = h.tries;
  bounces = h.bounces;
  pool = h.pool;
  keep = h.keep;
  log = h.log;
  turns = h.turns;
}
setting_kept form settings (setting.Channels value) h l = record {
  network = h.network;
  nodes = h.nodes;
  frames = h.frames;
  channels = l;
  tries = h.tries;
  bounces = h.bounces;
  pool = h.pool;
  keep = h.keep;
  log = h.log;
  turns = h.turns;
}
setting_kept form settings (setting.Tries value) h l = record {
  network = h.network;
  nodes = h.nodes;
  frames = h.frames;
  channels = h.channels;
  tries = l;
  bounces = h.bounces;
  pool = h.pool;
  keep = h.keep;
  log = h.log;
  turns = h.turns;
}
setting_kept form settings (setting.Bounces value) h l = record {
  network = h.network;
  nodes = h.nodes;
  frames = h.frames;
  channels = h.channels;
  tries = h.tries;
  bounces = l;
  pool = h.pool;
  keep = h.keep;
  log = h.log;
  turns = h.turns;
}
setting_kept form settings (setting.Pool value) h l = record {
  network = h.network;
  nodes = h.nodes;
  frames = h.frames;
  channels = h.channels;
  tries = h.tries;
  bounces = h.bounces;
  pool = l;
  keep = h.keep;
  log = h.log;
  turns = h.turns;
}
setting_kept form settings (setting.Keep value) h l = record {
  network = h.network;
  nodes = h.nodes;
  frames = h.frames;
  channels = h.channels;
  tries = h.tries;
  bounces = h.bounces;
  pool = h.pool;
  keep = l;
  log = h.log;
  turns = h.turns;
}
setting_kept form settings (setting.Log value) h l = record {
  network = h.network;
  nodes = h.nodes;
  frames = h.frames;
  channels = h.channels;
  tries = h.tries;
  bounces = h.bounces;
  pool = h.pool;
  keep = h.keep;
  log = l;
  turns = h.turns;
}
setting_kept form settings (setting.Turns value) h l = record {
  network = h.network;
  nodes = h.nodes;
  frames = h.frames;
  channels = h.channels;
  tries = h.tries;
  bounces = h.bounces;
  pool = h.pool;
  keep = h.keep;
  log = h.log;
  turns = l;
}

-- ---- one element more

pub apart : (a b : ℕ) → (a == b) ≡ false → a ≢ b
apart a b e = grind (arith, nat_tests)

none_if : (b : Bool) → b ≡ false → (if b then 1 else 0) ≤ 0
none_if false e = omega arith
none_if true e = absurd (cc)

at_most_one : (b : Bool) → (if b then 1 else 0) ≤ 1
at_most_one true = omega arith
at_most_one false = omega arith

counted : {A : Type 0} (p : A → Bool) (xs : List A) (x : A) → count_by p (xs ++ x ∷ []) ≡ count_by p xs + (if p x then 1 else 0)
counted p xs x = sum_by_push (λ a. if p a then 1 else 0) xs x

-- where at most so many elements of each key stand, and fewer of this one's key, one more is not too many
still_few : {A : Type 0} (key : A → ℕ) (most : ℕ) (xs : List A) (x : A) → ((k : ℕ) → count_by (λ a. key a == k) xs ≤ most) →
    count_by (λ a. key a == key x) xs < most
    → (k : ℕ) → count_by (λ a. key a == k) (xs ++ x ∷ []) ≤ most
still_few key most xs x few fewer k = few_at (key x == k) refl
  where
    few_at : (b : Bool) → (key x == k) ≡ b → count_by (λ a. key a == k) (xs ++ x ∷ []) ≤ most
    few_at true e =
        let same : key x ≡ k = eqb-true (key x) k e in
        let here : count_by (λ a. key a == k) xs < most = subst (λ (n : ℕ). count_by (λ a. key a == n) xs < most) same fewer in
        let one : (if key x == k then 1 else 0) ≤ 1 = at_most_one (key x == k) in
        omega (arith, counted (λ a. key a == k) xs x, one)
    few_at false e =
        let none : (if key x == k then 1 else 0) ≤ 0 = none_if (key x == k) e in
        omega (arith, counted (λ a. key a == k) xs x, none, few k)

not_found_at : {A : Type 0} (p : A → Bool) (x : A) (xs : List A) (b : Bool) → p x ≡ b → (find p xs ≡ None → All (λ x. p x ≡ false) xs) →
    (if b then Some x else find p xs) ≡ None → All (λ x. p x ≡ false) (x ∷ xs)
not_found_at p x xs true is rest e = absurd (cc)
not_found_at p x xs false is rest e = All-cons (λ x. p x ≡ false) x xs is (rest e)

-- what isn't found stands nowhere
not_found : {A : Type 0} (p : A → Bool) (xs : List A) → find p xs ≡ None → All (λ x. p x ≡ false) xs
not_found p [] e = All-nil (λ x. p x ≡ false)
not_found p (x ∷ xs) e = not_found_at p x xs (p x) refl (not_found p xs) e

-- ---- one endpoint more

-- what was declared stays declared
pub stays_on : (ends : List EndLine) (end : EndLine) (node : NodeId) (id : EndpointId) → IsOn ends node id → IsOn (ends ++ end ∷ []) node id
stays_on ends end node id h =
    ap (λ (o : Option EndLine). option_map (λ end. end.node) o) (find-append (λ end. end.id.0 == id.0) ends (end ∷ []))
    ∙ option_map-option_or (λ (x : EndLine). x.node) (find (λ end. end.id.0 == id.0) ends) (find (λ end. end.id.0 == id.0) (end ∷ [])) node h

bundle_stays : (ends : List EndLine) (end : EndLine) (bundle : BundleLists) → IsLawfulBundle ends bundle → IsLawfulBundle (ends ++ end ∷ []) bundle
bundle_stays ends end bundle h = record {
  id = h.id;
  members = (
    h.members.0,
    All-weaker (IsOn ends h.members.0) (IsOn (ends ++ end ∷ []) h.members.0) (λ id on. stays_on ends end h.members.0 id on) bundle.members
        h.members.1,
  );
  some_member = h.some_member;
  once = h.once;
}

ends_more : (said : Said) (end : EndLine) (network : Network) (nodes : ℕ) → EndsAreSound network nodes said.ends → IsLawfulEnd network nodes end →
    end_of said end.id.0 ≡ None
    → count_by (λ other. other.node.0 == end.node.0) said.ends < 64 → EndsAreSound network nodes (said.ends ++ end ∷ [])
ends_more said end network nodes h lawful new room = record {
  each = All-push (IsLawfulEnd network nodes) said.ends end h.each lawful;
  once = all_pairs_grow (λ a b. a.id.0 ≢ b.id.0) said.ends end h.once
      (All-weaker (λ other. (other.id.0 == end.id.0) ≡ false) (λ other. other.id.0 ≢ end.id.0) (λ other e. apart other.id.0 end.id.0 e) said.ends
      (not_found (λ other. other.id.0 == end.id.0) said.ends new));
  of_a_node = still_few (λ other. other.node.0) 64 said.ends end h.of_a_node room;
}

bundles_stay : (ends : List EndLine) (end : EndLine) (bundles : List BundleLists) → BundlesAreSound ends bundles → BundlesAreSound (ends ++ end ∷ []) bundles
bundles_stay ends end bundles h = record {
  each = All-weaker (IsLawfulBundle ends) (IsLawfulBundle (ends ++ end ∷ [])) (λ bundle lawful. bundle_stays ends end bundle lawful) bundles h.each;
  once = h.once;
}

bundles_more : (said : Said) (bundle : BundleLists) → BundlesAreSound said.ends said.bundles → IsLawfulBundle said.ends bundle →
    bundle_of said bundle.id ≡ None → BundlesAreSound said.ends (said.bundles ++ bundle ∷ [])
bundles_more said bundle h lawful new = record {
  each = All-push (IsLawfulBundle said.ends) said.bundles bundle h.each lawful;
  once = all_pairs_grow (λ a b. a.id ≢ b.id) said.bundles bundle h.once
      (All-weaker (λ other. (other.id == bundle.id) ≡ false) (λ other. other.id ≢ bundle.id) (λ other e. apart other.id bundle.id e) said.bundles
      (not_found (λ other. other.id == bundle.id) said.bundles new));
}

threads_more : (said : Said) (thread : ThreadLine) (nodes : ℕ) → ThreadsAreSound nodes said.threads → IsLawfulThread nodes thread →
    thread_of said thread.id ≡ None
    → count_by (λ other. other.node.0 == thread.node.0) said.threads < 4 → ThreadsAreSound nodes (said.threads ++ thread ∷ [])
threads_more said thread nodes h lawful new room = record {
  each = All-push (IsLawfulThread nodes) said.threads thread h.each lawful;
  once = all_pairs_grow (λ a b. a.id ≢ b.id) said.threads thread h.once
      (All-weaker (λ other. (other.id == thread.id) ≡ false) (λ other. other.id ≢ thread.id) (λ other e. apart other.id thread.id e) said.threads
      (not_found (λ other. other.id == thread.id) said.threads new));
  of_a_node = still_few (λ other. other.node.0) 4 said.threads thread h.of_a_node room;
}

elsewhere : (a b : PlanLine) → ((a.from.0 == b.from.0) && (a.to.0 == b.to.0) && (a.number == b.number)) ≡ false → ¬ IsSamePlace a b
elsewhere a b e = λ same.
    let yes_all : ((a.from.0 == b.from.0) && (a.to.0 == b.to.0) && (a.number == b.number)) ≡ true =
    and_from_three _ _ _ (eq-eqb a.from.0 b.from.0 same.0) (eq-eqb a.to.0 b.to.0 same.1) (eq-eqb a.number b.number same.2) in
    let never : true ≡ false = sym yes_all ∙ e in cc

plan_more : (said : Said) (planned : PlanLine) (nodes : ℕ) → PlanIsSound nodes said.plan → IsLawfulPlanLine nodes planned →
    is_planned said.plan planned.from planned.to planned.number ≡ false
    → length said.plan < 4096 → PlanIsSound nodes (said.plan ++ planned ∷ [])
plan_more said planned nodes h lawful new room = record {
  each = All-push (IsLawfulPlanLine nodes) said.plan planned h.each lawful;
  once = all_pairs_grow (λ a b. ¬ IsSamePlace a b) said.plan planned h.once
      (All-weaker (λ other. ((other.from.0 == planned.from.0) && (other.to.0 == planned.to.0) && (other.number == planned.number)) ≡ false)
      (λ other. ¬ IsSamePlace other planned) (λ other e. elsewhere other planned e) said.plan
      (none_passes (λ other. (other.from.0 == planned.from.0) && (other.to.0 == planned.to.0) && (other.number == planned.number)) said.plan new));
  lines = omega (arith, length_push said.plan planned);
}

another_call : (a b : FaultLine) → ((a.node.0 == b.node.0) && (a.number == b.number)) ≡ false → ¬ IsSamePageCall a b
another_call a b e = λ same.
    let yes_all : ((a.node.0 == b.node.0) && (a.number == b.number)) ≡ true =
    and_from _ _ (eq-eqb a.node.0 b.node.0 same.0) (eq-eqb a.number b.number same.1) in
    let never : true ≡ false = sym yes_all ∙ e in cc

faults_more : (said : Said) (fault : FaultLine) (nodes : ℕ) → FaultsAreSound nodes said.faults → IsLawfulFaultLine nodes fault →
    is_faulty said.faults fault.node fault.number ≡ false
    → length said.faults < 64 → FaultsAreSound nodes (said.faults ++ fault ∷ [])
faults_more said fault nodes h lawful new room = record {
  each = All-push (IsLawfulFaultLine nodes) said.faults fault h.each lawful;
  once = all_pairs_grow (λ a b. ¬ IsSamePageCall a b) said.faults fault h.once
      (All-weaker (λ other. ((other.node.0 == fault.node.0) && (other.number == fault.number)) ≡ false) (λ other. ¬ IsSamePageCall other fault)
      (λ other e. another_call other fault e) said.faults
      (none_passes (λ other. (other.node.0 == fault.node.0) && (other.number == fault.number)) said.faults new));
  lines = omega (arith, length_push said.faults fault);
}

-- ---- the form

form_stays : (form : Form) (said next : Said) → next.plan ≡ said.plan → next.script ≡ said.script → next.steps ≡ said.steps → HasForm form said →
    HasForm form next
form_stays Step said next plan script steps h = (plan ∙ h.0, script ∙ h.1)
form_stays Run said next plan script steps h = steps ∙ h

run_alone : (form : Form) (said next : Said) (fits : Bool) → fits ≡ true → (form ≡ Step → fits ≡ false) → next.steps ≡ said.steps → HasForm form said →
    HasForm form next
run_alone Step said next fits e never steps h = let wrong : true ≡ false = sym e ∙ never refl in absurd (cc)
run_alone Run said next fits e never steps h = steps ∙ h

step_alone : (form : Form) (said next : Said) (fits : Bool) → fits ≡ true → (form ≡ Run → fits ≡ false) → next.plan ≡ said.plan → next.script ≡ said.script →
    HasForm form said → HasForm form next
step_alone Step said next fits e never plan script h = (plan ∙ h.0, script ∙ h.1)
step_alone Run said next fits e never plan script h = let wrong : true ≡ false = sym e ∙ never refl in absurd (cc)

-- ---- one line more

nothing_yet : (form : Form) (said : Said) (number section : ℕ) → IsSound form said → said.section ≤ section → section ≤ 2 →
    (settings : Settings) (version : Option _) → SettingsAreSound form settings
    → IsSound form (record said { section = section; version = version; settings = settings })
nothing_yet form said number section h low early settings version sound =
    let none : DeclaresNothing said = h.before_section_3 (omega arith) in
    let idle : DoesNothing said = h.before_section_4 (omega arith) in
    record {
      before_section_3 = λ _. record { ends = none.ends; bundles = none.bundles; threads = none.threads; plan = none.plan; faults = none.faults };
      before_section_4 = λ _. record { script = idle.script; steps = idle.steps };
      settings = sound;
      ends = no_ends (network_of settings) (node_count settings) said.ends none.ends;
      bundles = no_bundles said.ends said.bundles none.bundles;
      threads = no_threads (node_count settings) said.threads none.threads;
      plan = no_plan (node_count settings) said.plan none.plan;
      faults = no_faults (node_count settings) said.faults none.faults;
      script = no_script said.ends said.threads (least_share version) said.script idle.script;
      steps = no_steps said.ends (node_count settings) (frame_count settings) (channel_count settings) (least_share version) said.steps idle.steps;
      of_form = form_stays form said (record said { section = section; version = version; settings = settings }) refl refl refl h.of_form;
    }

pub stays_sound : StaysSound
stays_sound form said number section (line.Version version) h low here fits l =
    nothing_yet form said number section h low (omega arith) said.settings (Some version) h.settings
stays_sound form said number section (line.Setting setting) h low here fits l =
    nothing_yet form said number section h low (omega arith) (with_setting said.settings setting) said.version
    (setting_kept form said.settings setting h.settings l)
stays_sound form said number section (line.End end) h low here fits l =
    let idle_before : said.section ≤ 3 → DoesNothing said = h.before_section_4 in
    record {
      before_section_3 = λ early. absurd (omega arith);
      before_section_4 = λ early. let idle = h.before_section_4 (omega arith) in record { script = idle.script; steps = idle.steps };
      settings = h.settings;
      ends = ends_more said end (network_of said.settings) (node_count said.settings) h.ends l.0 l.1 l.2;
      bundles = bundles_stay said.ends end said.bundles h.bundles;
      threads = h.threads;
      plan = h.plan;
      faults = h.faults;
      script = no_script (said.ends ++ end ∷ []) said.threads (least_share said.version) said.script (idle_before (omega arith)).script;
      steps = no_steps (said.ends ++ end ∷ []) (node_count said.settings) (frame_count said.settings) (channel_count said.settings) (least_share said.version)
          said.steps (idle_before (omega arith)).steps;
      of_form = form_stays form said (with_line number (record said { section = section }) (line.End end)) refl refl refl h.of_form;
    }
stays_sound form said number section (line.Bundle bundle) h low here fits l =
    let idle_before : said.section ≤ 3 → DoesNothing said = h.before_section_4 in
    record {
      before_section_3 = λ early. absurd (omega arith);
      before_section_4 = λ early. let idle = h.before_section_4 (omega arith) in record { script = idle.script; steps = idle.steps };
      settings = h.settings;
      ends = h.ends;
      bundles = bundles_more said bundle h.bundles l.0 l.1;
      threads = h.threads;
      plan = h.plan;
      faults = h.faults;
      script = h.script;
      steps = h.steps;
      of_form = form_stays form said (with_line number (record said { section = section }) (line.Bundle bundle)) refl refl refl h.of_form;
    }
stays_sound form said number section (line.Thread thread) h low here fits l =
    let idle_before : said.section ≤ 3 → DoesNothing said = h.before_section_4 in
    record {
      before_section_3 = λ early. absurd (omega arith);
      before_section_4 = λ early. let idle = h.before_section_4 (omega arith) in record { script = idle.script; steps = idle.steps };
      settings = h.settings;
      ends = h.ends;
      bundles = h.bundles;
      threads = threads_more said thread (node_count said.settings) h.threads l.0 l.1 l.2;
      plan = h.plan;
      faults = h.faults;
      script = no_script said.ends (said.threads ++ thread ∷ []) (least_share said.version) said.script (idle_before (omega arith)).script;
      steps = h.steps;
      of_form = form_stays form said (with_line number (record said { section = section }) (line.Thread thread)) refl refl refl h.of_form;
    }
stays_sound form said number section (line.Plan planned) h low here fits l =
    let idle_before : said.section ≤ 3 → DoesNothing said = h.before_section_4 in
    record {
      before_section_3 = λ early. absurd (omega arith);
      before_section_4 = λ early. let idle = h.before_section_4 (omega arith) in record { script = idle.script; steps = idle.steps };
      settings = h.settings;
      ends = h.ends;
      bundles = h.bundles;
      threads = h.threads;
      plan = plan_more said planned (node_count said.settings) h.plan l.0 l.1 l.2;
      faults = h.faults;
      script = h.script;
      steps = h.steps;
      of_form = run_alone form said (with_line number (record said { section = section }) (line.Plan planned)) (fits_form form (line.Plan planned)) fits
          (λ e. ap (λ (f : Form). fits_form f (line.Plan planned)) e) refl h.of_form;
    }
stays_sound form said number section (line.Fault fault) h low here fits l =
    let idle_before : said.section ≤ 3 → DoesNothing said = h.before_section_4 in
    record {
      before_section_3 = λ early. absurd (omega arith);
      before_section_4 = λ early. let idle = h.before_section_4 (omega arith) in record { script = idle.script; steps = idle.steps };
      settings = h.settings;
      ends = h.ends;
      bundles = h.bundles;
      threads = h.threads;
      plan = h.plan;
      faults = faults_more said fault (node_count said.settings) h.faults l.0 l.1 l.2;
      script = h.script;
      steps = h.steps;
      of_form = form_stays form said (with_line number (record said { section = section }) (line.Fault fault)) refl refl refl h.of_form;
    }
stays_sound form said number section (line.Call call) h low here fits l =
    let idle_before : said.section ≤ 3 → DoesNothing said = h.before_section_4 in
    record {
      before_section_3 = λ early. absurd (omega arith);
      before_section_4 = λ early. absurd (omega arith);
      settings = h.settings;
      ends = h.ends;
      bundles = h.bundles;
      threads = h.threads;
      plan = h.plan;
      faults = h.faults;
      script = record {
        each = All-push (IsLawfulScriptCall said.ends said.threads (least_share said.version)) said.script call h.script.each l.0;
        calls = omega (arith, length_push said.script call);
      };
      steps = h.steps;
      of_form = run_alone form said (with_line number (record said { section = section }) (line.Call call)) (fits_form form (line.Call call)) fits
          (λ e. ap (λ (f : Form). fits_form f (line.Call call)) e) refl h.of_form;
    }
stays_sound form said number section (line.Calls thread calls) h low here fits l =
    let idle_before : said.section ≤ 3 → DoesNothing said = h.before_section_4 in
    record {
      before_section_3 = λ early. absurd (omega arith);
      before_section_4 = λ early. absurd (omega arith);
      settings = h.settings;
      ends = h.ends;
      bundles = h.bundles;
      threads = h.threads;
      plan = h.plan;
      faults = h.faults;
      script = record {
        each = All-append (IsLawfulScriptCall said.ends said.threads (least_share said.version)) said.script (map (script_call thread) calls)
            h.script.each l.0;
        calls = omega (arith, l.1, length-append said.script (map (script_call thread) calls), length-map calls (script_call thread));
      };
      steps = h.steps;
      of_form = run_alone form said (with_line number (record said { section = section }) (line.Calls thread calls)) (fits_form form (line.Calls thread calls))
          fits (λ e. ap (λ (f : Form). fits_form f (line.Calls thread calls)) e) refl h.of_form;
    }
stays_sound form said number section (line.Step event) h low here fits l =
    let idle_before : said.section ≤ 3 → DoesNothing said = h.before_section_4 in
    record {
      before_section_3 = λ early. absurd (omega arith);
      before_section_4 = λ early. absurd (omega arith);
      settings = h.settings;
      ends = h.ends;
      bundles = h.bundles;
      threads = h.threads;
      plan = h.plan;
      faults = h.faults;
      script = h.script;
      steps = record {
        each = All-push (λ step. IsLawfulEvent said.ends (node_count said.settings) (frame_count said.settings) (channel_count said.settings)
            (least_share said.version) step.event) said.steps (record { line = number; event = event }) h.steps.each l.0;
        lines = omega (arith, l.1, length_push said.steps (record { line = number; event = event }));
      };
      of_form = step_alone form said (with_line number (record said { section = section }) (line.Step event)) (fits_form form (line.Step event)) fits
          (λ e. ap (λ (f : Form). fits_form f (line.Step event)) e) refl refl h.of_form;
    }

form_of_nothing : (form : Form) → HasForm form nothing
form_of_nothing Step = (refl, refl)
form_of_nothing Run = refl

pub begins_sound : BeginsSound
begins_sound form = record {
  before_section_3 = λ _. record { ends = refl; bundles = refl; threads = refl; plan = refl; faults = refl };
  before_section_4 = λ _. record { script = refl; steps = refl };
  settings = record { network = tt; nodes = tt; frames = tt; channels = tt; tries = tt; bounces = tt; pool = tt; keep = tt; log = tt; turns = tt };
  ends = no_ends _ _ [] refl;
  bundles = no_bundles [] [] refl;
  threads = no_threads _ [] refl;
  plan = no_plan _ [] refl;
  faults = no_faults _ [] refl;
  script = no_script [] [] _ [] refl;
  steps = no_steps [] _ _ _ _ [] refl;
  of_form = form_of_nothing form;
}
