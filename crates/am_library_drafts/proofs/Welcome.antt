-- What a draft refuses only for want of memory.
use Rattle.std.proofs.Common.{◌≡◌, ℕ, ◌<◌, Bool, true, false, [], ◌∷◌, length, Option, None, Err, refl, subst}
use Rattle.std.specs.Prelude.{not, nat_le}
use Rattle.std.proofs.lemmas.Bool.{eq-eqb, le-leb, lt-leb}
use Rattle.am_names.specs.declared.NodeId.{NodeId}
use Rattle.am_model.specs.Choice.{first_holding}
use Rattle.am_scenario_plan.specs.declared.plan.PlanLine.{PlanLine}
use Rattle.am_scenario_types.specs.declared.parts.ScriptCall.{ScriptCall}
use Rattle.am_scenario_types.specs.Lawful.{IsWithin}
use Rattle.am_scenario_types.specs.Lists.{ScenarioLists}
use Rattle.am_library_drafts.specs.declared.draft.DraftFault.{DraftFault}
use Rattle.am_library_drafts.specs.declared.draft.DraftFault.TheVariants as Fault
use Rattle.am_library_drafts.specs.declared.draft.Setting.{Setting}
use Rattle.am_library_drafts.specs.Drafts.{IsRefusedFor, call_fault, end_fault, ends_on, is_good_setting, is_within, plan_fault, setting_fault, start_fault}
use Rattle.am_library_drafts.specs.Drafts.{thread_fault, threads_on}
use Rattle.am_library_drafts.specs.Welcome.{DraftsWelcome, IsWelcomeCall, IsWelcomeLine}

within : (low high n : ℕ) → IsWithin low high n → is_within low high n ≡ true
within low high n is = rw (le-leb low n is.0, le-leb n high is.1) refl

one : (a : Bool) (x : DraftFault) → a ≡ true → first_holding ((not a, x) ∷ []) ≡ None
one a x is = rw is refl

three : (a b c : Bool) (x y z : DraftFault) → a ≡ false → b ≡ false → c ≡ false → first_holding ((a, x) ∷ (b, y) ∷ (c, z) ∷ []) ≡ None
three a b c x y z first second third = rw (first, second, third) refl

pub starts : (nodes : ℕ) → IsWithin 1 16 nodes → start_fault nodes ≡ None
starts nodes is = one (is_within 1 16 nodes) Fault.BadNumber (within 1 16 nodes is)

pub settings : (setting : Setting) → is_good_setting setting ≡ true → setting_fault setting ≡ None
settings setting is = one (is_good_setting setting) Fault.BadNumber is

pub ends : (s : ScenarioLists) (node : NodeId) → node.0 < s.nodes → length s.ends < 256 → ends_on s node < 64 → end_fault s node ≡ None
ends s node there few room =
    three (nat_le s.nodes node.0) (nat_le 256 (length s.ends)) (nat_le 64 (ends_on s node)) Fault.NoNode Fault.Full Fault.Full
    (lt-leb s.nodes node.0 there) (lt-leb 256 (length s.ends) few) (lt-leb 64 (ends_on s node) room)

pub threads : (s : ScenarioLists) (node : NodeId) → node.0 < s.nodes → length s.threads < 64 → threads_on s node < 4 → thread_fault s node ≡ None
threads s node there few room =
    three (nat_le s.nodes node.0) (nat_le 64 (length s.threads)) (nat_le 4 (threads_on s node)) Fault.NoNode Fault.Full Fault.Full
    (lt-leb s.nodes node.0 there) (lt-leb 64 (length s.threads) few) (lt-leb 4 (threads_on s node) room)

-- the conditions of a call, by what its thread and its endpoint are found to be
pub calls : (s : ScenarioLists) (made : ScriptCall) → IsWelcomeCall s made → call_fault s made ≡ None
calls s made is =
    rw (is.thread, is.endpoint, is.names, eq-eqb is.node.0 is.node.0 refl, is.numbers, lt-leb 16_384 (length s.script) is.room) refl

pub plans : (s : ScenarioLists) (line : PlanLine) → IsWelcomeLine s line → plan_fault s line ≡ None
plans s line is =
    rw (
      lt-leb s.nodes line.from.0 is.from,
      lt-leb s.nodes line.to.0 is.to,
      within 1 65_536 line.number is.number,
      is.fault,
      is.other,
      lt-leb 4096 (length s.plan) is.room,
    ) refl

-- where nothing speaks against it
for_memory : (A : Type 0) (fault : DraftFault) → IsRefusedFor {A = A} (Err fault) None → fault ≡ Fault.NoMemory
for_memory A Fault.NoNode is = absurd (cc)
for_memory A Fault.NoThread is = absurd (cc)
for_memory A Fault.NoEndpoint is = absurd (cc)
for_memory A Fault.OtherNode is = absurd (cc)
for_memory A Fault.BadNumber is = absurd (cc)
for_memory A Fault.Planned is = absurd (cc)
for_memory A Fault.Full is = absurd (cc)
for_memory A Fault.NoMemory is = refl

pub refused_for : (A : Type 0) (fault : DraftFault) (o : Option DraftFault) → o ≡ None → IsRefusedFor {A = A} (Err fault) o → fault ≡ Fault.NoMemory
refused_for A fault o none is = for_memory A fault (subst (λ (p : Option DraftFault). IsRefusedFor {A = A} (Err fault) p) none is)

pub drafts_welcome : DraftsWelcome
drafts_welcome = record {
  starts = starts;
  settings = settings;
  ends = ends;
  threads = threads;
  calls = calls;
  plans = plans;
  memory = for_memory (Unit {0});
}
