-- A spelled scenario is lawful.
use Rattle.std.proofs.Common.{◌≡◌, ℕ, zero, suc, ◌-◌, ◌<◌, ◌≤◌, true, List, [], ◌∷◌, ◌++◌, length, Option, Some, None, Result, Ok, Err, refl, sym, ap, ◌∙◌}
use Rattle.std.proofs.Common.{subst, inl, inr, ◌⊎◌, arith}
use Rattle.std.specs.Prelude.{◌==◌, ◌&&◌, ◌||◌, not, nat_lt, find, count_by, IfSome, IsSome, is_some}
use Rattle.std.specs.List.{All, AllPairs, slice_index}
use Rattle.std.specs.Option.{option_to_list, option_map, unwrap_or}
use Rattle.std.proofs.lemmas.List.Elements.{All-weaker}
use Rattle.std.proofs.lemmas.Bool.{not-false, or_parts, ltb-false, eqb-true}
use Rattle.am_lemmas.proofs.Lists.{find_passes}
use Rattle.am_lexer.specs.declared.what.What.{What}
use Rattle.am_lexer.specs.declared.what.What.TheVariants.{UnknownWord, Missing, NotText, OutOfPlace}
use Rattle.am_lexer.specs.Text.{lines_of, words_of, is_text_line}
use Rattle.am_lexer.specs.Fields.{or_else}
use Rattle.am_lexer.specs.Lines.{line_after}
use Rattle.am_names.specs.declared.EndpointId.{EndpointId}
use Rattle.am_names.specs.declared.NodeId.{NodeId}
use Rattle.am_office_entries.specs.declared.Call.{Call}
use Rattle.am_office_entries.specs.declared.Call.TheVariants.{Request, Poll, SetTag, Map, Unmap, SetHandler, GiveUp, Close, Test}
use Rattle.am_office_entries.specs.declared.Event.{Event}
use Rattle.am_office_entries.specs.declared.Event.TheVariants as event
use Rattle.am_bundle.specs.Lists.{BundleLists}
use Rattle.am_scenario_types.specs.declared.parts.Form.{Form}
use Rattle.am_scenario_types.specs.declared.parts.Form.TheVariants.{Step, Run}
use Rattle.am_scenario_types.specs.declared.parts.Network.{Network}
use Rattle.am_scenario_types.specs.declared.parts.Network.TheVariants.{Direct}
use Rattle.am_scenario_types.specs.declared.parts.EndLine.{EndLine}
use Rattle.am_scenario_types.specs.declared.parts.ThreadLine.{ThreadLine}
use Rattle.am_scenario_types.specs.declared.parts.ScriptCall.{ScriptCall}
use Rattle.am_scenario_types.specs.declared.faults.ScenarioFault.{ScenarioFault}
use Rattle.am_scenario_types.specs.Lists.{ScenarioLists}
use Rattle.am_scenario_types.specs.Lawful.{IsWithin, node_of, thread_node, IsDeclared, IsOn, HasLawfulSettings, IsLawfulEnd, IsLawfulBundle, IsLawfulThread}
use Rattle.am_scenario_types.specs.Lawful.{IsLawfulPlanLine, IsLawfulFaultLine, IsLawfulCall, IsLawfulScriptCall, IsLawfulEvent, least_credits, IsLawful}
use Rattle.am_scenario_types.specs.Lawful.{IsOfForm}
use Rattle.am_scenario.specs.declared.drafts.settings.Version.{Version}
use Rattle.am_scenario.specs.declared.drafts.settings.Version.TheVariants.{One, Two}
use Rattle.am_scenario.specs.declared.drafts.settings.Settings.{Settings}
use Rattle.am_scenario.specs.Drafts.Said.{Said, with_line, nothing, node_count, frame_count, channel_count, end_of, thread_of}
use Rattle.am_scenario.specs.declared.lines.head.Head.{Head}
use Rattle.am_scenario.specs.Lines.Heads.{head_of, section_of, is_of_form}
use Rattle.am_scenario.specs.Lines.Calls.{least_share}
use Rattle.am_scenario.specs.Lines.Lines.{words_say}
use Rattle.am_scenario.specs.LineLaws.LineLaws.{network_of, section_said, fits_form, IsNetworkOf, IsLawfulLine}
use Rattle.am_scenario.specs.LineLaws.Sound.{SettingsAreSound, EndsAreSound, ThreadsAreSound, IsSound, HasForm}
use Rattle.am_scenario.proofs.Meets.{Meets, refuses, gives, bind, test, anything, found}
use Rattle.am_scenario.proofs.Calling.{lines_are_lawful}
use Rattle.am_scenario.proofs.Words.{on_is_declared}
use Rattle.am_scenario.proofs.Growing.{stays_sound, begins_sound}
use Rattle.am_scenario.specs.Order.{placed, after_words, after_line}
use Rattle.am_scenario.specs.Grammar.{ends_below, threads_below, tries_of, bounces_of, pool_of, whole, on_line, read_from, grammar}
use Rattle.am_scenario.specs.Laws.{SpellsLawful, ExactlyOne}
use Rattle.am_scenario.proofs.Below.{below, found_holds, all_below, rising, found_below, count_below}

-- ---- one line more

-- in its section, and of the form
abbrev pub IsPlaced : Form → Said → Head → Type 0
IsPlaced form said first = (said.section ≤ section_of first) × (is_of_form form first ≡ true)

is_placed : (form : Form) (said : Said) (first : Head) → Meets (IsPlaced form said) (placed form said first)
unfolding placed
is_placed form said first =
    test (said.section == 0 && not (section_of first == 1)) _ _ (λ e. refuses (IsPlaced form said) Missing) (λ e1.
    test (nat_lt (section_of first) said.section || not (is_of_form form first)) _ _ (λ e. refuses (IsPlaced form said) OutOfPlace) (λ in_place.
    let parts = or_parts (nat_lt (section_of first) said.section) (not (is_of_form form first)) in_place in
    test (nat_lt 2 (section_of first) && not (is_some said.settings.network && is_some said.settings.nodes)) _ _ (λ e. refuses (IsPlaced form said) Missing)
    (λ e3.
    gives (IsPlaced form said) first (ltb-false (section_of first) said.section parts.0, not-false (is_of_form form first) parts.1))))

says_lawful : (form : Form) (said : Said) (first : Head) (words : List (List ℕ))
    → Meets (λ says. (section_said says ≡ section_of first) × (fits_form form says ≡ is_of_form form first) × IsLawfulLine form said says)
    (words_say form said first words)
says_lawful form said first words = record { holds = λ says e. lines_are_lawful form said first words says e }

words_sound : (form : Form) (number : ℕ) (said : Said) (words : List (List ℕ)) → IsSound form said → Meets (IsSound form) (after_words form number said words)
unfolding after_words
words_sound form number said [] h = gives (IsSound form) said h
words_sound form number said (first ∷ words) h =
    test (slice_index first 0 == 35) _ _ (λ e. gives (IsSound form) said h) (λ e.
    bind (or_else UnknownWord (head_of said.version first)) _ (anything (or_else UnknownWord (head_of said.version first))) (λ named _.
    bind (placed form said named) _ (is_placed form said named) (λ first_word here.
    bind (words_say form said first_word words) _ (says_lawful form said first_word words) (λ says l.
    gives (IsSound form) (with_line number (record said { section = section_of first_word }) says)
    (stays_sound form said number (section_of first_word) says h here.0 l.0 (l.1 ∙ here.1) l.2)))))

line_sound : (form : Form) (number : ℕ) (said : Said) (line : List ℕ) → IsSound form said → Meets (IsSound form) (after_line form number said line)
unfolding after_line
line_sound form number said line h =
    test (is_text_line line) _ _ (λ e. words_sound form number said (words_of line) h) (λ e. refuses (IsSound form) NotText)

-- ---- the whole

ends_are_below : (said : Said) (n : ℕ) → ends_below said n ≡ below (λ end. end.id.0) said.ends n
unfolding ends_below
ends_are_below said zero = refl
ends_are_below said (suc n) = ap (λ (l : List EndLine). l ++ option_to_list (end_of said n)) (ends_are_below said n)

threads_are_below : (said : Said) (n : ℕ) → threads_below said n ≡ below (λ thread. thread.id) said.threads n
unfolding threads_below
threads_are_below said zero = refl
threads_are_below said (suc n) = ap (λ (l : List ThreadLine). l ++ option_to_list (thread_of said n)) (threads_are_below said n)

-- where something is declared on a node, its number is at most 255
found_small : (network : Network) (nodes : ℕ) (ends : List EndLine) (node : NodeId) (id : EndpointId) (o : Option EndLine) →
    All (IsLawfulEnd network nodes) ends
    → find (λ end. end.id.0 == id.0) ends ≡ o → option_map (λ end. end.node) o ≡ Some node → id.0 < 256
found_small network nodes ends node id None all e h = absurd (cc)
found_small network nodes ends node id (Some end) all e h =
    let same : end.id.0 ≡ id.0 = eqb-true end.id.0 id.0 (find_passes (λ end. end.id.0 == id.0) ends end e) in
    let small : IsLawfulEnd network nodes end = found_holds (IsLawfulEnd network nodes) (λ end. end.id.0 == id.0) ends end all e in
    omega (arith, small.id)

-- what is declared stays declared in ascending order
on_below : (network : Network) (nodes : ℕ) (ends sorted : List EndLine) (node : NodeId) (id : EndpointId) → sorted ≡ below (λ end. end.id.0) ends 256 →
    All (IsLawfulEnd network nodes) ends
    → IsOn ends node id → IsOn sorted node id
on_below network nodes ends sorted node id is all h =
    let small : id.0 < 256 = found_small network nodes ends node id (find (λ end. end.id.0 == id.0) ends) all refl h in
    ap (λ (l : List EndLine). node_of l id) is
    ∙ (ap (λ (o : Option EndLine). option_map (λ end. end.node) o) (found_below (λ end. end.id.0) ends id.0 256 small) ∙ h)

node_found : (o : Option NodeId) → IsSome o → (node : NodeId) × (o ≡ Some node)
node_found (Some node) h = (node, refl)
node_found None h = absurd (cc)

declared_below : (network : Network) (nodes : ℕ) (ends sorted : List EndLine) (id : EndpointId) → sorted ≡ below (λ end. end.id.0) ends 256 →
    All (IsLawfulEnd network nodes) ends
    → IsDeclared ends id → IsDeclared sorted id
declared_below network nodes ends sorted id is all h =
    let at = node_found (node_of ends id) h in
    on_is_declared sorted at.0 id (on_below network nodes ends sorted at.0 id is all at.1)

bundle_below : (network : Network) (nodes : ℕ) (ends sorted : List EndLine) (bundle : BundleLists) → sorted ≡ below (λ end. end.id.0) ends 256 →
    All (IsLawfulEnd network nodes) ends
    → IsLawfulBundle ends bundle → IsLawfulBundle sorted bundle
bundle_below network nodes ends sorted bundle is all h = record {
  id = h.id;
  members = (
    h.members.0,
    All-weaker (IsOn ends h.members.0) (IsOn sorted h.members.0) (λ id on. on_below network nodes ends sorted h.members.0 id is all on)
        bundle.members h.members.1,
  );
  some_member = h.some_member;
  once = h.once;
}

call_below : (network : Network) (nodes : ℕ) (ends sorted : List EndLine) (least : ℕ) (call : Call) → sorted ≡ below (λ end. end.id.0) ends 256 →
    All (IsLawfulEnd network nodes) ends
    → IsLawfulCall ends least call → IsLawfulCall sorted least call
call_below network nodes ends sorted least (Request index handler words) is all h = h
call_below network nodes ends sorted least Poll is all h = h
call_below network nodes ends sorted least (SetTag tag) is all h = h
call_below network nodes ends sorted least (Map index name tag credits) is all h = (h.0, declared_below network nodes ends sorted name is all h.1, h.2, h.3)
call_below network nodes ends sorted least (Unmap index) is all h = h
call_below network nodes ends sorted least (SetHandler index kind) is all h = h
call_below network nodes ends sorted least (GiveUp serial) is all h = h
call_below network nodes ends sorted least Close is all h = h
call_below network nodes ends sorted least (Test mask) is all h = h

thread_small : (nodes : ℕ) (threads : List ThreadLine) (node : NodeId) (id : ℕ) (o : Option ThreadLine) → All (IsLawfulThread nodes) threads
    → find (λ thread. thread.id == id) threads ≡ o → option_map (λ thread. thread.node) o ≡ Some node → id < 64
thread_small nodes threads node id None all e h = absurd (cc)
thread_small nodes threads node id (Some thread) all e h =
    let same : thread.id ≡ id = eqb-true thread.id id (find_passes (λ thread. thread.id == id) threads thread e) in
    let small : IsLawfulThread nodes thread = found_holds (IsLawfulThread nodes) (λ thread. thread.id == id) threads thread all e in
    omega (arith, small.id)

thread_there : (nodes : ℕ) (threads sorted : List ThreadLine) (node : NodeId) (id : ℕ) → sorted ≡ below (λ thread. thread.id) threads 64 →
    All (IsLawfulThread nodes) threads
    → thread_node threads id ≡ Some node → thread_node sorted id ≡ Some node
thread_there nodes threads sorted node id is all h =
    let small : id < 64 = thread_small nodes threads node id (find (λ thread. thread.id == id) threads) all refl h in
    ap (λ (l : List ThreadLine). thread_node l id) is
    ∙ (ap (λ (o : Option ThreadLine). option_map (λ thread. thread.node) o) (found_below (λ thread. thread.id) threads id 64 small) ∙ h)

script_below : (network : Network) (nodes : ℕ) (ends sorted : List EndLine) (threads ranked : List ThreadLine) (least : ℕ) (made : ScriptCall)
    → sorted ≡ below (λ end. end.id.0) ends 256 → All (IsLawfulEnd network nodes) ends → ranked ≡ below (λ thread. thread.id) threads 64 →
    All (IsLawfulThread nodes) threads
    → IsLawfulScriptCall ends threads least made → IsLawfulScriptCall sorted ranked least made
script_below network nodes ends sorted threads ranked least made is all so every h = record {
  placed = (
    h.placed.0,
    (
      thread_there nodes threads ranked h.placed.0 made.thread so every h.placed.1.0,
      on_below network nodes ends sorted h.placed.0 made.endpoint is all h.placed.1.1,
    ),
  );
  call = call_below network nodes ends sorted least made.call is all h.call;
}

event_below : (network : Network) (n : ℕ) (ends sorted : List EndLine) (nodes frames channels least : ℕ) (e : Event)
    → ((id : EndpointId) → IsDeclared ends id → IsDeclared sorted id) → ((call : Call) → IsLawfulCall ends least call → IsLawfulCall sorted least call)
    → IsLawfulEvent ends nodes frames channels least e → IsLawfulEvent sorted nodes frames channels least e
event_below network n ends sorted nodes frames channels least (event.Call actor end call) is calls h = (h.0, is end h.1, calls call h.2)
event_below network n ends sorted nodes frames channels least (event.Want actor end) is calls h = (h.0, is end h.1)
event_below network n ends sorted nodes frames channels least (event.Carry end) is calls h = is end h
event_below network n ends sorted nodes frames channels least (event.Bind node end) is calls h = (h.0, is end h.1)
event_below network n ends sorted nodes frames channels least (event.Expire node peer channel) is calls h = h
event_below network n ends sorted nodes frames channels least (event.Receive node peer number) is calls h = h
event_below network n ends sorted nodes frames channels least (event.Drain node end) is calls h = (h.0, is end h.1)
event_below network n ends sorted nodes frames channels least (event.Unload node end) is calls h = (h.0, is end h.1)
event_below network n ends sorted nodes frames channels least (event.Load node end frame) is calls h = (h.0, is end h.1, h.2)
event_below network n ends sorted nodes frames channels least (event.PageOut node end) is calls h = (h.0, is end h.1)
event_below network n ends sorted nodes frames channels least (event.PageIn node end) is calls h = (h.0, is end h.1)

-- ---- settings that stand, or their defaults

or_default : (P : ℕ → Type 0) (o : Option ℕ) (default : ℕ) → IfSome o P → P default → P (unwrap_or o default)
or_default P None default h d = d
or_default P (Some n) default h d = h

stood : (P : ℕ → Type 0) (o : Option ℕ) (n : ℕ) → o ≡ Some n → IfSome o P → P n
stood P o n e h = let some : IfSome (Some n) P = subst (λ (o : Option ℕ). IfSome o P) e h in some

bounces_small : (settings : Settings) → IfSome settings.bounces (λ bounces. bounces ≤ 16) → tries_of settings ≤ 16 → bounces_of settings ≤ 16
bounces_small settings h tries = or_default (λ n. n ≤ 16) settings.bounces (tries_of settings - 1) h (omega arith)

pool_small : (version : Option Version) (settings : Settings) → IfSome settings.pool (λ pool. pool ≤ 32) → IfSome (pool_of version settings) (λ pool. pool ≤ 32)
pool_small (Some Two) settings h = or_default (λ n. n ≤ 32) settings.pool 0 h (omega arith)
pool_small (Some One) settings h = tt
pool_small None settings h = tt

least_is : (version : Option Version) (settings : Settings) → least_share version ≡ least_credits (pool_of version settings)
least_is (Some Two) settings = refl
least_is (Some One) settings = refl
least_is None settings = refl

network_is : (form : Form) (settings : Settings) (network : Network) (plan script steps : ℕ) → settings.network ≡ Some network →
    IfSome settings.network (IsNetworkOf form) → IsNetworkOf form network
network_is form settings network plan script steps e h = let some : IfSome (Some network) (IsNetworkOf form) =
    subst (λ (o : Option Network). IfSome o (IsNetworkOf form)) e h in some

form_is : (form : Form) (said : Said) (s : ScenarioLists) → s.plan ≡ said.plan → s.script ≡ said.script → s.steps ≡ said.steps → IsNetworkOf form s.network →
    HasForm form said → IsOfForm form s
form_is Step said s plan script steps network h = (ap (λ (l : List _). length l) (plan ∙ h.0), ap (λ (l : List _). length l) (script ∙ h.1))
form_is Run said s plan script steps network h = (network, ap (λ (l : List _). length l) (steps ∙ h))

abbrev pub IsGood : Form → ScenarioLists → Type 0
IsGood form s = IsLawful s × IsOfForm form s

-- ---- what all lines together have said

abbrev pub finished : Said → Network → ℕ → ScenarioLists
finished said network nodes = record {
  network = network;
  nodes = nodes;
  frames = frame_count said.settings;
  channels = channel_count said.settings;
  tries = tries_of said.settings;
  bounces = bounces_of said.settings;
  pool = pool_of said.version said.settings;
  keep = unwrap_or said.settings.keep 64;
  log = unwrap_or said.settings.log 65_536;
  turns = unwrap_or said.settings.turns 0;
  ends = ends_below said 256;
  bundles = said.bundles;
  threads = threads_below said 64;
  plan = said.plan;
  faults = said.faults;
  script = said.script;
  steps = said.steps;
}

settings_lawful : (form : Form) (said : Said) (network : Network) (nodes : ℕ) → SettingsAreSound form said.settings → said.settings.nodes ≡ Some nodes →
    HasLawfulSettings (finished said network nodes)
settings_lawful form said network nodes h at =
    let tries : IsWithin 2 16 (tries_of said.settings) = or_default (IsWithin 2 16) said.settings.tries 4 h.tries (omega arith, omega arith) in
    record {
      nodes = stood (IsWithin 1 16) said.settings.nodes nodes at h.nodes;
      frames = or_default (IsWithin 2 16) said.settings.frames 16 h.frames (omega arith, omega arith);
      channels = or_default (IsWithin 1 4) said.settings.channels 1 h.channels (omega arith, omega arith);
      tries = tries;
      bounces = bounces_small said.settings h.bounces tries.1;
      pool = pool_small said.version said.settings h.pool;
      keep = or_default (λ n. n ≤ 64) said.settings.keep 64 h.keep (omega arith);
      log = or_default (IsWithin 1 65_536) said.settings.log 65_536 h.log (omega arith, omega arith);
      turns = or_default (λ n. n ≤ 10_000) said.settings.turns 0 h.turns (omega arith);
    }

ends_lawful : (said : Said) (network : Network) (nodes : ℕ) → network_of said.settings ≡ network → node_count said.settings ≡ nodes
    → EndsAreSound (network_of said.settings) (node_count said.settings) said.ends → All (IsLawfulEnd network nodes) said.ends
ends_lawful said network nodes net at h =
    subst (λ (n : Network). All (IsLawfulEnd n nodes) said.ends) net
    (subst (λ (k : ℕ). All (IsLawfulEnd (network_of said.settings) k) said.ends) at h.each)

few_ends : (said : Said) (network : Network) (nodes node : ℕ) → EndsAreSound network nodes said.ends →
    count_by (λ end. end.node.0 == node) (ends_below said 256) ≤ 64
few_ends said network nodes node h =
    let is : count_by (λ end. end.node.0 == node) (ends_below said 256) ≡ count_by (λ end. end.node.0 == node) (below (λ end. end.id.0) said.ends 256) =
    ap (λ (l : List EndLine). count_by (λ end. end.node.0 == node) l) (ends_are_below said 256) in
    omega (arith, is, count_below (λ end. end.node.0 == node) (λ end. end.id.0) said.ends 256, h.of_a_node node)

few_threads : (said : Said) (nodes node : ℕ) → ThreadsAreSound nodes said.threads → count_by (λ thread. thread.node.0 == node) (threads_below said 64) ≤ 4
few_threads said nodes node h =
    let is : count_by (λ thread. thread.node.0 == node) (threads_below said 64) ≡ count_by (λ thread. thread.node.0 ==
    node) (below (λ thread. thread.id) said.threads 64) =
    ap (λ (l : List ThreadLine). count_by (λ thread. thread.node.0 == node) l) (threads_are_below said 64) in
    omega (arith, is, count_below (λ thread. thread.node.0 == node) (λ thread. thread.id) said.threads 64, h.of_a_node node)

finished_lawful : (form : Form) (said : Said) (network : Network) (nodes : ℕ) → IsSound form said → said.settings.network ≡ Some network →
    said.settings.nodes ≡ Some nodes
    → IsGood form (finished said network nodes)
finished_lawful form said network nodes h net at =
    let ends : List EndLine = ends_below said 256 in
    let is : ends ≡ below (λ end. end.id.0) said.ends 256 = ends_are_below said 256 in
    let threads : List ThreadLine = threads_below said 64 in
    let ranked : threads ≡ below (λ thread. thread.id) said.threads 64 = threads_are_below said 64 in
    let is_net : network_of said.settings ≡ network = ap (λ (o : Option Network). unwrap_or o Direct) net in
    let is_nodes : node_count said.settings ≡ nodes = ap (λ (o : Option ℕ). unwrap_or o 0) at in
    let all_ends : All (IsLawfulEnd network nodes) said.ends = ends_lawful said network nodes is_net is_nodes h.ends in
    let all_threads : All (IsLawfulThread nodes) said.threads = subst (λ (k : ℕ). All (IsLawfulThread k) said.threads) is_nodes h.threads.each in
    let least : ℕ = least_share said.version in
    let is_least : least ≡ least_credits (pool_of said.version said.settings) = least_is said.version said.settings in
    let calls : All (IsLawfulScriptCall ends threads least) said.script =
    All-weaker (IsLawfulScriptCall said.ends said.threads least) (IsLawfulScriptCall ends threads least)
    (λ made l. script_below network nodes said.ends ends said.threads threads least made is all_ends ranked all_threads l) said.script h.script.each in
    let events : All (λ step. IsLawfulEvent ends (node_count said.settings) (frame_count said.settings) (channel_count said.settings) least step.event)
    said.steps =
    All-weaker (λ step. IsLawfulEvent said.ends (node_count said.settings) (frame_count said.settings) (channel_count said.settings) least step.event)
    (λ step. IsLawfulEvent ends (node_count said.settings) (frame_count said.settings) (channel_count said.settings) least step.event)
    (λ step l. event_below network nodes said.ends ends (node_count said.settings) (frame_count said.settings) (channel_count said.settings) least step.event
    (λ id d. declared_below network nodes said.ends ends id is all_ends d) (λ call c. call_below network nodes said.ends ends least call is all_ends c) l)
    said.steps h.steps.each in (
      record {
        settings = settings_lawful form said network nodes h.settings at;
        ends = subst (λ (l : List EndLine). All (IsLawfulEnd network nodes) l) (sym is) (all_below (IsLawfulEnd network nodes) (λ end. end.id.0) said.ends 256
            all_ends);
        ends_rise = subst (λ (l : List EndLine). AllPairs (λ a b. a.id.0 < b.id.0) l) (sym is) (rising (λ end. end.id.0) said.ends 256);
        ends_of_a_node = λ node. few_ends said (network_of said.settings) (node_count said.settings) node h.ends;
        bundles = All-weaker (IsLawfulBundle said.ends) (IsLawfulBundle ends) (λ bundle l. bundle_below network nodes said.ends ends bundle is all_ends l)
            said.bundles h.bundles.each;
        bundles_once = h.bundles.once;
        threads = subst (λ (l : List ThreadLine). All (IsLawfulThread nodes) l) (sym ranked)
            (all_below (IsLawfulThread nodes) (λ thread. thread.id) said.threads 64 all_threads);
        threads_rise = subst (λ (l : List ThreadLine). AllPairs (λ a b. a.id < b.id) l) (sym ranked) (rising (λ thread. thread.id) said.threads 64);
        threads_of_a_node = λ node. few_threads said (node_count said.settings) node h.threads;
        plan = subst (λ (k : ℕ). All (IsLawfulPlanLine k) said.plan) is_nodes h.plan.each;
        plan_once = h.plan.once;
        plan_lines = h.plan.lines;
        faults = subst (λ (k : ℕ). All (IsLawfulFaultLine k) said.faults) is_nodes h.faults.each;
        faults_once = h.faults.once;
        fault_lines = h.faults.lines;
        script = subst (λ (k : ℕ). All (IsLawfulScriptCall ends threads k) said.script) is_least calls;
        script_calls = h.script.calls;
        steps = subst (λ (k : ℕ). All (λ step. IsLawfulEvent ends nodes (frame_count said.settings) (channel_count said.settings) k step.event) said.steps)
            is_least
            (subst (λ (k : ℕ). All (λ step. IsLawfulEvent ends k (frame_count said.settings) (channel_count said.settings) least step.event) said.steps)
            is_nodes events);
        step_lines = h.steps.lines;
      },
      form_is form said (finished said network nodes) refl refl refl (network_is form said.settings network 0 0 0 net h.settings.network) h.of_form,
    )

whole_good : (form : Form) (said : Said) → IsSound form said → Meets (IsGood form) (whole said)
unfolding whole
whole_good form said h =
    test (said.section == 0) _ _ (λ e. refuses (IsGood form) Missing) (λ e.
    bind (or_else Missing said.settings.network) _ (found Missing said.settings.network) (λ network net.
    bind (or_else Missing said.settings.nodes) _ (found Missing said.settings.nodes) (λ nodes at.
    gives (IsGood form) (finished said network nodes) (finished_lawful form said network nodes h net at))))

-- ---- line by line

read_good_end : (form : Form) (number : ℕ) (read : Result ScenarioLists What) (scenario : ScenarioLists) → Meets (IsGood form) read →
    on_line number read (λ s. Ok s) ≡ Ok scenario → IsGood form scenario
read_good_end form number (Ok s) scenario h e = let same : s ≡ scenario = cc in subst (λ (x : ScenarioLists). IsGood form x) same (h.holds s refl)
read_good_end form number (Err what) scenario h e = absurd (cc)

read_good_line : (form : Form) (number : ℕ) (read : Result Said What) (f : Said → Result ScenarioLists ScenarioFault) (scenario : ScenarioLists) →
    Meets (IsSound form) read
    → ((next : Said) → IsSound form next → f next ≡ Ok scenario → IsGood form scenario) → on_line number read f ≡ Ok scenario → IsGood form scenario
read_good_line form number (Ok next) f scenario h rest e = rest next (h.holds next refl) e
read_good_line form number (Err what) f scenario h rest e = absurd (cc)

read_good : (form : Form) (number : ℕ) (said : Said) (lines : List (List ℕ)) (scenario : ScenarioLists) → IsSound form said →
    read_from form number said lines ≡ Ok scenario → IsGood form scenario
unfolding read_from
read_good form number said [] scenario h e = read_good_end form number (whole said) scenario (whole_good form said h) e
read_good form number said (line ∷ lines) scenario h e =
    read_good_line form number (after_line form number said line) (λ next. read_from form (line_after number) next lines) scenario
    (line_sound form number said line h)
    (λ next k r. read_good form (line_after number) next lines scenario k r) e

pub spells_lawful : SpellsLawful
spells_lawful form bytes scenario e = read_good form 1 nothing (lines_of bytes) scenario (begins_sound form) e

-- ---- exactly one

some_result : {A B : Type 0} (r : Result A B) → ((a : A) × (r ≡ Ok a)) ⊎ ((b : B) × (r ≡ Err b))
some_result (Ok a) = inl (a, refl)
some_result (Err b) = inr (b, refl)

never_both : {A B : Type 0} (r : Result A B) (a : A) (b : B) → r ≡ Ok a → r ≡ Err b → ⊥
never_both r a b e f = cc

pub exactly_one : ExactlyOne
exactly_one = record {
  one = λ form bytes. some_result (grammar form bytes);
  not_both = λ form bytes scenario fault h. never_both (grammar form bytes) scenario fault h.0 h.1;
  one_scenario = λ form bytes a b e f. let both : Ok a ≡ grammar form bytes = sym e in cc;
  one_fault = λ form bytes a b e f. let both : Err a ≡ grammar form bytes = sym e in cc;
}
