-- The lines of sections 1 and 2 are read as the version and the settings.
use Rattle.std.proofs.Common.{◌≡◌, ℕ, ◌+◌, ◌≤◌, true, false, eqb, List, [], ◌∷◌, ◌++◌, Option, Some, None, Result, Ok, refl, sym, subst, append_assoc, arith}
use Rattle.std.specs.Prelude.{codes, IfSome}
use Rattle.std.specs.Fmt.{decimal}
use Rattle.std.specs.List.{slice_index}
use Rattle.am_lexer.specs.Text.{lines_of}
use Rattle.am_lexer.specs.Fields.{word_at, ended}
use Rattle.am_office_text.specs.Words.{Word, line}
use Rattle.am_scenario_types.specs.declared.parts.Form.{Form}
use Rattle.am_scenario_types.specs.declared.parts.Form.TheVariants.{Step, Run}
use Rattle.am_scenario_types.specs.declared.parts.Network.{Network}
use Rattle.am_scenario_types.specs.declared.parts.Network.TheVariants.{Direct, Packet}
use Rattle.am_scenario_types.specs.declared.faults.ScenarioFault.{ScenarioFault}
use Rattle.am_scenario_types.specs.Lists.{ScenarioLists}
use Rattle.am_scenario_types.specs.Lawful.{IsWithin, HasLawfulSettings}
use Rattle.am_scenario.specs.declared.drafts.settings.Settings.{Settings}
use Rattle.am_scenario.specs.declared.drafts.settings.Setting.{Setting}
use Rattle.am_scenario.specs.declared.drafts.settings.Setting.TheVariants as setting
use Rattle.am_scenario.specs.declared.drafts.line.Line.TheVariants as says
use Rattle.am_scenario.specs.Drafts.Said.{Said, unsaid, nothing, with_setting}
use Rattle.am_scenario.specs.declared.lines.head.SettingName.{SettingName}
use Rattle.am_scenario.specs.declared.lines.head.SettingName.TheVariants as name
use Rattle.am_scenario.specs.declared.lines.head.Head.TheVariants as head
use Rattle.am_scenario.specs.Lines.Heads.{head_of, setting_name_of, is_of_form}
use Rattle.am_scenario.specs.Lines.Settings.{version_line, once_within, network_of, network_setting, setting_line as read_setting_line}
use Rattle.am_scenario.specs.Lines.Lines.{words_say}
use Rattle.am_scenario.specs.Order.{after_words, placed}
use Rattle.am_scenario.specs.Grammar.{read_from}
use Rattle.am_lab_scenarios.specs.Spelling.Texts.{line_behind, version_number, network_word, setting_line, number_lines, pool_line}
use Rattle.am_lab_scenarios.proofs.Words.{is_word, number_word}
use Rattle.am_lab_scenarios.proofs.Places.{within_here}
use Rattle.am_lab_scenarios.proofs.Heads.{after_here}
use Rattle.am_lab_scenarios.proofs.Leading.{in_section, Reads, Leads, one_line, both_texts, read_line}
use Rattle.am_lab_scenarios.proofs.Standing.{version_said, settings_said}

-- ---- one setting

once_here : (low high n : ℕ) (stood : Option ℕ) → stood ≡ None → IsWithin low high n → high ≤ 65_536 → once_within low high stood (decimal n ∷ []) ≡ Ok n
unfolding once_within ended
once_here low high n stood none h small = let most = h.1 in rw (within_here low high n [] h (omega (arith, most, small)), none) refl

setting_head : (form : Form) (named : SettingName) → is_of_form form (head.Setting named) ≡ true
setting_head Step named = refl
setting_head Run named = refl

abbrev pub set : Said → Setting → Said
set said set_to = record said { settings = with_setting said.settings set_to }

setting_leads : (form : Form) (before : ℕ) (said : Said) (first word : Word) (named : SettingName) (set_to : Setting) → eqb (slice_index first 0) 35 ≡ false →
    head_of said.version first ≡ Some (head.Setting named) → is_word first ≡ true → is_word word ≡ true
    → read_setting_line form said.settings named (word ∷ []) ≡ Ok set_to → Leads form before 2 said (line first (word ∷ [])) (before + 1) 2 (set said set_to)
unfolding words_say
setting_leads form before said first word named set_to comment is f w read =
    one_line form before 2 said first (word ∷ []) (set said set_to) (omega arith) f (rw w refl) (λ at some high.
    after_here form _ (in_section said at) first (word ∷ []) (head.Setting named) 2 (says.Setting set_to) comment is refl some high (setting_head form named)
    refl (rw read refl))

-- a setting whose words give this
number_leads : (form : Form) (before : ℕ) (said : Said) (first : Word) (n : ℕ) (named : SettingName) (set_to : Setting) → eqb (slice_index first 0) 35 ≡ false →
    head_of said.version first ≡ Some (head.Setting named) → is_word first ≡ true → n ≤ 65_536
    → read_setting_line form said.settings named (decimal n ∷ []) ≡ Ok set_to → Leads form before 2 said (setting_line first n) (before + 1) 2 (set said set_to)
unfolding setting_line
number_leads form before said first n named set_to comment is f small read =
    setting_leads form before said first (decimal n) named set_to comment is f (number_word n (omega arith)) read

nodes_read : (form : Form) (settings : Settings) (n : ℕ) → settings.nodes ≡ None → IsWithin 1 16 n →
    read_setting_line form settings name.Nodes (decimal n ∷ []) ≡ Ok (setting.Nodes n)
unfolding read_setting_line
nodes_read form settings n stood h = rw (once_here 1 16 n settings.nodes stood h (omega arith)) refl

frames_read : (form : Form) (settings : Settings) (n : ℕ) → settings.frames ≡ None → IsWithin 2 16 n →
    read_setting_line form settings name.Frames (decimal n ∷ []) ≡ Ok (setting.Frames n)
unfolding read_setting_line
frames_read form settings n stood h = rw (once_here 2 16 n settings.frames stood h (omega arith)) refl

channels_read : (form : Form) (settings : Settings) (n : ℕ) → settings.channels ≡ None → IsWithin 1 4 n →
    read_setting_line form settings name.Channels (decimal n ∷ []) ≡ Ok (setting.Channels n)
unfolding read_setting_line
channels_read form settings n stood h = rw (once_here 1 4 n settings.channels stood h (omega arith)) refl

tries_read : (form : Form) (settings : Settings) (n : ℕ) → settings.tries ≡ None → IsWithin 2 16 n →
    read_setting_line form settings name.Tries (decimal n ∷ []) ≡ Ok (setting.Tries n)
unfolding read_setting_line
tries_read form settings n stood h = rw (once_here 2 16 n settings.tries stood h (omega arith)) refl

bounces_read : (form : Form) (settings : Settings) (n : ℕ) → settings.bounces ≡ None → IsWithin 0 16 n →
    read_setting_line form settings name.Bounces (decimal n ∷ []) ≡ Ok (setting.Bounces n)
unfolding read_setting_line
bounces_read form settings n stood h = rw (once_here 0 16 n settings.bounces stood h (omega arith)) refl

keep_read : (form : Form) (settings : Settings) (n : ℕ) → settings.keep ≡ None → IsWithin 0 64 n →
    read_setting_line form settings name.Keep (decimal n ∷ []) ≡ Ok (setting.Keep n)
unfolding read_setting_line
keep_read form settings n stood h = rw (once_here 0 64 n settings.keep stood h (omega arith)) refl

log_read : (form : Form) (settings : Settings) (n : ℕ) → settings.log ≡ None → IsWithin 1 65_536 n →
    read_setting_line form settings name.Log (decimal n ∷ []) ≡ Ok (setting.Log n)
unfolding read_setting_line
log_read form settings n stood h = rw (once_here 1 65_536 n settings.log stood h (omega arith)) refl

turns_read : (form : Form) (settings : Settings) (n : ℕ) → settings.turns ≡ None → IsWithin 0 10_000 n →
    read_setting_line form settings name.Turns (decimal n ∷ []) ≡ Ok (setting.Turns n)
unfolding read_setting_line
turns_read form settings n stood h = rw (once_here 0 10_000 n settings.turns stood h (omega arith)) refl

pool_read : (form : Form) (settings : Settings) (n : ℕ) → settings.pool ≡ None → IsWithin 0 32 n →
    read_setting_line form settings name.Pool (decimal n ∷ []) ≡ Ok (setting.Pool n)
unfolding read_setting_line
pool_read form settings n stood h = rw (once_here 0 32 n settings.pool stood h (omega arith)) refl

network_read : (form : Form) (settings : Settings) (network : Network) → settings.network ≡ None → (form ≡ Run → network ≡ Packet) →
    read_setting_line form settings name.Network (network_word network ∷ []) ≡ Ok (setting.Network network)
unfolding read_setting_line network_setting network_of network_word word_at ended
network_read Step settings Direct stood h = rw stood refl
network_read Step settings Packet stood h = rw stood refl
network_read Run settings Packet stood h = rw stood refl
network_read Run settings Direct stood h = absurd (cc (h refl))

network_is_word : (network : Network) → is_word (network_word network) ≡ true
unfolding network_word
network_is_word Direct = refl
network_is_word Packet = refl

-- ---- the version

abbrev pub of_version : Option ℕ → Said
of_version pool = record nothing { version = version_said pool }

version_head : (form : Form) → is_of_form form head.Version ≡ true
version_head Step = refl
version_head Run = refl

version_read : (form : Form) (number : ℕ) (pool : Option ℕ) →
    after_words form number nothing (codes "am2" ∷ decimal (version_number pool) ∷ []) ≡ Ok (in_section (of_version pool) 1)
unfolding after_words placed head_of words_say version_line ended
version_read form number None = rw (version_head form, within_here 1 2 1 [] (omega arith, omega arith) (omega arith)) refl
version_read form number (Some pool) = rw (version_head form, within_here 1 2 2 [] (omega arith, omega arith) (omega arith)) refl

version_is_word : (pool : Option ℕ) → is_word (decimal (version_number pool)) ≡ true
version_is_word None = number_word 1 (omega arith)
version_is_word (Some pool) = number_word 2 (omega arith)

-- a text leads so from the beginning
abbrev pub Begins : Form → List ℕ → ℕ → ℕ → Said → Type 0
Begins form text after section next = (rest : List ℕ) (r : Result ScenarioLists ScenarioFault) → Reads form after section next rest r →
    read_from form (line_behind 0) nothing (lines_of (text ++ rest)) ≡ r

pub begins_with : (form : Form) (b b2 s s2 : ℕ) (said said2 : Said) (t u : List ℕ) → Begins form t b s said → Leads form b s said u b2 s2 said2 →
    Begins form (t ++ u) b2 s2 said2
begins_with form b b2 s s2 said said2 t u first second rest r goes =
    subst (λ (text : List ℕ). read_from form (line_behind 0) nothing (lines_of text) ≡ r) (sym (append_assoc t u rest))
    (first (u ++ rest) r (second rest r goes))

pub version_begins : (form : Form) (pool : Option ℕ) → Begins form (setting_line (codes "am2") (version_number pool)) 1 1 (of_version pool)
unfolding setting_line
version_begins form pool rest r goes =
    read_line form 0 nothing (in_section (of_version pool) 1) (codes "am2") (decimal (version_number pool) ∷ []) rest r refl (rw (version_is_word pool) refl)
    (version_read form (line_behind 0) pool) (goes 1 (omega arith) (omega arith))

-- ---- the settings

pub network_leads : (form : Form) (s : ScenarioLists) (pool : Option ℕ) → (form ≡ Run → s.network ≡ Packet) →
    Leads form 1 2 (of_version pool) (line (codes "network") (network_word s.network ∷ [])) 2 2 (set (of_version pool) (setting.Network s.network))
unfolding head_of setting_name_of
network_leads form s pool h =
    setting_leads form 1 (of_version pool) (codes "network") (network_word s.network) name.Network (setting.Network s.network) refl refl refl
    (network_is_word s.network) (network_read form unsaid s.network refl h)

module _ (s : ScenarioLists) (pool : Option ℕ) where
  abbrev pub with_nodes : Said
  with_nodes = set (set (of_version pool) (setting.Network s.network)) (setting.Nodes s.nodes)

  abbrev pub with_frames : Said
  with_frames = set (with_nodes) (setting.Frames s.frames)

  abbrev pub with_channels : Said
  with_channels = set (with_frames) (setting.Channels s.channels)

  abbrev pub with_tries : Said
  with_tries = set (with_channels) (setting.Tries s.tries)

  abbrev pub with_bounces : Said
  with_bounces = set (with_tries) (setting.Bounces s.bounces)

  abbrev pub with_keep : Said
  with_keep = set (with_bounces) (setting.Keep s.keep)

  abbrev pub with_log : Said
  with_log = set (with_keep) (setting.Log s.log)

  abbrev pub with_turns : Said
  with_turns = set (with_log) (setting.Turns s.turns)

nodes_leads : (form : Form) (s : ScenarioLists) (pool : Option ℕ) → HasLawfulSettings s →
    Leads form 2 2 (set (of_version pool) (setting.Network s.network)) (setting_line (codes "nodes") s.nodes) 3 2 (with_nodes s pool)
unfolding head_of setting_name_of
nodes_leads form s pool lawful =
    let most = lawful.nodes.1 in
    number_leads form 2 (set (of_version pool) (setting.Network s.network)) (codes "nodes") s.nodes name.Nodes (setting.Nodes s.nodes) refl refl refl
    (omega (arith, most)) (nodes_read form (set (of_version pool) (setting.Network s.network)).settings s.nodes refl lawful.nodes)

frames_leads : (form : Form) (s : ScenarioLists) (pool : Option ℕ) → HasLawfulSettings s →
    Leads form 3 2 (with_nodes s pool) (setting_line (codes "frames") s.frames) 4 2 (with_frames s pool)
unfolding head_of setting_name_of
frames_leads form s pool lawful =
    let most = lawful.frames.1 in
    number_leads form 3 (with_nodes s pool) (codes "frames") s.frames name.Frames (setting.Frames s.frames) refl refl refl (omega (arith, most))
    (frames_read form (with_nodes s pool).settings s.frames refl lawful.frames)

channels_leads : (form : Form) (s : ScenarioLists) (pool : Option ℕ) → HasLawfulSettings s →
    Leads form 4 2 (with_frames s pool) (setting_line (codes "channels") s.channels) 5 2 (with_channels s pool)
unfolding head_of setting_name_of
channels_leads form s pool lawful =
    let most = lawful.channels.1 in
    number_leads form 4 (with_frames s pool) (codes "channels") s.channels name.Channels (setting.Channels s.channels) refl refl refl (omega (arith, most))
    (channels_read form (with_frames s pool).settings s.channels refl lawful.channels)

tries_leads : (form : Form) (s : ScenarioLists) (pool : Option ℕ) → HasLawfulSettings s →
    Leads form 5 2 (with_channels s pool) (setting_line (codes "tries") s.tries) 6 2 (with_tries s pool)
unfolding head_of setting_name_of
tries_leads form s pool lawful =
    let most = lawful.tries.1 in
    number_leads form 5 (with_channels s pool) (codes "tries") s.tries name.Tries (setting.Tries s.tries) refl refl refl (omega (arith, most))
    (tries_read form (with_channels s pool).settings s.tries refl lawful.tries)

bounces_leads : (form : Form) (s : ScenarioLists) (pool : Option ℕ) → HasLawfulSettings s →
    Leads form 6 2 (with_tries s pool) (setting_line (codes "bounces") s.bounces) 7 2 (with_bounces s pool)
unfolding head_of setting_name_of
bounces_leads form s pool lawful =
    let most = lawful.bounces in
    number_leads form 6 (with_tries s pool) (codes "bounces") s.bounces name.Bounces (setting.Bounces s.bounces) refl refl refl (omega (arith, most))
    (bounces_read form (with_tries s pool).settings s.bounces refl (omega arith, lawful.bounces))

keep_leads : (form : Form) (s : ScenarioLists) (pool : Option ℕ) → HasLawfulSettings s →
    Leads form 7 2 (with_bounces s pool) (setting_line (codes "keep") s.keep) 8 2 (with_keep s pool)
unfolding head_of setting_name_of
keep_leads form s pool lawful =
    let most = lawful.keep in
    number_leads form 7 (with_bounces s pool) (codes "keep") s.keep name.Keep (setting.Keep s.keep) refl refl refl (omega (arith, most))
    (keep_read form (with_bounces s pool).settings s.keep refl (omega arith, lawful.keep))

log_leads : (form : Form) (s : ScenarioLists) (pool : Option ℕ) → HasLawfulSettings s →
    Leads form 8 2 (with_keep s pool) (setting_line (codes "log") s.log) 9 2 (with_log s pool)
unfolding head_of setting_name_of
log_leads form s pool lawful =
    let most = lawful.log.1 in
    number_leads form 8 (with_keep s pool) (codes "log") s.log name.Log (setting.Log s.log) refl refl refl (omega (arith, most))
    (log_read form (with_keep s pool).settings s.log refl lawful.log)

turns_leads : (form : Form) (s : ScenarioLists) (pool : Option ℕ) → HasLawfulSettings s →
    Leads form 9 2 (with_log s pool) (setting_line (codes "turns") s.turns) 10 2 (with_turns s pool)
unfolding head_of setting_name_of
turns_leads form s pool lawful =
    let most = lawful.turns in
    number_leads form 9 (with_log s pool) (codes "turns") s.turns name.Turns (setting.Turns s.turns) refl refl refl (omega (arith, most))
    (turns_read form (with_log s pool).settings s.turns refl (omega arith, lawful.turns))

pub numbers_lead : (form : Form) (s : ScenarioLists) (pool : Option ℕ) → HasLawfulSettings s →
    Leads form 2 2 (set (of_version pool) (setting.Network s.network)) (number_lines s) 10 2 (with_turns s pool)
unfolding number_lines
numbers_lead form s pool lawful =
    both_texts form 2 9 10 2 2 2 (set (of_version pool) (setting.Network s.network)) (with_log s pool) (with_turns s pool) _
    (setting_line (codes "turns") s.turns) (both_texts form 2 8 9 2 2 2 (set (of_version pool) (setting.Network s.network)) (with_keep s pool)
    (with_log s pool) _ (setting_line (codes "log") s.log) (both_texts form 2 7 8 2 2 2 (set (of_version pool) (setting.Network s.network))
    (with_bounces s pool) (with_keep s pool) _ (setting_line (codes "keep") s.keep) (both_texts form 2 6 7 2 2 2
    (set (of_version pool) (setting.Network s.network)) (with_tries s pool) (with_bounces s pool) _ (setting_line (codes "bounces") s.bounces)
    (both_texts form 2 5 6 2 2 2 (set (of_version pool) (setting.Network s.network)) (with_channels s pool) (with_tries s pool) _
    (setting_line (codes "tries") s.tries) (both_texts form 2 4 5 2 2 2 (set (of_version pool) (setting.Network s.network)) (with_frames s pool)
    (with_channels s pool) _ (setting_line (codes "channels") s.channels) (both_texts form 2 3 4 2 2 2 (set (of_version pool) (setting.Network s.network))
    (with_nodes s pool) (with_frames s pool) (setting_line (codes "nodes") s.nodes) (setting_line (codes "frames") s.frames)
    (nodes_leads form s pool lawful) (frames_leads form s pool lawful)) (channels_leads form s pool lawful)) (tries_leads form s pool lawful))
    (bounces_leads form s pool lawful)) (keep_leads form s pool lawful)) (log_leads form s pool lawful)) (turns_leads form s pool lawful)

-- all settings are said
abbrev pub all_set : ScenarioLists → Option ℕ → Said
all_set s pool = record nothing { version = version_said pool; settings = record (settings_said s) { pool = pool } }

pub pool_leads : (form : Form) (s : ScenarioLists) (pool : Option ℕ) → IfSome pool (λ pool. pool ≤ 32) →
    Leads form 10 2 (with_turns s pool) (pool_line pool) (version_number pool + 9) 2 (all_set s pool)
unfolding head_of setting_name_of
pool_leads form s None h = λ rest r goes. goes
pool_leads form s (Some pool) h =
    number_leads form 10 (with_turns s (Some pool)) (codes "pool") pool name.Pool (setting.Pool pool) refl refl refl (omega (arith, h))
    (pool_read form (with_turns s (Some pool)).settings pool refl (omega arith, h))
