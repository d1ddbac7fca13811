-- Each kind of line says something lawful: sections 1 to 3.
use Rattle.std.proofs.Common.{◌≡◌, ◌≢◌, ℕ, Bool, true, false, List, [], ◌∷◌, length, Option, Some, None, Ok, Err, refl, arith}
use Rattle.std.specs.Prelude.{◌==◌, ◌||◌, nat_lt, is_some, IsTrue, codes, count_by}
use Rattle.std.specs.List.{All, AllPairs, list_any}
use Rattle.std.specs.Option.{unwrap_or}
use Rattle.std.specs.Str.{bytes_eq}
use Rattle.std.proofs.lemmas.Bool.Decides.{nat_tests}
use Rattle.std.proofs.lemmas.List.Elements.{All-nil, All-cons, All-weaker}
use Rattle.std.proofs.lemmas.List.Kept.{AllPairs-cons}
use Rattle.std.proofs.lemmas.Bool.{or_parts, ltb-true}
use Rattle.am_lemmas.proofs.Lists.{none_passes}
use Rattle.am_lemmas.proofs.Options.{not_some-None}
use Rattle.am_lexer.specs.declared.what.What.TheVariants.{UnknownWord, OutOfRange, Twice, TooMany}
use Rattle.am_lexer.specs.Fields.{word_at, within, ended}
use Rattle.am_names.specs.declared.EndpointId.{EndpointId}
use Rattle.am_names.specs.declared.NodeId.{NodeId}
use Rattle.am_scenario_plan.specs.declared.plan.LinkFault.{LinkFault}
use Rattle.am_scenario_plan.specs.declared.plan.LinkFault.TheVariants.{Lose, Repeat, Late}
use Rattle.am_scenario_types.specs.declared.parts.Form.{Form}
use Rattle.am_scenario_types.specs.declared.parts.Form.TheVariants.{Step, Run}
use Rattle.am_scenario_types.specs.declared.parts.Network.{Network}
use Rattle.am_scenario_types.specs.declared.parts.Network.TheVariants.{Direct, Packet}
use Rattle.am_scenario_types.specs.Lawful.{IsWithin, IsOn, IsLawfulFault}
use Rattle.am_scenario.specs.declared.drafts.settings.Settings.{Settings}
use Rattle.am_scenario.specs.declared.drafts.settings.Setting.TheVariants as setting
use Rattle.am_scenario.specs.declared.drafts.line.Line.{Line}
use Rattle.am_scenario.specs.declared.drafts.line.Line.TheVariants as line
use Rattle.am_scenario.specs.Drafts.Said.{Said, end_of, thread_of, bundle_of, is_planned, is_faulty}
use Rattle.am_scenario.specs.declared.lines.head.SettingName.{SettingName}
use Rattle.am_scenario.specs.declared.lines.head.SettingName.TheVariants.{Network as NetworkWord, Nodes, Frames, Channels, Tries, Bounces, Pool, Keep, Log}
use Rattle.am_scenario.specs.declared.lines.head.SettingName.TheVariants.{Turns}
use Rattle.am_scenario.specs.Lines.Places.{node_at, end_word, tag_at}
use Rattle.am_scenario.specs.Lines.Settings.{version_of, version_line, once_within, network_of as network_word, network_setting, setting_line}
use Rattle.am_scenario.specs.Lines.Declarations.{disk_at, endpoint_line, thread_line, link_fault_at, plan_line, swap_fault_line, mask_at, members, has_twice}
use Rattle.am_scenario.specs.Lines.Declarations.{bundle_line}
use Rattle.am_scenario.specs.LineLaws.LineLaws.{network_of, Kind, OfVersion, OfDeclaration, OfPlan, kind_said, IsNetworkOf, IsLawfulSetting, IsLawfulLine}
use Rattle.am_scenario.proofs.Meets.{Meets, refuses, gives, bind, test, anything}
use Rattle.am_scenario.proofs.Words.{is_within, a_node, a_tag, an_end_word}

-- lawful, and of this kind
abbrev pub Says : Form → Said → Kind → Line → Type 0
Says form said kind says = (kind_said says ≡ kind) × IsLawfulLine form said says

-- ---- tests

pub differ : (a b : ℕ) → (a == b) ≡ false → b ≢ a
differ a b e = grind (arith, nat_tests)

-- ---- sections 1 and 2

pub a_version : (form : Form) (said : Said) (words : List (List ℕ)) → Meets (Says form said OfVersion) (version_line said words)
unfolding version_line
a_version form said words =
    bind (within 1 2 words) _ (anything (within 1 2 words)) (λ version _.
    bind (ended version.1) _ (anything (ended version.1)) (λ _ _.
    test (is_some said.version) _ _ (λ e. refuses (Says form said OfVersion) Twice) (λ e. gives (Says form said OfVersion) (line.Version (version_of version.0))
    (refl, tt))))

once : (low high : ℕ) (stood : Option ℕ) (words : List (List ℕ)) → Meets (λ n. IsWithin low high n) (once_within low high stood words)
unfolding once_within
once low high stood words =
    bind (within low high words) _ (is_within low high words) (λ n h.
    bind (ended n.1) _ (anything (ended n.1)) (λ _ _.
    test (is_some stood) _ _ (λ e. refuses (λ n. IsWithin low high n) Twice) (λ e. gives (λ n. IsWithin low high n) n.0 h)))

a_network_word : (form : Form) (word : List ℕ) → Meets (λ n. IsNetworkOf form n) (network_word form word)
unfolding network_word
a_network_word Step word = record { holds = λ n e. tt }
a_network_word Run word =
    test (bytes_eq word (codes "direct")) _ _ (λ e. refuses (λ (n : Network). n ≡ Packet) OutOfRange) (λ e.
    test (bytes_eq word (codes "packet")) _ _ (λ e. gives (λ (n : Network). n ≡ Packet) Packet refl) (λ e. refuses (λ (n : Network). n ≡ Packet) UnknownWord))

a_network : (form : Form) (stood : Option Network) (words : List (List ℕ)) → Meets (λ n. IsNetworkOf form n) (network_setting form stood words)
unfolding network_setting
a_network form stood words =
    bind (word_at words) _ (anything (word_at words)) (λ word _.
    bind (network_word form word.0) _ (a_network_word form word.0) (λ network h.
    bind (ended word.1) _ (anything (ended word.1)) (λ _ _.
    test (is_some stood) _ _ (λ e. refuses (λ n. IsNetworkOf form n) Twice) (λ e. gives (λ n. IsNetworkOf form n) network h))))

pub a_setting : (form : Form) (settings : Settings) (name : SettingName) (words : List (List ℕ)) →
    Meets (IsLawfulSetting form) (setting_line form settings name words)
unfolding setting_line
a_setting form settings NetworkWord words = bind (network_setting form settings.network words) _ (a_network form settings.network words)
    (λ n h. gives (IsLawfulSetting form) (setting.Network n) h)
a_setting form settings Nodes words = bind (once_within 1 16 settings.nodes words) _ (once 1 16 settings.nodes words)
    (λ n h. gives (IsLawfulSetting form) (setting.Nodes n) h)
a_setting form settings Frames words = bind (once_within 2 16 settings.frames words) _ (once 2 16 settings.frames words)
    (λ n h. gives (IsLawfulSetting form) (setting.Frames n) h)
a_setting form settings Channels words = bind (once_within 1 4 settings.channels words) _ (once 1 4 settings.channels words)
    (λ n h. gives (IsLawfulSetting form) (setting.Channels n) h)
a_setting form settings Tries words = bind (once_within 2 16 settings.tries words) _ (once 2 16 settings.tries words)
    (λ n h. gives (IsLawfulSetting form) (setting.Tries n) h)
a_setting form settings Bounces words = bind (once_within 0 16 settings.bounces words) _ (once 0 16 settings.bounces words)
    (λ n h. gives (IsLawfulSetting form) (setting.Bounces n) h.1)
a_setting form settings Pool words = bind (once_within 0 32 settings.pool words) _ (once 0 32 settings.pool words)
    (λ n h. gives (IsLawfulSetting form) (setting.Pool n) h.1)
a_setting form settings Keep words = bind (once_within 0 64 settings.keep words) _ (once 0 64 settings.keep words)
    (λ n h. gives (IsLawfulSetting form) (setting.Keep n) h.1)
a_setting form settings Log words = bind (once_within 1 65_536 settings.log words) _ (once 1 65_536 settings.log words)
    (λ n h. gives (IsLawfulSetting form) (setting.Log n) h)
a_setting form settings Turns words = bind (once_within 0 10_000 settings.turns words) _ (once 0 10_000 settings.turns words)
    (λ n h. gives (IsLawfulSetting form) (setting.Turns n) h.1)

-- ---- section 3

on_packets : (words : List (List ℕ)) (network : Option Network)
    → Meets (λ (disk : Bool × List (List ℕ)). IsTrue disk.0 →
    unwrap_or network Direct ≡ Packet) (elim network [ Some Packet ↦ Ok (true, words) | _ ↦ Err OutOfRange ])
on_packets words (Some Packet) = gives (λ (disk : Bool × List (List ℕ)). IsTrue disk.0 → unwrap_or (Some Packet) Direct ≡ Packet) (true, words) (λ _. refl)
on_packets words (Some Direct) = refuses (λ (disk : Bool × List (List ℕ)). IsTrue disk.0 → unwrap_or (Some Direct) Direct ≡ Packet) OutOfRange
on_packets words None = refuses (λ (disk : Bool × List (List ℕ)). IsTrue disk.0 → unwrap_or None Direct ≡ Packet) OutOfRange

a_disk : (settings : Settings) (words : List (List ℕ)) → Meets (λ (disk : Bool × List (List ℕ)). IsTrue disk.0 →
    network_of settings ≡ Packet) (disk_at settings words)
unfolding disk_at
a_disk settings [] = gives (λ (disk : Bool × List (List ℕ)). IsTrue disk.0 → network_of settings ≡ Packet) (false, []) (λ h. absurd (cc))
a_disk settings (word ∷ words) =
    test (bytes_eq word (codes "disk")) _ _ (λ e. on_packets words settings.network) (λ e. refuses (λ (disk : Bool × List (List ℕ)). IsTrue disk.0 →
    network_of settings ≡ Packet) UnknownWord)

pub an_endpoint : (form : Form) (said : Said) (words : List (List ℕ)) → Meets (Says form said OfDeclaration) (endpoint_line said words)
unfolding endpoint_line
an_endpoint form said words =
    bind (within 0 255 words) _ (is_within 0 255 words) (λ id id_in.
    bind (node_at said.settings id.1) _ (a_node said.settings id.1) (λ node node_in.
    bind (tag_at node.1) _ (a_tag node.1) (λ tag tag_in.
    bind (disk_at said.settings tag.1) _ (a_disk said.settings tag.1) (λ disk disk_in.
    bind (ended disk.1) _ (anything (ended disk.1)) (λ _ _.
    test (is_some (end_of said id.0)) _ _ (λ e. refuses (Says form said OfDeclaration) Twice) (λ new.
    test (nat_lt (count_by (λ end. end.node.0 == node.0.0) said.ends) 64) _ _
    (λ room. gives (Says form said OfDeclaration) (line.End (record { id = record { 0 = id.0 }; node = node.0; tag = tag.0; disk = disk.0 }))
    (refl, (record { id = id_in.1; node = node_in; tag = tag_in; disk = disk_in }, not_some-None (end_of said id.0) new, ltb-true _ _ room)))
    (λ full. refuses (Says form said OfDeclaration) TooMany)))))))

pub a_thread : (form : Form) (said : Said) (words : List (List ℕ)) → Meets (Says form said OfDeclaration) (thread_line said words)
unfolding thread_line
a_thread form said words =
    bind (within 0 63 words) _ (is_within 0 63 words) (λ id id_in.
    bind (node_at said.settings id.1) _ (a_node said.settings id.1) (λ node node_in.
    bind (ended node.1) _ (anything (ended node.1)) (λ _ _.
    test (is_some (thread_of said id.0)) _ _ (λ e. refuses (Says form said OfDeclaration) Twice) (λ new.
    test (nat_lt (count_by (λ thread. thread.node.0 == node.0.0) said.threads) 4) _ _
    (λ room. gives (Says form said OfDeclaration) (line.Thread (record { id = id.0; node = node.0 }))
    (refl, (record { id = id_in.1; node = node_in }, not_some-None (thread_of said id.0) new, ltb-true _ _ room)))
    (λ full. refuses (Says form said OfDeclaration) TooMany)))))

a_link_fault : (words : List (List ℕ)) → Meets (λ (fault : LinkFault × List (List ℕ)). IsLawfulFault fault.0) (link_fault_at words)
unfolding link_fault_at
a_link_fault words =
    let Good : (LinkFault × List (List ℕ)) → Type 0 = λ fault. IsLawfulFault fault.0 in
    bind (word_at words) _ (anything (word_at words)) (λ word _.
    test (bytes_eq word.0 (codes "lose")) _ _ (λ e. gives Good (Lose, word.1) tt) (λ e1.
    test (bytes_eq word.0 (codes "repeat")) _ _ (λ e. gives Good (Repeat, word.1) tt) (λ e2.
    test (bytes_eq word.0 (codes "late")) _ _ (λ e.
    bind (within 1 16 word.1) _ (is_within 1 16 word.1) (λ by h. gives Good (Late by.0, by.1) h)) (λ e3. refuses Good UnknownWord))))

pub a_plan_line : (form : Form) (said : Said) (words : List (List ℕ)) → Meets (Says form said OfPlan) (plan_line said words)
unfolding plan_line
a_plan_line form said words =
    bind (node_at said.settings words) _ (a_node said.settings words) (λ from from_in.
    bind (node_at said.settings from.1) _ (a_node said.settings from.1) (λ to to_in.
    bind (within 1 65_536 to.1) _ (is_within 1 65_536 to.1) (λ number number_in.
    bind (link_fault_at number.1) _ (a_link_fault number.1) (λ fault fault_in.
    bind (ended fault.1) _ (anything (ended fault.1)) (λ _ _.
    test (is_planned said.plan from.0 to.0 number.0) _ _ (λ e. refuses (Says form said OfPlan) Twice) (λ new.
    test (nat_lt (length said.plan) 4096) _ _
    (λ room. gives (Says form said OfPlan) (line.Plan (record { from = from.0; to = to.0; number = number.0; fault = fault.0 }))
    (refl, (record { from = from_in; to = to_in; number = number_in; fault = fault_in }, new, ltb-true _ _ room)))
    (λ full. refuses (Says form said OfPlan) TooMany)))))))

pub a_swap_fault : (form : Form) (said : Said) (words : List (List ℕ)) → Meets (Says form said OfDeclaration) (swap_fault_line said words)
unfolding swap_fault_line
a_swap_fault form said words =
    bind (node_at said.settings words) _ (a_node said.settings words) (λ node node_in.
    bind (within 1 65_536 node.1) _ (is_within 1 65_536 node.1) (λ number number_in.
    bind (ended number.1) _ (anything (ended number.1)) (λ _ _.
    test (is_faulty said.faults node.0 number.0) _ _ (λ e. refuses (Says form said OfDeclaration) Twice) (λ new.
    test (nat_lt (length said.faults) 64) _ _
    (λ room. gives (Says form said OfDeclaration) (line.Fault (record { node = node.0; number = number.0 }))
    (refl, (record { node = node_in; number = number_in }, new, ltb-true _ _ room)))
    (λ full. refuses (Says form said OfDeclaration) TooMany)))))

-- ---- bundles

all_members : (said : Said) (node : NodeId) (words : List (List ℕ)) → Meets (λ ids. All (IsOn said.ends node) ids) (members said node words)
unfolding members
all_members said node [] = gives (λ ids. All (IsOn said.ends node) ids) [] (All-nil (IsOn said.ends node))
all_members said node (word ∷ words) =
    bind (end_word said (Some node) word) _ (an_end_word said (Some node) word) (λ end h.
    bind (members said node words) _ (all_members said node words) (λ others k.
    gives (λ ids. All (IsOn said.ends node) ids) (end.id ∷ others) (All-cons (IsOn said.ends node) end.id others h.1 k)))

all_once : (ids : List EndpointId) → has_twice ids ≡ false → AllPairs (λ a b. a.0 ≢ b.0) ids
unfolding has_twice
all_once [] e = λ i j d below within. absurd (omega arith)
all_once (id ∷ ids) e =
    let parts = or_parts (list_any (λ other. other.0 == id.0) ids) (has_twice ids) e in
    AllPairs-cons (λ a b. a.0 ≢ b.0) id ids
    (All-weaker (λ other. (other.0 == id.0) ≡ false) (λ other. id.0 ≢ other.0) (λ other h. differ other.0 id.0 h) ids
    (none_passes (λ other. other.0 == id.0) ids parts.0))
    (all_once ids parts.1)

pub a_bundle_line : (form : Form) (said : Said) (words : List (List ℕ)) → Meets (Says form said OfDeclaration) (bundle_line said words)
unfolding bundle_line
a_bundle_line form said words =
    bind (within 0 63 words) _ (is_within 0 63 words) (λ id id_in.
    bind (mask_at id.1) _ (anything (mask_at id.1)) (λ mask _.
    bind (word_at mask.1) _ (anything (word_at mask.1)) (λ word _.
    bind (end_word said None word.0) _ (an_end_word said None word.0) (λ first first_in.
    bind (members said first.node word.1) _ (all_members said first.node word.1) (λ others others_in.
    test (is_some (bundle_of said id.0) || has_twice (first.id ∷ others)) _ _ (λ e. refuses (Says form said OfDeclaration) Twice) (λ new.
    let parts = or_parts (is_some (bundle_of said id.0)) (has_twice (first.id ∷ others)) new in
    gives (Says form said OfDeclaration) (line.Bundle (record { id = id.0; mask = mask.0; members = first.id ∷ others })) (
      refl,
      (
        record {
          id = id_in.1;
          members = (first.node, All-cons (IsOn said.ends first.node) first.id others first_in.0 others_in);
          some_member = omega arith;
          once = all_once (first.id ∷ others) parts.1;
        },
        not_some-None (bundle_of said id.0) parts.0,
      ),
    )))))))
