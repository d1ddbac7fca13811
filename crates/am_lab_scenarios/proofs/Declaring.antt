-- Each line of section 3 is read as what it was printed of.
use Rattle.std.proofs.Common.{◌≡◌, ◌≢◌, ℕ, suc, ◌+◌, ◌≤◌, ◌<◌, ◌^◌, Bool, true, false, eqb, ltb, ◌&&◌, List, [], ◌∷◌, ◌++◌, length, Some, None, Ok, refl, sym}
use Rattle.std.proofs.Common.{ap, subst, inl, inr, arith}
use Rattle.std.specs.Prelude.{codes, find, count_by}
use Rattle.std.specs.Fmt.{decimal}
use Rattle.std.specs.List.{All, AllPairs, list_any, list_all}
use Rattle.std.proofs.lemmas.Bool.{ne_eqb, eqb-true, lt-ltb, cases_Bool, and_parts, eq-eqb}
use Rattle.std.proofs.lemmas.List.Elements.{All-head, All-tail, All-weaker}
use Rattle.std.proofs.lemmas.List.Folds.{list_any_none}
use Rattle.am_lexer.specs.Fields.{word_at, ended}
use Rattle.am_names.specs.declared.EndpointId.{EndpointId}
use Rattle.am_names.specs.declared.NodeId.{NodeId}
use Rattle.am_office_entries.specs.declared.Mask.{Mask}
use Rattle.am_office_entries.specs.declared.Mask.TheVariants as Masks
use Rattle.am_bundle.specs.Lists.{BundleLists}
use Rattle.am_scenario_plan.specs.declared.plan.LinkFault.{LinkFault}
use Rattle.am_scenario_plan.specs.declared.plan.LinkFault.TheVariants.{Lose, Repeat, Late}
use Rattle.am_scenario_plan.specs.declared.plan.PlanLine.{PlanLine}
use Rattle.am_office_text.specs.Words.{tag}
use Rattle.am_office_text.specs.EntryLines.Lines.{mask}
use Rattle.am_scenario_types.specs.declared.parts.Form.{Form}
use Rattle.am_scenario_types.specs.declared.parts.Form.TheVariants.{Step, Run}
use Rattle.am_scenario_types.specs.declared.parts.Network.TheVariants.{Packet}
use Rattle.am_scenario_types.specs.declared.parts.EndLine.{EndLine}
use Rattle.am_scenario_types.specs.declared.parts.ThreadLine.{ThreadLine}
use Rattle.am_scenario_types.specs.declared.parts.FaultLine.{FaultLine}
use Rattle.am_scenario_types.specs.Lists.{ScenarioLists}
use Rattle.am_scenario_types.specs.Lawful.{IsLawful, IsLawfulEnd, IsLawfulBundle, IsLawfulThread, IsLawfulPlanLine, IsLawfulFaultLine, IsLawfulFault}
use Rattle.am_scenario_types.specs.Lawful.{IsSamePlace, IsSamePageCall, IsOn}
use Rattle.am_scenario.specs.declared.drafts.settings.Settings.{Settings}
use Rattle.am_scenario.specs.declared.drafts.line.Line.TheVariants as line
use Rattle.am_scenario.specs.Drafts.Said.{Said, is_planned, is_faulty}
use Rattle.am_scenario.specs.declared.lines.head.Head.TheVariants as head
use Rattle.am_scenario.specs.Lines.Heads.{head_of, setting_name_of, declaration_of, is_of_form}
use Rattle.am_scenario.specs.Lines.Lines.{words_say}
use Rattle.am_scenario.specs.Lines.Declarations.{disk_at, endpoint_line, thread_line as read_thread_line, link_fault_at, plan_line as read_plan_line}
use Rattle.am_scenario.specs.Lines.Declarations.{swap_fault_line as read_swap_fault_line, members, has_twice, bundle_line as read_bundle_line}
use Rattle.am_lab_scenarios.specs.Spelling.Texts.{end_line, disk_words, bundle_line, member_words, thread_line, plan_line, fault_words, swap_fault_line}
use Rattle.am_lab_scenarios.proofs.Words.{is_word, number_word, tag_word}
use Rattle.am_lab_scenarios.proofs.Lists.{middle, before, none_found, counted_before, fewer}
use Rattle.am_lab_scenarios.proofs.Places.{within_here, node_here, tag_here, mask_here, end_on, end_word_here, end_with_node, id_of_found, small_id}
use Rattle.am_lab_scenarios.proofs.Heads.{after_here}
use Rattle.am_lab_scenarios.proofs.Leading.{in_section, Leads, one_line}
use Rattle.am_lab_scenarios.proofs.Standing.{standing, small_ends}

-- ---- endpoints

disk_here : (settings : Settings) (disk : Bool) → (disk ≡ true → settings.network ≡ Some Packet) → disk_at settings (disk_words disk) ≡ Ok (disk, [])
unfolding disk_at disk_words
disk_here settings true h = rw (h refl) refl
disk_here settings false h = refl

disk_is_words : (disk : Bool) → list_all is_word (disk_words disk) ≡ true
unfolding disk_words
disk_is_words true = refl
disk_is_words false = refl

endpoint_here : (said : Said) (nodes : ℕ) (end : EndLine) → said.settings.nodes ≡ Some nodes → nodes ≤ 16 → end.id.0 ≤ 255 → end.node.0 < nodes →
    end.tag.0 < 2 ^ 64 → (end.disk ≡ true → said.settings.network ≡ Some Packet)
    → find (λ other. eqb other.id.0 end.id.0) said.ends ≡ None → count_by (λ other. eqb other.node.0 end.node.0) said.ends < 64
    → endpoint_line said (decimal end.id.0 ∷ decimal end.node.0 ∷ tag end.tag ∷ disk_words end.disk) ≡ Ok (line.End end)
unfolding endpoint_line ended
endpoint_here said nodes end there few id node own disk new room =
    let roomy : ltb (count_by (λ other. eqb other.node.0 end.node.0) said.ends) 64 ≡ true = lt-ltb _ _ room in
    rw (
      within_here 0 255 end.id.0 (decimal end.node.0 ∷ tag end.tag ∷ disk_words end.disk) (omega arith, id) (omega arith),
      node_here said.settings end.node (tag end.tag ∷ disk_words end.disk) (rw there node) (rw there few),
      tag_here end.tag (disk_words end.disk) own,
      disk_here said.settings end.disk disk,
      new,
      roomy,
    ) refl

endpoint_head : (form : Form) → is_of_form form head.Endpoint ≡ true
endpoint_head Step = refl
endpoint_head Run = refl

pub end_leads : (form : Form) (s : ScenarioLists) → IsLawful s → (first : ℕ) (pre : List EndLine) (x : EndLine) (post : List EndLine) → pre ++ x ∷ post ≡ s.ends
    → Leads form (first + length pre) 3 (standing s pre [] [] [] [] [] []) (end_line x) (first + length pre + 1) 3
    (standing s (pre ++ x ∷ []) [] [] [] [] [] [])
unfolding end_line head_of setting_name_of declaration_of words_say
end_leads form s lawful first pre x post e =
    let is = middle (IsLawfulEnd s.network s.nodes) pre x post (subst (λ l. All (IsLawfulEnd s.network s.nodes) l) (sym e) lawful.ends) in
    let rise = before (λ a b. a.id.0 < b.id.0) pre x post (subst (λ l. AllPairs (λ a b. a.id.0 < b.id.0) l) (sym e) lawful.ends_rise) in
    let new : find (λ other. eqb other.id.0 x.id.0) pre ≡ None =
    none_found (λ other. eqb other.id.0 x.id.0) pre (All-weaker (λ a. a.id.0 < x.id.0) (λ a. eqb a.id.0 x.id.0 ≡ false)
    (λ a l. ne_eqb a.id.0 x.id.0 (λ same. omega arith)) pre rise) in
    let room : count_by (λ other. eqb other.node.0 x.node.0) pre < 64 =
    counted_before (λ other. eqb other.node.0 x.node.0) pre x post 64 (eq-eqb x.node.0 x.node.0 refl)
    (subst (λ l. count_by (λ other. eqb other.node.0 x.node.0) l ≤ 64) (sym e) (lawful.ends_of_a_node x.node.0)) in
    let nodes = lawful.settings.nodes.1 in
    let id = is.id in
    let node = is.node in
    let words : list_all is_word (decimal x.id.0 ∷ decimal x.node.0 ∷ tag x.tag ∷ disk_words x.disk) ≡ true =
    rw (number_word x.id.0 (omega (arith, id)), number_word x.node.0 (omega (arith, node, nodes)), tag_word x.tag is.tag, disk_is_words x.disk) refl in
    one_line form (first + length pre) 3 (standing s pre [] [] [] [] [] []) (codes "endpoint") _ (standing s (pre ++ x ∷ []) [] [] [] [] [] []) (omega arith)
    refl words (λ at low high.
    after_here form _ (in_section (standing s pre [] [] [] [] [] []) at) (codes "endpoint") _ head.Endpoint 3 (line.End x) refl refl refl low high
    (endpoint_head form) refl
    (endpoint_here (in_section (standing s pre [] [] [] [] [] []) at) s.nodes x refl nodes id node is.tag (λ disk. ap (λ n. Some n) (is.disk disk)) new room))

-- ---- bundles

members_here : (said : Said) (node : NodeId) (ms : List EndpointId) → All (λ end. end.id.0 ≤ 255) said.ends → All (IsOn said.ends node) ms →
    members said node (member_words ms) ≡ Ok ms
unfolding members
members_here said node [] small all = refl
members_here said node (m ∷ ms) small all =
    let at = end_on said.ends node m (All-head (IsOn said.ends node) m ms all) in
    let others = members_here said node ms small (All-tail (IsOn said.ends node) m ms all) in
    rw (end_word_here said (Some node) m (small_id said.ends (Some node) m small at) at, others, id_of_found said.ends m at.0 at.1) refl

never_twice : (ms : List EndpointId) → AllPairs (λ a b. a.0 ≢ b.0) ms → has_twice ms ≡ false
unfolding has_twice
never_twice [] h = refl
never_twice (m ∷ ms) h =
    let first : list_any (λ other. eqb other.0 m.0) ms ≡ false =
    list_any_none (λ (other : EndpointId). eqb other.0 m.0) ms (λ k d lt. ne_eqb _ m.0 (λ same. h 0 (suc k) d (omega arith) (omega arith) (sym same))) in
    rw (first, never_twice ms (λ i j d lt within. h (suc i) (suc j) d (omega arith) (omega arith))) refl

bundle_words_here : (said : Said) (id : ℕ) (m : Mask) (ms : List EndpointId) (node : NodeId) → id ≤ 63 → All (λ end. end.id.0 ≤ 255) said.ends →
    All (IsOn said.ends node) ms → 0 < length ms → AllPairs (λ a b. a.0 ≢ b.0) ms
    → find (λ bundle. eqb bundle.id id) said.bundles ≡ None →
    read_bundle_line said (decimal id ∷ mask m ∷ member_words ms) ≡ Ok (line.Bundle (record { id = id; mask = m; members = ms }))
unfolding read_bundle_line word_at
bundle_words_here said id m [] node low small all some once new = absurd (omega arith)
bundle_words_here said id m (first ∷ ms) node low small all some once new =
    let at = end_with_node said.ends node first (All-head (IsOn said.ends node) first ms all) in
    let read = end_word_here said None first (small_id said.ends None first small (at.0, at.1, refl)) (at.0, at.1, refl) in
    let others = members_here said node ms small (All-tail (IsOn said.ends node) first ms all) in
    rw (
      within_here 0 63 id (mask m ∷ member_words (first ∷ ms)) (omega arith, low) (omega arith),
      mask_here m (member_words (first ∷ ms)),
      read,
      at.2,
      others,
      id_of_found said.ends first at.0 at.1,
      new,
      never_twice (first ∷ ms) once,
    ) refl

pub mask_is_word : (m : Mask) → is_word (mask m) ≡ true
unfolding mask
mask_is_word Masks.NoEvents = refl
mask_is_word Masks.NotEmpty = refl

members_are_words : (ends : List EndLine) (node : NodeId) (ms : List EndpointId) → All (λ end. end.id.0 ≤ 255) ends → All (IsOn ends node) ms →
    list_all is_word (member_words ms) ≡ true
members_are_words ends node [] small all = refl
members_are_words ends node (m ∷ ms) small all =
    rw (
      number_word m.0 (small_id ends (Some node) m small (end_on ends node m (All-head (IsOn ends node) m ms all))),
      members_are_words ends node ms small (All-tail (IsOn ends node) m ms all),
    ) refl

bundle_head : (form : Form) → is_of_form form head.Bundle ≡ true
bundle_head Step = refl
bundle_head Run = refl

pub bundle_leads : (form : Form) (s : ScenarioLists) → IsLawful s → (first : ℕ) (pre : List BundleLists) (x : BundleLists) (post : List BundleLists) →
    pre ++ x ∷ post ≡ s.bundles
    → Leads form (first + length pre) 3 (standing s s.ends pre [] [] [] [] []) (bundle_line x) (first + length pre + 1) 3
    (standing s s.ends (pre ++ x ∷ []) [] [] [] [] [])
unfolding bundle_line head_of setting_name_of declaration_of words_say
bundle_leads form s lawful first pre x post e =
    let is = middle (IsLawfulBundle s.ends) pre x post (subst (λ l. All (IsLawfulBundle s.ends) l) (sym e) lawful.bundles) in
    let apart = before (λ a b. a.id ≢ b.id) pre x post (subst (λ l. AllPairs (λ a b. a.id ≢ b.id) l) (sym e) lawful.bundles_once) in
    let new : find (λ other. eqb other.id x.id) pre ≡ None = none_found (λ other. eqb other.id x.id) pre
    (All-weaker (λ a. a.id ≢ x.id) (λ a. eqb a.id x.id ≡ false) (λ a l. ne_eqb a.id x.id l) pre apart) in
    let small = small_ends s lawful in
    let id = is.id in
    let words : list_all is_word (decimal x.id ∷ mask x.mask ∷ member_words x.members) ≡ true =
    rw (number_word x.id (omega (arith, id)), mask_is_word x.mask, members_are_words s.ends is.members.0 x.members small is.members.1) refl in
    one_line form (first + length pre) 3 (standing s s.ends pre [] [] [] [] []) (codes "bundle") _ (standing s s.ends (pre ++ x ∷ []) [] [] [] [] [])
    (omega arith) refl words (λ at low high.
    after_here form _ (in_section (standing s s.ends pre [] [] [] [] []) at) (codes "bundle") _ head.Bundle 3 (line.Bundle x) refl refl refl low high
    (bundle_head form) refl
    (bundle_words_here (in_section (standing s s.ends pre [] [] [] [] []) at) x.id x.mask x.members is.members.0 id small is.members.1 is.some_member is.once
    new))

-- ---- threads

thread_here : (said : Said) (nodes : ℕ) (thread : ThreadLine) → said.settings.nodes ≡ Some nodes → nodes ≤ 16 → thread.id ≤ 63 → thread.node.0 < nodes
    → find (λ other. eqb other.id thread.id) said.threads ≡ None → count_by (λ other. eqb other.node.0 thread.node.0) said.threads < 4
    → read_thread_line said (decimal thread.id ∷ decimal thread.node.0 ∷ []) ≡ Ok (line.Thread thread)
unfolding read_thread_line ended
thread_here said nodes thread there few id node new room =
    let roomy : ltb (count_by (λ other. eqb other.node.0 thread.node.0) said.threads) 4 ≡ true = lt-ltb _ _ room in
    rw (
      within_here 0 63 thread.id (decimal thread.node.0 ∷ []) (omega arith, id) (omega arith),
      node_here said.settings thread.node [] (rw there node) (rw there few),
      new,
      roomy,
    ) refl

thread_head : (form : Form) → is_of_form form head.Thread ≡ true
thread_head Step = refl
thread_head Run = refl

pub thread_leads : (form : Form) (s : ScenarioLists) → IsLawful s → (first : ℕ) (pre : List ThreadLine) (x : ThreadLine) (post : List ThreadLine) →
    pre ++ x ∷ post ≡ s.threads
    → Leads form (first + length pre) 3 (standing s s.ends s.bundles pre [] [] [] []) (thread_line x) (first + length pre + 1) 3
    (standing s s.ends s.bundles (pre ++ x ∷ []) [] [] [] [])
unfolding thread_line head_of setting_name_of declaration_of words_say
thread_leads form s lawful first pre x post e =
    let is = middle (IsLawfulThread s.nodes) pre x post (subst (λ l. All (IsLawfulThread s.nodes) l) (sym e) lawful.threads) in
    let rise = before (λ a b. a.id < b.id) pre x post (subst (λ l. AllPairs (λ a b. a.id < b.id) l) (sym e) lawful.threads_rise) in
    let new : find (λ other. eqb other.id x.id) pre ≡ None = none_found (λ other. eqb other.id x.id) pre
    (All-weaker (λ a. a.id < x.id) (λ a. eqb a.id x.id ≡ false) (λ a l. ne_eqb a.id x.id (λ same. omega arith)) pre rise) in
    let room : count_by (λ other. eqb other.node.0 x.node.0) pre < 4 =
    counted_before (λ other. eqb other.node.0 x.node.0) pre x post 4 (eq-eqb x.node.0 x.node.0 refl)
    (subst (λ l. count_by (λ other. eqb other.node.0 x.node.0) l ≤ 4) (sym e) (lawful.threads_of_a_node x.node.0)) in
    let nodes = lawful.settings.nodes.1 in
    let id = is.id in
    let node = is.node in
    let words : list_all is_word (decimal x.id ∷ decimal x.node.0 ∷ []) ≡ true = rw (
      number_word x.id (omega (arith, id)),
      number_word x.node.0 (omega (arith, node, nodes)),
    ) refl in
    one_line form (first + length pre) 3 (standing s s.ends s.bundles pre [] [] [] []) (codes "thread") _
    (standing s s.ends s.bundles (pre ++ x ∷ []) [] [] [] []) (omega arith) refl words (λ at low high.
    after_here form _ (in_section (standing s s.ends s.bundles pre [] [] [] []) at) (codes "thread") _ head.Thread 3 (line.Thread x) refl refl refl low high
    (thread_head form) refl
    (thread_here (in_section (standing s s.ends s.bundles pre [] [] [] []) at) s.nodes x refl nodes id node new room))

-- ---- plan lines

fault_here : (fault : LinkFault) → IsLawfulFault fault → link_fault_at (fault_words fault) ≡ Ok (fault, [])
unfolding link_fault_at fault_words word_at
fault_here Lose h = refl
fault_here Repeat h = refl
fault_here (Late by) h = rw (within_here 1 16 by [] h (omega (arith, h.1))) refl

fault_is_words : (fault : LinkFault) → IsLawfulFault fault → list_all is_word (fault_words fault) ≡ true
unfolding fault_words
fault_is_words Lose h = refl
fault_is_words Repeat h = refl
fault_is_words (Late by) h = rw (number_word by (omega (arith, h.1))) refl

plan_here : (said : Said) (nodes : ℕ) (planned : PlanLine) → said.settings.nodes ≡ Some nodes → nodes ≤ 16 → IsLawfulPlanLine nodes planned →
    is_planned said.plan planned.from planned.to planned.number ≡ false → length said.plan < 4096
    → read_plan_line said (decimal planned.from.0 ∷ decimal planned.to.0 ∷ decimal planned.number ∷ fault_words planned.fault) ≡ Ok (line.Plan planned)
unfolding read_plan_line ended
plan_here said nodes planned there few is new room =
    let roomy : ltb (length said.plan) 4096 ≡ true = lt-ltb (length said.plan) 4096 room in
    let most = is.number.1 in
    rw (
      node_here said.settings planned.from (decimal planned.to.0 ∷ decimal planned.number ∷ fault_words planned.fault) (rw there is.from) (rw there few),
      node_here said.settings planned.to (decimal planned.number ∷ fault_words planned.fault) (rw there is.to) (rw there few),
      within_here 1 65_536 planned.number (fault_words planned.fault) is.number (omega (arith, most)),
      fault_here planned.fault is.fault,
      new,
      roomy,
    ) refl

abbrev is_same_place : PlanLine → PlanLine → Bool
is_same_place x a = (eqb a.from.0 x.from.0) && (eqb a.to.0 x.to.0) && (eqb a.number x.number)

other_place : (x a : PlanLine) → ¬ IsSamePlace a x → is_same_place x a ≡ false
other_place x a apart = elim (cases_Bool (is_same_place x a)) [
  | inl t ↦
      let p = and_parts _ _ t in
      let q = and_parts _ _ p.0 in
      absurd (apart (eqb-true a.from.0 x.from.0 q.0, eqb-true a.to.0 x.to.0 q.1, eqb-true a.number x.number p.1))
  | inr f ↦ f
]

pub plan_leads : (s : ScenarioLists) → IsLawful s → (first : ℕ) (pre : List PlanLine) (x : PlanLine) (post : List PlanLine) → pre ++ x ∷ post ≡ s.plan
    → Leads Run (first + length pre) 3 (standing s s.ends s.bundles s.threads pre [] [] []) (plan_line x) (first + length pre + 1) 3
    (standing s s.ends s.bundles s.threads (pre ++ x ∷ []) [] [] [])
unfolding plan_line head_of setting_name_of declaration_of words_say
plan_leads s lawful first pre x post e =
    let is = middle (IsLawfulPlanLine s.nodes) pre x post (subst (λ l. All (IsLawfulPlanLine s.nodes) l) (sym e) lawful.plan) in
    let apart = before (λ a b. ¬ IsSamePlace a b) pre x post (subst (λ l. AllPairs (λ a b. ¬ IsSamePlace a b) l) (sym e) lawful.plan_once) in
    let new : is_planned pre x.from x.to x.number ≡ false = list_any_none (is_same_place x) pre
    (All-weaker (λ a. ¬ IsSamePlace a x) (λ a. is_same_place x a ≡ false) (other_place x) pre apart) in
    let room : length pre < 4096 = fewer pre x post 4096 (subst (λ l. length l ≤ 4096) (sym e) lawful.plan_lines) in
    let nodes = lawful.settings.nodes.1 in
    let from = is.from in
    let to = is.to in
    let most = is.number.1 in
    let words : list_all is_word (decimal x.from.0 ∷ decimal x.to.0 ∷ decimal x.number ∷ fault_words x.fault) ≡ true =
    rw (
      number_word x.from.0 (omega (arith, from, nodes)),
      number_word x.to.0 (omega (arith, to, nodes)),
      number_word x.number (omega (arith, most)),
      fault_is_words x.fault is.fault,
    ) refl in
    one_line Run (first + length pre) 3 (standing s s.ends s.bundles s.threads pre [] [] []) (codes "plan") _
    (standing s s.ends s.bundles s.threads (pre ++ x ∷ []) [] [] []) (omega arith) refl words (λ at low high.
    after_here Run _ (in_section (standing s s.ends s.bundles s.threads pre [] [] []) at) (codes "plan") _ head.Plan 3 (line.Plan x) refl refl refl low high
    refl refl
    (plan_here (in_section (standing s s.ends s.bundles s.threads pre [] [] []) at) s.nodes x refl nodes is new room))

-- ---- swap faults

swap_fault_here : (said : Said) (nodes : ℕ) (fault : FaultLine) → said.settings.nodes ≡ Some nodes → nodes ≤ 16 → IsLawfulFaultLine nodes fault →
    is_faulty said.faults fault.node fault.number ≡ false → length said.faults < 64
    → read_swap_fault_line said (decimal fault.node.0 ∷ decimal fault.number ∷ []) ≡ Ok (line.Fault fault)
unfolding read_swap_fault_line ended
swap_fault_here said nodes fault there few is new room =
    let roomy : ltb (length said.faults) 64 ≡ true = lt-ltb (length said.faults) 64 room in
    let most = is.number.1 in
    rw (
      node_here said.settings fault.node (decimal fault.number ∷ []) (rw there is.node) (rw there few),
      within_here 1 65_536 fault.number [] is.number (omega (arith, most)),
      new,
      roomy,
    ) refl

abbrev is_same_call : FaultLine → FaultLine → Bool
is_same_call x a = (eqb a.node.0 x.node.0) && (eqb a.number x.number)

other_call : (x a : FaultLine) → ¬ IsSamePageCall a x → is_same_call x a ≡ false
other_call x a apart = elim (cases_Bool (is_same_call x a)) [
  | inl t ↦ let p = and_parts _ _ t in absurd (apart (eqb-true a.node.0 x.node.0 p.0, eqb-true a.number x.number p.1))
  | inr f ↦ f
]

swap_fault_head : (form : Form) → is_of_form form head.SwapFault ≡ true
swap_fault_head Step = refl
swap_fault_head Run = refl

pub swap_fault_leads : (form : Form) (s : ScenarioLists) → IsLawful s → (first : ℕ) (pre : List FaultLine) (x : FaultLine) (post : List FaultLine) →
    pre ++ x ∷ post ≡ s.faults
    → Leads form (first + length pre) 3 (standing s s.ends s.bundles s.threads s.plan pre [] []) (swap_fault_line x) (first + length pre + 1) 3
    (standing s s.ends s.bundles s.threads s.plan (pre ++ x ∷ []) [] [])
unfolding swap_fault_line head_of setting_name_of declaration_of words_say
swap_fault_leads form s lawful first pre x post e =
    let is = middle (IsLawfulFaultLine s.nodes) pre x post (subst (λ l. All (IsLawfulFaultLine s.nodes) l) (sym e) lawful.faults) in
    let apart = before (λ a b. ¬ IsSamePageCall a b) pre x post (subst (λ l. AllPairs (λ a b. ¬ IsSamePageCall a b) l) (sym e) lawful.faults_once) in
    let new : is_faulty pre x.node x.number ≡ false = list_any_none (is_same_call x) pre
    (All-weaker (λ a. ¬ IsSamePageCall a x) (λ a. is_same_call x a ≡ false) (other_call x) pre apart) in
    let room : length pre < 64 = fewer pre x post 64 (subst (λ l. length l ≤ 64) (sym e) lawful.fault_lines) in
    let nodes = lawful.settings.nodes.1 in
    let node = is.node in
    let most = is.number.1 in
    let words : list_all is_word (decimal x.node.0 ∷ decimal x.number ∷ []) ≡ true = rw (
      number_word x.node.0 (omega (arith, node, nodes)),
      number_word x.number (omega (arith, most)),
    ) refl in
    one_line form (first + length pre) 3 (standing s s.ends s.bundles s.threads s.plan pre [] []) (codes "swapfault") _
    (standing s s.ends s.bundles s.threads s.plan (pre ++ x ∷ []) [] []) (omega arith) refl words (λ at low high.
    after_here form _ (in_section (standing s s.ends s.bundles s.threads s.plan pre [] []) at) (codes "swapfault") _ head.SwapFault 3 (line.Fault x) refl refl
    refl low high (swap_fault_head form) refl
    (swap_fault_here (in_section (standing s s.ends s.bundles s.threads s.plan pre [] []) at) s.nodes x refl nodes is new room))
