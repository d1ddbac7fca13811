-- Each line of section 4 is read as the call or the event that it was printed of.
use Rattle.std.proofs.Common.{◌≡◌, ℕ, suc, ◌+◌, ◌≤◌, ◌<◌, ◌^◌, true, eqb, List, [], ◌∷◌, ◌++◌, length, Some, None, Ok, refl, sym, ap, subst, ◌∙◌, arith}
use Rattle.std.specs.Prelude.{codes, find}
use Rattle.std.specs.Fmt.{decimal}
use Rattle.std.specs.List.{All, list_all}
use Rattle.std.proofs.lemmas.Bool.{eqb-true}
use Rattle.am_lemmas.proofs.Lists.{find_passes}
use Rattle.am_names.specs.declared.EndpointId.{EndpointId}
use Rattle.am_names.specs.declared.NodeId.{NodeId}
use Rattle.am_office_entries.specs.declared.HandlerKind.{HandlerKind}
use Rattle.am_office_entries.specs.declared.HandlerKind.TheVariants as Kinds
use Rattle.am_office_entries.specs.declared.Call.{Call}
use Rattle.am_office_entries.specs.declared.Call.TheVariants as Calls
use Rattle.am_office_entries.specs.declared.Event.{Event}
use Rattle.am_office_entries.specs.declared.Event.TheVariants as Events
use Rattle.am_office_text.specs.EntryLines.Lines.{who, what, actor, call, handler_kind}
use Rattle.am_scenario_types.specs.declared.parts.Form.TheVariants.{Step, Run}
use Rattle.am_scenario_types.specs.declared.parts.EndLine.{EndLine}
use Rattle.am_scenario_types.specs.declared.parts.ThreadLine.{ThreadLine}
use Rattle.am_scenario_types.specs.declared.parts.ScriptCall.{ScriptCall}
use Rattle.am_scenario_types.specs.declared.parts.StepLine.{StepLine}
use Rattle.am_scenario_types.specs.Lists.{ScenarioLists}
use Rattle.am_scenario_types.specs.Lawful.{IsLawful, IsLawfulThread, IsLawfulScriptCall, IsLawfulCall, IsLawfulEvent, IsLawfulKind, IsDeclared, least_credits}
use Rattle.am_scenario.specs.declared.drafts.line.Line.TheVariants as line
use Rattle.am_scenario.specs.Drafts.Said.{Said}
use Rattle.am_scenario.specs.declared.lines.head.Head.TheVariants as head
use Rattle.am_scenario.specs.Lines.Calls.{least_share}
use Rattle.am_scenario.specs.Lines.Lines.{words_say}
use Rattle.am_scenario.proofs.Below.{found_holds}
use Rattle.am_lab_scenarios.specs.Spelling.Texts.{event_line, call_line, step_line, line_behind, in_lines}
use Rattle.am_lab_scenarios.proofs.Words.{is_word, number_word, tag_word, serial_word}
use Rattle.am_lab_scenarios.proofs.Lists.{middle, fewer}
use Rattle.am_lab_scenarios.proofs.Places.{mapped_to, IsWantedEnd, declared_end, end_on, small_id}
use Rattle.am_lab_scenarios.proofs.Calls.{script_here, head_for, event_here}
use Rattle.am_lab_scenarios.proofs.Heads.{thread_head, thread_word, IsStepHead, step_head, after_here}
use Rattle.am_lab_scenarios.proofs.Declaring.{mask_is_word}
use Rattle.am_lab_scenarios.proofs.Leading.{in_section, Leads, one_line}
use Rattle.am_lab_scenarios.proofs.Standing.{standing, version_said, small_ends, least_is}

-- ---- the words

kind_is_words : (k : HandlerKind) → IsLawfulKind k → list_all is_word (handler_kind k) ≡ true
unfolding handler_kind
kind_is_words Kinds.Note h = refl
kind_is_words (Kinds.Echo r) h = rw (number_word r (omega (arith, h.1))) refl
kind_is_words (Kinds.Add r) h = rw (number_word r (omega (arith, h.1))) refl

call_is_words : (ends : List EndLine) (least : ℕ) (e : EndpointId) (c : Call) → All (λ end. end.id.0 ≤ 255) ends → e.0 < 2 ^ 64 → IsLawfulCall ends least c →
    list_all is_word (call e c) ≡ true
unfolding call
call_is_words ends least e (Calls.Request i h w) small b n =
    rw (
      number_word e.0 b,
      number_word i (omega (arith, n.0)),
      number_word h (omega (arith, n.1)),
      number_word w.a n.2.0,
      number_word w.b n.2.1,
      number_word w.c n.2.2,
      number_word w.d n.2.3,
    ) refl
call_is_words ends least e Calls.Poll small b n = rw (number_word e.0 b) refl
call_is_words ends least e (Calls.SetTag t) small b n = rw (number_word e.0 b, tag_word t n) refl
call_is_words ends least e (Calls.Map i name t c) small b n =
    rw (
      number_word e.0 b,
      number_word i (omega (arith, n.0)),
      number_word name.0 (small_id ends None name small (declared_end ends name n.1)),
      tag_word t n.2,
      number_word c (omega (arith, n.3.1)),
    ) refl
call_is_words ends least e (Calls.Unmap i) small b n = rw (number_word e.0 b, number_word i (omega (arith, n))) refl
call_is_words ends least e (Calls.SetHandler i k) small b n = rw (number_word e.0 b, number_word i (omega (arith, n.0))) (kind_is_words k n.1)
call_is_words ends least e (Calls.GiveUp s) small b n = rw (number_word e.0 b, serial_word s n) refl
call_is_words ends least e Calls.Close small b n = rw (number_word e.0 b) refl
call_is_words ends least e (Calls.Test m) small b n = rw (number_word e.0 b, mask_is_word m) refl

end_is_word : (ends : List EndLine) (e : EndpointId) → All (λ end. end.id.0 ≤ 255) ends → IsDeclared ends e → is_word (decimal e.0) ≡ true
end_is_word ends e small h = number_word e.0 (small_id ends None e small (declared_end ends e h))

event_is_words : (ends : List EndLine) (nodes frames channels least : ℕ) (e : Event) → All (λ end. end.id.0 ≤ 255) ends → nodes ≤ 16 → frames ≤ 16 →
    channels ≤ 4 → IsLawfulEvent ends nodes frames channels least e → list_all is_word (what e) ≡ true
unfolding what
event_is_words ends nodes frames channels least (Events.Call a e c) small nf ff cf h =
    call_is_words ends least e c small (small_id ends None e small (declared_end ends e h.1)) h.2
event_is_words ends nodes frames channels least (Events.Want a e) small nf ff cf h = rw (end_is_word ends e small h.1) refl
event_is_words ends nodes frames channels least (Events.Carry e) small nf ff cf h = rw (end_is_word ends e small h) refl
event_is_words ends nodes frames channels least (Events.Bind n e) small nf ff cf h = rw (end_is_word ends e small h.1) refl
event_is_words ends nodes frames channels least (Events.Expire n p c) small nf ff cf h =
    rw (number_word p.0 (omega (arith, h.1)), number_word c (omega (arith, h.2))) refl
event_is_words ends nodes frames channels least (Events.Receive n p k) small nf ff cf h =
    rw (number_word p.0 (omega (arith, h.1)), number_word k (omega (arith, h.2.1))) refl
event_is_words ends nodes frames channels least (Events.Drain n e) small nf ff cf h = rw (end_is_word ends e small h.1) refl
event_is_words ends nodes frames channels least (Events.Unload n e) small nf ff cf h = rw (end_is_word ends e small h.1) refl
event_is_words ends nodes frames channels least (Events.Load n e f) small nf ff cf h = rw (
  end_is_word ends e small h.1,
  number_word f (omega (arith, h.2)),
) refl
event_is_words ends nodes frames channels least (Events.PageOut n e) small nf ff cf h = rw (end_is_word ends e small h.1) refl
event_is_words ends nodes frames channels least (Events.PageIn n e) small nf ff cf h = rw (end_is_word ends e small h.1) refl

-- ---- a call of a thread

call_said : (said : Said) (made : ScriptCall) (thread : ThreadLine) → All (λ end. end.id.0 ≤ 255) said.ends →
    find (λ other. eqb other.id made.thread) said.threads ≡ Some thread → IsWantedEnd said.ends (Some thread.node) made.endpoint
    → IsLawfulCall said.ends (least_share said.version) made.call → length said.script < 16_384 →
    words_say Run said (head.OfThread made.thread) (call made.endpoint made.call) ≡ Ok (line.Call made)
unfolding words_say
call_said said made thread small found at lawful few =
    let same : thread.id ≡ made.thread = eqb-true thread.id made.thread (find_passes (λ other. eqb other.id made.thread) said.threads thread found) in
    script_here said thread made.thread made.endpoint made.call small found at lawful few
    ∙ ap (λ (t : ℕ). Ok (line.Call (record { thread = t; endpoint = made.endpoint; call = made.call }))) same

pub call_leads : (s : ScenarioLists) → IsLawful s → (first : ℕ) (pre : List ScriptCall) (x : ScriptCall) (post : List ScriptCall) → pre ++ x ∷ post ≡ s.script
    → Leads Run (first + length pre) 4 (standing s s.ends s.bundles s.threads s.plan s.faults pre []) (call_line x) (first + length pre + 1) 4
    (standing s s.ends s.bundles s.threads s.plan s.faults (pre ++ x ∷ []) [])
unfolding event_line who what actor
call_leads s lawful first pre x post e =
    let is = middle (IsLawfulScriptCall s.ends s.threads (least_credits s.pool)) pre x post
    (subst (λ l. All (IsLawfulScriptCall s.ends s.threads (least_credits s.pool)) l) (sym e) lawful.script) in
    let room : length pre < 16_384 = fewer pre x post 16_384 (subst (λ l. length l ≤ 16_384) (sym e) lawful.script_calls) in
    let small = small_ends s lawful in
    let found = mapped_to (λ (thread : ThreadLine). thread.node) (find (λ other. eqb other.id x.thread) s.threads) is.placed.0 is.placed.1.0 in
    let low = found_holds (IsLawfulThread s.nodes) (λ other. eqb other.id x.thread) s.threads found.0 lawful.threads found.1 in
    let id = low.id in
    let same : found.0.id ≡ x.thread = eqb-true found.0.id x.thread (find_passes (λ other. eqb other.id x.thread) s.threads found.0 found.1) in
    let number : x.thread < 2 ^ 64 = omega (arith, id, same) in
    let at : IsWantedEnd s.ends (Some found.0.node) x.endpoint =
    subst (λ (n : NodeId). IsWantedEnd s.ends (Some n) x.endpoint) (sym found.2) (end_on s.ends is.placed.0 x.endpoint is.placed.1.1) in
    let may : IsLawfulCall s.ends (least_share (version_said s.pool)) x.call =
    subst (λ (least : ℕ). IsLawfulCall s.ends least x.call) (sym (least_is s.pool)) is.call in
    one_line Run (first + length pre) 4 (standing s s.ends s.bundles s.threads s.plan s.faults pre []) (codes "t" ++ decimal x.thread) (call x.endpoint x.call)
    (standing s s.ends s.bundles s.threads s.plan s.faults (pre ++ x ∷ []) []) (omega arith) (thread_word x.thread number)
    (call_is_words s.ends (least_credits s.pool) x.endpoint x.call small (small_id s.ends (Some found.0.node) x.endpoint small at) is.call)
    (λ at_section some high.
    after_here Run _ (in_section (standing s s.ends s.bundles s.threads s.plan s.faults pre []) at_section) (codes "t" ++ decimal x.thread)
    (call x.endpoint x.call) (head.OfThread x.thread) 4 (line.Call x) refl (thread_head (version_said s.pool) x.thread number) refl some high refl refl
    (call_said (in_section (standing s s.ends s.bundles s.threads s.plan s.faults pre []) at_section) x found.0 small found.1 at may room))

-- ---- a step

lines_push : (first : ℕ) (pre : List StepLine) (x : StepLine) →
    in_lines first (pre ++ x ∷ []) ≡ in_lines first pre ++ record { line = line_behind (first + length pre); event = x.event } ∷ []
unfolding in_lines
lines_push first [] x = let none : first + 0 ≡ first = omega arith in ap (λ (n : ℕ). record { line = line_behind n; event = x.event } ∷ []) (sym none)
lines_push first (p ∷ pre) x =
    let count : first + 1 + length pre ≡ first + suc (length pre) = omega arith in
    ap (λ (l : List StepLine). record { line = line_behind first; event = p.event } ∷ l) (lines_push (first + 1) pre x
    ∙ ap (λ (n : ℕ). in_lines (first + 1) pre ++ record { line = line_behind n; event = x.event } ∷ []) count)

lines_length : (first : ℕ) (pre : List StepLine) → length (in_lines first pre) ≡ length pre
unfolding in_lines
lines_length first [] = refl
lines_length first (p ∷ pre) = ap suc (lines_length (first + 1) pre)

pub step_leads : (s : ScenarioLists) → IsLawful s → (first : ℕ) (pre : List StepLine) (x : StepLine) (post : List StepLine) → pre ++ x ∷ post ≡ s.steps
    → Leads Step (first + length pre) 4 (standing s s.ends s.bundles s.threads s.plan s.faults s.script (in_lines first pre)) (step_line x)
    (first + length pre + 1) 4 (standing s s.ends s.bundles s.threads s.plan s.faults s.script (in_lines first (pre ++ x ∷ [])))
unfolding event_line
step_leads s lawful first pre x post e =
    let before : Said = standing s s.ends s.bundles s.threads s.plan s.faults s.script (in_lines first pre) in
    let is : IsLawfulEvent s.ends s.nodes s.frames s.channels (least_credits s.pool) x.event =
    middle (λ step. IsLawfulEvent s.ends s.nodes s.frames s.channels (least_credits s.pool) step.event) pre x post
    (subst (λ l. All (λ step. IsLawfulEvent s.ends s.nodes s.frames s.channels (least_credits s.pool) step.event) l) (sym e) lawful.steps) in
    let here : IsLawfulEvent s.ends s.nodes s.frames s.channels (least_share (version_said s.pool)) x.event =
    subst (λ (least : ℕ). IsLawfulEvent s.ends s.nodes s.frames s.channels least x.event) (sym (least_is s.pool)) is in
    let shorter : length pre < 65_536 = fewer pre x post 65_536 (subst (λ l. length l ≤ 65_536) (sym e) lawful.step_lines) in
    let room : length (in_lines first pre) < 65_536 = omega (arith, shorter, lines_length first pre) in
    let small = small_ends s lawful in
    let nodes = lawful.settings.nodes.1 in
    let frames = lawful.settings.frames.1 in
    let channels = lawful.settings.channels.1 in
    let first_word : IsStepHead (version_said s.pool) x.event = step_head before x.event nodes here in
    one_line Step (first + length pre) 4 before (who x.event) (what x.event) (standing s s.ends s.bundles s.threads s.plan s.faults s.script
    (in_lines first (pre ++ x ∷ []))) (omega arith) first_word.word
    (event_is_words s.ends s.nodes s.frames s.channels (least_credits s.pool) x.event small nodes frames channels is) (λ at some high.
    after_here Step (line_behind (first + length pre)) (in_section before at) (who x.event) (what x.event) (head_for x.event) 4 (line.Step x.event)
    first_word.no_comment first_word.named first_word.section some high first_word.of_form refl
    (event_here (in_section before at) x.event small nodes frames channels here room)
    ∙ ap (λ (steps : List StepLine). Ok (in_section (standing s s.ends s.bundles s.threads s.plan s.faults s.script steps) 4)) (sym (lines_push first pre x)))
