-- What is read of a call's words, and of an event's.
use Rattle.std.proofs.Common.{◌≡◌, ℕ, ◌<◌, ◌≤◌, true, ltb, List, [], length, Option, Some, None, Result, Ok, refl, ◌∙◌, arith}
use Rattle.std.specs.List.{All}
use Rattle.std.proofs.lemmas.Bool.{lt-ltb}
use Rattle.am_lexer.specs.declared.what.What.{What}
use Rattle.am_lexer.specs.Fields.{◌>>=◌, word_at, ended}
use Rattle.am_names.specs.declared.EndpointId.{EndpointId}
use Rattle.am_names.specs.declared.NodeId.{NodeId}
use Rattle.am_office_entries.specs.declared.Actor.TheVariants as Actors
use Rattle.am_office_entries.specs.declared.Call.{Call}
use Rattle.am_office_entries.specs.declared.Call.TheVariants as Calls
use Rattle.am_office_entries.specs.declared.Event.{Event}
use Rattle.am_office_entries.specs.declared.Event.TheVariants as Events
use Rattle.am_office_text.specs.Words.{Word}
use Rattle.am_office_text.specs.EntryLines.Lines.{call, what}
use Rattle.am_scenario_types.specs.declared.parts.ThreadLine.{ThreadLine}
use Rattle.am_scenario_types.specs.declared.parts.Form.TheVariants.{Step}
use Rattle.am_scenario_types.specs.Lawful.{IsLawfulCall, IsLawfulEvent}
use Rattle.am_scenario.specs.declared.drafts.line.Line.TheVariants as line
use Rattle.am_scenario.specs.Drafts.Said.{Said, node_count, frame_count, channel_count, thread_of}
use Rattle.am_scenario.specs.declared.lines.head.Head.{Head}
use Rattle.am_scenario.specs.declared.lines.head.Head.TheVariants as head
use Rattle.am_scenario.specs.Lines.Calls.{call_at, request_at, poll_at, set_tag_at, least_share, map_at, unmap_at, set_handler_at, give_up_at, close_at}
use Rattle.am_scenario.specs.Lines.Calls.{test_at}
use Rattle.am_scenario.specs.Lines.Script.{script_line, thread_call_line}
use Rattle.am_scenario.specs.Lines.Steps.{step, outside_line, head_node, bind_line, expire_line, receive_line, interface_line, load_line, drive_line}
use Rattle.am_scenario.specs.Lines.Steps.{driver_line}
use Rattle.am_scenario.specs.Lines.Lines.{words_say}
use Rattle.am_lab_scenarios.proofs.Places.{number_here, within_here, below_here, node_here, tag_here, serial_here, kind_here, mask_here, IsWantedEnd}
use Rattle.am_lab_scenarios.proofs.Places.{declared_end, end_here}

-- what is read of a verb and the words behind it
abbrev pub taken : {A : Type 0} → (Word → List Word → Result A What) → List Word → Result A What
taken read words = word_at words >>= (λ verb. read verb.0 verb.1)

abbrev pub HasSmallEnds : Said → Type 0
HasSmallEnds said = All (λ end. end.id.0 ≤ 255) said.ends

byte_in : (n : ℕ) → n ≤ 255 → (0 ≤ n) × (n ≤ 255)
byte_in n h = (omega arith, h)

pub call_here : (said : Said) (wanted : Option NodeId) (e : EndpointId) (c : Call) → HasSmallEnds said → IsWantedEnd said.ends wanted e →
    IsLawfulCall said.ends (least_share said.version) c → taken (call_at said wanted) (call e c) ≡ Ok ((e, c), [])
unfolding call word_at call_at request_at poll_at set_tag_at map_at unmap_at set_handler_at give_up_at close_at test_at
call_here said wanted e (Calls.Request i h w) small at n =
    rw (
      end_here said wanted e _ small at,
      within_here 0 255 i _ (byte_in i n.0) (omega (arith, n.0)),
      within_here 0 255 h _ (byte_in h n.1) (omega (arith, n.1)),
      number_here w.a _ n.2.0,
      number_here w.b _ n.2.1,
      number_here w.c _ n.2.2,
      number_here w.d _ n.2.3,
    ) refl
call_here said wanted e Calls.Poll small at n = rw (end_here said wanted e _ small at) refl
call_here said wanted e (Calls.SetTag t) small at n = rw (end_here said wanted e _ small at, tag_here t _ n) refl
call_here said wanted e (Calls.Map i name t c) small at n =
    rw (
      end_here said wanted e _ small at,
      within_here 0 255 i _ (byte_in i n.0) (omega (arith, n.0)),
      end_here said None name _ small (declared_end said.ends name n.1),
      tag_here t _ n.2,
      within_here (least_share said.version) 8 c _ n.3 (omega (arith, n.3.1)),
    ) refl
call_here said wanted e (Calls.Unmap i) small at n = rw (end_here said wanted e _ small at, within_here 0 255 i _ (byte_in i n) (omega (arith, n))) refl
call_here said wanted e (Calls.SetHandler i k) small at n = rw (
  end_here said wanted e _ small at,
  within_here 0 255 i _ (byte_in i n.0) (omega (arith, n.0)),
  kind_here k n.1,
) refl
call_here said wanted e (Calls.GiveUp s) small at n = rw (end_here said wanted e _ small at, serial_here s _ n) refl
call_here said wanted e Calls.Close small at n = rw (end_here said wanted e _ small at) refl
call_here said wanted e (Calls.Test m) small at n = rw (end_here said wanted e _ small at, mask_here m _) refl

-- ---- a call of a thread

-- the verb of a call is none of a bundle
thread_calls : (said : Said) (thread : ThreadLine) (t : ℕ) (e : EndpointId) (c : Call) → thread_of said t ≡ Some thread →
    script_line said t (call e c) ≡ taken (thread_call_line said thread) (call e c)
unfolding call word_at script_line
thread_calls said thread t e (Calls.Request i h w) found = rw found refl
thread_calls said thread t e Calls.Poll found = rw found refl
thread_calls said thread t e (Calls.SetTag x) found = rw found refl
thread_calls said thread t e (Calls.Map i name x c) found = rw found refl
thread_calls said thread t e (Calls.Unmap i) found = rw found refl
thread_calls said thread t e (Calls.SetHandler i k) found = rw found refl
thread_calls said thread t e (Calls.GiveUp s) found = rw found refl
thread_calls said thread t e Calls.Close found = rw found refl
thread_calls said thread t e (Calls.Test m) found = rw found refl

call_line_is : (said : Said) (thread : ThreadLine) (e : EndpointId) (c : Call) → taken (call_at said (Some thread.node)) (call e c) ≡ Ok ((e, c), []) →
    length said.script < 16_384
    → taken (thread_call_line said thread) (call e c) ≡ Ok (line.Call (record { thread = thread.id; endpoint = e; call = c }))
unfolding call word_at thread_call_line ended
call_line_is said thread e (Calls.Request i h w) read few = let room : ltb (length said.script) 16_384 ≡ true = lt-ltb _ _ few in rw (read, room) refl
call_line_is said thread e Calls.Poll read few = let room : ltb (length said.script) 16_384 ≡ true = lt-ltb _ _ few in rw (read, room) refl
call_line_is said thread e (Calls.SetTag x) read few = let room : ltb (length said.script) 16_384 ≡ true = lt-ltb _ _ few in rw (read, room) refl
call_line_is said thread e (Calls.Map i name x c) read few = let room : ltb (length said.script) 16_384 ≡ true = lt-ltb _ _ few in rw (read, room) refl
call_line_is said thread e (Calls.Unmap i) read few = let room : ltb (length said.script) 16_384 ≡ true = lt-ltb _ _ few in rw (read, room) refl
call_line_is said thread e (Calls.SetHandler i k) read few = let room : ltb (length said.script) 16_384 ≡ true = lt-ltb _ _ few in rw (read, room) refl
call_line_is said thread e (Calls.GiveUp s) read few = let room : ltb (length said.script) 16_384 ≡ true = lt-ltb _ _ few in rw (read, room) refl
call_line_is said thread e Calls.Close read few = let room : ltb (length said.script) 16_384 ≡ true = lt-ltb _ _ few in rw (read, room) refl
call_line_is said thread e (Calls.Test m) read few = let room : ltb (length said.script) 16_384 ≡ true = lt-ltb _ _ few in rw (read, room) refl

pub script_here : (said : Said) (thread : ThreadLine) (t : ℕ) (e : EndpointId) (c : Call) → HasSmallEnds said → thread_of said t ≡ Some thread →
    IsWantedEnd said.ends (Some thread.node) e → IsLawfulCall said.ends (least_share said.version) c → length said.script < 16_384
    → script_line said t (call e c) ≡ Ok (line.Call (record { thread = thread.id; endpoint = e; call = c }))
script_here said thread t e c small found at lawful few =
    thread_calls said thread t e c found ∙ call_line_is said thread e c (call_here said (Some thread.node) e c small at lawful) few

-- ---- an event

-- the first word says this
abbrev pub head_for : Event → Head
head_for (Events.Call (Actors.Thread t) e c) = head.OfThread t
head_for (Events.Call Actors.Outside e c) = head.Outside
head_for (Events.Want (Actors.Thread t) e) = head.OfThread t
head_for (Events.Want Actors.Outside e) = head.Outside
head_for (Events.Carry e) = head.Outside
head_for (Events.Bind n e) = head.OfInterface n.0
head_for (Events.Expire n p c) = head.OfInterface n.0
head_for (Events.Receive n p k) = head.OfInterface n.0
head_for (Events.Drain n e) = head.OfDriver n.0
head_for (Events.Unload n e) = head.OfDriver n.0
head_for (Events.Load n e f) = head.OfDriver n.0
head_for (Events.PageOut n e) = head.OfDriver n.0
head_for (Events.PageIn n e) = head.OfDriver n.0

step_here : (said : Said) (e : Event) → length said.steps < 65_536 → step said e [] ≡ Ok (line.Step e)
unfolding step ended
step_here said e few = let room : ltb (length said.steps) 65_536 ≡ true = lt-ltb (length said.steps) 65_536 few in rw room refl

-- the verb of a call is neither that of a carry nor that of a want
outside_calls : (said : Said) (e : EndpointId) (c : Call) → outside_line said (call e c) ≡ (taken (call_at said None) (call e c) >>=
    (λ made. step said (Events.Call Actors.Outside made.0.0 made.0.1) made.1))
unfolding call word_at outside_line
outside_calls said e (Calls.Request i h w) = refl
outside_calls said e Calls.Poll = refl
outside_calls said e (Calls.SetTag x) = refl
outside_calls said e (Calls.Map i name x c) = refl
outside_calls said e (Calls.Unmap i) = refl
outside_calls said e (Calls.SetHandler i k) = refl
outside_calls said e (Calls.GiveUp s) = refl
outside_calls said e Calls.Close = refl
outside_calls said e (Calls.Test m) = refl

head_node_here : (said : Said) (n : NodeId) → n.0 < node_count said.settings → head_node said n.0 ≡ Ok n
unfolding head_node
head_node_here said n h = let there : ltb n.0 (node_count said.settings) ≡ true = lt-ltb _ _ h in rw there refl

abbrev pub IsLawfulHere : Said → Event → Type 0
IsLawfulHere said e = IsLawfulEvent said.ends (node_count said.settings) (frame_count said.settings) (channel_count said.settings) (least_share said.version) e

pub event_here : (said : Said) (e : Event) → HasSmallEnds said → node_count said.settings ≤ 16 → frame_count said.settings ≤ 16 →
    channel_count said.settings ≤ 4 → IsLawfulHere said e → length said.steps < 65_536
    → words_say Step said (head_for e) (what e) ≡ Ok (line.Step e)
unfolding words_say what word_at outside_line interface_line driver_line drive_line bind_line expire_line receive_line load_line
event_here said (Events.Call (Actors.Thread t) e c) small nodes frames channels h few = absurd (cc (h.0))
event_here said (Events.Call Actors.Outside e c) small nodes frames channels h few =
    outside_calls said e c ∙ rw (call_here said None e c small (declared_end said.ends e h.1) h.2) (step_here said (Events.Call Actors.Outside e c) few)
event_here said (Events.Want (Actors.Thread t) e) small nodes frames channels h few = absurd (cc (h.0))
event_here said (Events.Want Actors.Outside e) small nodes frames channels h few =
    rw (end_here said None e [] small (declared_end said.ends e h.1)) (step_here said (Events.Want Actors.Outside e) few)
event_here said (Events.Carry e) small nodes frames channels h few =
    rw (end_here said None e [] small (declared_end said.ends e h)) (step_here said (Events.Carry e) few)
event_here said (Events.Bind n e) small nodes frames channels h few =
    rw (head_node_here said n h.0, end_here said None e [] small (declared_end said.ends e h.1)) (step_here said (Events.Bind n e) few)
event_here said (Events.Expire n p c) small nodes frames channels h few =
    rw (head_node_here said n h.0, node_here said.settings p _ h.1 nodes, below_here (channel_count said.settings) c [] h.2 (omega (arith, h.2)))
    (step_here said (Events.Expire n p c) few)
event_here said (Events.Receive n p k) small nodes frames channels h few =
    rw (head_node_here said n h.0, node_here said.settings p _ h.1 nodes, within_here 1 0xffff_ffff k [] h.2 (omega (arith, h.2.1)))
    (step_here said (Events.Receive n p k) few)
event_here said (Events.Drain n e) small nodes frames channels h few =
    rw (head_node_here said n h.0, end_here said None e [] small (declared_end said.ends e h.1)) (step_here said (Events.Drain n e) few)
event_here said (Events.Unload n e) small nodes frames channels h few =
    rw (head_node_here said n h.0, end_here said None e [] small (declared_end said.ends e h.1)) (step_here said (Events.Unload n e) few)
event_here said (Events.Load n e f) small nodes frames channels h few =
    rw (
      head_node_here said n h.0,
      end_here said None e _ small (declared_end said.ends e h.1),
      below_here (frame_count said.settings) f [] h.2 (omega (arith, h.2)),
    ) (step_here said (Events.Load n e f) few)
event_here said (Events.PageOut n e) small nodes frames channels h few =
    rw (head_node_here said n h.0, end_here said None e [] small (declared_end said.ends e h.1)) (step_here said (Events.PageOut n e) few)
event_here said (Events.PageIn n e) small nodes frames channels h few =
    rw (head_node_here said n h.0, end_here said None e [] small (declared_end said.ends e h.1)) (step_here said (Events.PageIn n e) few)
