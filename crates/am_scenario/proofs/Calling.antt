-- Each kind of line says something lawful: section 4, and all kinds together.
use Rattle.std.proofs.Common.{◌≡◌, ℕ, ◌+◌, ◌<◌, List, [], ◌∷◌, length, Option, Some, None, refl, sym, ap, ◌∙◌, arith}
use Rattle.std.specs.Prelude.{◌==◌, nat_lt, nat_le, map, codes}
use Rattle.std.specs.List.{All}
use Rattle.std.specs.Option.{option_map}
use Rattle.std.specs.Str.{bytes_eq}
use Rattle.std.proofs.lemmas.List.Elements.{All-nil, All-cons, All-tail}
use Rattle.std.proofs.lemmas.Bool.{ltb-true, eqb-true, leb-true}
use Rattle.am_lemmas.proofs.Lists.{find_passes}
use Rattle.am_lexer.specs.declared.what.What.TheVariants.{UnknownWord, OutOfRange, Undeclared, TooMany}
use Rattle.am_lexer.specs.Fields.{or_else, word_at, number_at, within, ended}
use Rattle.am_names.specs.declared.EndpointId.{EndpointId}
use Rattle.am_names.specs.declared.NodeId.{NodeId}
use Rattle.am_office_entries.specs.declared.Actor.TheVariants.{Outside}
use Rattle.am_office_entries.specs.declared.Call.{Call}
use Rattle.am_office_entries.specs.declared.Call.TheVariants.{Request, Poll, SetTag, Map, Unmap, SetHandler, GiveUp, Close, Test}
use Rattle.am_office_entries.specs.declared.HandlerKind.{HandlerKind}
use Rattle.am_office_entries.specs.declared.HandlerKind.TheVariants.{Note, Echo, Add}
use Rattle.am_office_entries.specs.declared.Event.{Event}
use Rattle.am_office_entries.specs.declared.Event.TheVariants as event
use Rattle.am_bundle.specs.Calls.{poll_calls, test_calls}
use Rattle.am_scenario_types.specs.declared.parts.Form.{Form}
use Rattle.am_scenario_types.specs.declared.parts.Form.TheVariants.{Step, Run}
use Rattle.am_scenario_types.specs.declared.parts.ThreadLine.{ThreadLine}
use Rattle.am_scenario_types.specs.Lawful.{IsOn, IsLawfulKind, IsLawfulCall, IsLawfulScriptCall, IsLawfulEvent, thread_node}
use Rattle.am_scenario.specs.declared.drafts.line.Line.{Line}
use Rattle.am_scenario.specs.declared.drafts.line.Line.TheVariants as line
use Rattle.am_scenario.specs.Drafts.Said.{Said, node_count, frame_count, channel_count, thread_of, script_call}
use Rattle.am_scenario.specs.declared.lines.head.Head.{Head}
use Rattle.am_scenario.specs.declared.lines.head.Head.TheVariants as head
use Rattle.am_scenario.specs.Lines.Heads.{section_of, is_of_form}
use Rattle.am_scenario.specs.Lines.Places.{below, node_at, end_at, tag_at, serial_at, bundle_at}
use Rattle.am_scenario.specs.Lines.Declarations.{mask_at}
use Rattle.am_scenario.specs.Lines.Calls.{least_share, request_at, poll_at, set_tag_at, map_at, unmap_at, kind_at, set_handler_at, give_up_at, close_at}
use Rattle.am_scenario.specs.Lines.Calls.{test_at, call_at}
use Rattle.am_scenario.specs.Lines.Script.{bundled, poll_bundle_line, test_bundle_line, thread_call_line, script_line}
use Rattle.am_scenario.specs.Lines.Steps.{step, outside_line, head_node, bind_line, expire_line, receive_line, interface_line, load_line, drive_line}
use Rattle.am_scenario.specs.Lines.Steps.{driver_line}
use Rattle.am_scenario.specs.Lines.Settings.{setting_line}
use Rattle.am_scenario.specs.Lines.Lines.{words_say}
use Rattle.am_scenario.specs.LineLaws.LineLaws.{section_said, fits_form, Kind, OfSetting, OfScript, OfStep, kind_said, kind_of, section_of_kind, is_kind_of_form}
use Rattle.am_scenario.specs.LineLaws.LineLaws.{LinesAreLawful}
use Rattle.am_scenario.proofs.Meets.{Meets, refuses, gives, bind, test, anything, found}
use Rattle.am_scenario.proofs.Words.{a_number, is_within, is_below, a_node, a_tag, a_serial, an_end, a_bundle, IsEndFor}
use Rattle.am_scenario.proofs.Declaring.{Says, a_version, a_setting, an_endpoint, a_bundle_line, a_thread, a_plan_line, a_swap_fault}

-- ---- calls

-- a lawful call on an endpoint that is wanted
abbrev pub IsCallFor : Said → Option NodeId → ((EndpointId × Call) × List (List ℕ)) → Type 0
IsCallFor said wanted call = IsEndFor said wanted call.0.0 × IsLawfulCall said.ends (least_share said.version) call.0.1

a_request : (said : Said) (wanted : Option NodeId) (words : List (List ℕ)) → Meets (IsCallFor said wanted) (request_at said wanted words)
unfolding request_at
a_request said wanted words =
    bind (end_at said wanted words) _ (an_end said wanted words) (λ end on.
    bind (within 0 255 end.1) _ (is_within 0 255 end.1) (λ index index_in.
    bind (within 0 255 index.1) _ (is_within 0 255 index.1) (λ handler handler_in.
    bind (number_at handler.1) _ (a_number handler.1) (λ a a_in.
    bind (number_at a.1) _ (a_number a.1) (λ b b_in.
    bind (number_at b.1) _ (a_number b.1) (λ c c_in.
    bind (number_at c.1) _ (a_number c.1) (λ d d_in.
    gives (IsCallFor said wanted) ((end.0, Request index.0 handler.0 (record { a = a.0; b = b.0; c = c.0; d = d.0 })), d.1)
    (on, (index_in.1, handler_in.1, (a_in, b_in, c_in, d_in))))))))))

a_poll : (said : Said) (wanted : Option NodeId) (words : List (List ℕ)) → Meets (IsCallFor said wanted) (poll_at said wanted words)
unfolding poll_at
a_poll said wanted words =
    bind (end_at said wanted words) _ (an_end said wanted words) (λ end on.
    gives (IsCallFor said wanted) ((end.0, Poll), end.1) (on, tt))

a_set_tag : (said : Said) (wanted : Option NodeId) (words : List (List ℕ)) → Meets (IsCallFor said wanted) (set_tag_at said wanted words)
unfolding set_tag_at
a_set_tag said wanted words =
    bind (end_at said wanted words) _ (an_end said wanted words) (λ end on.
    bind (tag_at end.1) _ (a_tag end.1) (λ tag tag_in.
    gives (IsCallFor said wanted) ((end.0, SetTag tag.0), tag.1) (on, tag_in)))

a_map : (said : Said) (wanted : Option NodeId) (words : List (List ℕ)) → Meets (IsCallFor said wanted) (map_at said wanted words)
unfolding map_at
a_map said wanted words =
    bind (end_at said wanted words) _ (an_end said wanted words) (λ end on.
    bind (within 0 255 end.1) _ (is_within 0 255 end.1) (λ index index_in.
    bind (end_at said None index.1) _ (an_end said None index.1) (λ name named.
    bind (tag_at name.1) _ (a_tag name.1) (λ tag tag_in.
    bind (within (least_share said.version) 8 tag.1) _ (is_within (least_share said.version) 8 tag.1) (λ credits credits_in.
    gives (IsCallFor said wanted) ((end.0, Map index.0 name.0 tag.0 credits.0), credits.1)
    (on, (index_in.1, named, tag_in, credits_in)))))))

an_unmap : (said : Said) (wanted : Option NodeId) (words : List (List ℕ)) → Meets (IsCallFor said wanted) (unmap_at said wanted words)
unfolding unmap_at
an_unmap said wanted words =
    bind (end_at said wanted words) _ (an_end said wanted words) (λ end on.
    bind (within 0 255 end.1) _ (is_within 0 255 end.1) (λ index index_in.
    gives (IsCallFor said wanted) ((end.0, Unmap index.0), index.1) (on, index_in.1)))

a_kind : (words : List (List ℕ)) → Meets (λ (kind : HandlerKind × List (List ℕ)). IsLawfulKind kind.0) (kind_at words)
unfolding kind_at
a_kind words =
    let Good : (HandlerKind × List (List ℕ)) → Type 0 = λ kind. IsLawfulKind kind.0 in
    bind (word_at words) _ (anything (word_at words)) (λ word _.
    test (bytes_eq word.0 (codes "note")) _ _ (λ e. gives Good (Note, word.1) tt) (λ e1.
    test (bytes_eq word.0 (codes "echo")) _ _ (λ e. bind (within 1 15 word.1) _ (is_within 1 15 word.1) (λ handler h. gives Good (Echo handler.0, handler.1) h))
    (λ e2.
    test (bytes_eq word.0 (codes "add")) _ _ (λ e. bind (within 1 15 word.1) _ (is_within 1 15 word.1) (λ handler h. gives Good (Add handler.0, handler.1) h))
    (λ e3.
    refuses Good UnknownWord))))

a_set_handler : (said : Said) (wanted : Option NodeId) (words : List (List ℕ)) → Meets (IsCallFor said wanted) (set_handler_at said wanted words)
unfolding set_handler_at
a_set_handler said wanted words =
    bind (end_at said wanted words) _ (an_end said wanted words) (λ end on.
    bind (within 0 255 end.1) _ (is_within 0 255 end.1) (λ index index_in.
    bind (kind_at index.1) _ (a_kind index.1) (λ kind kind_in.
    gives (IsCallFor said wanted) ((end.0, SetHandler index.0 kind.0), kind.1) (on, (index_in.1, kind_in)))))

a_give_up : (said : Said) (wanted : Option NodeId) (words : List (List ℕ)) → Meets (IsCallFor said wanted) (give_up_at said wanted words)
unfolding give_up_at
a_give_up said wanted words =
    bind (end_at said wanted words) _ (an_end said wanted words) (λ end on.
    bind (serial_at end.1) _ (a_serial end.1) (λ serial serial_in.
    gives (IsCallFor said wanted) ((end.0, GiveUp serial.0), serial.1) (on, serial_in)))

a_close : (said : Said) (wanted : Option NodeId) (words : List (List ℕ)) → Meets (IsCallFor said wanted) (close_at said wanted words)
unfolding close_at
a_close said wanted words =
    bind (end_at said wanted words) _ (an_end said wanted words) (λ end on.
    gives (IsCallFor said wanted) ((end.0, Close), end.1) (on, tt))

a_test : (said : Said) (wanted : Option NodeId) (words : List (List ℕ)) → Meets (IsCallFor said wanted) (test_at said wanted words)
unfolding test_at
a_test said wanted words =
    bind (end_at said wanted words) _ (an_end said wanted words) (λ end on.
    bind (mask_at end.1) _ (anything (mask_at end.1)) (λ mask _.
    gives (IsCallFor said wanted) ((end.0, Test mask.0), mask.1) (on, tt)))

a_call : (said : Said) (wanted : Option NodeId) (verb : List ℕ) (words : List (List ℕ)) → Meets (IsCallFor said wanted) (call_at said wanted verb words)
unfolding call_at
a_call said wanted verb words =
    test (bytes_eq verb (codes "request")) _ _ (λ e. a_request said wanted words) (λ e1.
    test (bytes_eq verb (codes "poll")) _ _ (λ e. a_poll said wanted words) (λ e2.
    test (bytes_eq verb (codes "tag")) _ _ (λ e. a_set_tag said wanted words) (λ e3.
    test (bytes_eq verb (codes "map")) _ _ (λ e. a_map said wanted words) (λ e4.
    test (bytes_eq verb (codes "unmap")) _ _ (λ e. an_unmap said wanted words) (λ e5.
    test (bytes_eq verb (codes "handler")) _ _ (λ e. a_set_handler said wanted words) (λ e6.
    test (bytes_eq verb (codes "giveup")) _ _ (λ e. a_give_up said wanted words) (λ e7.
    test (bytes_eq verb (codes "close")) _ _ (λ e. a_close said wanted words) (λ e8.
    test (bytes_eq verb (codes "event")) _ _ (λ e. a_test said wanted words) (λ e9.
    refuses (IsCallFor said wanted) UnknownWord)))))))))

-- ---- threads

thread_is_there : (said : Said) (number : ℕ) (thread : ThreadLine) → thread_of said number ≡ Some thread → thread_node said.threads thread.id ≡ Some thread.node
thread_is_there said number thread e =
    let same : thread.id ≡ number = eqb-true thread.id number (find_passes (λ thread. thread.id == number) said.threads thread e) in
    let again : thread_of said thread.id ≡ Some thread = ap (λ (n : ℕ). thread_of said n) same ∙ e in
    ap (λ (o : Option ThreadLine). option_map (λ thread. thread.node) o) again

-- every member makes the same call
all_calls : (said : Said) (thread : ThreadLine) (call : Call) (members : List EndpointId)
    → thread_node said.threads thread.id ≡ Some thread.node → IsLawfulCall said.ends (least_share said.version) call → All (IsOn said.ends thread.node) members
    → All (IsLawfulScriptCall said.ends said.threads (least_share said.version)) (map (script_call thread.id) (map (λ member. (member, call)) members))
all_calls said thread call [] there lawful on = All-nil (IsLawfulScriptCall said.ends said.threads (least_share said.version))
all_calls said thread call (member ∷ members) there lawful on =
    let here : IsOn said.ends thread.node member = on 0 member (omega arith) in
    All-cons (IsLawfulScriptCall said.ends said.threads (least_share said.version)) (script_call thread.id (member, call)) _
    (record { placed = (thread.node, (there, here)); call = lawful })
    (all_calls said thread call members there lawful (All-tail (IsOn said.ends thread.node) member members on))

some_bundled : (form : Form) (said : Said) (thread : ℕ) (calls : List (EndpointId × Call))
    → All (IsLawfulScriptCall said.ends said.threads (least_share said.version)) (map (script_call thread) calls) →
    Meets (Says form said OfScript) (bundled said thread calls)
unfolding bundled
some_bundled form said thread calls h =
    test (nat_le (length said.script + length calls) 16_384) _ _
    (λ room. gives (Says form said OfScript) (line.Calls thread calls) (refl, (h, leb-true _ _ room)))
    (λ full. refuses (Says form said OfScript) TooMany)

a_poll_bundle : (form : Form) (said : Said) (thread : ThreadLine) (words : List (List ℕ)) → thread_node said.threads thread.id ≡ Some thread.node
    → Meets (Says form said OfScript) (poll_bundle_line said thread words)
unfolding poll_bundle_line
a_poll_bundle form said thread words there =
    bind (bundle_at said thread.node words) _ (a_bundle said thread.node words) (λ bundle on.
    bind (ended bundle.1) _ (anything (ended bundle.1)) (λ _ _.
    some_bundled form said thread.id (poll_calls bundle.0) (all_calls said thread Poll bundle.0.members there tt on)))

a_test_bundle : (form : Form) (said : Said) (thread : ThreadLine) (words : List (List ℕ)) → thread_node said.threads thread.id ≡ Some thread.node
    → Meets (Says form said OfScript) (test_bundle_line said thread words)
unfolding test_bundle_line
a_test_bundle form said thread words there =
    bind (bundle_at said thread.node words) _ (a_bundle said thread.node words) (λ bundle on.
    bind (ended bundle.1) _ (anything (ended bundle.1)) (λ _ _.
    some_bundled form said thread.id (test_calls bundle.0) (all_calls said thread (Test bundle.0.mask) bundle.0.members there tt on)))

a_thread_call : (form : Form) (said : Said) (thread : ThreadLine) (verb : List ℕ) (words : List (List ℕ)) →
    thread_node said.threads thread.id ≡ Some thread.node
    → Meets (Says form said OfScript) (thread_call_line said thread verb words)
unfolding thread_call_line
a_thread_call form said thread verb words there =
    bind (call_at said (Some thread.node) verb words) _ (a_call said (Some thread.node) verb words) (λ call h.
    bind (ended call.1) _ (anything (ended call.1)) (λ _ _.
    test (nat_lt (length said.script) 16_384) _ _
    (λ room. gives (Says form said OfScript) (line.Call (record { thread = thread.id; endpoint = call.0.0; call = call.0.1 }))
    (refl, (record { placed = (thread.node, (there, h.0)); call = h.1 }, ltb-true _ _ room)))
    (λ full. refuses (Says form said OfScript) TooMany)))

a_script_line : (form : Form) (said : Said) (number : ℕ) (words : List (List ℕ)) → Meets (Says form said OfScript) (script_line said number words)
unfolding script_line
a_script_line form said number words =
    bind (or_else Undeclared (thread_of said number)) _ (found Undeclared (thread_of said number)) (λ thread e.
    let there = thread_is_there said number thread e in
    bind (word_at words) _ (anything (word_at words)) (λ verb _.
    test (bytes_eq verb.0 (codes "pollb")) _ _ (λ e1. a_poll_bundle form said thread verb.1 there) (λ e2.
    test (bytes_eq verb.0 (codes "eventb")) _ _ (λ e3. a_test_bundle form said thread verb.1 there) (λ e4.
    a_thread_call form said thread verb.0 verb.1 there))))

-- ---- steps

abbrev pub IsEvent : Said → Event → Type 0
IsEvent said e = IsLawfulEvent said.ends (node_count said.settings) (frame_count said.settings) (channel_count said.settings) (least_share said.version) e

a_step : (form : Form) (said : Said) (e : Event) (words : List (List ℕ)) → IsEvent said e → Meets (Says form said OfStep) (step said e words)
unfolding step
a_step form said e words h =
    bind (ended words) _ (anything (ended words)) (λ _ _.
    test (nat_lt (length said.steps) 65_536) _ _
    (λ room. gives (Says form said OfStep) (line.Step e) (refl, (h, ltb-true _ _ room)))
    (λ full. refuses (Says form said OfStep) TooMany))

an_outside_line : (form : Form) (said : Said) (words : List (List ℕ)) → Meets (Says form said OfStep) (outside_line said words)
unfolding outside_line
an_outside_line form said words =
    bind (word_at words) _ (anything (word_at words)) (λ verb _.
    test (bytes_eq verb.0 (codes "carry")) _ _
    (λ e. bind (end_at said None verb.1) _ (an_end said None verb.1) (λ end on. a_step form said (event.Carry end.0) end.1 on)) (λ e1.
    test (bytes_eq verb.0 (codes "want")) _ _
    (λ e. bind (end_at said None verb.1) _ (an_end said None verb.1) (λ end on. a_step form said (event.Want Outside end.0) end.1 (refl, on))) (λ e2.
    bind (call_at said None verb.0 verb.1) _ (a_call said None verb.0 verb.1) (λ call h. a_step form said (event.Call Outside call.0.0 call.0.1) call.1 (
      refl,
      h.0,
      h.1,
    )))))

a_head_node : (said : Said) (number : ℕ) → Meets (λ (node : NodeId). node.0 < node_count said.settings) (head_node said number)
unfolding head_node
a_head_node said number =
    test (nat_lt number (node_count said.settings)) _ _
    (λ e. gives (λ (node : NodeId). node.0 < node_count said.settings) (record { 0 = number }) (ltb-true _ _ e))
    (λ e. refuses (λ (node : NodeId). node.0 < node_count said.settings) OutOfRange)

a_bind : (form : Form) (said : Said) (node : NodeId) (words : List (List ℕ)) → node.0 < node_count said.settings →
    Meets (Says form said OfStep) (bind_line said node words)
unfolding bind_line
a_bind form said node words here = bind (end_at said None words) _ (an_end said None words)
    (λ end on. a_step form said (event.Bind node end.0) end.1 (here, on))

an_expire : (form : Form) (said : Said) (node : NodeId) (words : List (List ℕ)) → node.0 < node_count said.settings →
    Meets (Says form said OfStep) (expire_line said node words)
unfolding expire_line
an_expire form said node words here =
    bind (node_at said.settings words) _ (a_node said.settings words) (λ peer peer_in.
    bind (below (channel_count said.settings) peer.1) _ (is_below (channel_count said.settings) peer.1) (λ channel channel_in.
    a_step form said (event.Expire node peer.0 channel.0) channel.1 (here, peer_in, channel_in)))

a_receive : (form : Form) (said : Said) (node : NodeId) (words : List (List ℕ)) → node.0 < node_count said.settings →
    Meets (Says form said OfStep) (receive_line said node words)
unfolding receive_line
a_receive form said node words here =
    bind (node_at said.settings words) _ (a_node said.settings words) (λ peer peer_in.
    bind (within 1 0xffff_ffff peer.1) _ (is_within 1 0xffff_ffff peer.1) (λ number number_in.
    a_step form said (event.Receive node peer.0 number.0) number.1 (here, peer_in, number_in)))

an_interface_line : (form : Form) (said : Said) (number : ℕ) (words : List (List ℕ)) → Meets (Says form said OfStep) (interface_line said number words)
unfolding interface_line
an_interface_line form said number words =
    bind (head_node said number) _ (a_head_node said number) (λ node here.
    bind (word_at words) _ (anything (word_at words)) (λ verb _.
    test (bytes_eq verb.0 (codes "bind")) _ _ (λ e. a_bind form said node verb.1 here) (λ e1.
    test (bytes_eq verb.0 (codes "expire")) _ _ (λ e. an_expire form said node verb.1 here) (λ e2.
    test (bytes_eq verb.0 (codes "receive")) _ _ (λ e. a_receive form said node verb.1 here) (λ e3.
    refuses (Says form said OfStep) UnknownWord)))))

a_load : (form : Form) (said : Said) (node : NodeId) (words : List (List ℕ)) → node.0 < node_count said.settings →
    Meets (Says form said OfStep) (load_line said node words)
unfolding load_line
a_load form said node words here =
    bind (end_at said None words) _ (an_end said None words) (λ end on.
    bind (below (frame_count said.settings) end.1) _ (is_below (frame_count said.settings) end.1) (λ frame frame_in.
    a_step form said (event.Load node end.0 frame.0) frame.1 (here, on, frame_in)))

a_drive : (form : Form) (said : Said) (node : NodeId) (verb : List ℕ) (words : List (List ℕ)) → node.0 < node_count said.settings →
    Meets (Says form said OfStep) (drive_line said node verb words)
unfolding drive_line
a_drive form said node verb words here =
    test (bytes_eq verb (codes "drain")) _ _ (λ e. bind (end_at said None words) _ (an_end said None words)
    (λ end on. a_step form said (event.Drain node end.0) end.1 (here, on))) (λ e1.
    test (bytes_eq verb (codes "unload")) _ _ (λ e. bind (end_at said None words) _ (an_end said None words)
    (λ end on. a_step form said (event.Unload node end.0) end.1 (here, on))) (λ e2.
    test (bytes_eq verb (codes "load")) _ _ (λ e. a_load form said node words here) (λ e3.
    test (bytes_eq verb (codes "pageout")) _ _ (λ e. bind (end_at said None words) _ (an_end said None words)
    (λ end on. a_step form said (event.PageOut node end.0) end.1 (here, on))) (λ e4.
    test (bytes_eq verb (codes "pagein")) _ _ (λ e. bind (end_at said None words) _ (an_end said None words)
    (λ end on. a_step form said (event.PageIn node end.0) end.1 (here, on))) (λ e5.
    refuses (Says form said OfStep) UnknownWord)))))

a_driver_line : (form : Form) (said : Said) (number : ℕ) (words : List (List ℕ)) → Meets (Says form said OfStep) (driver_line said number words)
unfolding driver_line
a_driver_line form said number words =
    bind (head_node said number) _ (a_head_node said number) (λ node here.
    bind (word_at words) _ (anything (word_at words)) (λ verb _. a_drive form said node verb.0 verb.1 here))

-- ---- all kinds

pub all_kinds : (form : Form) (said : Said) (first : Head) (words : List (List ℕ)) → Meets (Says form said (kind_of first)) (words_say form said first words)
unfolding words_say
all_kinds form said head.Version words = a_version form said words
all_kinds form said (head.Setting name) words =
    bind (setting_line form said.settings name words) _ (a_setting form said.settings name words)
    (λ setting h. gives (Says form said OfSetting) (line.Setting setting) (refl, h))
all_kinds form said head.Endpoint words = an_endpoint form said words
all_kinds form said head.Bundle words = a_bundle_line form said words
all_kinds form said head.Thread words = a_thread form said words
all_kinds form said head.Plan words = a_plan_line form said words
all_kinds form said head.SwapFault words = a_swap_fault form said words
all_kinds form said head.Outside words = an_outside_line form said words
all_kinds form said (head.OfThread number) words = a_script_line form said number words
all_kinds form said (head.OfInterface number) words = an_interface_line form said number words
all_kinds form said (head.OfDriver number) words = a_driver_line form said number words

section_by_kind : (says : Line) → section_said says ≡ section_of_kind (kind_said says)
section_by_kind (line.Version version) = refl
section_by_kind (line.Setting setting) = refl
section_by_kind (line.End end) = refl
section_by_kind (line.Bundle bundle) = refl
section_by_kind (line.Thread thread) = refl
section_by_kind (line.Plan planned) = refl
section_by_kind (line.Fault fault) = refl
section_by_kind (line.Call call) = refl
section_by_kind (line.Calls thread calls) = refl
section_by_kind (line.Step event) = refl

section_by_head : (first : Head) → section_of first ≡ section_of_kind (kind_of first)
section_by_head head.Version = refl
section_by_head (head.Setting name) = refl
section_by_head head.Endpoint = refl
section_by_head head.Bundle = refl
section_by_head head.Thread = refl
section_by_head head.Plan = refl
section_by_head head.SwapFault = refl
section_by_head head.Outside = refl
section_by_head (head.OfThread number) = refl
section_by_head (head.OfInterface number) = refl
section_by_head (head.OfDriver number) = refl

form_by_kind : (form : Form) (says : Line) → fits_form form says ≡ is_kind_of_form form (kind_said says)
form_by_kind Step (line.Version version) = refl
form_by_kind Step (line.Setting setting) = refl
form_by_kind Step (line.End end) = refl
form_by_kind Step (line.Bundle bundle) = refl
form_by_kind Step (line.Thread thread) = refl
form_by_kind Step (line.Plan planned) = refl
form_by_kind Step (line.Fault fault) = refl
form_by_kind Step (line.Call call) = refl
form_by_kind Step (line.Calls thread calls) = refl
form_by_kind Step (line.Step event) = refl
form_by_kind Run (line.Version version) = refl
form_by_kind Run (line.Setting setting) = refl
form_by_kind Run (line.End end) = refl
form_by_kind Run (line.Bundle bundle) = refl
form_by_kind Run (line.Thread thread) = refl
form_by_kind Run (line.Plan planned) = refl
form_by_kind Run (line.Fault fault) = refl
form_by_kind Run (line.Call call) = refl
form_by_kind Run (line.Calls thread calls) = refl
form_by_kind Run (line.Step event) = refl

form_by_head : (form : Form) (first : Head) → is_of_form form first ≡ is_kind_of_form form (kind_of first)
form_by_head Step head.Version = refl
form_by_head Step (head.Setting name) = refl
form_by_head Step head.Endpoint = refl
form_by_head Step head.Bundle = refl
form_by_head Step head.Thread = refl
form_by_head Step head.Plan = refl
form_by_head Step head.SwapFault = refl
form_by_head Step head.Outside = refl
form_by_head Step (head.OfThread number) = refl
form_by_head Step (head.OfInterface number) = refl
form_by_head Step (head.OfDriver number) = refl
form_by_head Run head.Version = refl
form_by_head Run (head.Setting name) = refl
form_by_head Run head.Endpoint = refl
form_by_head Run head.Bundle = refl
form_by_head Run head.Thread = refl
form_by_head Run head.Plan = refl
form_by_head Run head.SwapFault = refl
form_by_head Run head.Outside = refl
form_by_head Run (head.OfThread number) = refl
form_by_head Run (head.OfInterface number) = refl
form_by_head Run (head.OfDriver number) = refl

pub lines_are_lawful : LinesAreLawful
lines_are_lawful form said first words says e =
    let known = (all_kinds form said first words).holds says e in (
      section_by_kind says ∙ (ap (λ (k : Kind). section_of_kind k) known.0 ∙ sym (section_by_head first)),
      form_by_kind form says ∙ (ap (λ (k : Kind). is_kind_of_form form k) known.0 ∙ sym (form_by_head form first)),
      known.1,
    )
