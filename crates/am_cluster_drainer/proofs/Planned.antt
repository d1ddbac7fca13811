-- What is planned, as the drain tells it from what it reads.
use Rattle.std.proofs.Common.{◌≡◌, ℕ, List, [], ◌∷◌, ◌++◌, Option, Some, None, Bool, true, false, cond, map, length, refl, sym, ◌∙◌, ap, append_assoc}
use Rattle.std.specs.Prelude.{◌&&◌, ◌||◌, not, nat_lt, find, filter, option_map, count_by}
use Rattle.std.specs.List.{list_any}
use Rattle.am_model.proofs.Names.{same_end-is}
use Rattle.am_names.specs.declared.EndpointId.{EndpointId}
use Rattle.am_names.specs.declared.NodeId.{NodeId}
use Rattle.am_names.specs.Names.{same_end, is_request}
use Rattle.am_office_entries.specs.declared.Actor.TheVariants.{Outside}
use Rattle.am_office_entries.specs.declared.Call.TheVariants as Calls
use Rattle.am_office_entries.specs.declared.Event.TheVariants as Events
use Rattle.am_office_entries.specs.declared.Entry.{Entry}
use Rattle.am_model.specs.Layout.{Layout, EndSetting, has_id, home_by, home}
use Rattle.am_model.specs.History.{state_of, is_frame_held}
use Rattle.am_scenario_types.specs.Lists.{ScenarioLists}
use Rattle.am_model_scripts.specs.Layout.{layout_of}
use Rattle.am_model_scripts.specs.Standings.{Standing, standings, is_standing_of, standing_in}
use Rattle.am_model_drain.specs.declared.Turn.{Turn}
use Rattle.am_model_drain.specs.declared.Turn.TheVariants.{Once, Make}
use Rattle.am_model_drain.specs.Rules.{Left, make_of, has_room, page_in_of, poll_of}
use Rattle.am_model_drain.specs.Ready.{ready, ready_at, ready_dest_if, ready_dest, unloaded, paged_out, emptied, emptied_if, holds_frame, spare}
use Rattle.am_model_drain.specs.Ready.{spare_of, is_open_on_host, is_neither}
use Rattle.am_cluster_drainer.specs.declared.EndHead.{EndHead}
use Rattle.am_cluster_drainer.specs.declared.EndMail.{EndMail}
use Rattle.am_cluster_drainer.specs.declared.LeftCall.{LeftCall}
use Rattle.am_cluster_drainer.specs.Reads.{head_of, mail_of, left_of}
use Rattle.am_cluster_drainer.specs.Choices.{unloaded_by, paged_out_by, sent_to}
use Rattle.am_model_drain.specs.Made.{next_entry}
use Rattle.am_model_drain.proofs.Quiet.{Quiet, ready_dest-quiet}
use Rattle.am_model_drain.proofs.Turns.{Extends}
use Rattle.am_cluster_drainer.proofs.Finding.{find_filtered}

-- ---- pages and frames

pub unloaded_read : (layout : Layout) (o : Option Standing) (past : List Entry) → unloaded_by layout (option_map head_of o) past ≡ unloaded layout o past
unloaded_read layout None past = refl
unloaded_read layout (Some s) past = refl

pub paged_out_read : (layout : Layout) (o : Option Standing) (past : List Entry) → paged_out_by layout (option_map head_of o) past ≡ paged_out layout o past
paged_out_read layout None past = refl
paged_out_read layout (Some s) past = refl

pub unloaded_some : (layout : Layout) (o : Option Standing) (h : EndHead) (past : List Entry) → Some h ≡ option_map head_of o →
    unloaded_by layout (Some h) past ≡ unloaded layout o past
unloaded_some layout o h past e = ap (λ (t : Option EndHead). unloaded_by layout t past) e ∙ unloaded_read layout o past

pub unloaded_none : (layout : Layout) (o : Option Standing) (past : List Entry) → None ≡ option_map head_of o → past ≡ unloaded layout o past
unloaded_none layout o past e = ap (λ (t : Option EndHead). unloaded_by layout t past) e ∙ unloaded_read layout o past

pub paged_out_some : (layout : Layout) (o : Option Standing) (h : EndHead) (past : List Entry) → Some h ≡ option_map head_of o →
    paged_out_by layout (Some h) past ≡ paged_out layout o past
paged_out_some layout o h past e = ap (λ (t : Option EndHead). paged_out_by layout t past) e ∙ paged_out_read layout o past

pub paged_out_none : (layout : Layout) (o : Option Standing) (past : List Entry) → None ≡ option_map head_of o → past ≡ paged_out layout o past
paged_out_none layout o past e = ap (λ (t : Option EndHead). paged_out_by layout t past) e ∙ paged_out_read layout o past

any_mapped : {X Y : Type 0} (p : Y → Bool) (f : X → Y) (xs : List X) → list_any p (map f xs) ≡ list_any (λ x. p (f x)) xs
any_mapped p f [] = refl
any_mapped p f (x ∷ xs) = ap (λ (b : Bool). p (f x) || b) (any_mapped p f xs)

pub held_read : (layout : Layout) (past : List Entry) (node : NodeId) (frame : ℕ) →
    list_any (holds_frame node frame) (standings layout past) ≡ is_frame_held layout past node frame
held_read layout past node frame =
    any_mapped (holds_frame node frame) (λ (s : EndSetting). let t : Standing = record { setting = s; state = state_of layout past s.id } in t) layout.ends

abbrev pub is_free : Layout → List Entry → NodeId → ℕ → Bool
is_free layout past node frame = not (list_any (holds_frame node frame) (standings layout past))

pub free_read : (layout : Layout) (past : List Entry) (node : NodeId) (frame : ℕ) (b c : Bool) → b ≡ is_frame_held layout past node frame → b ≡ c →
    is_free layout past node frame ≡ not c
free_read layout past node frame b c e f = ap not (held_read layout past node frame ∙ (sym e ∙ f))

spare_found : (b : Bool) (node : NodeId) (source dest : EndpointId) (ends : List Standing) → b ≡ true →
    spare_of b (is_neither source dest) (filter (is_open_on_host node) ends) ≡ find (λ (s : Standing). is_open_on_host node s && is_neither source dest s) ends
spare_found true node source dest ends e = find_filtered (is_open_on_host node) (is_neither source dest) ends
spare_found false node source dest ends e = absurd (cc)

spare_not_found : (b : Bool) (p : Standing → Bool) (ends : List Standing) → b ≡ false → spare_of b p ends ≡ None
spare_not_found true p ends e = absurd (cc)
spare_not_found false p ends e = refl

pub spare_some : (keep : ℕ) (node : NodeId) (source dest : EndpointId) (ends : List Standing) (o : Option EndHead) →
    nat_lt keep (length (filter (is_open_on_host node) ends)) ≡ true →
    o ≡ option_map head_of (find (λ (s : Standing). is_open_on_host node s && is_neither source dest s) ends) →
    o ≡ option_map head_of (spare keep node source dest ends)
spare_some keep node source dest ends o more e =
    e ∙ sym (ap (option_map head_of) (spare_found (nat_lt keep (length (filter (is_open_on_host node) ends))) node source dest ends more))

pub spare_none : (keep : ℕ) (node : NodeId) (source dest : EndpointId) (ends : List Standing) →
    nat_lt keep (length (filter (is_open_on_host node) ends)) ≡ false → None ≡ option_map head_of (spare keep node source dest ends)
spare_none keep node source dest ends few =
    let here : List Standing = filter (is_open_on_host node) ends in
    sym (ap (option_map head_of) (spare_not_found (nat_lt keep (length here)) (is_neither source dest) here few))

-- ---- making ready

pub emptied_then : (b : Bool) (layout : Layout) (keep : ℕ) (node : NodeId) (source dest : EndpointId) (past : List Entry) → b ≡ true →
    emptied layout keep node source dest past ≡ emptied_if b layout keep node source dest past
emptied_then true layout keep node source dest past e = refl
emptied_then false layout keep node source dest past e = absurd (cc)

pub emptied_else : (b : Bool) (layout : Layout) (keep : ℕ) (node : NodeId) (source dest : EndpointId) (past : List Entry) → b ≡ false →
    past ≡ emptied_if b layout keep node source dest past
emptied_else true layout keep node source dest past e = absurd (cc)
emptied_else false layout keep node source dest past e = refl

dest_if : (b : Bool) (o : Option NodeId) (layout : Layout) (keep : ℕ) (source dest : EndpointId) (past : List Entry) → b ≡ true → o ≡ home layout dest →
    ready_at o layout keep source dest past ≡ ready_dest_if b layout keep source dest past
dest_if true o layout keep source dest past e same = ap (λ (t : Option NodeId). ready_at t layout keep source dest past) same
dest_if false o layout keep source dest past e same = absurd (cc)

dest_else : (b : Bool) (layout : Layout) (keep : ℕ) (source dest : EndpointId) (past : List Entry) → b ≡ false →
    past ≡ ready_dest_if b layout keep source dest past
dest_else true layout keep source dest past e = absurd (cc)
dest_else false layout keep source dest past e = refl

dest_none : (b : Bool) (layout : Layout) (keep : ℕ) (source dest : EndpointId) (past : List Entry) → None ≡ home layout dest →
    past ≡ ready_dest_if b layout keep source dest past
dest_none true layout keep source dest past same = ap (λ (t : Option NodeId). ready_at t layout keep source dest past) same
dest_none false layout keep source dest past same = refl

-- whether the destination is to be made ready
abbrev pub is_needed : Layout → EndpointId → EndpointId → List Entry → Bool
is_needed layout source dest past = not (same_end source dest) && not (state_of layout past dest).head.closed

pub dest_needed : (layout : Layout) (keep : ℕ) (node : NodeId) (source dest : EndpointId) (past : List Entry) → is_needed layout source dest past ≡ true →
    Some node ≡ home layout dest → ready layout keep node dest source dest past ≡ ready_dest layout keep source dest past
dest_needed layout keep node source dest past e same = dest_if (is_needed layout source dest past) (Some node) layout keep source dest past e same

pub dest_not_needed : (layout : Layout) (keep : ℕ) (source dest : EndpointId) (past : List Entry) → is_needed layout source dest past ≡ false →
    past ≡ ready_dest layout keep source dest past
dest_not_needed layout keep source dest past e = dest_else (is_needed layout source dest past) layout keep source dest past e

pub dest_nowhere : (layout : Layout) (keep : ℕ) (source dest : EndpointId) (past : List Entry) → None ≡ home layout dest →
    past ≡ ready_dest layout keep source dest past
dest_nowhere layout keep source dest past same = dest_none (is_needed layout source dest past) layout keep source dest past same

-- ---- room at a destination

found_cond : (layout : Layout) (past : List Entry) (b : Bool) (s : EndSetting) (o : Option Standing) (r : Option EndSetting) →
    o ≡ option_map (λ (t : EndSetting). standing_in layout past t) r →
    cond b (Some (standing_in layout past s)) o ≡ option_map (λ (t : EndSetting). standing_in layout past t) (cond b (Some s) r)
found_cond layout past true s o r e = refl
found_cond layout past false s o r e = e

found_so : (layout : Layout) (past : List Entry) (e : EndpointId) (settings : List EndSetting) →
    find (is_standing_of e) (map (standing_in layout past) settings) ≡ option_map (λ (s : EndSetting). standing_in layout past s) (find (has_id e) settings)
found_so layout past e [] = refl
found_so layout past e (s ∷ ss) = found_cond layout past (has_id e s) s (find (is_standing_of e) (map (standing_in layout past) ss)) (find (has_id e) ss)
    (found_so layout past e ss)

-- whether an endpoint has room
abbrev pub is_roomy : Layout → List Entry → EndpointId → Bool
is_roomy layout past e = (state_of layout past e).head.closed || nat_lt (count_by is_request (state_of layout past e).body.received) 16

same_id : (e : EndpointId) (b : Bool) (s t : EndSetting) (r : Option EndSetting) → has_id e s ≡ b → (r ≡ Some t → has_id e t ≡ true) →
    cond b (Some s) r ≡ Some t → has_id e t ≡ true
same_id e true s t r is h f =
    let same : s ≡ t = cc in
    ap (has_id e) (sym same) ∙ is
same_id e false s t r is h f = h f

found_id : (e : EndpointId) (ss : List EndSetting) (t : EndSetting) → find (has_id e) ss ≡ Some t → has_id e t ≡ true
found_id e [] t f = absurd (cc)
found_id e (s ∷ ss) t f = same_id e (has_id e s) s t (find (has_id e) ss) refl (found_id e ss t) f

roomy_by : (layout : Layout) (past : List Entry) (e : EndpointId) (o : Option EndSetting) (node : NodeId) → find (has_id e) layout.ends ≡ o →
    Some node ≡ home_by o → has_room (option_map (λ (s : EndSetting). standing_in layout past s) o) ≡ is_roomy layout past e
roomy_by layout past e None node f same = absurd (cc)
roomy_by layout past e (Some s) node f same = ap (is_roomy layout past) (sym (same_end-is e s.id (found_id e layout.ends s f)))

pub room_at : (layout : Layout) (past : List Entry) (e : EndpointId) (node : NodeId) → Some node ≡ home layout e →
    is_roomy layout past e ≡ has_room (find (is_standing_of e) (standings layout past))
room_at layout past e node same =
    sym (ap has_room (found_so layout past e layout.ends) ∙ roomy_by layout past e (find (has_id e) layout.ends) node refl same)

roomless_by : (layout : Layout) (past : List Entry) (o : Option EndSetting) → None ≡ home_by o →
    has_room (option_map (λ (s : EndSetting). standing_in layout past s) o) ≡ false
roomless_by layout past None same = refl
roomless_by layout past (Some s) same = absurd (cc)

pub no_room_at : (layout : Layout) (past : List Entry) (e : EndpointId) → None ≡ home layout e →
    false ≡ has_room (find (is_standing_of e) (standings layout past))
no_room_at layout past e same = sym (ap has_room (found_so layout past e layout.ends) ∙ roomless_by layout past (find (has_id e) layout.ends) same)

-- ---- page-ins and polls

abbrev page_in_read : EndHead → Turn
page_in_read h = Once (Events.PageIn h.node h.id)

page_in_reads : (o : Option Standing) → option_map page_in_read (option_map head_of o) ≡ option_map page_in_of o
page_in_reads None = refl
page_in_reads (Some s) = refl

pub page_in_some : (o : Option Standing) (h : EndHead) → Some h ≡ option_map head_of o → Some (Once (Events.PageIn h.node h.id)) ≡ option_map page_in_of o
page_in_some o h e = ap (option_map page_in_read) e ∙ page_in_reads o

pub page_in_none : (o : Option Standing) → None ≡ option_map head_of o → None ≡ option_map page_in_of o
page_in_none o e = ap (option_map page_in_read) e ∙ page_in_reads o

abbrev poll_read : EndMail → Turn
poll_read m = Once (Events.Call Outside m.id Calls.Poll)

poll_reads : (o : Option Standing) → option_map poll_read (option_map mail_of o) ≡ option_map poll_of o
poll_reads None = refl
poll_reads (Some s) = refl

pub poll_some : (o : Option Standing) (m : EndMail) → Some m ≡ option_map mail_of o → Some (Once (Events.Call Outside m.id Calls.Poll)) ≡ option_map poll_of o
poll_some o m e = ap (option_map poll_read) e ∙ poll_reads o

pub poll_none : (o : Option Standing) → None ≡ option_map mail_of o → None ≡ option_map poll_of o
poll_none o e = ap (option_map poll_read) e ∙ poll_reads o

-- ---- sending

pub sent_extends : (s : ScenarioLists) (node : NodeId) (source dest : EndpointId) (past : List Entry) → Extends past (sent_to s node source dest past)
sent_extends s node source dest past =
    let q : Quiet past (ready_dest (layout_of s) s.keep source dest past) = ready_dest-quiet (layout_of s) s.keep source dest past in
    let x : Entry = next_entry (layout_of s) (ready_dest (layout_of s) s.keep source dest past) (Events.Bind node source) in
    (q.added ++ x ∷ [], ap (λ (xs : List Entry). xs ++ x ∷ []) q.adds ∙ append_assoc past q.added (x ∷ []))

-- ---- calls of the threads

abbrev make_reads : Option Left → Option Turn
make_reads o = option_map make_of o

pub make_some : (o : Option Left) (l : LeftCall) → Some (left_of l) ≡ o → Some (Make l.call) ≡ option_map make_of o
make_some o l e = ap make_reads e

pub make_none : (o : Option Left) → None ≡ o → None ≡ option_map make_of o
make_none o e = ap make_reads e
