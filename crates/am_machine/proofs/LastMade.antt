-- The entry that a journal ends with, read in a log that it went to.
use Rattle.std.specs.Prelude.{nat_lt, slice_get, slice_index_or}
use Rattle.std.specs.List.{filter, list_any}
use Rattle.std.specs.Option.{option_copied}
use Rattle.std.proofs.Common.{◌≡◌, ◌-◌, ◌<◌, ℕ, Bool, true, false, cond, Bor, List, [], ◌∷◌, ◌++◌, length, Option, Some, None, if◌then◌else◌, refl, sym, ap}
use Rattle.std.proofs.Common.{◌∙◌, subst, arith}
use Rattle.std.proofs.lemmas.List.{length_push}
use Rattle.std.proofs.lemmas.List.Elements.{filter-append}
use Rattle.std.proofs.lemmas.Option.{slice_get-get_or}
use Rattle.am_names.specs.declared.EndpointId.{EndpointId}
use Rattle.am_names.specs.declared.NodeId.{NodeId}
use Rattle.am_office_entries.specs.declared.Condition.TheVariants as Needs
use Rattle.am_office_entries.specs.declared.Entry.{Entry}
use Rattle.am_office_entries.specs.declared.Event.{Event}
use Rattle.am_office_entries.specs.declared.Event.TheVariants as Events
use Rattle.am_office_entries.specs.declared.Outcome.{Outcome}
use Rattle.am_names.specs.Names.{same_end}
use Rattle.am_office_entries.specs.Entries.{ends_touched, is_node, node_touched, reached_by, touches, touches_node}
use Rattle.am_model.specs.Channels.{emitted}
use Rattle.am_model.specs.Endpoint.{front}
use Rattle.am_model.specs.History.{IsHistory, MayFollow, channel_for, channel_to, failing, is_bound, is_home, is_in_range, state_of}
use Rattle.am_model.specs.Tables.{bind_table, expire_table}
use Rattle.am_model.specs.Layout.{Layout, declared}
use Rattle.am_model.proofs.Each.{each_at}
use Rattle.am_model.proofs.Names.{same_end-first, same_node-refl}
use Rattle.am_model_parts.proofs.Frames.{none_holds}
use Rattle.am_iface.specs.View.{InterfaceView}
use Rattle.am_machine.specs.Interfaces.{AreInterfaces}
use Rattle.am_machine.specs.Lasts.{end_named}
use Rattle.am_machine.proofs.Applied as applied
use Rattle.am_machine.proofs.Fitting.{range_bind, range_expire, range_receive}
use Rattle.am_machine.proofs.Moving.{end_known}

-- what is lent is what is there
pub read_last : (r : Option (Bor Entry)) (b : Bor Entry) (x : Entry) → option_copied r ≡ Some x → r ≡ Some b → b.now ≡ x
read_last r b x is at = let both : Some b.now ≡ Some x = ap (λ (o : Option (Bor Entry)). option_copied o) (sym at) ∙ is in cc

-- and something is
pub not_none : (r : Option (Bor Entry)) (x : Entry) → option_copied r ≡ Some x → r ≡ None → ⊥
not_none r x is none = let both : ◌≡◌ {A = Option Entry} None (Some x) = ap (λ (o : Option (Bor Entry)). option_copied o) (sym none) ∙ is in cc

at_end : (past : List Entry) (x : Entry) → slice_get (past ++ x ∷ []) (length past) ≡ Some x
at_end [] x = refl
at_end (y ∷ past) x = at_end past x

before_end : (past : List Entry) (x : Entry) → length (past ++ x ∷ []) - 1 ≡ length past
before_end past x = let more = length_push past x in omega (arith, more)

-- where a log ends with an entry, that is the one at its last place
last_is : (log past : List Entry) (x : Entry) → log ≡ past ++ x ∷ [] → slice_get log (length log - 1) ≡ Some x
last_is log past x is =
    subst (λ (xs : List Entry). slice_get xs (length xs - 1) ≡ Some x) (sym is) (ap (slice_get (past ++ x ∷ [])) (before_end past x) ∙ at_end past x)

-- the part of a journal ends with its last entry, where that is of the part
pub part_ends : (q : Entry → Bool) (log journal past : List Entry) (x : Entry) → log ≡ filter q journal → journal ≡ past ++ x ∷ [] → q x ≡ true →
    log ≡ filter q past ++ x ∷ []
part_ends q log journal past x part is of =
    part ∙ ap (filter q) is ∙ filter-append q past (x ∷ []) ∙ ap (λ (b : Bool). filter q past ++ cond b (x ∷ []) []) of

-- ---- endpoints

named_declared : (layout : Layout) (event : Event) (end : EndpointId) → is_in_range layout event ≡ true → end_named event ≡ Some end →
    declared layout end ≡ true
named_declared layout (Events.Call actor e call) end range is = let same : e ≡ end = cc in
    subst (λ (d : EndpointId). declared layout d ≡ true) same (applied.end_declared layout actor e call range)
named_declared layout (Events.Want actor e) end range is = let same : e ≡ end = cc in
    subst (λ (d : EndpointId). declared layout d ≡ true) same (applied.want_declared layout actor e range)
named_declared layout (Events.Carry e) end range is = let same : e ≡ end = cc in subst (λ (d : EndpointId). declared layout d ≡ true) same range
named_declared layout (Events.Drain node e) end range is = end_known layout (Events.Drain node e) end range is
named_declared layout (Events.Unload node e) end range is = end_known layout (Events.Unload node e) end range is
named_declared layout (Events.Load node e frame) end range is = end_known layout (Events.Load node e frame) end range is
named_declared layout (Events.PageOut node e) end range is = end_known layout (Events.PageOut node e) end range is
named_declared layout (Events.PageIn node e) end range is = end_known layout (Events.PageIn node e) end range is
named_declared layout (Events.Bind node e) end range is = absurd (cc)
named_declared layout (Events.Expire node peer channel) end range is = absurd (cc)
named_declared layout (Events.Receive node peer number) end range is = absurd (cc)

named_first : (event : Event) (outcome : Outcome) (end : EndpointId) → end_named event ≡ Some end →
    (rest : List EndpointId) × (ends_touched event outcome ≡ end ∷ rest)
named_first (Events.Call actor e call) outcome end is = let same : e ≡ end = cc in ([], ap (λ (d : EndpointId). d ∷ []) same)
named_first (Events.Want actor e) outcome end is = let same : e ≡ end = cc in ([], ap (λ (d : EndpointId). d ∷ []) same)
named_first (Events.Carry e) outcome end is = let same : e ≡ end = cc in (reached_by outcome, ap (λ (d : EndpointId). d ∷ reached_by outcome) same)
named_first (Events.Drain node e) outcome end is = let same : e ≡ end = cc in ([], ap (λ (d : EndpointId). d ∷ []) same)
named_first (Events.Unload node e) outcome end is = let same : e ≡ end = cc in ([], ap (λ (d : EndpointId). d ∷ []) same)
named_first (Events.Load node e frame) outcome end is = let same : e ≡ end = cc in ([], ap (λ (d : EndpointId). d ∷ []) same)
named_first (Events.PageOut node e) outcome end is = let same : e ≡ end = cc in ([], ap (λ (d : EndpointId). d ∷ []) same)
named_first (Events.PageIn node e) outcome end is = let same : e ≡ end = cc in ([], ap (λ (d : EndpointId). d ∷ []) same)
named_first (Events.Bind node e) outcome end is = absurd (cc)
named_first (Events.Expire node peer channel) outcome end is = absurd (cc)
named_first (Events.Receive node peer number) outcome end is = absurd (cc)

named_touched : (x : Entry) (end : EndpointId) → end_named x.event ≡ Some end → touches end x ≡ true
named_touched x end is =
    let first = named_first x.event x.outcome end is in ap (λ (es : List EndpointId). list_any (same_end end) es) first.1 ∙ same_end-first end first.0

follows : (layout : Layout) (journal past : List Entry) (x : Entry) → IsHistory layout journal → journal ≡ past ++ x ∷ [] → MayFollow layout past x
follows layout journal past x history is = each_at (MayFollow layout) [] past x [] (subst (λ (xs : List Entry). IsHistory layout xs) is history)

-- the endpoint is declared
pub there_declared : (layout : Layout) (journal past : List Entry) (x : Entry) (end : EndpointId) → IsHistory layout journal → journal ≡ past ++ x ∷ [] →
    end_named x.event ≡ Some end → declared layout end ≡ true
there_declared layout journal past x end history is named = named_declared layout x.event end (follows layout journal past x history is).in_range named

-- what is read in its log
pub there_last : (log seen journal past : List Entry) (x : Entry) (end : EndpointId) (r : Option Entry) → seen ≡ log → log ≡ filter (touches end) journal →
    journal ≡ past ++ x ∷ [] → end_named x.event ≡ Some end → r ≡ slice_get seen (length seen - 1) → r ≡ Some x
there_last log seen journal past x end r same part is named reads =
    reads ∙ last_is seen (filter (touches end) past) x (same ∙ part_ends (touches end) log journal past x part is (named_touched x end named))

-- ---- interfaces

-- the network is packet, and the node one of it
on_packet : (layout : Layout) (past : List Entry) (event : Event) (node : NodeId) → is_in_range layout event ≡ true → failing layout past event ≡ None →
    node_touched event ≡ Some node → (layout.direct ≡ false) × (node.0 < layout.nodes)
on_packet layout past (Events.Bind n end) node range on is =
    let same : n ≡ node = cc in (
      (none_holds layout.direct Needs.NotPacket (bind_table (is_home layout end n) (state_of layout past end)
          (channel_for layout n past (front (state_of layout past end)))) on).0,
      subst (λ (m : NodeId). m.0 < layout.nodes) same (range_bind layout n end range).1,
    )
on_packet layout past (Events.Expire n peer channel) node range on is =
    let same : n ≡ node = cc in (
      (none_holds layout.direct Needs.NotPacket (expire_table (is_bound (channel_to n peer channel) past)) on).0,
      subst (λ (m : NodeId). m.0 < layout.nodes) same (range_expire layout n peer channel range).0,
    )
on_packet layout past (Events.Receive n peer number) node range on is =
    let same : n ≡ node = cc in (
      (none_holds layout.direct Needs.NotPacket ((nat_lt (length (emitted peer n past)) number, Needs.NoPacket) ∷ []) on).0,
      subst (λ (m : NodeId). m.0 < layout.nodes) same (range_receive layout n peer number range).0,
    )
on_packet layout past (Events.Call actor end call) node range on is = absurd (cc)
on_packet layout past (Events.Want actor end) node range on is = absurd (cc)
on_packet layout past (Events.Carry end) node range on is = absurd (cc)
on_packet layout past (Events.Drain n end) node range on is = absurd (cc)
on_packet layout past (Events.Unload n end) node range on is = absurd (cc)
on_packet layout past (Events.Load n end frame) node range on is = absurd (cc)
on_packet layout past (Events.PageOut n end) node range on is = absurd (cc)
on_packet layout past (Events.PageIn n end) node range on is = absurd (cc)

-- its interface is there
pub here_found : (layout : Layout) (journal past : List Entry) (is : List InterfaceView) (x : Entry) (node : NodeId) → IsHistory layout journal →
    AreInterfaces layout journal is → journal ≡ past ++ x ∷ [] → node_touched x.event ≡ Some node → node.0 < length is
here_found layout journal past is x node history are ends touched =
    let may = follows layout journal past x history ends in
    let on = on_packet layout past x.event node may.in_range may.enabled touched in
    let all : length is ≡ layout.nodes = are.all ∙ ap (λ (b : Bool). if b then 0 else layout.nodes) on.0 in
    let below = on.1 in
    omega (arith, all, below)

pub here_read : (is seen : List InterfaceView) (k : ℕ) (one : InterfaceView) → seen ≡ is → k < length is → one ≡ slice_index_or seen k one →
    slice_get is k ≡ Some one
here_read is seen k one same lt value =
    slice_get-get_or is k one lt ∙ ap (λ (i : InterfaceView). Some i) (sym (value ∙ ap (λ (xs : List InterfaceView). slice_index_or xs k one) same))

-- and its log ends with the entry
pub here_ends : (layout : Layout) (journal past : List Entry) (is : List InterfaceView) (i : InterfaceView) (x : Entry) (node : NodeId) →
    AreInterfaces layout journal is → slice_get is node.0 ≡ Some i → journal ≡ past ++ x ∷ [] → node_touched x.event ≡ Some node →
    i.log ≡ filter (touches_node node) past ++ x ∷ []
here_ends layout journal past is i x node are at ends touched =
    part_ends (touches_node node) i.log journal past x (are.each node.0 i at).part ends
    (ap (λ (o : Option NodeId). is_node node o) touched ∙ same_node-refl node)

-- ---- an event goes to one of them

pub goes_somewhere : (event : Event) → end_named event ≡ None → node_touched event ≡ None → ⊥
goes_somewhere (Events.Call actor end call) a b = absurd (cc)
goes_somewhere (Events.Want actor end) a b = absurd (cc)
goes_somewhere (Events.Carry end) a b = absurd (cc)
goes_somewhere (Events.Bind node end) a b = absurd (cc)
goes_somewhere (Events.Expire node peer channel) a b = absurd (cc)
goes_somewhere (Events.Receive node peer number) a b = absurd (cc)
goes_somewhere (Events.Drain node end) a b = absurd (cc)
goes_somewhere (Events.Unload node end) a b = absurd (cc)
goes_somewhere (Events.Load node end frame) a b = absurd (cc)
goes_somewhere (Events.PageOut node end) a b = absurd (cc)
goes_somewhere (Events.PageIn node end) a b = absurd (cc)
