-- The ends of a node's channels, and its links, are what its own log says.
use Rattle.std.proofs.Common.{◌≡◌, ℕ, zero, suc, ◌+◌, if◌then◌else◌, Bool, true, false, cond, ◌||◌, ◌&&◌, List, [], ◌∷◌, Option, Some, None, reverse, refl, sym}
use Rattle.std.proofs.Common.{ap, ◌∙◌, length}
use Rattle.std.specs.Prelude.{is_some}
use Rattle.std.specs.List.{filter, filter_map, find, cons_option}
use Rattle.std.proofs.lemmas.Bool.{and_parts}
use Rattle.am_names.specs.declared.NodeId.{NodeId}
use Rattle.am_names.specs.declared.Packet.{Packet}
use Rattle.am_office_entries.specs.declared.Event.{Event}
use Rattle.am_office_entries.specs.declared.Event.TheVariants as Events
use Rattle.am_office_entries.specs.declared.Received.{Received}
use Rattle.am_office_entries.specs.declared.Received.TheVariants as Got
use Rattle.am_office_entries.specs.declared.Outcome.{Outcome}
use Rattle.am_office_entries.specs.declared.Outcome.TheVariants as Out
use Rattle.am_office_entries.specs.declared.Entry.{Entry}
use Rattle.am_names.specs.Names.{same_node}
use Rattle.am_office_entries.specs.Entries.{touches_node, is_node, node_touched, emitted_of, emitted_in, parcel, answer_packet, answer_by}
use Rattle.am_model.specs.Channels.{Channel, same_channel, sends_on, binds, sends, frees, frees_by, ends_tries, decides, decides_by, last_such, sequence}
use Rattle.am_model.specs.Channels.{bound_by, bound_message, attempt_by, attempt, mark_by, mark, emitted, is_on_link}
use Rattle.am_model.specs.History.{free_from, channel_to, next_number}
use Rattle.am_model_parts.proofs.Within.{count_within, find_within, filter-reverse}

on_node : (c : Channel) (node peer : NodeId) (k : ℕ) → same_channel c node peer k ≡ true → same_node c.node node ≡ true
on_node c node peer k h = (and_parts (same_node c.node node) (same_node c.peer peer) ((and_parts (same_node c.node node && same_node c.peer peer) _ h).0)).0

sent_on_node : (c : Channel) (node : NodeId) (o : Outcome) → sends_on c node o ≡ true → same_node c.node node ≡ true
sent_on_node c node (Out.Sent m peer channel seq attempt number) h = on_node c node peer channel h
sent_on_node c node o h = absurd (cc)

binds_on : (c : Channel) (e : Event) (o : Outcome) → binds c e o ≡ true → is_node c.node (node_touched e) ≡ true
binds_on c (Events.Bind node end) o h = sent_on_node c node o h
binds_on c e o h = absurd (cc)

sends_here : (c : Channel) (e : Event) (o : Outcome) → sends c e o ≡ true → is_node c.node (node_touched e) ≡ true
sends_here c (Events.Bind node end) o h = sent_on_node c node o h
sends_here c (Events.Expire node peer channel) o h = sent_on_node c node o h
sends_here c e o h = absurd (cc)

frees_here : (c : Channel) (e : Event) (o : Outcome) → frees c e o ≡ true → is_node c.node (node_touched e) ≡ true
frees_here c (Events.Expire node peer channel) o h = on_node c node peer channel ((and_parts (ends_tries o) _ h).1)
frees_here c (Events.Receive node peer number) (Out.Received channel seq attempt result) h = on_node c node peer channel ((and_parts (frees_by result) _ h).1)
frees_here c e o h = absurd (cc)

decides_here : (c : Channel) (e : Event) (o : Outcome) → decides c e o ≡ true → is_node c.node (node_touched e) ≡ true
decides_here c (Events.Receive node peer number) (Out.Received channel seq attempt result) h =
    on_node c node peer channel ((and_parts (decides_by result) _ h).1)
decides_here c e o h = absurd (cc)

either_here : (c : Channel) (e : Event) (o : Outcome) → (binds c e o || frees c e o) ≡ true → is_node c.node (node_touched e) ≡ true
either_here c e o h = by_test (binds c e o) (binds_on c e o) h
  where
    by_test : (b : Bool) → (b ≡ true → is_node c.node (node_touched e) ≡ true) → (b || frees c e o) ≡ true → is_node c.node (node_touched e) ≡ true
    by_test true first g = first refl
    by_test false first g = frees_here c e o g

last_within : (p : Entry → Bool) (node : NodeId) → ((x : Entry) → p x ≡ true → touches_node node x ≡ true) → (xs : List Entry) →
    last_such p (filter (touches_node node) xs) ≡ last_such p xs
last_within p node within xs = ap (find p) (sym (filter-reverse (touches_node node) xs)) ∙ find_within p (touches_node node) within (reverse xs)

pub sequence_own : (c : Channel) (xs : List Entry) → sequence c (filter (touches_node c.node) xs) ≡ sequence c xs
sequence_own c xs = count_within (λ (x : Entry). binds c x.event x.outcome) (touches_node c.node) (λ x. binds_on c x.event x.outcome) xs

pub bound_own : (c : Channel) (xs : List Entry) → bound_message c (filter (touches_node c.node) xs) ≡ bound_message c xs
bound_own c xs = ap bound_by (last_within (λ (x : Entry). binds c x.event x.outcome || frees c x.event x.outcome) c.node (λ x. either_here c x.event x.outcome)
    xs)

pub attempt_own : (c : Channel) (xs : List Entry) → attempt c (filter (touches_node c.node) xs) ≡ attempt c xs
attempt_own c xs = ap attempt_by (last_within (λ (x : Entry). sends c x.event x.outcome) c.node (λ x. sends_here c x.event x.outcome) xs)

pub mark_own : (c : Channel) (xs : List Entry) → mark c (filter (touches_node c.node) xs) ≡ mark c xs
mark_own c xs = ap mark_by (last_within (λ (x : Entry). decides c x.event x.outcome) c.node (λ x. decides_here c x.event x.outcome) xs)

-- whether a packet is there, and on the link
abbrev pub is_linked : NodeId → NodeId → Option Packet → Bool
is_linked node peer None = false
is_linked node peer (Some p) = is_on_link node peer p

parcel_on : (node peer at : NodeId) (stamp : ℕ) (o : Outcome) → is_linked node peer (parcel at stamp o) ≡ true → same_node node at ≡ true
parcel_on node peer at stamp (Out.Sent m to channel seq attempt number) h = (and_parts (same_node node at) (same_node peer to) h).0
parcel_on node peer at stamp o h = absurd (cc)

answer_on : (node peer at to : NodeId) (channel seq attempt stamp : ℕ) (r : Received) →
    is_linked node peer (answer_packet at to channel seq attempt stamp (answer_by r)) ≡ true → same_node node at ≡ true
answer_on node peer at to channel seq attempt stamp (Got.Accepted m answer) h = (and_parts (same_node node at) (same_node peer to) h).0
answer_on node peer at to channel seq attempt stamp (Got.Refused m cause answer) h = (and_parts (same_node node at) (same_node peer to) h).0
answer_on node peer at to channel seq attempt stamp (Got.Again serial verdict answer) h = (and_parts (same_node node at) (same_node peer to) h).0
answer_on node peer at to channel seq attempt stamp r h = absurd (cc)

emits_here : (node peer : NodeId) (stamp : ℕ) (e : Event) (o : Outcome) → is_linked node peer (emitted_in stamp e o) ≡ true →
    is_node node (node_touched e) ≡ true
emits_here node peer stamp (Events.Bind at end) o h = parcel_on node peer at stamp o h
emits_here node peer stamp (Events.Expire at to channel) o h = parcel_on node peer at stamp o h
emits_here node peer stamp (Events.Receive at to number) (Out.Received channel seq attempt result) h =
    answer_on node peer at to channel seq attempt stamp result h
emits_here node peer stamp e o h = absurd (cc)

-- the packets of a link are those that the node's own log emits
pub emitted_own : (node peer : NodeId) (xs : List Entry) → emitted node peer (filter (touches_node node) xs) ≡ emitted node peer xs
emitted_own node peer [] = refl
emitted_own node peer (x ∷ xs) = by_test (touches_node node x) refl (emits_here node peer x.stamp x.event x.outcome) (emitted_own node peer xs)
  where
    rest : List Packet
    rest = filter_map emitted_of (filter (touches_node node) xs)

    skip : (p : Option Packet) → (is_linked node peer p ≡ true → touches_node node x ≡ true) → touches_node node x ≡ false → (ps qs : List Packet) →
        filter (is_on_link node peer) ps ≡ filter (is_on_link node peer) qs →
        filter (is_on_link node peer) ps ≡ filter (is_on_link node peer) (cons_option p qs)
    skip None here off ps qs more = more
    skip (Some p) here off ps qs more = by_link (is_on_link node peer p) here
      where
        by_link : (b : Bool) → (b ≡ true → touches_node node x ≡ true) →
            filter (is_on_link node peer) ps ≡ cond b (p ∷ filter (is_on_link node peer) qs) (filter (is_on_link node peer) qs)
        by_link true h = absurd (let on : touches_node node x ≡ true = h refl in cc)
        by_link false h = more

    keep : (p : Option Packet) (ps qs : List Packet) → filter (is_on_link node peer) ps ≡ filter (is_on_link node peer) qs →
        filter (is_on_link node peer) (cons_option p ps) ≡ filter (is_on_link node peer) (cons_option p qs)
    keep None ps qs more = more
    keep (Some p) ps qs more = λ i. cond (is_on_link node peer p) (p ∷ more i) (more i)

    by_test : (t : Bool) → touches_node node x ≡ t → (is_linked node peer (emitted_of x) ≡ true → touches_node node x ≡ true) →
        emitted node peer (filter (touches_node node) xs) ≡ emitted node peer xs →
        filter (is_on_link node peer) (filter_map emitted_of (cond t (x ∷ filter (touches_node node) xs) (filter (touches_node node) xs))) ≡ filter
        (is_on_link node peer) (cons_option (emitted_of x) (filter_map emitted_of xs))
    by_test true is here more = keep (emitted_of x) rest (filter_map emitted_of xs) more
    by_test false is here more = skip (emitted_of x) here is rest (filter_map emitted_of xs) more

pub number_own : (node peer : NodeId) (xs : List Entry) → next_number node peer (filter (touches_node node) xs) ≡ next_number node peer xs
number_own node peer xs = ap (λ (ps : List Packet). length ps + 1) (emitted_own node peer xs)

-- so is the lowest free channel
pub free_own : (node peer : NodeId) (xs : List Entry) (k more : ℕ) → free_from node peer (filter (touches_node node) xs) k more ≡ free_from node peer xs k more
free_own node peer xs k zero = refl
free_own node peer xs k (suc more) =
    λ i. if is_some (bound_own (channel_to node peer k) xs i) then free_own node peer xs (k + 1) more i else Some k
