-- How many packets an interface emitted to each peer, one call more.
use Rattle.std.specs.List.{filter, filter_map, cons_option}
use Rattle.std.proofs.Common.{◌≡◌, ℕ, ◌+◌, Bool, true, false, cond, ◌&&◌, List, [], ◌∷◌, ◌++◌, length, Option, Some, None, is_some, refl, ap, ◌∙◌, subst}
use Rattle.std.proofs.Common.{if◌then◌else◌}
use Rattle.std.proofs.lemmas.List.{length-append}
use Rattle.std.proofs.lemmas.List.Elements.{filter-append, filter_map-append}
use Rattle.am_names.specs.declared.NodeId.{NodeId}
use Rattle.am_names.specs.declared.Verdict.{Verdict}
use Rattle.am_names.specs.declared.Packet.{Packet}
use Rattle.am_names.specs.declared.Packet.TheVariants as Packets
use Rattle.am_names.specs.Names.{same_node}
use Rattle.am_office_entries.specs.declared.Event.{Event}
use Rattle.am_office_entries.specs.declared.Event.TheVariants as Events
use Rattle.am_office_entries.specs.declared.Received.{Received}
use Rattle.am_office_entries.specs.declared.Outcome.{Outcome}
use Rattle.am_office_entries.specs.declared.Outcome.TheVariants as Out
use Rattle.am_office_entries.specs.declared.Entry.{Entry}
use Rattle.am_office_entries.specs.Entries.{emitted_of, answer_by, answer_packet}
use Rattle.am_model.specs.Channels.{Channel, arrival, emitted, is_on_link}
use Rattle.am_model.proofs.Names.{same_node-refl}
use Rattle.am_model.proofs.Received.{bit}
use Rattle.am_channel.specs.declared.ends.Ends.{Ends}
use Rattle.am_channel.specs.declared.sending.Bound.{Bound}
use Rattle.am_channel.specs.declared.sending.TimedOut.{TimedOut}
use Rattle.am_channel.specs.declared.sending.TimedOut.TheVariants as Times
use Rattle.am_channel.specs.Sending.{timed_out, settled}
use Rattle.am_channel.specs.Calls.{Call, Bind, TimeOut, Answer, Arrive, TellsCall, TellsTimedOut, TellsTimeOut, settled_as, arrived_as}
use Rattle.am_channel.proofs.Pushes.{entry_is}
use Rattle.am_model_parts.proofs.Growing.{on_link}

pub emitted_push : (node peer : NodeId) (xs : List Entry) (x : Entry) →
    emitted node peer (xs ++ x ∷ []) ≡ emitted node peer xs ++ on_link node peer (emitted_of x)
emitted_push node peer xs x =
    ap (filter (is_on_link node peer)) (filter_map-append emitted_of xs (x ∷ []))
    ∙ filter-append (is_on_link node peer) (filter_map emitted_of xs) (cons_option (emitted_of x) [])

-- a packet, if there is one, goes from the node to the peer
abbrev Goes : NodeId → NodeId → Option Packet → Type 0
Goes node peer None = Unit {0}
Goes node peer (Some (Packets.Parcel p)) = (p.from ≡ node) × (p.to ≡ peer)
Goes node peer (Some (Packets.Answer p)) = (p.from ≡ node) × (p.to ≡ peer)

answer_goes : (node peer : NodeId) (channel seq attempt stamp : ℕ) (a : Option (ℕ × Verdict)) →
    Goes node peer (answer_packet node peer channel seq attempt stamp a)
answer_goes node peer channel seq attempt stamp None = tt
answer_goes node peer channel seq attempt stamp (Some a) = (refl, refl)

at : (c : Channel) (x : Entry) (event : Event) (outcome : Outcome) → x.event ≡ event → x.outcome ≡ outcome →
    ((stamp : ℕ) → Goes c.node c.peer (emitted_of (record { stamp = stamp; event = event; outcome = outcome }))) → Goes c.node c.peer (emitted_of x)
at c x event outcome e o goes = subst (λ (y : Entry). Goes c.node c.peer (emitted_of y)) (entry_is x event outcome e o) (goes x.stamp)

receipt_goes : (c : Channel) (number seq attempt : ℕ) (r : Received) (x : Entry) → x.event ≡ Events.Receive c.node c.peer number →
    x.outcome ≡ Out.Received c.number seq attempt r → Goes c.node c.peer (emitted_of x)
receipt_goes c number seq attempt r x event outcome =
    at c x (Events.Receive c.node c.peer number) (Out.Received c.number seq attempt r) event outcome
    (λ stamp. answer_goes c.node c.peer c.number seq attempt stamp (answer_by r))

time_out_goes : (c : Channel) (b : Bound) (timed : TimedOut) (x : Entry) → TellsTimedOut c b timed x → Goes c.node c.peer (emitted_of x)
time_out_goes c b (Times.Resend sent) x tells =
    at c x (Events.Expire c.node c.peer c.number) (Out.Sent b.message c.peer c.number sent.seq sent.attempt tells.number) tells.event tells.outcome
    (λ stamp. (refl, refl))
time_out_goes c b (Times.GaveUp gone) x tells =
    at c x (Events.Expire c.node c.peer c.number) (if tells.is_answered then Out.Delivered gone.message.serial else Out.Unknown gone.message.serial) tells.event
    tells.outcome (by_test tells.is_answered)
  where
    by_test : (t : Bool) → (stamp : ℕ) → Goes c.node c.peer (emitted_of (record {
      stamp = stamp;
      event = Events.Expire c.node c.peer c.number;
      outcome = if t then Out.Delivered gone.message.serial else Out.Unknown gone.message.serial;
    }))
    by_test true stamp = tt
    by_test false stamp = tt

expiry_goes : (c : Channel) (tries seq : ℕ) (b : Option Bound) (x : Entry) → TellsTimeOut c tries seq b x → Goes c.node c.peer (emitted_of x)
expiry_goes c tries seq None x tells = absurd tells
expiry_goes c tries seq (Some b) x tells = time_out_goes c b (timed_out tries seq b) x tells

-- what tells of a call on a channel emits to its peer alone
call_goes : (c : Channel) (e : Ends) (call : Call) (x : Entry) → TellsCall c e call x → Goes c.node c.peer (emitted_of x)
call_goes c e (Bind m slot) x tells =
    at c x (Events.Bind c.node tells.end) (Out.Sent m c.peer c.number (e.sending.seq + 1) 0 tells.number) tells.event tells.outcome (λ stamp. (refl, refl))
call_goes c e (TimeOut tries) x tells = expiry_goes c tries e.sending.seq e.sending.bound x tells
call_goes c e (Answer p) x tells = receipt_goes c tells.number p.seq p.attempt (settled_as tells.limit tells.bounces (settled e.sending p)) x tells.event
    tells.outcome
call_goes c e (Arrive p v) x tells = receipt_goes c tells.number p.seq p.attempt (arrived_as p.message tells.answer v (arrival e.receiving p.seq p.attempt)) x
    tells.event tells.outcome

-- so the packets of a link are one more where it goes there, and else as many
goes_on : (node peer to : NodeId) (p : Option Packet) → Goes node peer p → length (on_link node to p) ≡ bit (is_some p && same_node to peer)
goes_on node peer to None goes = refl
goes_on node peer to (Some (Packets.Parcel p)) goes = on (same_node to peer) (λ j. same_node-refl node j && same_node to peer)
    (λ j. same_node node (goes.0 j) && same_node to (goes.1 j))
  where
    on : (t : Bool) → (same_node node node && same_node to peer) ≡ t →
        (same_node node p.from && same_node to p.to) ≡ (same_node node node && same_node to peer) →
        length (cond (same_node node p.from && same_node to p.to) (Packets.Parcel p ∷ []) []) ≡ bit t
    on t is moved = ap (λ (b : Bool). length (cond b (Packets.Parcel p ∷ []) [])) (moved ∙ is) ∙ by_test t
      where
        by_test : (t : Bool) → length (cond t (Packets.Parcel p ∷ []) []) ≡ bit t
        by_test true = refl
        by_test false = refl
goes_on node peer to (Some (Packets.Answer p)) goes = on (same_node to peer) (λ j. same_node-refl node j && same_node to peer)
    (λ j. same_node node (goes.0 j) && same_node to (goes.1 j))
  where
    on : (t : Bool) → (same_node node node && same_node to peer) ≡ t →
        (same_node node p.from && same_node to p.to) ≡ (same_node node node && same_node to peer) →
        length (cond (same_node node p.from && same_node to p.to) (Packets.Answer p ∷ []) []) ≡ bit t
    on t is moved = ap (λ (b : Bool). length (cond b (Packets.Answer p ∷ []) [])) (moved ∙ is) ∙ by_test t
      where
        by_test : (t : Bool) → length (cond t (Packets.Answer p ∷ []) []) ≡ bit t
        by_test true = refl
        by_test false = refl

pub call_emits : (c : Channel) (log : List Entry) (e : Ends) (call : Call) (x : Entry) (to : NodeId) → TellsCall c e call x →
    length (emitted c.node to (log ++ x ∷ [])) ≡ length (emitted c.node to log) + bit (is_some (emitted_of x) && same_node to c.peer)
call_emits c log e call x to tells =
    ap (λ (ps : List Packet). length ps) (emitted_push c.node to log x)
    ∙ length-append (emitted c.node to log) (on_link c.node to (emitted_of x))
    ∙ ap (λ (n : ℕ). length (emitted c.node to log) + n) (goes_on c.node c.peer to (emitted_of x) (call_goes c e call x tells))
