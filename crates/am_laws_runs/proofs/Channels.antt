-- A bound channel is one of the layout's.
use Rattle.std.specs.Prelude.{◌==◌}
use Rattle.std.proofs.Common.{◌≡◌, ◌⊎◌, inl, inr, ⊎_elim, ℕ, ◌+◌, ◌<◌, Bool, true, false, ◌&&◌, ◌||◌, List, [], ◌∷◌, ◌++◌, Option, Some, None, refl, sym, ◌∙◌}
use Rattle.std.proofs.Common.{subst, arith, eqb-true, if◌then◌else◌}
use Rattle.std.proofs.lemmas.Bool.{and_parts}
use Rattle.am_names.specs.declared.EndpointId.{EndpointId}
use Rattle.am_names.specs.declared.NodeId.{NodeId}
use Rattle.am_names.specs.declared.Message.{Message}
use Rattle.am_names.specs.Names.{same_node}
use Rattle.am_office_entries.specs.declared.Event.{Event}
use Rattle.am_office_entries.specs.declared.Event.TheVariants as Events
use Rattle.am_office_entries.specs.declared.Outcome.{Outcome}
use Rattle.am_office_entries.specs.declared.Entry.{Entry}
use Rattle.am_model.specs.declared.Queued.{Queued}
use Rattle.am_model.specs.Endpoint.{front}
use Rattle.am_model.specs.Layout.{Layout, home}
use Rattle.am_model.specs.Channels.{Channel, same_channel, bound_message}
use Rattle.am_model.specs.History.{MayFollow, IsHistory, state_of, channel_by, channel_for, bind, bind_to, outcome_of}
use Rattle.am_model.proofs.Each.{over_each}
use Rattle.am_model.proofs.Ends.{bound_push}
use Rattle.am_model.proofs.Channels.{free_below}
use Rattle.am_laws.proofs.Delivered.{bound_then, expire_binds, receive_binds}

-- ---- the number of a free channel

channel_below : (layout : Layout) (node : NodeId) (past : List Entry) (peer : Option NodeId) (k : ℕ) → channel_by layout node past peer ≡ Some k →
    k < layout.channels
channel_below layout node past None k h = absurd (cc)
channel_below layout node past (Some peer) k h =
    let below : k < 0 + layout.channels = free_below node peer past 0 layout.channels k h in omega (arith, below)

-- ---- a channel that is bound now was bound before, or has a number of the layout's

abbrev pub Numbered : Layout → Channel → Option Message → Message → Type 0
Numbered layout c before m = (before ≡ Some m) ⊎ (c.number < layout.channels)

bind_numbered : (layout : Layout) (past : List Entry) (c : Channel) (m : Message) (node : NodeId) (end : EndpointId) (q : Queued) (peer : Option NodeId)
    (channel : Option ℕ) → ((k : ℕ) → channel ≡ Some k → k < layout.channels) →
    bound_then c (Events.Bind node end) (bind_to node past q peer channel) (bound_message c past) ≡ Some m → Numbered layout c (bound_message c past) m
bind_numbered layout past c m node end q (Some peer) (Some k) below h = by_test (same_channel c node peer k) refl h
  where
    by_test : (t : Bool) → same_channel c node peer k ≡ t → (if t || false then Some q.message else bound_message c past) ≡ Some m →
        Numbered layout c (bound_message c past) m
    by_test true is e =
        let parts = and_parts (same_node c.node node && same_node c.peer peer) (c.number == k) is in
        let number : c.number ≡ k = eqb-true c.number k parts.1 in
        let low : k < layout.channels = below k refl in
        inr (omega (arith, number, low))
    by_test false is e = inl e
bind_numbered layout past c m node end q (Some peer) None below h = inl h
bind_numbered layout past c m node end q None channel below h = inl h

front_numbered : (layout : Layout) (past : List Entry) (c : Channel) (m : Message) (node : NodeId) (end : EndpointId) (f : Option Queued) →
    bound_then c (Events.Bind node end) (bind layout node past f) (bound_message c past) ≡ Some m → Numbered layout c (bound_message c past) m
front_numbered layout past c m node end None h = inl h
front_numbered layout past c m node end (Some q) h =
    bind_numbered layout past c m node end q (home layout q.message.dest) (channel_for layout node past (Some q))
    (λ (k : ℕ) e. channel_below layout node past (home layout q.message.dest) k e) h

event_numbered : (layout : Layout) (past : List Entry) (c : Channel) (m : Message) (event : Event) →
    bound_then c event (outcome_of layout past event) (bound_message c past) ≡ Some m → Numbered layout c (bound_message c past) m
event_numbered layout past c m (Events.Bind node end) h = front_numbered layout past c m node end (front (state_of layout past end)) h
event_numbered layout past c m (Events.Expire node peer channel) h =
    inl (expire_binds c node peer channel (outcome_of layout past (Events.Expire node peer channel)) (bound_message c past) m h)
event_numbered layout past c m (Events.Receive node peer number) h =
    inl (receive_binds c node peer number (outcome_of layout past (Events.Receive node peer number)) (bound_message c past) m h)
event_numbered layout past c m event h = inl h

abbrev pub ChannelsBelow : Layout → List Entry → Type 0
ChannelsBelow layout past = (c : Channel) (m : Message) → bound_message c past ≡ Some m → c.number < layout.channels

below_more : (layout : Layout) (past : List Entry) (x : Entry) → ChannelsBelow layout past → MayFollow layout past x → ChannelsBelow layout (past ++ x ∷ [])
below_more layout past x k may c m h =
    let next : bound_then c x.event (outcome_of layout past x.event) (bound_message c past) ≡ Some m =
    subst (λ (o : Outcome). bound_then c x.event o (bound_message c past) ≡ Some m) may.outcome (sym (bound_push c past x _ refl) ∙ h) in
    ⊎_elim (λ (before : bound_message c past ≡ Some m). k c m before) (λ (low : c.number < layout.channels). low) (event_numbered layout past c m x.event next)

pub channels_below : (layout : Layout) (past : List Entry) → IsHistory layout past → ChannelsBelow layout past
channels_below layout past h =
    over_each (MayFollow layout) (λ (xs : List Entry). ChannelsBelow layout xs) (λ xs x k may. below_more layout xs x k may) [] past (λ c m e. absurd (cc)) h

-- ---- homes
