-- A work that touches no endpoint, and one that emits no packet.
use Rattle.std.specs.Prelude.{◌↔◌, ◌⊎◌, is_some, not}
use Rattle.std.specs.Option.{option_map}
use Rattle.std.proofs.Common.{◌≡◌, ◌≢◌, Bool, true, false, Option, Some, None, List, refl, sym, ◌∙◌, inl, inr, subst, true≢false, ⊎_elim}
use Rattle.am_names.specs.declared.EndpointId.{EndpointId}
use Rattle.am_names.specs.declared.NodeId.{NodeId}
use Rattle.am_names.specs.declared.Message.{Message}
use Rattle.am_names.specs.declared.Packet.TheVariants as Packets
use Rattle.am_office_entries.specs.declared.Entry.{Entry}
use Rattle.am_channel.specs.declared.sending.Bound.{Bound}
use Rattle.am_model.specs.Channels.{Arrival, Stale, Again, Fresh, Channel, bound_message}
use Rattle.am_model.specs.History.{is_bound}
use Rattle.am_model_parts.specs.declared.work.Work.{Work}
use Rattle.am_model_parts.specs.declared.work.Work.TheVariants as Works
use Rattle.am_model_parts.specs.Interface.{InterfaceLog, answers_to, arrival_in, channel_in, emits_to, has_try_left, needs, needs_arrival, needs_bound}
use Rattle.am_model_parts.specs.Interface.{sends_again_to, settles}
use Rattle.am_iface.specs.Touches.{EmitsNone, TouchesNone}
use Rattle.am_iface.proofs.Frees.{bound_is}

arrives_nowhere : (e : EndpointId) (a : Arrival) → (needs_arrival e a ≡ None) ↔ (a ≢ Fresh)
arrives_nowhere e Stale = ((λ h is. absurd (cc)), (λ h. refl))
arrives_nowhere e (Again verdict) = ((λ h is. absurd (cc)), (λ h. refl))
arrives_nowhere e Fresh = ((λ h is. absurd (cc)), (λ h. absurd (h refl)))

none_bound : (m : Option Message) (t : Bool) → (needs_bound m t ≡ None) ↔ ((m ≡ None) ⊎ (t ≡ false))
none_bound None t = ((λ h. inl refl), (λ h. refl))
none_bound (Some m) false = ((λ h. inr refl), (λ h. refl))
none_bound (Some m) true = ((λ h. absurd (cc)), (λ h. absurd (⊎_elim (λ none. let both : Some m ≡ None = none in cc) (λ no. true≢false no) h)))

not_false : (t : Bool) → (not t ≡ false) ↔ (t ≡ true)
not_false true = ((λ h. refl), (λ h. refl))
not_false false = ((λ h. absurd (true≢false h)), (λ h. absurd (true≢false (sym h))))

pub touches_none : (i : InterfaceLog) (w : Work) → (needs i w ≡ None) ↔ TouchesNone i w
touches_none i (Works.Receive (Packets.Parcel p)) = arrives_nowhere p.message.dest (arrival_in i p.from p.channel p.seq p.attempt)
touches_none i (Works.Receive (Packets.Answer p)) = none_bound (bound_message (channel_in i p.from p.channel) i.log)
    (settles i (channel_in i p.from p.channel) p)
touches_none i (Works.Bind end) = ((λ h. let both : Some end ≡ None = h in cc), (λ h. absurd h))
touches_none i (Works.Expire peer channel) =
    let left = has_try_left i (channel_in i peer channel) in
    let m = bound_message (channel_in i peer channel) i.log in (
      (λ h. ⊎_elim (λ none. inl none) (λ no. inr ((not_false left).0 no)) ((none_bound m (not left)).0 h)),
      (λ h. (none_bound m (not left)).1 (⊎_elim (λ none. inl none) (λ yes. inr ((not_false left).1 yes)) h)),
    )

answers_nowhere : (peer : NodeId) (a : Arrival) → (answers_to peer a ≡ None) ↔ (a ≡ Stale)
answers_nowhere peer Stale = ((λ h. refl), (λ h. refl))
answers_nowhere peer (Again verdict) = ((λ h. absurd (cc)), (λ h. absurd (cc)))
answers_nowhere peer Fresh = ((λ h. absurd (cc)), (λ h. absurd (cc)))

none_again : (peer : NodeId) (m : Option Message) (t : Bool) → (sends_again_to peer m t ≡ None) ↔ ((m ≡ None) ⊎ (t ≡ false))
none_again peer None t = ((λ h. inl refl), (λ h. refl))
none_again peer (Some m) false = ((λ h. inr refl), (λ h. refl))
none_again peer (Some m) true = ((λ h. absurd (cc)), (λ h. absurd (⊎_elim (λ none. let both : Some m ≡ None = none in cc) (λ no. true≢false no) h)))

pub emits_none : (i : InterfaceLog) (w : Work) → (emits_to i w ≡ None) ↔ EmitsNone i w
emits_none i (Works.Receive (Packets.Parcel p)) = answers_nowhere p.from (arrival_in i p.from p.channel p.seq p.attempt)
emits_none i (Works.Receive (Packets.Answer p)) = ((λ h. tt), (λ h. refl))
emits_none i (Works.Bind end) = ((λ h. tt), (λ h. refl))
emits_none i (Works.Expire peer channel) = none_again peer (bound_message (channel_in i peer channel) i.log) (has_try_left i (channel_in i peer channel))

-- what is answered is None where the work touches none
pub untouched : (i : InterfaceLog) (w : Work) (r : Option EndpointId) → r ≡ needs i w → (r ≡ None) ↔ TouchesNone i w
untouched i w r is = subst (λ (o : Option EndpointId). (o ≡ None) ↔ TouchesNone i w) (sym is) (touches_none i w)

pub unsent : (i : InterfaceLog) (w : Work) (r : Option NodeId) → r ≡ emits_to i w → (r ≡ None) ↔ EmitsNone i w
unsent i w r is = subst (λ (o : Option NodeId). (o ≡ None) ↔ EmitsNone i w) (sym is) (emits_none i w)

none_is : (b : Option Bound) (t : Bool) → t ≡ is_some b → (b ≡ None) ↔ (t ≡ false)
none_is None t is = ((λ h. is), (λ h. refl))
none_is (Some b) t is = ((λ h. absurd (cc)), (λ h. absurd (true≢false (sym is ∙ h))))

-- a channel is idle where nothing is bound
pub idle_is : (c : Channel) (log : List Entry) (b : Option Bound) → option_map (λ (b : Bound). b.message) b ≡ bound_message c log →
    (b ≡ None) ↔ (is_bound c log ≡ false)
idle_is c log b is = none_is b (is_bound c log) (bound_is c log b is)
