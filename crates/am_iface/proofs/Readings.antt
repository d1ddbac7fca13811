-- What an interface reads off the ends of a channel is what its log says.
use Rattle.std.specs.Prelude.{nat_lt, not, IfSome}
use Rattle.std.specs.Option.{option_map}
use Rattle.std.proofs.Common.{◌≡◌, ℕ, ◌+◌, ◌*◌, ◌<◌, ◌==◌, Bool, true, false, ◌&&◌, List, get_or, Option, Some, None, refl, sym, ap, ◌∙◌, subst, arith}
use Rattle.std.proofs.Common.{if◌then◌else◌}
use Rattle.std.proofs.lemmas.Option.{slice_get_read}
use Rattle.am_names.specs.declared.EndpointId.{EndpointId}
use Rattle.am_names.specs.declared.NodeId.{NodeId}
use Rattle.am_names.specs.declared.Message.{Message}
use Rattle.am_names.specs.declared.AnswerPacket.{AnswerPacket}
use Rattle.am_office_entries.specs.declared.Entry.{Entry}
use Rattle.am_model.specs.Channels.{Channel, sequence, bound_message, attempt, mark, arrival}
use Rattle.am_model.specs.History.{channel_to, counts}
use Rattle.am_channel.specs.declared.ends.Ends.{Ends}
use Rattle.am_channel.specs.declared.sending.Bound.{Bound}
use Rattle.am_channel.specs.declared.sending.TimedOut.TheVariants as Times
use Rattle.am_channel.specs.Sending.{settled, settled_by, settled_if}
use Rattle.am_channel.specs.Counted.{AreCounted}
use Rattle.am_model_parts.specs.Interface.{InterfaceLog, needs_arrival, answers_to, needs_bound, settles, has_try_left, sends_again_to, channel_in}
use Rattle.am_iface.specs.ByEnds.{needs_settling, needs_time_out, needs_given_up, emits_retry, emits_again}
use Rattle.am_iface.specs.Kept.{AreOfLog, IsCounted, settings_in, view_of}
use Rattle.am_iface.specs.Settings.{SettingsView}
use Rattle.am_iface.specs.View.{InterfaceView, own}
use Rattle.am_iface.specs.declared.Interface.TheInside.{Inside}

-- the ends of a channel are counted in the log
pub ends_at : (set : SettingsView) (ends : List Ends) (counts : List ℕ) (log : List Entry) (peer : NodeId) (channel : ℕ) (e : Ends) →
    AreOfLog set ends counts log → peer.0 < set.nodes → channel < set.channels → e ≡ get_or ends (4 * peer.0 + channel) e →
    AreCounted (channel_to set.node peer channel) log e
ends_at set ends counts log peer channel e is to on at =
    let below : channel < 4 = omega (arith, is.lawful.channels) in
    let within : 4 * peer.0 + channel < 64 = omega (arith, is.lawful.nodes) in
    is.ends peer.0 channel e below (slice_get_read ends 64 (4 * peer.0 + channel) e (sym is.all_ends) within at)

pub ends_seen : (i : Inside) (v : InterfaceView) (peer : NodeId) (channel : ℕ) (e : Ends) → view_of i ≡ v → IsCounted i → peer.0 < v.settings.nodes →
    channel < v.settings.channels → e ≡ get_or i.ends.items (4 * peer.0 + channel) e → AreCounted (channel_in (own v) peer channel) v.log e
ends_seen i v peer channel e seen is to on at =
    subst (λ (w : InterfaceView). peer.0 < w.settings.nodes → channel < w.settings.channels → AreCounted (channel_in (own w) peer channel) w.log e) seen
    (λ to on. ends_at (settings_in i) i.ends.items i.emissions.items i.log.items peer channel e is to on at)
    to on

pub parcel_is : (c : Channel) (log : List Entry) (e : Ends) (dest : EndpointId) (seq at : ℕ) → AreCounted c log e →
    needs_arrival dest (arrival e.receiving seq at) ≡ needs_arrival dest (arrival (mark c log) seq at)
parcel_is c log e dest seq at is = λ j. needs_arrival dest (arrival (is.mark j) seq at)

pub answered_is : (c : Channel) (log : List Entry) (e : Ends) (peer : NodeId) (seq at : ℕ) → AreCounted c log e →
    answers_to peer (arrival e.receiving seq at) ≡ answers_to peer (arrival (mark c log) seq at)
answered_is c log e peer seq at is = λ j. answers_to peer (arrival (is.mark j) seq at)

pub answer_is : (i : InterfaceLog) (c : Channel) (e : Ends) (p : AnswerPacket) → AreCounted c i.log e →
    needs_settling (settled e.sending p) ≡ needs_bound (bound_message c i.log) (settles i c p)
answer_is i c e p is = by_bound e.sending.bound e.sending.seq is.seq is.bound is.attempt
  where
    by_test : (b : Bound) (t : Bool) → needs_settling (settled_if t b p.verdict) ≡ needs_bound (Some b.message) t
    by_test b true = refl
    by_test b false = refl

    by_bound : (b : Option Bound) (seq : ℕ) → seq ≡ sequence c i.log → option_map (λ (b : Bound). b.message) b ≡ bound_message c i.log →
        IfSome b (λ b. b.attempt ≡ attempt c i.log) → needs_settling (settled_by seq p b) ≡ needs_bound (bound_message c i.log) (settles i c p)
    by_bound None seq same_seq message at = ap (λ (m : Option Message). needs_bound m (settles i c p)) message
    by_bound (Some b) seq same_seq message at =
        (λ j. needs_settling (settled_if ((p.seq == same_seq j) && counts p.verdict (p.attempt == at j)) b p.verdict))
        ∙ by_test b (settles i c p)
        ∙ ap (λ (m : Option Message). needs_bound m (settles i c p)) message

pub expiry_is : (i : InterfaceLog) (c : Channel) (e : Ends) → AreCounted c i.log e →
    needs_time_out i.settings.tries e.sending.seq e.sending.bound ≡ needs_bound (bound_message c i.log) (not (has_try_left i c))
expiry_is i c e is = by_bound e.sending.bound is.bound is.attempt
  where
    by_test : (b : Bound) (t : Bool) → needs_given_up (if t then Times.Resend (record { seq = e.sending.seq; attempt = b.attempt + 1 }) else Times.GaveUp b) ≡
        needs_bound (Some b.message) (not t)
    by_test b true = refl
    by_test b false = refl

    by_bound : (b : Option Bound) → option_map (λ (b : Bound). b.message) b ≡ bound_message c i.log → IfSome b (λ b. b.attempt ≡ attempt c i.log) →
        needs_time_out i.settings.tries e.sending.seq b ≡ needs_bound (bound_message c i.log) (not (has_try_left i c))
    by_bound None message at = ap (λ (m : Option Message). needs_bound m (not (has_try_left i c))) message
    by_bound (Some b) message at =
        by_test b (nat_lt (b.attempt + 1) i.settings.tries)
        ∙ (λ j. needs_bound (message j) (not (nat_lt (at j + 1) i.settings.tries)))

pub retry_is : (i : InterfaceLog) (c : Channel) (e : Ends) (peer : NodeId) → AreCounted c i.log e →
    emits_retry i.settings.tries peer e.sending.seq e.sending.bound ≡ sends_again_to peer (bound_message c i.log) (has_try_left i c)
retry_is i c e peer is = by_bound e.sending.bound is.bound is.attempt
  where
    by_test : (b : Bound) (t : Bool) → emits_again peer (if t then Times.Resend (record { seq = e.sending.seq; attempt = b.attempt + 1 }) else Times.GaveUp b) ≡
        sends_again_to peer (Some b.message) t
    by_test b true = refl
    by_test b false = refl

    by_bound : (b : Option Bound) → option_map (λ (b : Bound). b.message) b ≡ bound_message c i.log → IfSome b (λ b. b.attempt ≡ attempt c i.log) →
        emits_retry i.settings.tries peer e.sending.seq b ≡ sends_again_to peer (bound_message c i.log) (has_try_left i c)
    by_bound None message at = ap (λ (m : Option Message). sends_again_to peer m (has_try_left i c)) message
    by_bound (Some b) message at =
        by_test b (nat_lt (b.attempt + 1) i.settings.tries)
        ∙ (λ j. sends_again_to peer (message j) (nat_lt (at j + 1) i.settings.tries))
