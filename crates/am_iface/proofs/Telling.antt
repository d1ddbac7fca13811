-- What a work's entry tells of the ends of its channel.
use Rattle.std.specs.Prelude.{nat_lt, not, is_some, IfSome}
use Rattle.std.specs.Option.{option_map}
use Rattle.std.proofs.Common.{◌≡◌, ℕ, ◌+◌, ◌==◌, Bool, true, false, ◌&&◌, List, [], ◌∷◌, Option, Some, None, refl, sym, ap, ◌∙◌, subst, if◌then◌else◌}
use Rattle.am_names.specs.declared.NodeId.{NodeId}
use Rattle.am_names.specs.declared.EndpointId.{EndpointId}
use Rattle.am_names.specs.declared.Verdict.{Verdict}
use Rattle.am_names.specs.declared.Message.{Message}
use Rattle.am_names.specs.declared.Parcel.{Parcel}
use Rattle.am_names.specs.declared.AnswerPacket.{AnswerPacket}
use Rattle.am_names.specs.declared.Packet.TheVariants as Packets
use Rattle.am_office_entries.specs.declared.Event.TheVariants as Events
use Rattle.am_office_entries.specs.declared.Received.{Received}
use Rattle.am_office_entries.specs.declared.Received.TheVariants as Got
use Rattle.am_office_entries.specs.declared.Outcome.TheVariants as Out
use Rattle.am_office_entries.specs.declared.Entry.{Entry}
use Rattle.am_model.specs.Choice.{first_holding}
use Rattle.am_office_entries.specs.declared.Condition.TheVariants as Needs
use Rattle.am_channel.specs.declared.sending.Sent.{Sent}
use Rattle.am_model.specs.Endpoint.{State, fresh, verdict}
use Rattle.am_office_entries.specs.declared.Place.TheVariants.{Host}
use Rattle.am_model.specs.Changes.{flying_of}
use Rattle.am_model.specs.Channels.{Channel, Arrival, Stale, Again, Fresh, sequence, bound_message, attempt, arrival}
use Rattle.am_model.specs.History.{channel_to, bounced, counts, decided, is_answered, next_number, sent, settle_by}
use Rattle.am_block.specs.declared.Slot.{Slot}
use Rattle.am_channel.specs.declared.ends.Ends.{Ends}
use Rattle.am_channel.specs.declared.sending.Bound.{Bound}
use Rattle.am_channel.specs.declared.sending.Settled.{Settled}
use Rattle.am_channel.specs.declared.sending.Settled.TheVariants as Settles
use Rattle.am_channel.specs.declared.sending.TimedOut.{TimedOut}
use Rattle.am_channel.specs.declared.sending.TimedOut.TheVariants as Times
use Rattle.am_channel.specs.Sending.{bound_after, settled, settled_by, settled_if, timed_out}
use Rattle.am_channel.specs.Calls.{Arrive, Answer, Bind, TimeOut, TellsCall, TellsTimedOut, TellsTimeOut, after, arrived_as, settled_as, mark_later}
use Rattle.am_channel.specs.Counted.{AreCounted}
use Rattle.am_model_parts.specs.declared.work.Work.TheVariants as Works
use Rattle.am_model_parts.specs.Interface.{InterfaceLog, channel_in, arrive_at, expire_at, failing_at, has_try_left, needs, needs_arrival, needs_bound}
use Rattle.am_model_parts.specs.Interface.{outcome_at, settle_at, settles}
use Rattle.am_iface.specs.ByEnds.{needs_settling}
use Rattle.am_iface.specs.Made.{IsMade}
use Rattle.am_iface.proofs.Readings.{answer_is}

-- what comes of a parcel by the ends of its channel is what the log says
pub parcel_outcome : (i : InterfaceLog) (s : State) (p : Parcel) (e : Ends) (answer : ℕ) → AreCounted (channel_in i p.from p.channel) i.log e →
    answer ≡ next_number i.settings.node p.from i.log → Out.Received p.channel p.seq p.attempt
    (arrive_at s p.message answer (arrival e.receiving p.seq p.attempt)) ≡ outcome_at i s (Works.Receive (Packets.Parcel p))
parcel_outcome i s p e answer is number = λ j. Out.Received p.channel p.seq p.attempt (arrive_at s p.message (number j) (arrival (is.mark j) p.seq p.attempt))

-- as the destination's verdict tells it
arrived_is : (s : State) (m : Message) (answer : ℕ) (a : Arrival) → arrive_at s m answer a ≡ arrived_as m answer (verdict s m) a
arrived_is s m answer Stale = refl
arrived_is s m answer (Again before) = refl
arrived_is s m answer Fresh = refl

-- a parcel's entry tells of an arrival
pub parcel_tells : (c : Channel) (s : State) (p : Parcel) (e : Ends) (answer : ℕ) (x : Entry) → c ≡ channel_to c.node p.from p.channel →
    x.event ≡ Events.Receive c.node p.from p.number → x.outcome ≡ Out.Received p.channel p.seq p.attempt
    (arrive_at s p.message answer (arrival e.receiving p.seq p.attempt)) → TellsCall c e (Arrive p (verdict s p.message)) x
parcel_tells c s p e answer x on event outcome =
    record {
      number = p.number;
      answer = answer;
      event = event ∙ (λ j. Events.Receive c.node (sym (ap (λ (d : Channel). d.peer) on) j) p.number);
      outcome = outcome ∙ (λ j. Out.Received (sym (ap (λ (d : Channel). d.number) on) j) p.seq p.attempt
          (arrived_is s p.message answer (arrival e.receiving p.seq p.attempt) j));
    }

-- a parcel that isn't fresh leaves the ends as they are
known_leaves : (e : Ends) (p : Parcel) (v : Verdict) (a : Arrival) (dest : EndpointId) → needs_arrival dest a ≡ None →
    e ≡ record { sending = e.sending; receiving = mark_later e.receiving p v a }
known_leaves e p v Stale dest none = refl
known_leaves e p v (Again before) dest none = refl
known_leaves e p v Fresh dest none = absurd (cc)

pub repeat_made : (c : Channel) (log : List Entry) (s : State) (p : Parcel) (e : Ends) (answer : ℕ) (x : Entry) → AreCounted c log e →
    c ≡ channel_to c.node p.from p.channel → needs_arrival p.message.dest (arrival e.receiving p.seq p.attempt) ≡ None →
    x.event ≡ Events.Receive c.node p.from p.number → x.outcome ≡ Out.Received p.channel p.seq p.attempt
    (arrive_at s p.message answer (arrival e.receiving p.seq p.attempt)) → IsMade c log e x
repeat_made c log s p e answer x is on known event outcome =
    record {
      old = e;
      counted = is;
      call = Arrive p (verdict s p.message);
      tells = parcel_tells c s p e answer x on event outcome;
      leaves = known_leaves e p (verdict s p.message) (arrival e.receiving p.seq p.attempt) p.message.dest known;
    }

-- a state, where any will do
pub some_state : State
some_state = fresh (record { 0 = 0 }) Host

-- an answer that settles nothing leaves the ends as they are, and its entry says so
nothing_by : (c : Channel) (log : List Entry) (seq : ℕ) (p : AnswerPacket) (b : Option Bound) → needs_settling (settled_by seq p b) ≡ None →
    settled_by seq p b ≡ Settles.Nothing
nothing_by c log seq p None none = refl
nothing_by c log seq p (Some b) none = by_test ((p.seq == seq) && counts p.verdict (p.attempt == b.attempt)) none
  where
    by_test : (t : Bool) → needs_settling (settled_if t b p.verdict) ≡ None → settled_if t b p.verdict ≡ Settles.Nothing
    by_test true none = absurd (cc)
    by_test false none = refl

-- nothing is bound, or the answer counts for nothing
nothing_comes : (i : InterfaceLog) (s : State) (c : Channel) (p : AnswerPacket) (m : Option Message) → needs_bound m (settles i c p) ≡ None →
    settle_at i s c p m ≡ Got.Nothing
nothing_comes i s c p None none = refl
nothing_comes i s c p (Some m) none = by_test (settles i c p) none
  where
    by_test : (t : Bool) → needs_bound (Some m) t ≡ None → (if t then settle_by i.settings.bounces m (bounced (flying_of m.serial s.body.in_flight)) p.verdict
        else Got.Nothing) ≡ Got.Nothing
    by_test true none = absurd (cc)
    by_test false none = refl

pub nothing_outcome : (i : InterfaceLog) (s : State) (p : AnswerPacket) → needs i (Works.Receive (Packets.Answer p)) ≡ None →
    Out.Received p.channel p.seq p.attempt Got.Nothing ≡ outcome_at i s (Works.Receive (Packets.Answer p))
nothing_outcome i s p none =
    ap (λ (r : Received). Out.Received p.channel p.seq p.attempt r)
    (sym (nothing_comes i s (channel_in i p.from p.channel) p (bound_message (channel_in i p.from p.channel) i.log) none))

pub nothing_made : (i : InterfaceLog) (c : Channel) (p : AnswerPacket) (e : Ends) (x : Entry) → AreCounted c i.log e → c ≡ channel_to c.node p.from p.channel →
    needs_bound (bound_message c i.log) (settles i c p) ≡ None → x.event ≡ Events.Receive c.node p.from p.number →
    x.outcome ≡ Out.Received p.channel p.seq p.attempt Got.Nothing → IsMade c i.log e x
nothing_made i c p e x is on none event outcome =
    record {
      old = e;
      counted = is;
      call = Answer p;
      tells =
          record {
            number = p.number;
            limit = 0;
            bounces = 0;
            event = event ∙ (λ j. Events.Receive c.node (sym (ap (λ (d : Channel). d.peer) on) j) p.number);
            outcome =
                outcome
                ∙ (λ j. Out.Received (sym (ap (λ (d : Channel). d.number) on) j) p.seq p.attempt Got.Nothing)
                ∙ ap (λ (r : Settled). Out.Received c.number p.seq p.attempt (settled_as 0 0 r)) (sym nothing);
          };
      leaves = ap (λ (r : Settled). record {
        sending = record { seq = e.sending.seq; bound = bound_after e.sending.bound r };
        receiving = e.receiving;
      }) (sym nothing);
    }
  where
    nothing : settled e.sending p ≡ Settles.Nothing
    nothing = nothing_by c i.log e.sending.seq p e.sending.bound (answer_is i c e p is ∙ none)

-- a time-out of a bound message
pub bound_enabled : (i : InterfaceLog) (s : State) (peer : NodeId) (channel : ℕ) (m : Message) → bound_message (channel_in i peer channel) i.log ≡ Some m →
    failing_at i s (Works.Expire peer channel) ≡ None
bound_enabled i s peer channel m is = ap (λ (b : Option Message). first_holding ((not (is_some b), Needs.Idle) ∷ [])) is

pub idle_fails : (i : InterfaceLog) (s : State) (peer : NodeId) (channel : ℕ) → bound_message (channel_in i peer channel) i.log ≡ None →
    failing_at i s (Works.Expire peer channel) ≡ Some Needs.Idle
idle_fails i s peer channel is = ap (λ (b : Option Message). first_holding ((not (is_some b), Needs.Idle) ∷ [])) is

pub message_is : (c : Channel) (log : List Entry) (e : Ends) (b : Option Bound) → AreCounted c log e → e.sending.bound ≡ b →
    bound_message c log ≡ option_map (λ (b : Bound). b.message) b
message_is c log e b is bound = sym is.bound ∙ ap (λ (o : Option Bound). option_map (λ (b : Bound). b.message) o) bound

pub attempt_is : (c : Channel) (log : List Entry) (e : Ends) (b : Bound) → AreCounted c log e → e.sending.bound ≡ Some b → b.attempt ≡ attempt c log
attempt_is c log e b is bound = subst (λ (o : Option Bound). IfSome o (λ b. b.attempt ≡ attempt c log)) bound is.attempt

-- it has a try left where the message is sent again
pub retry_left : (tries seq : ℕ) (b : Bound) (sent : Sent) → timed_out tries seq b ≡ Times.Resend sent →
    (nat_lt (b.attempt + 1) tries ≡ true) × (record { seq = seq; attempt = b.attempt + 1 } ≡ sent)
retry_left tries seq b sent is = by_test (nat_lt (b.attempt + 1) tries) refl is
  where
    by_test : (t : Bool) → nat_lt (b.attempt + 1) tries ≡ t →
        (if t then Times.Resend (record { seq = seq; attempt = b.attempt + 1 }) else Times.GaveUp b) ≡ Times.Resend sent →
        (nat_lt (b.attempt + 1) tries ≡ true) × (record { seq = seq; attempt = b.attempt + 1 } ≡ sent)
    by_test true left e = (left, cc)
    by_test false left e = absurd (cc)

pub retry_outcome : (i : InterfaceLog) (s : State) (peer : NodeId) (channel number : ℕ) (e : Ends) (b : Bound) (sent : Sent) →
    AreCounted (channel_in i peer channel) i.log e → e.sending.bound ≡ Some b → timed_out i.settings.tries e.sending.seq b ≡ Times.Resend sent →
    number ≡ next_number i.settings.node peer i.log → Out.Sent b.message peer channel sent.seq sent.attempt number ≡ outcome_at i s (Works.Expire peer channel)
retry_outcome i s peer channel number e b sent is bound timed numbered =
    let c = channel_in i peer channel in
    let left = retry_left i.settings.tries e.sending.seq b sent timed in
    let message : bound_message c i.log ≡ Some b.message = message_is c i.log e (Some b) is bound in
    let at : b.attempt ≡ attempt c i.log = attempt_is c i.log e b is bound in
    let has : has_try_left i c ≡ true = ap (λ (n : ℕ). nat_lt (n + 1) i.settings.tries) (sym at) ∙ left.0 in
    (λ j. Out.Sent b.message peer channel (sym left.1 j).seq (sym left.1 j).attempt (numbered j))
    ∙ (λ j. Out.Sent b.message peer channel (is.seq j) (at j + 1) (next_number i.settings.node peer i.log))
    ∙ sym (ap (λ (m : Option Message). expire_at i s peer channel m) message
    ∙ ap (λ (t : Bool). if t then Out.Sent b.message peer channel (sequence c i.log) (attempt c i.log + 1) (next_number i.settings.node peer i.log) else
    (if is_answered (flying_of b.message.serial s.body.in_flight) then Out.Delivered b.message.serial else Out.Unknown b.message.serial)) has)

pub retry_made : (c : Channel) (log : List Entry) (tries number : ℕ) (e : Ends) (b : Bound) (sent : Sent) (x : Entry) → AreCounted c log e →
    e.sending.bound ≡ Some b → timed_out tries e.sending.seq b ≡ Times.Resend sent → x.event ≡ Events.Expire c.node c.peer c.number →
    x.outcome ≡ Out.Sent b.message c.peer c.number sent.seq sent.attempt number → IsMade c log (after e (TimeOut tries)) x
retry_made c log tries number e b sent x is bound timed event outcome =
    record {
      old = e;
      counted = is;
      call = TimeOut tries;
      tells =
          subst (λ (o : Option Bound). TellsTimeOut c tries e.sending.seq o x) (sym bound)
          (subst (λ (t : TimedOut). TellsTimedOut c b t x) (sym timed) (record { number = number; event = event; outcome = outcome }));
      leaves = refl;
    }

-- what a time-out answers, where this message is bound
pub timed_is : (o : Option Bound) (b : Bound) (tries limit seq : ℕ) (r : TimedOut) (sent : Sent) → o ≡ Some b → tries ≡ limit →
    IfSome o (λ b. r ≡ timed_out tries seq b) → r ≡ Times.Resend sent → timed_out limit seq b ≡ Times.Resend sent
timed_is o b tries limit seq r sent bound same answer is =
    ap (λ (n : ℕ). timed_out n seq b) (sym same)
    ∙ sym (subst (λ (o : Option Bound). IfSome o (λ b. r ≡ timed_out tries seq b)) bound answer)
    ∙ is

-- a parcel that touches an endpoint is fresh
pub fresh_is : (dest e : EndpointId) (a : Arrival) → needs_arrival dest a ≡ Some e → a ≡ Fresh
fresh_is dest e Stale some = absurd (cc)
fresh_is dest e (Again before) some = absurd (cc)
fresh_is dest e Fresh some = refl

pub fresh_came : (s : State) (m : Message) (answer : ℕ) (v : Verdict) (a : Arrival) (came : Received) → a ≡ Fresh → v ≡ verdict s m →
    came ≡ decided m answer v → came ≡ arrive_at s m answer a
fresh_came s m answer v a came fresh said is =
    is ∙ ap (λ (w : Verdict). decided m answer w) said ∙ sym (ap (λ (b : Arrival). arrive_at s m answer b) fresh)

pub fresh_made : (c : Channel) (log : List Entry) (s : State) (p : Parcel) (e new : Ends) (answer : ℕ) (v : Verdict) (x : Entry) → AreCounted c log e →
    c ≡ channel_to c.node p.from p.channel → v ≡ verdict s p.message → new ≡ after e (Arrive p v) → x.event ≡ Events.Receive c.node p.from p.number →
    x.outcome ≡ Out.Received p.channel p.seq p.attempt (arrive_at s p.message answer (arrival e.receiving p.seq p.attempt)) → IsMade c log new x
fresh_made c log s p e new answer v x is on said leaves event outcome =
    record {
      old = e;
      counted = is;
      call = Arrive p (verdict s p.message);
      tells = parcel_tells c s p e answer x on event outcome;
      leaves = leaves ∙ ap (λ (w : Verdict). after e (Arrive p w)) said;
    }

-- a bind's entry tells of a bind
pub bind_made : (c : Channel) (log : List Entry) (e new : Ends) (m : Message) (slot : Slot) (end : EndpointId) (number : ℕ) (x : Entry) → AreCounted c log e →
    new ≡ after e (Bind m slot) → x.event ≡ Events.Bind c.node end → x.outcome ≡ Out.Sent m c.peer c.number (e.sending.seq + 1) 0 number → IsMade c log new x
bind_made c log e new m slot end number x is leaves event outcome =
    record {
      old = e;
      counted = is;
      call = Bind m slot;
      tells = record { end = end; number = number; event = event; outcome = outcome };
      leaves = leaves;
    }
