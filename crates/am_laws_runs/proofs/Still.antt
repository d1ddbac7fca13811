-- Where nothing is to be received and the plan withholds nothing, nothing is on its way and no channel is bound.
use Rattle.std.specs.Prelude.{is_some, if◌then◌else◌}
use Rattle.std.specs.List.{range_with_len}
use Rattle.std.proofs.Common.{◌≡◌, ℕ, ◌<◌, Bool, true, false, List, [], ◌∷◌, map, Option, Some, None, refl, sym, ap, ◌∙◌, subst, arith, true≢false}
use Rattle.am_names.specs.declared.Message.{Message}
use Rattle.am_names.specs.declared.NodeId.{NodeId}
use Rattle.am_names.specs.declared.Packet.{Packet}
use Rattle.am_names.specs.declared.Packet.TheVariants as Packets
use Rattle.am_names.specs.declared.Parcel.{Parcel}
use Rattle.am_office_entries.specs.declared.Entry.{Entry}
use Rattle.am_office_entries.specs.declared.Event.TheVariants as Events
use Rattle.am_model.specs.Channels.{Channel, sequence, attempt, bound_message}
use Rattle.am_model.specs.History.{MayFollow, IsHistory, channel_to}
use Rattle.am_model.specs.Layout.{Layout, IsLawful}
use Rattle.am_model.proofs.Each.{over_each}
use Rattle.am_model.proofs.Ends.{EmittedIn}
use Rattle.am_laws_cluster.proofs.Bound.{in_flight_bound}
use Rattle.am_laws.proofs.Delivered.{delivers}
use Rattle.am_laws.proofs.Puts.{IsFresh}
use Rattle.am_laws.proofs.Marks.{ChannelsKept, channels_more, channels_begin}
use Rattle.am_laws_cluster.proofs.HomesKept.{home_below}
use Rattle.am_scenario_plan.specs.Shape.{number_of}
use Rattle.am_scenario_types.specs.Lists.{ScenarioLists}
use Rattle.am_model_scripts.specs.Layout.{layout_of}
use Rattle.am_model_scripts.proofs.Lawful.{lawful_layout}
use Rattle.am_model_scripts.specs.Links.{ReceivesInOrder, first_some, next_receipt, nodes_of, received}
use Rattle.am_model_scripts.proofs.Links.{all_is_received}
use Rattle.am_model_drain.specs.declared.Turn.TheVariants.{Once}
use Rattle.am_model_drain.specs.Rules.{time_out, time_out_to, time_out_at, next_time_out}
use Rattle.am_laws_runs.specs.Turns.Enabled.{IsOfRun}
use Rattle.am_laws_runs.specs.Turns.Endings.{WithholdsNothing, is_among}
use Rattle.am_laws_runs.proofs.Answered.{LastSent, last_are_sent, HasAnswer, last_are_answered}
use Rattle.am_laws_runs.proofs.Unheard.{asked, unheard}
use Rattle.am_laws_runs.proofs.Nothing.{is_released}
use Rattle.am_laws_runs.proofs.Unknown.{link_is_received}
use Rattle.am_laws_runs.proofs.Heard.{are_heard}
use Rattle.am_laws_runs.proofs.Zone.{IsBetween, Zone}
use Rattle.am_model.specs.Cluster.{answer_channel}
use Rattle.am_model.specs.Packets.{from_of, receiver_of}

-- ---- each packet is released

-- ---- nothing is to be received

-- a history in which all that was released was received, where the plan withholds nothing
pub record IsStill (s : ScenarioLists) (past : List Entry) : Type 0 where
  pub run : IsOfRun s past
  pub order : ReceivesInOrder s past
  pub nothing : WithholdsNothing s
  pub none : next_receipt s past ≡ None

-- each packet that went out was received
all_got : (s : ScenarioLists) (past : List Entry) → IsStill s past → (p : Packet) → EmittedIn p past → (from_of p).0 < s.nodes → (receiver_of p).0 < s.nodes →
    is_among (number_of p) (received (from_of p) (receiver_of p) past) ≡ true
all_got s past k p there from to =
    ap (is_among (number_of p)) (link_is_received s past (from_of p) (receiver_of p) (all_is_received s past k.order k.none) from to)
    ∙ is_released s past k.nothing k.run.history p there

none_fresh : (s : ScenarioLists) (past : List Entry) → IsStill s past → (q : Parcel) → IsBetween (layout_of s) q → EmittedIn (Packets.Parcel q) past →
    IsFresh past q → ⊥
none_fresh s past k q within there fresh =
    are_heard (layout_of s) past k.run.history q there (all_got s past k (Packets.Parcel q) there within.from' within.to') fresh

-- ---- no channel is bound

-- the answer to the last try of a bound channel was not received
unheard_of : (s : ScenarioLists) (past : List Entry) (c : Channel) (m : Message) (p : Parcel) → IsStill s past → c.node.0 < s.nodes → c.peer.0 < s.nodes →
    bound_message c past ≡ Some m → channel_to p.from p.to p.channel ≡ c → p.seq ≡ sequence c past → p.attempt ≡ attempt c past → HasAnswer past p → ⊥
unheard_of s past c m p k node peer bound at seq tries a =
    let r = a.to_parcel in
    let on : asked a.answer ≡ c = (λ i. channel_to (r.to' i) (r.from' i) (r.channel' i)) ∙ at in
    let none : is_among a.answer.number (received a.answer.from a.answer.to past) ≡ false =
    unheard (layout_of s) past k.run.history a.answer m a.there (ap (λ (d : Channel). bound_message d past) on ∙ bound)
    (r.seq' ∙ (seq ∙ sym (ap (λ (d : Channel). sequence d past) on)))
    (r.attempt' ∙ (tries ∙ sym (ap (λ (d : Channel). attempt d past) on))) in
    let from : a.answer.from.0 < s.nodes = subst (λ (i : NodeId). i.0 < s.nodes) (sym (r.from' ∙ ap (λ (d : Channel). d.peer) at)) peer in
    let to : a.answer.to.0 < s.nodes = subst (λ (i : NodeId). i.0 < s.nodes) (sym (r.to' ∙ ap (λ (d : Channel). d.node) at)) node in
    true≢false (sym (all_got s past k (Packets.Answer a.answer) a.there from to) ∙ none)

none_bound_on : (s : ScenarioLists) (past : List Entry) (c : Channel) (m : Message) → IsStill s past → c.node.0 < s.nodes → c.peer.0 < s.nodes →
    bound_message c past ≡ Some m → ⊥
none_bound_on s past c m k node peer bound =
    let l : LastSent past c = last_are_sent (layout_of s) past k.run.history c m bound in
    let p : Parcel = l.parcel in
    let from : p.from.0 < s.nodes = subst (λ (i : NodeId). i.0 < s.nodes) (sym (ap (λ (d : Channel). d.node) l.on)) node in
    let to : p.to.0 < s.nodes = subst (λ (i : NodeId). i.0 < s.nodes) (sym (ap (λ (d : Channel). d.peer) l.on)) peer in
    let got : is_among p.number (received p.from p.to past) ≡ true = all_got s past k (Packets.Parcel p) l.there from to in
    unheard_of s past c m p k node peer bound l.on l.seq' l.attempt'
    (last_are_answered (layout_of s) past k.run.history p l.there
    (record { seq' = l.seq' ∙ sym (ap (λ (d : Channel). sequence d past) l.on); attempt' = l.attempt' ∙ sym (ap (λ (d : Channel). attempt d past) l.on) })
    got)

pub none_bound : (s : ScenarioLists) (past : List Entry) (c : Channel) (m : Message) → IsStill s past → bound_message c past ≡ Some m → ⊥
none_bound s past c m k bound =
    let layout : Layout = layout_of s in
    let ok : IsLawful layout = lawful_layout s k.run.lawful in
    let flies = (in_flight_bound layout ok past k.run.history).flies c m bound in
    let routed = (delivers layout past k.run.history).bound c m bound in
    none_bound_on s past c m k (home_below layout ok m.serial.source c.node flies.node) (home_below layout ok m.dest c.peer routed.home) bound

-- so none times out
no_time_out : (s : ScenarioLists) (past : List Entry) (node peer : NodeId) (number : ℕ) (o : Option Message) →
    bound_message (channel_to node peer number) past ≡ o → IsStill s past → time_out node peer past number ≡ None
no_time_out s past node peer number None is k = ap (λ (b : Bool). if b then Some (Once (Events.Expire node peer number)) else None)
    (ap (λ (o : Option Message). is_some o) is)
no_time_out s past node peer number (Some m) is k = absurd (none_bound s past (channel_to node peer number) m k is)

first_of_none : {X Y : Type 0} (f : X → Option Y) (xs : List X) → ((x : X) → f x ≡ None) → first_some (map f xs) ≡ None
first_of_none f [] none = refl
first_of_none f (x ∷ xs) none = ap (λ o. first_some (o ∷ map f xs)) (none x) ∙ first_of_none f xs none

pub none_times_out : (s : ScenarioLists) (past : List Entry) → IsStill s past → next_time_out s past ≡ None
none_times_out s past k =
    first_of_none (time_out_at s past) (nodes_of s)
    (λ (node : NodeId). first_of_none (time_out_to s past node) (nodes_of s)
    (λ (peer : NodeId). first_of_none (time_out node peer past) (range_with_len 0 s.channels)
    (λ (number : ℕ). no_time_out s past node peer number (bound_message (channel_to node peer number) past) refl k)))

-- ---- what is so from here on

channels_kept : (layout : Layout) (past : List Entry) → IsHistory layout past → ChannelsKept past
channels_kept layout past h = over_each (MayFollow layout) ChannelsKept (λ xs x k may. channels_more layout xs x k may) [] past channels_begin h

pub zone_begins : (s : ScenarioLists) (past : List Entry) → IsStill s past → Zone (layout_of s) past past None
zone_begins s past k =
    let kept : ChannelsKept past = channels_kept (layout_of s) past k.run.history in
    record {
      fresh = record { only = λ q within there fresh. absurd (none_fresh s past k q within there fresh); room = tt };
      good =
          record {
            marks = λ d above. (let low = kept.marks d in absurd (omega (arith, above, low.seq)));
            answers = λ a there above. (let said = kept.answers a there in let low = kept.marks (answer_channel a) in
                absurd (omega (arith, above, said.seq, low.seq)));
          };
      since = record { later = λ c. omega arith; bound = λ c m is. absurd (none_bound s past c m k is) };
    }
