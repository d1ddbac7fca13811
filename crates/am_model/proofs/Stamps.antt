-- Stamps: an entry stamped above all entries before it comes later than they do.
use Rattle.std.specs.Prelude.{nat_lt, not, slice_get}
use Rattle.std.specs.List.{list_all}
use Rattle.std.proofs.Common.{◌≡◌, ⊎_elim, ℕ, ◌-◌, ◌<◌, Bool, true, false, ◌||◌, ◌&&◌, List, [], ◌∷◌, Option, Some, None, refl, sym, ap, ◌∙◌, arith, lt-ltb}
use Rattle.am_names.specs.declared.NodeId.{NodeId}
use Rattle.am_names.specs.declared.Packet.{Packet}
use Rattle.am_office_entries.specs.declared.Event.{Event}
use Rattle.am_office_entries.specs.declared.Event.TheVariants as Events
use Rattle.am_office_entries.specs.declared.Received.{Received}
use Rattle.am_office_entries.specs.declared.Received.TheVariants as Got
use Rattle.am_office_entries.specs.declared.Outcome.{Outcome}
use Rattle.am_office_entries.specs.declared.Outcome.TheVariants as Out
use Rattle.am_office_entries.specs.declared.Entry.{Entry}
use Rattle.am_office_entries.specs.Entries.{answer_by, answer_packet, emitted_in, parcel, share_part}
use Rattle.am_model.specs.Layout.{AllAre}
use Rattle.am_model.specs.Channels.{emitted}
use Rattle.am_model.specs.History.{is_later, is_packet_before, is_taken_before}
use Rattle.am_model.specs.Packets.{stamp_of}
use Rattle.am_model.proofs.Ends.{EmittedIn, was_emitted}

-- the stamp of a packet, if there is one
abbrev pub stamp_in : ℕ → Option Packet → ℕ
stamp_in t None = t
stamp_in t (Some p) = stamp_of p

parcel_stamp : (at : NodeId) (t : ℕ) (o : Outcome) → stamp_in t (parcel at t o) ≡ t
parcel_stamp at t (Out.Sent m to channel seq attempt number) = refl
parcel_stamp at t o = refl

answer_stamp : (at to : NodeId) (channel seq attempt t : ℕ) (r : Received) → stamp_in t (answer_packet at to channel seq attempt t (answer_by r)) ≡ t
answer_stamp at to channel seq attempt t (Got.Accepted m answer) = refl
answer_stamp at to channel seq attempt t (Got.Refused m cause answer) = refl
answer_stamp at to channel seq attempt t (Got.Again serial verdict answer) = refl
answer_stamp at to channel seq attempt t r = refl

-- a packet has the stamp of the entry that emitted it
pub emitted_stamp : (t : ℕ) (e : Event) (o : Outcome) → stamp_in t (emitted_in t e o) ≡ t
emitted_stamp t (Events.Bind at end) o = parcel_stamp at t o
emitted_stamp t (Events.Expire at to channel) o = parcel_stamp at t o
emitted_stamp t (Events.Receive at to number) (Out.Received channel seq attempt result) = answer_stamp at to channel seq attempt t result
emitted_stamp t e o = refl

packet_below : (t : ℕ) (xs : List Entry) (p : Packet) → AllAre (λ (y : Entry). y.stamp < t) xs → EmittedIn p xs → stamp_of p < t
packet_below t [] p h e = absurd e
packet_below t (x ∷ xs) p h e =
    ⊎_elim
    (λ here. let same : stamp_of p ≡ x.stamp = ap (stamp_in x.stamp) (sym here) ∙ emitted_stamp x.stamp x.event x.outcome in omega (arith, same, h.0))
    (λ there. packet_below t xs p h.1 there)
    e

taken_below : (t : ℕ) (past : List Entry) (event : Event) → AllAre (λ (y : Entry). y.stamp < t) past → is_taken_before t past event ≡ true
taken_below t past (Events.Receive node peer number) h = by_packet (slice_get (emitted peer node past) (number - 1)) refl
  where
    by_packet : (p : Option Packet) → slice_get (emitted peer node past) (number - 1) ≡ p → is_packet_before t p ≡ true
    by_packet None at = refl
    by_packet (Some p) at = lt-ltb (stamp_of p) t (packet_below t past p h (was_emitted peer node past (number - 1) p at).0)
taken_below t past event h = refl

above_shared : (x : Entry) (ys : List Entry) → AllAre (λ (y : Entry). y.stamp < x.stamp) ys →
    list_all (λ (y : Entry). not (share_part x y) || nat_lt y.stamp x.stamp) ys ≡ true
above_shared x [] h = refl
above_shared x (y ∷ ys) h = λ i. one (share_part x y) i && above_shared x ys h.1 i
  where
    one : (b : Bool) → (not b || nat_lt y.stamp x.stamp) ≡ true
    one true = lt-ltb y.stamp x.stamp h.0
    one false = refl

pub later_than_all : (past : List Entry) (x : Entry) → AllAre (λ (y : Entry). y.stamp < x.stamp) past → is_later past x ≡ true
later_than_all past x h = λ i. above_shared x past h i && taken_below x.stamp past x.event h i
