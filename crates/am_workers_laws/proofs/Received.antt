-- What comes out of a link was sent into it.
use Rattle.std.specs.Prelude.{slice_get, slice_index_or, MatchOption}
use Rattle.std.specs.List.{filter, filter_map, cons_option}
use Rattle.std.proofs.Common.{◌≡◌, ℕ, zero, suc, ◌-◌, ◌<◌, ◌≤◌, Bool, true, false, cond, List, [], ◌∷◌, ◌++◌, length, Option, Some, None, refl, sym, ap, ◌∙◌}
use Rattle.std.proofs.Common.{subst, arith, Contains}
use Rattle.am_scenario_plan.proofs.Shapes.{number_stamped}
use Rattle.am_names.specs.declared.NodeId.{NodeId}
use Rattle.am_names.specs.declared.Packet.{Packet}
use Rattle.am_names.specs.declared.Packet.TheVariants as Packets
use Rattle.am_office_entries.specs.declared.Entry.{Entry}
use Rattle.am_office_entries.specs.Entries.{emitted_in, emitted_of}
use Rattle.am_model.specs.Channels.{emitted, is_on_link}
use Rattle.am_model.specs.Layout.{AllAre}
use Rattle.am_model.specs.History as model
use Rattle.am_model.specs.Packets as packets
use Rattle.am_model.proofs.Stamps.{emitted_stamp, stamp_in}
use Rattle.am_model_parts.proofs.Numbering.{next_emitted, numbered_place}
use Rattle.am_model.specs.Packets.{receiver_of, from_of, number_of, restamped}
use Rattle.am_model_parts.specs.Numbered.{HasNextNumber, IsNextPacket, IsPacketAt}
use Rattle.am_model_merge.specs.Logs.{IsRising}
use Rattle.am_scenario_plan.specs.Shape.{stamp_of, stamped}
use Rattle.am_workers_laws.specs.Phases.Received.{GotWasSent, IsOfWork, WorksAreNumbered}
use Rattle.am_workers_laws.specs.Phases.Released.{AreInTime, WasReleased}
use Rattle.am_workers_laws.proofs.Links.{AreFrom, emitted_from, got_from, same_stamp}
use Rattle.am_workers_laws.proofs.Released.{released_was_sent}
use Rattle.am_workers_laws.proofs.Splits.{all_at, each_split, has_middle}
use Rattle.am_workers_laws.proofs.Then.{stood}
use Rattle.am_model_merge.proofs.Before.{before_it}
use Rattle.am_model_merge.specs.Logs.{before}
use Rattle.am_model_merge.proofs.Sorted.{Has}

-- ---- a link's packets are stamped in order

in_time_more : (p : Packet) (ps : List Packet) → AreFrom (stamp_of p) ps → AreInTime ps → AreInTime (p ∷ ps)
in_time_more p ps from time zero zero q r at at' h = let one : p ≡ q = cc in let two : p ≡ r = cc in
    subst (λ (z : Packet). stamp_of z ≤ stamp_of r) one (subst (λ (z : Packet). stamp_of p ≤ stamp_of z) two (omega arith))
in_time_more p ps from time zero (suc k) q r at at' h = let one : p ≡ q = cc in
    subst (λ (z : Packet). stamp_of z ≤ stamp_of r) one (got_from (stamp_of p) ps k r from at')
in_time_more p ps from time (suc j) zero q r at at' h = absurd (omega (arith, h))
in_time_more p ps from time (suc j) (suc k) q r at at' h = time j k q r at at' (omega (arith, h))

in_time : (from to : NodeId) (xs : List Entry) → IsRising xs → AreInTime (emitted from to xs)
in_time from to [] rising = λ j k p q at at' h. absurd (cc)
in_time from to (x ∷ xs) rising = keep (emitted_of x) (emitted_stamp x.stamp x.event x.outcome) (in_time from to xs rising.1)
  where
    not_below : (ys : List Entry) → AllAre (λ (y : Entry). x.stamp < y.stamp) ys → AllAre (λ (y : Entry). x.stamp ≤ y.stamp) ys
    not_below [] h = tt
    not_below (y ∷ ys) h = (omega (arith, h.0), not_below ys h.1)

    later : AreFrom x.stamp (emitted from to xs)
    later = emitted_from from to x.stamp xs (not_below xs rising.0)

    by_test : (b : Bool) (p : Packet) → stamp_of p ≡ x.stamp → AreInTime (emitted from to xs) → AreInTime (cond b (p ∷ emitted from to xs) (emitted from to xs))
    by_test true p is more = in_time_more p (emitted from to xs) (subst (λ (t : ℕ). AreFrom t (emitted from to xs)) (sym is) later) more
    by_test false p is more = more

    keep : (o : Option Packet) → stamp_in x.stamp o ≡ x.stamp → AreInTime (emitted from to xs) →
        AreInTime (filter (is_on_link from to) (cons_option o (filter_map emitted_of xs)))
    keep None is more = more
    keep (Some p) is more = by_test (is_on_link from to p) p (same_stamp p ∙ is) more

-- ---- the packet

same_from : (t : ℕ) (p : Packet) → from_of (stamped t p) ≡ from_of p
same_from t (Packets.Parcel p) = refl
same_from t (Packets.Answer p) = refl

same_stamped : (t : ℕ) (p : Packet) → stamped t p ≡ restamped t p
same_stamped t (Packets.Parcel p) = refl
same_stamped t (Packets.Answer p) = refl

all_packets : (P : Packet → Type 0) (ps : List Packet) (p : Packet) → AllAre P ps → Contains ps p → P p
all_packets P ps p all c = at ps c.0 all c.1 c.2
  where
    at : (qs : List Packet) (k : ℕ) → AllAre P qs → k < length qs → slice_index_or qs k p ≡ p → P p
    at [] k h less is = absurd (omega (arith, less))
    at (q ∷ qs) zero h less is = subst P is h.0
    at (q ∷ qs) (suc k) h less is = at qs k h.1 (omega (arith, less)) is

first_all : (P : Packet → Type 0) (ps qs : List Packet) → AllAre P (ps ++ qs) → AllAre P ps
first_all P [] qs h = tt
first_all P (p ∷ ps) qs h = (h.0, first_all P ps qs h.1)

pub got_was_sent : GotWasSent
got_was_sent s logs from to link p rising numbered has =
    record {
      stamp = r.stamp;
      emitted =
          (λ i. slice_get (emitted (from_is i) to (logs.node (from_is i))) (place_is i))
          ∙ r.at
          ∙ ap Some (same_stamped r.stamp p);
      earlier = let same : stamp_of p ≡ packets.stamp_of p = same_stamp p in omega (arith, r.earlier, same);
      later = omega arith;
    }
  where
    sent : List Packet
    sent = emitted from to (logs.node from)

    r : WasReleased sent p
    r =
        all_packets (WasReleased sent) link.got p
        (first_all (WasReleased sent) link.got link.left
        (subst (AllAre (WasReleased sent)) link.shaped (released_was_sent s.plan from to sent (in_time from to (logs.node from) rising))))
        has

    at : IsPacketAt from to r.place (stamped r.stamp p)
    at = numbered_place (logs.node from) numbered from to r.place (stamped r.stamp p) r.at

    from_is : from_of p ≡ from
    from_is = sym (same_from r.stamp p) ∙ at.from

    place_is : number_of p - 1 ≡ r.place
    place_is = let n : number_of (stamped r.stamp p) ≡ number_of p = number_stamped r.stamp p in let m = at.number in omega (arith, n, m)

-- ---- the numbers of an interface's packets

next_number_at : (past : List Entry) (x : Entry) (o : Option Packet) → emitted_of x ≡ o → ((p : Packet) → emitted_of x ≡ Some p → HasNextNumber past p) →
    MatchOption o (Unit {0}) (HasNextNumber past)
next_number_at past x None is h = tt
next_number_at past x (Some p) is h = h p is

pub works_are_numbered : WorksAreNumbered
works_are_numbered log rising works =
    each_split (λ (past : List Entry) (x : Entry). MatchOption (emitted_of x) (Unit {0}) (HasNextNumber past)) log
    (λ past x rest whole. next_number_at past x (emitted_of x) refl (numbered past x rest whole))
  where
    numbered : (past : List Entry) (x : Entry) (rest : List Entry) → past ++ x ∷ rest ≡ log → (p : Packet) → emitted_of x ≡ Some p → HasNextNumber past p
    numbered past x rest whole p is =
        let w = all_at (IsOfWork log) log x works (subst (λ (xs : List Entry). Has xs x) whole (has_middle past x rest)) in
        let same : w.i.log ≡ past = sym (stood log w.i.log x rising w.past) ∙ ap (before x.stamp) (sym whole)
        ∙ before_it past x rest (subst IsRising (sym whole) rising) in
        let next : IsNextPacket w.i.settings.node w.i.log x.stamp p =
        next_emitted w.i w.s w.w x.stamp p ((λ k. emitted_in x.stamp (sym w.event k) (sym w.outcome k)) ∙ is) in
        next.number ∙ (λ k. model.next_number (sym next.from k) (receiver_of p) (same k))
