-- The shape of a list of emissions is that of a beginning, and then what the rest releases.
use Rattle.std.proofs.Common.{◌≡◌, ℕ, List, [], ◌∷◌, ◌++◌, refl, sym, ◌∙◌, ap, append_assoc, append-nil}
use Rattle.std.specs.Prelude.{Option}
use Rattle.am_names.specs.declared.Packet.{Packet}
use Rattle.am_names.specs.declared.Packet.TheVariants as Packets
use Rattle.am_scenario_plan.specs.declared.plan.LinkFault.{LinkFault}
use Rattle.am_scenario_plan.specs.Shape.{number_of, stamped, released_by, shape_after, shape, fault_at, OnePacketMore, BeginsAlike}

pub shape_after-append : (fault : ℕ → Option LinkFault) (before ps qs : List Packet) →
    shape_after fault before (ps ++ qs) ≡ shape_after fault before ps ++ shape_after fault (before ++ ps) qs
shape_after-append fault before [] qs = ap (λ (b : List Packet). shape_after fault b qs) (sym (append-nil before))
shape_after-append fault before (p ∷ ps) qs =
    ap (λ (r : List Packet). released_by fault before p ++ r) (shape_after-append fault (before ++ p ∷ []) ps qs)
    ∙ (ap (λ (b : List Packet). released_by fault before p ++ (shape_after fault (before ++ p ∷ []) ps ++ shape_after fault b qs))
    (append_assoc before (p ∷ []) ps)
    ∙ sym (append_assoc (released_by fault before p) (shape_after fault (before ++ p ∷ []) ps) (shape_after fault (before ++ p ∷ ps) qs)))

pub begins_alike : BeginsAlike
begins_alike plan from to emitted more = shape_after-append (fault_at plan from to) [] emitted more

pub one_packet_more : OnePacketMore
one_packet_more plan from to emitted p =
    begins_alike plan from to emitted (p ∷ []) ∙ ap (λ (r : List Packet). shape plan from to emitted ++ r)
    (append-nil (released_by (fault_at plan from to) emitted p))

-- another stamp leaves a packet its number
pub number_stamped : (stamp : ℕ) (p : Packet) → number_of (stamped stamp p) ≡ number_of p
number_stamped stamp (Packets.Parcel p) = refl
number_stamped stamp (Packets.Answer p) = refl
