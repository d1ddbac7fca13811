-- What is held back and falls due is what is late until then.
use Rattle.std.proofs.Common.{◌≡◌, ℕ, ◌+◌, ◌<◌, List, take, get_or, length-take, [], ◌∷◌, ◌++◌, length, refl, sym, ◌∙◌, ap, append_assoc, append-nil, true}
use Rattle.std.proofs.Common.{false, Bool, arith}
use Rattle.std.specs.Prelude.{Option, Some, None, map, ◌==◌, if◌then◌else◌}
use Rattle.std.specs.List.{flat_map}
use Rattle.std.proofs.lemmas.List.{take_more}
use Rattle.am_names.specs.declared.NodeId.{NodeId}
use Rattle.am_names.specs.declared.Packet.{Packet}
use Rattle.am_scenario_plan.specs.declared.plan.PlanLine.{PlanLine}
use Rattle.am_scenario_plan.specs.declared.shape_of.LatePacket.{LatePacket}
use Rattle.am_scenario_plan.specs.declared.plan.LinkFault.{LinkFault}
use Rattle.am_scenario_plan.specs.declared.plan.LinkFault.TheVariants.{Lose, Repeat, Late}
use Rattle.am_scenario_plan.specs.Shape.{late_from, stamped, stamp_of, is_late_until, at_once, released_by, fault_at, shape}
use Rattle.am_scenario_plan.proofs.Shapes.{one_packet_more}
use Rattle.am_scenario_plan.specs.Held.{held_back, all_held, falls_due}

-- the packets that fall due, one by one
late_one : (fault : Option LinkFault) (now place stamp : ℕ) (p : Packet) (late : List Packet) (rest : List Packet)
    → map (stamped stamp) late ≡ rest
    → map (stamped stamp) (if is_late_until now place fault then p ∷ late else late) ≡ flat_map (falls_due now stamp) (held_back fault place p) ++ rest
late_one None now place stamp p late rest e = e
late_one (Some Lose) now place stamp p late rest e = e
late_one (Some Repeat) now place stamp p late rest e = e
late_one (Some (Late by)) now place stamp p late rest e = by_test (place + by == now)
  where
    by_test : (b : Bool) → map (stamped stamp) (if b then p ∷ late else late) ≡ ((if b then stamped stamp p ∷ [] else []) ++ []) ++ rest
    by_test true = ap (λ (l : List Packet). stamped stamp p ∷ l) e
    by_test false = e

flat_map-append : (now stamp : ℕ) (xs ys : List _) → flat_map (falls_due now stamp) (xs ++ ys) ≡ flat_map (falls_due now stamp) xs ++ flat_map
    (falls_due now stamp) ys
flat_map-append now stamp [] ys = refl
flat_map-append now stamp (x ∷ xs) ys = ap (λ (l : List Packet). falls_due now stamp x ++ l) (flat_map-append now stamp xs ys)
    ∙ sym (append_assoc (falls_due now stamp x) (flat_map (falls_due now stamp) xs) (flat_map (falls_due now stamp) ys))

pub due_is_late : (fault : ℕ → Option LinkFault) (now stamp place : ℕ) (ps : List Packet)
    → map (stamped stamp) (late_from fault now place ps) ≡ flat_map (falls_due now stamp) (all_held fault place ps)
due_is_late fault now stamp place [] = refl
due_is_late fault now stamp place (p ∷ ps) =
    late_one (fault place) now place stamp p (late_from fault now (place + 1) ps) (flat_map (falls_due now stamp) (all_held fault (place + 1) ps))
    (due_is_late fault now stamp (place + 1) ps)
    ∙ sym (flat_map-append now stamp (held_back (fault place) place p) (all_held fault (place + 1) ps))

pub all_held-push : (fault : ℕ → Option LinkFault) (place : ℕ) (ps : List Packet) (p : Packet) (n : ℕ) → n ≡ place + length ps
    → all_held fault place (ps ++ p ∷ []) ≡ all_held fault place ps ++ held_back (fault n) n p
all_held-push fault place [] p n e = append-nil (held_back (fault place) place p) ∙ ap (λ (k : ℕ). held_back (fault k) k p) (omega arith)
all_held-push fault place (q ∷ ps) p n e =
    ap (λ (l : List _). held_back (fault place) place q ++ l) (all_held-push fault (place + 1) ps p n (omega arith))
    ∙ sym (append_assoc (held_back (fault place) place q) (all_held fault (place + 1) ps) (held_back (fault n) n p))

-- ---- one packet more

length-taken : (emitted : List Packet) (i : ℕ) → i < length emitted → length (take i emitted) ≡ i
length-taken emitted i below = length-take i emitted ∙ omega arith

pub shape_more : (plan : List PlanLine) (from to : NodeId) (emitted : List Packet) (i number stamp : ℕ) (d : Packet) (fault : Option LinkFault)
    (was mid new : List Packet) (held : List LatePacket)
    → i < length emitted → number ≡ i + 1 → fault ≡ fault_at plan from to number → stamp ≡ stamp_of (get_or emitted i d)
    → was ≡ shape plan from to (take i emitted) → held ≡ all_held (fault_at plan from to) 1 (take i emitted)
    → mid ≡ was ++ at_once fault (get_or emitted i d) → new ≡ mid ++ flat_map (falls_due number stamp) held
    → new ≡ shape plan from to (take (i + 1) emitted)
shape_more plan from to emitted i number stamp d fault was mid new held below counted at stamped_by before held_so at_first then_due =
    let p : Packet = get_or emitted i d in
    let front : List Packet = take i emitted in
    let faults : ℕ → Option LinkFault = fault_at plan from to in
    let place : length front + 1 ≡ number = omega (arith, length-taken emitted i below) in
    let due : flat_map (falls_due number (stamp_of p)) (all_held faults 1 front) ≡ map (stamped (stamp_of p)) (late_from faults number 1 front) =
    sym (due_is_late faults number (stamp_of p) 1 front) in
    let more : shape plan from to (take (i + 1) emitted) ≡ shape plan from to front ++ released_by faults front p =
    ap (λ (l : List Packet). shape plan from to l) (take_more emitted i d below) ∙ one_packet_more plan from to front p in
    let by_place : released_by faults front p ≡ at_once (faults number) p ++ map (stamped (stamp_of p)) (late_from faults number 1 front) =
    ap (λ (n : ℕ). at_once (faults n) p ++ map (stamped (stamp_of p)) (late_from faults n 1 front)) place in
    let first : mid ≡ shape plan from to front ++ at_once (faults number) p =
    at_first ∙ (ap (λ (l : List Packet). l ++ at_once fault p) before ∙ ap (λ (f : Option LinkFault). shape plan from to front ++ at_once f p) at) in
    let last : flat_map (falls_due number stamp) held ≡ map (stamped (stamp_of p)) (late_from faults number 1 front) =
    ap (λ (l : List LatePacket). flat_map (falls_due number stamp) l) held_so ∙ (ap (λ (s : ℕ). flat_map (falls_due number s) (all_held faults 1 front)) stamped_by
    ∙ due) in
    then_due
    ∙ (ap (λ (l : List Packet). l ++ flat_map (falls_due number stamp) held) first
    ∙ (ap (λ (l : List Packet). (shape plan from to front ++ at_once (faults number) p) ++ l) last
    ∙ (append_assoc (shape plan from to front) (at_once (faults number) p) (map (stamped (stamp_of p)) (late_from faults number 1 front))
    ∙ (ap (λ (l : List Packet). shape plan from to front ++ l) (sym by_place) ∙ sym more))))

pub held_more : (plan : List PlanLine) (from to : NodeId) (emitted : List Packet) (i number : ℕ) (d : Packet) (fault : Option LinkFault) (held new : List LatePacket)
    → i < length emitted → number ≡ i + 1 → fault ≡ fault_at plan from to number
    → held ≡ all_held (fault_at plan from to) 1 (take i emitted) → new ≡ held ++ held_back fault number (get_or emitted i d)
    → new ≡ all_held (fault_at plan from to) 1 (take (i + 1) emitted)
held_more plan from to emitted i number d fault held new below counted at before then_held =
    let front : List Packet = take i emitted in
    let faults : ℕ → Option LinkFault = fault_at plan from to in
    let more : all_held faults 1 (take (i + 1) emitted) ≡ all_held faults 1 front ++ held_back (faults number) number (get_or emitted i d) =
    ap (λ (l : List Packet). all_held faults 1 l) (take_more emitted i d below)
    ∙ all_held-push faults 1 front (get_or emitted i d) number (omega (arith, length-taken emitted i below)) in
    then_held
    ∙ (ap (λ (l : List LatePacket). l ++ held_back fault number (get_or emitted i d)) before
    ∙ (ap (λ (f : Option LinkFault). all_held faults 1 front ++ held_back f number (get_or emitted i d)) at ∙ sym more))
