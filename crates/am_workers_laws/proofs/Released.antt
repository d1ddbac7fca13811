-- What is released was sent.
use Rattle.std.specs.Prelude.{slice_get}
use Rattle.std.proofs.Common.{◌≡◌, ℕ, ◌+◌, ◌<◌, ◌≤◌, Bool, true, false, cond, List, [], ◌∷◌, ◌++◌, map, length, Option, Some, None, refl, sym, ap, ◌∙◌, arith}
use Rattle.std.proofs.Common.{append_assoc, length-append}
use Rattle.am_names.specs.declared.Packet.{Packet}
use Rattle.am_names.specs.declared.Packet.TheVariants as Packets
use Rattle.am_model.specs.Layout.{AllAre}
use Rattle.am_scenario_plan.specs.declared.plan.LinkFault.{LinkFault}
use Rattle.am_scenario_plan.specs.declared.plan.LinkFault.TheVariants.{Lose, Repeat, Late}
use Rattle.am_scenario_plan.specs.Shape.{at_once, fault_at, is_late_until, late_from, released_by, shape_after, stamp_of, stamped}
use Rattle.am_wire_release.proofs.Releasing.{stamped_again}
use Rattle.am_workers_laws.specs.Phases.Released.{AreInTime, ReleasedWasSent, WasReleased}

both : (P : Packet → Type 0) (ps qs : List Packet) → AllAre P ps → AllAre P qs → AllAre P (ps ++ qs)
both P [] qs a b = b
both P (p ∷ ps) qs a b = (a.0, both P ps qs a.1 b)

again : (s t : ℕ) (p : Packet) → stamped s (stamped t p) ≡ stamped s p
again s t (Packets.Parcel p) = refl
again s t (Packets.Answer p) = refl

stamp_is : (t : ℕ) (p : Packet) → stamp_of (stamped t p) ≡ t
stamp_is t (Packets.Parcel p) = refl
stamp_is t (Packets.Answer p) = refl

middle : (before : List Packet) (p : Packet) (ps : List Packet) → slice_get (before ++ p ∷ ps) (length before) ≡ Some p
middle [] p ps = refl
middle (q ∷ before) p ps = middle before p ps

-- the packet as it was emitted
as_sent : (sent : List Packet) (k : ℕ) (p : Packet) → slice_get sent k ≡ Some p → WasReleased sent p
as_sent sent k p at = record { place = k; stamp = stamp_of p; at = at ∙ ap Some (sym (stamped_again p)); earlier = omega arith }

once : (sent : List Packet) (k : ℕ) (fault : Option LinkFault) (p : Packet) → slice_get sent k ≡ Some p → AllAre (WasReleased sent) (at_once fault p)
once sent k None p at = (as_sent sent k p at, tt)
once sent k (Some Repeat) p at = (as_sent sent k p at, (as_sent sent k p at, tt))
once sent k (Some Lose) p at = tt
once sent k (Some (Late by)) p at = tt

-- those of the first packets that are late until an emission
late : (fault : ℕ → Option LinkFault) (sent : List Packet) (now t place at : ℕ) (front ps rest : List Packet) → sent ≡ front ++ (ps ++ rest) →
    at ≡ length front → ((k : ℕ) (q : Packet) → k < length front + length ps → slice_get sent k ≡ Some q → stamp_of q ≤ t) →
    AllAre (WasReleased sent) (map (stamped t) (late_from fault now place ps))
late fault sent now t place at front [] rest is long below = tt
late fault sent now t place at front (q ∷ ps) rest is long below =
    by_test (is_late_until now place (fault place))
    (late fault sent now t (place + 1) (at + 1) (front ++ q ∷ []) ps rest (is
    ∙ sym (append_assoc front (q ∷ []) (ps ++ rest))) (let l = length-append front (q ∷ []) in omega (arith, l, long))
    (λ k r less got. below k r (let l = length-append front (q ∷ []) in omega (arith, l, less)) got))
  where
    here : slice_get sent (length front) ≡ Some q
    here = ap (λ (l : List Packet). slice_get l (length front)) is ∙ middle front q (ps ++ rest)

    one : WasReleased sent (stamped t q)
    one =
        record {
          place = length front;
          stamp = stamp_of q;
          at = here ∙ ap Some (sym (again (stamp_of q) t q ∙ stamped_again q));
          earlier = let s : stamp_of (stamped t q) ≡ t = stamp_is t q in let le : stamp_of q ≤ t = below (length front) q (omega arith) here in
              omega (arith, s, le);
        }

    by_test : (b : Bool) → AllAre (WasReleased sent) (map (stamped t) (late_from fault now (place + 1) ps)) →
        AllAre (WasReleased sent) (map (stamped t) (cond b (q ∷ late_from fault now (place + 1) ps) (late_from fault now (place + 1) ps)))
    by_test true more = (one, more)
    by_test false more = more

after : (fault : ℕ → Option LinkFault) (sent before ps : List Packet) → sent ≡ before ++ ps → AreInTime sent →
    AllAre (WasReleased sent) (shape_after fault before ps)
after fault sent before [] is time = tt
after fault sent before (p ∷ ps) is time =
    both (WasReleased sent) (released_by fault before p) (shape_after fault (before ++ p ∷ []) ps)
    (both (WasReleased sent) (at_once (fault (length before + 1)) p) (map (stamped (stamp_of p)) (late_from fault (length before + 1) 1 before))
    (once sent (length before) (fault (length before + 1)) p here)
    (late fault sent (length before + 1) (stamp_of p) 1 0 [] before (p ∷ ps) is refl (λ k q less got. time k (length before) q p got here
    (omega (arith, less)))))
    (after fault sent (before ++ p ∷ []) ps (is ∙ sym (append_assoc before (p ∷ []) ps)) time)
  where
    here : slice_get sent (length before) ≡ Some p
    here = ap (λ (l : List Packet). slice_get l (length before)) is ∙ middle before p ps

pub released_was_sent : ReleasedWasSent
released_was_sent plan from to sent time = after (fault_at plan from to) sent [] sent refl time
