-- What the emissions on a link have not released, the plan loses or has late beyond them.
use Rattle.std.proofs.Common.{◌≡◌, ℕ, zero, suc, ◌+◌, ◌-◌, ◌<◌, ◌≤◌, Bool, true, false, ◌||◌, List, [], ◌∷◌, ◌++◌, map, length, Option, Some, None, refl, sym}
use Rattle.std.proofs.Common.{ap, ◌∙◌, subst, arith, true≢false, eqb-true, eq-eqb, ltb-true, ltb-false, length-append, append_assoc, if◌then◌else◌}
use Rattle.std.specs.Prelude.{◌==◌, nat_lt, slice_get}
use Rattle.am_names.specs.declared.Packet.{Packet}
use Rattle.am_names.specs.declared.Packet.TheVariants as Packets
use Rattle.am_scenario_plan.specs.declared.plan.LinkFault.{LinkFault}
use Rattle.am_scenario_plan.specs.declared.plan.LinkFault.TheVariants.{Lose, Repeat, Late}
use Rattle.am_scenario_plan.specs.Shape.{fault_at, at_once, is_late_until, late_from, stamped, stamp_of, number_of, released_by, shape_after, shape}
use Rattle.am_scenario_plan.proofs.Shapes.{shape_after-append, number_stamped}
use Rattle.am_laws_runs.specs.Turns.Endings.{is_among, IsFaultOf, UnreleasedIsPlanned}

-- ---- among

pub among_left : (n : ℕ) (xs ys : List Packet) → is_among n (map number_of xs) ≡ true → is_among n (map number_of (xs ++ ys)) ≡ true
among_left n [] ys h = absurd (true≢false (sym h))
among_left n (x ∷ xs) ys h = by_test (number_of x == n) h (among_left n xs ys)
  where
    by_test : (b : Bool) → (b || is_among n (map number_of xs)) ≡ true → (is_among n (map number_of xs) ≡ true → is_among n (map number_of (xs ++ ys)) ≡ true) →
        (b || is_among n (map number_of (xs ++ ys))) ≡ true
    by_test true k later = refl
    by_test false k later = later k

pub among_right : (n : ℕ) (xs ys : List Packet) → is_among n (map number_of ys) ≡ true → is_among n (map number_of (xs ++ ys)) ≡ true
among_right n [] ys h = h
among_right n (x ∷ xs) ys h = by_test (number_of x == n) (among_right n xs ys h)
  where
    by_test : (b : Bool) → is_among n (map number_of (xs ++ ys)) ≡ true → (b || is_among n (map number_of (xs ++ ys))) ≡ true
    by_test true k = refl
    by_test false k = k

pub among_first : (n : ℕ) (p : Packet) (ps : List Packet) → number_of p ≡ n → is_among n (map number_of (p ∷ ps)) ≡ true
among_first n p ps same = ap (λ (b : Bool). b || is_among n (map number_of ps)) (eq-eqb (number_of p) n same)

among_later : (n : ℕ) (p : Packet) (ps : List Packet) → is_among n (map number_of ps) ≡ true → is_among n (map number_of (p ∷ ps)) ≡ true
among_later n p ps h = among_right n (p ∷ []) ps h

-- ---- a late packet comes out

late_in : (fault : ℕ → Option LinkFault) (now stamp place by n : ℕ) (xs ys : List Packet) (p : Packet) → fault (place + length xs) ≡ Some (Late by) →
    place + length xs + by ≡ now → number_of p ≡ n → is_among n (map number_of (map (stamped stamp) (late_from fault now place (xs ++ p ∷ ys)))) ≡ true
late_in fault now stamp place by n [] ys p late due same = by_test (is_late_until now place (fault place)) is_due
  where
    here : place + 0 ≡ place
    here = omega arith

    is_due : is_late_until now place (fault place) ≡ true
    is_due = ap (is_late_until now place) (sym (ap fault here) ∙ late) ∙ eq-eqb (place + by) now (omega (arith, due))

    by_test : (b : Bool) → b ≡ true → is_among n (map number_of
        (map (stamped stamp) (if b then p ∷ late_from fault now (place + 1) ys else late_from fault now (place + 1) ys))) ≡ true
    by_test true is = among_first n (stamped stamp p) (map (stamped stamp) (late_from fault now (place + 1) ys)) (number_stamped stamp p ∙ same)
    by_test false is = absurd (true≢false (sym is))
late_in fault now stamp place by n (x ∷ xs) ys p late due same =
    by_test (is_late_until now place (fault place)) (late_in fault now stamp (place + 1) by n xs ys p (sym (ap fault next) ∙ late) (omega (arith, due)) same)
  where
    next : place + length (x ∷ xs) ≡ place + 1 + length xs
    next = omega arith

    by_test : (b : Bool) → is_among n (map number_of (map (stamped stamp) (late_from fault now (place + 1) (xs ++ p ∷ ys)))) ≡ true →
        is_among n (map number_of (map (stamped stamp) (if b then x ∷ late_from fault now (place + 1) (xs ++ p ∷ ys) else late_from fault now (place + 1)
        (xs ++ p ∷ ys)))) ≡ true
    by_test true h = among_later n (stamped stamp x) (map (stamped stamp) (late_from fault now (place + 1) (xs ++ p ∷ ys))) h
    by_test false h = h

-- the emissions up to the one that releases it release it
late_comes : (fault : ℕ → Option LinkFault) (by n : ℕ) (xs ys rest : List Packet) (p : Packet) → fault (1 + length xs) ≡ Some (Late by) → number_of p ≡ n →
    length (xs ++ p ∷ ys) < 1 + length xs + by → 1 + length xs + by ≤ length (xs ++ p ∷ ys) + length rest →
    is_among n (map number_of (shape_after fault (xs ++ p ∷ ys) rest)) ≡ true
late_comes fault by n xs ys [] p late same before after = absurd (omega (arith, before, after))
late_comes fault by n xs ys (q ∷ qs) p late same before after =
    by_test (1 + length xs + by == length (xs ++ p ∷ ys) + 1) refl (late_comes fault by n xs (ys ++ q ∷ []) qs p late same)
  where
    longer : length (xs ++ p ∷ (ys ++ q ∷ [])) ≡ length (xs ++ p ∷ ys) + 1
    longer = omega (arith, length-append xs (p ∷ (ys ++ q ∷ [])), length-append xs (p ∷ ys), length-append ys (q ∷ []))

    by_test : (b : Bool) → (1 + length xs + by == length (xs ++ p ∷ ys) + 1) ≡ b → (length (xs ++ p ∷ (ys ++ q ∷ [])) < 1 + length xs + by →
        1 + length xs + by ≤ length (xs ++ p ∷ (ys ++ q ∷ [])) + length qs →
        is_among n (map number_of (shape_after fault (xs ++ p ∷ (ys ++ q ∷ [])) qs)) ≡ true) →
        is_among n (map number_of (shape_after fault (xs ++ p ∷ ys) (q ∷ qs))) ≡ true
    by_test true is later =
        let now = length (xs ++ p ∷ ys) + 1 in
        among_left n (released_by fault (xs ++ p ∷ ys) q) (shape_after fault ((xs ++ p ∷ ys) ++ q ∷ []) qs)
        (among_right n (at_once (fault now) q) (map (stamped (stamp_of q)) (late_from fault now 1 (xs ++ p ∷ ys)))
        (late_in fault now (stamp_of q) 1 by n xs ys p late (eqb-true (1 + length xs + by) now is) same))
    by_test false is later =
        let apart : (1 + length xs + by ≡ length (xs ++ p ∷ ys) + 1) → ⊥ = λ e. true≢false (sym (eq-eqb (1 + length xs + by) (length (xs ++ p ∷ ys) + 1) e)
        ∙ is) in
        among_right n (released_by fault (xs ++ p ∷ ys) q) (shape_after fault ((xs ++ p ∷ ys) ++ q ∷ []) qs)
        (subst (λ (zs : List Packet). is_among n (map number_of (shape_after fault zs qs)) ≡ true) (sym (append_assoc xs (p ∷ ys) (q ∷ [])))
        (later (omega (arith, longer, before, apart)) (omega (arith, longer, after))))

-- ---- what is not released

-- a list around one of its elements
record IsAround (sent : List Packet) (i : ℕ) : Type 0 where
  xs : List Packet
  p : Packet
  ys : List Packet
  is : sent ≡ xs ++ p ∷ ys
  at : length xs ≡ i
  got : slice_get sent i ≡ Some p

around : (sent : List Packet) (i : ℕ) → i < length sent → IsAround sent i
around [] i h = absurd (omega (arith, h))
around (q ∷ qs) zero h = record { xs = []; p = q; ys = qs; is = refl; at = refl; got = refl }
around (q ∷ qs) (suc i) h =
    let k : IsAround qs i = around qs i (omega (arith, h)) in
    record { xs = q ∷ k.xs; p = k.p; ys = k.ys; is = ap (λ zs. q ∷ zs) k.is; at = ap (λ (n : ℕ). suc n) k.at; got = k.got }

unreleased_so : (fault : ℕ → Option LinkFault) (n : ℕ) (xs ys : List Packet) (p : Packet) (o : Option LinkFault) → fault (1 + length xs) ≡ o →
    ((by : ℕ) → o ≡ Some (Late by) → 1 ≤ by) → number_of p ≡ n → n ≡ 1 + length xs → is_among n (map number_of (shape_after fault [] (xs ++ p ∷ ys))) ≡ false →
    IsFaultOf (length (xs ++ p ∷ ys)) n o
unreleased_so fault n xs ys p o is some same place none = by_fault o is some
  where
    own : (l : Option LinkFault) → fault (1 + length xs) ≡ l → is_among n (map number_of (at_once l p)) ≡ true → ⊥
    own l at h =
        let turned : fault (length xs + 1) ≡ l = ap fault (let e : length xs + 1 ≡ 1 + length xs = omega arith in e) ∙ at in
        let mine : is_among n (map number_of (at_once (fault (length xs + 1)) p)) ≡ true =
        ap (λ (k : Option LinkFault). is_among n (map number_of (at_once k p))) turned ∙ h in
        let now : is_among n (map number_of (released_by fault xs p)) ≡ true =
        among_left n (at_once (fault (length xs + 1)) p) (map (stamped (stamp_of p)) (late_from fault (length xs + 1) 1 xs)) mine in
        let tail : is_among n (map number_of (shape_after fault xs (p ∷ ys))) ≡ true =
        among_left n (released_by fault xs p) (shape_after fault (xs ++ p ∷ []) ys) now in
        let all = among_right n (shape_after fault [] xs) (shape_after fault xs (p ∷ ys)) tail in
        true≢false (sym (ap (λ (ps : List Packet). is_among n (map number_of ps)) (shape_after-append fault [] xs (p ∷ ys)) ∙ all) ∙ none)

    by_fault : (l : Option LinkFault) → fault (1 + length xs) ≡ l → ((by : ℕ) → l ≡ Some (Late by) → 1 ≤ by) → IsFaultOf (length (xs ++ p ∷ ys)) n l
    by_fault None at low = absurd (own None at (among_first n p [] same))
    by_fault (Some Repeat) at low = absurd (own (Some Repeat) at (among_first n p (p ∷ []) same))
    by_fault (Some Lose) at low = tt
    by_fault (Some (Late by)) at low = by_order (nat_lt (length (xs ++ p ∷ ys)) (n + by)) refl
      where
        by_order : (b : Bool) → nat_lt (length (xs ++ p ∷ ys)) (n + by) ≡ b → length (xs ++ p ∷ ys) < n + by
        by_order true on = ltb-true (length (xs ++ p ∷ ys)) (n + by) on
        by_order false off =
            let past = ltb-false (length (xs ++ p ∷ ys)) (n + by) off in
            let one : length (xs ++ p ∷ []) ≡ length xs + 1 = omega (arith, length-append xs (p ∷ [])) in
            let all : length (xs ++ p ∷ ys) ≡ length (xs ++ p ∷ []) + length ys = omega (arith, length-append xs (p ∷ ys), length-append xs (p ∷ [])) in
            let comes = late_comes fault by n xs [] ys p at same (omega (arith, one, low by refl)) (omega (arith, all, past, place)) in
            let tail : is_among n (map number_of (shape_after fault xs (p ∷ ys))) ≡ true =
            among_right n (released_by fault xs p) (shape_after fault (xs ++ p ∷ []) ys) comes in
            let whole = among_right n (shape_after fault [] xs) (shape_after fault xs (p ∷ ys)) tail in
            absurd (true≢false (sym (ap (λ (ps : List Packet). is_among n (map number_of ps)) (shape_after-append fault [] xs (p ∷ ys)) ∙ whole) ∙ none))

pub unreleased_is_planned : UnreleasedIsPlanned
unreleased_is_planned plan from to sent number numbered low some most none =
    let i : ℕ = number - 1 in
    let inside : i < length sent = omega (arith, some, most) in
    let k : IsAround sent i = around sent i inside in
    let mine : number_of k.p ≡ number = numbered i k.p k.got ∙ (let e : i + 1 ≡ number = omega (arith, some) in e) in
    let place : number ≡ 1 + length k.xs = omega (arith, k.at, some) in
    let hidden : is_among number (map number_of (shape_after (fault_at plan from to) [] (k.xs ++ k.p ∷ k.ys))) ≡ false =
    sym (ap (λ (ps : List Packet). is_among number (map number_of (shape plan from to ps))) k.is) ∙ none in
    let so : IsFaultOf (length (k.xs ++ k.p ∷ k.ys)) number (fault_at plan from to (1 + length k.xs)) =
    unreleased_so (fault_at plan from to) number k.xs k.ys k.p (fault_at plan from to (1 + length k.xs)) refl (λ by e. low (1 + length k.xs) by e) mine
    place hidden in
    subst (λ (ps : List Packet). IsFaultOf (length ps) number (fault_at plan from to number)) (sym k.is)
    (subst (λ (n : ℕ). IsFaultOf (length (k.xs ++ k.p ∷ k.ys)) number (fault_at plan from to n)) (sym place) so)
