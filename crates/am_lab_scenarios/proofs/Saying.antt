-- What a drawn plan says of each packet.
use Rattle.std.proofs.Common.{◌≡◌, ℕ, zero, suc, ◌+◌, ◌-◌, ◌*◌, ◌/◌, ◌%◌, ◌<◌, ◌≤◌, Bool, true, false, ◌&&◌, List, [], ◌∷◌, ◌++◌, length, Option, Some, None}
use Rattle.std.proofs.Common.{refl, sym, ap, ◌∙◌, subst, arith, true≢false}
use Rattle.std.proofs.Math.Nat.{mul-le-mul_left}
use Rattle.std.proofs.lemmas.Bool.{eqb-true, eqb-false, eq-eqb, lt-ltb, ltb-true, ltb-false}
use Rattle.std.proofs.lemmas.List.{length_push}
use Rattle.std.proofs.lemmas.List.Folds.{find-append}
use Rattle.std.proofs.lemmas.Nat.{div-mul-add, mod-mul-add}
use Rattle.std.specs.Option.{option_or}
use Rattle.std.specs.Prelude.{◌==◌, find, if◌then◌else◌, nat_lt}
use Rattle.rand_pcg.specs.Lcg.{Lcg}
use Rattle.am_lemmas.proofs.Bools.{and_first, and_second, and_from_three}
use Rattle.am_lemmas.proofs.Options.{option_or-None}
use Rattle.am_names.specs.declared.NodeId.{NodeId}
use Rattle.am_scenario_generator.specs.Words.{steps, word}
use Rattle.am_scenario_plan.specs.Shape.{fault_at, fault_in, is_line_of}
use Rattle.am_scenario_plan.specs.declared.plan.LinkFault.{LinkFault}
use Rattle.am_scenario_plan.specs.declared.plan.PlanLine.{PlanLine}
use Rattle.am_lab_scenarios.specs.Faults.Laws.{AllHaveTheirLine, EachHasItsWord, MoreKeepWhatFewerSay, NoneHasNoLine, OthersPass, packets_before, said}
use Rattle.am_lab_scenarios.specs.Faults.Plans.{drawn_lines, drawn_plan, fault_of, is_drawn, line_at, seeded}
use Rattle.am_lab_scenarios.proofs.Lawfully.{line_place, number_below, place_of}

-- ---- a search in a plan with one line more

find_missed : (p : PlanLine → Bool) (plan : List PlanLine) (line : PlanLine) (b : Bool) → p line ≡ false →
    find p (if b then plan ++ line ∷ [] else plan) ≡ find p plan
find_missed p plan line true e =
    find-append p plan (line ∷ []) ∙ ap (λ (b : Bool). option_or (find p plan) (if b then Some line else None)) e ∙ option_or-None (find p plan)
find_missed p plan line false e = refl

find_met : (p : PlanLine → Bool) (plan : List PlanLine) (line : PlanLine) (b : Bool) → p line ≡ true → find p plan ≡ None →
    find p (if b then plan ++ line ∷ [] else plan) ≡ (if b then Some line else None)
find_met p plan line true e none =
    find-append p plan (line ∷ []) ∙ ap (λ (o : Option PlanLine). option_or o (find p (line ∷ []))) none
    ∙ ap (λ (b : Bool). if b then Some line else None) e
find_met p plan line false e none = none

-- ---- the line of a place, and the packet of a line

line_of_packet : (nodes packets number w : ℕ) (from to : NodeId) → to.0 < nodes → 1 ≤ number → number ≤ packets →
    is_line_of from to number (line_at nodes packets (packets_before nodes packets from to number) w) ≡ true
line_of_packet nodes packets number w from to second low high =
    let place = packets_before nodes packets from to number in
    let link = from.0 * nodes + to.0 in
    let short : number - 1 < packets = omega (arith, low, high) in
    let same_link : place / packets ≡ link = div-mul-add link packets (number - 1) short in
    let same_from : place / packets / nodes ≡ from.0 = ap (λ (k : ℕ). k / nodes) same_link ∙ div-mul-add from.0 nodes to.0 second in
    let same_to : place / packets % nodes ≡ to.0 = ap (λ (k : ℕ). k % nodes) same_link ∙ mod-mul-add from.0 nodes to.0 second in
    let same_rest : place % packets ≡ number - 1 = mod-mul-add link packets (number - 1) short in
    and_from_three (from.0 == place / packets / nodes) (to.0 == place / packets % nodes) (number == place % packets + 1)
    (eq-eqb _ _ (sym same_from)) (eq-eqb _ _ (sym same_to)) (eq-eqb _ _ (omega (arith, same_rest, low)))

-- a line of this packet stands for its place
place_of_packet : (nodes packets place number w : ℕ) (from to : NodeId) → is_line_of from to number (line_at nodes packets place w) ≡ true →
    place ≡ packets_before nodes packets from to number
unfolding place_of
place_of_packet nodes packets place number w from to e =
    let a : Bool = from.0 == place / packets / nodes in
    let b : Bool = to.0 == place / packets % nodes in
    let c : Bool = number == place % packets + 1 in
    let two = and_first (a && b) c e in
    let first = eqb-true from.0 (place / packets / nodes) (and_first a b two) in
    let second = eqb-true to.0 (place / packets % nodes) (and_second a b two) in
    let third = eqb-true number (place % packets + 1) (and_second (a && b) c e) in
    sym (line_place nodes packets place w)
    ∙ ap (λ (k : ℕ). (k * nodes + place / packets % nodes) * packets + (place % packets + 1 - 1)) (sym first)
    ∙ ap (λ (k : ℕ). (from.0 * nodes + k) * packets + (place % packets + 1 - 1)) (sym second)
    ∙ ap (λ (k : ℕ). (from.0 * nodes + to.0) * packets + (k - 1)) (sym third)

is_false : (b : Bool) → (b ≡ true → ⊥) → b ≡ false
is_false true h = absurd (h refl)
is_false false h = refl

line_of_other : (nodes packets place number w : ℕ) (from to : NodeId) → (place ≡ packets_before nodes packets from to number → ⊥) →
    is_line_of from to number (line_at nodes packets place w) ≡ false
line_of_other nodes packets place number w from to other =
    is_false _ (λ (e : is_line_of from to number (line_at nodes packets place w) ≡ true). other (place_of_packet nodes packets place number w from to e))

-- ---- the row

-- before its place there is no line of a packet
none_before : (g : Lcg) (percent nodes packets n number : ℕ) (from to : NodeId) → n ≤ packets_before nodes packets from to number →
    find (is_line_of from to number) (drawn_lines g percent nodes packets n) ≡ None
unfolding drawn_lines
none_before g percent nodes packets zero number from to h = refl
none_before g percent nodes packets (suc n) number from to h =
    let w = word (steps g n) in
    find_missed (is_line_of from to number) (drawn_lines g percent nodes packets n) (line_at nodes packets n w) (is_drawn percent w)
    (line_of_other nodes packets n number w from to (λ same. omega (arith, h, same)))
    ∙ none_before g percent nodes packets n number from to (omega (arith, h))

-- the line that a packet's word gives it, if it gives one
abbrev given : (g : Lcg) (percent nodes packets place : ℕ) → Option PlanLine
given g percent nodes packets place =
    if is_drawn percent (word (steps g place)) then Some (line_at nodes packets place (word (steps g place))) else None

found_behind : (g : Lcg) (percent nodes packets n number : ℕ) (from to : NodeId) → to.0 < nodes → 1 ≤ number → number ≤ packets →
    packets_before nodes packets from to number < n →
    find (is_line_of from to number) (drawn_lines g percent nodes packets n) ≡ given g percent nodes packets (packets_before nodes packets from to number)
unfolding drawn_lines
found_behind g percent nodes packets zero number from to second low high h = absurd (omega (arith, h))
found_behind g percent nodes packets (suc n) number from to second low high h =
    by (packets_before nodes packets from to number == n) refl
    (λ before. found_behind g percent nodes packets n number from to second low high before)
  where
    by : (b : Bool) → (packets_before nodes packets from to number == n) ≡ b →
        (packets_before nodes packets from to number < n →
        find (is_line_of from to number) (drawn_lines g percent nodes packets n) ≡ given g percent nodes packets (packets_before nodes packets from to number)) →
        find (is_line_of from to number) (drawn_lines g percent nodes packets (suc n)) ≡ given g percent nodes packets (packets_before nodes packets from to number)
    by true e found =
        let same : packets_before nodes packets from to number ≡ n = eqb-true _ _ e in
        let w = word (steps g n) in
        subst (λ (k : ℕ). find (is_line_of from to number) (drawn_lines g percent nodes packets (suc n)) ≡ given g percent nodes packets k) (sym same)
        (find_met (is_line_of from to number) (drawn_lines g percent nodes packets n) (line_at nodes packets n w) (is_drawn percent w)
        (subst (λ (k : ℕ). is_line_of from to number (line_at nodes packets k w) ≡ true) same (line_of_packet nodes packets number w from to second low high))
        (none_before g percent nodes packets n number from to (omega (arith, same))))
    by false e found =
        let other = eqb-false _ _ e in
        let w = word (steps g n) in
        find_missed (is_line_of from to number) (drawn_lines g percent nodes packets n) (line_at nodes packets n w) (is_drawn percent w)
        (line_of_other nodes packets n number w from to (λ same. other (sym same)))
        ∙ found (omega (arith, h, other))

given_says : (percent nodes packets place w : ℕ) (b : Bool) →
    fault_in (if b then Some (line_at nodes packets place w) else None) ≡ (if b then Some (fault_of w) else None)
given_says percent nodes packets place w true = refl
given_says percent nodes packets place w false = refl

-- a packet that is asked about stands in the row
in_row : (nodes packets number from to : ℕ) → from < nodes → to < nodes → 1 ≤ number → number ≤ packets →
    (from * nodes + to) * packets + (number - 1) < nodes * nodes * packets
in_row nodes packets number from to first second low high =
    let row : nodes * (from + 1) ≤ nodes * nodes = mul-le-mul_left nodes (omega (arith, first)) in
    let link : from * nodes + to + 1 ≤ nodes * nodes = omega (arith, row, second) in
    let rows : packets * (from * nodes + to + 1) ≤ packets * (nodes * nodes) = mul-le-mul_left packets link in
    omega (arith, rows, low, high)

pub each_has_its_word : EachHasItsWord
each_has_its_word seed percent nodes packets from to number first second low high =
    let place = packets_before nodes packets from to number in
    let w = word (steps (seeded seed) place) in
    ap (λ (o : Option PlanLine). fault_in o)
    (found_behind (seeded seed) percent nodes packets (nodes * nodes * packets) number from to second low high
    (in_row nodes packets number from.0 to.0 first second low high))
    ∙ given_says percent nodes packets place w (is_drawn percent w)

-- ---- packets behind those that are asked about

behind_all : (g : Lcg) (percent nodes packets n number : ℕ) (from to : NodeId) → packets < number → n ≤ nodes * nodes * packets →
    find (is_line_of from to number) (drawn_lines g percent nodes packets n) ≡ None
unfolding drawn_lines
behind_all g percent nodes packets zero number from to far h = refl
behind_all g percent nodes packets (suc n) number from to far h =
    let w = word (steps g n) in
    let below : n < nodes * nodes * packets = omega (arith, h) in
    let other : (number ≡ n % packets + 1) → ⊥ = λ same. omega (arith, same, far, number_below nodes packets n below) in
    let first : Bool = from.0 == n / packets / nodes in
    let second : Bool = to.0 == n / packets % nodes in
    let third : Bool = number == n % packets + 1 in
    find_missed (is_line_of from to number) (drawn_lines g percent nodes packets n) (line_at nodes packets n w) (is_drawn percent w)
    (is_false (is_line_of from to number (line_at nodes packets n w)) (λ (e : is_line_of from to number (line_at nodes packets n w) ≡ true).
    other (eqb-true number (n % packets + 1) (and_second (first && second) third e))))
    ∙ behind_all g percent nodes packets n number from to far (omega (arith, h))

pub others_pass : OthersPass
others_pass seed percent nodes packets from to number far =
    ap (λ (o : Option PlanLine). fault_in o) (behind_all (seeded seed) percent nodes packets (nodes * nodes * packets) number from to far (omega arith))

-- ---- more in a hundred

more_said : (percent more w : ℕ) (fault : LinkFault) (b : Bool) → percent ≤ more → is_drawn percent w ≡ b →
    (if b then Some (fault_of w) else None) ≡ Some fault → said more w ≡ Some fault
more_said percent more w fault true more_is e h =
    let drawn : is_drawn more w ≡ true = lt-ltb (w % 100) more (omega (arith, more_is, ltb-true (w % 100) percent e)) in
    ap (λ (b : Bool). if b then Some (fault_of w) else None) drawn ∙ h
more_said percent more w fault false more_is e h = absurd (cc)

pub more_keep : MoreKeepWhatFewerSay
more_keep seed percent more nodes packets from to number fault more_is first second low h = by (nat_lt packets number) refl
  where
    by : (b : Bool) → nat_lt packets number ≡ b → fault_at (drawn_plan seed more nodes packets) from to number ≡ Some fault
    by true e =
        let none = others_pass seed percent nodes packets from to number (ltb-true packets number e) in
        absurd (cc (none, h))
    by false e =
        let high : number ≤ packets = ltb-false packets number e in
        let w = word (steps (seeded seed) (packets_before nodes packets from to number)) in
        each_has_its_word seed more nodes packets from to number first second low high
        ∙ more_said percent more w fault (is_drawn percent w) more_is refl
        (sym (each_has_its_word seed percent nodes packets from to number first second low high) ∙ h)

-- ---- none and all

no_line_more : (plan : List PlanLine) (line : PlanLine) (b : Bool) → b ≡ false → (if b then plan ++ line ∷ [] else plan) ≡ plan
no_line_more plan line true e = absurd (true≢false e)
no_line_more plan line false e = refl

no_lines : (g : Lcg) (nodes packets n : ℕ) → drawn_lines g 0 nodes packets n ≡ []
unfolding drawn_lines
no_lines g nodes packets zero = refl
no_lines g nodes packets (suc n) =
    let w = word (steps g n) in
    no_line_more (drawn_lines g 0 nodes packets n) (line_at nodes packets n w) (is_drawn 0 w)
    (is_false (is_drawn 0 w) (λ (e : is_drawn 0 w ≡ true). omega (arith, ltb-true (w % 100) 0 e)))
    ∙ no_lines g nodes packets n

pub none_has_no_line : NoneHasNoLine
none_has_no_line seed nodes packets = no_lines (seeded seed) nodes packets (nodes * nodes * packets)

one_line_more : (g : Lcg) (nodes packets n : ℕ) (b : Bool) → is_drawn 100 (word (steps g n)) ≡ b → length (drawn_lines g 100 nodes packets n) ≡ n →
    length (if b then drawn_lines g 100 nodes packets n ++ line_at nodes packets n (word (steps g n)) ∷ [] else drawn_lines g 100 nodes packets n) ≡ suc n
one_line_more g nodes packets n true e h =
    omega (arith, h, length_push (drawn_lines g 100 nodes packets n) (line_at nodes packets n (word (steps g n))))
one_line_more g nodes packets n false e h = absurd (true≢false (sym (lt-ltb (word (steps g n) % 100) 100 (omega arith)) ∙ e))

all_lines : (g : Lcg) (nodes packets n : ℕ) → length (drawn_lines g 100 nodes packets n) ≡ n
unfolding drawn_lines
all_lines g nodes packets zero = refl
all_lines g nodes packets (suc n) = one_line_more g nodes packets n (is_drawn 100 (word (steps g n))) refl (all_lines g nodes packets n)

pub all_have_their_line : AllHaveTheirLine
all_have_their_line seed nodes packets = all_lines (seeded seed) nodes packets (nodes * nodes * packets)
