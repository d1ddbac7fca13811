-- What a move leaves of a block.
use Rattle.std.proofs.Common.{◌↔◌, Option, None, Some, sym, subst, suc, not, ◌||◌, add-one, ◌≡◌, ℕ, ◌+◌, ◌<◌, ◌≤◌, ◌==◌, Bool, true, false, cond, List, [], ◌∷◌}
use Rattle.std.proofs.Common.{◌++◌, length, take, drop, refl, ap, ◌∙◌, arith, length-append, get_or}
use Rattle.std.proofs.lemmas.List.Sums.{sum_by-cons, sum_by-append, split_at_first, passes_at_first}
use Rattle.std.proofs.Math.ListN.{length-set}
use Rattle.std.proofs.lemmas.List.Edits.{length-remove}
use borrow.Author.Tests.{eqb-true}
use Rattle.am_block.specs.declared.Descriptor.{Descriptor}
use Rattle.am_block.specs.declared.List.{List as Which}
use Rattle.am_block.specs.declared.List.TheVariants.{Free, Requests, Replies, InFlight, Notices, Received}
use Rattle.std.specs.Option.{option_map}
use Rattle.std.proofs.lemmas.Option.{slice_get_within, gets}
use Rattle.am_block.specs.declared.Slot.{Slot}
use Rattle.am_block.specs.Pools.{behind, IsLast, Pools, slots, with_slots, size, times, standings, total, IsBlock, stands_in, home, place, without, moved}
use Rattle.am_block.specs.Pools.{with_descriptor}

pub size-with_slots : (p : Pools) (l : Which) (xs : List ℕ) → size (with_slots p l xs) ≡ size p
size-with_slots p Free xs = refl
size-with_slots p Requests xs = refl
size-with_slots p Replies xs = refl
size-with_slots p InFlight xs = refl
size-with_slots p Notices xs = refl
size-with_slots p Received xs = refl

pub standings-with_slots : (p : Pools) (l : Which) (xs : List ℕ) (s : ℕ) → standings (with_slots p l xs) s + times s (slots p l) ≡ standings p s + times s xs
standings-with_slots p Free xs s = omega arith
standings-with_slots p Requests xs s = omega arith
standings-with_slots p Replies xs s = omega arith
standings-with_slots p InFlight xs s = omega arith
standings-with_slots p Notices xs s = omega arith
standings-with_slots p Received xs s = omega arith

pub total-with_slots : (p : Pools) (l : Which) (xs : List ℕ) → total (with_slots p l xs) + length (slots p l) ≡ total p + length xs
total-with_slots p Free xs = omega arith
total-with_slots p Requests xs = omega arith
total-with_slots p Replies xs = omega arith
total-with_slots p InFlight xs = omega arith
total-with_slots p Notices xs = omega arith
total-with_slots p Received xs = omega arith

pub length-le-total : (p : Pools) (l : Which) → length (slots p l) ≤ total p
length-le-total p Free = omega arith
length-le-total p Requests = omega arith
length-le-total p Replies = omega arith
length-le-total p InFlight = omega arith
length-le-total p Notices = omega arith
length-le-total p Received = omega arith

pub times-le-standings : (p : Pools) (l : Which) (s : ℕ) → times s (slots p l) ≤ standings p s
times-le-standings p Free s = omega arith
times-le-standings p Requests s = omega arith
times-le-standings p Replies s = omega arith
times-le-standings p InFlight s = omega arith
times-le-standings p Notices s = omega arith
times-le-standings p Received s = omega arith

pub place-stands : (s : ℕ) (xs : List ℕ) → stands_in s xs ≡ true → place s xs < length xs
place-stands s [] h = cc
place-stands s (x ∷ xs) h =
    elim (x == s) as (λ b. (b || stands_in s xs) ≡ true → cond (not b) (1 + place s xs) 0 < suc (length xs))
    [ true ↦ λ _. omega arith | false ↦ λ g. let ih = place-stands s xs g in omega arith ]
    h

pub times-none : (s : ℕ) (xs : List ℕ) → stands_in s xs ≡ false → times s xs ≡ 0
times-none s [] h = refl
times-none s (x ∷ xs) h =
    rw (sum_by-cons (λ y. cond (y == s) 1 0) x xs)
    (elim (x == s) as (λ b. (b || stands_in s xs) ≡ false → cond b 1 0 + times s xs ≡ 0)
    [ true ↦ λ g. cc | false ↦ λ g. let ih = times-none s xs g in omega arith ]
    h)

pub stands-times : (s : ℕ) (xs : List ℕ) → stands_in s xs ≡ true → 1 ≤ times s xs
stands-times s [] h = cc
stands-times s (x ∷ xs) h =
    rw (sum_by-cons (λ y. cond (y == s) 1 0) x xs)
    (elim (x == s) as (λ b. (b || stands_in s xs) ≡ true → 1 ≤ cond b 1 0 + times s xs)
    [ true ↦ λ g. omega arith | false ↦ λ g. let ih = stands-times s xs g in omega arith ]
    h)

-- a list that holds the slot loses one of it, and nothing else
pub times-without : (s t : ℕ) (xs : List ℕ) → place s xs < length xs → times t (without s xs) + cond (s == t) 1 0 ≡ times t xs
times-without s t xs h =
    let p : ℕ → Bool = λ x. x == s in
    let f : ℕ → ℕ = λ x. cond (x == t) 1 0 in
    let g = get_or xs (place s xs) 0 in
    let at : g ≡ s = eqb-true g s (passes_at_first p xs 0 h) in
    let e1 = ap (times t) (split_at_first p xs 0 h) ∙ sum_by-append f (take (place s xs) xs) (g ∷ drop (place s xs + 1) xs) in
    let e2 = sum_by-cons f g (drop (place s xs + 1) xs) in
    let e3 : times t (without s xs) ≡ times t (take (place s xs) xs) + times t (drop (place s xs + 1) xs) =
    rw (add-one) (sum_by-append f (take (place s xs) xs) (drop (suc (place s xs)) xs)) in
    let e4 = ap f at in
    omega arith

pub length-without : (s : ℕ) (xs : List ℕ) → place s xs < length xs → length (without s xs) + 1 ≡ length xs
length-without s xs h = length-remove xs (place s xs) h

pub times-append : (t : ℕ) (xs : List ℕ) (s : ℕ) → times t (xs ++ s ∷ []) ≡ times t xs + cond (s == t) 1 0
times-append t xs s = let e = sum_by-append (λ x. cond (x == t) 1 0) xs (s ∷ []) in omega arith

-- a move keeps each slot standing once
pub IsBlock-moved : (p : Pools) (from : Which) (s : ℕ) (to : Which) → IsBlock p → place s (slots p from) < length (slots p from) → IsBlock (moved p from s to)
IsBlock-moved p from s to b h =
    let xs = slots p from in
    let out = with_slots p from (without s xs) in
    let ys = slots out to in
    let m = moved p from s to in
    let sz : size m ≡ size p = size-with_slots out to (ys ++ s ∷ []) ∙ size-with_slots p from (without s xs) in
    let each : (t : ℕ) → standings m t ≡ standings p t = λ t.
    let a1 = standings-with_slots p from (without s xs) t in
    let a2 = times-without s t xs h in
    let a3 = standings-with_slots out to (ys ++ s ∷ []) t in
    let a4 = times-append t ys s in
    omega arith in
    let all : total m ≡ total p =
    let a1 = total-with_slots p from (without s xs) in
    let a2 = length-without s xs h in
    let a3 = total-with_slots out to (ys ++ s ∷ []) in
    let a4 = length-append ys (s ∷ []) in
    omega arith in
    record {
      once = λ t lt. each t ∙ b.once t (omega arith);
      no_other = λ t le. each t ∙ b.no_other t (omega arith);
      all_stand = omega (arith, b.all_stand);
      small = omega (arith, b.small);
    }

-- while a slot is out, each list is shorter than the size
pub room_left : (p : Pools) (from : Which) (s : ℕ) (to : Which) → IsBlock p → place s (slots p from) < length (slots p from) →
    length (slots (with_slots p from (without s (slots p from))) to) < size p
room_left p from s to b h =
    let a1 = total-with_slots p from (without s (slots p from)) in
    let a2 = length-without s (slots p from) h in
    let a3 = length-le-total (with_slots p from (without s (slots p from))) to in
    omega (arith, b.all_stand)

-- a slot stands where `home` says
pub home-stands : (p : Pools) (s : ℕ) → IsBlock p → s < size p → stands_in s (slots p (home p s)) ≡ true
unfolding home
home-stands p s b h =
    grind (
      arith,
      b.once s h,
      times-none s p.free,
      times-none s p.requests,
      times-none s p.replies,
      times-none s p.in_flight,
      times-none s p.notices,
      times-none s p.received,
    )

-- another descriptor at a slot leaves a block
pub IsBlock-with_descriptor : (p : Pools) (s : ℕ) (d : Descriptor) → IsBlock p → IsBlock (with_descriptor p s d)
IsBlock-with_descriptor p s d b =
    let e : size (with_descriptor p s d) ≡ size p = length-set p.descriptors s d in
    record {
      once = λ t lt. b.once t (omega arith);
      no_other = λ t le. b.no_other t (omega arith);
      all_stand = omega (arith, b.all_stand);
      small = omega (arith, b.small);
    }

pub home-there : (p : Pools) (s : ℕ) → IsBlock p → s < size p → place s (slots p (home p s)) < length (slots p (home p s))
home-there p s b h = place-stands s (slots p (home p s)) (home-stands p s b h)

-- behind a slot of a list there is none exactly where it is the last
pub none_behind : (s : ℕ) (xs : List ℕ) (r : Option Slot) → place s xs < length xs → option_map (λ t. t.0) r ≡ behind s xs → (r ≡ None) ↔ IsLast s xs
none_behind s xs None there is = (λ _. grind (arith, gets, is, there), λ _. refl)
none_behind s xs (Some t) there is =
    let lt = slice_get_within xs (place s xs + 1) t.0 (sym is) in
    (λ none. absurd (cc), λ last. absurd (omega arith))

-- behind a slot of a block there is none exactly where it is the last of its list
pub behind_none : (p v : Pools) (s : ℕ) (r : Option Slot) → IsBlock p → p ≡ v → s < size v → option_map (λ t. t.0) r ≡ behind s (slots v (home v s)) →
    (r ≡ None) ↔ IsLast s (slots v (home v s))
behind_none p v s r b e =
    let P : Pools → Type 0 = λ w. s < size w → option_map (λ t. t.0) r ≡ behind s (slots w (home w s)) → (r ≡ None) ↔ IsLast s (slots w (home w s)) in
    subst P e (λ h is. none_behind s (slots p (home p s)) r (home-there p s b h) is)
