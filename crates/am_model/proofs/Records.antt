-- The records of the requests whose replies are awaited.
use Rattle.std.specs.Prelude.{nat_le, nat_lt, not, ◌||◌}
use Rattle.std.proofs.Common.{◌≡◌, ℕ, ◌+◌, ◌≤◌, ◌<◌, Bool, true, false, cond, ◌&&◌, List, [], ◌∷◌, ◌++◌, map, Option, Some, None, refl, sym, ap, ◌∙◌, arith}
use Rattle.std.proofs.Common.{true≢false, if◌then◌else◌}
use Rattle.std.specs.List.{count_by, find}
use Rattle.std.proofs.lemmas.Bool.{and_parts, and_from, leb-true, le-leb, ltb-true, lt-ltb}
use Rattle.std.proofs.lemmas.List.Sums.{sum_by-cons}
use Rattle.am_names.specs.Names.{same_serial}
use Rattle.am_names.specs.declared.Serial.{Serial}
use Rattle.am_model.specs.declared.Awaited.{Awaited}
use Rattle.am_model.specs.Choice.{without_first}
use Rattle.am_model.specs.Endpoint.{is_arrived, waits_for}
use Rattle.am_model.specs.Changes.{arrived, is_of}
use Rattle.am_model.specs.Valid.{has_arrived, rise}
use Rattle.am_model.proofs.Names.{same_serial-is}
use Rattle.am_model.proofs.Received.{bit}

-- a list without its first element that passes, by counts

abbrev pub passing : {X : Type 0} → (X → Bool) → Option X → ℕ
passing p None = 0
passing p (Some x) = bit (p x)

pub without_counts : {X : Type 0} (p t : X → Bool) (xs : List X) → count_by p (without_first t xs) + passing p (find t xs) ≡ count_by p xs
without_counts p t [] = refl
without_counts p t (x ∷ xs) = by_test p t x xs (t x) (without_counts p t xs)
  where
    by_test : {X : Type 0} (p t : X → Bool) (x : X) (xs : List X) (b : Bool) → count_by p (without_first t xs) + passing p (find t xs) ≡ count_by p xs →
        count_by p (cond b xs (x ∷ without_first t xs)) + passing p (cond b (Some x) (find t xs)) ≡ count_by p (x ∷ xs)
    by_test p t x xs true more = omega (arith, sum_by-cons (λ y. cond (p y) 1 0) x xs)
    by_test p t x xs false more = omega (arith, more, sum_by-cons (λ y. cond (p y) 1 0) x xs, sum_by-cons (λ y. cond (p y) 1 0) x (without_first t xs))

pub none_found : {X : Type 0} (t : X → Bool) (xs : List X) → find t xs ≡ None → count_by t xs ≡ 0
none_found t [] e = refl
none_found t (y ∷ xs) e = by_test t y xs (t y) refl e (none_found t xs)
  where
    by_test : {X : Type 0} (t : X → Bool) (y : X) (xs : List X) (b : Bool) → t y ≡ b → cond b (Some y) (find t xs) ≡ None →
        (find t xs ≡ None → count_by t xs ≡ 0) → count_by t (y ∷ xs) ≡ 0
    by_test t y xs true is h more = absurd (cc)
    by_test t y xs false is h more = omega (arith, more h, sum_by-cons (λ z. cond (t z) 1 0) y xs, ap bit is)

-- rising counts

pub rise_lower : (low below last : ℕ) (xs : List Awaited) → low ≤ below → rise below last xs ≡ true → rise low last xs ≡ true
rise_lower low below last [] le h = refl
rise_lower low below last (a ∷ xs) le h =
    let parts = and_parts (nat_lt below a.serial.count) (nat_le a.serial.count last && rise a.serial.count last xs) h in
    and_from (nat_lt low a.serial.count) (nat_le a.serial.count last && rise a.serial.count last xs)
    (lt-ltb low a.serial.count (omega (arith, le, ltb-true below a.serial.count parts.0))) parts.1

pub rise_higher : (below last high : ℕ) (xs : List Awaited) → last ≤ high → rise below last xs ≡ true → rise below high xs ≡ true
rise_higher below last high [] le h = refl
rise_higher below last high (a ∷ xs) le h =
    let parts = and_parts (nat_lt below a.serial.count) (nat_le a.serial.count last && rise a.serial.count last xs) h in
    let more = and_parts (nat_le a.serial.count last) (rise a.serial.count last xs) parts.1 in
    and_from (nat_lt below a.serial.count) (nat_le a.serial.count high && rise a.serial.count high xs) parts.0
    (and_from (nat_le a.serial.count high) (rise a.serial.count high xs) (le-leb a.serial.count high (omega (arith, le, leb-true a.serial.count last more.0)))
    (rise_higher a.serial.count last high xs le more.1))

pub rise_push : (below last : ℕ) (xs : List Awaited) (a : Awaited) → below ≤ last → a.serial.count ≡ last + 1 → rise below last xs ≡ true →
    rise below (last + 1) (xs ++ a ∷ []) ≡ true
rise_push below last [] a le is h =
    and_from (nat_lt below a.serial.count) (nat_le a.serial.count (last + 1) && true) (lt-ltb below a.serial.count (omega (arith, le, is)))
    (and_from (nat_le a.serial.count (last + 1)) true (le-leb a.serial.count (last + 1) (omega (arith, is))) refl)
rise_push below last (x ∷ xs) a le is h =
    let parts = and_parts (nat_lt below x.serial.count) (nat_le x.serial.count last && rise x.serial.count last xs) h in
    let more = and_parts (nat_le x.serial.count last) (rise x.serial.count last xs) parts.1 in
    and_from (nat_lt below x.serial.count) (nat_le x.serial.count (last + 1) && rise x.serial.count (last + 1) (xs ++ a ∷ [])) parts.0
    (and_from (nat_le x.serial.count (last + 1)) (rise x.serial.count (last + 1) (xs ++ a ∷ []))
    (le-leb x.serial.count (last + 1) (omega (arith, leb-true x.serial.count last more.0)))
    (rise_push x.serial.count last xs a (leb-true x.serial.count last more.0) is more.1))

pub rise_without : (below last : ℕ) (t : Awaited → Bool) (xs : List Awaited) → rise below last xs ≡ true → rise below last (without_first t xs) ≡ true
rise_without below last t [] h = refl
rise_without below last t (a ∷ xs) h =
    let parts = and_parts (nat_lt below a.serial.count) (nat_le a.serial.count last && rise a.serial.count last xs) h in
    let more = and_parts (nat_le a.serial.count last) (rise a.serial.count last xs) parts.1 in
    by_test (t a) below last t a xs parts.0 more.0 more.1 (rise_without a.serial.count last t xs more.1)
  where
    by_test : (b : Bool) (below last : ℕ) (t : Awaited → Bool) (a : Awaited) (xs : List Awaited) → nat_lt below a.serial.count ≡ true →
        nat_le a.serial.count last ≡ true → rise a.serial.count last xs ≡ true → rise a.serial.count last (without_first t xs) ≡ true →
        rise below last (if b then xs else a ∷ without_first t xs) ≡ true
    by_test true below last t a xs low high rest kept = rise_lower below a.serial.count last xs (omega (arith, ltb-true below a.serial.count low)) rest
    by_test false below last t a xs low high rest kept =
        and_from (nat_lt below a.serial.count) (nat_le a.serial.count last && rise a.serial.count last (without_first t xs)) low
        (and_from (nat_le a.serial.count last) (rise a.serial.count last (without_first t xs)) high kept)

pub rise_arrived : (below last : ℕ) (r : Serial) (xs : List Awaited) → rise below last (map (arrived r) xs) ≡ rise below last xs
rise_arrived below last r [] = refl
rise_arrived below last r (a ∷ xs) = ap (λ w. nat_lt below a.serial.count && (nat_le a.serial.count last && w)) (rise_arrived a.serial.count last r xs)

-- no two records are of one request
none_below : (below last : ℕ) (r : Serial) (xs : List Awaited) → r.count ≤ below → rise below last xs ≡ true → count_by (is_of r) xs ≡ 0
none_below below last r [] le h = refl
none_below below last r (a ∷ xs) le h =
    let parts = and_parts (nat_lt below a.serial.count) (nat_le a.serial.count last && rise a.serial.count last xs) h in
    let more = and_parts (nat_le a.serial.count last) (rise a.serial.count last xs) parts.1 in
    let above = ltb-true below a.serial.count parts.0 in
    omega (
      arith,
      none_below a.serial.count last r xs (omega (arith, le, above)) more.1,
      sum_by-cons (λ (y : Awaited). cond (same_serial r y.serial) 1 0) a xs,
      ap bit (other r a.serial (omega (arith, le, above))),
    )
  where
    other : (s t : Serial) → s.count < t.count → same_serial s t ≡ false
    other s t lt = by_test (same_serial s t) refl
      where
        by_test : (b : Bool) → same_serial s t ≡ b → b ≡ false
        by_test true is = absurd (lt_irrefl (ap (λ (w : Serial). w.count) (same_serial-is s t is)))
          where
            lt_irrefl : s.count ≡ t.count → ⊥
            lt_irrefl e = omega (arith, lt, e)
        by_test false is = refl

pub one_record : (below last : ℕ) (r : Serial) (xs : List Awaited) → rise below last xs ≡ true → count_by (is_of r) xs ≤ 1
one_record below last r [] h = omega arith
one_record below last r (a ∷ xs) h =
    let parts = and_parts (nat_lt below a.serial.count) (nat_le a.serial.count last && rise a.serial.count last xs) h in
    let more = and_parts (nat_le a.serial.count last) (rise a.serial.count last xs) parts.1 in
    by_test last r a xs (same_serial r a.serial) refl more.1 (one_record a.serial.count last r xs more.1)
  where
    by_test : (last : ℕ) (r : Serial) (a : Awaited) (xs : List Awaited) (b : Bool) → same_serial r a.serial ≡ b → rise a.serial.count last xs ≡ true →
        count_by (is_of r) xs ≤ 1 → count_by (is_of r) (a ∷ xs) ≤ 1
    by_test last r a xs true is rest one =
        let same : r.count ≡ a.serial.count = ap (λ (w : Serial). w.count) (same_serial-is r a.serial is) in
        omega (
          arith,
          none_below a.serial.count last r xs (omega (arith, same)) rest,
          sum_by-cons (λ (y : Awaited). cond (same_serial r y.serial) 1 0) a xs,
          ap bit is,
        )
    by_test last r a xs false is rest one = omega (arith, one, sum_by-cons (λ (y : Awaited). cond (same_serial r y.serial) 1 0) a xs, ap bit is)

-- a record of a request has arrived or waits
pub arrives_or_waits : (r : Serial) (xs : List Awaited) → count_by (has_arrived r) xs + count_by (waits_for r) xs ≡ count_by (is_of r) xs
arrives_or_waits r [] = refl
arrives_or_waits r (a ∷ xs) =
    omega (
      arith,
      arrives_or_waits r xs,
      sum_by-cons (λ (y : Awaited). cond (has_arrived r y) 1 0) a xs,
      sum_by-cons (λ (y : Awaited). cond (waits_for r y) 1 0) a xs,
      sum_by-cons (λ (y : Awaited). cond (is_of r y) 1 0) a xs,
      one (same_serial r a.serial) a.arrived,
    )
  where
    one : (b c : Bool) → bit (b && c) + bit (b && not c) ≡ bit b
    one true true = refl
    one true false = refl
    one false c = refl

-- the record of a request arrives
pub arrives_all : (r : Serial) (xs : List Awaited) → count_by (has_arrived r) (map (arrived r) xs) ≡ count_by (is_of r) xs
arrives_all r [] = refl
arrives_all r (a ∷ xs) =
    omega (
      arith,
      arrives_all r xs,
      sum_by-cons (λ (y : Awaited). cond (has_arrived r y) 1 0) (arrived r a) (map (arrived r) xs),
      sum_by-cons (λ (y : Awaited). cond (is_of r y) 1 0) a xs,
      one (same_serial r a.serial) a.arrived,
    )
  where
    one : (b c : Bool) → bit (b && (c || b)) ≡ bit b
    one true true = refl
    one true false = refl
    one false c = refl

-- and those of others stay as they are
pub arrives_only : (q r : Serial) (xs : List Awaited) → same_serial r q ≡ false → count_by (has_arrived r) (map (arrived q) xs) ≡ count_by (has_arrived r) xs
arrives_only q r [] other = refl
arrives_only q r (a ∷ xs) other =
    omega (
      arith,
      arrives_only q r xs other,
      sum_by-cons (λ (y : Awaited). cond (has_arrived r y) 1 0) (arrived q a) (map (arrived q) xs),
      sum_by-cons (λ (y : Awaited). cond (has_arrived r y) 1 0) a xs,
      one (same_serial r a.serial) (same_serial q a.serial) a.arrived refl refl,
    )
  where
    one : (b d c : Bool) → same_serial r a.serial ≡ b → same_serial q a.serial ≡ d → bit (b && (c || d)) ≡ bit (b && c)
    one true true c mine its = absurd (true≢false (sym (ap (λ (w : Serial). same_serial r w) (same_serial-is q a.serial its) ∙ mine) ∙ other))
    one true false true mine its = refl
    one true false false mine its = refl
    one false d c mine its = refl

-- all that have arrived, after the records of a request arrive
pub arrived_counts : (r : Serial) (xs : List Awaited) → count_by is_arrived (map (arrived r) xs) ≡ count_by is_arrived xs + count_by (waits_for r) xs
arrived_counts r [] = refl
arrived_counts r (a ∷ xs) =
    omega (
      arith,
      arrived_counts r xs,
      sum_by-cons (λ (y : Awaited). cond (is_arrived y) 1 0) (arrived r a) (map (arrived r) xs),
      sum_by-cons (λ (y : Awaited). cond (is_arrived y) 1 0) a xs,
      sum_by-cons (λ (y : Awaited). cond (waits_for r y) 1 0) a xs,
      one (same_serial r a.serial) a.arrived,
    )
  where
    one : (b c : Bool) → bit (c || b) ≡ bit c + bit (b && not c)
    one true true = refl
    one true false = refl
    one false true = refl
    one false false = refl
