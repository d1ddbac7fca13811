-- The elements of a list whose keys are below a number, in ascending order of their keys.
use Rattle.std.proofs.Common.{◌≡◌, ◌≢◌, ℕ, zero, suc, ◌+◌, ◌<◌, ◌≤◌, Bool, true, false, List, [], ◌∷◌, ◌++◌, Option, Some, None, refl, sym, ap, ◌∙◌, subst}
use Rattle.std.proofs.Common.{arith}
use Rattle.std.specs.Prelude.{◌==◌, find, count_by, if◌then◌else◌}
use Rattle.std.specs.List.{All, AllPairs}
use Rattle.std.specs.Option.{option_to_list, option_or}
use Rattle.std.proofs.lemmas.List.{append-nil}
use Rattle.std.proofs.lemmas.List.Elements.{All-nil, All-cons, All-append, All-weaker, All-head, All-tail}
use Rattle.std.proofs.lemmas.List.Folds.{find-append}
use Rattle.std.proofs.lemmas.List.Sums.{sum_by-append, sum_by-cons}
use Rattle.std.proofs.lemmas.Bool.{eqb-true, eq-eqb}
use Rattle.am_lemmas.proofs.Lists.{all_pairs_grow, find_passes}
use Rattle.am_lemmas.proofs.Options.{option_or-None}
use Rattle.am_scenario.proofs.Growing.{apart}

abbrev pub has_key : {A : Type 0} → (A → ℕ) → ℕ → A → Bool
has_key key n a = key a == n

abbrev pub below : {A : Type 0} → (A → ℕ) → List A → ℕ → List A
below key xs zero = []
below key xs (suc n) = below key xs n ++ option_to_list (find (has_key key n) xs)

-- ---- what holds of all

pub found_holds : {A : Type 0} (P : A → Type 0) (p : A → Bool) (xs : List A) (x : A) → All P xs → find p xs ≡ Some x → P x
found_holds P p [] x all e = absurd (cc)
found_holds P p (y ∷ ys) x all e = found_holds_at P p y ys x (p y) (All-head P y ys all) (found_holds P p ys x (All-tail P y ys all)) e
  where
    found_holds_at : {A : Type 0} (P : A → Type 0) (p : A → Bool) (y : A) (ys : List A) (x : A) (b : Bool) → P y → (find p ys ≡ Some x → P x) →
        (if b then Some y else find p ys) ≡ Some x → P x
    found_holds_at P p y ys x true here rest e = let same : y ≡ x = cc in subst P same here
    found_holds_at P p y ys x false here rest e = rest e

optional : {A : Type 0} (P : A → Type 0) (o : Option A) → ((x : A) → o ≡ Some x → P x) → All P (option_to_list o)
optional P None h = All-nil P
optional P (Some x) h = All-cons P x [] (h x refl) (All-nil P)

pub all_below : {A : Type 0} (P : A → Type 0) (key : A → ℕ) (xs : List A) (n : ℕ) → All P xs → All P (below key xs n)
all_below P key xs zero all = All-nil P
all_below P key xs (suc n) all =
    All-append P (below key xs n) (option_to_list (find (has_key key n) xs)) (all_below P key xs n all)
    (optional P (find (has_key key n) xs) (λ x e. found_holds P (has_key key n) xs x all e))

-- ---- ascending

key_of_found : {A : Type 0} (key : A → ℕ) (xs : List A) (n : ℕ) (x : A) → find (has_key key n) xs ≡ Some x → key x ≡ n
key_of_found key xs n x e = eqb-true (key x) n (find_passes (has_key key n) xs x e)

keys_below : {A : Type 0} (key : A → ℕ) (xs : List A) (n : ℕ) → All (λ a. key a < n) (below key xs n)
keys_below key xs zero = All-nil (λ a. key a < 0)
keys_below key xs (suc n) =
    All-append (λ a. key a < suc n) (below key xs n) (option_to_list (find (has_key key n) xs))
    (All-weaker (λ a. key a < n) (λ a. key a < suc n) (λ a less. omega arith) (below key xs n) (keys_below key xs n))
    (optional (λ a. key a < suc n) (find (has_key key n) xs) (λ x e. omega (arith, key_of_found key xs n x e)))

rising_more : {A : Type 0} (key : A → ℕ) (n : ℕ) (xs : List A) (o : Option A) → AllPairs (λ a b. key a < key b) xs → All (λ a. key a < n) xs →
    ((x : A) → o ≡ Some x → key x ≡ n)
    → AllPairs (λ a b. key a < key b) (xs ++ option_to_list o)
rising_more key n xs None rise less at = subst (λ l. AllPairs (λ a b. key a < key b) l) (sym (append-nil xs)) rise
rising_more key n xs (Some x) rise less at =
    all_pairs_grow (λ a b. key a < key b) xs x rise (All-weaker (λ a. key a < n) (λ a. key a < key x) (λ a l. omega (arith, at x refl)) xs less)

pub rising : {A : Type 0} (key : A → ℕ) (xs : List A) (n : ℕ) → AllPairs (λ a b. key a < key b) (below key xs n)
rising key xs zero = λ i j d first second. absurd (omega arith)
rising key xs (suc n) = rising_more key n (below key xs n) (find (has_key key n) xs) (rising key xs n) (keys_below key xs n) (λ x e. key_of_found key xs n x e)

-- ---- what is found

find_other : {A : Type 0} (key : A → ℕ) (k n : ℕ) (o : Option A) → ((x : A) → o ≡ Some x → key x ≡ n) → k ≢ n → find (has_key key k) (option_to_list o) ≡ None
find_other key k n None at differ = refl
find_other key k n (Some x) at differ = find_other_at (key x == k) refl
  where
    find_other_at : (b : Bool) → (key x == k) ≡ b → (if b then Some x else None) ≡ None
    find_other_at true e = absurd (differ (sym (eqb-true (key x) k e) ∙ at x refl))
    find_other_at false e = refl

find_same : {A : Type 0} (key : A → ℕ) (n : ℕ) (o : Option A) → ((x : A) → o ≡ Some x → key x ≡ n) → find (has_key key n) (option_to_list o) ≡ o
find_same key n None at = refl
find_same key n (Some x) at = ap (λ (b : Bool). if b then Some x else None) (eq-eqb (key x) n (at x refl))

not_below : {A : Type 0} (key : A → ℕ) (xs : List A) (k n : ℕ) → n ≤ k → find (has_key key k) (below key xs n) ≡ None
not_below key xs k zero le = refl
not_below key xs k (suc n) le =
    let apart_k : k ≢ n = λ e. absurd (omega arith) in
    find-append (has_key key k) (below key xs n) (option_to_list (find (has_key key n) xs))
    ∙ (ap (λ (o : Option _). option_or o (find (has_key key k) (option_to_list (find (has_key key n) xs)))) (not_below key xs k n (omega arith))
    ∙ find_other key k n (find (has_key key n) xs) (λ x e. key_of_found key xs n x e) apart_k)

found_here : {A : Type 0} (key : A → ℕ) (xs : List A) (k n : ℕ) → k ≡ n →
    find (has_key key k) (below key xs n ++ option_to_list (find (has_key key n) xs)) ≡ find (has_key key k) xs
found_here key xs k n e =
    let at_n : find (has_key key n) (below key xs n ++ option_to_list (find (has_key key n) xs)) ≡ find (has_key key n) xs =
    find-append (has_key key n) (below key xs n) (option_to_list (find (has_key key n) xs))
    ∙ (ap (λ (o : Option _). option_or o (find (has_key key n) (option_to_list (find (has_key key n) xs)))) (not_below key xs n n (omega arith))
    ∙ find_same key n (find (has_key key n) xs) (λ x e. key_of_found key xs n x e)) in
    subst (λ (m : ℕ). find (has_key key m) (below key xs n ++ option_to_list (find (has_key key n) xs)) ≡ find (has_key key m) xs) (sym e) at_n

found_before : {A : Type 0} (key : A → ℕ) (xs : List A) (k n : ℕ) → k ≢ n → find (has_key key k) (below key xs n) ≡ find (has_key key k) xs
    → find (has_key key k) (below key xs n ++ option_to_list (find (has_key key n) xs)) ≡ find (has_key key k) xs
found_before key xs k n differ before =
    find-append (has_key key k) (below key xs n) (option_to_list (find (has_key key n) xs))
    ∙ (ap (λ (o : Option _). option_or (find (has_key key k) (below key xs n)) o) (find_other key k n (find (has_key key n) xs)
    (λ x e. key_of_found key xs n x e) differ)
    ∙ (option_or-None (find (has_key key k) (below key xs n)) ∙ before))

found_by : {A : Type 0} (key : A → ℕ) (xs : List A) (k n : ℕ) (b : Bool) → (k == n) ≡ b → k < suc n →
    (k < n → find (has_key key k) (below key xs n) ≡ find (has_key key k) xs)
    → find (has_key key k) (below key xs n ++ option_to_list (find (has_key key n) xs)) ≡ find (has_key key k) xs
found_by key xs k n true e less before = found_here key xs k n (eqb-true k n e)
found_by key xs k n false e less before = found_before key xs k n (apart k n e) (before (let differ : k ≢ n = apart k n e in omega arith))

pub found_below : {A : Type 0} (key : A → ℕ) (xs : List A) (k n : ℕ) → k < n → find (has_key key k) (below key xs n) ≡ find (has_key key k) xs
found_below key xs k zero less = absurd (omega arith)
found_below key xs k (suc n) less = found_by key xs k n (k == n) refl less (λ l. found_below key xs k n l)

-- ---- counts

count_optional : {A : Type 0} (p : A → Bool) (xs : List A) (o : Option A) → count_by p (xs ++ option_to_list o) ≡ count_by p xs + count_by p (option_to_list o)
count_optional p xs o = sum_by-append (λ a. if p a then 1 else 0) xs (option_to_list o)

-- an element of a higher key changes nothing
skips : {A : Type 0} (key : A → ℕ) (x : A) (xs : List A) (n : ℕ) → n ≤ key x → below key (x ∷ xs) n ≡ below key xs n
skips key x xs zero le = refl
skips key x xs (suc n) le =
    let other : (key x == n) ≡ false = skips_at (key x == n) refl in
    let found : find (has_key key n) (x ∷ xs) ≡ find (has_key key n) xs = ap (λ (b : Bool). if b then Some x else find (has_key key n) xs) other in
    ap (λ (l : List _). l ++ option_to_list (find (has_key key n) (x ∷ xs))) (skips key x xs n (omega arith))
    ∙ ap (λ (o : Option _). below key xs n ++ option_to_list o) found
  where
    skips_at : (b : Bool) → (key x == n) ≡ b → (key x == n) ≡ false
    skips_at true e = let same : key x ≡ n = eqb-true (key x) n e in absurd (omega arith)
    skips_at false e = e

count_one : {A : Type 0} (p : A → Bool) (x : A) → count_by p (x ∷ []) ≡ (if p x then 1 else 0)
count_one p x = sum_by-cons (λ a. if p a then 1 else 0) x [] ∙ omega arith

count_step_at : {A : Type 0} (p : A → Bool) (key : A → ℕ) (x : A) (xs : List A) (n : ℕ) (b : Bool) → (key x == n) ≡ b
    → count_by p (below key (x ∷ xs) n) ≤ count_by p (below key xs n) + (if p x then 1 else 0)
    → count_by p (below key (x ∷ xs) n ++ option_to_list (if b then Some x else find (has_key key n) xs)) ≤ count_by p
    (below key xs n ++ option_to_list (find (has_key key n) xs)) + (if p x then 1 else 0)
count_step_at p key x xs n true e before =
    let same : key x ≡ n = eqb-true (key x) n e in
    let skipped : count_by p (below key (x ∷ xs) n) ≡ count_by p (below key xs n) = ap (λ (l : List _). count_by p l) (skips key x xs n (omega arith)) in
    omega (arith, skipped, count_one p x, count_optional p (below key (x ∷ xs) n) (Some x), count_optional p (below key xs n) (find (has_key key n) xs))
count_step_at p key x xs n false e before =
    omega (arith, before, count_optional p (below key (x ∷ xs) n) (find (has_key key n) xs), count_optional p (below key xs n) (find (has_key key n) xs))

count_step : {A : Type 0} (p : A → Bool) (key : A → ℕ) (x : A) (xs : List A) (n : ℕ) →
    count_by p (below key (x ∷ xs) n) ≤ count_by p (below key xs n) + (if p x then 1 else 0)
count_step p key x xs zero = omega arith
count_step p key x xs (suc n) = count_step_at p key x xs n (key x == n) refl (count_step p key x xs n)

nothing_below : {A : Type 0} (key : A → ℕ) (n : ℕ) → below {A = A} key [] n ≡ []
nothing_below key zero = refl
nothing_below key (suc n) = append-nil (below key [] n) ∙ nothing_below key n

pub count_below : {A : Type 0} (p : A → Bool) (key : A → ℕ) (xs : List A) (n : ℕ) → count_by p (below key xs n) ≤ count_by p xs
count_below p key [] n = let none : count_by p (below key [] n) ≡ count_by p [] = ap (λ (l : List _). count_by p l) (nothing_below key n) in omega arith
count_below p key (x ∷ xs) n = omega (arith, count_step p key x xs n, count_below p key xs n, sum_by-cons (λ a. if p a then 1 else 0) x xs)
