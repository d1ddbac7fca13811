-- Entries stay in strict order where one is inserted.
use Rattle.std.proofs.Common.{◌≡◌, List, [], ◌∷◌, refl, sym}
use Rattle.std.specs.List.{AllByRecursion}
use Rattle.std.specs.List.Sorted.{IsStrictlySortedBy}
use Rattle.std.specs.Map.{keys_of}
use Rattle.std.specs.BTreeMap.{insert_entry}
use Rattle.std.specs.Cmp.{IsTotalOrder}
use Rattle.std.specs.declared.cmp.Ordering.{Ordering}
use Rattle.std.specs.declared.cmp.Ordering.TheVariants.{Less, Equal, Greater}
use Rattle.std.specs.Ordering.{match_ordering}

all_match : {K X : Type 0} (P : K → Type 0) (o : Ordering) (a b c : List (K × X)) → AllByRecursion P (keys_of a) → AllByRecursion P (keys_of b) →
    AllByRecursion P (keys_of c) → AllByRecursion P (keys_of (match_ordering o a b c))
all_match P Less a b c x y z = x
all_match P Equal a b c x y z = y
all_match P Greater a b c x y z = z

all_insert : {K X : Type 0} (cmp : K → K → Ordering) (P : K → Type 0) (es : List (K × X)) (k : K) (v : X) → P k → AllByRecursion P (keys_of es) →
    AllByRecursion P (keys_of (insert_entry cmp es k v))
all_insert cmp P [] k v here all = (here, tt)
all_insert cmp P (e ∷ es) k v here all =
    all_match P (cmp k e.0) ((k, v) ∷ e ∷ es) ((e.0, v) ∷ es) (e ∷ insert_entry cmp es k v) (here, all) all (all.0, all_insert cmp P es k v here all.1)

all_above : {K : Type 0} {cmp : K → K → Ordering} → IsTotalOrder cmp → (k e : K) (ys : List K) → cmp k e ≡ Less →
    AllByRecursion (λ (y : K). cmp e y ≡ Less) ys → AllByRecursion (λ (y : K). cmp k y ≡ Less) ys
all_above total k e [] less all = tt
all_above total k e (y ∷ ys) less all = (total.trans k e y less all.0, all_above total k e ys less all.1)

turned : {K : Type 0} {cmp : K → K → Ordering} → IsTotalOrder cmp → (k e : K) → Greater ≡ cmp k e → cmp e k ≡ Less
turned total k e is = rw (← is) at (total.antisymm e k)

sorted_match : {K X : Type 0} {cmp : K → K → Ordering} → IsTotalOrder cmp → (o : Ordering) (e : K × X) (es : List (K × X)) (k : K) (v : X) → o ≡ cmp k e.0 →
    IsStrictlySortedBy cmp (e.0 ∷ keys_of es) → IsStrictlySortedBy cmp (keys_of (insert_entry cmp es k v)) →
    IsStrictlySortedBy cmp (keys_of (match_ordering o ((k, v) ∷ e ∷ es) ((e.0, v) ∷ es) (e ∷ insert_entry cmp es k v)))
unfolding IsStrictlySortedBy
sorted_match total Less e es k v is sorted behind = ((sym is, all_above total k e.0 (keys_of es) (sym is) sorted.0), sorted)
sorted_match total Equal e es k v is sorted behind = sorted
sorted_match {cmp = cmp} total Greater e es k v is sorted behind = (all_insert cmp (λ y. cmp e.0 y ≡ Less) es k v (turned total k e.0 is) sorted.0, behind)

pub sorted_insert : {K X : Type 0} {cmp : K → K → Ordering} → IsTotalOrder cmp → (es : List (K × X)) (k : K) (v : X) → IsStrictlySortedBy cmp (keys_of es) →
    IsStrictlySortedBy cmp (keys_of (insert_entry cmp es k v))
unfolding IsStrictlySortedBy
sorted_insert total [] k v sorted = (tt, tt)
sorted_insert {cmp = cmp} total (e ∷ es) k v sorted = sorted_match total (cmp k e.0) e es k v refl sorted (sorted_insert total es k v sorted.1)
