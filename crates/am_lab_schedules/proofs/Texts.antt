-- What a set of texts has.
use Rattle.std.proofs.Common.{◌≡◌, ℕ, Bool, true, false, List, [], ◌∷◌, ◌||◌, ◌++◌, length, map, refl, ap, sym, subst, ◌∙◌}
use Rattle.std.proofs.Math.Bool.{or_assoc, or_comm}
use Rattle.std.proofs.lemmas.Cmp.{eq_by_cmp_equiv, nat_list_cmp_total}
use Rattle.std.proofs.lemmas.List.{length-map}
use Rattle.std.proofs.lemmas.List.Folds.{list_any-append}
use Rattle.std.proofs.lemmas.Map.Keys.{IsDistinct-from_sorted}
use Rattle.std.proofs.lemmas.Map.Lookups.{exact_bytes}
use Rattle.std.proofs.lemmas.Map.Made.{length-from_keys}
use Rattle.std.proofs.lemmas.Map.Text.{is_eq-slice_cmp}
use Rattle.std.specs.Cmp.{IsEquivalence}
use Rattle.std.specs.BTreeMap.{is_at}
use Rattle.std.specs.BTreeSet.{insert_key}
use Rattle.std.specs.Cmp.Lexicographic.{slice_cmp}
use Rattle.std.specs.List.{AllByRecursion, IsDistinct, list_any}
use Rattle.std.specs.List.Sorted.{IsStrictlySortedBy}
use Rattle.std.specs.Ordering.{match_ordering, nat_cmp}
use Rattle.std.specs.Prelude.{Vec, bytes_eq}
use Rattle.std.specs.Set.{distinct_count, is_member}
use Rattle.std.specs.declared.cmp.Ordering.{Ordering}
use Rattle.std.specs.declared.cmp.Ordering.TheVariants.{Equal, Greater, Less}
use Rattle.am_lab_schedules.specs.Distinct.Kept.{Keeps}

abbrev pub order : {A : Type 0} → Vec ℕ A → Vec ℕ A → Ordering
order {A} one other = slice_cmp nat_cmp one.items other.items

abbrev pub texts_in : {A : Type 0} → List (Vec ℕ A) → List (List ℕ)
texts_in {A} keys = map (λ (text : Vec ℕ A). text.items) keys

-- a search in the set is one in its texts
pub has_text : {A : Type 0} (q : List ℕ) (keys : List (Vec ℕ A)) →
    list_any (is_at (λ (k : Vec ℕ A). slice_cmp nat_cmp q k.items)) keys ≡ is_member bytes_eq (texts_in keys) q
has_text q [] = refl
has_text q (k ∷ keys) = simp (is_eq-slice_cmp, has_text q keys)

absorbed : (a b : Bool) → (a || b) ≡ (a || b || a)
absorbed true b = refl
absorbed false b = or_comm false b

-- one text more
has_more : {A : Type 0} (q : List ℕ) (key : Vec ℕ A) (keys : List (Vec ℕ A)) →
    is_member bytes_eq (texts_in (insert_key (order {A = A}) keys key)) q ≡ (is_member bytes_eq (texts_in keys) q || bytes_eq q key.items)
has_more q key [] = or_comm (bytes_eq q key.items) false
has_more {A} q key (k ∷ keys) = by (order key k) refl (has_more q key keys)
  where
    by : (o : Ordering) → o ≡ order key k →
        is_member bytes_eq (texts_in (insert_key (order {A = A}) keys key)) q ≡ (is_member bytes_eq (texts_in keys) q || bytes_eq q key.items) →
        is_member bytes_eq (texts_in (match_ordering o (key ∷ k ∷ keys) (k ∷ keys) (k ∷ insert_key (order {A = A}) keys key))) q
        ≡ (bytes_eq q k.items || is_member bytes_eq (texts_in keys) q || bytes_eq q key.items)
    by Less e h = or_comm (bytes_eq q key.items) (bytes_eq q k.items || is_member bytes_eq (texts_in keys) q)
    by Equal e h =
        let same = exact_bytes key.items k.items (sym e) in
        absorbed (bytes_eq q k.items) (is_member bytes_eq (texts_in keys) q)
        ∙ ap (λ (t : List ℕ). bytes_eq q k.items || is_member bytes_eq (texts_in keys) q || bytes_eq q t) (sym same)
    by Greater e h =
        ap (λ (b : Bool). bytes_eq q k.items || b) h
        ∙ sym (or_assoc (bytes_eq q k.items) (is_member bytes_eq (texts_in keys) q) (bytes_eq q key.items))

below : {A : Type 0} (k : Vec ℕ A) (keys : List (Vec ℕ A)) → AllByRecursion (λ (other : Vec ℕ A). order k other ≡ Less) keys →
    AllByRecursion (λ (t : List ℕ). slice_cmp nat_cmp k.items t ≡ Less) (texts_in keys)
below k [] all = tt
below k (other ∷ keys) all = (all.0, below k keys all.1)

sorted_texts : {A : Type 0} (keys : List (Vec ℕ A)) → IsStrictlySortedBy (order {A = A}) keys → IsStrictlySortedBy (slice_cmp nat_cmp) (texts_in keys)
unfolding IsStrictlySortedBy
sorted_texts [] sorted = tt
sorted_texts (k ∷ keys) sorted = (below k keys sorted.0, sorted_texts keys sorted.1)

-- keys in order are distinct texts
distinct_texts : {A : Type 0} (keys : List (Vec ℕ A)) → IsStrictlySortedBy (order {A = A}) keys → IsDistinct bytes_eq (texts_in keys)
distinct_texts keys sorted =
    subst
    (λ (e : List ℕ → List ℕ → Bool). IsDistinct e (texts_in keys))
    (λ i x y. is_eq-slice_cmp x y i)
    (IsDistinct-from_sorted (slice_cmp nat_cmp) (texts_in keys) (sorted_texts keys sorted))

-- the list with one text more
pub kept_more : {A : Type 0} (key : Vec ℕ A) (keys : List (Vec ℕ A)) (texts : List (List ℕ)) → Keeps (texts_in keys) texts →
    Keeps (texts_in (insert_key (order {A = A}) keys key)) (texts ++ key.items ∷ [])
kept_more key keys texts keeps = record {
  same = λ (q : List ℕ).
      has_more q key keys
      ∙ ap (λ (b : Bool). b || bytes_eq q key.items) (keeps.same q)
      ∙ ap (λ (b : Bool). is_member bytes_eq texts q || b) (or_comm false (bytes_eq q key.items))
      ∙ sym (list_any-append (bytes_eq q) texts (key.items ∷ []));
}

bytes_equivalence : IsEquivalence bytes_eq
bytes_equivalence =
    subst
    (λ (e : List ℕ → List ℕ → Bool). IsEquivalence e)
    (λ i x y. is_eq-slice_cmp x y i)
    (eq_by_cmp_equiv nat_list_cmp_total)

-- how many texts are kept
pub kept_count : {A : Type 0} (keys : List (Vec ℕ A)) (texts : List (List ℕ)) → IsStrictlySortedBy (order {A = A}) keys → Keeps (texts_in keys) texts →
    length keys ≡ distinct_count bytes_eq texts
kept_count {A} keys texts sorted keeps =
    sym (length-map keys (λ (text : Vec ℕ A). text.items))
    ∙ length-from_keys bytes_equivalence (texts_in keys) texts (distinct_texts keys sorted) keeps.same
