-- Each place of a journal, and what stands in a list.
use Rattle.std.specs.List.{filter, list_all}
use Rattle.std.proofs.Common.{◌≡◌, ⊎_elim, inl, inr, ◌≤◌, ◌<◌, Bool, true, false, cond, List, [], ◌∷◌, ◌++◌, refl, ◌∙◌, subst, arith, append_assoc}
use Rattle.std.proofs.lemmas.Bool.{and_parts}
use Rattle.am_office_entries.specs.declared.Entry.{Entry}
use Rattle.am_model.specs.Layout.{AllAre}
use Rattle.am_model.specs.History.{EachAfter}
use Rattle.am_model.specs.Merge.{rank, is_before, is_ordered}
use Rattle.am_model_merge.proofs.Sorted.{Has, earlier}

pub all_at : (P : Entry → Type 0) (xs : List Entry) (x : Entry) → AllAre P xs → Has xs x → P x
all_at P [] x all h = absurd h
all_at P (y ∷ ys) x all h = ⊎_elim (λ (here : y ≡ x). subst P here all.0) (λ (there : Has ys x). all_at P ys x all.1 there) h

pub all_from : (P : Entry → Type 0) (xs : List Entry) → ((x : Entry) → Has xs x → P x) → AllAre P xs
all_from P [] h = tt
all_from P (y ∷ ys) h = (h y (inl refl), all_from P ys (λ x there. h x (inr there)))

pub has_middle : (past : List Entry) (x : Entry) (rest : List Entry) → Has (past ++ x ∷ rest) x
has_middle [] x rest = inl refl
has_middle (y ∷ past) x rest = inr (has_middle past x rest)

each_from : (May : List Entry → Entry → Type 0) (journal past rest : List Entry) → ((before : List Entry) (x : Entry) (after : List Entry) →
    before ++ x ∷ after ≡ journal → May before x) → past ++ rest ≡ journal → EachAfter May past rest
each_from May journal past [] h is = tt
each_from May journal past (x ∷ rest) h is = (h past x rest is, each_from May journal (past ++ x ∷ []) rest h (append_assoc past (x ∷ []) rest ∙ is))

-- what holds at each place holds of each entry after those before it
pub each_split : (May : List Entry → Entry → Type 0) (journal : List Entry) → ((before : List Entry) (x : Entry) (after : List Entry) →
    before ++ x ∷ after ≡ journal → May before x) → EachAfter May [] journal
each_split May journal h = each_from May journal [] journal h refl

-- none is stamped below
abbrev pub IsNotBelow : Entry → List Entry → Type 0
IsNotBelow x xs = AllAre (λ (y : Entry). x.stamp ≤ y.stamp) xs

all_not_below : (x : Entry) (ys : List Entry) → list_all (is_before x) ys ≡ true → IsNotBelow x ys
all_not_below x [] h = tt
all_not_below x (y ∷ ys) h =
    let parts = and_parts (is_before x y) (list_all (is_before x) ys) h in (
      ⊎_elim (λ (less : x.stamp < y.stamp). omega (arith, less)) (λ (same : (x.stamp ≡ y.stamp) × (rank x < rank y)). omega (arith, same.0))
          (earlier x y parts.0),
      all_not_below x ys parts.1,
    )

-- in a journal in order an entry and those after it aren't stamped below it
pub not_below : (past : List Entry) (x : Entry) (rest : List Entry) → is_ordered (past ++ x ∷ rest) ≡ true → IsNotBelow x (x ∷ rest)
not_below [] x rest h = (omega arith, all_not_below x rest (and_parts (list_all (is_before x) rest) (is_ordered rest) h).0)
not_below (y ∷ past) x rest h = not_below past x rest (and_parts (list_all (is_before y) (past ++ x ∷ rest)) (is_ordered (past ++ x ∷ rest)) h).1

-- what passes among those that pass a wider test
pub filter_within : (p q : Entry → Bool) → ((x : Entry) → p x ≡ true → q x ≡ true) → (xs : List Entry) → filter p (filter q xs) ≡ filter p xs
filter_within p q within [] = refl
filter_within p q within (x ∷ xs) = by_tests (p x) (q x) refl refl (filter_within p q within xs)
  where
    by_tests : (b t : Bool) → p x ≡ b → q x ≡ t → filter p (filter q xs) ≡ filter p xs →
        filter p (cond t (x ∷ filter q xs) (filter q xs)) ≡ cond b (x ∷ filter p xs) (filter p xs)
    by_tests true true is on more = λ i. cond (is i) (x ∷ more i) (more i)
    by_tests false true is on more = λ i. cond (is i) (x ∷ more i) (more i)
    by_tests true false is on more = absurd (let bad : q x ≡ true = within x is in cc)
    by_tests false false is on more = more
