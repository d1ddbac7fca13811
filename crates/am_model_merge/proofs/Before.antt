-- What a log has before an entry, and what is stamped below it.
use Rattle.std.specs.Prelude.{nat_lt, not}
use Rattle.std.specs.List.{filter, list_any, list_all}
use Rattle.std.proofs.Common.{◌≡◌, ℕ, ◌<◌, Bool, true, false, cond, ◌||◌, ◌&&◌, List, [], ◌∷◌, ◌++◌, refl, sym, ap, ◌∙◌, subst, arith, lt-ltb, le-ltb}
use Rattle.std.proofs.lemmas.List.Elements.{filter-append}
use Rattle.std.proofs.lemmas.Bool.{or_right}
use Rattle.am_names.specs.declared.EndpointId.{EndpointId}
use Rattle.am_office_entries.specs.declared.Entry.{Entry}
use Rattle.am_names.specs.Names.{same_end}
use Rattle.am_office_entries.specs.Entries.{touches, share_part, shares_node, ends_touched, node_touched}
use Rattle.am_model.proofs.Names.{same_end-refl}
use Rattle.am_model.specs.Layout.{AllAre}
use Rattle.am_model_merge.specs.Logs.{before, IsRising}

-- all are stamped above
abbrev IsAbove : ℕ → List Entry → Type 0
IsAbove t xs = AllAre (λ (y : Entry). t < y.stamp) xs

none_above : (t : ℕ) (xs : List Entry) → IsAbove t xs → before t xs ≡ []
none_above t [] h = refl
none_above t (x ∷ xs) h = λ i. cond (le-ltb x.stamp t (omega (arith, h.0)) i) (x ∷ none_above t xs h.1 i) (none_above t xs h.1 i)

above_at : (t : ℕ) (xs : List Entry) (x : Entry) (ys : List Entry) → IsAbove t (xs ++ x ∷ ys) → t < x.stamp
above_at t [] x ys h = h.0
above_at t (z ∷ xs) x ys h = above_at t xs x ys h.1

-- where stamps rise, what is below an entry's stamp is what stands before it
pub before_it : (xs : List Entry) (x : Entry) (ys : List Entry) → IsRising (xs ++ x ∷ ys) → before x.stamp (xs ++ x ∷ ys) ≡ xs
before_it [] x ys h = λ i. cond (le-ltb x.stamp x.stamp (omega arith) i) (x ∷ none_above x.stamp ys h.0 i) (none_above x.stamp ys h.0 i)
before_it (z ∷ xs) x ys h = λ i. cond (lt-ltb z.stamp x.stamp (above_at z.stamp xs x ys h.0) i) (z ∷ before_it xs x ys h.1 i) (before_it xs x ys h.1 i)

-- all that pass are stamped below
abbrev pub AreBelow : (Entry → Bool) → ℕ → List Entry → Type 0
AreBelow q t [] = Unit {0}
AreBelow q t (x ∷ xs) = (q x ≡ true → x.stamp < t) × AreBelow q t xs

rising_below : (q : Entry → Bool) (past : List Entry) (x : Entry) (ys : List Entry) → IsRising (filter q past ++ x ∷ ys) → AreBelow q x.stamp past
rising_below q [] x ys h = tt
rising_below q (y ∷ past) x ys h = by_test (q y) refl h (rising_below q past x ys)
  where
    by_test : (b : Bool) → q y ≡ b → IsRising (cond b (y ∷ filter q past) (filter q past) ++ x ∷ ys) →
        (IsRising (filter q past ++ x ∷ ys) → AreBelow q x.stamp past) → (q y ≡ true → y.stamp < x.stamp) × AreBelow q x.stamp past
    by_test true is g more = ((λ t. above_at y.stamp (filter q past) x ys g.0), more g.1)
    by_test false is g more = ((λ t. absurd (let e : q y ≡ true = t in cc)), more g)

split_at : (q : Entry → Bool) (past : List Entry) (x : Entry) (rest : List Entry) → q x ≡ true →
    filter q (past ++ x ∷ rest) ≡ filter q past ++ x ∷ filter q rest
split_at q past x rest is = filter-append q past (x ∷ rest) ∙ (λ i. filter q past ++ cond (is i) (x ∷ filter q rest) (filter q rest))

-- the part of a journal before an entry that a log has is what the log has below its stamp
pub part_before : (q : Entry → Bool) (past : List Entry) (x : Entry) (rest log : List Entry) → q x ≡ true → filter q (past ++ x ∷ rest) ≡ log → IsRising log →
    before x.stamp log ≡ filter q past
part_before q past x rest log is made rising =
    let same : log ≡ filter q past ++ x ∷ filter q rest = sym made ∙ split_at q past x rest is in
    ap (before x.stamp) same ∙ before_it (filter q past) x (filter q rest) (subst IsRising same rising)

pub below_before : (q : Entry → Bool) (past : List Entry) (x : Entry) (rest log : List Entry) → q x ≡ true → filter q (past ++ x ∷ rest) ≡ log → IsRising log →
    AreBelow q x.stamp past
below_before q past x rest log is made rising = rising_below q past x (filter q rest) (subst IsRising (sym made ∙ split_at q past x rest is) rising)

either_below : (p q : Entry → Bool) (t : ℕ) (past : List Entry) → AreBelow p t past → AreBelow q t past → AreBelow (λ y. p y || q y) t past
either_below p q t [] h k = tt
either_below p q t (y ∷ ys) h k = (by_test (p y) refl, either_below p q t ys h.1 k.1)
  where
    by_test : (b : Bool) → p y ≡ b → (b || q y) ≡ true → y.stamp < t
    by_test true is g = h.0 is
    by_test false is g = k.0 g

none_below : (t : ℕ) (past : List Entry) → AreBelow (λ y. false) t past
none_below t [] = tt
none_below t (y ∷ ys) = ((λ h. absurd (cc)), none_below t ys)

ends_below : (t : ℕ) (past : List Entry) (es : List EndpointId) → ((e : EndpointId) → list_any (same_end e) es ≡ true → AreBelow (touches e) t past) →
    AreBelow (λ y. list_any (λ e. touches e y) es) t past
ends_below t past [] all = none_below t past
ends_below t past (e ∷ es) all =
    either_below (touches e) (λ y. list_any (λ d. touches d y) es) t past (all e (ap (λ (b : Bool). b || list_any (same_end e) es) (same_end-refl e)))
    (ends_below t past es (λ d h. all d (or_right (same_end d e) (list_any (same_end d) es) h)))

-- all that share a part with an entry are stamped below it
pub later_than_shared : (x : Entry) (past : List Entry) → ((e : EndpointId) → touches e x ≡ true → AreBelow (touches e) x.stamp past) →
    AreBelow (shares_node (node_touched x.event)) x.stamp past → list_all (λ (y : Entry). not (share_part x y) || nat_lt y.stamp x.stamp) past ≡ true
later_than_shared x past ends node = all past (either_below (λ y. list_any (λ e. touches e y) (ends_touched x.event x.outcome))
    (shares_node (node_touched x.event)) x.stamp past (ends_below x.stamp past (ends_touched x.event x.outcome) ends) node)
  where
    one : (b : Bool) (y : Entry) → (b ≡ true → y.stamp < x.stamp) → (not b || nat_lt y.stamp x.stamp) ≡ true
    one true y h = lt-ltb y.stamp x.stamp (h refl)
    one false y h = refl

    all : (ys : List Entry) → AreBelow (share_part x) x.stamp ys → list_all (λ (y : Entry). not (share_part x y) || nat_lt y.stamp x.stamp) ys ≡ true
    all [] h = refl
    all (y ∷ ys) h = λ i. one (share_part x y) y h.0 i && all ys h.1 i
