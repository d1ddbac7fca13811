-- A source's messages, changed at the place of a count.
use Rattle.std.proofs.Common.{◌≡◌, ℕ, zero, suc, ◌<◌, ◌≤◌, ◌-◌, Bool, true, false, if◌then◌else◌, List, [], ◌∷◌, ◌++◌, refl, sym, ap, ◌∙◌, map, length, get_or}
use Rattle.std.proofs.Common.{slice_set, inl, inr, arith}
use Rattle.std.specs.List.{insert}
use Rattle.std.specs.List.Sorted.{IsStrictlySortedBy}
use Rattle.std.specs.Map.{keys_of}
use Rattle.std.specs.BTreeMap.{insert_entry}
use Rattle.std.specs.Cmp.{nat_cmp_is}
use Rattle.std.specs.Ordering.{nat_cmp, match_ordering}
use Rattle.std.specs.declared.cmp.Ordering.{Ordering}
use Rattle.std.specs.declared.cmp.Ordering.TheVariants.{Less, Equal, Greater}
use Rattle.std.proofs.lemmas.Cmp.{nat_cmp_total}
use Rattle.std.proofs.lemmas.Bool.Decides.{eqb_tells}
use Rattle.std.proofs.lemmas.Map.Keys.{below_from_sorted}
use Rattle.std.proofs.lemmas.Map.Entries.{length-keys_of}
use Rattle.am_office_report.specs.declared.sources.MessageState.{MessageState}
use Rattle.am_office_report.specs.declared.known.News.{News}
use Rattle.am_office_report.specs.declared.known.Known.{Known}
use Rattle.am_names.specs.declared.MsgKind.TheVariants as Kind
use Rattle.am_office_report.specs.Tables.{IsPlace, IsThere, IsMissing, heard, heard_if, accepted_state, known_with}
use Rattle.am_office_report.proofs.Sorting.{sorted_insert}

abbrev Row : Type 0
Row = ℕ × MessageState

pub below_is : (x y : ℕ) → x < y → nat_cmp x y ≡ Less
below_is x y h = sym (nat_cmp_is x y Less h)

pub same_is : (x y : ℕ) → x ≡ y → nat_cmp x y ≡ Equal
same_is x y h = sym (nat_cmp_is x y Equal h)

pub above_is : (x y : ℕ) → y < x → nat_cmp x y ≡ Greater
above_is x y h = sym (nat_cmp_is x y Greater h)

pub cons_same : {X : Type 0} (x y : X) (xs ys : List X) → x ≡ y → xs ≡ ys → x ∷ xs ≡ y ∷ ys
cons_same x y xs ys e f = ap (λ z. z ∷ xs) e ∙ ap (λ zs. y ∷ zs) f

-- an insert, by the first row
insert_by : Ordering → Row → List Row → ℕ → MessageState → List Row
insert_by o r rs c v = match_ordering o ((c, v) ∷ r ∷ rs) ((r.0, v) ∷ rs) (r ∷ insert_entry nat_cmp rs c v)

first_less : (r : Row) (rs : List Row) (c : ℕ) (v : MessageState) → c < r.0 → insert_entry nat_cmp (r ∷ rs) c v ≡ (c, v) ∷ r ∷ rs
unfolding insert_by
first_less r rs c v h = ap (λ (o : Ordering). insert_by o r rs c v) (below_is c r.0 h)

first_same : (r : Row) (rs : List Row) (c : ℕ) (v : MessageState) → r.0 ≡ c → insert_entry nat_cmp (r ∷ rs) c v ≡ (r.0, v) ∷ rs
unfolding insert_by
first_same r rs c v h = ap (λ (o : Ordering). insert_by o r rs c v) (same_is c r.0 (sym h))

first_more : (r : Row) (rs : List Row) (c : ℕ) (v : MessageState) → r.0 < c → insert_entry nat_cmp (r ∷ rs) c v ≡ r ∷ insert_entry nat_cmp rs c v
unfolding insert_by
first_more r rs c v h = ap (λ (o : Ordering). insert_by o r rs c v) (above_is c r.0 h)

-- the place among the rows behind the first
behind : (r : Row) (rs : List Row) (c i : ℕ) → IsPlace (r ∷ rs) c (suc i) → IsPlace rs c i
behind r rs c i p = record {
  within = omega (arith, p.within);
  below = λ (k : ℕ) (d : Row) (h : k < i). p.below (suc k) d (omega arith);
  there = λ (d : Row) (h : i < length rs). p.there d (omega arith);
  above = λ (k : ℕ) (d : Row) (h : i < k) (g : k < length rs). p.above (suc k) d (omega arith) (omega arith);
}

inserted : (rows : List Row) (c i : ℕ) (v : MessageState) → IsPlace rows c i → ((d : Row) → i < length rows → (get_or rows i d).0 ≡ c → ⊥) →
    insert_entry nat_cmp rows c v ≡ insert rows i (c, v)
inserted [] c zero v p apart = refl
inserted [] c (suc i) v p apart = absurd (omega (arith, p.within))
inserted (r ∷ rs) c zero v p apart =
    let le : c ≤ r.0 = p.there r (omega arith) in
    let other : r.0 ≡ c → ⊥ = apart r (omega arith) in
    first_less r rs c v (omega (arith, other))
inserted (r ∷ rs) c (suc i) v p apart =
    first_more r rs c v (p.below 0 r (omega arith))
    ∙ ap (λ (es : List Row). r ∷ es) (inserted rs c i v (behind r rs c i p) (λ (d : Row) (h : i < length rs). apart d (omega arith)))

replaced : (rows : List Row) (c i : ℕ) (v : MessageState) → IsPlace rows c i → i < length rows → ((d : Row) → (get_or rows i d).0 ≡ c) → (d : Row) →
    insert_entry nat_cmp rows c v ≡ slice_set rows i ((get_or rows i d).0, v)
replaced [] c i v p below same d = absurd (omega arith)
replaced (r ∷ rs) c zero v p below same d = first_same r rs c v (same r)
replaced (r ∷ rs) c (suc i) v p below same d =
    first_more r rs c v (p.below 0 r (omega arith))
    ∙ ap (λ (es : List Row). r ∷ es) (replaced rs c i v (behind r rs c i p) (omega arith) same d)

heard_other : (c : ℕ) (news : News) (r : Row) → (r.0 ≡ c → ⊥) → heard c news r ≡ r
heard_other c news r apart = elim (eqb_tells r.0 c) [
  | inl (found, same) ↦ absurd (apart same)
  | inr (missed, other) ↦ ap (λ (b : Bool). (r.0, heard_if b news r.1)) missed
]

others : (c : ℕ) (news : News) (rows : List Row) → ((k : ℕ) (d : Row) → k < length rows → c < (get_or rows k d).0) → map (heard c news) rows ≡ rows
others c news [] above = refl
others c news (r ∷ rs) above =
    let more : c < r.0 = above 0 r (omega arith) in
    cons_same (heard c news r) r (map (heard c news) rs) rs (heard_other c news r (λ (same : r.0 ≡ c). omega arith))
    (others c news rs (λ (k : ℕ) (d : Row) (h : k < length rs). above (suc k) d (omega arith)))

not_there : (c : ℕ) (news : News) (rows : List Row) (i : ℕ) → IsPlace rows c i → ((d : Row) → i < length rows → (get_or rows i d).0 ≡ c → ⊥) →
    map (heard c news) rows ≡ rows
not_there c news [] i p apart = refl
not_there c news (r ∷ rs) zero p apart =
    cons_same (heard c news r) r (map (heard c news) rs) rs (heard_other c news r (apart r (omega arith)))
    (others c news rs (λ (k : ℕ) (d : Row) (h : k < length rs). p.above (suc k) d (omega arith) (omega arith)))
not_there c news (r ∷ rs) (suc i) p apart =
    let less : r.0 < c = p.below 0 r (omega arith) in
    cons_same (heard c news r) r (map (heard c news) rs) rs (heard_other c news r (λ (same : r.0 ≡ c). omega arith))
    (not_there c news rs i (behind r rs c i p) (λ (d : Row) (h : i < length rs). apart d (omega arith)))

heard_there : (c : ℕ) (news : News) (rows : List Row) (i : ℕ) (d : Row) → IsPlace rows c i → i < length rows →
    slice_set rows i (heard c news (get_or rows i d)) ≡ map (heard c news) rows
heard_there c news [] i d p below = absurd (omega arith)
heard_there c news (r ∷ rs) zero d p below =
    ap (λ (es : List Row). heard c news r ∷ es) (sym (others c news rs (λ (k : ℕ) (e : Row) (h : k < length rs). p.above (suc k) e (omega arith)
    (omega arith))))
heard_there c news (r ∷ rs) (suc i) d p below =
    let less : r.0 < c = p.below 0 r (omega arith) in
    let first : r ≡ heard c news r = sym (heard_other c news r (λ (same : r.0 ≡ c). omega arith)) in
    cons_same r (heard c news r) (slice_set rs i (heard c news (get_or rs i d))) (map (heard c news) rs) first
    (heard_there c news rs i d (behind r rs c i p) (omega arith))

heard_keys : (c : ℕ) (news : News) (rows : List Row) → keys_of (map (heard c news) rows) ≡ keys_of rows
heard_keys c news [] = refl
heard_keys c news (r ∷ rs) = ap (λ (ks : List ℕ). r.0 ∷ ks) (heard_keys c news rs)

heard_sorted : (rows : List Row) (c : ℕ) (news : News) → IsStrictlySortedBy nat_cmp (keys_of rows) →
    IsStrictlySortedBy nat_cmp (keys_of (map (heard c news) rows))
heard_sorted rows c news sorted = rw (heard_keys c news rows) sorted

accepted_sorted : (rows : List Row) (c : ℕ) (v : MessageState) → IsStrictlySortedBy nat_cmp (keys_of rows) →
    IsStrictlySortedBy nat_cmp (keys_of (insert_entry nat_cmp rows c v))
accepted_sorted rows c v sorted = sorted_insert nat_cmp_total rows c v sorted

-- ---- where the place of a count is

key_at : (rows : List Row) (k : ℕ) (d : Row) → get_or (keys_of rows) k d.0 ≡ (get_or rows k d).0
key_at [] k d = refl
key_at (r ∷ rs) zero d = refl
key_at (r ∷ rs) (suc k) d = key_at rs k d

rising : (rows : List Row) (j k : ℕ) (d : Row) → IsStrictlySortedBy nat_cmp (keys_of rows) → j < k → k < length rows → (get_or rows j d).0 < (get_or rows k d).0
rising rows j k d sorted less within =
    let step : get_or (keys_of rows) j d.0 < get_or (keys_of rows) k d.0 =
    below_from_sorted (keys_of rows) j k d.0 sorted less (omega (arith, length-keys_of rows)) in
    rw (← key_at rows j d, ← key_at rows k d) step

pub not_falling : (rows : List Row) → IsStrictlySortedBy nat_cmp (keys_of rows) → (j k : ℕ) (d : Row) → j ≤ k → k < length rows →
    (get_or rows j d).0 ≤ (get_or rows k d).0
not_falling rows sorted j k d le within = elim (eqb_tells j k) [
  | inl (found, same) ↦ rw same (omega arith)
  | inr (missed, other) ↦ let less = rising rows j k d sorted (omega (arith, other)) within in omega (arith, less)
]

-- a row at a place is the same whatever stands for a missing one
any_default : (rows : List Row) (i : ℕ) (d e : Row) → i < length rows → get_or rows i d ≡ get_or rows i e
any_default [] i d e below = absurd (omega arith)
any_default (r ∷ rs) zero d e below = refl
any_default (r ∷ rs) (suc i) d e below = any_default rs i d e (omega arith)

abbrev pub no_row : Row
no_row = (0, accepted_state Kind.Request)

pub placed : (rows : List Row) (c i : ℕ) → IsStrictlySortedBy nat_cmp (keys_of rows) → i ≤ length rows → (0 < i → (get_or rows (i - 1) no_row).0 < c) →
    (i < length rows → c ≤ (get_or rows i no_row).0) → IsPlace rows c i
placed rows c i sorted within low high = record {
  within = within;
  below = λ (k : ℕ) (d : Row) (h : k < i).
      let before : (get_or rows (i - 1) no_row).0 < c = low (omega arith) in
      let same : get_or rows (i - 1) no_row ≡ get_or rows (i - 1) d = any_default rows (i - 1) no_row d (omega arith) in
      let step : (get_or rows k d).0 ≤ (get_or rows (i - 1) d).0 = not_falling rows sorted k (i - 1) d (omega arith) (omega arith) in
      omega (arith, before, step, ap (λ (r : Row). r.0) same);
  there = λ (d : Row) (h : i < length rows). rw (any_default rows i d no_row h) (high h);
  above = λ (k : ℕ) (d : Row) (h : i < k) (g : k < length rows).
      let there : c ≤ (get_or rows i no_row).0 = high (omega arith) in
      let same : get_or rows i no_row ≡ get_or rows i d = any_default rows i no_row d (omega arith) in
      let step : (get_or rows i d).0 < (get_or rows k d).0 = rising rows i k d sorted h g in
      omega (arith, there, step, ap (λ (r : Row). r.0) same);
}

pub is_there : (rows : List Row) (c i : ℕ) → i < length rows → (get_or rows i no_row).0 ≡ c → IsThere rows c i
is_there rows c i below same = record {
  within = below;
  same = λ (d : Row). ap (λ (r : Row). r.0) (any_default rows i d no_row below) ∙ same;
}

pub is_missing : (rows : List Row) (c i : ℕ) → ((get_or rows i no_row).0 ≡ c → ⊥) → IsMissing rows c i
is_missing rows c i other = record {
  other = λ (d : Row) (below : i < length rows) (same : (get_or rows i d).0 ≡ c). other (ap (λ (r : Row). r.0) (any_default rows i no_row d below) ∙ same);
}

pub past_end : (rows : List Row) (c i : ℕ) → length rows ≤ i → IsMissing rows c i
past_end rows c i past = record { other = λ (d : Row) (below : i < length rows) (same : (get_or rows i d).0 ≡ c). absurd (omega (arith, past, below)) }

-- ---- what becomes of the rows

pub put_there : (rows : List Row) (c i : ℕ) (v : MessageState) (r : Row) → r ≡ get_or rows i r → IsPlace rows c i → IsThere rows c i →
    slice_set rows i (r.0, v) ≡ insert_entry nat_cmp rows c v
put_there rows c i v r is p there =
    ap (λ (x : Row). slice_set rows i (x.0, v)) is ∙ sym (replaced rows c i v p there.within there.same r)

pub put_missing : (rows : List Row) (c i : ℕ) (v : MessageState) → IsPlace rows c i → IsMissing rows c i → insert rows i (c, v) ≡ insert_entry nat_cmp rows c v
put_missing rows c i v p missing = sym (inserted rows c i v p missing.other)

insert_last : (rows : List Row) (r : Row) → insert rows (length rows) r ≡ rows ++ r ∷ []
insert_last [] r = refl
insert_last (first ∷ rows) r = ap (λ (rest : List Row). first ∷ rest) (insert_last rows r)

pub put_last : (rows : List Row) (c i : ℕ) (v : MessageState) → IsPlace rows c i → i ≡ length rows → rows ++ (c, v) ∷ [] ≡ insert_entry nat_cmp rows c v
put_last rows c i v p last =
    sym (insert_last rows (c, v)) ∙ ap (λ (k : ℕ). insert rows k (c, v)) (sym last)
    ∙ put_missing rows c i v p (record { other = λ d below same. absurd (omega (arith, below, last)) })

heard_same : (c : ℕ) (news : News) (r : Row) → r.0 ≡ c → (r.0, heard_if true news r.1) ≡ heard c news r
heard_same c news r same = elim (eqb_tells r.0 c) [
  | inl (found, is) ↦ ap (λ (b : Bool). (r.0, heard_if b news r.1)) (sym found)
  | inr (missed, other) ↦ absurd (other same)
]

abbrev known_row : Row → Known → Row
known_row r k = (r.0, record { kind = r.1.kind; known = k })

pub hear_there : (rows : List Row) (c i : ℕ) (news : News) (r : Row) (known : Known) → r ≡ get_or rows i r → known ≡ known_with r.1.known news →
    IsPlace rows c i → IsThere rows c i → slice_set rows i (r.0, record { kind = r.1.kind; known = known }) ≡ map (heard c news) rows
hear_there rows c i news r known is learned p there =
    let same : r.0 ≡ c = ap (λ (x : Row). x.0) is ∙ there.same r in
    ap (λ (k : Known). slice_set rows i (known_row r k)) learned
    ∙ ap (λ (x : Row). slice_set rows i x) (heard_same c news r same ∙ ap (λ (x : Row). heard c news x) is)
    ∙ heard_there c news rows i r p there.within

pub hear_missing : (rows : List Row) (c i : ℕ) (news : News) → IsPlace rows c i → IsMissing rows c i → rows ≡ map (heard c news) rows
hear_missing rows c i news p missing = sym (not_there c news rows i p missing.other)

pub sorted_put : (rows new : List Row) (c : ℕ) (v : MessageState) (b : Bool) → new ≡ (if b then insert_entry nat_cmp rows c v else rows) →
    IsStrictlySortedBy nat_cmp (keys_of rows) → IsStrictlySortedBy nat_cmp (keys_of new)
sorted_put rows new c v true is sorted = rw is (accepted_sorted rows c v sorted)
sorted_put rows new c v false is sorted = rw is sorted

pub sorted_hear : (rows new : List Row) (c : ℕ) (news : News) → new ≡ map (heard c news) rows → IsStrictlySortedBy nat_cmp (keys_of rows) →
    IsStrictlySortedBy nat_cmp (keys_of new)
sorted_hear rows new c news is sorted = rw is (heard_sorted rows c news sorted)

pub none_sorted : (rows : List Row) → rows ≡ [] → IsStrictlySortedBy nat_cmp (keys_of rows)
unfolding IsStrictlySortedBy
none_sorted rows none = rw none tt
