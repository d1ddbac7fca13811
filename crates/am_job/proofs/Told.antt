-- The rows that are told of the counts.
use Rattle.std.proofs.Common.{Bor, append-nil, ◌≡◌, ℕ, ◌+◌, ◌-◌, ◌<◌, ◌≤◌, Bool, true, false, cond, Option, Some, None, List, [], ◌∷◌, ◌++◌, refl, sym, ap, ◌∙◌}
use Rattle.std.proofs.Common.{subst, length, map, get_or, if◌then◌else◌, arith}
use Rattle.std.specs.Prelude.{◌==◌, unwrap_or}
use Rattle.std.specs.declared.cmp.Ordering.TheVariants.{Less}
use Rattle.std.specs.Cmp.Lexicographic.{slice_cmp, nat_list_cmp_total}
use Rattle.std.specs.List.{All, AllByRecursion, Contains}
use Rattle.std.specs.List.Sorted.{IsStrictlySortedBy}
use Rattle.std.specs.Map.{keys_of, lookup}
use Rattle.std.specs.Map.Iter.{deref_pair}
use Rattle.std.proofs.lemmas.List.{map_push}
use Rattle.std.specs.Ordering.{nat_cmp}
use Rattle.std.proofs.lemmas.Bool.Decides.{nat_tests}
use Rattle.std.proofs.lemmas.Cmp.{eq_by_cmp_equiv}
use Rattle.std.proofs.lemmas.List.Elements.{All-nil, All-cons, All-head, All-tail, All-weaker, Contains-append_left, Contains-append_right, Contains-push}
use Rattle.std.proofs.lemmas.List.Elements.{filter_map-append}
use Rattle.std.proofs.lemmas.Map.Entries.{lookup_from_place}
use Rattle.std.proofs.lemmas.Map.Keys.{sorted_head, sorted_tail, IsDistinct-from_sorted}
use Rattle.std.proofs.lemmas.Option.{slice_get-get_or}
use Rattle.am_lemmas.proofs.Numbers.{eqb_more}
use Rattle.am_job.specs.declared.words.tally.Count.{Count}
use Rattle.am_job.specs.Words.Counts.{Counted, IsCountOf, IsTallyOf, capped, count_at, row_of, rows_of, same_word, times}
use Rattle.am_job.specs.Words.Lists.{WordCountLists}
use Rattle.am_job.proofs.Tallied.{same_is}

abbrev word_of : WordCountLists → List ℕ
word_of row = row.word

-- the rows of an entry more
abbrev with_row : Bool → List ℕ × Count → List WordCountLists → List WordCountLists
with_row none e rows = if none then rows else record { word = e.0; ran = e.1.ran; left = e.1.asked - e.1.ran } ∷ rows

one_row : (e : List ℕ × Count) (es : Counted) (b : Bool) → (e.1.asked == 0) ≡ b → rows_of (e ∷ es) ≡ with_row b e (rows_of es)
one_row e es true is = rw is refl
one_row e es false is = rw is refl

-- ---- in order

below_with : (word : List ℕ) (b : Bool) (e : List ℕ × Count) (rows : List WordCountLists) → slice_cmp nat_cmp word e.0 ≡ Less →
    AllByRecursion (λ y. slice_cmp nat_cmp word y ≡ Less) (map word_of rows) →
    AllByRecursion (λ y. slice_cmp nat_cmp word y ≡ Less) (map word_of (with_row b e rows))
below_with word true e rows less all = all
below_with word false e rows less all = (less, all)

all_below : (word : List ℕ) (es : Counted) → AllByRecursion (λ y. slice_cmp nat_cmp word y ≡ Less) (keys_of es) →
    AllByRecursion (λ y. slice_cmp nat_cmp word y ≡ Less) (map word_of (rows_of es))
all_below word [] all = all
all_below word (e ∷ es) all =
    subst (λ (rows : List WordCountLists). AllByRecursion (λ y. slice_cmp nat_cmp word y ≡ Less) (map word_of rows)) (sym (one_row e es (e.1.asked == 0) refl))
    (below_with word (e.1.asked == 0) e (rows_of es) all.0 (all_below word es all.1))

sorted_with : (b : Bool) (e : List ℕ × Count) (rows : List WordCountLists) → AllByRecursion (λ y. slice_cmp nat_cmp e.0 y ≡ Less) (map word_of rows) →
    IsStrictlySortedBy (slice_cmp nat_cmp) (map word_of rows) → IsStrictlySortedBy (slice_cmp nat_cmp) (map word_of (with_row b e rows))
unfolding IsStrictlySortedBy
sorted_with true e rows all sorted = sorted
sorted_with false e rows all sorted = (all, sorted)

rows_sorted : (es : Counted) → IsStrictlySortedBy (slice_cmp nat_cmp) (keys_of es) → IsStrictlySortedBy (slice_cmp nat_cmp) (map word_of (rows_of es))
rows_sorted [] sorted = sorted
rows_sorted (e ∷ es) sorted =
    subst (λ (rows : List WordCountLists). IsStrictlySortedBy (slice_cmp nat_cmp) (map word_of rows)) (sym (one_row e es (e.1.asked == 0) refl))
    (sorted_with (e.1.asked == 0) e (rows_of es) (all_below e.0 es (sorted_head (slice_cmp nat_cmp) e.0 (keys_of es) sorted))
    (rows_sorted es (sorted_tail (slice_cmp nat_cmp) e.0 (keys_of es) sorted)))

-- ---- each row

-- what holds of the row of each entry holds of each row
all_with : (P : WordCountLists → Type 0) (b : Bool) (e : List ℕ × Count) (rows : List WordCountLists) →
    (b ≡ false → P (record { word = e.0; ran = e.1.ran; left = e.1.asked - e.1.ran })) → All P rows → All P (with_row b e rows)
all_with P true e rows here all = all
all_with P false e rows here all = All-cons P _ rows (here refl) all

abbrev HoldsOfRow : (P : WordCountLists → Type 0) → List ℕ × Count → Type 0
HoldsOfRow P e = (e.1.asked == 0) ≡ false → P (record { word = e.0; ran = e.1.ran; left = e.1.asked - e.1.ran })

all_rows : (P : WordCountLists → Type 0) (es : Counted) → All (HoldsOfRow P) es → All P (rows_of es)
all_rows P [] all = All-nil P
all_rows P (e ∷ es) all =
    subst (λ (rows : List WordCountLists). All P rows) (sym (one_row e es (e.1.asked == 0) refl))
    (all_with P (e.1.asked == 0) e (rows_of es) (All-head (HoldsOfRow P) e es all) (all_rows P es (All-tail (HoldsOfRow P) e es all)))

-- each entry has the counts of its word
pub entries_tell : (counted : Counted) → IsStrictlySortedBy (slice_cmp nat_cmp) (keys_of counted) →
    All (λ (e : List ℕ × Count). count_at counted e.0 ≡ e.1) counted
entries_tell counted sorted =
    λ (i : ℕ) (d : List ℕ × Count) (below : i < length counted).
    let e : List ℕ × Count = get_or counted i d in
    let found : lookup (same_word e.0) counted ≡ Some e.1 =
    lookup_from_place (eq_by_cmp_equiv nat_list_cmp_total) counted i e.0 e.1 (IsDistinct-from_sorted (slice_cmp nat_cmp) (keys_of counted) sorted)
    (slice_get-get_or counted i d below) in
    ap (λ (o : Option Count). unwrap_or o (record { asked = 0; ran = 0 })) found

-- ---- every word

not_none : (b : Bool) (word : List ℕ) (e : List ℕ × Count) (rows : List WordCountLists) → b ≡ false → word ≡ e.0 →
    Contains (map word_of (with_row b e rows)) word
not_none true word e rows never is = absurd (cc)
not_none false word e rows _ is =
    subst (λ (w : List ℕ). Contains (e.0 ∷ map word_of rows) w) (sym is) (Contains-append_left (e.0 ∷ []) (map word_of rows) e.0 (Contains-push [] e.0))

kept_with : (b : Bool) (word : List ℕ) (e : List ℕ × Count) (rows : List WordCountLists) → Contains (map word_of rows) word →
    Contains (map word_of (with_row b e rows)) word
kept_with true word e rows has = has
kept_with false word e rows has = Contains-append_right (e.0 ∷ []) (map word_of rows) word has

row_cases : (b : Bool) (word : List ℕ) (e : List ℕ × Count) (es : Counted) (count : Count) → same_word word e.0 ≡ b →
    cond b (Some e.1) (lookup (same_word word) es) ≡ Some count → (count.asked == 0) ≡ false →
    (lookup (same_word word) es ≡ Some count → Contains (map word_of (rows_of es)) word)
    → Contains (map word_of (with_row (e.1.asked == 0) e (rows_of es))) word
row_cases true word e es count same found some later =
    let is : e.1 ≡ count = cc in
    not_none (e.1.asked == 0) word e (rows_of es) (ap (λ (c : Count). c.asked == 0) is ∙ some) (same_is word e.0 same)
row_cases false word e es count same found some later = kept_with (e.1.asked == 0) word e (rows_of es) (later found)

has_row : (word : List ℕ) (es : Counted) (count : Count) → lookup (same_word word) es ≡ Some count → (count.asked == 0) ≡ false →
    Contains (map word_of (rows_of es)) word
has_row word [] count found some = absurd (cc)
has_row word (e ∷ es) count found some =
    subst (λ (rows : List WordCountLists). Contains (map word_of rows) word) (sym (one_row e es (e.1.asked == 0) refl))
    (row_cases (same_word word e.0) word e es count refl found some (λ (at : lookup (same_word word) es ≡ Some count). has_row word es count at some))

-- ---- the whole count

abbrev pair : ℕ → ℕ → Count
pair asked ran = record { asked = asked; ran = ran }

positive : (n : ℕ) → (n == 0) ≡ false → 0 < n
positive n e = grind (arith, nat_tests)

some_sent : (e : List ℕ × Count) (a r : ℕ) → e.1 ≡ pair (capped a) (capped r) → (e.1.asked == 0) ≡ false → 0 < a
some_sent e a r is some =
    let here : e.1.asked ≡ capped a = ap (λ (c : Count). c.asked) is in
    let more : 0 < e.1.asked = positive e.1.asked some in omega arith

is_ran : (e : List ℕ × Count) (a r : ℕ) → e.1 ≡ pair (capped a) (capped r) → r ≤ a → a < 0xffff_ffff_ffff_ffff → e.1.ran ≡ r
is_ran e a r is few small = let here : e.1.ran ≡ capped r = ap (λ (c : Count). c.ran) is in omega arith

are_both : (e : List ℕ × Count) (a r : ℕ) → e.1 ≡ pair (capped a) (capped r) → r ≤ a → a < 0xffff_ffff_ffff_ffff → e.1.ran + (e.1.asked - e.1.ran) ≡ a
are_both e a r is few small =
    let here : e.1.ran ≡ capped r = ap (λ (c : Count). c.ran) is in
    let there : e.1.asked ≡ capped a = ap (λ (c : Count). c.asked) is in omega arith

has_word : (word : List ℕ) (counted : Counted) (o : Option Count) (a r : ℕ) → lookup (same_word word) counted ≡ o →
    unwrap_or o (pair 0 0) ≡ pair (capped a) (capped r) → 0 < a → Contains (map word_of (rows_of counted)) word
has_word word counted None a r at is some = let none : 0 ≡ capped a = ap (λ (c : Count). c.asked) is in absurd (omega arith)
has_word word counted (Some count) a r at is some =
    let here : count.asked ≡ capped a = ap (λ (c : Count). c.asked) is in
    has_row word counted count at (eqb_more count.asked 0 (omega arith))

pub rows_count : (counted : Counted) (asked ran : List (List ℕ)) → IsStrictlySortedBy (slice_cmp nat_cmp) (keys_of counted) → IsTallyOf counted asked ran →
    ((word : List ℕ) → times ran word ≤ times asked word) → ((word : List ℕ) → times asked word < 0xffff_ffff_ffff_ffff) → IsCountOf asked ran (rows_of counted)
rows_count counted asked ran sorted tells few small =
    let here : (e : List ℕ × Count) → count_at counted e.0 ≡ e.1 →
    e.1 ≡ pair (capped (times asked e.0)) (capped (times ran e.0)) = λ (e : List ℕ × Count) (at : count_at counted e.0 ≡ e.1). sym at ∙ tells.each e.0 in
    let entries : All (λ (e : List ℕ × Count). count_at counted e.0 ≡ e.1) counted = entries_tell counted sorted in
    record {
      ascend = rows_sorted counted sorted;
      sent = all_rows (λ (row : WordCountLists). 0 < times asked row.word) counted
          (All-weaker (λ (e : List ℕ × Count). count_at counted e.0 ≡ e.1) (HoldsOfRow (λ (row : WordCountLists). 0 < times asked row.word))
          (λ (e : List ℕ × Count) (at : count_at counted e.0 ≡ e.1) (some : (e.1.asked == 0) ≡ false). some_sent e (times asked e.0) (times ran e.0) (here e at)
          some) counted entries);
      ran' = all_rows (λ (row : WordCountLists). row.ran ≡ times ran row.word) counted
          (All-weaker (λ (e : List ℕ × Count). count_at counted e.0 ≡ e.1) (HoldsOfRow (λ (row : WordCountLists). row.ran ≡ times ran row.word))
          (λ (e : List ℕ × Count) (at : count_at counted e.0 ≡ e.1) (some : (e.1.asked == 0) ≡ false). is_ran e (times asked e.0) (times ran e.0) (here e at)
          (few e.0) (small e.0)) counted entries);
      both = all_rows (λ (row : WordCountLists). row.ran + row.left ≡ times asked row.word) counted
          (All-weaker (λ (e : List ℕ × Count). count_at counted e.0 ≡ e.1) (HoldsOfRow (λ (row : WordCountLists). row.ran + row.left ≡ times asked row.word))
          (λ (e : List ℕ × Count) (at : count_at counted e.0 ≡ e.1) (some : (e.1.asked == 0) ≡ false). are_both e (times asked e.0) (times ran e.0) (here e at)
          (few e.0) (small e.0)) counted entries);
      every = λ (word : List ℕ) (some : 0 < times asked word). has_word word counted (lookup (same_word word) counted) (times asked word) (times ran word) refl
          (tells.each word) some;
    }

-- ---- the map behind the counts

abbrev pub Item : Type 0 → Type 0
Item K = Bor K × Bor Count

abbrev pub shown : {K : Type 0} → (K → List ℕ) → Item K → List ℕ × Count
shown f p = (f p.0.now, p.1.now)

one_more : {K : Type 0} (f : K → List ℕ) (yielded : List (Item K)) (p : Item K) →
    rows_of (map (shown f) (yielded ++ p ∷ [])) ≡ rows_of (map (shown f) yielded) ++ rows_of (shown f p ∷ [])
one_more f yielded p = ap (λ (l : Counted). rows_of l) (map_push (shown f) yielded p) ∙ filter_map-append row_of (map (shown f) yielded) (shown f p ∷ [])

is_no : (n : ℕ) → (n ≡ 0 → ⊥) → (n == 0) ≡ false
is_no n never = grind (arith, nat_tests)

is_yes : (n : ℕ) → n ≡ 0 → (n == 0) ≡ true
is_yes n e = grind (arith, nat_tests)

pub row_kept : {K : Type 0} (f : K → List ℕ) (yielded : List (Item K)) (p : Item K) (rows new : List WordCountLists) (row : WordCountLists) (word : List ℕ) →
    rows ≡ rows_of (map (shown f) yielded) → (p.1.now.asked ≡ 0 → ⊥) → word ≡ f p.0.now
    → row ≡ record { word = word; ran = p.1.now.ran; left = p.1.now.asked - p.1.now.ran } → new ≡ rows ++ row ∷ [] →
    new ≡ rows_of (map (shown f) (yielded ++ p ∷ []))
row_kept f yielded p rows new row word so_far some is made push =
    let told : row ≡ record { word = f p.0.now; ran = p.1.now.ran; left = p.1.now.asked - p.1.now.ran } = made
    ∙ ap (λ (w : List ℕ). record { word = w; ran = p.1.now.ran; left = p.1.now.asked - p.1.now.ran }) is in
    push
    ∙ ap (λ (l : List WordCountLists). l ++ row ∷ []) so_far
    ∙ ap (λ (r : WordCountLists). rows_of (map (shown f) yielded) ++ r ∷ []) told
    ∙ sym (one_more f yielded p ∙ ap (λ (l : List WordCountLists). rows_of (map (shown f) yielded) ++ l)
    (one_row (shown f p) [] false (is_no p.1.now.asked some)))

pub row_passed : {K : Type 0} (f : K → List ℕ) (yielded : List (Item K)) (p : Item K) (rows : List WordCountLists) → rows ≡ rows_of (map (shown f) yielded) →
    p.1.now.asked ≡ 0 → rows ≡ rows_of (map (shown f) (yielded ++ p ∷ []))
row_passed f yielded p rows so_far none =
    so_far
    ∙ sym (append-nil (rows_of (map (shown f) yielded)))
    ∙ sym (one_more f yielded p ∙ ap (λ (l : List WordCountLists). rows_of (map (shown f) yielded) ++ l)
    (one_row (shown f p) [] true (is_yes p.1.now.asked none)))

seen_all : {K : Type 0} (f : K → List ℕ) (yielded : List (Item K)) → map (shown f) yielded ≡ map (λ (e : K × Count). (f e.0, e.1)) (map deref_pair yielded)
seen_all f [] = refl
seen_all f (p ∷ yielded) = ap (λ (l : Counted). shown f p ∷ l) (seen_all f yielded)

pub all_rows_told : {K : Type 0} (f : K → List ℕ) (yielded : List (Item K)) (es : List (K × Count)) (counted : Counted) (rows : List WordCountLists) →
    rows ≡ rows_of (map (shown f) yielded) → map deref_pair yielded ≡ es → map (λ (e : K × Count). (f e.0, e.1)) es ≡ counted → rows ≡ rows_of counted
all_rows_told {K} f yielded es counted rows so_far all seen =
    so_far ∙ ap (λ (l : Counted). rows_of l) (seen_all f yielded ∙ ap (λ (l : List (K × Count)). map (λ (e : K × Count). (f e.0, e.1)) l) all ∙ seen)

keys_below : {K : Type 0} (f : K → List ℕ) (k : K) (es : List (K × Count)) → AllByRecursion (λ (y : K). slice_cmp nat_cmp (f k) (f y) ≡ Less) (keys_of es) →
    AllByRecursion (λ y. slice_cmp nat_cmp (f k) y ≡ Less) (keys_of (map (λ (e : K × Count). (f e.0, e.1)) es))
keys_below f k [] all = all
keys_below f k (e ∷ es) all = (all.0, keys_below f k es all.1)

keys_ascend : {K : Type 0} (f : K → List ℕ) (es : List (K × Count)) → IsStrictlySortedBy (λ (x y : K). slice_cmp nat_cmp (f x) (f y)) (keys_of es) →
    IsStrictlySortedBy (slice_cmp nat_cmp) (keys_of (map (λ (e : K × Count). (f e.0, e.1)) es))
unfolding IsStrictlySortedBy
keys_ascend f [] sorted = sorted
keys_ascend f (e ∷ es) sorted = (keys_below f e.0 es sorted.0, keys_ascend f es sorted.1)

pub words_ascend : {K : Type 0} (f : K → List ℕ) (es : List (K × Count)) (counted : Counted) → map (λ (e : K × Count). (f e.0, e.1)) es ≡ counted →
    IsStrictlySortedBy (λ (x y : K). slice_cmp nat_cmp (f x) (f y)) (keys_of es) → IsStrictlySortedBy (slice_cmp nat_cmp) (keys_of counted)
words_ascend f es counted seen sorted = subst (λ (l : Counted). IsStrictlySortedBy (slice_cmp nat_cmp) (keys_of l)) seen (keys_ascend f es sorted)
