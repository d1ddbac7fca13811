-- How many rows stand in front of a line.
use Rattle.std.proofs.Common.{◌≡◌, ℕ, zero, suc, ◌+◌, ◌<◌, ◌≤◌, ◌==◌, Bool, true, false, ◌||◌, cond, List, [], ◌∷◌, ◌++◌, length, get_or, take, filter, count_by}
use Rattle.std.proofs.Common.{refl, sym, ap, ◌∙◌, arith, true≢false}
use Rattle.std.specs.Prelude.{nat_lt, if◌then◌else◌}
use Rattle.std.specs.List.Sorted.{IsPartitionPoint}
use Rattle.std.specs.List.{list_any}
use Rattle.std.proofs.lemmas.Bool.{eq-eqb, eqb-true, le-ltb, lt-ltb, ltb-false, ltb-true}
use Rattle.std.proofs.lemmas.List.Elements.{filter_more}
use Rattle.std.proofs.lemmas.List.Sums.{count_by-le-length, sum_by-cons, sum_by-le-sum_by}
use Rattle.am_office_entries.specs.declared.Entry.{Entry}
use Rattle.am_lemmas.specs.Numbered.{numbered}
use Rattle.am_lab_picture.specs.Laws.{RowsHaveLines}
use Rattle.am_lab_picture.specs.Rows.{AreInOrder, entries_in, has_row, placed_rows, row_in, rows_before}
use Rattle.am_lab_picture.specs.declared.data.Lines.{Lines}
use Rattle.am_lab_picture.specs.declared.data.PlacedRow.{PlacedRow}

-- ---- the place that parts those that pass from the others

one_counted : (b : Bool) (n i : ℕ) → b ≡ true → i ≡ n → suc i ≡ cond b 1 0 + n
one_counted true n i e f = omega (arith, f)
one_counted false n i e f = absurd (cc)

none_counted : (b : Bool) (n : ℕ) → b ≡ false → 0 ≡ n → 0 ≡ cond b 1 0 + n
none_counted true n e f = absurd (cc)
none_counted false n e f = omega (arith, f)

pub point_counts : {X : Type 0} (p : X → Bool) (xs : List X) (i : ℕ) → i ≤ length xs → IsPartitionPoint (λ y. p y ≡ true) (λ y. p y ≡ false) xs i →
    i ≡ count_by p xs
point_counts p [] i within point = omega (arith, within)
point_counts p (y ∷ ys) zero within point =
    none_counted (p y) (count_by p ys) (point.1 0 y (omega arith) (omega arith))
    (point_counts p ys 0 (omega arith) (
      λ k d low high. absurd (omega (arith, high)),
      λ k d low high. point.1 (suc k) d (omega arith) (omega (arith, high)),
    ))
    ∙ sym (sum_by-cons (λ x. cond (p x) 1 0) y ys)
point_counts p (y ∷ ys) (suc i) within point =
    one_counted (p y) (count_by p ys) i (point.0 0 y (omega arith) (omega arith))
    (point_counts p ys i (omega (arith, within)) (
      λ k d low high. point.0 (suc k) d (omega arith) (omega (arith, high)),
      λ k d low high. point.1 (suc k) d (omega (arith, low)) (omega (arith, high)),
    ))
    ∙ sym (sum_by-cons (λ x. cond (p x) 1 0) y ys)

-- ---- later lines

later_by : (l a b : ℕ) (s t : Bool) → nat_lt l a ≡ s → nat_lt l b ≡ t → a ≤ b → cond s 1 0 ≤ cond t 1 0
later_by l a b true true e f h = omega arith
later_by l a b true false e f h = let low = ltb-true l a e in let high = ltb-false l b f in absurd (omega (arith, low, high, h))
later_by l a b false true e f h = omega arith
later_by l a b false false e f h = omega arith

-- in front of a later line stand no fewer rows
pub before_later : (rows : List PlacedRow) (a b : ℕ) → a ≤ b → rows_before rows a ≤ rows_before rows b
before_later rows a b h =
    sum_by-le-sum_by (λ (r : PlacedRow). cond (nat_lt r.line a) 1 0) (λ (r : PlacedRow). cond (nat_lt r.line b) 1 0) rows
    (λ (r : PlacedRow). later_by r.line a b (nat_lt r.line a) (nat_lt r.line b) refl refl h)

-- in front of a line stands no more than there is
pub before_few : (rows : List PlacedRow) (line : ℕ) → rows_before rows line ≤ length rows
before_few rows line = count_by-le-length (λ (r : PlacedRow). nat_lt r.line line) rows

-- a line with a row has fewer in front of it than there are, and than a later line
pub row_before : (rows : List PlacedRow) (line later : ℕ) → has_row rows line ≡ true → line < later → rows_before rows line < rows_before rows later
row_before rows line later has less =
    let here = ltb-true (rows_before rows line) (rows_before rows (line + 1)) has in
    let there = before_later rows (line + 1) later (omega (arith, less)) in
    omega (arith, here, there)

pub row_within : (rows : List PlacedRow) (line : ℕ) → has_row rows line ≡ true → rows_before rows line < length rows
row_within rows line has =
    let here = ltb-true (rows_before rows line) (rows_before rows (line + 1)) has in
    let all = before_few rows (line + 1) in
    omega (arith, here, all)

-- ---- whether a line has a row

next_by : (l line : ℕ) (s t u : Bool) → nat_lt l line ≡ s → nat_lt l (line + 1) ≡ t → (l == line) ≡ u → cond t 1 0 ≡ cond s 1 0 + cond u 1 0
next_by l line true true true e f g = let low = ltb-true l line e in let same = eqb-true l line g in absurd (omega (arith, low, same))
next_by l line true true false e f g = refl
next_by l line true false u e f g = let low = ltb-true l line e in let high = ltb-false l (line + 1) f in absurd (omega (arith, low, high))
next_by l line false true true e f g = refl
next_by l line false true false e f g =
    let low = ltb-true l (line + 1) f in
    let high = ltb-false l line e in
    absurd (true≢false (sym (eq-eqb l line (omega (arith, low, high))) ∙ g))
next_by l line false false true e f g = let high = ltb-false l (line + 1) f in let same = eqb-true l line g in absurd (omega (arith, high, same))
next_by l line false false false e f g = refl

-- in front of the next line stand those in front of a line, and those in it
before_next : (rows : List PlacedRow) (line : ℕ) →
    rows_before rows (line + 1) ≡ rows_before rows line + count_by (λ (placed : PlacedRow). placed.line == line) rows
before_next [] line = refl
before_next (r ∷ rows) line =
    let a = sum_by-cons (λ (placed : PlacedRow). cond (nat_lt placed.line (line + 1)) 1 0) r rows in
    let b = sum_by-cons (λ (placed : PlacedRow). cond (nat_lt placed.line line) 1 0) r rows in
    let c = sum_by-cons (λ (placed : PlacedRow). cond (placed.line == line) 1 0) r rows in
    let one = next_by r.line line (nat_lt r.line line) (nat_lt r.line (line + 1)) (r.line == line) refl refl refl in
    let rest = before_next rows line in
    omega (arith, a, b, c, one, rest)

any_by : (b rest : Bool) (n : ℕ) → rest ≡ nat_lt 0 n → (b || rest) ≡ nat_lt 0 (cond b 1 0 + n)
any_by true rest n e = sym (lt-ltb 0 (1 + n) (omega arith))
any_by false rest n e = let same : n ≡ 0 + n = omega arith in e ∙ ap (λ (k : ℕ). nat_lt 0 k) same

any_counted : (p : PlacedRow → Bool) (rows : List PlacedRow) → list_any p rows ≡ nat_lt 0 (count_by p rows)
any_counted p [] = refl
any_counted p (r ∷ rows) =
    any_by (p r) (list_any p rows) (count_by p rows) (any_counted p rows)
    ∙ ap (λ (n : ℕ). nat_lt 0 n) (sym (sum_by-cons (λ (placed : PlacedRow). cond (p placed) 1 0) r rows))

some_more : (k n : ℕ) → nat_lt k (k + n) ≡ nat_lt 0 n
some_more k zero = le-ltb k (k + 0) (omega arith) ∙ sym (le-ltb 0 0 (omega arith))
some_more k (suc n) = lt-ltb k (k + suc n) (omega arith) ∙ sym (lt-ltb 0 (suc n) (omega arith))

pub rows_have_lines : RowsHaveLines
rows_have_lines rows line =
    ap (λ (n : ℕ). nat_lt (rows_before rows line) n) (before_next rows line)
    ∙ some_more (rows_before rows line) (count_by (λ (placed : PlacedRow). placed.line == line) rows)
    ∙ sym (any_counted (λ (placed : PlacedRow). placed.line == line) rows)

-- ---- the rows of lines that follow one another

pub length_placed : (journal : List Entry) (line : ℕ) (xs : List Entry) → length (numbered (row_in journal) line xs) ≡ length xs
length_placed journal line [] = refl
length_placed journal line (x ∷ xs) = ap suc (length_placed journal (line + 1) xs)

line_at : (journal : List Entry) (line : ℕ) (xs : List Entry) (i : ℕ) (d : PlacedRow) → i < length xs →
    (get_or (numbered (row_in journal) line xs) i d).line ≡ line + i
line_at journal line [] i d below = absurd (omega (arith, below))
line_at journal line (x ∷ xs) zero d below = omega arith
line_at journal line (x ∷ xs) (suc i) d below =
    let next : line + 1 + i ≡ line + suc i = omega arith in
    line_at journal (line + 1) xs i d (omega (arith, below)) ∙ next

pub placed_in_order : (lines : Lines) (journal : List Entry) → AreInOrder (placed_rows lines journal)
placed_in_order lines journal i j d le below =
    let xs = entries_in lines journal in
    let all = length_placed journal lines.first xs in
    let a = line_at journal lines.first xs i d (omega (arith, all, le, below)) in
    let b = line_at journal lines.first xs j d (omega (arith, all, below)) in
    omega (arith, a, b, le)

-- ---- one item more, if it is kept

kept_by : {X : Type 0} (b c : Bool) (y z : X) → b ≡ c → y ≡ z → (if b then y ∷ [] else []) ≡ cond c (z ∷ []) []
kept_by b true y z e f = rw (e, f) refl
kept_by b false y z e f = rw e refl

pub one_kept : {X : Type 0} (p : X → Bool) (xs : List X) (i : ℕ) (d y : X) (b : Bool) (made new : List X) → i < length xs → made ≡ filter p (take i xs) →
    y ≡ get_or xs i d → b ≡ p (get_or xs i d) → new ≡ made ++ (if b then y ∷ [] else []) → new ≡ filter p (take (i + 1) xs)
one_kept {X} p xs i d y b made new less stands at kept appended =
    appended
    ∙ ap (λ (t : List X). t ++ (if b then y ∷ [] else [])) stands
    ∙ ap (λ (t : List X). filter p (take i xs) ++ t) (kept_by b (p (get_or xs i d)) y (get_or xs i d) kept at)
    ∙ sym (filter_more p xs i d less)
