-- Rows lie one below the other.
use Rattle.std.proofs.Common.{◌≡◌, ℕ, ◌+◌, ◌*◌, ◌/◌, ◌<◌, ◌≤◌, Bool, true, false, length, arith, refl, if◌then◌else◌}
use Rattle.am_lab_picture.specs.Data.{PictureLists}
use Rattle.am_lab_picture.specs.Layout.Layout.{bottom, edge_of, half_row, has_text, top, y_of}
use Rattle.am_lab_picture.specs.Rows.{has_row, rows_before}
use Rattle.am_lab_picture.proofs.Placing.{before_few, row_before, row_within}

row_y : (p : PictureLists) (line : ℕ) → has_row p.rows line ≡ true → y_of p line ≡ edge_of p line + half_row p
unfolding y_of
row_y p line has = rw has refl

edge_y : (p : PictureLists) (line : ℕ) → has_row p.rows line ≡ false → y_of p line ≡ edge_of p line
unfolding y_of
edge_y p line none = rw none refl

further : (wide : Bool) (k m : ℕ) → k < m →
    190 + ((if wide then 18 * k else 3 * k) + 18 * (if wide then k / 50 else k / 300)) + (if wide then 9 else 1) <
    190 + ((if wide then 18 * m else 3 * m) + 18 * (if wide then m / 50 else m / 300)) + (if wide then 9 else 1)
further true k m h = omega (arith, h)
further false k m h = omega (arith, h)

pub below : (p : PictureLists) (earlier later : ℕ) → has_row p.rows earlier ≡ true → has_row p.rows later ≡ true → earlier < later →
    y_of p earlier < y_of p later
below p earlier later first second before =
    rw (row_y p earlier first, row_y p later second)
    (further (has_text p) (rows_before p.rows earlier) (rows_before p.rows later) (row_before p.rows earlier later first before))

fits : (wide : Bool) (k n : ℕ) → k < n →
    190 + ((if wide then 18 * k else 3 * k) + 18 * (if wide then k / 50 else k / 300)) + (if wide then 9 else 1) ≤
    190 + ((if wide then 18 * n else 3 * n) + 18 * (if wide then n / 50 else n / 300))
fits true k n h = omega (arith, h)
fits false k n h = omega (arith, h)

reaches : (wide : Bool) (k n : ℕ) → k ≤ n →
    190 + ((if wide then 18 * k else 3 * k) + 18 * (if wide then k / 50 else k / 300)) ≤
    190 + ((if wide then 18 * n else 3 * n) + 18 * (if wide then n / 50 else n / 300))
reaches true k n h = omega (arith, h)
reaches false k n h = omega (arith, h)

starts : (wide : Bool) (n : ℕ) → 190 ≤ 190 + ((if wide then 18 * n else 3 * n) + 18 * (if wide then n / 50 else n / 300))
starts true n = omega arith
starts false n = omega arith

by_test : (p : PictureLists) (line : ℕ) (has : Bool) → has_row p.rows line ≡ has → (top ≤ y_of p line) × (y_of p line ≤ bottom p)
unfolding bottom
by_test p line true e =
    let upper = starts (has_text p) (rows_before p.rows line) in
    rw (row_y p line e) (omega (arith, upper), fits (has_text p) (rows_before p.rows line) (length p.rows) (row_within p.rows line e))
by_test p line false e =
    rw (edge_y p line e) (
      starts (has_text p) (rows_before p.rows line),
      reaches (has_text p) (rows_before p.rows line) (length p.rows) (before_few p.rows line),
    )

pub inside : (p : PictureLists) (line : ℕ) → (top ≤ y_of p line) × (y_of p line ≤ bottom p)
inside p line = by_test p line (has_row p.rows line) refl
