-- Rows, arrows and crosses are what the journal says.
use Rattle.std.proofs.Common.{◌≡◌, ℕ, zero, suc, ◌+◌, ◌-◌, ◌≤◌, Bool, true, false, not, ◌==◌, ◌&&◌, cond, List, [], ◌∷◌, ◌++◌, Option, Some, None, IfSome, map}
use Rattle.std.proofs.Common.{take, drop, refl, sym, ap, ◌∙◌, subst, arith, slice_get, filter_map, if◌then◌else◌}
use Rattle.std.specs.List.{AllByRecursion, filter, position_from, cons_option}
use Rattle.std.specs.Option.{option_map}
use Rattle.std.proofs.lemmas.Bool.{eqb-true}
use Rattle.am_names.specs.declared.NodeId.{NodeId}
use Rattle.am_names.specs.declared.Packet.{Packet}
use Rattle.am_names.specs.declared.Serial.{Serial}
use Rattle.am_office_entries.specs.Entries.{emitted_of}
use Rattle.am_office_entries.specs.declared.Entry.{Entry}
use Rattle.am_lab_picture.specs.Abouts.{about_of, reply_of}
use Rattle.am_lab_picture.specs.Arrows.{arrow, arrow_at, arrow_by, arrow_from, arrow_of, arrow_shown, cross, cross_by, if_shown, is_shown}
use Rattle.am_lab_picture.specs.Laws.{ArrowsJoinEmissionsToReceipts, CrossesAreOfTheUnreceived, CrossesStandAtEmissions, HasItsFate, IsArrow, IsCross, IsInLine}
use Rattle.am_lab_picture.specs.Laws.{IsPlaced, IsRow, PlacedRowsAreRows, RowsAreEntries, RowsStandInTheirLines, RowsTellFates}
use Rattle.am_lemmas.proofs.Bools.{and_first, and_second}
use Rattle.am_lemmas.specs.Numbered.{numbered}
use Rattle.am_lab_picture.specs.Rows.{entries_in, named_by, row, row_in}
use Rattle.am_lab_picture.specs.Ways.{emits, emitter, is_received, is_way, received_way, same_way}
use Rattle.am_names.specs.Packets.{way_of}
use Rattle.am_lab_picture.specs.declared.data.Arrow.{Arrow}
use Rattle.am_lab_picture.specs.declared.data.Cross.{Cross}
use Rattle.am_lab_picture.specs.declared.data.Lines.{Lines}
use Rattle.am_lab_picture.specs.declared.data.PlacedRow.{PlacedRow}
use Rattle.am_lab_picture.specs.declared.data.Row.{Row}
use Rattle.am_names.specs.declared.Way.{Way}

-- ---- rows

entries_of : (journal xs : List Entry) → map (λ (r : Row). r.entry) (map (row journal) xs) ≡ xs
entries_of journal [] = refl
entries_of journal (x ∷ xs) = ap (λ (l : List Entry). x ∷ l) (entries_of journal xs)

pub rows_are_entries : RowsAreEntries
rows_are_entries lines journal = entries_of journal (entries_in lines journal)

named_fate : (journal : List Entry) (s : Option Serial) → IfSome (named_by journal s) (HasItsFate journal)
named_fate journal None = tt
named_fate journal (Some s) = refl

is_row : (journal xs : List Entry) → AllByRecursion (IsRow journal) (map (row journal) xs)
is_row journal [] = tt
is_row journal (x ∷ xs) =
    (record { about = refl; reply = refl; fate' = named_fate journal (about_of x); reply_fate = named_fate journal (reply_of x) }, is_row journal xs)

pub rows_tell_fates : RowsTellFates
rows_tell_fates lines journal = is_row journal (entries_in lines journal)

-- ---- numbered items

all_append : {X : Type 0} (P : X → Type 0) (xs ys : List X) → AllByRecursion P xs → AllByRecursion P ys → AllByRecursion P (xs ++ ys)
all_append P [] ys a b = b
all_append P (x ∷ xs) ys a b = (a.0, all_append P xs ys a.1 b)

-- the elements of a list from a place on
abbrev IsFrom : List Entry → ℕ → List Entry → Type 0
IsFrom journal place xs = (k : ℕ) (x : Entry) → slice_get xs k ≡ Some x → slice_get journal (place + k) ≡ Some x

from_next : (journal : List Entry) (place : ℕ) (x : Entry) (xs : List Entry) → IsFrom journal place (x ∷ xs) → IsFrom journal (place + 1) xs
from_next journal place x xs from k y at =
    let there : place + 1 + k ≡ place + suc k = omega arith in
    ap (λ (n : ℕ). slice_get journal n) there ∙ from (suc k) y at

from_here : (journal : List Entry) (place : ℕ) (x : Entry) (xs : List Entry) → IsFrom journal place (x ∷ xs) → slice_get journal place ≡ Some x
from_here journal place x xs from =
    let there : place ≡ place + 0 = omega arith in
    ap (λ (n : ℕ). slice_get journal n) there ∙ from 0 x refl

in_line : (journal : List Entry) (line place : ℕ) (x : Entry) → line ≡ place + 3 → slice_get journal place ≡ Some x → IsInLine journal line x
in_line journal line place x is at =
    let there : line - 3 ≡ place = omega (arith, is) in
    (omega (arith, is), ap (λ (n : ℕ). slice_get journal n) there ∙ at)

-- what holds of all that each item gives in its line
numbered_all : {Y : Type 0} (P : Y → Type 0) (journal : List Entry) (give : ℕ → Entry → List Y) →
    ((line : ℕ) (x : Entry) → IsInLine journal line x → AllByRecursion P (give line x)) → (line place : ℕ) (xs : List Entry) → line ≡ place + 3 →
    IsFrom journal place xs → AllByRecursion P (numbered give line xs)
numbered_all P journal give each line place [] is from = tt
numbered_all P journal give each line place (x ∷ xs) is from =
    all_append P (give line x) (numbered give (line + 1) xs)
    (each line x (in_line journal line place x is (from_here journal place x xs from)))
    (numbered_all P journal give each (line + 1) (place + 1) xs (omega (arith, is)) (from_next journal place x xs from))

-- ---- arrows

pub node_is : (a b : NodeId) → a.0 ≡ b.0 → a ≡ b
node_is a b e = ap (λ (n : ℕ). record { 0 = n }) e

way_parts : (a b : Way) → a.from ≡ b.from → a.to ≡ b.to → a.number ≡ b.number → a ≡ b
way_parts a b e1 e2 e3 = by_rw a.from a.to a.number b e1 e2 e3
  where
    by_rw : (f t : NodeId) (n : ℕ) (b : Way) → f ≡ b.from → t ≡ b.to → n ≡ b.number → record { from = f; to = t; number = n } ≡ b
    by_rw f t n b e1 e2 e3 = rw (e1, e2, e3) refl

way_is : (a b : Way) → same_way a b ≡ true → a ≡ b
way_is a b e =
    let front = and_first (a.from.0 == b.from.0 && a.to.0 == b.to.0) (a.number == b.number) e in
    way_parts a b
    (node_is a.from b.from (eqb-true a.from.0 b.from.0 (and_first (a.from.0 == b.from.0) (a.to.0 == b.to.0) front)))
    (node_is a.to b.to (eqb-true a.to.0 b.to.0 (and_second (a.from.0 == b.from.0) (a.to.0 == b.to.0) front)))
    (eqb-true a.number b.number (and_second (a.from.0 == b.from.0 && a.to.0 == b.to.0) (a.number == b.number) e))

low_by : (b : Bool) (i n : ℕ) (rest : Option ℕ) → cond b (Some i) rest ≡ Some n → (rest ≡ Some n → i + 1 ≤ n) → i ≤ n
low_by true i n rest e more = let same : i ≡ n = cc in omega (arith, same)
low_by false i n rest e more = let later = more e in omega (arith, later)

low : {X : Type 0} (p : X → Bool) (i : ℕ) (xs : List X) (n : ℕ) → position_from p i xs ≡ Some n → i ≤ n
low p i [] n e = absurd (cc)
low p i (y ∷ xs) n e = low_by (p y) i n (position_from p (i + 1) xs) e (λ f. low p (i + 1) xs n f)

found_by : {X : Type 0} (p : X → Bool) (b : Bool) (i n k : ℕ) (y x : X) (xs : List X) (rest : Option ℕ) → p y ≡ b → cond b (Some i) rest ≡ Some n → n ≡ i + k →
    slice_get (y ∷ xs) k ≡ Some x → (rest ≡ Some n → i + 1 ≤ n) → ((j : ℕ) → rest ≡ Some n → n ≡ i + 1 + j → slice_get xs j ≡ Some x → p x ≡ true) → p x ≡ true
found_by p true i n zero y x xs rest is found at here later more = let same : y ≡ x = cc in ap p (sym same) ∙ is
found_by p true i n (suc k) y x xs rest is found at here later more = let same : i ≡ n = cc in absurd (omega (arith, same, at))
found_by p false i n zero y x xs rest is found at here later more = let above = later found in absurd (omega (arith, above, at))
found_by p false i n (suc k) y x xs rest is found at here later more = more k found (omega (arith, at)) here

-- the place that is found has an element that passes
pub found_at : {X : Type 0} (p : X → Bool) (i n k : ℕ) (xs : List X) (x : X) → position_from p i xs ≡ Some n → n ≡ i + k → slice_get xs k ≡ Some x → p x ≡ true
found_at p i n k [] x found is at = absurd (cc)
found_at p i n k (y ∷ xs) x found is at =
    found_by p (p y) i n k y x xs (position_from p (i + 1) xs) refl found is at (λ f. low p (i + 1) xs n f) (λ j f e h. found_at p (i + 1) n j xs x f e h)

both_ways : (w v : Way) → same_way w v ≡ true → same_way v w ≡ true
both_ways w v e =
    let is : w ≡ v = way_is w v e in
    subst (λ (u : Way). same_way u w ≡ true) is (subst (λ (u : Way). same_way w u ≡ true) (sym is) e)

module _ (journal : List Entry) (line : ℕ) (x : Entry) (there : IsInLine journal line x) (w : Way) (way : received_way x.event ≡ Some w) where
  of_is : (place : ℕ) (y : Entry) (o : Option Packet) → slice_get journal place ≡ Some y → emits w y ≡ true → emitted_of y ≡ o →
      IfSome (arrow_of journal line x place y o) (IsArrow journal)
  of_is place y None at emits' e = tt
  of_is place y (Some p) at emits' e =
      let same : same_way w (way_of p) ≡ true = subst (λ (o : Option Packet). is_way w (option_map way_of o) ≡ true) e emits' in
      record {
        receiver = x;
        emitter = y;
        ends = there;
        begins = in_line journal (place + 3) place y refl at;
        receives' = ap (λ (o : Option Way). is_way (way_of p) o) way ∙ both_ways w (way_of p) same;
        emits' = e;
        about = refl;
        fate' = named_fate journal (about_of y);
        counts' = refl;
      }

  at_is : (place : ℕ) (o : Option Entry) → emitter journal w ≡ Some place → slice_get journal place ≡ o →
      IfSome (arrow_at journal line x place o) (IsArrow journal)
  at_is place None found at = tt
  at_is place (Some y) found at = of_is place y (emitted_of y) at (found_at (emits w) 0 place place journal y found (omega arith) at) refl

  from_is : (o : Option ℕ) → emitter journal w ≡ o → IfSome (arrow_from journal line x o) (IsArrow journal)
  from_is None found = tt
  from_is (Some place) found = at_is place (slice_get journal place) found refl

arrow_is : (journal : List Entry) (line : ℕ) (x : Entry) (o : Option Way) → IsInLine journal line x → received_way x.event ≡ o →
    IfSome (arrow_by journal line x o) (IsArrow journal)
arrow_is journal line x None there way = tt
arrow_is journal line x (Some w) there way = from_is journal line x there w way (emitter journal w) refl

shown_by : (journal : List Entry) (a : Arrow) (b : Bool) → IsArrow journal a → AllByRecursion (IsArrow journal) (if b then a ∷ [] else [])
shown_by journal a true h = (h, tt)
shown_by journal a false h = tt

shown : (journal : List Entry) (lines : Lines) (o : Option Arrow) → IfSome o (IsArrow journal) → AllByRecursion (IsArrow journal) (if_shown lines o)
shown journal lines None h = tt
shown journal lines (Some a) h = shown_by journal a (is_shown lines a) h

pub arrows_join : ArrowsJoinEmissionsToReceipts
arrows_join lines journal =
    numbered_all (IsArrow journal) journal (arrow_shown journal lines)
    (λ line x there. shown journal lines (arrow journal line x) (arrow_is journal line x (received_way x.event) there refl))
    3 0 journal (omega arith)
    (λ k x at. let same : 0 + k ≡ k = omega arith in ap (λ (n : ℕ). slice_get journal n) same ∙ at)

-- ---- crosses

abbrev is_lost : List Entry → Packet → Bool
is_lost journal p = not (is_received journal (way_of p))

cross_packets : (journal : List Entry) (p : Packet) (c : Cross) (b : Bool) (rest : List Cross) (more : List Packet) → c.packet ≡ p →
    map (λ (d : Cross). d.packet) rest ≡ more → map (λ (d : Cross). d.packet) ((if b then [] else c ∷ []) ++ rest) ≡ cond (not b) (p ∷ more) more
cross_packets journal p c true rest more is e = e
cross_packets journal p c false rest more is e = rw (is, e) refl

cross_more : (journal : List Entry) (line : ℕ) (x : Entry) (o : Option Packet) (rest : List Cross) (more : List Packet) →
    map (λ (d : Cross). d.packet) rest ≡ filter (is_lost journal) more →
    map (λ (d : Cross). d.packet) (cross_by journal line x o ++ rest) ≡ filter (is_lost journal) (cons_option o more)
cross_more journal line x None rest more e = e
cross_more journal line x (Some p) rest more e =
    cross_packets journal p (record { line = line; packet = p; about = named_by journal (about_of x) }) (is_received journal (way_of p)) rest
    (filter (is_lost journal) more) refl e

crosses_of : (journal : List Entry) (line : ℕ) (xs : List Entry) →
    map (λ (c : Cross). c.packet) (numbered (cross journal) line xs) ≡ filter (is_lost journal) (filter_map emitted_of xs)
crosses_of journal line [] = refl
crosses_of journal line (x ∷ xs) =
    cross_more journal line x (emitted_of x) (numbered (cross journal) (line + 1) xs) (filter_map emitted_of xs) (crosses_of journal (line + 1) xs)

pub crosses_are : CrossesAreOfTheUnreceived
crosses_are lines journal = crosses_of journal lines.first (entries_in lines journal)

cross_if : (journal : List Entry) (b : Bool) (c : Cross) → IsCross journal c → AllByRecursion (IsCross journal) (if b then [] else c ∷ [])
cross_if journal true c h = tt
cross_if journal false c h = (h, tt)

cross_is : (journal : List Entry) (line : ℕ) (x : Entry) (o : Option Packet) → IsInLine journal line x → emitted_of x ≡ o →
    AllByRecursion (IsCross journal) (cross_by journal line x o)
cross_is journal line x None there e = tt
cross_is journal line x (Some p) there e =
    cross_if journal (is_received journal (way_of p)) (record { line = line; packet = p; about = named_by journal (about_of x) })
    (record { emitter = x; there = there; emits' = e; about = refl; fate' = named_fate journal (about_of x) })

taken_get : (n k : ℕ) (xs : List Entry) (x : Entry) → slice_get (take n xs) k ≡ Some x → slice_get xs k ≡ Some x
taken_get zero k xs x at = absurd (cc)
taken_get (suc n) k [] x at = absurd (cc)
taken_get (suc n) zero (y ∷ xs) x at = at
taken_get (suc n) (suc k) (y ∷ xs) x at = taken_get n k xs x at

dropped_get : (n k : ℕ) (xs : List Entry) (x : Entry) → slice_get (drop n xs) k ≡ Some x → slice_get xs (n + k) ≡ Some x
dropped_get zero k xs x at = let same : 0 + k ≡ k = omega arith in ap (λ (m : ℕ). slice_get xs m) same ∙ at
dropped_get (suc n) k [] x at = absurd (cc)
dropped_get (suc n) k (y ∷ xs) x at =
    let next : suc n + k ≡ suc (n + k) = omega arith in
    ap (λ (m : ℕ). slice_get (y ∷ xs) m) next ∙ dropped_get n k xs x at

pub crosses_stand : CrossesStandAtEmissions
crosses_stand lines journal low' =
    numbered_all (IsCross journal) journal (cross journal) (λ line x there. cross_is journal line x (emitted_of x) there refl)
    lines.first (lines.first - 3) (entries_in lines journal) (omega (arith, low'))
    (λ k x at. dropped_get (lines.first - 3) k journal x (taken_get lines.count k (drop (lines.first - 3) journal) x at))

-- ---- rows in their lines

placed_are : (journal : List Entry) (line : ℕ) (xs : List Entry) →
    map (λ (placed : PlacedRow). placed.row) (numbered (row_in journal) line xs) ≡ map (row journal) xs
placed_are journal line [] = refl
placed_are journal line (x ∷ xs) = ap (λ (l : List Row). row journal x ∷ l) (placed_are journal (line + 1) xs)

pub placed_rows_are_rows : PlacedRowsAreRows
placed_rows_are_rows lines journal = placed_are journal lines.first (entries_in lines journal)

is_placed : (journal : List Entry) (line : ℕ) (x : Entry) → IsInLine journal line x → AllByRecursion (IsPlaced journal) (row_in journal line x)
is_placed journal line x there = (
  record {
    there = there;
    row' = record { about = refl; reply = refl; fate' = named_fate journal (about_of x); reply_fate = named_fate journal (reply_of x) };
  },
  tt,
)

pub rows_stand : RowsStandInTheirLines
rows_stand lines journal low' =
    numbered_all (IsPlaced journal) journal (row_in journal) (is_placed journal) lines.first (lines.first - 3) (entries_in lines journal) (omega (arith, low'))
    (λ k x at. dropped_get (lines.first - 3) k journal x (taken_get lines.count k (drop (lines.first - 3) journal) x at))
