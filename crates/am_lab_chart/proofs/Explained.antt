-- One sign of the legend more.
use Rattle.std.proofs.Common.{◌≡◌, ℕ, ◌+◌, ◌<◌, Bool, true, false, ◌||◌, List, ◌∷◌, ◌++◌, drop, get_or, length, map, ap, sym, ◌∙◌, append_assoc, if◌then◌else◌}
use Rattle.std.proofs.lemmas.List.{drop_more}
use Rattle.am_lab_picture.specs.Data.{PictureLists}
use Rattle.am_lab_xml.specs.Trees.{Content, printed}
use Rattle.am_lab_xml.specs.Trees.{Content as Contents}
use Rattle.am_lab_chart.specs.Known.{occurs}
use Rattle.am_lab_chart.specs.Legends.{Explained, has_some, meaning, meanings, meant_by}
use Rattle.am_lab_chart.specs.declared.legends.Meaning.{Meaning}

-- what is left to append, by whether the next sign occurs
left_by : (p : PictureLists) (ms : List Meaning) (x y i : ℕ) (d : Meaning) (e : Explained) (answer : Bool) → i < length ms → e ≡ meant_by (get_or ms i d) →
    occurs p e.key ≡ answer →
    printed (meanings p x y (map meant_by (drop i ms)))
    ≡ printed (if answer then Contents.Both (meaning x y e) (meanings p (x + e.width) y (map meant_by (drop (i + 1) ms)))
    else meanings p x y (map meant_by (drop (i + 1) ms)))
left_by p ms x y i d e answer less at is =
    let rest : List Explained = map meant_by (drop (i + 1) ms) in
    let both : Content = Contents.Both (meaning x y e) (meanings p (x + e.width) y rest) in
    ap (λ (l : List Meaning). printed (meanings p x y (map meant_by l))) (drop_more ms i d less)
    ∙ ap (λ (first : Explained). printed (meanings p x y (first ∷ rest))) (sym at)
    ∙ ap (λ b. printed (if b then both else meanings p x y rest)) is

-- one that occurs: what is appended, and what is left to append behind it
pub meaning_more : (p : PictureLists) (ms : List Meaning) (x y i wide : ℕ) (d : Meaning) (e : Explained) (out new all : List ℕ) → i < length ms →
    e ≡ meant_by (get_or ms i d) → occurs p e.key ≡ true → wide ≡ e.width →
    out ++ printed (meanings p x y (map meant_by (drop i ms))) ≡ all → new ≡ out ++ printed (meaning x y e) →
    new ++ printed (meanings p (x + wide) y (map meant_by (drop (i + 1) ms))) ≡ all
meaning_more p ms x y i wide d e out new all less at is step stands appended =
    let rest : List Explained = map meant_by (drop (i + 1) ms) in
    let left : List ℕ = printed (meanings p (x + e.width) y rest) in
    ap (λ (n : ℕ). new ++ printed (meanings p (x + n) y rest)) step
    ∙ ap (λ (t : List ℕ). t ++ left) appended
    ∙ append_assoc out (printed (meaning x y e)) left
    ∙ sym (ap (λ (t : List ℕ). out ++ t) (left_by p ms x y i d e true less at is))
    ∙ stands

-- one that doesn't
pub meaning_passed : (p : PictureLists) (ms : List Meaning) (x y i : ℕ) (d : Meaning) (e : Explained) (out all : List ℕ) → i < length ms →
    e ≡ meant_by (get_or ms i d) → occurs p e.key ≡ false →
    out ++ printed (meanings p x y (map meant_by (drop i ms))) ≡ all → out ++ printed (meanings p x y (map meant_by (drop (i + 1) ms))) ≡ all
meaning_passed p ms x y i d e out all less at is stands =
    sym (ap (λ (t : List ℕ). out ++ t) (left_by p ms x y i d e false less at is)) ∙ stands

-- ---- whether any occurs

-- whether one of those that are left occurs, by whether the next one does
any_by : (p : PictureLists) (ms : List Meaning) (i : ℕ) (d : Meaning) (e : Explained) (answer : Bool) → i < length ms → e ≡ meant_by (get_or ms i d) →
    occurs p e.key ≡ answer → has_some p (map meant_by (drop i ms)) ≡ (answer || has_some p (map meant_by (drop (i + 1) ms)))
any_by p ms i d e answer less at is =
    ap (λ (l : List Meaning). has_some p (map meant_by l)) (drop_more ms i d less)
    ∙ ap (λ (first : Explained). occurs p first.key || has_some p (map meant_by (drop (i + 1) ms))) (sym at)
    ∙ ap (λ (b : Bool). b || has_some p (map meant_by (drop (i + 1) ms))) is

or_true : (before more all : Bool) → (before || (true || more)) ≡ all → (true || more) ≡ all
or_true true more all e = e
or_true false more all e = e

-- one that occurs
pub some_now : (p : PictureLists) (ms : List Meaning) (i : ℕ) (d : Meaning) (e : Explained) (before all : Bool) → i < length ms →
    e ≡ meant_by (get_or ms i d) → occurs p e.key ≡ true → (before || has_some p (map meant_by (drop i ms))) ≡ all →
    (true || has_some p (map meant_by (drop (i + 1) ms))) ≡ all
some_now p ms i d e before all less at is stands =
    or_true before (has_some p (map meant_by (drop (i + 1) ms))) all (ap (λ (b : Bool). before || b) (sym (any_by p ms i d e true less at is)) ∙ stands)

-- one that doesn't
pub some_later : (p : PictureLists) (ms : List Meaning) (i : ℕ) (d : Meaning) (e : Explained) (before all : Bool) → i < length ms →
    e ≡ meant_by (get_or ms i d) → occurs p e.key ≡ false → (before || has_some p (map meant_by (drop i ms))) ≡ all →
    (before || has_some p (map meant_by (drop (i + 1) ms))) ≡ all
some_later p ms i d e before all less at is stands =
    ap (λ (b : Bool). before || b) (sym (any_by p ms i d e false less at is)) ∙ stands
