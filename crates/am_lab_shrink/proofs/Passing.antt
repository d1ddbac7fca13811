-- Parts are tried, one after the other.
use Rattle.std.proofs.Common.{◌≡◌, ℕ, suc, ◌+◌, ◌-◌, ◌<◌, ◌≤◌, List, ◌++◌, length, take, drop, sym, subst, ap, inl, inr, arith}
use Rattle.std.proofs.lemmas.Bool.{cases_lt}
use Rattle.std.specs.List.{remove, remove_range}
use Rattle.am_lab_shrink.specs.declared.reports.Making.{Making}
use Rattle.am_lab_shrink.specs.Lines.{IsSubsequence, text_of}
use Rattle.am_lab_shrink.specs.Reports.{TellsWhether}
use Rattle.am_lab_shrink.specs.Steps.{HaveLine, IsLeastFrom, IsPassed, IsTried, LackLine, Shrinks}
use Rattle.am_lab_shrink.proofs.Chosen.{are_all, length_without, of_some, without_part}

-- none is left out
pub all_stay : (making : Making) (words : List ℕ) (lines : List (List ℕ)) → HaveLine making words lines → Shrinks making words lines lines
all_stay making words lines have = record { lines = are_all lines; fewer = omega arith; have = have }

-- some of them, and then some of these
pub shrinks_again : (making : Making) (words : List ℕ) (old mid new : List (List ℕ)) → Shrinks making words old mid → Shrinks making words mid new →
    Shrinks making words old new
shrinks_again making words old mid new one other = record {
  lines = of_some new mid old other.lines one.lines;
  fewer = (let first : length mid ≤ length old = one.fewer in let second : length new ≤ length mid = other.fewer in omega (arith, first, second));
  have = other.have;
}

-- no part is tried yet
pub begun : (making : Making) (words : List ℕ) (size : ℕ) (lines : List (List ℕ)) → HaveLine making words lines → IsPassed making words size (length lines) lines lines
begun making words size lines have = record {
  shrinks = all_stay making words lines have;
  least = λ one all place from below. absurd (omega (arith, from, below));
}

-- a single line was tried, and stays
here_too : (making : Making) (words : List ℕ) (start end place : ℕ) (kept : List (List ℕ)) → start ≡ place → end ≡ suc place →
    LackLine making words (remove_range kept start end) → LackLine making words (remove kept place)
here_too making words start end place kept at behind lacks =
    subst (λ (to : ℕ). LackLine making words (take place kept ++ drop to kept)) behind
    (subst (λ (from : ℕ). LackLine making words (take from kept ++ drop end kept)) at lacks)

stays : (making : Making) (words : List ℕ) (size start end : ℕ) (old kept : List (List ℕ)) → 0 < size → 0 < end → start ≡ end - size →
    LackLine making words (remove_range kept start end) → IsPassed making words size end old kept → IsPassed making words size start old kept
stays making words size start end old kept some more is lacks passed = record {
  shrinks = passed.shrinks;
  least = λ one all place from below. elim (cases_lt place end) [
    | inl before ↦ here_too making words start end place kept (omega (arith, is, one, more, from, before)) (omega (arith, is, one, more, from, before)) lacks
    | inr behind ↦ passed.least one all place behind below
  ];
}

leaves : (making : Making) (words : List ℕ) (size start end : ℕ) (old kept : List (List ℕ)) → 0 < size → 0 < end → end ≤ length kept → start ≡ end - size →
    HaveLine making words (remove_range kept start end) → IsPassed making words size end old kept →
    IsPassed making words size start old (remove_range kept start end)
leaves making words size start end old kept some more within is have passed =
    let order : start ≤ end = omega (arith, is) in
    let count : length (remove_range kept start end) + (end - start) ≡ length kept = length_without start end kept order within in
    let fewer : length kept ≤ length old = passed.shrinks.fewer in
    let goes : length (remove_range kept start end) < length kept = omega (arith, count, is, more, some) in
    record {
      shrinks = shrinks_again making words old kept (remove_range kept start end) passed.shrinks (record {
        lines = without_part start end kept order;
        fewer = omega (arith, goes);
        have = have;
      });
      least = λ one all place from below. absurd (omega (arith, all, goes, fewer));
    }

-- one part more is tried
pub part_tried : (making : Making) (words : List ℕ) (size start end : ℕ) (old kept new : List (List ℕ)) → 0 < size → 0 < end → end ≤ length kept → start ≡ end - size →
    IsTried making words start end kept new → IsPassed making words size end old kept → IsPassed making words size start old new
part_tried making words size start end old kept new some more within is tried passed = elim tried [
  | inl stay ↦ subst (λ (l : List (List ℕ)). IsPassed making words size start old l) (sym stay.0)
      (stays making words size start end old kept some more is stay.1 passed)
  | inr left ↦ subst (λ (l : List (List ℕ)). IsPassed making words size start old l) (sym left.0)
      (leaves making words size start end old kept some more within is (subst (HaveLine making words) left.0 left.1) passed)
]

-- and the places before it are still there
pub still_within : (making : Making) (words : List ℕ) (start end : ℕ) (kept new : List (List ℕ)) → start ≤ end → end ≤ length kept →
    IsTried making words start end kept new → start ≤ length new
still_within making words start end kept new order within tried = elim tried [
  | inl stay ↦ (let same : length new ≡ length kept = ap length stay.0 in omega (arith, same, order, within))
  | inr left ↦
      let same : length new ≡ length (remove_range kept start end) = ap length left.0 in
      let count : length (remove_range kept start end) + (end - start) ≡ length kept = length_without start end kept order within in
      omega (arith, same, count, order, within)
]
