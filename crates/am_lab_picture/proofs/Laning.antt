-- A lane that was followed is that of the standings.
use Rattle.std.proofs.Common.{◌≡◌, ℕ, ◌+◌, List, [], ◌∷◌, ◌++◌, true, true≢false, map, length, refl, sym, ap, ◌∙◌, arith}
use Rattle.std.specs.Prelude.{nat_eq}
use Rattle.std.proofs.lemmas.Bool.{eqb-true}
use Rattle.std.proofs.lemmas.List.{length-map}
use Rattle.am_scenario_types.specs.declared.parts.EndLine.{EndLine}
use Rattle.am_lab_picture.specs.declared.data.Residency.{Residency}
use Rattle.am_lab_picture.specs.declared.data.Residency.TheVariants.{Direct, Draining, Disk, Frame, Host}
use Rattle.am_lab_picture.specs.declared.data.Span.{Span}
use Rattle.am_lab_picture.specs.declared.data.Standing.{Standing}
use Rattle.am_lab_picture.specs.Data.{LaneLists}
use Rattle.am_lab_picture.specs.Lanes.{LaneTracked, lane_begun, lane_ended, lane_followed, lane_followed_by, lane_of}
use Rattle.am_lab_picture.specs.Residencies.{same_residency}
use Rattle.am_lab_picture.specs.Spans.{Tracked, ended_at, followed}

-- each value is followed by itself
record IsEach (t : LaneTracked) (line : ℕ) (ss : List Standing) : Type 0 where
  residency : (lane_followed t line ss).residency ≡ followed same_residency t.residency line (map (λ (s : Standing). s.residency) ss)
  records : (lane_followed t line ss).records ≡ followed nat_eq t.records line (map (λ (s : Standing). s.records) ss)
  received : (lane_followed t line ss).received ≡ followed nat_eq t.received line (map (λ (s : Standing). s.received) ss)

is_each : (t : LaneTracked) (line : ℕ) (ss : List Standing) → IsEach t line ss
is_each t line [] = record { residency = refl; records = refl; received = refl }
is_each t line (s ∷ ss) =
    let rest = is_each (lane_followed_by t s line) (line + 1) ss in
    record { residency = rest.residency; records = rest.records; received = rest.received }

ended_so : {X : Type 0} (t u : Tracked X) (a b : ℕ) → t ≡ u → a ≡ b → ended_at t a ≡ ended_at u b
ended_so t u a b e f = rw (e, f) refl

abbrev lane_with : EndLine → List (Span Residency) → List (Span ℕ) → List (Span ℕ) → LaneLists
lane_with end residency records received =
    record { id = end.id; node = end.node; tag = end.tag; residency = residency; records = records; received = received }

lanes_by : (end : EndLine) (r r' : List (Span Residency)) (q q' p p' : List (Span ℕ)) → r ≡ r' → q ≡ q' → p ≡ p' → lane_with end r q p ≡ lane_with end r' q' p'
lanes_by end r r' q q' p p' e1 e2 e3 = rw (e1, e2, e3) refl

-- the lane of the standings
pub lane_is : (end : EndLine) (line until : ℕ) (s : Standing) (ss : List Standing) → until ≡ line + 1 + length ss →
    lane_ended end (lane_followed (lane_begun s line) (line + 1) ss) until ≡ lane_of end line (s ∷ ss)
lane_is end line until s ss e =
    let each = is_each (lane_begun s line) (line + 1) ss in
    let a : length (map (λ (t : Standing). t.residency) ss) ≡ length ss = length-map ss (λ (t : Standing). t.residency) in
    let b : length (map (λ (t : Standing). t.records) ss) ≡ length ss = length-map ss (λ (t : Standing). t.records) in
    let c : length (map (λ (t : Standing). t.received) ss) ≡ length ss = length-map ss (λ (t : Standing). t.received) in
    lanes_by end _ _ _ _ _ _
    (ended_so _ _ until (line + 1 + length (map (λ (t : Standing). t.residency) ss)) each.residency (omega (arith, e, a)))
    (ended_so _ _ until (line + 1 + length (map (λ (t : Standing). t.records) ss)) each.records (omega (arith, e, b)))
    (ended_so _ _ until (line + 1 + length (map (λ (t : Standing). t.received) ss)) each.received (omega (arith, e, c)))

-- one standing more
pub followed_more : (t : LaneTracked) (line : ℕ) (ss : List Standing) (s : Standing) →
    lane_followed t line (ss ++ s ∷ []) ≡ lane_followed_by (lane_followed t line ss) s (line + length ss)
followed_more t line [] s = let here : line + 0 ≡ line = omega arith in ap (λ (n : ℕ). lane_followed_by t s n) (sym here)
followed_more t line (x ∷ ss) s =
    let next : line + 1 + length ss ≡ line + length (x ∷ ss) = omega arith in
    followed_more (lane_followed_by t x line) (line + 1) ss s
    ∙ ap (λ (n : ℕ). lane_followed_by (lane_followed (lane_followed_by t x line) (line + 1) ss) s n) next

-- ---- what is tested as the same is one

pub residency_is : (a b : Residency) → same_residency a b ≡ true → a ≡ b
residency_is Direct Direct e = refl
residency_is (Frame a) (Frame b) e = ap Frame (eqb-true a b e)
residency_is (Draining a) (Draining b) e = ap Draining (eqb-true a b e)
residency_is Host Host e = refl
residency_is Disk Disk e = refl
residency_is a b e = absurd (true≢false (sym e))
