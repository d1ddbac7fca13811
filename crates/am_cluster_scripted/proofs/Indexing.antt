-- What is said of the links, one line more.
use Rattle.std.specs.Prelude.{slice_get, slice_index_or, slice_set}
use Rattle.std.proofs.Common.{◌≡◌, ◌⊎◌, inl, inr, ⊎_elim, ℕ, zero, suc, ◌+◌, ◌*◌, ◌<◌, ◌==◌, cond, List, [], ◌∷◌, ◌++◌, length, Some, None, sym, ap, ◌∙◌, arith}
use Rattle.std.proofs.Common.{◌-◌, drop, subst}
use Rattle.std.proofs.lemmas.List.{drop_more, length-set}
use Rattle.am_model.specs.Layout.{node_at}
use Rattle.am_lemmas.proofs.Lists.{slice_get-set_cases}
use Rattle.am_scenario_plan.specs.declared.plan.LinkFault.{LinkFault}
use Rattle.am_scenario_plan.specs.declared.plan.PlanLine.{PlanLine}
use Rattle.am_wire_release.specs.Faults.{SaysOf, said}
use Rattle.am_wire_release.proofs.Saying.{line_of_another, line_of_it}
use Rattle.am_cluster_scripted.specs.Plans.{HasFaults}

pub got_push : {X : Type 0} (xs : List X) (x m : X) (k : ℕ) → slice_get (xs ++ x ∷ []) k ≡ Some m → (slice_get xs k ≡ Some m) ⊎ (m ≡ x)
got_push [] x m zero got = inr (cc)
got_push [] x m (suc k) got = absurd (cc)
got_push (y ∷ xs) x m zero got = inl got
got_push (y ∷ xs) x m (suc k) got = got_push xs x m k got

-- nothing is said of any packet of any link
abbrev pub AreEmpty : List (List (ℕ × LinkFault)) → Type 0
AreEmpty links = (k : ℕ) (m : List (ℕ × LinkFault)) → slice_get links k ≡ Some m → (place : ℕ) → said m place ≡ None

pub empty_push : (links : List (List (ℕ × LinkFault))) (one : List (ℕ × LinkFault)) → AreEmpty links → ((place : ℕ) → said one place ≡ None) →
    AreEmpty (links ++ one ∷ [])
empty_push links one empty none k m got place =
    ⊎_elim (λ before. empty k m before place) (λ new. ap (λ (w : List (ℕ × LinkFault)). said w place) new ∙ none place) (got_push links one m k got)

pub no_lines : (links : List (List (ℕ × LinkFault))) → length links ≡ 256 → AreEmpty links → HasFaults [] links
no_lines links all empty = record { all = all; each = λ from to m lt got place. empty (16 * from + to) m got place }

pub line_more : (lines : List PlanLine) (links : List (List (ℕ × LinkFault))) (line : PlanLine) (k : ℕ) (old new : List (ℕ × LinkFault)) →
    HasFaults lines links → line.to.0 < 16 → k ≡ 16 * line.from.0 + line.to.0 → slice_get links k ≡ Some old →
    ((other : ℕ) → said new other ≡ cond (other == line.number) (Some line.fault) (said old other)) → HasFaults (line ∷ lines) (slice_set links k new)
line_more lines links line k old new has low at was more =
    record {
      all = length-set links k new ∙ has.all;
      each = λ from to m lt got. ⊎_elim (here from to m lt) (there from to m lt) (slice_get-set_cases links k (16 * from + to) new m got);
    }
  where
    here : (from to : ℕ) (m : List (ℕ × LinkFault)) → to < 16 → (16 * from + to ≡ k) × (m ≡ new) → SaysOf (line ∷ lines) (node_at from) (node_at to) m
    here from to m lt both =
        let one : from ≡ line.from.0 = omega (arith, both.0, at, lt, low) in
        let other : to ≡ line.to.0 = omega (arith, both.0, at, lt, low) in
        subst (SaysOf (line ∷ lines) (node_at from) (node_at to)) (sym both.1)
        (line_of_it lines line (node_at from) (node_at to) old (has.each from to old lt (ap (slice_get links) both.0 ∙ was)) new one other more)

    there : (from to : ℕ) (m : List (ℕ × LinkFault)) → to < 16 → ((16 * from + to ≡ k) → ⊥) × (slice_get links (16 * from + to) ≡ Some m) →
        SaysOf (line ∷ lines) (node_at from) (node_at to) m
    there from to m lt both =
        line_of_another lines line (node_at from) (node_at to) m (has.each from to m lt both.1) (λ a b. both.0 (omega (arith, a, b, at)))

-- the lines from the last to the first
pub one_before : (lines : List PlanLine) (maps : List (List (ℕ × LinkFault))) (n : ℕ) (d : PlanLine) → n < length lines →
    HasFaults (slice_index_or lines (length lines - 1 - n) d ∷ drop (length lines - n) lines) maps → HasFaults (drop (length lines - (n + 1)) lines) maps
one_before lines maps n d lt has = subst (λ (xs : List PlanLine). HasFaults xs maps) more has
  where
    here : length lines - 1 - n ≡ length lines - (n + 1)
    here = omega arith

    later : length lines - n ≡ length lines - (n + 1) + 1
    later = omega (arith, lt)

    more : slice_index_or lines (length lines - 1 - n) d ∷ drop (length lines - n) lines ≡ drop (length lines - (n + 1)) lines
    more = (λ i. slice_index_or lines (here i) d ∷ drop (later i) lines) ∙ sym (drop_more lines (length lines - (n + 1)) d (omega (arith, lt)))
