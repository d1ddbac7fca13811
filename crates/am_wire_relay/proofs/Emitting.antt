-- What a relay has released and holds back after one emission more.
use Rattle.std.proofs.Common.{◌≡◌, ℕ, ◌+◌, List, [], ◌∷◌, ◌++◌, length, sym, ◌∙◌, ap, append_assoc, append-nil}
use Rattle.std.specs.Prelude.{Option, map}
use Rattle.am_scenario_plan.specs.declared.plan.LinkFault.{LinkFault}
use Rattle.am_wire_release.specs.declared.stage.LateItem.{LateItem}
use Rattle.am_wire_release.specs.Stages.{freed, held_after, held_then}
use Rattle.am_wire_release.proofs.Releasing.{held_more}
use Rattle.am_wire_relay.specs.Shapes.{released_by, shape, shape_after}

module _ {X : Type 0} (stamp_of : X → ℕ) (restamped : ℕ → X → X) (faults : ℕ → Option LinkFault) where
  shape_after-append : (before xs ys : List X)
      → shape_after stamp_of restamped faults before (xs ++ ys) ≡ shape_after stamp_of restamped faults before xs ++ shape_after stamp_of restamped faults
      (before ++ xs) ys
  shape_after-append before [] ys = ap (λ (b : List X). shape_after stamp_of restamped faults b ys) (sym (append-nil before))
  shape_after-append before (x ∷ xs) ys =
      ap (λ (r : List X). released_by stamp_of restamped faults before x ++ r) (shape_after-append (before ++ x ∷ []) xs ys)
      ∙ (ap (λ (b : List X). released_by stamp_of restamped faults before x ++ (shape_after stamp_of restamped faults (before ++ x ∷ []) xs ++ shape_after
      stamp_of restamped faults b ys)) (append_assoc before (x ∷ []) xs)
      ∙ sym (append_assoc (released_by stamp_of restamped faults before x) (shape_after stamp_of restamped faults (before ++ x ∷ []) xs)
      (shape_after stamp_of restamped faults (before ++ x ∷ xs) ys)))

  -- one emission more releases its part after all that was released before
  pub one_more : (sent : List X) (x : X) → shape stamp_of restamped faults (sent ++ x ∷ []) ≡ shape stamp_of restamped faults sent ++ released_by stamp_of
      restamped faults sent x
  one_more sent x = shape_after-append [] sent (x ∷ []) ∙ ap (λ (r : List X). shape stamp_of restamped faults sent ++ r)
      (append-nil (released_by stamp_of restamped faults sent x))

  module _ (sent : List X) (x : X) (place : ℕ) (fault : Option LinkFault) (at : place ≡ length sent + 1) (is : fault ≡ faults place) (held : List (LateItem X))
      (kept : held ≡ held_after faults sent) where
    here : fault ≡ faults (length sent + 1)
    here = is ∙ ap faults at

    pub shape_more : (old new : List X) → old ≡ shape stamp_of restamped faults sent → new ≡ old ++ map (restamped (stamp_of x)) (freed place fault x held) →
        new ≡ shape stamp_of restamped faults (sent ++ x ∷ [])
    shape_more old new shaped fed = fed ∙ (λ i. shaped i ++ map (restamped (stamp_of x)) (freed (at i) (here i) x (kept i))) ∙ sym (one_more sent x)

    pub held_on : (new : List (LateItem X)) → new ≡ held_then place fault x held → new ≡ held_after faults (sent ++ x ∷ [])
    held_on new e = e ∙ (λ i. held_then (at i) (here i) x (kept i)) ∙ held_more faults sent x
