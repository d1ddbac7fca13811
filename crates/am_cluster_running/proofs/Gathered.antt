-- Seats that are gathered one after the other.
use Rattle.std.specs.Prelude.{slice_index_or}
use Rattle.std.proofs.Common.{◌≡◌, ℕ, zero, suc, List, [], ◌∷◌, ◌++◌, refl, ◌∙◌, arith}
use Rattle.am_office_entries.specs.declared.Entry.{Entry}
use Rattle.am_places.specs.Rule.{IsOutside, both_known, gathered, nothing}
use Rattle.am_places.specs.declared.board.Known.{Known}
use Rattle.am_workers_laws.specs.Invariants.Seats.{EndPass}
use Rattle.am_workers_laws.proofs.Passes.{both_length}
use Rattle.am_cluster_running.specs.Ends.Ends.{gathered_all}

pub gathered_push : (v : EndPass) (ws : List EndPass) (w : EndPass) → gathered_all v (ws ++ w ∷ []) ≡ gathered (gathered_all v ws) w
gathered_push v [] w = refl
gathered_push v (u ∷ us) w = gathered_push (gathered v u) us w

both_inside : (xs ys : List (Known Entry)) (k : ℕ) → (slice_index_or (both_known xs ys) k nothing).inside ≡ (slice_index_or xs k nothing).inside
both_inside [] ys k = refl
both_inside (x ∷ xs) [] k = refl
both_inside (x ∷ xs) (y ∷ ys) zero = refl
both_inside (x ∷ xs) (y ∷ ys) (suc k) = both_inside xs ys k

outside_more : (v w : EndPass) → IsOutside v → IsOutside (gathered v w)
outside_more v w h k low = both_inside v.known w.known k ∙ h k (let n = both_length v.known w.known in omega (arith, low, n))

-- a seat that holds no book holds none when it has gathered others
pub outside_all : (v : EndPass) (ws : List EndPass) → IsOutside v → IsOutside (gathered_all v ws)
outside_all v [] h = h
outside_all v (w ∷ ws) h = outside_all (gathered v w) ws (outside_more v w h)
