-- Reading parts one after the other, as a loop does.
use Rattle.std.proofs.Common.{◌≡◌, ℕ, suc, ◌-◌, ◌+◌, ◌≤◌, ◌<◌, List, [], ◌∷◌, ◌++◌, Option, Some, None, refl, sym, ap, ◌∙◌, append_assoc, arith}
use Rattle.std.proofs.lemmas.List.{append-nil}
use Rattle.am_lemmas.specs.Options.{◌>>=◌}
use Rattle.am_swap_image.specs.Reading.{Read, many_at}
use Rattle.am_swap_pieces.specs.Answers.{behind}

-- what was read before, and what is still read
abbrev pub with_front : {X : Type 0} → List X → Read (List X) → Read (List X)
with_front front read = read >>= λ x. Some (front ++ x.0, x.1)

regroup : {X : Type 0} (front : List X) (n : X) (read : Read (List X)) →
    with_front front (read >>= λ x. Some (n ∷ x.0, x.1)) ≡ with_front (front ++ n ∷ []) read
regroup {X} front n (Some x) = ap (λ (ns : List X). let found : List X × List ℕ = (ns, x.1) in Some found) (simp append_assoc)
regroup {X} front n None = refl

pub goes_on : {X : Type 0} (at : List ℕ → Read X) (front : List X) (count i : ℕ) (bytes : List ℕ) (n : X) (after : List ℕ) (total : Read (List X)) → i < count →
    at bytes ≡ Some (n, after) → with_front front (many_at at (count - i) bytes) ≡ total →
    with_front (front ++ n ∷ []) (many_at at (count - (i + 1)) after) ≡ total
unfolding many_at
goes_on {X} at front count i bytes n after total lt h so_far =
    let k : count - i ≡ suc (count - (i + 1)) = omega arith in
    let one : with_front front (many_at at (count - i) bytes) ≡ with_front (front ++ n ∷ []) (many_at at (count - (i + 1)) after) =
    rw (k, h) (regroup front n (many_at at (count - (i + 1)) after)) in
    sym one ∙ so_far

pub ends : {X : Type 0} (at : List ℕ → Read X) (front : List X) (count i : ℕ) (bytes : List ℕ) (total : Read (List X)) → i < count → at bytes ≡ None →
    with_front front (many_at at (count - i) bytes) ≡ total → total ≡ None
unfolding many_at
ends {X} at front count i bytes total lt h so_far =
    let k : count - i ≡ suc (count - (i + 1)) = omega arith in
    let one : with_front front (many_at at (count - i) bytes) ≡ None = rw (k, h) refl in
    sym so_far ∙ one

pub is_done : {X : Type 0} (at : List ℕ → Read X) (front : List X) (count i : ℕ) (bytes : List ℕ) (total : Read (List X)) → count ≤ i →
    with_front front (many_at at (count - i) bytes) ≡ total → total ≡ Some (front, bytes)
unfolding many_at
is_done {X} at front count i bytes total le so_far =
    let k : count - i ≡ 0 = omega arith in
    let found : Read (List X) = let pair : List X × List ℕ = (front, bytes) in Some pair in
    let one : with_front front (many_at at (count - i) bytes) ≡ found =
    rw k (ap (λ (ns : List X). let pair : List X × List ℕ = (ns, bytes) in Some pair) (append-nil front)) in
    sym so_far ∙ one

-- passing over a part, as a loop does

regroup_behind : {X : Type 0} (n : X) (read : Read (List X)) → behind (read >>= λ x. Some (n ∷ x.0, x.1)) ≡ behind read
regroup_behind {X} n (Some x) = refl
regroup_behind {X} n None = refl

pub passes_on : {X : Type 0} (at : List ℕ → Read X) (count i : ℕ) (bytes : List ℕ) (n : X) (after : List ℕ) (total : Option (List ℕ)) → i < count →
    at bytes ≡ Some (n, after) → behind (many_at at (count - i) bytes) ≡ total → behind (many_at at (count - (i + 1)) after) ≡ total
unfolding many_at
passes_on {X} at count i bytes n after total lt h so_far =
    let k : count - i ≡ suc (count - (i + 1)) = omega arith in
    let one : behind (many_at at (count - i) bytes) ≡ behind (many_at at (count - (i + 1)) after) =
    rw (k, h) (regroup_behind n (many_at at (count - (i + 1)) after)) in
    sym one ∙ so_far

pub passes_none : {X : Type 0} (at : List ℕ → Read X) (count i : ℕ) (bytes : List ℕ) (total : Option (List ℕ)) → i < count → at bytes ≡ None →
    behind (many_at at (count - i) bytes) ≡ total → total ≡ None
unfolding many_at
passes_none {X} at count i bytes total lt h so_far =
    let k : count - i ≡ suc (count - (i + 1)) = omega arith in
    let one : behind (many_at at (count - i) bytes) ≡ None = rw (k, h) refl in
    sym so_far ∙ one

pub has_passed : {X : Type 0} (at : List ℕ → Read X) (count i : ℕ) (bytes : List ℕ) (total : Option (List ℕ)) → count ≤ i →
    behind (many_at at (count - i) bytes) ≡ total → total ≡ Some bytes
unfolding many_at
has_passed {X} at count i bytes total le so_far =
    let k : count - i ≡ 0 = omega arith in
    let one : behind (many_at at (count - i) bytes) ≡ Some bytes = rw k refl in
    sym so_far ∙ one
