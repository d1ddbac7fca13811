-- The first of what numbers in a range give, from a number on.
use Rattle.std.proofs.Common.{◌≡◌, ℕ, zero, suc, ◌+◌, ◌-◌, ◌<◌, ◌≤◌, List, [], ◌∷◌, Option, Some, None, Bool, true, false, cond, map, refl, sym, ◌∙◌, ap, arith}
use Rattle.std.specs.Prelude.{find}
use Rattle.std.specs.List.{range_with_len}
use Rattle.am_model.proofs.Names.{nodes_fused}
use Rattle.am_names.specs.declared.NodeId.{NodeId}
use Rattle.am_model.specs.Layout.{node_at}
use Rattle.am_model_scripts.specs.Links.{first_some}

-- the first that is given from `i` on, below `n`
abbrev pub rest : {X : Type 0} → (ℕ → Option X) → ℕ → ℕ → Option X
rest f i n = first_some (map f (range_with_len i (n - i)))

-- the numbers from `i` on, below `n`
pub range_from : (i n : ℕ) → i < n → range_with_len i (n - i) ≡ i ∷ range_with_len (i + 1) (n - (i + 1))
range_from i n h =
    let more : n - i ≡ suc (n - (i + 1)) = omega arith in
    ap (range_with_len i) more

range_past : (i n : ℕ) → n ≤ i → range_with_len i (n - i) ≡ []
range_past i n h =
    let none : n - i ≡ zero = omega arith in
    ap (range_with_len i) none

range_all : (n m : ℕ) → n ≡ m → range_with_len 0 (n - 0) ≡ range_with_len 0 m
range_all n m e =
    let all : n - 0 ≡ m = omega (arith, e) in
    ap (range_with_len 0) all

pub rest_all : {X : Type 0} (f : ℕ → Option X) (n m : ℕ) → n ≡ m → rest f 0 n ≡ first_some (map f (range_with_len 0 m))
rest_all {X} f n m e = ap (λ (ns : List ℕ). first_some {X = X} (map f ns)) (range_all n m e)

pub rest_nodes : {X : Type 0} (h : NodeId → Option X) (n m : ℕ) → n ≡ m →
    rest (λ (k : ℕ). h (node_at k)) 0 n ≡ first_some (map h (map node_at (range_with_len 0 m)))
rest_nodes {X} h n m e = rest_all (λ (k : ℕ). h (node_at k)) n m e ∙ ap (first_some {X = X}) (nodes_fused h (range_with_len 0 m))

first_given : {X : Type 0} (o : Option X) (x : X) (os : List (Option X)) → o ≡ Some x → first_some (o ∷ os) ≡ Some x
first_given None x os e = absurd (cc)
first_given (Some y) x os e = e

first_not_given : {X : Type 0} (o : Option X) (os : List (Option X)) → o ≡ None → first_some (o ∷ os) ≡ first_some os
first_not_given None os e = refl
first_not_given (Some y) os e = absurd (cc)

pub rest_some : {X : Type 0} (f : ℕ → Option X) (i n : ℕ) (x : X) → i < n → f i ≡ Some x → rest f i n ≡ Some x
rest_some {X} f i n x h e =
    ap (λ (ns : List ℕ). first_some {X = X} (map f ns)) (range_from i n h) ∙ first_given (f i) x (map f (range_with_len (i + 1) (n - (i + 1)))) e

pub rest_none : {X : Type 0} (f : ℕ → Option X) (i n : ℕ) → i < n → f i ≡ None → rest f (i + 1) n ≡ rest f i n
rest_none {X} f i n h e =
    sym (ap (λ (ns : List ℕ). first_some {X = X} (map f ns)) (range_from i n h) ∙ first_not_given (f i) (map f (range_with_len (i + 1) (n - (i + 1)))) e)

pub rest_past : {X : Type 0} (f : ℕ → Option X) (i n : ℕ) → n ≤ i → rest f i n ≡ None
rest_past {X} f i n h = ap (λ (ns : List ℕ). first_some {X = X} (map f ns)) (range_past i n h)

-- ---- the first number that passes

abbrev pub found_from : (ℕ → Bool) → ℕ → ℕ → Option ℕ
found_from p i n = find p (range_with_len i (n - i))

pub found_all : (p : ℕ → Bool) (n m : ℕ) → n ≡ m → found_from p 0 n ≡ find p (range_with_len 0 m)
found_all p n m e = ap (find p) (range_all n m e)

here : (p : ℕ → Bool) (b : Bool) (k : ℕ) (ks : List ℕ) → p k ≡ b → b ≡ true → cond (p k) (Some k) (find p ks) ≡ Some k
here p b k ks e f = ap (λ (c : Bool). cond c (Some k) (find p ks)) (e ∙ f)

pub found_here : (p : ℕ → Bool) (i n : ℕ) → i < n → p i ≡ true → found_from p i n ≡ Some i
found_here p i n h e = ap (find p) (range_from i n h) ∙ here p true i (range_with_len (i + 1) (n - (i + 1))) e refl

pub not_here : (p : ℕ → Bool) (i n : ℕ) → i < n → p i ≡ false → found_from p (i + 1) n ≡ found_from p i n
not_here p i n h e =
    let ks : List ℕ = range_with_len (i + 1) (n - (i + 1)) in
    sym (ap (find p) (range_from i n h) ∙ ap (λ (c : Bool). cond c (Some i) (find p ks)) e)

pub found_past : (p : ℕ → Bool) (i n : ℕ) → n ≤ i → found_from p i n ≡ None
found_past p i n h = ap (find p) (range_past i n h)
