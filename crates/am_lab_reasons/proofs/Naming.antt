-- Lists that grow by what is told of one element more.
use Rattle.std.proofs.Common.{◌≡◌, ℕ, zero, suc, ◌+◌, ◌<◌, ◌≤◌, Bool, true, false, ◌||◌, List, [], ◌∷◌, ◌++◌, drop, get_or, length, map, take, refl, sym, ap, ◌∙◌}
use Rattle.std.proofs.Common.{append_assoc, arith}
use Rattle.std.proofs.lemmas.List.{append-nil, at_drop_more, drop_all}
use Rattle.std.specs.List.{flat_map, list_any}
use Rattle.am_lemmas.specs.Numbered.{numbered}

one_more : {X Y : Type 0} (f : X → Y) (xs : List X) (i : ℕ) (d : X) → i < length xs → map f (take (i + 1) xs) ≡ map f (take i xs) ++ f (get_or xs i d) ∷ []
one_more f [] i d below = absurd (omega (arith, below))
one_more f (x ∷ xs) zero d below = refl
one_more {Y = Y} f (x ∷ xs) (suc i) d below =
    let next : suc i + 1 ≡ suc (i + 1) = omega arith in
    rw next (ap (λ (l : List Y). f x ∷ l) (one_more f xs i d (omega (arith, below))))

-- one element more, behind those before it
pub named_on : {X Y : Type 0} (f : X → Y) (xs : List X) (i : ℕ) (d : X) (old out new : List Y) → i < length xs → out ≡ old ++ map f (take i xs) →
    new ≡ out ++ f (get_or xs i d) ∷ [] → new ≡ old ++ map f (take (i + 1) xs)
named_on {Y = Y} f xs i d old out new below so put =
    put
    ∙ ap (λ (o : List Y). o ++ f (get_or xs i d) ∷ []) so
    ∙ append_assoc old (map f (take i xs)) (f (get_or xs i d) ∷ [])
    ∙ ap (λ (o : List Y). old ++ o) (sym (one_more f xs i d below))

-- ---- numbered items, of which those from a place on are left

pub told_on : {X Y : Type 0} (give : ℕ → X → List Y) (xs : List X) (i line : ℕ) (d : X) (out new whole : List Y) → i < length xs →
    out ++ numbered give line (drop i xs) ≡ whole → new ≡ out ++ give line (get_or xs i d) → new ++ numbered give (line + 1) (drop (i + 1) xs) ≡ whole
told_on {X = X} {Y = Y} give xs i line d out new whole below so put =
    let cut : drop i xs ≡ get_or xs i d ∷ drop (i + 1) xs = at_drop_more (λ (ys : List X). ys) xs i d below in
    ap (λ (o : List Y). o ++ numbered give (line + 1) (drop (i + 1) xs)) put
    ∙ append_assoc out (give line (get_or xs i d)) (numbered give (line + 1) (drop (i + 1) xs))
    ∙ ap (λ (ys : List X). out ++ numbered give line ys) (sym cut)
    ∙ so

pub all_told : {X Y : Type 0} (give : ℕ → X → List Y) (xs : List X) (i line : ℕ) (out whole : List Y) → length xs ≤ i →
    out ++ numbered give line (drop i xs) ≡ whole → out ≡ whole
all_told {X = X} give xs i line out whole ended so =
    sym (append-nil out) ∙ ap (λ (ys : List X). out ++ numbered give line ys) (sym (drop_all i xs ended)) ∙ so

-- ---- what each element gives, where those from one on are left

pub first_put : {X Y : Type 0} (f : X → List Y) (all left : List X) (x : X) (out new whole : List Y) → all ≡ x ∷ left → out ++ flat_map f all ≡ whole →
    new ≡ out ++ f x → new ++ flat_map f left ≡ whole
first_put {X = X} {Y = Y} f all left x out new whole is so put =
    ap (λ (o : List Y). o ++ flat_map f left) put
    ∙ append_assoc out (f x) (flat_map f left)
    ∙ ap (λ (xs : List X). out ++ flat_map f xs) (sym is)
    ∙ so

pub all_put : {X Y : Type 0} (f : X → List Y) (all : List X) (out whole : List Y) → all ≡ [] → out ++ flat_map f all ≡ whole → out ≡ whole
all_put {X = X} f all out whole none so = sym (append-nil out) ∙ ap (λ (xs : List X). out ++ flat_map f xs) (sym none) ∙ so

-- ---- a test of each element, where those from one on are left

pub any_found : {X : Type 0} (p : X → Bool) (all left : List X) (x : X) (whole : Bool) → all ≡ x ∷ left → p x ≡ true → list_any p all ≡ whole → true ≡ whole
any_found p all left x whole is this so = sym (ap (list_any p) is ∙ ap (λ (b : Bool). b || list_any p left) this) ∙ so

pub any_passed : {X : Type 0} (p : X → Bool) (all left : List X) (x : X) (whole : Bool) → all ≡ x ∷ left → p x ≡ false → list_any p all ≡ whole →
    list_any p left ≡ whole
any_passed p all left x whole is this so = sym (ap (list_any p) is ∙ ap (λ (b : Bool). b || list_any p left) this) ∙ so

pub any_ended : {X : Type 0} (p : X → Bool) (all : List X) (whole : Bool) → all ≡ [] → list_any p all ≡ whole → false ≡ whole
any_ended p all whole none so = sym (ap (list_any p) none) ∙ so
