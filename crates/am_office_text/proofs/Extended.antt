-- What was there stays in front, and words after words.
use Rattle.std.proofs.Common.{◌≡◌, ℕ, List, [], ◌∷◌, ◌++◌, append_assoc, sym, ◌∙◌, ap, refl, length, take, map, codes, get_or, ◌<◌, ◌+◌, Result, Ok, Err, OnOk}
use Rattle.std.proofs.Common.{add-one}
use Rattle.std.proofs.lemmas.List.{append-nil, map_push}
use Rattle.std.proofs.Math.Seq.{take-suc}
use Rattle.am_office_text.specs.Pieces.{Extends}
use Rattle.am_office_text.specs.Words.{Word, spaced}

pub extends_same : (a b : List ℕ) → b ≡ a → Extends a b
extends_same a b e = record { rest = []; is = e ∙ sym (append-nil a) }

pub extends_append : (a b t : List ℕ) → b ≡ a ++ t → Extends a b
extends_append a b t e = record { rest = t; is = e }

-- what stays in front of more stays in front
pub extends_through : (a b c t : List ℕ) → Extends b c → b ≡ a ++ t → Extends a c
extends_through a b c t kept e = record { rest = t ++ kept.rest; is = kept.is ∙ ap (λ (x : List ℕ). x ++ kept.rest) e ∙ append_assoc a t kept.rest }

pub spaced_nil : spaced [] ≡ []
unfolding spaced
spaced_nil = refl

pub spaced_append : (ws vs : List Word) → spaced (ws ++ vs) ≡ spaced ws ++ spaced vs
unfolding spaced
spaced_append [] vs = refl
spaced_append (w ∷ ws) vs = ap (λ (x : List ℕ). codes " " ++ w ++ x) (spaced_append ws vs) ∙ sym (append_assoc (codes " " ++ w) (spaced ws) (spaced vs))

-- words after words that were appended
pub appended_words : {T E : Type 0} (result : Result T E) (old mid new : List ℕ) (ws vs : List Word) → mid ≡ old ++ spaced ws →
    OnOk result (new ≡ mid ++ spaced vs) → OnOk result (new ≡ old ++ spaced (ws ++ vs))
appended_words (Ok x) old mid new ws vs first second =
    second ∙ ap (λ (x : List ℕ). x ++ spaced vs) first ∙ append_assoc old (spaced ws) (spaced vs) ∙ ap (λ (x : List ℕ). old ++ x) (sym (spaced_append ws vs))
appended_words (Err e) old mid new ws vs first second = second

-- one word more
pub spaced_push : (ws : List Word) (w : Word) → spaced (ws ++ w ∷ []) ≡ spaced ws ++ codes " " ++ w
unfolding spaced
spaced_push ws w = spaced_append ws (w ∷ []) ∙ ap (λ (x : List ℕ). spaced ws ++ x) (append-nil (codes " " ++ w)) ∙ sym (append_assoc (spaced ws) (codes " ") w)

-- the word of one item more
pub next_word : {X : Type 0} (f : X → Word) (xs : List X) (i : ℕ) (d : X) (out mid new : List ℕ) → i < length xs → mid ≡ out ++ spaced (map f (take i xs)) →
    new ≡ mid ++ codes " " ++ f (get_or xs i d) → new ≡ out ++ spaced (map f (take (i + 1) xs))
next_word {X} f xs i d out mid new below e1 e2 =
    let words : List Word = map f (take i xs) in
    let word : Word = f (get_or xs i d) in
    let taken : map f (take (i + 1) xs) ≡ words ++ word ∷ [] = rw (add-one, take-suc xs i d below) (map_push f (take i xs) (get_or xs i d)) in
    let grown : spaced (map f (take (i + 1) xs)) ≡ spaced words ++ codes " " ++ word = ap spaced taken ∙ spaced_push words word in
    e2 ∙ ap (λ (l : List ℕ). l ++ codes " " ++ word) e1 ∙ ap (λ (l : List ℕ). l ++ word) (append_assoc out (spaced words) (codes " "))
    ∙ append_assoc out (spaced words ++ codes " ") word ∙ ap (λ (l : List ℕ). out ++ l) (sym grown)

pub ruleset extension = (append_assoc, extends_same, extends_append, extends_through, spaced_append)
