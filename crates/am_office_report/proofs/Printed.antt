-- A line that is appended word by word.
use Rattle.std.proofs.Common.{◌≡◌, ℕ, List, ◌++◌, append_assoc, sym, ◌∙◌, ap, Result, Ok, Err, OnOk, codes}
use Rattle.am_office_text.specs.Words.{Word, spaced, line}
use Rattle.am_office_text.proofs.Extended.{spaced_append}

-- words after words
pub more_words : (old mid new : List ℕ) (ws vs : List Word) → mid ≡ old ++ spaced ws → new ≡ mid ++ spaced vs → new ≡ old ++ spaced (ws ++ vs)
more_words old mid new ws vs first second =
    second ∙ ap (λ (l : List ℕ). l ++ spaced vs) first ∙ append_assoc old (spaced ws) (spaced vs) ∙ ap (λ (l : List ℕ). old ++ l) (sym (spaced_append ws vs))

-- the first word, the words after it, and the end of the line
pub whole_line : {T E : Type 0} (result : Result T E) (old one all new first : List ℕ) (ws : List Word) → one ≡ old ++ first → all ≡ one ++ spaced ws →
    OnOk result (new ≡ all ++ codes "\n") → OnOk result (new ≡ old ++ line first ws)
whole_line (Ok x) old one all new first ws e1 e2 e3 =
    e3 ∙ ap (λ (l : List ℕ). l ++ codes "\n") (e2 ∙ ap (λ (l : List ℕ). l ++ spaced ws) e1 ∙ append_assoc old first (spaced ws))
    ∙ append_assoc old (first ++ spaced ws) (codes "\n")
whole_line (Err e) old one all new first ws e1 e2 e3 = e3
