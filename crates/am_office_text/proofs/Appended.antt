-- Words after a text that was appended.
use Rattle.std.proofs.Common.{◌≡◌, ℕ, List, [], ◌∷◌, ◌++◌, append_assoc, ◌∙◌, ap, Result, Ok, Err, OnOk, codes}
use Rattle.am_office_text.specs.Words.{Word, spaced}
use Rattle.am_office_text.proofs.Extended.{appended_words}

-- a text and what follows it are one
pub whole_text : {T E : Type 0} (result : Result T E) (old new text more : List ℕ) → OnOk result (new ≡ (old ++ text) ++ more) →
    OnOk result (new ≡ old ++ (text ++ more))
whole_text (Ok x) old new text more is = is ∙ append_assoc old text more
whole_text (Err e) old new text more is = is

after_text : {T E : Type 0} (result : Result T E) (old mid new text : List ℕ) (ws : List Word) → mid ≡ old ++ text → OnOk result (new ≡ mid ++ spaced ws) →
    OnOk result (new ≡ (old ++ text) ++ spaced ws)
after_text (Ok x) old mid new text ws first second = second ∙ ap (λ (l : List ℕ). l ++ spaced ws) first
after_text (Err e) old mid new text ws first second = second

-- why a call was refused, after the arrow
pub refused_words : {T E : Type 0} (result : Result T E) (old mid new : List ℕ) (ws : List Word) → mid ≡ old ++ codes " -> refused" →
    OnOk result (new ≡ mid ++ spaced ws) → OnOk result (new ≡ old ++ spaced (codes "->" ∷ codes "refused" ∷ ws))
unfolding spaced
refused_words result old mid new ws first second =
    whole_text result old new (codes " -> refused") (spaced ws) (after_text result old mid new (codes " -> refused") ws first second)

-- which message ran by which handler, after the arrow
pub ran_words : {T E : Type 0} (result : Result T E) (old mid new : List ℕ) (s h : Word) → mid ≡ (old ++ codes " -> ran") ++ spaced (s ∷ []) →
    OnOk result (new ≡ mid ++ spaced (h ∷ [])) → OnOk result (new ≡ old ++ spaced (codes "->" ∷ codes "ran" ∷ s ∷ h ∷ []))
unfolding spaced
ran_words result old mid new s h first second =
    whole_text result old new (codes " -> ran") (spaced (s ∷ h ∷ [])) (appended_words result (old ++ codes " -> ran") mid new (s ∷ []) (h ∷ []) first second)
