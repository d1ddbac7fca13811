-- Texts that are appended piece by piece.
use Rattle.std.proofs.Common.{◌≡◌, ℕ, List, ◌++◌, Result, Ok, Err, OnOk, append_assoc, ap, ◌∙◌}
use Rattle.am_office_report.proofs.Printed.{more_words}
use Rattle.am_office_text.specs.Words.{Word, spaced}

-- words after words
pub more_told :
    {T E : Type 0} (result : Result T E) (old mid new : List ℕ) (ws vs : List Word) → mid ≡ old ++ spaced ws → OnOk result (new ≡ mid ++ spaced vs) →
    OnOk result (new ≡ old ++ spaced (ws ++ vs))
more_told (Ok x) old mid new ws vs first second = more_words old mid new ws vs first second
more_told (Err e) old mid new ws vs first second = second

-- a first word, words after it, and words after these
pub head_told : {T E : Type 0} (result : Result T E) (old one mid new first : List ℕ) (ws vs : List Word) → one ≡ old ++ first → mid ≡ one ++ spaced ws →
    OnOk result (new ≡ mid ++ spaced vs) → OnOk result (new ≡ old ++ (first ++ spaced (ws ++ vs)))
head_told (Ok x) old one mid new first ws vs e1 e2 e3 =
    more_words one mid new ws vs e2 e3 ∙ ap (λ (l : List ℕ). l ++ spaced (ws ++ vs)) e1 ∙ append_assoc old first (spaced (ws ++ vs))
head_told (Err e) old one mid new first ws vs e1 e2 e3 = e3
