-- What the calls that print append.
use Rattle.std.proofs.Common.{◌≡◌, ℕ, List, [], ◌∷◌, ◌++◌, sym, ap, ◌∙◌, append_assoc, Result, Ok, Err, OnOk, codes}
use Rattle.std.proofs.lemmas.List.{append-nil}
use Rattle.am_office_entries.specs.declared.Event.{Event}
use Rattle.am_office_entries.specs.declared.Outcome.TheVariants as Out
use Rattle.am_office_text.specs.Words.{Word, spaced, line}
use Rattle.am_office_text.proofs.Extended.{spaced_append}
use Rattle.am_office_text.specs.EntryLines.Lines.{line_of, outcome, who, what}
use Rattle.am_lab_scenarios.specs.Spelling.Texts.{event_line}

-- one word behind a space
pub one_word : (new mid word : List ℕ) → new ≡ mid ++ spaced (word ∷ []) → new ≡ mid ++ codes " " ++ word
unfolding spaced
one_word new mid word e = e ∙ ap (λ (l : List ℕ). mid ++ l) (append-nil (codes " " ++ word)) ∙ sym (append_assoc mid (codes " ") word)

-- a line whose words are appended in two parts
pub whole_line : {T E : Type 0} (result : Result T E) (old one two three new first : List ℕ) (ws vs : List Word)
    → one ≡ old ++ first → two ≡ one ++ spaced ws → three ≡ two ++ spaced vs → OnOk result (new ≡ three ++ codes "\n") →
    OnOk result (new ≡ old ++ line first (ws ++ vs))
whole_line (Ok x) old one two three new first ws vs e1 e2 e3 e4 =
    let words : three ≡ one ++ spaced (ws ++ vs) = e3 ∙ ap (λ (l : List ℕ). l ++ spaced vs) e2 ∙ append_assoc one (spaced ws) (spaced vs)
    ∙ ap (λ (l : List ℕ). one ++ l) (sym (spaced_append ws vs)) in
    let all : three ≡ old ++ (first ++ spaced (ws ++ vs)) = words ∙ ap (λ (l : List ℕ). l ++ spaced (ws ++ vs)) e1
    ∙ append_assoc old first (spaced (ws ++ vs)) in
    e4 ∙ ap (λ (l : List ℕ). l ++ codes "\n") all ∙ append_assoc old (first ++ spaced (ws ++ vs)) (codes "\n")
whole_line (Err x) old one two three new first ws vs e1 e2 e3 e4 = e4

-- the line of an entry that has no outcome
pub no_outcome : (event : Event) → line_of (record { stamp = 0; event = event; outcome = Out.Silent }) ≡ event_line event
unfolding line_of outcome event_line
no_outcome event = ap (λ (words : List Word). line (who event) words) (append-nil (what event))
