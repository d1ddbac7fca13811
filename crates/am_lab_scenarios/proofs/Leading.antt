-- Reading goes on from line to line, whichever section the last line was of.
use Rattle.std.proofs.Common.{◌≡◌, ℕ, ◌+◌, ◌-◌, ◌^◌, ◌≤◌, true, List, [], ◌∷◌, ◌++◌, length, Result, Ok, refl, sym, ap, subst, ◌∙◌, inl, inr, append_assoc}
use Rattle.std.proofs.Common.{arith}
use Rattle.std.specs.Prelude.{min}
use Rattle.std.specs.List.{list_all, flat_map}
use Rattle.std.proofs.lemmas.List.{append-nil, length-append}
use Rattle.std.proofs.Math.Nat.{min-eq_left, min-eq_right}
use Rattle.am_lexer.specs.Text.{lines_of, words_of, is_text_line}
use Rattle.am_lexer.specs.Lines.{line_after}
use Rattle.am_office_text.specs.Words.{Word, spaced, line}
use Rattle.am_scenario_types.specs.declared.parts.Form.{Form}
use Rattle.am_scenario_types.specs.declared.faults.ScenarioFault.{ScenarioFault}
use Rattle.am_scenario_types.specs.Lists.{ScenarioLists}
use Rattle.am_scenario.specs.Drafts.Said.{Said}
use Rattle.am_scenario.specs.Order.{after_line, after_words}
use Rattle.am_scenario.specs.Grammar.{read_from}
use Rattle.am_lab_scenarios.specs.Spelling.Texts.{line_behind}
use Rattle.am_lab_scenarios.proofs.Words.{is_word}
use Rattle.am_lab_scenarios.proofs.Cut.{line_is_text, words_back, line_back}
use Rattle.am_lab_scenarios.proofs.Lists.{three_ways}

-- ---- the numbers of lines

next_number : (before : ℕ) → line_after (line_behind before) ≡ line_behind (before + 1)
next_number before = elim (three_ways (before + 1) (2 ^ 32 - 1)) [
  | inl less ↦ ap (λ (n : ℕ). min (n + 1) (2 ^ 32 - 1)) (min-eq_left {n = before + 1} {m = 2 ^ 32 - 1} (omega arith))
  | inr more ↦
      let over : 2 ^ 32 - 1 ≤ before + 1 = elim more [ inl same ↦ omega arith | inr above ↦ omega arith ] in
      ap (λ (n : ℕ). min (n + 1) (2 ^ 32 - 1)) (min-eq_right {n = 2 ^ 32 - 1} {m = before + 1} over)
      ∙ min-eq_right {n = 2 ^ 32 - 1} {m = 2 ^ 32 - 1 + 1} (omega arith)
      ∙ sym (min-eq_right {n = 2 ^ 32 - 1} {m = before + 1 + 1} (omega arith))
]

-- ---- one line

taken : (form : Form) (number : ℕ) (said next : Said) (text first : List ℕ) (words : List Word) (lines : List (List ℕ)) (r : Result ScenarioLists ScenarioFault)
    → is_text_line text ≡ true → words_of text ≡ first ∷ words → after_words form number said (first ∷ words) ≡ Ok next →
    read_from form (line_after number) next lines ≡ r → read_from form number said (text ∷ lines) ≡ r
unfolding read_from after_line
taken form number said next text first words lines r printable cut says goes = rw (printable, cut, says) goes

pub read_line : (form : Form) (before : ℕ) (said next : Said) (first : Word) (words : List Word) (rest : List ℕ) (r : Result ScenarioLists ScenarioFault)
    → is_word first ≡ true → list_all is_word words ≡ true → after_words form (line_behind before) said (first ∷ words) ≡ Ok next
    → read_from form (line_behind (before + 1)) next (lines_of rest) ≡ r → read_from form (line_behind before) said (lines_of (line first words ++ rest)) ≡ r
read_line form before said next first words rest r f w says goes =
    ap (λ (lines : List (List ℕ)). read_from form (line_behind before) said lines) (line_back first words rest f w)
    ∙ taken form (line_behind before) said next (first ++ spaced words) first words (lines_of rest) r (line_is_text first words f w)
    (words_back first words f w) says
    (ap (λ (number : ℕ). read_from form number next (lines_of rest)) (next_number before) ∙ goes)

-- ---- texts

abbrev pub in_section : Said → ℕ → Said
in_section said section = record said { section = section }

-- what is read of a text behind so many lines, where the last one was of a section up to this one
abbrev pub Reads : Form → ℕ → ℕ → Said → List ℕ → Result ScenarioLists ScenarioFault → Type 0
Reads form before section said text r = (at : ℕ) → 1 ≤ at → at ≤ section → read_from form (line_behind before) (in_section said at) (lines_of text) ≡ r

-- the text leads from what was said before it to what is said behind it
abbrev pub Leads : Form → ℕ → ℕ → Said → List ℕ → ℕ → ℕ → Said → Type 0
Leads form before section said text after last next = (rest : List ℕ) (r : Result ScenarioLists ScenarioFault) → Reads form after last next rest r →
    Reads form before section said (text ++ rest) r

abbrev pub Says : Form → ℕ → ℕ → Said → Word → List Word → Said → Type 0
Says form before section said first words next = (at : ℕ) → 1 ≤ at → at ≤ section →
    after_words form (line_behind before) (in_section said at) (first ∷ words) ≡ Ok (in_section next section)

pub one_line : (form : Form) (before section : ℕ) (said : Said) (first : Word) (words : List Word) (next : Said)
    → 1 ≤ section → is_word first ≡ true → list_all is_word words ≡ true → Says form before section said first words next →
    Leads form before section said (line first words) (before + 1) section next
one_line form before section said first words next some f w says rest r goes at low high =
    read_line form before (in_section said at) (in_section next section) first words rest r f w (says at low high) (goes section some (omega arith))

pub both_texts : (form : Form) (b b1 b2 s s1 s2 : ℕ) (said said1 said2 : Said) (t u : List ℕ) → Leads form b s said t b1 s1 said1 →
    Leads form b1 s1 said1 u b2 s2 said2 → Leads form b s said (t ++ u) b2 s2 said2
both_texts form b b1 b2 s s1 s2 said said1 said2 t u first second rest r goes =
    subst (λ (text : List ℕ). Reads form b s said text r) (sym (append_assoc t u rest)) (first (u ++ rest) r (second rest r goes))

-- from a lower section
pub from_lower : (form : Form) (b b2 low s s2 : ℕ) (said said2 : Said) (t : List ℕ) → low ≤ s → Leads form b s said t b2 s2 said2 →
    Leads form b low said t b2 s2 said2
from_lower form b b2 low s s2 said said2 t le leads rest r goes at some high = leads rest r goes at some (omega (arith, high, le))

-- a line or more for each element of a list
module _ {X : Type 0} (form : Form) (section : ℕ) (print : X → List ℕ) (state : List X → Said) (first : ℕ) (all : List X)
    (one : (pre : List X) (x : X) (post : List X) → pre ++ x ∷ post ≡ all →
    Leads form (first + length pre) section (state pre) (print x) (first + length pre + 1) section (state (pre ++ x ∷ []))) where
  from : (pre xs : List X) → pre ++ xs ≡ all → Leads form (first + length pre) section (state pre) (flat_map print xs) (first + length all) section (state all)
  from pre [] e =
      let same : all ≡ pre = sym e ∙ append-nil pre in
      subst (λ (l : List X). Leads form (first + length pre) section (state pre) [] (first + length l) section (state l)) (sym same) (λ rest r goes. goes)
  from pre (x ∷ xs) e =
      let more : (pre ++ x ∷ []) ++ xs ≡ all = append_assoc pre (x ∷ []) xs ∙ e in
      let count : first + length (pre ++ x ∷ []) ≡ first + length pre + 1 = omega (arith, length-append pre (x ∷ [])) in
      let others : Leads form (first + length pre + 1) section (state (pre ++ x ∷ [])) (flat_map print xs) (first + length all) section (state all) =
      subst (λ (n : ℕ). Leads form n section (state (pre ++ x ∷ [])) (flat_map print xs) (first + length all) section (state all)) count
      (from (pre ++ x ∷ []) xs more) in
      both_texts form (first + length pre) (first + length pre + 1) (first + length all) section section section (state pre) (state (pre ++ x ∷ [])) (state all)
      (print x) (flat_map print xs) (one pre x xs e) others

  pub each : Leads form first section (state []) (flat_map print all) (first + length all) section (state all)
  each =
      let start : first + 0 ≡ first = omega arith in
      subst (λ (n : ℕ). Leads form n section (state []) (flat_map print all) (first + length all) section (state all)) start (from [] all refl)
