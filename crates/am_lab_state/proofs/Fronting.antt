-- The first entries of a report's journal are made again by its first lines.
use Rattle.std.proofs.Common.{◌≡◌, ℕ, zero, suc, ◌+◌, ◌≤◌, ◌<◌, ◌^◌, List, [], ◌∷◌, ◌++◌, drop, take, length, map, refl, sym, ap, ◌∙◌, append_assoc, arith}
use Rattle.std.proofs.lemmas.List.{length-take-le, map-append}
use Rattle.am_check_lines.specs.Grammar.{printed}
use Rattle.am_lexer.specs.Text.{lines_of}
use Rattle.am_model.specs.History.{EachAfter}
use Rattle.am_model.specs.Layout.{Layout}
use Rattle.am_model_scripts.specs.Layout.{layout_of}
use Rattle.am_office_entries.specs.declared.Entry.{Entry}
use Rattle.am_scenario_types.specs.Lawful.{IsLawful}
use Rattle.am_scenario_types.specs.Lists.{ScenarioLists}
use Rattle.am_scenario_types.specs.declared.parts.Form.{Form}
use Rattle.am_lab_reasons.specs.Journal.Lines.{AreLines, IsBehindLines, IsMadeAgain}
use Rattle.am_lab_reasons.proofs.Reported.{reported}
use Rattle.am_lab_state.specs.Fronts.{IsFrontOf}

joined : (n : ℕ) (xs : List Entry) → take n xs ++ drop n xs ≡ xs
joined zero xs = refl
joined (suc n) [] = refl
joined (suc n) (x ∷ xs) = ap (λ (l : List Entry). x ∷ l) (joined n xs)

each_front : (layout : Layout) (past : List Entry) (n : ℕ) (xs : List Entry) → EachAfter (IsMadeAgain layout) past xs →
    EachAfter (IsMadeAgain layout) past (take n xs)
each_front layout past zero xs h = tt
each_front layout past (suc n) [] h = tt
each_front layout past (suc n) (x ∷ xs) h = (h.0, each_front layout (past ++ x ∷ []) n xs h.1)

-- the lines of the others are left
pub left_behind : List Entry → List (List ℕ) → ℕ → List (List ℕ)
left_behind journal left n = map printed (drop n journal) ++ left

pub front_lines : (layout : Layout) (lines : List (List ℕ)) (journal : List Entry) (left : List (List ℕ)) (n : ℕ) → AreLines layout lines journal left →
    AreLines layout lines (take n journal) (left_behind journal left n)
unfolding left_behind
front_lines layout lines journal left n a =
    record {
      each = each_front layout [] n journal a.each;
      lines' = a.lines'
          ∙ ap (λ (j : List Entry). map printed j ++ left) (sym (joined n journal))
          ∙ ap (λ (t : List (List ℕ)). t ++ left) (map-append printed (take n journal) (drop n journal))
          ∙ append_assoc (map printed (take n journal)) (map printed (drop n journal)) left;
    }

pub front_number : (n : ℕ) (journal : List Entry) → n ≤ length journal → n + 3 ≡ length (take n journal) + 3
front_number n journal within = ap (λ (k : ℕ). k + 3) (sym (length-take-le n journal within))

pub front_place : (form : Form) (s : ScenarioLists) → IsLawful s → (bytes : List ℕ) → length bytes < 2 ^ 31 → (n : ℕ) → IsFrontOf form s bytes n →
    IsBehindLines (layout_of s) bytes (n + 3)
front_place form s lawful bytes few n f =
    let t = reported form s lawful bytes few f.report in
    record {
      journal = take n f.report.journal;
      left = left_behind f.report.journal t.left n;
      are = front_lines (layout_of s) (drop 2 (lines_of bytes)) f.report.journal t.left n t.are;
      number' = front_number n f.report.journal f.within;
    }

pub front_fits : (form : Form) (s : ScenarioLists) → IsLawful s → (bytes : List ℕ) → length bytes < 2 ^ 31 → (n : ℕ) → IsFrontOf form s bytes n → n < 2 ^ 31
front_fits form s lawful bytes few n f =
    let t = reported form s lawful bytes few f.report in
    let low = t.low in
    let within = f.within in
    omega (arith, low, within, few)

-- what stands there is short
pub front_short : (form : Form) (s : ScenarioLists) → IsLawful s → (bytes : List ℕ) → length bytes < 2 ^ 31 → (n : ℕ) → (f : IsFrontOf form s bytes n) →
    (journal : List Entry) → journal ≡ take n f.report.journal → length journal < 2 ^ 31
front_short form s lawful bytes few n f journal is =
    let fits = front_fits form s lawful bytes few n f in
    let long = ap (length {A = Entry}) is ∙ length-take-le n f.report.journal f.within in
    omega (arith, fits, long)
