-- The text of what a journal changes grows with each entry by what is told of that.
use Rattle.std.proofs.Common.{◌≡◌, ℕ, suc, ◌+◌, ◌-◌, ◌<◌, ◌≤◌, true, List, [], ◌∷◌, ◌++◌, Option, Some, get_or, length, take, refl, sym, ap, ◌∙◌, arith}
use Rattle.std.proofs.Common.{append_assoc}
use Rattle.std.proofs.lemmas.Bool.{and_from, and_parts, le-leb, lt-ltb, ltb-true}
use Rattle.std.proofs.lemmas.List.{append-nil, length-take-le, take-take, take_more}
use Rattle.std.specs.Fmt.{decimal}
use Rattle.std.specs.Prelude.{codes, nat_le, nat_lt}
use Rattle.am_lemmas.specs.Numbered.{numbered}
use Rattle.am_office_entries.specs.declared.Entry.{Entry}
use Rattle.am_office_text.specs.Words.{line}
use Rattle.am_scenario_types.specs.Lists.{ScenarioLists}
use Rattle.am_lab_state.specs.Answers.{asked_text, behind, difference_of, is_line, up_to}
use Rattle.am_lab_state.specs.Changes.{change, change_lines, changes}
use Rattle.am_lab_state.specs.Differences.{difference}
use Rattle.am_lab_state.specs.Laws.{ChangeIsTold, ChangesAreTold}
use Rattle.am_lab_state.specs.Texts.{state_text}
use Rattle.am_lab_state.specs.declared.asked.StateLines.TheVariants.{Between}
use Rattle.am_lab_state.proofs.Asking.{has_line_of, line_low}

-- ---- numbered items

-- two that give the same for the numbers of the items
numbered_same : (f g : ℕ → List ℕ) (number : ℕ) (xs : List Entry) → ((n : ℕ) → n < number + length xs → f n ≡ g n) →
    numbered (λ n (x : Entry). f n) number xs ≡ numbered (λ n (x : Entry). g n) number xs
numbered_same f g number [] same = refl
numbered_same f g number (x ∷ xs) same =
    ap (λ (l : List ℕ). l ++ numbered (λ n (y : Entry). f n) (number + 1) xs) (same number (omega arith))
    ∙ ap (λ (l : List ℕ). g number ++ l) (numbered_same f g (number + 1) xs (λ n below. same n (omega (arith, below))))

-- one item more
numbered_push : (f : ℕ → List ℕ) (number : ℕ) (xs : List Entry) (last : Entry) →
    numbered (λ n (x : Entry). f n) number (xs ++ last ∷ []) ≡ numbered (λ n (x : Entry). f n) number xs ++ f (number + length xs)
numbered_push f number [] last = let at : number + 0 ≡ number = omega arith in append-nil (f number) ∙ ap f (sym at)
numbered_push f number (x ∷ xs) last =
    let at : number + 1 + length xs ≡ number + suc (length xs) = omega arith in
    ap (λ (l : List ℕ). f number ++ l) (numbered_push f (number + 1) xs last)
    ∙ ap (λ (n : ℕ). f number ++ (numbered (λ m (y : Entry). f m) (number + 1) xs ++ f n)) at
    ∙ sym (append_assoc (f number) (numbered (λ m (y : Entry). f m) (number + 1) xs) (f (number + suc (length xs))))

-- ---- what is told of an entry is told so in each journal that goes on behind it

change_same : (s : ScenarioLists) (journal : List Entry) (k n : ℕ) → n - 2 ≤ k → change_lines s (take k journal) n ≡ change_lines s journal n
change_same s journal k n within =
    ap (λ (js : List Entry). change n (state_text s js) (state_text s (take (n - 2) (take k journal))))
    (take-take (n - 1 - 2) k journal (omega (arith, within)))
    ∙ ap (λ (js : List Entry). change n (state_text s (take (n - 1 - 2) journal)) (state_text s js)) (take-take (n - 2) k journal within)

changes_front : (s : ScenarioLists) (journal : List Entry) (k : ℕ) → k ≤ length journal →
    changes s (take k journal) ≡ numbered (λ n (x : Entry). change_lines s journal n) 3 (take k journal)
changes_front s journal k within =
    let long = length-take-le k journal within in
    numbered_same (change_lines s (take k journal)) (change_lines s journal) 3 (take k journal)
    (λ n below. change_same s journal k n (omega (arith, below, long)))

grown : (s : ScenarioLists) (journal : List Entry) (k : ℕ) (d : Entry) → k < length journal →
    changes s (take (k + 1) journal) ≡ changes s (take k journal) ++ change_lines s journal (k + 3)
grown s journal k d below =
    let give = λ (n : ℕ) (x : Entry). change_lines s journal n in
    let front = take k journal in
    let long = length-take-le k journal (omega (arith, below)) in
    let at : 3 + length front ≡ k + 3 = omega (arith, long) in
    changes_front s journal (k + 1) (omega (arith, below))
    ∙ ap (numbered give 3) (take_more journal k d below)
    ∙ numbered_push (change_lines s journal) 3 front (get_or journal k d)
    ∙ ap (λ (n : ℕ). numbered give 3 front ++ change_lines s journal n) at
    ∙ ap (λ (t : List ℕ). t ++ change_lines s journal (k + 3)) (sym (changes_front s journal k (omega (arith, below))))

-- ---- the line of an entry

line_below : (count number : ℕ) → is_line count number ≡ true → number < count + 3
line_below count number h = ltb-true number (count + 3) (and_parts (nat_le 3 number) (nat_lt number (count + 3)) h).1

line_before : (count number : ℕ) → is_line count number ≡ true → 4 ≤ number → is_line count (number - 1) ≡ true
line_before count number h high =
    let below = line_below count number h in
    and_from (nat_le 3 (number - 1)) (nat_lt (number - 1) (count + 3)) (le-leb 3 (number - 1) (omega (arith, high)))
    (lt-ltb (number - 1) (count + 3) (omega (arith, below)))

-- what is told between two lines of a journal
told_between : (s : ScenarioLists) (journal : List Entry) (first second : ℕ) → is_line (length journal) first ≡ true → is_line (length journal) second ≡ true →
    asked_text s journal (Between first second) ≡ Some (difference (state_text s (up_to first journal)) (state_text s (up_to second journal)))
told_between s journal first second h k =
    let one = has_line_of s journal (length journal) first (state_text s (up_to first journal)) refl h refl in
    let two = has_line_of s journal (length journal) second (state_text s (up_to second journal)) refl k refl in
    sym (ap (λ (o : Option (List ℕ)). difference_of o (Some (state_text s (up_to second journal)))) one
    ∙ ap (λ (o : Option (List ℕ)). difference_of (behind s journal first) o) two)

-- one line more
line_grown : (s : ScenarioLists) (journal : List Entry) (d : Entry) (number k : ℕ) → number ≡ k + 3 → k < length journal →
    changes s (up_to number journal) ≡ changes s (up_to (number - 1) journal) ++ change_lines s journal number
line_grown s journal d number k at below =
    let one : number - 1 - 2 ≡ k = omega (arith, at) in
    let two : number - 2 ≡ k + 1 = omega (arith, at) in
    let front : up_to (number - 1) journal ≡ take k journal = ap (λ (n : ℕ). take n journal) one in
    let more : up_to number journal ≡ take (k + 1) journal = ap (λ (n : ℕ). take n journal) two in
    ap (changes s) more
    ∙ grown s journal k d below
    ∙ ap (λ (js : List Entry). changes s js ++ change_lines s journal (k + 3)) (sym front)
    ∙ ap (λ (n : ℕ). changes s (up_to (number - 1) journal) ++ change_lines s journal n) (sym at)

told_first : (s : ScenarioLists) (journal : List Entry) (number : ℕ) → number ≡ 3 →
    difference (state_text s (up_to (number - 1) journal)) (state_text s (up_to number journal)) ≡ difference (state_text s []) (state_text s (up_to 3 journal))
told_first s journal number is = ap (λ (n : ℕ). difference (state_text s (up_to (n - 1) journal)) (state_text s (up_to n journal))) is

told_at : (s : ScenarioLists) (journal : List Entry) (d : Entry) (number : ℕ) → is_line (length journal) number ≡ true → ChangeIsTold s journal number
told_at s journal d number h =
    let low = line_low (length journal) number h in
    let below = line_below (length journal) number h in
    record {
      told = difference (state_text s (up_to (number - 1) journal)) (state_text s (up_to number journal));
      grows = line_grown s journal d number (number - 3) (omega (arith, low)) (omega (arith, low, below))
          ∙ sym (append_assoc (changes s (up_to (number - 1) journal)) (line (codes "line") (decimal number ∷ []))
          (difference (state_text s (up_to (number - 1) journal)) (state_text s (up_to number journal))));
      first = told_first s journal number;
      later = λ high. told_between s journal (number - 1) number (line_before (length journal) number h high) h;
    }

no_line : (number : ℕ) → is_line 0 number ≡ true → ⊥
no_line number h = let low = line_low 0 number h in let below = line_below 0 number h in omega (arith, low, below)

each_told : (s : ScenarioLists) (journal : List Entry) (number : ℕ) → is_line (length journal) number ≡ true → ChangeIsTold s journal number
each_told s [] number h = absurd (no_line number h)
each_told s (x ∷ xs) number h = told_at s (x ∷ xs) x number h

pub changes_are_told : ChangesAreTold
changes_are_told = record { none = λ s. refl; each = each_told }
