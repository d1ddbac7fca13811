-- Which answer is due.
use Rattle.std.specs.Prelude.{Bool, true, false}
use Rattle.std.proofs.Common.{◌≡◌, ◌≢◌, ◌⊎◌, inl, inr, ℕ, ◌≤◌, List, [], length, Option, ap, sym, ◌∙◌, arith}
use Rattle.am_io.specs.Causes.{Rose, Stands, Counter}
use Rattle.am_io.specs.Whole.{IsAll, IsLonger}
use Rattle.am_main_answer.specs.Answers.{IsDueTo, IsDueToText, IsFault, too_long_by}
use Rattle.am_main_lines.specs.Lines.{Answer}
use Rattle.am_main_lines.specs.Offers.{no_memory, read_fault}

pub due_read_fault : (line : List ℕ) (Answers : List ℕ → Answer → Type 0) (left : Option (List ℕ)) (before now : Counter) (answer : Answer) → Rose before now →
    answer ≡ read_fault → IsDueToText line Answers left before now answer
due_read_fault line Answers left before now answer rose is = inl (rose, is)

pub due_too_long : (line : List ℕ) (Answers : List ℕ → Answer → Type 0) (left : Option (List ℕ)) (before now : Counter) (answer : Answer) → Stands before now →
    IsLonger left 16_777_216 → answer ≡ too_long_by line → IsDueToText line Answers left before now answer
due_too_long line Answers left before now answer stands longer is = inr (stands, inl (longer, is))

pub due_no_memory : (line : List ℕ) (Answers : List ℕ → Answer → Type 0) (left : Option (List ℕ)) (before now : Counter) (answer : Answer) → Stands before now →
    answer ≡ no_memory → IsDueToText line Answers left before now answer
due_no_memory line Answers left before now answer stands is = inr (stands, inr (inl is))

pub due_found : (line : List ℕ) (Answers : List ℕ → Answer → Type 0) (left : Option (List ℕ)) (before now : Counter) (bytes : List ℕ) (answer : Answer) →
    Stands before now → IsAll left bytes → length bytes ≤ 16_777_216 → (answer ≡ no_memory) ⊎ Answers bytes answer →
    IsDueToText line Answers left before now answer
due_found line Answers left before now bytes answer stands all few (inl none) = inr (stands, inr (inl none))
due_found line Answers left before now bytes answer stands all few (inr answers) = inr (
  stands,
  inr (inr (record { bytes = bytes; all = all; few = few; holds = answers })),
)

pub due_to_text : (line : List ℕ) (reads : Bool) (Answers : List ℕ → Answer → Type 0) (left : Option (List ℕ)) (before now : Counter) (answer : Answer) →
    reads ≡ true → IsDueToText line Answers left before now answer → IsDueTo reads line Answers left before now answer
due_to_text line true Answers left before now answer is due = due
due_to_text line false Answers left before now answer is due = absurd (cc)

pub due_unread : (line : List ℕ) (reads : Bool) (Answers : List ℕ → Answer → Type 0) (left : Option (List ℕ)) (before now : Counter) (answer : Answer) →
    reads ≡ false → (answer ≡ no_memory) ⊎ Answers [] answer → IsDueTo reads line Answers left before now answer
due_unread line true Answers left before now answer is due = absurd (cc)
due_unread line false Answers left before now answer is due = due

-- an answer that has no status of a fault, or is for want of memory, has none of these
pub own_or_none : (answer : Answer) → (answer ≡ no_memory) ⊎ (¬ IsFault answer.status) → answer.status ≢ 5
own_or_none answer (inl none) = λ (is : answer.status ≡ 5). let e : answer.status ≡ 8 = ap (λ (a : Answer). a.status) none in absurd (omega arith)
own_or_none answer (inr own) = λ (is : answer.status ≡ 5). own (inr (inl is))

pub none_or_own : (answer : Answer) → (answer ≡ no_memory) ⊎ (¬ IsFault answer.status) → (answer ≡ no_memory) ⊎ (answer.status ≢ 8)
none_or_own answer (inl none) = inl none
none_or_own answer (inr own) = inr (λ (is : answer.status ≡ 8). own (inr (inr (inr (inl is)))))

-- an answer that is known has no other status
pub apart : (answer known : Answer) (n : ℕ) → answer ≡ known → known.status ≢ n → answer.status ≢ n
apart answer known n same other = λ (is : answer.status ≡ n). other (sym (ap (λ (a : Answer). a.status) same) ∙ is)
