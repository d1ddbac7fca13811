-- What became of an answer that was offered, by the status.
use Rattle.std.specs.Prelude.{Bool, true, false, codes}
use Rattle.std.specs.Io.KnownBytes.{Appends}
use Rattle.std.proofs.Common.{◌≡◌, ◌≢◌, ◌⊎◌, inl, inr, ℕ, List, [], Option, ap, sym, ◌∙◌, subst, arith}
use Rattle.am_io.specs.Causes.{Rose, Counter}
use Rattle.am_io.specs.Whole.{IsLonger}
use Rattle.am_main_answer.specs.Answers.{IsDueOffered, IsDueTaken, IsDueTo, IsDueToText, IsFault, IsOneOf, LacksMemory, statuses_of, too_long_by}
use Rattle.am_main_lines.specs.Lines.{Answer}
use Rattle.am_main_lines.specs.Offers.{IsOffered, IsWhole, no_memory, read_fault}

-- ---- whole, or cut short

cut_is : (status : ℕ) → status ≢ 5 → status ≢ 8 → (status ≡ 5) ⊎ (status ≡ 8) → ⊥
cut_is status write memory (inl five) = write five
cut_is status write memory (inr eight) = memory eight

pub whole_of : (answer : Answer) (status : ℕ) (old new : Option (List ℕ)) → status ≢ 5 → status ≢ 8 → IsOffered answer status old new →
    IsWhole answer status old new
whole_of answer status old new write memory (inl whole) = whole
whole_of answer status old new write memory (inr cut) = absurd (cut_is status write memory cut.status')

-- the sink took an answer that is due whole, where the status is neither 5 nor 8
pub taken_of : (Due : Answer → Type 0) (status : ℕ) (old new : Option (List ℕ)) → IsDueOffered Due status old new → status ≢ 5 → status ≢ 8 →
    IsDueTaken Due status old new
taken_of Due status old new a write memory = record { answer = a.answer; due = a.due; whole = whole_of a.answer status old new write memory a.offered }

-- ---- want of memory, and the end of the source

text_given : (answer known : Answer) (old new : Option (List ℕ)) → answer ≡ known → Appends old new answer.text → Appends old new known.text
text_given answer known old new same given = subst (λ (a : Answer). Appends old new a.text) same given

lacks_none : (answer : Answer) (old new : Option (List ℕ)) (few many : Counter) → answer ≡ no_memory → Appends old new answer.text ⊎ Rose few many →
    LacksMemory old new few many
lacks_none answer old new few many none (inl appended) = inl (text_given answer no_memory old new none appended)
lacks_none answer old new few many none (inr rose) = inr rose

pub lacks_of : (answer : Answer) (status : ℕ) (old new : Option (List ℕ)) (few many : Counter) → (answer ≡ no_memory) ⊎ (answer.status ≢ 8) →
    (answer.status ≢ 8 → status ≡ 8 → Rose few many) → (status ≡ 8 → Appends old new answer.text ⊎ Rose few many) → status ≡ 8 →
    LacksMemory old new few many
lacks_of answer status old new few many (inr other) short given eight = inr (short other eight)
lacks_of answer status old new few many (inl none) short given eight = lacks_none answer old new few many none (given eight)

not_write : (status : ℕ) → ¬ IsFault status → status ≢ 5
not_write status none = λ (is : status ≡ 5). none (inr (inl is))

not_memory : (status : ℕ) → ¬ IsFault status → status ≢ 8
not_memory status none = λ (is : status ≡ 8). none (inr (inr (inr (inl is))))

pub ended_of : (answer : Answer) (status : ℕ) (old new : Option (List ℕ)) (ended : Bool) → IsOffered answer status old new →
    (¬ IsFault answer.status → ended ≡ true) → ¬ IsFault status → ended ≡ true
ended_of answer status old new ended offered own none =
    let whole = whole_of answer status old new (not_write status none) (not_memory status none) offered in
    own (subst (λ (n : ℕ). ¬ IsFault n) whole.status' none)

-- ---- what a status tells

-- no answer has the status of a fault
abbrev pub HasNoFault : (List ℕ → Answer → Type 0) → Type 0
HasNoFault Answers = (bytes : List ℕ) (answer : Answer) → Answers bytes answer → ¬ IsFault answer.status

-- an answer that is another one has another status
other_status : (answer known : Answer) (n : ℕ) → answer ≡ known → answer.status ≡ n → known.status ≢ n → ⊥
other_status answer known n same is other = other (sym (ap (λ (a : Answer). a.status) same) ∙ is)

-- the status is another than these
differs : (status n other : ℕ) → status ≡ n → n ≢ other → status ≢ other
differs status n other is apart = λ (same : status ≡ other). apart (sym is ∙ same)

-- a read failed; the bytes are too many; memory ran out; or it is an answer
abbrev Kind : List ℕ → Option (List ℕ) → Counter → Counter → Answer → Type 0
Kind line left before now answer =
    (Rose before now × (answer ≡ read_fault))
    ⊎ ((IsLonger left 16_777_216 × (answer ≡ too_long_by line))
    ⊎ ((answer ≡ no_memory)
    ⊎ (¬ IsFault answer.status)))

text_kind : (line : List ℕ) (Answers : List ℕ → Answer → Type 0) (left : Option (List ℕ)) (before now : Counter) (answer : Answer) → HasNoFault Answers →
    IsDueToText line Answers left before now answer → Kind line left before now answer
text_kind line Answers left before now answer none (inl due) = inl due
text_kind line Answers left before now answer none (inr (stands, inl due)) = inr (inl due)
text_kind line Answers left before now answer none (inr (stands, inr (inl due))) = inr (inr (inl due))
text_kind line Answers left before now answer none (inr (stands, inr (inr found))) = inr (inr (inr (none found.bytes answer found.holds)))

kind_of : (reads : Bool) (line : List ℕ) (Answers : List ℕ → Answer → Type 0) (left : Option (List ℕ)) (before now : Counter) (answer : Answer) →
    HasNoFault Answers → IsDueTo reads line Answers left before now answer → Kind line left before now answer
kind_of true line Answers left before now answer none due = text_kind line Answers left before now answer none due
kind_of false line Answers left before now answer none (inl due) = inr (inr (inl due))
kind_of false line Answers left before now answer none (inr answers) = inr (inr (inr (none [] answer answers)))

read_fault_by : (line : List ℕ) (left : Option (List ℕ)) (before now : Counter) (answer : Answer) (old new : Option (List ℕ)) → Kind line left before now answer →
    answer.status ≡ 4 → Appends old new answer.text → Rose before now × Appends old new (codes "read fault\n")
read_fault_by line left before now answer old new (inl k) is given = (k.0, text_given answer read_fault old new k.1 given)
read_fault_by line left before now answer old new (inr (inl k)) is given = absurd (other_status answer (too_long_by line) 4 k.1 is (omega arith))
read_fault_by line left before now answer old new (inr (inr (inl k))) is given = absurd (other_status answer no_memory 4 k is (omega arith))
read_fault_by line left before now answer old new (inr (inr (inr k))) is given = absurd (k (inl is))

too_long_lemma : (line : List ℕ) (left : Option (List ℕ)) (before now : Counter) (answer : Answer) (old new : Option (List ℕ)) → Kind line left before now answer →
    answer.status ≡ 7 → Appends old new answer.text → IsLonger left 16_777_216 × Appends old new line
too_long_lemma line left before now answer old new (inl k) is given = absurd (other_status answer read_fault 7 k.1 is (omega arith))
too_long_lemma line left before now answer old new (inr (inl k)) is given = (k.0, text_given answer (too_long_by line) old new k.1 given)
too_long_lemma line left before now answer old new (inr (inr (inl k))) is given = absurd (other_status answer no_memory 7 k is (omega arith))
too_long_lemma line left before now answer old new (inr (inr (inr k))) is given = absurd (k (inr (inr (inl is))))

pub read_fault_of : (reads : Bool) (line : List ℕ) (Answers : List ℕ → Answer → Type 0) (left : Option (List ℕ)) (before now : Counter) (status : ℕ)
    (old new : Option (List ℕ)) → HasNoFault Answers → IsDueOffered (IsDueTo reads line Answers left before now) status old new → status ≡ 4 →
    Rose before now × Appends old new (codes "read fault\n")
read_fault_of reads line Answers left before now status old new none a is =
    let whole = whole_of a.answer status old new (differs status 4 5 is (omega arith)) (differs status 4 8 is (omega arith)) a.offered in
    read_fault_by line left before now a.answer old new (kind_of reads line Answers left before now a.answer none a.due) (sym whole.status' ∙ is) whole.given

pub too_long_of : (reads : Bool) (line : List ℕ) (Answers : List ℕ → Answer → Type 0) (left : Option (List ℕ)) (before now : Counter) (status : ℕ)
    (old new : Option (List ℕ)) → HasNoFault Answers → IsDueOffered (IsDueTo reads line Answers left before now) status old new → status ≡ 7 →
    IsLonger left 16_777_216 × Appends old new line
too_long_of reads line Answers left before now status old new none a is =
    let whole = whole_of a.answer status old new (differs status 7 5 is (omega arith)) (differs status 7 8 is (omega arith)) a.offered in
    too_long_lemma line left before now a.answer old new (kind_of reads line Answers left before now a.answer none a.due) (sym whole.status' ∙ is) whole.given

-- ---- which statuses there are

status_of : (answer other : Answer) → answer ≡ other → answer.status ≡ other.status
status_of answer other same = ap (λ (a : Answer). a.status) same

due_status : (reads : Bool) (line : List ℕ) (Answers : List ℕ → Answer → Type 0) (own : List ℕ) (left : Option (List ℕ)) (before now : Counter) (answer : Answer) →
    ((bytes : List ℕ) (answer : Answer) → Answers bytes answer → IsOneOf own answer.status) → IsDueTo reads line Answers left before now answer →
    IsOneOf (statuses_of reads own) answer.status
due_status true line Answers own left before now answer has (inl due) = inr (inr (inl (status_of answer read_fault due.1)))
due_status true line Answers own left before now answer has (inr (stands, inl due)) = inr (inr (inr (inl (status_of answer (too_long_by line) due.1))))
due_status true line Answers own left before now answer has (inr (stands, inr (inl due))) = inr (inl (status_of answer no_memory due))
due_status true line Answers own left before now answer has (inr (stands, inr (inr f))) = inr (inr (inr (inr (has f.bytes answer f.holds))))
due_status false line Answers own left before now answer has (inl due) = inr (inl (status_of answer no_memory due))
due_status false line Answers own left before now answer has (inr answers) = inr (inr (has [] answer answers))

cut_status : (reads : Bool) (own : List ℕ) (status : ℕ) → (status ≡ 5) ⊎ (status ≡ 8) → IsOneOf (statuses_of reads own) status
cut_status true own status (inl five) = inl five
cut_status true own status (inr eight) = inr (inl eight)
cut_status false own status (inl five) = inl five
cut_status false own status (inr eight) = inr (inl eight)

ends_by : (reads : Bool) (own : List ℕ) (answer : Answer) (status : ℕ) (old new : Option (List ℕ)) → IsOneOf (statuses_of reads own) answer.status →
    IsOffered answer status old new → IsOneOf (statuses_of reads own) status
ends_by reads own answer status old new has (inl whole) = subst (λ (n : ℕ). IsOneOf (statuses_of reads own) n) (sym whole.status') has
ends_by reads own answer status old new has (inr cut) = cut_status reads own status cut.status'

-- the program ends with a status of its answers, or with that of a fault
pub ends_of : (reads : Bool) (line : List ℕ) (Answers : List ℕ → Answer → Type 0) (own : List ℕ) (left : Option (List ℕ)) (before now : Counter) (status : ℕ)
    (old new : Option (List ℕ)) → ((bytes : List ℕ) (answer : Answer) → Answers bytes answer → IsOneOf own answer.status) →
    IsDueOffered (IsDueTo reads line Answers left before now) status old new → IsOneOf (statuses_of reads own) status
ends_of reads line Answers own left before now status old new has a =
    ends_by reads own a.answer status old new (due_status reads line Answers own left before now a.answer has a.due) a.offered
