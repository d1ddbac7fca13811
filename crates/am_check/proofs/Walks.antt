-- A journal that has begun is known by its lines, so the checking of a report ends at one place.
use Rattle.std.proofs.Common.{◌≡◌, ◌⊎◌, ℕ, ◌+◌, ◌<◌, ◌≤◌, List, [], ◌∷◌, ◌++◌, length, drop, map, Option, Some, Result, Ok, Err, refl, sym, ap, ◌∙◌, subst, inl}
use Rattle.std.proofs.Common.{inr, ⊎_elim, append_assoc, arith, length-append}
use Rattle.std.proofs.lemmas.List.{append-nil}
use Rattle.std.proofs.lemmas.Bool.{cases_order}
use Rattle.am_lexer.specs.Text.{lines_of}
use Rattle.am_office_entries.specs.declared.Entry.{Entry}
use Rattle.am_office_report.specs.Report.{report}
use Rattle.am_scenario_types.specs.declared.parts.Form.{Form}
use Rattle.am_scenario_types.specs.Lists.{ScenarioLists}
use Rattle.am_scenario_types.specs.Lawful.{IsLawful}
use Rattle.am_model.specs.History.{EachAfter}
use Rattle.am_check_lines.specs.Grammar.{printed}
use Rattle.am_check.specs.declared.faults.CheckWhat.TheVariants as Whats
use Rattle.am_check.specs.declared.faults.CheckStop.{CheckStop}
use Rattle.am_check.specs.declared.faults.CheckStop.TheVariants as Answers
use Rattle.am_check.specs.declared.faults.LineStop.{LineStop}
use Rattle.am_check.specs.Follows.{Comes, IsEnded, ids_of}
use Rattle.am_check.specs.Lines.{StopsLine}
use Rattle.am_check.specs.Verdict.{Reaches, at_line, count_of, difference, number_of}
use Rattle.am_check.proofs.Coming.{IsReason, one_entry, passes}
use Rattle.am_check.proofs.Reasons.{one_reason}

-- of two journals with the same lines the longer one goes on where the other ends
record GoesOn (form : Form) (s : ScenarioLists) (past front whole : List Entry) (left right : List (List ℕ)) : Type 0 where
  more : List Entry
  whole' : whole ≡ front ++ more
  comes : EachAfter (Comes form s) (past ++ front) more
  left' : left ≡ map printed more ++ right

goes_on : (form : Form) (s : ScenarioLists) → IsLawful s → (past front whole : List Entry) (left right : List (List ℕ)) → EachAfter (Comes form s) past front →
    EachAfter (Comes form s) past whole → map printed front ++ left ≡ map printed whole ++ right → length front ≤ length whole →
    GoesOn form s past front whole left right
goes_on form s lawful past [] whole left right h k lines long =
    record { more = whole; whole' = refl; comes = subst (λ (p : List Entry). EachAfter (Comes form s) p whole) (sym (append-nil past)) k; left' = lines }
goes_on form s lawful past (x ∷ front) [] left right h k lines long = absurd (omega arith)
goes_on form s lawful past (x ∷ front) (y ∷ whole) left right h k lines long =
    let first : printed x ≡ printed y = first_same (printed x) (printed y) (map printed front ++ left) (map printed whole ++ right) lines in
    let rest : map printed front ++ left ≡ map printed whole ++ right =
    rest_same (printed x) (printed y) (map printed front ++ left) (map printed whole ++ right) lines in
    let same : x ≡ y = one_entry form s lawful past x y h.0 k.0 first in
    let on : EachAfter (Comes form s) (past ++ x ∷ []) whole = subst (λ (z : Entry). EachAfter (Comes form s) (past ++ z ∷ []) whole) (sym same) k.1 in
    let further = goes_on form s lawful (past ++ x ∷ []) front whole left right h.1 on rest (omega (arith, long)) in
    record {
      more = further.more;
      whole' = ap (λ (z : Entry). z ∷ whole) (sym same) ∙ ap (λ (l : List Entry). x ∷ l) further.whole';
      comes = subst (λ (p : List Entry). EachAfter (Comes form s) p further.more) (append_assoc past (x ∷ []) front) further.comes;
      left' = further.left';
    }
  where
    first_same : (a b : List ℕ) (ls ks : List (List ℕ)) → a ∷ ls ≡ b ∷ ks → a ≡ b
    first_same a b ls ks e = cc

    rest_same : (a b : List ℕ) (ls ks : List (List ℕ)) → a ∷ ls ≡ b ∷ ks → ls ≡ ks
    rest_same a b ls ks e = cc

-- a line that is due is stopped for a reason
pub record IsLineStopped (form : Form) (s : ScenarioLists) (journal : List Entry) (left : List (List ℕ)) (answer : Result (Unit {0}) CheckStop) : Type 0 where
  pub line : List ℕ
  pub more : List (List ℕ)
  pub left' : left ≡ line ∷ more
  pub why : LineStop
  pub reason : IsReason why
  pub stops : StopsLine form s journal line why
  pub answer' : answer ≡ Err (at_line (number_of (length journal + 3)) why)

-- how it ends: a line is due that isn't there or is stopped; or the journal has all its lines, and ends too early or not, and what
-- stands behind it is the rest of its report or not
abbrev pub AtDueLine : Form → ScenarioLists → List Entry → List (List ℕ) → Result (Unit {0}) CheckStop → Type 0
AtDueLine form s journal left answer =
    ((left ≡ []) × (answer ≡ Err (Answers.Fault (number_of (length journal + 3)) Whats.Form))) ⊎ IsLineStopped form s journal left answer

abbrev pub AtTail : ScenarioLists → List ℕ → List Entry → Result (Unit {0}) CheckStop → Type 0
AtTail s bytes journal answer =
    ((¬ (bytes ≡ report (ids_of s) journal)) × (answer ≡ Err (Answers.Fault (number_of (difference bytes (report (ids_of s) journal))) Whats.Tail)))
    ⊎ ((bytes ≡ report (ids_of s) journal) × (answer ≡ Ok tt))

abbrev pub AtEnd : Form → ScenarioLists → List ℕ → List Entry → Result (Unit {0}) CheckStop → Type 0
AtEnd form s bytes journal answer =
    ((¬ (IsEnded form s journal)) × (answer ≡ Err (Answers.Fault (number_of (length journal + 3)) Whats.Follows)))
    ⊎ (IsEnded form s journal × AtTail s bytes journal answer)

abbrev pub Ends : Form → ScenarioLists → List ℕ → ℕ → List Entry → List (List ℕ) → Result (Unit {0}) CheckStop → Type 0
Ends form s bytes count journal left answer =
    ((length journal < count) × AtDueLine form s journal left answer) ⊎ ((length journal ≡ count) × AtEnd form s bytes journal answer)

-- where the checking of a report ends
pub record StandsAt (form : Form) (s : ScenarioLists) (bytes : List ℕ) (answer : Result (Unit {0}) CheckStop) : Type 0 where
  pub count : ℕ
  pub count' : count_of (lines_of bytes) ≡ Some count
  pub journal : List Entry
  pub left : List (List ℕ)
  pub reached : Reaches form s (drop 2 (lines_of bytes)) journal left
  pub ending : Ends form s bytes count journal left answer

one_count : (a b : ℕ) (o : Option ℕ) → o ≡ Some a → o ≡ Some b → a ≡ b
one_count a b o e f = cc

within : (form : Form) (s : ScenarioLists) (bytes : List ℕ) (count : ℕ) (journal : List Entry) (left : List (List ℕ)) (answer : Result (Unit {0}) CheckStop) →
    Ends form s bytes count journal left answer → length journal ≤ count
within form s bytes count journal left answer (inl p) = let short = p.0 in omega (arith, short)
within form s bytes count journal left answer (inr p) = let long = p.0 in omega (arith, long)

-- it doesn't end before an entry that comes
not_before : (form : Form) (s : ScenarioLists) → IsLawful s →
    (bytes : List ℕ) (count : ℕ) (journal : List Entry) (left : List (List ℕ)) (answer : Result (Unit {0}) CheckStop) (x : Entry) (others : List (List ℕ)) →
    Comes form s journal x → left ≡ printed x ∷ others → length journal < count → Ends form s bytes count journal left answer → ⊥
not_before form s lawful bytes count journal left answer x others comes is short (inr p) = let long = p.0 in omega (arith, short, long)
not_before form s lawful bytes count journal left answer x others comes is short (inl p) =
    ⊎_elim
    (λ (none : (left ≡ []) × (answer ≡ Err (Answers.Fault (number_of (length journal + 3)) Whats.Form))). empty left (printed x) others none.0 is)
    (λ (stopped : IsLineStopped form s journal left answer).
    passes form s lawful journal x stopped.why comes stopped.reason (subst (λ (l : List ℕ). StopsLine form s journal l stopped.why)
    (same left stopped.line (printed x) stopped.more others stopped.left' is) stopped.stops))
    p.1
  where
    empty : (ls : List (List ℕ)) (l : List ℕ) (more : List (List ℕ)) → ls ≡ [] → ls ≡ l ∷ more → ⊥
    empty ls l more e f = cc

    same : (ls : List (List ℕ)) (l k : List ℕ) (more others : List (List ℕ)) → ls ≡ l ∷ more → ls ≡ k ∷ others → l ≡ k
    same ls l k more others e f = cc

-- so of two ends none is before the other
not_shorter : (form : Form) (s : ScenarioLists) → IsLawful s →
    (bytes : List ℕ) (one other : Result (Unit {0}) CheckStop) (a : StandsAt form s bytes one) (b : StandsAt form s bytes other) →
    length a.journal < length b.journal → ⊥
not_shorter form s lawful bytes one other a b short =
    let g = goes_on form s lawful [] a.journal b.journal a.left b.left a.reached.begun b.reached.begun (sym a.reached.lines'
    ∙ b.reached.lines') (omega (arith, short)) in
    let most = within form s bytes b.count b.journal b.left other b.ending in
    let count : a.count ≡ b.count = one_count a.count b.count (count_of (lines_of bytes)) a.count' b.count' in
    by_more g.more (ap length g.whole' ∙ length-append a.journal g.more) g.comes g.left' (omega (arith, short, most, count))
  where
    by_more : (more : List Entry) → length b.journal ≡ length a.journal + length more → EachAfter (Comes form s) a.journal more →
        a.left ≡ map printed more ++ b.left → length a.journal < a.count → ⊥
    by_more [] long comes is below = omega (arith, long, short)
    by_more (x ∷ more) long comes is below = not_before form s lawful bytes a.count a.journal a.left one x (map printed more ++ b.left) comes.0 is below
        a.ending

-- ---- one answer at one end

due_once : (form : Form) (s : ScenarioLists) (journal : List Entry) (left : List (List ℕ)) (one other : Result (Unit {0}) CheckStop) →
    AtDueLine form s journal left one → AtDueLine form s journal left other → one ≡ other
due_once form s journal left one other (inl p) (inl q) = p.1 ∙ sym q.1
due_once form s journal left one other (inl p) (inr q) = let none = p.0 in let some = q.left' in absurd (cc)
due_once form s journal left one other (inr p) (inl q) = let some = p.left' in let none = q.0 in absurd (cc)
due_once form s journal left one other (inr p) (inr q) =
    let same : q.line ≡ p.line = lines_same left q.line p.line q.more p.more q.left' p.left' in
    let why : p.why ≡ q.why = one_reason form s journal p.line p.why q.why p.reason q.reason p.stops
    (subst (λ (l : List ℕ). StopsLine form s journal l q.why) same q.stops) in
    p.answer' ∙ ap (λ (w : LineStop). Err (at_line (number_of (length journal + 3)) w)) why ∙ sym q.answer'
  where
    lines_same : (ls : List (List ℕ)) (l k : List ℕ) (more others : List (List ℕ)) → ls ≡ l ∷ more → ls ≡ k ∷ others → l ≡ k
    lines_same ls l k more others e f = cc

tail_once : (s : ScenarioLists) (bytes : List ℕ) (journal : List Entry) (one other : Result (Unit {0}) CheckStop) → AtTail s bytes journal one →
    AtTail s bytes journal other → one ≡ other
tail_once s bytes journal one other (inl p) (inl q) = p.1 ∙ sym q.1
tail_once s bytes journal one other (inl p) (inr q) = absurd (p.0 q.0)
tail_once s bytes journal one other (inr p) (inl q) = absurd (q.0 p.0)
tail_once s bytes journal one other (inr p) (inr q) = p.1 ∙ sym q.1

end_once : (form : Form) (s : ScenarioLists) (bytes : List ℕ) (journal : List Entry) (one other : Result (Unit {0}) CheckStop) →
    AtEnd form s bytes journal one → AtEnd form s bytes journal other → one ≡ other
end_once form s bytes journal one other (inl p) (inl q) = p.1 ∙ sym q.1
end_once form s bytes journal one other (inl p) (inr q) = absurd (p.0 q.0)
end_once form s bytes journal one other (inr p) (inl q) = absurd (q.0 p.0)
end_once form s bytes journal one other (inr p) (inr q) = tail_once s bytes journal one other p.1 q.1

ends_once : (form : Form) (s : ScenarioLists) (bytes : List ℕ) (count : ℕ) (journal : List Entry) (left : List (List ℕ))
    (one other : Result (Unit {0}) CheckStop) → Ends form s bytes count journal left one → Ends form s bytes count journal left other → one ≡ other
ends_once form s bytes count journal left one other (inl p) (inl q) = due_once form s journal left one other p.1 q.1
ends_once form s bytes count journal left one other (inl p) (inr q) = let short = p.0 in let long = q.0 in absurd (omega (arith, short, long))
ends_once form s bytes count journal left one other (inr p) (inl q) = let long = p.0 in let short = q.0 in absurd (omega (arith, short, long))
ends_once form s bytes count journal left one other (inr p) (inr q) = end_once form s bytes journal one other p.1 q.1

pub stands_once : (form : Form) (s : ScenarioLists) → IsLawful s → (bytes : List ℕ) (one other : Result (Unit {0}) CheckStop) → StandsAt form s bytes one →
    StandsAt form s bytes other → one ≡ other
stands_once form s lawful bytes one other a b =
    ⊎_elim
    (λ (same : length a.journal ≡ length b.journal). at_one same)
    (λ (differ : (length a.journal < length b.journal) ⊎ (length b.journal < length a.journal)).
    ⊎_elim
    (λ (short : length a.journal < length b.journal). absurd (not_shorter form s lawful bytes one other a b short))
    (λ (long : length b.journal < length a.journal). absurd (not_shorter form s lawful bytes other one b a long))
    differ)
    (cases_order (length a.journal) (length b.journal))
  where
    no_more : (more : List Entry) (m n : ℕ) → m ≡ n → n ≡ m + length more → more ≡ []
    no_more [] m n same long = refl
    no_more (x ∷ more) m n same long = absurd (omega (arith, same, long))

    at_one : length a.journal ≡ length b.journal → one ≡ other
    at_one same =
        let g = goes_on form s lawful [] a.journal b.journal a.left b.left a.reached.begun b.reached.begun (sym a.reached.lines'
        ∙ b.reached.lines') (omega (arith, same)) in
        let none : g.more ≡ [] = no_more g.more (length a.journal) (length b.journal) same (ap length g.whole' ∙ length-append a.journal g.more) in
        let journal : b.journal ≡ a.journal = g.whole' ∙ ap (λ (l : List Entry). a.journal ++ l) none ∙ append-nil a.journal in
        let left : b.left ≡ a.left = sym (g.left' ∙ ap (λ (l : List Entry). map printed l ++ b.left) none) in
        let count : b.count ≡ a.count = one_count b.count a.count (count_of (lines_of bytes)) b.count' a.count' in
        let with_count : Ends form s bytes a.count b.journal b.left other = subst (λ (n : ℕ). Ends form s bytes n b.journal b.left other) count b.ending in
        let with_journal : Ends form s bytes a.count a.journal b.left other =
        subst (λ (j : List Entry). Ends form s bytes a.count j b.left other) journal with_count in
        let with_left : Ends form s bytes a.count a.journal a.left other =
        subst (λ (l : List (List ℕ)). Ends form s bytes a.count a.journal l other) left with_journal in
        ends_once form s bytes a.count a.journal a.left one other a.ending with_left
