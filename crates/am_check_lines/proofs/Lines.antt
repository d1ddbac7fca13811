-- What a line tells is the event of which it is a line.
use Rattle.std.proofs.Common.{◌≡◌, ℕ, ◌<◌, true, false, eqb, List, [], ◌∷◌, ◌++◌, length, Some, None, refl, sym, ap, subst, ◌∙◌, inl, inr, append_assoc, arith}
use Rattle.std.specs.Prelude.{codes}
use Rattle.std.specs.List.{slice_split, onto_first}
use Rattle.std.specs.Str.{bytes_eq}
use Rattle.std.proofs.lemmas.Bool.{cases_Bool, and_parts}
use Rattle.std.proofs.lemmas.Slice.Eq.{bytes_eq-Decides}
use Rattle.std.proofs.lemmas.List.Splits.{length-slice_split}
use Rattle.am_lemmas.proofs.Binds.{bind_some}
use Rattle.am_office_entries.specs.declared.Event.{Event}
use Rattle.am_office_entries.specs.declared.Received.{Received}
use Rattle.am_office_entries.specs.declared.Received.TheVariants as Got
use Rattle.am_office_entries.specs.declared.Outcome.{Outcome}
use Rattle.am_office_entries.specs.declared.Outcome.TheVariants as Out
use Rattle.am_office_entries.specs.declared.Entry.{Entry}
use Rattle.am_office_text.specs.Words.{Word, spaced}
use Rattle.am_office_text.specs.EntryLines.Lines.{who, what, outcome, received, after_arrow, line_of}
use Rattle.am_check_lines.specs.Grammar.{AreNumbersOf, left_side, IsRightSide, IsLineOf, printed}
use Rattle.am_check_lines.specs.Reading.{words_in, words_behind, event_at, has_more, is_right_side, event_of}
use Rattle.am_check_lines.specs.Laws.{LinesAreRead, PrintedLinesAreLines}
use Rattle.am_check_lines.proofs.Cuts.{IsBehind, cut_all, put_together, spaced-append}
use Rattle.am_check_lines.proofs.Back.{event_back}
use Rattle.am_check_lines.proofs.Free.{who_free, what_free}
use Rattle.am_check_lines.proofs.Sound.{got, event_is}

-- at least one byte behind an arrow
more_behind : (words : List Word) → 0 < length words → has_more ([] ∷ words) ≡ true
more_behind [] h = absurd (omega arith)
more_behind (w ∷ words) h = refl

more_onto : (byte : ℕ) (words : List Word) → has_more (onto_first byte words) ≡ true
more_onto byte [] = refl
more_onto byte (w ∷ words) = refl

more_is : (byte : ℕ) (text : List ℕ) → has_more (words_in (byte ∷ text)) ≡ true
unfolding words_in
more_is byte text = elim (cases_Bool (eqb byte 32)) [
  | inl t ↦ rw t (more_behind (slice_split (λ b. eqb b 32) text) (omega (arith, length-slice_split (λ b. eqb b 32) text)))
  | inr f ↦ rw f (more_onto byte (slice_split (λ b. eqb b 32) text))
]

behind_is : (right : List ℕ) → IsRightSide right → IsBehind right × (is_right_side (words_behind right) ≡ true)
unfolding words_behind words_in is_right_side
behind_is right (inl e) = subst (λ (r : List ℕ). IsBehind r × (is_right_side (words_behind r) ≡ true)) (sym e) (inl refl, refl)
behind_is right (inr p) = subst (λ (r : List ℕ). IsBehind r × (is_right_side (words_behind r) ≡ true)) (sym p.2) (inr (_, refl), more_is p.0 p.1)

pub read_line : (line : List ℕ) (e : Event) → IsLineOf line e → event_of line ≡ Some e
unfolding event_of
read_line line e l =
    let b = behind_is l.right_side l.ended in
    let words : words_in line ≡ who e ∷ (what e ++ words_behind l.right_side) =
    ap words_in (l.is ∙ append_assoc (who e) (spaced (what e)) l.right_side)
    ∙ cut_all (who e) (what e) l.right_side b.0 (who_free e l.numbers) (what_free e l.numbers) in
    let read : event_at (words_in line) ≡ Some (e, words_behind l.right_side) = ap event_at words ∙ event_back e (words_behind l.right_side) l.numbers in
    rw (read, b.1) refl

-- what stands behind the words of an event
right_of : (words : List Word) → is_right_side words ≡ true → IsRightSide (spaced words)
unfolding is_right_side spaced
right_of [] h = inl refl
right_of (w ∷ []) h = let no = (and_parts (bytes_eq w (codes "->")) false h).1 in absurd (cc no)
right_of (w ∷ [] ∷ []) h = let no = (and_parts (bytes_eq w (codes "->")) false h).1 in absurd (cc no)
right_of (w ∷ [] ∷ v ∷ words) h = let arrow = (bytes_eq-Decides w (codes "->")).0 (and_parts (bytes_eq w (codes "->")) true h).0 in
    inr (32, v ++ spaced words, rw arrow refl)
right_of (w ∷ (b ∷ v) ∷ words) h = let arrow = (bytes_eq-Decides w (codes "->")).0 (and_parts (bytes_eq w (codes "->")) true h).0 in
    inr (b, v ++ spaced words, rw arrow refl)

pub line_read : (line : List ℕ) (e : Event) → event_of line ≡ Some e → IsLineOf line e
unfolding event_of
line_read line e h =
    let a = bind_some (event_at (words_in line)) _ e h in
    let p = event_is (words_in line) a.0 a.1 in
    let whole : line ≡ left_side a.0.0 ++ spaced a.0.1 =
    put_together line (who a.0.0) (what a.0.0 ++ a.0.1) p.0
    ∙ ap (λ (x : List ℕ). who a.0.0 ++ x) (spaced-append (what a.0.0) a.0.1)
    ∙ sym (append_assoc (who a.0.0) (spaced (what a.0.0)) (spaced a.0.1)) in
    elim (cases_Bool (is_right_side a.0.1)) [
      | inl t ↦
          let same : Some a.0.0 ≡ Some e = sym (rw t refl) ∙ a.2 in
          got a.0.0 e (IsLineOf line) same (record { numbers = p.1; right_side = spaced a.0.1; ended = right_of a.0.1 t; is = whole })
      | inr f ↦ let none : None ≡ Some e = sym (rw f refl) ∙ a.2 in absurd (cc none)
    ]

pub none_is_read : (line : List ℕ) → event_of line ≡ None → (e : Event) → ¬ (IsLineOf line e)
none_is_read line none e l = let some = read_line line e l in absurd (cc (none, some))

pub lines_are_read : LinesAreRead
lines_are_read line e = (line_read line e, read_line line e)

-- the words of an outcome begin with a letter
abbrev BeginWithLetter : List Word → Type 0
BeginWithLetter [] = Unit {0}
BeginWithLetter ([] ∷ words) = ⊥
BeginWithLetter ((b ∷ w) ∷ words) = Unit {0}

received_letter : (r : Received) → BeginWithLetter (received r)
unfolding received
received_letter (Got.Accepted m k) = tt
received_letter (Got.Refused m c k) = tt
received_letter (Got.Again s v k) = tt
received_letter Got.Stale = tt
received_letter (Got.Delivered s) = tt
received_letter (Got.Requeued s c used) = tt
received_letter (Got.Returned s c) = tt
received_letter Got.Nothing = tt

outcome_letter : (o : Outcome) → BeginWithLetter (outcome o)
unfolding outcome
outcome_letter Out.Silent = tt
outcome_letter Out.Done = tt
outcome_letter (Out.Requested m) = tt
outcome_letter (Out.Refused r) = tt
outcome_letter (Out.Zero s w) = tt
outcome_letter (Out.Ran h m r) = tt
outcome_letter Out.Blocked = tt
outcome_letter Out.Empty = tt
outcome_letter Out.Ready = tt
outcome_letter Out.Quiet = tt
outcome_letter Out.Failed = tt
outcome_letter (Out.Accepted m) = tt
outcome_letter (Out.Requeued m c used) = tt
outcome_letter (Out.Returned m c) = tt
outcome_letter (Out.Sent m p c q a k) = tt
outcome_letter (Out.Delivered s) = tt
outcome_letter (Out.Unknown s) = tt
outcome_letter (Out.Received channel seq attempt result) = received_letter result

after_is : (words : List Word) → BeginWithLetter words → IsRightSide (spaced (after_arrow words))
unfolding spaced
after_is [] h = inl refl
after_is ([] ∷ words) h = absurd h
after_is ((b ∷ w) ∷ words) h = inr (b, w ++ spaced words, refl)

printed_is : (x : Entry) → AreNumbersOf x.event → IsLineOf (printed x) x.event
printed_is x n =
    let after = after_arrow (outcome x.outcome) in
    record {
      numbers = n;
      right_side = spaced after;
      ended = after_is (outcome x.outcome) (outcome_letter x.outcome);
      is = ap (λ (l : List ℕ). who x.event ++ l) (spaced-append (what x.event) after) ∙ sym (append_assoc (who x.event) (spaced (what x.event)) (spaced after));
    }

pub printed_lines : PrintedLinesAreLines
unfolding line_of
printed_lines x = record { whole = refl; line = printed_is x }
