-- The words of an event and of an outcome, cut out of printed lines.
use Rattle.std.proofs.Common.{◌≡◌, ◌≢◌, ℕ, ◌+◌, ◌-◌, ◌<◌, List, [], ◌∷◌, ◌++◌, codes, length, take, drop, refl, sym, ap, ◌∙◌, arith, append_assoc, subst, Result, OnOk}
use Rattle.std.proofs.Common.{length-append}
use Rattle.std.proofs.Math.Seq.{drop-append_seam, take-append_seam}
use Rattle.std.proofs.lemmas.List.{append-nil}
use Rattle.am_check_lines.proofs.Cuts.{spaced-append}
use Rattle.am_names.specs.declared.EndpointId.{EndpointId}
use Rattle.am_office_entries.specs.declared.Call.{Call}
use Rattle.am_office_entries.specs.declared.Call.TheVariants as Calls
use Rattle.am_office_entries.specs.declared.Entry.{Entry}
use Rattle.am_office_entries.specs.declared.Event.{Event}
use Rattle.am_office_entries.specs.declared.Event.TheVariants as Events
use Rattle.am_office_entries.specs.declared.Outcome.TheVariants as Out
use Rattle.am_office_text.specs.EntryLines.Lines.{after_arrow, call, line_of, outcome, what, who}
use Rattle.am_office_text.specs.Words.{Word, line, spaced}
use Rattle.am_lab_page.specs.Json.Objects.{left_line, quoted, spread, text_value}

-- the middle of three texts
middle : (xs a b c : List ℕ) (from size : ℕ) → xs ≡ a ++ (b ++ c) → from ≡ length a → size ≡ length b → take size (drop from xs) ≡ b
middle xs a b c from size e f s = rw (e, f, s, drop-append_seam a (b ++ c)) (take-append_seam b c)

-- a word, and behind it words
record Begins (words : List Word) : Type 0 where
  first : Word
  more : List Word
  is : words ≡ first ∷ more

begins_call : (e : EndpointId) (c : Call) → Begins (call e c)
unfolding call
begins_call e (Calls.Request i h w) = record { first = _; more = _; is = refl }
begins_call e Calls.Poll = record { first = _; more = _; is = refl }
begins_call e (Calls.SetTag t) = record { first = _; more = _; is = refl }
begins_call e (Calls.Map i name t c) = record { first = _; more = _; is = refl }
begins_call e (Calls.Unmap i) = record { first = _; more = _; is = refl }
begins_call e (Calls.SetHandler i k) = record { first = _; more = _; is = refl }
begins_call e (Calls.GiveUp s) = record { first = _; more = _; is = refl }
begins_call e Calls.Close = record { first = _; more = _; is = refl }
begins_call e (Calls.Test m) = record { first = _; more = _; is = refl }

-- an event has words
begins : (e : Event) → Begins (what e)
unfolding what
begins (Events.Call by e c) = begins_call e c
begins (Events.Want by e) = record { first = _; more = _; is = refl }
begins (Events.Carry e) = record { first = _; more = _; is = refl }
begins (Events.Bind n e) = record { first = _; more = _; is = refl }
begins (Events.Expire n p c) = record { first = _; more = _; is = refl }
begins (Events.Receive n p k) = record { first = _; more = _; is = refl }
begins (Events.Drain n e) = record { first = _; more = _; is = refl }
begins (Events.Unload n e) = record { first = _; more = _; is = refl }
begins (Events.Load n e f) = record { first = _; more = _; is = refl }
begins (Events.PageOut n e) = record { first = _; more = _; is = refl }
begins (Events.PageIn n e) = record { first = _; more = _; is = refl }

spread_behind : (word : Word) (words : List Word) → spaced (word ∷ words) ≡ codes " " ++ spread (word ∷ words)
unfolding spaced
spread_behind word words = refl

spread_of : (words : List Word) → Begins words → spaced words ≡ codes " " ++ spread words
spread_of words b = subst (λ (ws : List Word). spaced ws ≡ codes " " ++ spread ws) (sym b.is) (spread_behind b.first b.more)

four : (a b c d : List ℕ) → (a ++ (b ++ c)) ++ d ≡ (a ++ b) ++ (c ++ d)
four a b c d = simp append_assoc

-- a line whose words are known to begin
line_parts : (who : Word) (words : List Word) → Begins words → line who words ≡ (who ++ codes " ") ++ (spread words ++ codes "\n")
line_parts who words b = ap (λ (l : List ℕ). (who ++ l) ++ codes "\n") (spread_of words b) ∙ four who (codes " ") (spread words) (codes "\n")

-- ---- a line without an outcome

left_is : (stamp : ℕ) (e : Event) → line_of (record { stamp = stamp; event = e; outcome = Out.Silent }) ≡ left_line e
unfolding line_of outcome
left_is stamp e = ap (λ (ws : List Word). line (who e) ws) (append-nil (what e))

pub left_put : {T E : Type 0} (result : Result T E) (old new : List ℕ) (e : Event) →
    OnOk result (new ≡ old ++ line_of (record { stamp = 0; event = e; outcome = Out.Silent })) → OnOk result (new ≡ old ++ left_line e)
left_put result old new e h = subst (λ (l : List ℕ). OnOk result (new ≡ old ++ l)) (left_is 0 e) h

-- ---- an event

pub event_cut : (e : Event) (left : List ℕ) (end : ℕ) → left ≡ left_line e → end ≡ length (who e) →
    take (length left - 1 - (end + 1)) (drop (end + 1) left) ≡ spread (what e)
event_cut e left end is at =
    let by : Word = who e in
    let parts = is ∙ line_parts by (what e) (begins e) in
    let long : length left ≡ length (by ++ codes " ") + length (spread (what e) ++ codes "\n") = ap length parts
    ∙ length-append (by ++ codes " ") (spread (what e) ++ codes "\n") in
    let front : length (by ++ codes " ") ≡ length by + 1 = length-append by (codes " ") in
    let back : length (spread (what e) ++ codes "\n") ≡ length (spread (what e)) + 1 = length-append (spread (what e)) (codes "\n") in
    middle left (by ++ codes " ") (spread (what e)) (codes "\n") (end + 1) (length left - 1 - (end + 1)) parts (omega (arith, front, at))
    (omega (arith, long, front, back, at))

pub event_room : (e : Event) (left : List ℕ) (end : ℕ) → left ≡ left_line e → end ≡ length (who e) → end + 1 < length left
event_room e left end is at =
    let by : Word = who e in
    let parts = is ∙ line_parts by (what e) (begins e) in
    let long : length left ≡ length (by ++ codes " ") + length (spread (what e) ++ codes "\n") = ap length parts
    ∙ length-append (by ++ codes " ") (spread (what e) ++ codes "\n") in
    let front : length (by ++ codes " ") ≡ length by + 1 = length-append by (codes " ") in
    let back : length (spread (what e) ++ codes "\n") ≡ length (spread (what e)) + 1 = length-append (spread (what e)) (codes "\n") in
    omega (arith, long, front, back, at)

-- ---- an outcome

arrow : (word : Word) (words : List Word) → spaced (codes "->" ∷ word ∷ words) ≡ codes " -> " ++ spread (word ∷ words)
unfolding spaced
arrow word words = refl

-- the line of an entry with an outcome
outcome_parts : (who : Word) (a : List Word) (word : Word) (words : List Word) →
    line who (a ++ after_arrow (word ∷ words)) ≡ ((who ++ spaced a) ++ codes " -> ") ++ (spread (word ∷ words) ++ codes "\n")
outcome_parts who a word words =
    ap (λ (l : List ℕ). (who ++ l) ++ codes "\n") (spaced-append a (codes "->" ∷ word ∷ words)
    ∙ ap (λ (l : List ℕ). spaced a ++ l) (arrow word words))
    ∙ five who (spaced a) (codes " -> ") (spread (word ∷ words)) (codes "\n")
  where
    five : (a b c d e : List ℕ) → (a ++ (b ++ (c ++ d))) ++ e ≡ ((a ++ b) ++ c) ++ (d ++ e)
    five a b c d e = simp append_assoc

-- how long it is
record IsLong (end : ℕ) (whole front words : List ℕ) : Type 0 where
  parts : whole ≡ front ++ (words ++ codes "\n")
  begin : end + 3 ≡ length front
  long : length whole ≡ end + 3 + length words + 1

long_by : (who : Word) (a : List Word) (word : Word) (words : List Word) (end : ℕ) (whole : List ℕ) → end ≡ length (line who a) →
    whole ≡ line who (a ++ after_arrow (word ∷ words)) → IsLong end whole ((who ++ spaced a) ++ codes " -> ") (spread (word ∷ words))
long_by who a word words end whole at is =
    let parts = is ∙ outcome_parts who a word words in
    let left : length (line who a) ≡ length (who ++ spaced a) + 1 = length-append (who ++ spaced a) (codes "\n") in
    let front : length ((who ++ spaced a) ++ codes " -> ") ≡ length (who ++ spaced a) + 4 = length-append (who ++ spaced a) (codes " -> ") in
    let back : length (spread (word ∷ words) ++ codes "\n") ≡ length (spread (word ∷ words)) + 1 = length-append (spread (word ∷ words)) (codes "\n") in
    let all : length whole ≡ length ((who ++ spaced a) ++ codes " -> ") + length (spread (word ∷ words) ++ codes "\n") = ap length parts
    ∙ length-append ((who ++ spaced a) ++ codes " -> ") (spread (word ∷ words) ++ codes "\n") in
    record { parts = parts; begin = omega (arith, at, left, front); long = omega (arith, all, at, left, front, back) }

-- that of an entry with none
same_line : (who : Word) (a : List Word) (end : ℕ) (whole : List ℕ) → end ≡ length (line who a) → whole ≡ line who (a ++ after_arrow []) → length whole ≡ end
same_line who a end whole at is = ap length (is ∙ ap (λ (ws : List Word). line who ws) (append-nil a)) ∙ sym at

no_words : (who : Word) (a o : List Word) (end : ℕ) (whole : List ℕ) → end ≡ length (line who a) → whole ≡ line who (a ++ after_arrow o) →
    length whole ≡ end → text_value o ≡ codes "null"
no_words who a [] end whole at is same = refl
no_words who a (word ∷ words) end whole at is same = let l = (long_by who a word words end whole at is).long in absurd (omega (arith, l, same))

words_room : (who : Word) (a o : List Word) (end : ℕ) (whole : List ℕ) → end ≡ length (line who a) → whole ≡ line who (a ++ after_arrow o) →
    length whole ≢ end → end + 3 < length whole
words_room who a [] end whole at is other = absurd (other (same_line who a end whole at is))
words_room who a (word ∷ words) end whole at is other = let l = (long_by who a word words end whole at is).long in omega (arith, l)

words_cut : (who : Word) (a o : List Word) (end : ℕ) (whole : List ℕ) → end ≡ length (line who a) → whole ≡ line who (a ++ after_arrow o) →
    length whole ≢ end → quoted (take (length whole - 1 - (end + 3)) (drop (end + 3) whole)) ≡ text_value o
words_cut who a [] end whole at is other = absurd (other (same_line who a end whole at is))
words_cut who a (word ∷ words) end whole at is other =
    let l = long_by who a word words end whole at is in
    let long = l.long in
    ap quoted (middle whole ((who ++ spaced a) ++ codes " -> ") (spread (word ∷ words)) (codes "\n") (end + 3) (length whole - 1 - (end + 3)) l.parts l.begin
    (omega (arith, long)))

-- ---- that of an entry

line_is : (x : Entry) (whole : List ℕ) → whole ≡ line_of x → whole ≡ line (who x.event) (what x.event ++ after_arrow (outcome x.outcome))
unfolding line_of
line_is x whole is = is

pub no_outcome : (x : Entry) (whole : List ℕ) (end : ℕ) → whole ≡ line_of x → end ≡ length (left_line x.event) → length whole ≡ end →
    text_value (outcome x.outcome) ≡ codes "null"
no_outcome x whole end is at same = no_words (who x.event) (what x.event) (outcome x.outcome) end whole at (line_is x whole is) same

pub outcome_room : (x : Entry) (whole : List ℕ) (end : ℕ) → whole ≡ line_of x → end ≡ length (left_line x.event) → length whole ≢ end → end + 3 < length whole
outcome_room x whole end is at other = words_room (who x.event) (what x.event) (outcome x.outcome) end whole at (line_is x whole is) other

pub outcome_cut : (x : Entry) (whole : List ℕ) (end : ℕ) → whole ≡ line_of x → end ≡ length (left_line x.event) → length whole ≢ end →
    quoted (take (length whole - 1 - (end + 3)) (drop (end + 3) whole)) ≡ text_value (outcome x.outcome)
outcome_cut x whole end is at other = words_cut (who x.event) (what x.event) (outcome x.outcome) end whole at (line_is x whole is) other
