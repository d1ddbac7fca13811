-- A session that is spelled is playable.
use Rattle.std.specs.Prelude.{nat_le, not, is_some, IfSome}
use Rattle.std.proofs.Common.{◌≡◌, ℕ, ◌+◌, ◌≤◌, ◌<◌, Bool, true, false, ◌&&◌, ◌==◌, List, [], ◌∷◌, ◌++◌, length, Option, Some, None, Result, Ok, Err}
use Rattle.std.proofs.Common.{if◌then◌else◌, refl, ap, ◌∙◌, subst, arith, length-append}
use Rattle.std.specs.List.{slice_index}
use Rattle.std.proofs.lemmas.Bool.{and_parts, leb-true, leb-false}
use Rattle.am_lexer.specs.declared.what.What.{What}
use Rattle.am_lexer.specs.declared.what.What.TheVariants.{UnknownWord, Missing, NotText, Twice, TooMany, OutOfRange}
use Rattle.am_lexer.specs.Text.{lines_of, words_of, is_text_line}
use Rattle.am_lexer.specs.Fields.{◌>>=◌, or_else, word_at, number_at, within, ended}
use Rattle.am_lexer.specs.Lines.{line_after}
use Rattle.am_restart.specs.declared.events.SessionEvent.{SessionEvent}
use Rattle.am_session.specs.declared.draft.Line.{Line}
use Rattle.am_session.specs.declared.draft.Line.TheVariants as Lines
use Rattle.am_session.specs.declared.head.Head.{Head}
use Rattle.am_session.specs.declared.head.Head.TheVariants as Heads
use Rattle.am_session.specs.Grammar.{grammar, read_from, on_line, whole, after_line, after_words, with_line, placed, words_say, head_of, section_of}
use Rattle.am_session.specs.Grammar.{session_line, tries_line, event_line, sender_event, receiver_event, one_more, nothing}
use Rattle.am_session.specs.Scripts.{Script, Said, IsPlayable}

-- what is read, and what comes of it
record Comes (A B : Type 0) (read : Result A What) (f : A → Result B What) (y : B) : Type 0 where
  value : A
  is : read ≡ Ok value
  then' : f value ≡ Ok y

comes : (A B : Type 0) (read : Result A What) (f : A → Result B What) (y : B) → (read >>= f) ≡ Ok y → Comes A B read f y
comes A B (Ok x) f y e = record { value = x; is = refl; then' = e }
comes A B (Err what) f y e = absurd (cc)

-- what the lines so far have said is within its bounds
record IsBounded (said : Said) : Type 0 where
  tries : IfSome said.tries (λ n. (2 ≤ n) × (n ≤ 16))
  few : length said.steps ≤ 65536

-- what a line says is within them
abbrev Fits : Said → Line → Type 0
Fits said Lines.Session = Unit {0}
Fits said (Lines.Tries n) = (2 ≤ n) × (n ≤ 16)
Fits said (Lines.Event event) = length said.steps < 65536

in_range : (low high : ℕ) (words : List (List ℕ)) (p : ℕ × List (List ℕ)) → within low high words ≡ Ok p → (low ≤ p.0) × (p.0 ≤ high)
unfolding within
in_range low high words p e = over (comes (ℕ × List (List ℕ)) (ℕ × List (List ℕ)) (number_at words)
    (λ (number : ℕ × List (List ℕ)). if nat_le low number.0 && nat_le number.0 high then Ok number else Err OutOfRange) p e)
  where
    by_test : (number : ℕ × List (List ℕ)) (t : Bool) → (nat_le low number.0 && nat_le number.0 high) ≡ t →
        ◌≡◌ {A = Result (ℕ × List (List ℕ)) What} (if t then Ok number else Err OutOfRange) (Ok p) → (low ≤ p.0) × (p.0 ≤ high)
    by_test number true t e =
        let same : number ≡ p = cc in
        let parts : (nat_le low number.0 ≡ true) × (nat_le number.0 high ≡ true) = and_parts (nat_le low number.0) (nat_le number.0 high) t in
        subst (λ (q : ℕ × List (List ℕ)). (low ≤ q.0) × (q.0 ≤ high)) same (leb-true low number.0 parts.0, leb-true number.0 high parts.1)
    by_test number false t e = absurd (cc)

    over : Comes (ℕ × List (List ℕ)) (ℕ × List (List ℕ)) (number_at words) (λ (number : ℕ × List (List ℕ)). if nat_le low number.0 && nat_le number.0 high then
        Ok number else Err OutOfRange) p → (low ≤ p.0) × (p.0 ≤ high)
    over c = by_test c.value (nat_le low c.value.0 && nat_le c.value.0 high) refl c.then'

one_more_fits : (said : Said) (event : SessionEvent) (line : Line) → one_more said event ≡ Ok line → Fits said line
unfolding one_more
one_more_fits said event line e = by_test (nat_le 65536 (length said.steps)) refl e
  where
    by_test : (t : Bool) → nat_le 65536 (length said.steps) ≡ t → ◌≡◌ {A = Result Line What} (if t then Err TooMany else Ok (Lines.Event event)) (Ok line) →
        Fits said line
    by_test true t e = absurd (cc)
    by_test false t e =
        let same : Lines.Event event ≡ line = cc in
        let lt : length said.steps < 65536 = leb-false 65536 (length said.steps) t in
        subst (Fits said) same lt

abbrev after_version : Said → (ℕ × List (List ℕ)) → Result Line What
after_version said version = ended version.1 >>= (λ _. if not (said.section == 0) then Err Twice else Ok Lines.Session)

session_fits : (said : Said) (words : List (List ℕ)) (line : Line) → session_line said words ≡ Ok line → Fits said line
unfolding session_line
session_fits said words line e =
    let c : Comes (ℕ × List (List ℕ)) Line (within 1 1 words) (after_version said) line =
    comes (ℕ × List (List ℕ)) Line (within 1 1 words) (after_version said) line e in
    let more : Comes (List (List ℕ)) Line (ended c.value.1) (λ _. if not (said.section == 0) then Err Twice else Ok Lines.Session) line =
    comes (List (List ℕ)) Line (ended c.value.1) (λ _. if not (said.section == 0) then Err Twice else Ok Lines.Session) line c.then' in
    by_test (not (said.section == 0)) more.then'
  where
    by_test : (t : Bool) → ◌≡◌ {A = Result Line What} (if t then Err Twice else Ok Lines.Session) (Ok line) → Fits said line
    by_test true e = absurd (cc)
    by_test false e = let same : Lines.Session ≡ line = cc in subst (Fits said) same tt

abbrev after_tries : Said → (ℕ × List (List ℕ)) → Result Line What
after_tries said tries = ended tries.1 >>= (λ _. if is_some said.tries then Err Twice else Ok (Lines.Tries tries.0))

tries_fits : (said : Said) (words : List (List ℕ)) (line : Line) → tries_line said words ≡ Ok line → Fits said line
unfolding tries_line
tries_fits said words line e =
    let c : Comes (ℕ × List (List ℕ)) Line (within 2 16 words) (after_tries said) line =
    comes (ℕ × List (List ℕ)) Line (within 2 16 words) (after_tries said) line e in
    let more : Comes (List (List ℕ)) Line (ended c.value.1) (λ _. if is_some said.tries then Err Twice else Ok (Lines.Tries c.value.0)) line =
    comes (List (List ℕ)) Line (ended c.value.1) (λ _. if is_some said.tries then Err Twice else Ok (Lines.Tries c.value.0)) line c.then' in
    by_test c.value.0 (is_some said.tries) (in_range 2 16 words c.value c.is) more.then'
  where
    by_test : (n : ℕ) (t : Bool) → (2 ≤ n) × (n ≤ 16) → ◌≡◌ {A = Result Line What} (if t then Err Twice else Ok (Lines.Tries n)) (Ok line) → Fits said line
    by_test n true h e = absurd (cc)
    by_test n false h e = let same : Lines.Tries n ≡ line = cc in subst (Fits said) same h

event_fits : (event_of : List ℕ → List (List ℕ) → Result SessionEvent What) (said : Said) (words : List (List ℕ)) (line : Line) →
    event_line event_of said words ≡ Ok line → Fits said line
unfolding event_line
event_fits event_of said words line e =
    let c : Comes (List ℕ × List (List ℕ)) Line (word_at words) (λ word. event_of word.0 word.1 >>= (λ event. one_more said event)) line =
    comes (List ℕ × List (List ℕ)) Line (word_at words) (λ word. event_of word.0 word.1 >>= (λ event. one_more said event)) line e in
    let d : Comes SessionEvent Line (event_of c.value.0 c.value.1) (λ event. one_more said event) line =
    comes SessionEvent Line (event_of c.value.0 c.value.1) (λ event. one_more said event) line c.then' in
    one_more_fits said d.value line d.then'

words_fit : (said : Said) (head : Head) (words : List (List ℕ)) (line : Line) → words_say said head words ≡ Ok line → Fits said line
unfolding words_say
words_fit said Heads.Session words line e = session_fits said words line e
words_fit said Heads.Tries words line e = tries_fits said words line e
words_fit said Heads.Sender words line e = event_fits sender_event said words line e
words_fit said Heads.Receiver words line e = event_fits receiver_event said words line e

-- a line that fits leaves what is said within its bounds
with_within : (number section : ℕ) (said : Said) (line : Line) → IsBounded said → Fits said line → IsBounded (with_line number section said line)
with_within number section said Lines.Session is h = record { tries = is.tries; few = is.few }
with_within number section said (Lines.Tries n) is h = record { tries = h; few = is.few }
with_within number section said (Lines.Event event) is h =
    let more : length (said.steps ++ record { line = number; event = event } ∷ []) ≡ length said.steps + 1 =
    length-append said.steps (record { line = number; event = event } ∷ []) in
    record { tries = is.tries; few = omega (arith, more, h) }

words_within : (number : ℕ) (said next : Said) (words : List (List ℕ)) → IsBounded said → after_words number said words ≡ Ok next → IsBounded next
unfolding after_words
words_within number said next [] is e = let same : said ≡ next = cc in subst IsBounded same is
words_within number said next (first ∷ words) is e = by_test (slice_index first 0 == 35) e
  where
    by_test : (t : Bool) → ◌≡◌ {A = Result Said What} (if t then Ok said else (or_else UnknownWord (head_of first) >>=
        (λ named. placed said named >>= (λ head. words_say said head words >>= (λ line. Ok (with_line number (section_of head) said line)))))) (Ok next) →
        IsBounded next
    by_test true e = let same : said ≡ next = cc in subst IsBounded same is
    by_test false e =
        let c : Comes Head Said (or_else UnknownWord (head_of first)) (λ named. placed said named >>=
        (λ head. words_say said head words >>= (λ line. Ok (with_line number (section_of head) said line)))) next =
        comes Head Said (or_else UnknownWord (head_of first)) (λ named. placed said named >>=
        (λ head. words_say said head words >>= (λ line. Ok (with_line number (section_of head) said line)))) next e in
        let d : Comes Head Said (placed said c.value) (λ head. words_say said head words >>= (λ line. Ok (with_line number (section_of head) said line))) next =
        comes Head Said (placed said c.value) (λ head. words_say said head words >>=
        (λ line. Ok (with_line number (section_of head) said line))) next c.then' in
        let g : Comes Line Said (words_say said d.value words) (λ line. Ok (with_line number (section_of d.value) said line)) next =
        comes Line Said (words_say said d.value words) (λ line. Ok (with_line number (section_of d.value) said line)) next d.then' in
        let same : with_line number (section_of d.value) said g.value ≡ next =
        let ok : ◌≡◌ {A = Result Said What} (Ok (with_line number (section_of d.value) said g.value)) (Ok next) = g.then' in cc in
        subst IsBounded same (with_within number (section_of d.value) said g.value is (words_fit said d.value words g.value g.is))

line_within : (number : ℕ) (said next : Said) (line : List ℕ) → IsBounded said → after_line number said line ≡ Ok next → IsBounded next
unfolding after_line
line_within number said next line is e = by_test (is_text_line line) e
  where
    by_test : (t : Bool) → ◌≡◌ {A = Result Said What} (if t then after_words number said (words_of line) else Err NotText) (Ok next) → IsBounded next
    by_test true e = words_within number said next (words_of line) is e
    by_test false e = absurd (cc)

whole_playable : (said : Said) (script : Script) → IsBounded said → whole said ≡ Ok script → IsPlayable script
unfolding whole
whole_playable said script is e = by_tries said.tries is.tries e
  where
    by_tries : (tries : Option ℕ) → IfSome tries (λ n. (2 ≤ n) × (n ≤ 16)) →
        (or_else Missing tries >>= (λ (n : ℕ). Ok (record { tries = n; steps = said.steps }))) ≡ Ok script → IsPlayable script
    by_tries None h e = absurd (cc)
    by_tries (Some n) h e =
        let same : record { tries = n; steps = said.steps } ≡ script =
        let ok : ◌≡◌ {A = Result Script What} (Ok (record { tries = n; steps = said.steps })) (Ok script) = e in cc in
        subst IsPlayable same (record { at_least = h.0; at_most = h.1; few = is.few })

spells_from : (number : ℕ) (said : Said) (lines : List (List ℕ)) (script : Script) → IsBounded said → read_from number said lines ≡ Ok script →
    IsPlayable script
unfolding read_from
spells_from number said [] script is e = by_read (whole said) refl e
  where
    by_read : (read : Result Script What) → whole said ≡ read → on_line number read (λ found. Ok found) ≡ Ok script → IsPlayable script
    by_read (Ok found) at e = let same : found ≡ script = cc in whole_playable said script is (at ∙ ap Ok same)
    by_read (Err what) at e = absurd (cc)
spells_from number said (line ∷ lines) script is e = by_read (after_line number said line) refl e
    (λ next within' h. spells_from (line_after number) next lines script within' h)
  where
    by_read : (read : Result Said What) → after_line number said line ≡ read →
        on_line number read (λ next. read_from (line_after number) next lines) ≡ Ok script →
        ((next : Said) → IsBounded next → read_from (line_after number) next lines ≡ Ok script → IsPlayable script) → IsPlayable script
    by_read (Ok next) at e more = more next (line_within number said next line is at) e
    by_read (Err what) at e more = absurd (cc)

pub spells_playable : (bytes : List ℕ) (script : Script) → grammar bytes ≡ Ok script → IsPlayable script
spells_playable bytes script e = spells_from 1 nothing (lines_of bytes) script (record { tries = tt; few = omega arith }) e
