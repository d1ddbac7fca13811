-- The session that a text spells, or its first fault.
use Rattle.std.specs.Prelude.{ℕ, ◌+◌, ◌-◌, ◌^◌, min, not, ◌&&◌, ◌==◌, nat_lt, nat_le, is_some, is_none, List, [], ◌∷◌, ◌++◌, length, codes, if◌then◌else◌}
use Rattle.std.specs.Prelude.{Option, Some, None, Result, Ok, Err}
use Rattle.std.specs.List.{slice_index}
use Rattle.std.specs.Str.{bytes_eq}
use Rattle.am_lexer.specs.declared.what.What.{What}
use Rattle.am_lexer.specs.declared.what.What.TheVariants.{UnknownWord, Missing, NotText, OutOfPlace, Twice, TooMany}
use Rattle.am_lexer.specs.Text.{lines_of, words_of, is_text_line}
use Rattle.am_lexer.specs.Fields.{◌>>=◌, or_else, word_at, within, ended}
use Rattle.am_lexer.specs.Lines.{line_after}
use Rattle.am_restart.specs.declared.events.Say.{Say}
use Rattle.am_restart.specs.declared.events.Say.TheVariants as Says
use Rattle.am_restart.specs.declared.events.SessionEvent.{SessionEvent}
use Rattle.am_restart.specs.declared.events.SessionEvent.TheVariants as Events
use Rattle.am_session.specs.declared.draft.Line.{Line}
use Rattle.am_session.specs.declared.draft.Line.TheVariants as Lines
use Rattle.am_session.specs.declared.head.Head.{Head}
use Rattle.am_session.specs.declared.head.Head.TheVariants as Heads
use Rattle.am_session.specs.declared.script.SessionTextFault.{SessionTextFault}
use Rattle.am_session.specs.Scripts.{Script, Said}

abbrev pub nothing : Said
nothing = record { section = 0; tries = None; steps = [] }

-- what the first word of a line stands for
unfoldable pub head_of : List ℕ → Option Head
head_of word =
    if bytes_eq word (codes "am2session") then Some Heads.Session else
    if bytes_eq word (codes "tries") then Some Heads.Tries else
    if bytes_eq word (codes "a") then Some Heads.Sender else
    if bytes_eq word (codes "b") then Some Heads.Receiver else None

-- the section in which a line stands
abbrev pub section_of : Head → ℕ
section_of Heads.Session = 1
section_of Heads.Tries = 2
section_of Heads.Sender = 3
section_of Heads.Receiver = 3

-- ---- the words of each line

-- am2session 1
unfoldable pub session_line : Said → List (List ℕ) → Result Line What
session_line said words = do
  version ← within 1 1 words
  _ ← ended version.1
  if not (said.section == 0) then Err Twice else Ok Lines.Session

-- tries T
unfoldable pub tries_line : Said → List (List ℕ) → Result Line What
tries_line said words = do
  tries ← within 2 16 words
  _ ← ended tries.1
  if is_some said.tries then Err Twice else Ok (Lines.Tries tries.0)

unfoldable pub alone : SessionEvent → List (List ℕ) → Result SessionEvent What
alone event words = do
  _ ← ended words
  Ok event

-- receive K, of the sender's
unfoldable pub sender_receives : List (List ℕ) → Result SessionEvent What
sender_receives words = do
  number ← within 1 4294967295 words
  _ ← ended number.1
  Ok (Events.SenderReceive number.0)

unfoldable pub sender_event : List ℕ → List (List ℕ) → Result SessionEvent What
sender_event word words =
    if bytes_eq word (codes "offer") then alone Events.Offer words else
    if bytes_eq word (codes "hello") then alone Events.Hello words else
    if bytes_eq word (codes "bind") then alone Events.Bind words else
    if bytes_eq word (codes "expire") then alone Events.Expire words else
    if bytes_eq word (codes "receive") then sender_receives words else
    if bytes_eq word (codes "restart") then alone Events.SenderRestart words else Err UnknownWord

unfoldable pub say_of : List ℕ → Result Say What
say_of word =
    if bytes_eq word (codes "accept") then Ok Says.Accept else
    if bytes_eq word (codes "full") then Ok Says.Full else
    if bytes_eq word (codes "bad") then Ok Says.Bad else Err UnknownWord

-- receive K V, of the receiver's
unfoldable pub receiver_receives : List (List ℕ) → Result SessionEvent What
receiver_receives words = do
  number ← within 1 4294967295 words
  word ← word_at number.1
  say ← say_of word.0
  _ ← ended word.1
  Ok (Events.ReceiverReceive number.0 say)

unfoldable pub receiver_event : List ℕ → List (List ℕ) → Result SessionEvent What
receiver_event word words =
    if bytes_eq word (codes "receive") then receiver_receives words else
    if bytes_eq word (codes "restart") then alone Events.ReceiverRestart words else Err UnknownWord

-- at most 65,536 events
unfoldable pub one_more : Said → SessionEvent → Result Line What
one_more said event = if nat_le 65536 (length said.steps) then Err TooMany else Ok (Lines.Event event)

-- a EVENT, or b EVENT, by what an event of this side is read from
unfoldable pub event_line : (List ℕ → List (List ℕ) → Result SessionEvent What) → Said → List (List ℕ) → Result Line What
event_line event_of said words = do
  word ← word_at words
  event ← event_of word.0 word.1
  one_more said event

unfoldable pub words_say : Said → Head → List (List ℕ) → Result Line What
words_say said Heads.Session words = session_line said words
words_say said Heads.Tries words = tries_line said words
words_say said Heads.Sender words = event_line sender_event said words
words_say said Heads.Receiver words = event_line receiver_event said words

-- ---- one line

-- the refusals of a line whose first word is known, before its other words are read
unfoldable pub placed : Said → Head → Result Head What
placed said head =
    if said.section == 0 && not (section_of head == 1) then Err Missing else
    if nat_lt (section_of head) said.section then Err OutOfPlace else
    if section_of head == 3 && is_none said.tries then Err Missing else Ok head

-- what a line of this section adds, by its number
abbrev pub with_line : ℕ → ℕ → Said → Line → Said
with_line number section said Lines.Session = record said { section = section }
with_line number section said (Lines.Tries tries) = record { section = section; tries = Some tries; steps = said.steps }
with_line number section said (Lines.Event event) = record { section = section; tries = said.tries; steps = said.steps ++ record { line = number; event = event } ∷ [] }

-- what is said after a line of words; a line without words, and one whose first word begins with #, says nothing
unfoldable pub after_words : ℕ → Said → List (List ℕ) → Result Said What
after_words number said [] = Ok said
after_words number said (first ∷ words) =
    if slice_index first 0 == 35 then Ok said else (do
      named ← or_else UnknownWord (head_of first)
      head ← placed said named
      line ← words_say said head words
      Ok (with_line number (section_of head) said line))

-- what is said after a line
unfoldable pub after_line : ℕ → Said → List ℕ → Result Said What
after_line number said line = if is_text_line line then after_words number said (words_of line) else Err NotText

-- ---- all lines

-- what all lines together have said: the tries stand behind the first line, so both stood where they did
unfoldable pub whole : Said → Result Script What
whole said = do
  tries ← or_else Missing said.tries
  Ok (record { tries = tries; steps = said.steps })

-- what comes of a line, by its number
abbrev pub on_line : {A B : Type 0} → ℕ → Result A What → (A → Result B SessionTextFault) → Result B SessionTextFault
on_line number (Ok x) f = f x
on_line number (Err what) f = Err (record { line = number; what = what })

-- the lines from this number on
unfoldable pub read_from : ℕ → Said → List (List ℕ) → Result Script SessionTextFault
read_from number said [] = on_line number (whole said) (λ script. Ok script)
read_from number said (line ∷ lines) = on_line number (after_line number said line) (λ next. read_from (line_after number) next lines)

-- The session that the bytes spell, or the line and cause of their first fault.
abbrev pub grammar : List ℕ → Result Script SessionTextFault
grammar bytes = read_from 1 nothing (lines_of bytes)
