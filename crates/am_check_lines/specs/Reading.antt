-- Reading a line of a printed journal, word by word from the left. Words are the parts between single spaces, so one may be
-- empty. What is read is what would be printed: numbers have no leading zeros.
use Rattle.std.specs.Prelude.{◌≡◌, ℕ, ◌+◌, Bool, true, false, not, ◌==◌, ◌&&◌, ◌||◌, nat_le, Option, Some, None, List, [], ◌∷◌, take, drop, codes}
use Rattle.std.specs.Prelude.{if◌then◌else◌}
use Rattle.std.specs.List.{slice_split, position}
use Rattle.std.specs.Str.{bytes_eq}
use Rattle.am_lemmas.specs.Options.{◌>>=◌}
use Rattle.am_lexer.specs.Text.{number_of}
use Rattle.am_names.specs.declared.EndpointId.{EndpointId}
use Rattle.am_names.specs.declared.NodeId.{NodeId}
use Rattle.am_names.specs.declared.Tag.{Tag}
use Rattle.am_names.specs.declared.Serial.{Serial}
use Rattle.am_names.specs.declared.Words.{Words}
use Rattle.am_office_entries.specs.declared.Actor.{Actor}
use Rattle.am_office_entries.specs.declared.Actor.TheVariants as Actors
use Rattle.am_office_entries.specs.declared.HandlerKind.{HandlerKind}
use Rattle.am_office_entries.specs.declared.HandlerKind.TheVariants as Kinds
use Rattle.am_office_entries.specs.declared.Mask.{Mask}
use Rattle.am_office_entries.specs.declared.Mask.TheVariants as Masks
use Rattle.am_office_entries.specs.declared.Call.{Call}
use Rattle.am_office_entries.specs.declared.Call.TheVariants as Calls
use Rattle.am_office_entries.specs.declared.Event.{Event}
use Rattle.am_office_entries.specs.declared.Event.TheVariants as Events
use Rattle.am_office_text.specs.Words.{Word}
use Rattle.am_check_lines.specs.declared.words.Head.{Head}
use Rattle.am_check_lines.specs.declared.words.Head.TheVariants as Heads

-- what a reader of the code returned, seen by view, is what reading gives
abbrev pub Gives : {X Y : Type 0} → (X → Y) → Option X → Option Y → Type 0
Gives view (Some x) read = read ≡ Some (view x)
Gives view None read = read ≡ None

-- what is read, and the words behind it
abbrev pub Read : Type 0 → Type 0
Read X = Option (X × List Word)

-- the words of a text, between single spaces
unfoldable pub words_in : List ℕ → List Word
words_in text = slice_split (λ byte. byte == 32) text

-- the words of what is left of a line behind a word: nothing, or a space and a text
unfoldable pub words_behind : List ℕ → List Word
words_behind [] = []
words_behind (space ∷ text) = words_in text

unfoldable pub word_at : List Word → Read Word
word_at [] = None
word_at (word ∷ words) = Some (word, words)

-- whether a word is no longer than it must be to spell a number
abbrev pub has_no_leading_zero : Word → Bool
has_no_leading_zero [] = true
has_no_leading_zero (digit ∷ []) = true
has_no_leading_zero (digit ∷ next ∷ digits) = not (digit == 48)

-- the number that is printed as this word
unfoldable pub printed_number : Word → Option ℕ
printed_number word = if has_no_leading_zero word then number_of word else None

-- that number, where it is not above a limit
unfoldable pub number_up_to : ℕ → Word → Option ℕ
number_up_to limit word = do
  number ← printed_number word
  if nat_le number limit then Some number else None

unfoldable pub number_at : ℕ → List Word → Read ℕ
number_at limit words = do
  word ← word_at words
  number ← number_up_to limit word.0
  Some (number, word.1)

unfoldable pub byte_at : List Word → Read ℕ
byte_at words = number_at 255 words

unfoldable pub count_at : List Word → Read ℕ
count_at words = number_at 0xffff_ffff words

unfoldable pub long_at : List Word → Read ℕ
long_at words = number_at 0xffff_ffff_ffff_ffff words

unfoldable pub end_at : List Word → Read EndpointId
end_at words = do
  number ← byte_at words
  Some (record { 0 = number.0 }, number.1)

unfoldable pub node_at : List Word → Read NodeId
node_at words = do
  number ← byte_at words
  Some (record { 0 = number.0 }, number.1)

-- `none`, `all`, or a number that neither of them stands for
unfoldable pub tag_of : Word → Option Tag
tag_of word =
    if bytes_eq word (codes "none") then Some (record { 0 = 0 }) else
    if bytes_eq word (codes "all") then Some (record { 0 = 0xffff_ffff_ffff_ffff }) else (do
      number ← printed_number word
      if number == 0 || number == 0xffff_ffff_ffff_ffff then None else Some (record { 0 = number }))

unfoldable pub tag_at : List Word → Read Tag
tag_at words = do
  word ← word_at words
  tag ← tag_of word.0
  Some (tag, word.1)

-- a source, a dot and a count
unfoldable pub serial_of : Word → Option Serial
serial_of word = do
  dot ← position (λ byte. byte == 46) word
  source ← number_up_to 255 (take dot word)
  count ← number_up_to 0xffff_ffff (drop (dot + 1) word)
  Some (record { source = record { 0 = source }; count = count })

unfoldable pub serial_at : List Word → Read Serial
serial_at words = do
  word ← word_at words
  serial ← serial_of word.0
  Some (serial, word.1)

-- who acts: anyone outside, a thread, an interface or a driver
unfoldable pub lettered : ℕ → List ℕ → Option Head
lettered letter digits = do
  number ← number_up_to 255 digits
  if letter == 116 then Some (Heads.OfThread number) else
      if letter == 105 then Some (Heads.OfInterface (record { 0 = number })) else
      if letter == 100 then Some (Heads.OfDriver (record { 0 = number })) else None

unfoldable pub head_of : Word → Option Head
head_of [] = None
head_of (letter ∷ digits) = if bytes_eq (letter ∷ digits) (codes "x") then Some Heads.Outside else lettered letter digits

-- A B C D
unfoldable pub four_at : List Word → Read Words
four_at words = do
  a ← long_at words
  b ← long_at a.1
  c ← long_at b.1
  d ← long_at c.1
  Some (record { a = a.0; b = b.0; c = c.0; d = d.0 }, d.1)

-- request E I H A B C D
unfoldable pub request_at : List Word → Read (EndpointId × Call)
request_at words = do
  end ← end_at words
  index ← byte_at end.1
  handler ← byte_at index.1
  a ← long_at handler.1
  b ← long_at a.1
  c ← long_at b.1
  d ← long_at c.1
  Some ((end.0, Calls.Request index.0 handler.0 (record { a = a.0; b = b.0; c = c.0; d = d.0 })), d.1)

-- poll E
unfoldable pub poll_at : List Word → Read (EndpointId × Call)
poll_at words = do
  end ← end_at words
  Some ((end.0, Calls.Poll), end.1)

-- tag E TAG
unfoldable pub set_tag_at : List Word → Read (EndpointId × Call)
set_tag_at words = do
  end ← end_at words
  tag ← tag_at end.1
  Some ((end.0, Calls.SetTag tag.0), tag.1)

-- map E I NAME TAG C
unfoldable pub map_at : List Word → Read (EndpointId × Call)
map_at words = do
  end ← end_at words
  index ← byte_at end.1
  name ← end_at index.1
  tag ← tag_at name.1
  credits ← byte_at tag.1
  Some ((end.0, Calls.Map index.0 name.0 tag.0 credits.0), credits.1)

-- unmap E I
unfoldable pub unmap_at : List Word → Read (EndpointId × Call)
unmap_at words = do
  end ← end_at words
  index ← byte_at end.1
  Some ((end.0, Calls.Unmap index.0), index.1)

-- echo R
unfoldable pub echo_at : List Word → Read HandlerKind
echo_at words = do
  reply ← byte_at words
  Some (Kinds.Echo reply.0, reply.1)

-- add R
unfoldable pub add_at : List Word → Read HandlerKind
add_at words = do
  reply ← byte_at words
  Some (Kinds.Add reply.0, reply.1)

unfoldable pub kind_at : List Word → Read HandlerKind
kind_at words = do
  word ← word_at words
  if bytes_eq word.0 (codes "note") then Some (Kinds.Note, word.1) else
      if bytes_eq word.0 (codes "echo") then echo_at word.1 else
      if bytes_eq word.0 (codes "add") then add_at word.1 else None

-- handler E H note, handler E H echo R, handler E H add R
unfoldable pub set_handler_at : List Word → Read (EndpointId × Call)
set_handler_at words = do
  end ← end_at words
  index ← byte_at end.1
  kind ← kind_at index.1
  Some ((end.0, Calls.SetHandler index.0 kind.0), kind.1)

-- giveup E SERIAL
unfoldable pub give_up_at : List Word → Read (EndpointId × Call)
give_up_at words = do
  end ← end_at words
  serial ← serial_at end.1
  Some ((end.0, Calls.GiveUp serial.0), serial.1)

-- close E
unfoldable pub close_at : List Word → Read (EndpointId × Call)
close_at words = do
  end ← end_at words
  Some ((end.0, Calls.Close), end.1)

unfoldable pub mask_at : List Word → Read Mask
mask_at words = do
  word ← word_at words
  if bytes_eq word.0 (codes "noevents") then Some (Masks.NoEvents, word.1) else
      if bytes_eq word.0 (codes "notempty") then Some (Masks.NotEmpty, word.1) else None

-- event E MASK
unfoldable pub test_at : List Word → Read (EndpointId × Call)
test_at words = do
  end ← end_at words
  mask ← mask_at end.1
  Some ((end.0, Calls.Test mask.0), mask.1)

-- a call by its verb
unfoldable pub call_at : Word → List Word → Read (EndpointId × Call)
call_at verb words =
    if bytes_eq verb (codes "request") then request_at words else
    if bytes_eq verb (codes "poll") then poll_at words else
    if bytes_eq verb (codes "tag") then set_tag_at words else
    if bytes_eq verb (codes "map") then map_at words else
    if bytes_eq verb (codes "unmap") then unmap_at words else
    if bytes_eq verb (codes "handler") then set_handler_at words else
    if bytes_eq verb (codes "giveup") then give_up_at words else
    if bytes_eq verb (codes "close") then close_at words else
    if bytes_eq verb (codes "event") then test_at words else None

unfoldable pub call_event_at : Actor → Word → List Word → Read Event
call_event_at actor verb words = do
  call ← call_at verb words
  Some (Events.Call actor call.0.0 call.0.1, call.1)

unfoldable pub want_at : Actor → List Word → Read Event
want_at actor words = do
  end ← end_at words
  Some (Events.Want actor end.0, end.1)

-- a thread's call or want
unfoldable pub thread_at : ℕ → Word → List Word → Read Event
thread_at thread verb words =
    if bytes_eq verb (codes "want") then want_at (Actors.Thread thread) words else call_event_at (Actors.Thread thread) verb words

unfoldable pub carry_at : List Word → Read Event
carry_at words = do
  end ← end_at words
  Some (Events.Carry end.0, end.1)

-- a carry, or a call or a want of anyone outside
unfoldable pub outside_at : Word → List Word → Read Event
outside_at verb words =
    if bytes_eq verb (codes "carry") then carry_at words else
    if bytes_eq verb (codes "want") then want_at Actors.Outside words else call_event_at Actors.Outside verb words

-- bind E
unfoldable pub bind_at : NodeId → List Word → Read Event
bind_at node words = do
  end ← end_at words
  Some (Events.Bind node end.0, end.1)

-- expire P C
unfoldable pub expire_at : NodeId → List Word → Read Event
expire_at node words = do
  peer ← node_at words
  channel ← byte_at peer.1
  Some (Events.Expire node peer.0 channel.0, channel.1)

-- receive P K
unfoldable pub receive_at : NodeId → List Word → Read Event
receive_at node words = do
  peer ← node_at words
  number ← count_at peer.1
  Some (Events.Receive node peer.0 number.0, number.1)

unfoldable pub interface_at : NodeId → Word → List Word → Read Event
interface_at node verb words =
    if bytes_eq verb (codes "bind") then bind_at node words else
    if bytes_eq verb (codes "expire") then expire_at node words else
    if bytes_eq verb (codes "receive") then receive_at node words else None

-- load E F
unfoldable pub load_at : NodeId → List Word → Read Event
load_at node words = do
  end ← end_at words
  frame ← byte_at end.1
  Some (Events.Load node end.0 frame.0, frame.1)

-- the endpoint of a drain, an unload or a page call
unfoldable pub move_at : (EndpointId → Event) → List Word → Read Event
move_at event words = do
  end ← end_at words
  Some (event end.0, end.1)

unfoldable pub driver_at : NodeId → Word → List Word → Read Event
driver_at node verb words =
    if bytes_eq verb (codes "drain") then move_at (λ end. Events.Drain node end) words else
    if bytes_eq verb (codes "unload") then move_at (λ end. Events.Unload node end) words else
    if bytes_eq verb (codes "load") then load_at node words else
    if bytes_eq verb (codes "pageout") then move_at (λ end. Events.PageOut node end) words else
    if bytes_eq verb (codes "pagein") then move_at (λ end. Events.PageIn node end) words else None

-- what happens, by who acts
unfoldable pub happening_at : Head → Word → List Word → Read Event
happening_at Heads.Outside verb words = outside_at verb words
happening_at (Heads.OfThread thread) verb words = thread_at thread verb words
happening_at (Heads.OfInterface node) verb words = interface_at node verb words
happening_at (Heads.OfDriver node) verb words = driver_at node verb words

-- an event by its words
unfoldable pub event_at : List Word → Read Event
event_at words = do
  who ← word_at words
  head ← head_of who.0
  verb ← word_at who.1
  happening_at head verb.0 verb.1

-- whether at least one byte stands behind an arrow and a space
abbrev pub has_more : List Word → Bool
has_more [] = false
has_more ([] ∷ []) = false
has_more words = true

-- whether nothing, or an arrow and an outcome, stand behind an event
unfoldable pub is_right_side : List Word → Bool
is_right_side [] = true
is_right_side (word ∷ words) = bytes_eq word (codes "->") && has_more words

-- the event of a line of a printed journal
unfoldable pub event_of : List ℕ → Option Event
event_of line = do
  event ← event_at (words_in line)
  if is_right_side event.1 then Some event.0 else None
