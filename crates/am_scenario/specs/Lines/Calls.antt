-- The calls, each by the words behind its verb: the endpoint, of the node that is wanted, if one is, and the call.
use Rattle.std.specs.Prelude.{ℕ, List, codes, if◌then◌else◌, Option, None, Result, Ok, Err}
use Rattle.std.specs.Str.{bytes_eq}
use Rattle.am_lexer.specs.declared.what.What.{What}
use Rattle.am_lexer.specs.declared.what.What.TheVariants.{UnknownWord}
use Rattle.am_lexer.specs.Fields.{◌>>=◌, word_at, number_at, within}
use Rattle.am_names.specs.declared.EndpointId.{EndpointId}
use Rattle.am_names.specs.declared.NodeId.{NodeId}
use Rattle.am_names.specs.declared.Words.{Words}
use Rattle.am_office_entries.specs.declared.Call.{Call}
use Rattle.am_office_entries.specs.declared.Call.TheVariants.{Request, Poll, SetTag, Map, Unmap, SetHandler, GiveUp, Close, Test}
use Rattle.am_office_entries.specs.declared.HandlerKind.{HandlerKind}
use Rattle.am_office_entries.specs.declared.HandlerKind.TheVariants.{Note, Echo, Add}
use Rattle.am_scenario.specs.declared.drafts.settings.Version.{Version}
use Rattle.am_scenario.specs.Drafts.Said.{Said}
use Rattle.am_scenario.specs.Lines.Heads.{knows_pools}
use Rattle.am_scenario.specs.Lines.Places.{end_at, tag_at, serial_at}
use Rattle.am_scenario.specs.Lines.Declarations.{mask_at}

-- A B C D
unfoldable pub four_at : List (List ℕ) → Result (Words × List (List ℕ)) What
four_at words = do
  a ← number_at words
  b ← number_at a.1
  c ← number_at b.1
  d ← number_at c.1
  Ok (record { a = a.0; b = b.0; c = c.0; d = d.0 }, d.1)

-- request E I H A B C D
unfoldable pub request_at : Said → Option NodeId → List (List ℕ) → Result ((EndpointId × Call) × List (List ℕ)) What
request_at said wanted words = do
  end ← end_at said wanted words
  index ← within 0 255 end.1
  handler ← within 0 255 index.1
  a ← number_at handler.1
  b ← number_at a.1
  c ← number_at b.1
  d ← number_at c.1
  Ok ((end.0, Request index.0 handler.0 (record { a = a.0; b = b.0; c = c.0; d = d.0 })), d.1)

-- poll E
unfoldable pub poll_at : Said → Option NodeId → List (List ℕ) → Result ((EndpointId × Call) × List (List ℕ)) What
poll_at said wanted words = do
  end ← end_at said wanted words
  Ok ((end.0, Poll), end.1)

-- tag E TAG
unfoldable pub set_tag_at : Said → Option NodeId → List (List ℕ) → Result ((EndpointId × Call) × List (List ℕ)) What
set_tag_at said wanted words = do
  end ← end_at said wanted words
  tag ← tag_at end.1
  Ok ((end.0, SetTag tag.0), tag.1)

-- An index has 1 to 8 credits in version 1, and a least share of 0 to 8 in version 2.
abbrev pub least_share : Option Version → ℕ
least_share version = if knows_pools version then 0 else 1

-- map E I NAME TAG C
unfoldable pub map_at : Said → Option NodeId → List (List ℕ) → Result ((EndpointId × Call) × List (List ℕ)) What
map_at said wanted words = do
  end ← end_at said wanted words
  index ← within 0 255 end.1
  name ← end_at said None index.1
  tag ← tag_at name.1
  credits ← within (least_share said.version) 8 tag.1
  Ok ((end.0, Map index.0 name.0 tag.0 credits.0), credits.1)

-- unmap E I
unfoldable pub unmap_at : Said → Option NodeId → List (List ℕ) → Result ((EndpointId × Call) × List (List ℕ)) What
unmap_at said wanted words = do
  end ← end_at said wanted words
  index ← within 0 255 end.1
  Ok ((end.0, Unmap index.0), index.1)

-- note, echo R, add R
unfoldable pub kind_at : List (List ℕ) → Result (HandlerKind × List (List ℕ)) What
kind_at words = do
  word ← word_at words
  if bytes_eq word.0 (codes "note") then Ok (Note, word.1) else
      if bytes_eq word.0 (codes "echo") then (do
        handler ← within 1 15 word.1
        Ok (Echo handler.0, handler.1)) else
      if bytes_eq word.0 (codes "add") then (do
        handler ← within 1 15 word.1
        Ok (Add handler.0, handler.1)) else Err UnknownWord

-- handler E H note, handler E H echo R, handler E H add R
unfoldable pub set_handler_at : Said → Option NodeId → List (List ℕ) → Result ((EndpointId × Call) × List (List ℕ)) What
set_handler_at said wanted words = do
  end ← end_at said wanted words
  index ← within 0 255 end.1
  kind ← kind_at index.1
  Ok ((end.0, SetHandler index.0 kind.0), kind.1)

-- giveup E SERIAL
unfoldable pub give_up_at : Said → Option NodeId → List (List ℕ) → Result ((EndpointId × Call) × List (List ℕ)) What
give_up_at said wanted words = do
  end ← end_at said wanted words
  serial ← serial_at end.1
  Ok ((end.0, GiveUp serial.0), serial.1)

-- close E
unfoldable pub close_at : Said → Option NodeId → List (List ℕ) → Result ((EndpointId × Call) × List (List ℕ)) What
close_at said wanted words = do
  end ← end_at said wanted words
  Ok ((end.0, Close), end.1)

-- event E MASK
unfoldable pub test_at : Said → Option NodeId → List (List ℕ) → Result ((EndpointId × Call) × List (List ℕ)) What
test_at said wanted words = do
  end ← end_at said wanted words
  mask ← mask_at end.1
  Ok ((end.0, Test mask.0), mask.1)

-- a call, by its verb and the words behind it
unfoldable pub call_at : Said → Option NodeId → List ℕ → List (List ℕ) → Result ((EndpointId × Call) × List (List ℕ)) What
call_at said wanted verb words =
    if bytes_eq verb (codes "request") then request_at said wanted words else
    if bytes_eq verb (codes "poll") then poll_at said wanted words else
    if bytes_eq verb (codes "tag") then set_tag_at said wanted words else
    if bytes_eq verb (codes "map") then map_at said wanted words else
    if bytes_eq verb (codes "unmap") then unmap_at said wanted words else
    if bytes_eq verb (codes "handler") then set_handler_at said wanted words else
    if bytes_eq verb (codes "giveup") then give_up_at said wanted words else
    if bytes_eq verb (codes "close") then close_at said wanted words else
    if bytes_eq verb (codes "event") then test_at said wanted words else Err UnknownWord
