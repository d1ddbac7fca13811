-- Section 4 of a step script: one event in each line.
use Rattle.std.specs.Prelude.{ℕ, nat_lt, List, length, codes, if◌then◌else◌, None, Result, Ok, Err}
use Rattle.std.specs.Str.{bytes_eq}
use Rattle.am_lexer.specs.declared.what.What.{What}
use Rattle.am_lexer.specs.declared.what.What.TheVariants.{UnknownWord, OutOfRange, TooMany}
use Rattle.am_lexer.specs.Fields.{◌>>=◌, word_at, within, ended}
use Rattle.am_names.specs.declared.EndpointId.{EndpointId}
use Rattle.am_names.specs.declared.NodeId.{NodeId}
use Rattle.am_office_entries.specs.declared.Actor.TheVariants.{Outside}
use Rattle.am_office_entries.specs.declared.Event.{Event}
use Rattle.am_office_entries.specs.declared.Event.TheVariants as event
use Rattle.am_scenario.specs.declared.drafts.line.Line.{Line}
use Rattle.am_scenario.specs.declared.drafts.line.Line.TheVariants as line
use Rattle.am_scenario.specs.Drafts.Said.{Said, node_count, frame_count, channel_count}
use Rattle.am_scenario.specs.Lines.Places.{below, node_at, end_at}
use Rattle.am_scenario.specs.Lines.Calls.{call_at}

-- the end of the line, where there is room for a step more
unfoldable pub step : Said → Event → List (List ℕ) → Result Line What
step said event words = do
  _ ← ended words
  if nat_lt (length said.steps) 65_536 then Ok (line.Step event) else Err TooMany

-- an endpoint, and what happens there
abbrev pub end_line : Said → (EndpointId → Event) → List (List ℕ) → Result Line What
end_line said event words = do
  end ← end_at said None words
  step said (event end.0) end.1

-- x carry E, x want E, x and a call
unfoldable pub outside_line : Said → List (List ℕ) → Result Line What
outside_line said words = do
  verb ← word_at words
  if bytes_eq verb.0 (codes "carry") then end_line said event.Carry verb.1 else
      if bytes_eq verb.0 (codes "want") then end_line said (event.Want Outside) verb.1 else (do
        call ← call_at said None verb.0 verb.1
        step said (event.Call Outside call.0.0 call.0.1) call.1)

-- the node that a first word names
unfoldable pub head_node : Said → ℕ → Result NodeId What
head_node said number = if nat_lt number (node_count said.settings) then Ok (record { 0 = number }) else Err OutOfRange

-- iN bind E
unfoldable pub bind_line : Said → NodeId → List (List ℕ) → Result Line What
bind_line said node words = end_line said (event.Bind node) words

-- iN expire P C
unfoldable pub expire_line : Said → NodeId → List (List ℕ) → Result Line What
expire_line said node words = do
  peer ← node_at said.settings words
  channel ← below (channel_count said.settings) peer.1
  step said (event.Expire node peer.0 channel.0) channel.1

-- iN receive P K
unfoldable pub receive_line : Said → NodeId → List (List ℕ) → Result Line What
receive_line said node words = do
  peer ← node_at said.settings words
  number ← within 1 0xffff_ffff peer.1
  step said (event.Receive node peer.0 number.0) number.1

unfoldable pub interface_line : Said → ℕ → List (List ℕ) → Result Line What
interface_line said number words = do
  node ← head_node said number
  verb ← word_at words
  if bytes_eq verb.0 (codes "bind") then bind_line said node verb.1 else
      if bytes_eq verb.0 (codes "expire") then expire_line said node verb.1 else
      if bytes_eq verb.0 (codes "receive") then receive_line said node verb.1 else Err UnknownWord

-- dN load E F
unfoldable pub load_line : Said → NodeId → List (List ℕ) → Result Line What
load_line said node words = do
  end ← end_at said None words
  frame ← below (frame_count said.settings) end.1
  step said (event.Load node end.0 frame.0) frame.1

-- dN drain E, dN unload E, dN load E F, dN pageout E, dN pagein E
unfoldable pub drive_line : Said → NodeId → List ℕ → List (List ℕ) → Result Line What
drive_line said node verb words =
    if bytes_eq verb (codes "drain") then end_line said (event.Drain node) words else
    if bytes_eq verb (codes "unload") then end_line said (event.Unload node) words else
    if bytes_eq verb (codes "load") then load_line said node words else
    if bytes_eq verb (codes "pageout") then end_line said (event.PageOut node) words else
    if bytes_eq verb (codes "pagein") then end_line said (event.PageIn node) words else Err UnknownWord

unfoldable pub driver_line : Said → ℕ → List (List ℕ) → Result Line What
driver_line said number words = do
  node ← head_node said number
  verb ← word_at words
  drive_line said node verb.0 verb.1
