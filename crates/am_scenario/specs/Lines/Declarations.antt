-- Section 3: what is declared, and what fails.
use Rattle.std.specs.Prelude.{ℕ, Bool, true, false, ◌==◌, ◌||◌, nat_lt, List, [], ◌∷◌, length, codes, if◌then◌else◌, Some, None, Result, Ok, Err, count_by}
use Rattle.std.specs.Option.{is_some}
use Rattle.std.specs.List.{list_any}
use Rattle.std.specs.Str.{bytes_eq}
use Rattle.am_lexer.specs.declared.what.What.{What}
use Rattle.am_lexer.specs.declared.what.What.TheVariants.{UnknownWord, OutOfRange, Twice, TooMany}
use Rattle.am_lexer.specs.Fields.{◌>>=◌, word_at, within, ended}
use Rattle.am_names.specs.declared.EndpointId.{EndpointId}
use Rattle.am_names.specs.declared.NodeId.{NodeId}
use Rattle.am_office_entries.specs.declared.Mask.{Mask}
use Rattle.am_office_entries.specs.declared.Mask.TheVariants.{NoEvents, NotEmpty}
use Rattle.am_scenario_plan.specs.declared.LinkFault.{LinkFault}
use Rattle.am_scenario_plan.specs.declared.LinkFault.TheVariants.{Lose, Repeat, Late}
use Rattle.am_scenario_types.specs.declared.parts.Network.TheVariants.{Packet}
use Rattle.am_scenario.specs.declared.drafts.settings.Settings.{Settings}
use Rattle.am_scenario.specs.declared.drafts.line.Line.{Line}
use Rattle.am_scenario.specs.declared.drafts.line.Line.TheVariants as line
use Rattle.am_scenario.specs.Drafts.Said.{Said, end_of, thread_of, bundle_of, is_planned, is_faulty}
use Rattle.am_scenario.specs.Lines.Places.{node_at, end_word, tag_at}

-- `disk` or nothing, and not in the direct network
unfoldable pub disk_at : Settings → List (List ℕ) → Result (Bool × List (List ℕ)) What
disk_at settings [] = Ok (false, [])
disk_at settings (word ∷ words) =
    if bytes_eq word (codes "disk") then (elim settings.network [ Some Packet ↦ Ok (true, words) | _ ↦ Err OutOfRange ]) else Err UnknownWord

-- a line that declares one more, unless it stands already, or there are as many as there may be
abbrev pub one_more : Bool → ℕ → ℕ → Line → Result Line What
one_more stands count limit line = if stands then Err Twice else if nat_lt count limit then Ok line else Err TooMany

-- endpoint E N TAG, endpoint E N TAG disk
unfoldable pub endpoint_line : Said → List (List ℕ) → Result Line What
endpoint_line said words = do
  id ← within 0 255 words
  node ← node_at said.settings id.1
  tag ← tag_at node.1
  disk ← disk_at said.settings tag.1
  _ ← ended disk.1
  one_more (is_some (end_of said id.0)) (count_by (λ end. end.node.0 == node.0.0) said.ends) 64
      (line.End (record { id = record { 0 = id.0 }; node = node.0; tag = tag.0; disk = disk.0 }))

-- thread T N
unfoldable pub thread_line : Said → List (List ℕ) → Result Line What
thread_line said words = do
  id ← within 0 63 words
  node ← node_at said.settings id.1
  _ ← ended node.1
  one_more (is_some (thread_of said id.0)) (count_by (λ thread. thread.node.0 == node.0.0) said.threads) 4
      (line.Thread (record { id = id.0; node = node.0 }))

unfoldable pub link_fault_at : List (List ℕ) → Result (LinkFault × List (List ℕ)) What
link_fault_at words = do
  word ← word_at words
  if bytes_eq word.0 (codes "lose") then Ok (Lose, word.1) else
      if bytes_eq word.0 (codes "repeat") then Ok (Repeat, word.1) else
      if bytes_eq word.0 (codes "late") then (do
        by ← within 1 16 word.1
        Ok (Late by.0, by.1)) else Err UnknownWord

-- plan P N K lose, plan P N K repeat, plan P N K late D
unfoldable pub plan_line : Said → List (List ℕ) → Result Line What
plan_line said words = do
  from ← node_at said.settings words
  to ← node_at said.settings from.1
  number ← within 1 65_536 to.1
  fault ← link_fault_at number.1
  _ ← ended fault.1
  one_more (is_planned said.plan from.0 to.0 number.0) (length said.plan) 4096
      (line.Plan (record { from = from.0; to = to.0; number = number.0; fault = fault.0 }))

-- swapfault N K
unfoldable pub swap_fault_line : Said → List (List ℕ) → Result Line What
swap_fault_line said words = do
  node ← node_at said.settings words
  number ← within 1 65_536 node.1
  _ ← ended number.1
  one_more (is_faulty said.faults node.0 number.0) (length said.faults) 64 (line.Fault (record { node = node.0; number = number.0 }))

unfoldable pub mask_at : List (List ℕ) → Result (Mask × List (List ℕ)) What
mask_at words = do
  word ← word_at words
  if bytes_eq word.0 (codes "noevents") then Ok (NoEvents, word.1) else
      if bytes_eq word.0 (codes "notempty") then Ok (NotEmpty, word.1) else Err UnknownWord

-- the endpoints that the words name, all of one node
unfoldable pub members : Said → NodeId → List (List ℕ) → Result (List EndpointId) What
members said node [] = Ok []
members said node (word ∷ words) = do
  end ← end_word said (Some node) word
  others ← members said node words
  Ok (end.id ∷ others)

-- whether one stands there twice
unfoldable pub has_twice : List EndpointId → Bool
has_twice [] = false
has_twice (id ∷ ids) = list_any (λ other. other.0 == id.0) ids || has_twice ids

-- bundle B MASK E, where further words E may follow.
-- A node has at most 64 endpoints, so a bundle that names none twice has at most 64.
unfoldable pub bundle_line : Said → List (List ℕ) → Result Line What
bundle_line said words = do
  id ← within 0 63 words
  mask ← mask_at id.1
  word ← word_at mask.1
  first ← end_word said None word.0
  others ← members said first.node word.1
  if is_some (bundle_of said id.0) || has_twice (first.id ∷ others) then Err Twice
      else Ok (line.Bundle (record { id = id.0; mask = mask.0; members = first.id ∷ others }))
