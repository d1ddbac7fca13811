-- Places in a line: a number below a limit, a node, an endpoint, a bundle, a tag, a serial.
use Rattle.std.specs.Prelude.{ℕ, ◌+◌, Bool, true, false, ◌==◌, ◌&&◌, nat_lt, nat_le, List, take, drop, codes, if◌then◌else◌, Option, Some, None, Result, Ok}
use Rattle.std.specs.Prelude.{Err}
use Rattle.std.specs.List.{list_all, position}
use Rattle.std.specs.Str.{bytes_eq}
use Rattle.am_lexer.specs.declared.what.What.{What}
use Rattle.am_lexer.specs.declared.what.What.TheVariants.{BadNumber, OutOfRange, Undeclared}
use Rattle.am_lexer.specs.Text.{number_of}
use Rattle.am_lexer.specs.Fields.{◌>>=◌, or_else, word_at, number_at}
use Rattle.am_names.specs.declared.EndpointId.{EndpointId}
use Rattle.am_names.specs.declared.NodeId.{NodeId}
use Rattle.am_names.specs.declared.Tag.{Tag}
use Rattle.am_names.specs.declared.Serial.{Serial}
use Rattle.am_bundle.specs.Lists.{BundleLists}
use Rattle.am_scenario_types.specs.declared.parts.EndLine.{EndLine}
use Rattle.am_scenario.specs.declared.drafts.settings.Settings.{Settings}
use Rattle.am_scenario.specs.Drafts.Said.{Said, node_count, end_of, bundle_of}

-- a number below a limit
unfoldable pub below : ℕ → List (List ℕ) → Result (ℕ × List (List ℕ)) What
below limit words = do
  number ← number_at words
  if nat_lt number.0 limit then Ok number else Err OutOfRange

-- a node
unfoldable pub node_at : Settings → List (List ℕ) → Result (NodeId × List (List ℕ)) What
node_at settings words = do
  number ← below (node_count settings) words
  Ok (record { 0 = number.0 }, number.1)

-- whether a node is the one that is wanted, if one is
abbrev pub is_wanted : Option NodeId → NodeId → Bool
is_wanted None node = true
is_wanted (Some wanted) node = node.0 == wanted.0

-- the endpoint that a number was declared for, of the node that is wanted
unfoldable pub declared_end : Said → Option NodeId → ℕ → Result EndLine What
declared_end said wanted id = do
  end ← or_else Undeclared (end_of said id)
  if is_wanted wanted end.node then Ok end else Err OutOfRange

-- a word for a declared endpoint, of the node that is wanted
unfoldable pub end_word : Said → Option NodeId → List ℕ → Result EndLine What
end_word said wanted word = do
  id ← or_else BadNumber (number_of word)
  end ← or_else Undeclared (end_of said id)
  if is_wanted wanted end.node then Ok end else Err OutOfRange

unfoldable pub end_at : Said → Option NodeId → List (List ℕ) → Result (EndpointId × List (List ℕ)) What
end_at said wanted words = do
  word ← word_at words
  end ← end_word said wanted word.0
  Ok (end.id, word.1)

-- whether a declared endpoint is on a node
abbrev pub is_there : NodeId → Option EndLine → Bool
is_there node None = false
is_there node (Some end) = end.node.0 == node.0

abbrev pub is_on : Said → NodeId → EndpointId → Bool
is_on said node member = is_there node (end_of said member.0)

-- whether all members are on a node
abbrev pub are_on : Said → NodeId → List EndpointId → Bool
are_on said node members = list_all (is_on said node) members

-- a declared bundle, of a node
unfoldable pub bundle_at : Said → NodeId → List (List ℕ) → Result (BundleLists × List (List ℕ)) What
bundle_at said node words = do
  number ← number_at words
  bundle ← or_else Undeclared (bundle_of said number.0)
  if are_on said node bundle.members then Ok (bundle, number.1) else Err OutOfRange

-- `none`, `all` or a number
unfoldable pub tag_at : List (List ℕ) → Result (Tag × List (List ℕ)) What
tag_at words = do
  word ← word_at words
  if bytes_eq word.0 (codes "none") then Ok (record { 0 = 0 }, word.1) else
      if bytes_eq word.0 (codes "all") then Ok (record { 0 = 0xffff_ffff_ffff_ffff }, word.1) else (do
        number ← or_else BadNumber (number_of word.0)
        Ok (record { 0 = number }, word.1))

abbrev pub and_then : {A B : Type 0} → Option A → (A → Option B) → Option B
and_then None f = None
and_then (Some x) f = f x

-- a number up to 255, a dot and a number up to 2 ^ 32 - 1
unfoldable pub serial_of : List ℕ → Option Serial
serial_of word =
    and_then (position (λ byte. byte == 46) word) (λ dot.
    and_then (number_of (take dot word)) (λ source.
    and_then (number_of (drop (dot + 1) word)) (λ count.
    if nat_le source 255 && nat_le count 0xffff_ffff then Some (record { source = record { 0 = source }; count = count }) else None)))

unfoldable pub serial_at : List (List ℕ) → Result (Serial × List (List ℕ)) What
serial_at words = do
  word ← word_at words
  serial ← or_else BadNumber (serial_of word.0)
  Ok (serial, word.1)
