-- What the lines of a text with segments have said so far.
use Rattle.std.specs.Prelude.{ℕ, ◌+◌, Bool, false, not, ◌&&◌, ◌||◌, ◌==◌, nat_le, List, [], ◌∷◌, ◌++◌, codes, length, replicate, if◌then◌else◌, Option, Some}
use Rattle.std.specs.Prelude.{None}
use Rattle.std.specs.List.{flat_map, list_any}
use Rattle.am_segment_pieces.specs.declared.segment.SegmentLine.{SegmentLine}
use Rattle.am_segment_pieces.specs.Lists.{TransferLists}
use Rattle.am_segment.specs.Own.{declared_by, is_script}

pub record Laid : Type 0 where
  -- the numbers of the endpoints that were declared
  pub ends : List ℕ
  -- whether a line of section 4 stood
  pub scripted : Bool
  pub segments : List SegmentLine
  pub transfers : List TransferLists
  -- how many calls were made from own lines
  pub calls : ℕ
  -- the text of the scenario, and for each of its lines the line that it came from
  pub text : List ℕ
  pub origin : List ℕ

abbrev pub nothing_laid : Laid
nothing_laid = record { ends = []; scripted = false; segments = []; transfers = []; calls = 0; text = []; origin = [] }

abbrev pub is_declared : List ℕ → ℕ → Bool
is_declared ends number = list_any (λ end. end == number) ends

-- one endpoint more, if it isn't declared yet; none has a number above 255
abbrev pub with_end : List ℕ → Option ℕ → List ℕ
with_end ends None = ends
with_end ends (Some number) = if nat_le number 255 && not (is_declared ends number) then ends ++ number ∷ [] else ends

-- a line and its end
abbrev pub closed : List ℕ → List ℕ
closed line = line ++ codes "\n"

-- lines of the text that come from the line with this number
abbrev pub with_lines : ℕ → List (List ℕ) → Laid → Laid
with_lines number lines said = record said { text = said.text ++ flat_map closed lines; origin = said.origin ++ replicate (length lines) number }

-- an ordinary line stays
abbrev pub with_ordinary : ℕ → Laid → List ℕ → List (List ℕ) → Laid
with_ordinary number said line words =
    with_lines number (line ∷ []) (record said { ends = with_end said.ends (declared_by words); scripted = said.scripted || is_script words })

-- a segment's line is left out
abbrev pub with_segment : Laid → SegmentLine → Laid
with_segment said s = record said { segments = said.segments ++ s ∷ [] }
