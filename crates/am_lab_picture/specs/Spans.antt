-- The spans of a value that changes from line to line.
use Rattle.std.specs.Prelude.{◌≡◌, ℕ, ◌+◌, ◌-◌, Bool, true, false, List, [], ◌∷◌, ◌++◌, length, replicate}
use Rattle.std.specs.List.{flat_map}
use Rattle.am_lab_picture.specs.declared.data.Span.{Span}

-- a value as far as it was followed: the spans that have ended, what stands now, and since which line
pub record Tracked (X : Type 0) : Type 0 where
  pub ended : List (Span X)
  pub value : X
  pub from : ℕ

module _ {X : Type 0} where
  abbrev pub span : X → ℕ → ℕ → Span X
  span value from until = record { value = value; from = from; until = until }

  -- a value that stands from a line on
  abbrev pub begun : X → ℕ → Tracked X
  begun value line = record { ended = []; value = value; from = line }

  -- and then the value behind a line, which is the same or not
  abbrev pub followed_by : Bool → Tracked X → X → ℕ → Tracked X
  followed_by true t x line = t
  followed_by false t x line = record { ended = t.ended ++ span t.value t.from line ∷ []; value = x; from = line }

  -- and then the values behind this line and each next one
  abbrev pub followed : (X → X → Bool) → Tracked X → ℕ → List X → Tracked X
  followed same t line [] = t
  followed same t line (x ∷ xs) = followed same (followed_by (same t.value x) t x line) (line + 1) xs

  -- the spans, where what stands now ends at a line
  abbrev pub ended_at : Tracked X → ℕ → List (Span X)
  ended_at t line = t.ended ++ span t.value t.from line ∷ []

  -- the spans of the values behind a line and each next one
  abbrev pub spans : (X → X → Bool) → ℕ → List X → List (Span X)
  spans same line [] = []
  spans same line (x ∷ xs) = ended_at (followed same (begun x line) (line + 1) xs) (line + 1 + length xs)

  -- ---- what spans say, in other words

  -- the values of a span, line by line, and those of spans one after the other
  abbrev pub values_of : Span X → List X
  values_of s = replicate (s.until - s.from) s.value

  abbrev pub spread : List (Span X) → List X
  spread xs = flat_map values_of xs

  -- each span begins where the one before it ends, the first at this line; and the last ends at that one
  abbrev pub AreJoined : ℕ → List (Span X) → ℕ → Type 0
  AreJoined line [] last = line ≡ last
  AreJoined line (s ∷ xs) last = (s.from ≡ line) × AreJoined s.until xs last

-- The spans of values are joined from the first value's line to that behind the last, and spread out line by line they are the
-- values, where only what is one counts as the same.
abbrev pub SpansAreValues : Type 0 → Type 0
SpansAreValues X =
    (same : X → X → Bool) → ((x y : X) → same x y ≡ true → x ≡ y) → (line : ℕ) (x : X) (xs : List X)
    → (spread (spans same line (x ∷ xs)) ≡ x ∷ xs) × AreJoined line (spans same line (x ∷ xs)) (line + 1 + length xs)
