-- The words of a text: its longest runs of bytes other than tab, line feed, carriage return and space.
use Rattle.std.specs.Prelude.{ℕ, Bool, ◌||◌, ◌==◌, nat_lt, nat_le, List, [], ◌∷◌, ◌++◌, length, filter, count_by, if◌then◌else◌}

-- whether a byte stands between words: tab, line feed, carriage return or space
abbrev pub is_gap : ℕ → Bool
is_gap byte = (byte == 9) || ((byte == 10) || ((byte == 13) || (byte == 32)))

-- a run of bytes as a word, unless it is empty
abbrev pub closed : List ℕ → List (List ℕ)
closed [] = []
closed (byte ∷ bytes) = (byte ∷ bytes) ∷ []

-- the words of a text before which these bytes of a word stand, directly
unfoldable pub words_after : List ℕ → List ℕ → List (List ℕ)
words_after begun [] = closed begun
words_after begun (byte ∷ text) = if is_gap byte then closed begun ++ words_after [] text else words_after (begun ++ byte ∷ []) text

-- the words of a text, in order
abbrev pub words_of : List ℕ → List (List ℕ)
words_of text = words_after [] text

-- A word of more than 24 bytes is long, and isn't sent.
abbrev pub is_long : List ℕ → Bool
is_long word = nat_lt 24 (length word)

abbrev pub is_short : List ℕ → Bool
is_short word = nat_le (length word) 24

abbrev pub short_words : List ℕ → List (List ℕ)
short_words text = filter is_short (words_of text)

-- how many words are long
abbrev pub long_count : List ℕ → ℕ
long_count text = count_by is_long (words_of text)
