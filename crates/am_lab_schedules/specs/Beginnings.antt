-- The lines of a report that begin with some words.
use Rattle.std.specs.Prelude.{ℕ, ◌-◌, Bool, true, false, ◌&&◌, ◌==◌, List, [], ◌∷◌, bytes_eq, length, nat_eq, slice_index, take, if◌then◌else◌}
use Rattle.std.specs.List.{list_any, starts_with}
use Rattle.am_lexer.specs.Text.{has_bytes, lines_of, words_of}

abbrev pub ends_with_star : List ℕ → Bool
ends_with_star word = has_bytes word && slice_index word (length word - 1) == 42

abbrev pub before_star : List ℕ → List ℕ
before_star word = take (length word - 1) word

-- A word is like a given one if it is the same; where the given one ends with a star, if it begins with what stands before the star.
unfoldable pub is_like : (given word : List ℕ) → Bool
is_like given word = if ends_with_star given then starts_with nat_eq word (before_star given) else bytes_eq given word

-- the first words are like the given ones, each like its own
abbrev pub begin_like : (given words : List (List ℕ)) → Bool
begin_like [] words = true
begin_like (given ∷ others) [] = false
begin_like (given ∷ others) (word ∷ words) = is_like given word && begin_like others words

-- A line begins with the words of a text: whole words, whatever number of spaces stands between them.
unfoldable pub begins_with_words : (given line : List ℕ) → Bool
begins_with_words given line = begin_like (words_of given) (words_of line)

-- one line of a text begins with these words, or more than one
unfoldable pub has_line_with : (given text : List ℕ) → Bool
has_line_with given text = list_any (begins_with_words given) (lines_of text)
