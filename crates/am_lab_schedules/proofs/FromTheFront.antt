-- Words and lines, compared from the front.
use Rattle.std.proofs.Common.{◌≡◌, ℕ, Bool, true, false, List, [], ◌∷◌, refl, sym, ◌∙◌}
use Rattle.am_lexer.specs.Text.{lines_of, words_of}
use Rattle.am_lab_schedules.specs.Beginnings.{begins_with_words, has_line_with, is_like}

-- all given words were found
pub none_is_left : (given line : List ℕ) (same : Bool) → words_of given ≡ [] → begins_with_words given line ≡ same → true ≡ same
unfolding begins_with_words
none_is_left given line same none is =
    let here : begins_with_words given line ≡ true = rw none refl in
    sym here ∙ is

-- a word is given and the line has none
pub line_ends : (given line first : List ℕ) (others : List (List ℕ)) (same : Bool) → words_of given ≡ first ∷ others → words_of line ≡ [] →
    begins_with_words given line ≡ same → false ≡ same
unfolding begins_with_words
line_ends given line first others same some none is =
    let here : begins_with_words given line ≡ false = rw (some, none) refl in
    sym here ∙ is

-- the first words aren't alike
pub first_differs : (given line first others word behind : List ℕ) (same : Bool) → words_of given ≡ first ∷ words_of others →
    words_of line ≡ word ∷ words_of behind → is_like first word ≡ false → begins_with_words given line ≡ same → false ≡ same
unfolding begins_with_words
first_differs given line first others word behind same some at unlike is =
    let here : begins_with_words given line ≡ false = rw (some, at, unlike) refl in
    sym here ∙ is

-- the first words are alike
pub first_is_like : (given line first others word behind : List ℕ) (same : Bool) → words_of given ≡ first ∷ words_of others →
    words_of line ≡ word ∷ words_of behind → is_like first word ≡ true → begins_with_words given line ≡ same → begins_with_words others behind ≡ same
unfolding begins_with_words
first_is_like given line first others word behind same some at like is =
    let here : begins_with_words given line ≡ begins_with_words others behind = rw (some, at, like) refl in
    sym here ∙ is

-- the text has no more lines
pub text_ends : (given text : List ℕ) (same : Bool) → lines_of text ≡ [] → has_line_with given text ≡ same → false ≡ same
unfolding has_line_with
text_ends given text same none is =
    let here : has_line_with given text ≡ false = rw none refl in
    sym here ∙ is

-- the first line begins with the words
pub line_found : (given text line behind : List ℕ) (same : Bool) → lines_of text ≡ line ∷ lines_of behind → begins_with_words given line ≡ true →
    has_line_with given text ≡ same → true ≡ same
unfolding has_line_with
line_found given text line behind same first begins is =
    let here : has_line_with given text ≡ true = rw (first, begins) refl in
    sym here ∙ is

-- the first line doesn't begin with them
pub line_passed : (given text line behind : List ℕ) (same : Bool) → lines_of text ≡ line ∷ lines_of behind → begins_with_words given line ≡ false →
    has_line_with given text ≡ same → has_line_with given behind ≡ same
unfolding has_line_with
line_passed given text line behind same first begins is =
    let here : has_line_with given text ≡ has_line_with given behind = rw (first, begins) refl in
    sym here ∙ is
