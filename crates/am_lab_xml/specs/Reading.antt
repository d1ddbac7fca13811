-- The texts of the elements of one name, as a reader of the bytes finds them who knows nothing of trees.
use Rattle.std.specs.Prelude.{ℕ, Bool, true, false, ◌&&◌, ◌==◌, List, [], ◌∷◌, ◌++◌, codes, if◌then◌else◌, bytes_eq}
use Rattle.am_lab_xml.specs.Escaped.{is_text, unescaped}
use Rattle.am_lab_xml.specs.Trees.{Content, Named}
use Rattle.am_lab_xml.specs.Trees.{Content as Contents}

-- whether a text begins with another
abbrev pub begins : List ℕ → List ℕ → Bool
begins [] text = true
begins (byte ∷ bytes) [] = false
begins (byte ∷ bytes) (other ∷ text) = other == byte && begins bytes text

-- what stands in front of the first `<`
abbrev pub up_to_tag : List ℕ → List ℕ
up_to_tag [] = []
up_to_tag (byte ∷ bytes) = if byte == 60 then [] else byte ∷ up_to_tag bytes

-- what stands behind the first `>` and in front of the next `<`
abbrev pub behind_tag : List ℕ → List ℕ
behind_tag [] = []
behind_tag (byte ∷ bytes) = if byte == 62 then up_to_tag bytes else behind_tag bytes

abbrev pub start_tag : List ℕ → List ℕ
start_tag name = codes "<" ++ name ++ codes ">"

-- behind each `<name>` the text up to the next `<`, in order
abbrev pub texts_in : List ℕ → List ℕ → List (List ℕ)
texts_in name [] = []
texts_in name (byte ∷ bytes) =
    if begins (start_tag name) (byte ∷ bytes) then unescaped (behind_tag (byte ∷ bytes)) ∷ texts_in name bytes else texts_in name bytes

-- what stands behind as many bytes as a text has
abbrev pub behind : List ℕ → List ℕ → List ℕ
behind [] bytes = bytes
behind (first ∷ text) [] = []
behind (first ∷ text) (byte ∷ bytes) = behind text bytes

-- behind each `<outer><name>` the text up to the next `<`, in order: of the elements of this name with which an outer one begins
abbrev pub first_texts_in : List ℕ → List ℕ → List ℕ → List (List ℕ)
first_texts_in outer name [] = []
first_texts_in outer name (byte ∷ bytes) =
    if begins (start_tag outer ++ start_tag name) (byte ∷ bytes)
    then unescaped (up_to_tag (behind (start_tag outer ++ start_tag name) (byte ∷ bytes))) ∷ first_texts_in outer name bytes
    else first_texts_in outer name bytes

-- ---- the same of a tree

abbrev pub is_bare : List ℕ → List ℕ → List Named → Bool
is_bare name other [] = bytes_eq other name
is_bare name other (a ∷ given) = false

abbrev pub text_of : Content → List ℕ
text_of (Contents.Text text) = text
text_of other = []

-- the text of each element of this name with no attributes, in document order
abbrev pub texts : List ℕ → Content → List (List ℕ)
texts name (Contents.Element other given inside) =
    if is_bare name other given then text_of inside ∷ [] else texts name inside
texts name (Contents.Both first second) = texts name first ++ texts name second
texts name other = []

abbrev pub holds_text : Content → Bool
holds_text (Contents.Text text) = is_text text
holds_text other = false

-- the elements of this name with no attributes hold a text, and nothing else
abbrev pub are_texts : List ℕ → Content → Bool
are_texts name (Contents.Element other given inside) =
    if is_bare name other given then holds_text inside else are_texts name inside
are_texts name (Contents.Both first second) = are_texts name first && are_texts name second
are_texts name other = true

-- the text of the element with which a content begins
abbrev pub first_text : Content → List ℕ
first_text (Contents.Element other given inside) = text_of inside
first_text (Contents.Both first second) = first_text first
first_text other = []

-- the text of the first element in each outer one with no attributes, in document order
abbrev pub first_texts : List ℕ → Content → List (List ℕ)
first_texts outer (Contents.Element other given inside) =
    if is_bare outer other given then first_text inside ∷ first_texts outer inside else first_texts outer inside
first_texts outer (Contents.Both first second) = first_texts outer first ++ first_texts outer second
first_texts outer other = []

-- a content begins with an element of this name with no attributes, which holds a text and nothing else
abbrev pub is_led : List ℕ → Content → Bool
is_led name (Contents.Element other given inside) = is_bare name other given && holds_text inside
is_led name (Contents.Both first second) = is_led name first
is_led name other = false

-- the outer elements with no attributes do
abbrev pub are_led : List ℕ → List ℕ → Content → Bool
are_led outer name (Contents.Element other given inside) =
    if is_bare outer other given then is_led name inside && are_led outer name inside else are_led outer name inside
are_led outer name (Contents.Both first second) = are_led outer name first && are_led outer name second
are_led outer name other = true
