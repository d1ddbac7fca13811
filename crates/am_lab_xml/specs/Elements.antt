-- The elements of a written document with their attributes, as a reader finds them who goes over the bytes once and knows nothing of trees.
use Rattle.std.specs.Prelude.{ℕ, Bool, true, ◌&&◌, ◌==◌, List, [], ◌∷◌, ◌++◌, if◌then◌else◌}
use Rattle.std.specs.List.{list_all}
use Rattle.am_lab_xml.specs.Escaped.{is_text, unescaped}
use Rattle.am_lab_xml.specs.Trees.{Content, Named}
use Rattle.am_lab_xml.specs.Trees.{Content as Contents}

-- an element by itself: its name, and its attributes in order
pub record Tagged : Type 0 where
  pub name : List ℕ
  pub given : List Named

-- Where a reader stands: outside of tags; behind so much of an element's name; behind an element's attributes so far, and so much of
-- the next one's name; behind so much of that one's value; or in a tag that ends an element.
pub data Stands : Type 0 where
  Outside : Stands
  InName : List ℕ → Stands
  InAttribute : Tagged → List ℕ → Stands
  InValue : Tagged → List ℕ → List ℕ → Stands
  InEnd : Stands

abbrev pub named : List ℕ → Tagged
named name = record { name = name; given = [] }

-- an element with one attribute more, whose value was written so
abbrev pub with_value : Tagged → List ℕ → List ℕ → Tagged
with_value e name written = record { name = e.name; given = e.given ++ record { name = name; value = unescaped written } ∷ [] }

-- behind a slash: of a tag that ends an element, or at the end of one that holds nothing
abbrev pub behind_slash : List ℕ → Stands
behind_slash [] = InEnd
behind_slash (byte ∷ name) = InName (byte ∷ name)

-- where a byte leaves the reader
abbrev pub stands_on : Stands → ℕ → Stands
stands_on Outside byte = if byte == 60 then InName [] else Outside
stands_on (InName name) byte =
    if byte == 32 then InAttribute (named name) [] else
    (if byte == 62 then Outside else
    (if byte == 47 then behind_slash name else InName (name ++ byte ∷ [])))
stands_on (InAttribute e name) byte =
    if byte == 34 then InValue e name [] else
    (if byte == 62 then Outside else
    (if byte == 61 then InAttribute e name else
    (if byte == 47 then InAttribute e name else
    (if byte == 32 then InAttribute e [] else InAttribute e (name ++ byte ∷ [])))))
stands_on (InValue e name value) byte = if byte == 34 then InAttribute (with_value e name value) [] else InValue e name (value ++ byte ∷ [])
stands_on InEnd byte = if byte == 62 then Outside else InEnd

-- the element that ends with a byte
abbrev pub ended_at : Stands → ℕ → List Tagged
ended_at (InName name) byte = if byte == 62 then named name ∷ [] else []
ended_at (InAttribute e name) byte = if byte == 62 then e ∷ [] else []
ended_at other byte = []

abbrev pub elements_from : Stands → List ℕ → List Tagged
elements_from stands [] = []
elements_from stands (byte ∷ bytes) = ended_at stands byte ++ elements_from (stands_on stands byte) bytes

-- the elements of a written document, in the order of their first tags
abbrev pub elements_in : List ℕ → List Tagged
elements_in bytes = elements_from Outside bytes

-- ---- the same of a tree

abbrev pub elements : Content → List Tagged
elements (Contents.Empty name given) = record { name = name; given = given } ∷ []
elements (Contents.Element name given inside) = record { name = name; given = given } ∷ elements inside
elements (Contents.Both first second) = elements first ++ elements second
elements other = []

abbrev pub has_text : Named → Bool
has_text a = is_text a.value

-- the values of the attributes are printable ASCII and line feeds
abbrev pub are_readable : Content → Bool
are_readable (Contents.Empty name given) = list_all has_text given
are_readable (Contents.Element name given inside) = list_all has_text given && are_readable inside
are_readable (Contents.Both first second) = are_readable first && are_readable second
are_readable other = true
