-- Trees of elements and texts, and how they are written.
use Rattle.std.specs.Prelude.{ℕ, Bool, true, false, ◌&&◌, not, List, [], ◌∷◌, ◌++◌, codes, map, flat_map, bytes_eq, nat_le, ◌||◌, ◌==◌}
use Rattle.std.specs.List.{list_all, list_any}
use Rattle.am_lab_xml.specs.Escaped.{escaped}

-- a name, and what stands in quotes behind it
pub record Named : Type 0 where
  pub name : List ℕ
  pub value : List ℕ

-- nothing, a text, a line break, an element that holds nothing, an element with what it holds, or one content behind another
pub data Content : Type 0 where
  Nothing : Content
  Text : List ℕ → Content
  Break : Content
  Empty : List ℕ → List Named → Content
  Element : List ℕ → List Named → Content → Content
  Both : Content → Content → Content

unfoldable pub attribute : Named → List ℕ
attribute a = codes " " ++ a.name ++ codes "=\"" ++ escaped a.value ++ codes "\""

abbrev pub attributes : List Named → List ℕ
attributes given = flat_map attribute given

abbrev pub opening : List ℕ → List Named → List ℕ
opening name given = codes "<" ++ name ++ attributes given ++ codes ">"

abbrev pub closing : List ℕ → List ℕ
closing name = codes "</" ++ name ++ codes ">"

-- how a content is written
abbrev pub printed : Content → List ℕ
printed Nothing = []
printed (Text text) = escaped text
printed Break = codes "\n"
printed (Empty name given) = codes "<" ++ name ++ attributes given ++ codes "/>"
printed (Element name given inside) = opening name given ++ printed inside ++ closing name
printed (Both first second) = printed first ++ printed second

-- a content for each item
module _ {X : Type 0} where
  abbrev pub each : (X → Content) → List X → Content
  each content [] = Nothing
  each content (x ∷ xs) = Both (content x) (each content xs)

-- ---- which trees are documents

abbrev pub is_letter : ℕ → Bool
is_letter byte = (nat_le 65 byte && nat_le byte 90) || (nat_le 97 byte && nat_le byte 122)

abbrev pub is_name_byte : ℕ → Bool
is_name_byte byte = is_letter byte || (nat_le 48 byte && nat_le byte 57) || byte == 45

-- a name: a letter, and behind it letters, digits and hyphens
abbrev pub is_name : List ℕ → Bool
is_name [] = false
is_name (byte ∷ bytes) = is_letter byte && list_all is_name_byte bytes

-- names, each of them once
abbrev pub are_names : List (List ℕ) → Bool
are_names [] = true
are_names (name ∷ names) = is_name name && not (list_any (bytes_eq name) names) && are_names names

abbrev pub name_of : Named → List ℕ
name_of a = a.name

-- elements and attributes have names, and no element has two attributes of one name
abbrev pub is_sound : Content → Bool
is_sound Nothing = true
is_sound (Text text) = true
is_sound Break = true
is_sound (Empty name given) = is_name name && are_names (map name_of given)
is_sound (Element name given inside) = is_name name && are_names (map name_of given) && is_sound inside
is_sound (Both first second) = is_sound first && is_sound second
