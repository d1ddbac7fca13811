-- The documents of a small XML, as a grammar over bytes: elements with attributes, and text between them.
use Rattle.std.specs.Prelude.{◌≡◌, ℕ, Bool, true, false, ◌&&◌, not, ◌||◌, ◌==◌, List, [], ◌∷◌, ◌++◌, codes}
use Rattle.std.specs.List.{list_any}
use Rattle.std.specs.Prelude.{bytes_eq}
use Rattle.am_lab_xml.specs.Escaped.{is_printable}
use Rattle.am_lab_xml.specs.Trees.{is_name}

-- a byte that may stand by itself: printable, none of & < > " '
abbrev pub is_plain : ℕ → Bool
is_plain byte = is_printable byte && not (byte == 38 || byte == 60 || byte == 62 || byte == 34 || byte == 39)

-- the names of references
pub data IsReference : List ℕ → Type 0 where
  Amp : IsReference (codes "amp")
  Less : IsReference (codes "lt")
  Greater : IsReference (codes "gt")
  Quote : IsReference (codes "quot")
  Apostrophe : IsReference (codes "apos")
  Feed : IsReference (codes "#10")

-- plain bytes and references
pub data IsCharacters : List ℕ → Type 0 where
  Nothing : IsCharacters []
  Plain : (byte : ℕ) (more : List ℕ) → is_plain byte ≡ true → IsCharacters more → IsCharacters (byte ∷ more)
  Reference : (name more : List ℕ) → IsReference name → IsCharacters more → IsCharacters (codes "&" ++ name ++ codes ";" ++ more)

-- attributes of these names, each of them once: a space, the name, `=` and characters in quotes
pub data AreAttributes : List (List ℕ) → List ℕ → Type 0 where
  Nothing : AreAttributes [] []
  More : (name value more : List ℕ) (names : List (List ℕ)) → is_name name ≡ true → list_any (bytes_eq name) names ≡ false → IsCharacters value → AreAttributes names more → AreAttributes (name ∷ names) (codes " " ++ name ++ codes "=\"" ++ value ++ codes "\"" ++ more)

-- characters; a line break; an element that holds nothing; an element with content, which ends with its own name; two contents
pub data IsContent : List ℕ → Type 0 where
  Characters : (text : List ℕ) → IsCharacters text → IsContent text
  Break : IsContent (codes "\n")
  Empty : (name given : List ℕ) (names : List (List ℕ)) → is_name name ≡ true → AreAttributes names given → IsContent (codes "<" ++ name ++ given ++ codes "/>")
  Element : (name given inside : List ℕ) (names : List (List ℕ)) → is_name name ≡ true → AreAttributes names given → IsContent inside → IsContent (codes "<" ++ name ++ given ++ codes ">" ++ inside ++ (codes "</" ++ name ++ codes ">"))
  Both : (first second : List ℕ) → IsContent first → IsContent second → IsContent (first ++ second)

-- a document: one element, and a line break behind it
pub record IsDocument (bytes : List ℕ) : Type 0 where
  pub name : List ℕ
  pub given : List ℕ
  pub names : List (List ℕ)
  pub inside : List ℕ
  pub is_name' : is_name name ≡ true
  pub attributes : AreAttributes names given
  pub content : IsContent inside
  pub is : bytes ≡ codes "<" ++ name ++ given ++ codes ">" ++ inside ++ (codes "</" ++ name ++ codes ">") ++ codes "\n"
