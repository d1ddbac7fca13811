-- Texts, titles and signs.
use Rattle.std.specs.Prelude.{ℕ, List, [], ◌∷◌, codes, flat_map}
use Rattle.std.specs.Fmt.{decimal}
use Rattle.am_lab_xml.specs.Trees.{Content, Named}
use Rattle.am_lab_xml.specs.Trees.{Content as Contents}

abbrev pub Word : Type 0
Word = List ℕ

-- attributes
abbrev pub word : Word → Word → Named
word name value = record { name = name; value = value }

abbrev pub number : Word → ℕ → Named
number name value = record { name = name; value = decimal value }

-- words one behind the other
abbrev pub joined : List Word → Word
joined words = flat_map (λ (w : Word). w) words

-- an element with these attributes, which holds a text
unfoldable pub holding : Word → List Named → Word → Content
holding name given text = Contents.Element name given (Contents.Text text)

-- what whoever points at an element is told
abbrev pub title : Word → Content
title text = holding (codes "title") [] text

-- a text element with these attributes and words
unfoldable pub caption : List Named → List Word → Content
caption given words = holding (codes "text") given (joined words)

-- an element with these attributes and this title, which holds words
unfoldable pub titled : Word → List Named → List Word → List Word → Content
titled name given told words = Contents.Element name given (Contents.Both (title (joined told)) (Contents.Text (joined words)))

-- a sign at a place, in the colour of a class
unfoldable pub sign_at : Word → ℕ → ℕ → Word → Content
sign_at sign x y class =
    Contents.Empty (codes "use") (word (codes "href") sign ∷ number (codes "x") x ∷ number (codes "y") y ∷ word (codes "class") class ∷ [])
