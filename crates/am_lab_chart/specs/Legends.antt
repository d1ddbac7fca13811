-- The shapes of the signs, the style sheet, and the legend.
use Rattle.std.specs.Prelude.{ℕ, ◌+◌, Bool, List, [], ◌∷◌, codes, if◌then◌else◌}
use Rattle.std.specs.List.{list_any}
use Rattle.am_lab_picture.specs.Data.{PictureLists}
use Rattle.am_lab_xml.specs.Trees.{Content, Named}
use Rattle.am_lab_xml.specs.Trees.{Content as Contents}
use Rattle.am_lab_chart.specs.declared.legends.Explanation.{Explanation}
use Rattle.am_lab_chart.specs.declared.legends.Meaning.{Meaning}
use Rattle.am_lab_chart.specs.declared.legends.Meaning.TheVariants as Meanings
use Rattle.am_lab_chart.specs.Captions.{caption, holding, number, word}
use Rattle.am_lab_chart.specs.Known.{occurs}

-- a sign's shape: what is filled, and what is only stroked
pub record Drawn : Type 0 where
  pub id : List ℕ
  pub area : List ℕ
  pub edge : List ℕ

pub record Headed : Type 0 where
  pub id : List ℕ
  pub class : List ℕ

-- a sign of the legend, the word by which it is known whether it occurs, and the room that it takes
pub record Explained : Type 0 where
  pub key : List ℕ
  pub sign : List ℕ
  pub class : List ℕ
  pub dashes : List ℕ
  pub width : ℕ
  pub text : List ℕ

abbrev pub explained_as : Explanation → Explained
explained_as e = record { key = e.key.now; sign = e.sign.now; class = e.class.now; dashes = e.dashes.now; width = e.width; text = e.text.now }

-- what a sign of the legend stands for in the program
abbrev pub meant_by : Meaning → Explained
meant_by (Meanings.Fate class sign width text) =
    record { key = class.now; sign = sign.now; class = class.now; dashes = codes "none"; width = width; text = text.now }
meant_by (Meanings.Bar class width text) =
    record { key = class.now; sign = codes "#box"; class = class.now; dashes = codes "none"; width = width; text = text.now }
meant_by (Meanings.Sign sign width text) =
    record { key = sign.now; sign = sign.now; class = codes "plain"; dashes = codes "none"; width = width; text = text.now }
meant_by (Meanings.Way dashes width text) =
    record { key = dashes.now; sign = codes "#way"; class = codes "plain"; dashes = dashes.now; width = width; text = text.now }

abbrev pub style : List ℕ → Content
style rules = holding (codes "style") [] rules

abbrev pub path : List ℕ → List ℕ → Content
path class d = Contents.Empty (codes "path") (word (codes "class") class ∷ word (codes "d") d ∷ [])

unfoldable pub shape : List ℕ → Drawn → Content
shape scale s =
    Contents.Element (codes "g") (word (codes "id") s.id ∷ word (codes "transform") scale ∷ [])
    (Contents.Both (path (codes "area") s.area) (path (codes "edge") s.edge))

unfoldable pub head_attributes : Headed → List Named
head_attributes h =
    word (codes "id") h.id ∷ word (codes "class") h.class ∷ word (codes "viewBox") (codes "0 0 8 8") ∷
    word (codes "refX") (codes "7") ∷ word (codes "refY") (codes "4") ∷ word (codes "markerWidth") (codes "5") ∷
    word (codes "markerHeight") (codes "5") ∷ word (codes "orient") (codes "auto") ∷ []

unfoldable pub arrow_head : Headed → Content
arrow_head h = Contents.Element (codes "marker") (head_attributes h) (path (codes "area") (codes "M0 0L8 4L0 8z"))

-- a sign of the legend at a place, and at its right what it stands for
unfoldable pub meaning : ℕ → ℕ → Explained → Content
meaning x y m =
    Contents.Both
    (Contents.Empty (codes "use")
    (word (codes "href") m.sign ∷ number (codes "x") x ∷ number (codes "y") y ∷ word (codes "class") m.class ∷
    word (codes "stroke-dasharray") m.dashes ∷ []))
    (caption (number (codes "x") (x + 16) ∷ number (codes "y") (y + 3) ∷ word (codes "class") (codes "plain") ∷ []) (m.text ∷ []))

-- a line of the legend from a place on: those of its signs that occur in the picture
abbrev pub meanings : PictureLists → ℕ → ℕ → List Explained → Content
meanings p x y [] = Contents.Nothing
meanings p x y (m ∷ more) =
    if occurs p m.key then Contents.Both (meaning x y m) (meanings p (x + m.width) y more) else meanings p x y more

-- whether a line of the legend has any sign
abbrev pub has_some : PictureLists → List Explained → Bool
has_some p ms = list_any (λ (m : Explained). occurs p m.key) ms

-- the height of the next line: 24 pixels below this one, but at the same height where this one would be empty
abbrev pub below : PictureLists → ℕ → List Explained → ℕ
below p y ms = if has_some p ms then y + 24 else y
