-- The picture of what stands in front of a report's fault, with the fault as a last row.
use Rattle.std.specs.Prelude.{ℕ, ◌+◌, List, [], ◌∷◌, ◌++◌, codes}
use Rattle.std.specs.Fmt.{decimal}
use Rattle.am_lab_picture.specs.Data.{PictureLists}
use Rattle.am_lab_picture.specs.Layout.Layout.{bottom, height, left_edge, width}
use Rattle.am_lab_xml.specs.Trees.{Content, Named, printed}
use Rattle.am_lab_xml.specs.Trees.{Content as Contents}
use Rattle.am_lab_chart.specs.Captions.{Word, joined, number, title, word}
use Rattle.am_lab_chart.specs.Drawing.{inside, size_class, svg_attributes}
use Rattle.am_lab_chart.specs.Titles.{row_titles, titles_before}

-- the line of the report in which the fault is
abbrev pub fault_title : ℕ → List Word
fault_title line = codes "first fault: line " ∷ decimal line ∷ []

unfoldable pub fault_attributes : ℕ → List Named
fault_attributes y =
    number (codes "x") 20 ∷ number (codes "y") (y + 14) ∷ word (codes "class") (codes "fault") ∷ word (codes "color") (codes "#b3261e") ∷ []

-- the fault's row, below this height: what is said of it
unfoldable pub fault_row : (y line : ℕ) → (told : List ℕ) → Content
fault_row y line told =
    Contents.Element (codes "text") (fault_attributes y) (Contents.Both (title (joined (fault_title line))) (Contents.Text told))

-- its titles, in order
abbrev pub titles_with : PictureLists → (line : ℕ) → List Word
titles_with p line = (titles_before p ++ row_titles p) ++ joined (fault_title line) ∷ []

-- a picture whose first band begins at `left`, with the fault below its last row
unfoldable pub drawing_before : PictureLists → (left line : ℕ) → (told : List ℕ) → Content
drawing_before p left line told =
    Contents.Element (codes "svg") (svg_attributes (size_class p) (width p left) (height p))
    (Contents.Both (inside p left) (fault_row (bottom p) line told))

-- the text of a picture with the fault below its last row
abbrev pub svg_before : PictureLists → (line : ℕ) → (told : List ℕ) → List ℕ
svg_before p line told = printed (Contents.Both (drawing_before p (left_edge p) line told) Contents.Break)
