-- The row of an entry: its line as the title and as text, the fate of what it is about, its sign, and the line that leads from there.
use Rattle.std.specs.Prelude.{ℕ, ◌+◌, ◌/◌, List, [], ◌∷◌, codes, Option, Some, None, if◌then◌else◌}
use Rattle.std.specs.Fmt.{decimal}
use Rattle.am_check_lines.specs.Grammar.{printed}
use Rattle.am_office_entries.specs.declared.Outcome.{Outcome}
use Rattle.am_office_entries.specs.declared.Outcome.TheVariants as Out
use Rattle.am_lab_picture.specs.Data.{PictureLists}
use Rattle.am_lab_picture.specs.declared.data.Named.{Named}
use Rattle.am_lab_picture.specs.declared.data.PlacedRow.{PlacedRow}
use Rattle.am_lab_picture.specs.declared.data.Row.{Row}
use Rattle.am_lab_xml.specs.Trees.{Content}
use Rattle.am_lab_xml.specs.Trees.{Content as Contents}
use Rattle.am_lab_picture.specs.declared.layout.signs.Spot.{Spot}
use Rattle.am_lab_picture.specs.declared.layout.signs.Spot.TheVariants as Spots
use Rattle.am_lab_picture.specs.declared.layout.signs.Ending.{Ending}
use Rattle.am_lab_picture.specs.declared.layout.signs.Ending.TheVariants as Endings
use Rattle.am_lab_picture.specs.declared.layout.signs.Link.{Link}
use Rattle.am_lab_picture.specs.Layout.Layout.{has_text, x_of_end, x_of_interface, y_of}
use Rattle.am_lab_picture.specs.Layout.Words.{class_of, fate_class, fate_sign, head_of}
use Rattle.am_lab_chart.specs.Captions.{caption, holding, number, sign_at, title, word}
use Rattle.am_lab_picture.specs.Layout.Signs.{ending_dashes, ending_sign, inner_of, label_of, link_of, sign_of, spot_of}

-- ---- at the left

-- the entry's line is the title of its row
abbrev pub row_title : Row → Content
row_title row = title (printed row.entry)

unfoldable pub line_number : ℕ → ℕ → Content
line_number y line =
    caption (number (codes "x") 38 ∷ number (codes "y") (y + 4) ∷ word (codes "class") (codes "line-number") ∷ []) (decimal line ∷ [])

unfoldable pub line_text : ℕ → Row → Content
line_text y row =
    holding (codes "text")
    (number (codes "x") 62 ∷ number (codes "y") (y + 4) ∷ word (codes "class") (class_of row.about) ∷
    word (codes "font-family") (codes "monospace") ∷ word (codes "font-size") (codes "11") ∷ [])
    (printed row.entry)

abbrev pub texts_of : PictureLists → ℕ → ℕ → Row → Content
texts_of p y line row = if has_text p then Contents.Both (line_number y line) (line_text y row) else Contents.Nothing

abbrev pub fate_x : PictureLists → ℕ
fate_x p = if has_text p then 50 else 14

-- the fate of the message that the entry is about
abbrev pub fate_of : PictureLists → ℕ → Option Named → Content
fate_of p y None = Contents.Nothing
fate_of p y (Some about) = sign_at (fate_sign about.fate) (fate_x p) y (fate_class about.fate)

-- ---- in the lanes

abbrev pub x_of : PictureLists → ℕ → Spot → ℕ
x_of p left (Spots.End end) = x_of_end p left end
x_of p left (Spots.Interface node) = x_of_interface p left node

-- only where a message arrives the line has an arrow head
abbrev pub link_head : Option Named → Ending → List ℕ
link_head about Endings.Arrived = head_of about
link_head about ending = codes "none"

unfoldable pub link_line : ℕ → ℕ → ℕ → Option Named → Ending → Content
link_line x far y about ending =
    Contents.Empty (codes "line")
    (word (codes "class") (class_of about) ∷ number (codes "x1") x ∷ number (codes "y1") y ∷ number (codes "x2") far ∷
    number (codes "y2") y ∷ word (codes "stroke-dasharray") (ending_dashes ending) ∷
    word (codes "marker-end") (link_head about ending) ∷ [])

-- the line from the sign to an endpoint, with a sign at its end
abbrev pub link : PictureLists → ℕ → ℕ → ℕ → Option Named → Option Link → Content
link p left x y about None = Contents.Nothing
link p left x y about (Some to) =
    Contents.Both (link_line x (x_of_end p left to.far) y about to.ending) (sign_at (ending_sign to.ending) (x_of_end p left to.far) y (class_of about))

-- what is written in the sign
unfoldable pub inner_text : ℕ → ℕ → List ℕ → Content
inner_text x y text = caption (number (codes "x") x ∷ number (codes "y") (y + 3) ∷ word (codes "class") (codes "in-sign") ∷ []) (text ∷ [])

abbrev pub inner : PictureLists → ℕ → ℕ → Option (List ℕ) → Content
inner p x y None = Contents.Nothing
inner p x y (Some text) = if has_text p then inner_text x y text else Contents.Nothing

-- what is written beside the sign, below the middle of the row, where no arrow ends: at its right, or in the middle of its line
unfoldable pub label_x : PictureLists → ℕ → ℕ → Option Link → ℕ
label_x p left x None = x + 9
label_x p left x (Some to) = (x + x_of_end p left to.far) / 2

unfoldable pub label_anchor : Option Link → List ℕ
label_anchor None = codes "start"
label_anchor (Some to) = codes "middle"

unfoldable pub label_at : ℕ → ℕ → List ℕ → List ℕ → List ℕ → Content
label_at x y class anchor text =
    caption (number (codes "x") x ∷ number (codes "y") y ∷ word (codes "dy") (codes "9") ∷
    word (codes "class") class ∷ word (codes "text-anchor") anchor ∷ []) (text ∷ [])

abbrev pub label_text : PictureLists → ℕ → ℕ → ℕ → Option Named → Option Link → List ℕ → Content
label_text p left x y about to text = label_at (label_x p left x to) y (class_of about) (label_anchor to) text

abbrev pub label : PictureLists → ℕ → ℕ → ℕ → Option Named → Option Link → Option (List ℕ) → Content
label p left x y about to None = Contents.Nothing
label p left x y about to (Some text) = if has_text p then label_text p left x y about to text else Contents.Nothing

-- the message that the label names: a run's is its reply
abbrev pub labelled : Outcome → Row → Option Named
labelled (Out.Ran handler message sends) row = row.reply
labelled outcome row = row.about

-- the line, the sign and the texts of an entry whose sign stands at `x`
unfoldable pub mark : PictureLists → ℕ → ℕ → ℕ → Row → Content
mark p left x y row =
    Contents.Both (link p left x y row.about to)
    (Contents.Both (sign_at (sign_of row.entry.event row.entry.outcome) x y (class_of row.about))
    (Contents.Both (inner p x y (inner_of row.entry.outcome)) (label p left x y (labelled row.entry.outcome row) to (label_of row.entry.outcome))))
  where
    to : Option Link
    to = link_of row.entry.event row.entry.outcome

unfoldable pub row_head : PictureLists → ℕ → ℕ → Row → Content
row_head p y line row = Contents.Both (row_title row) (Contents.Both (fate_of p y row.about) (texts_of p y line row))

abbrev pub row_at : PictureLists → ℕ → ℕ → ℕ → Row → Content
row_at p left y line row = Contents.Both (row_head p y line row) (mark p left (x_of p left (spot_of row.entry.event)) y row)

-- the row of an entry that stands in this line of the report
unfoldable pub row_of : PictureLists → ℕ → ℕ → Row → Content
row_of p left line row = Contents.Both (Contents.Element (codes "g") [] (row_at p left (y_of p line) line row)) Contents.Break

-- a row in its line
abbrev pub placed_row : PictureLists → ℕ → PlacedRow → Content
placed_row p left placed = row_of p left placed.line placed.row
