-- What is drawn is sound, and its titles are the lines of its rows.
use Rattle.std.proofs.Common.{◌≡◌, ℕ, zero, suc, ◌+◌, ◌-◌, ◌*◌, ◌/◌, ◌==◌, true, List, [], ◌∷◌, ◌++◌, codes, flat_map, map, replicate, Option, Some, None, refl, ap, sym, subst}
use Rattle.std.proofs.Common.{append_assoc}
use Rattle.std.specs.Fmt.{decimal}
use Rattle.am_names.specs.Packets.{from_of, number_of, receiver_of}
use Rattle.am_names.specs.declared.EndpointId.{EndpointId}
use Rattle.am_names.specs.declared.Packet.{Packet}
use Rattle.am_office_text.specs.Words.{tag}
use Rattle.am_check_lines.specs.Grammar.{printed}
use Rattle.am_lab_picture.specs.Data.{LaneLists, PictureLists}
use Rattle.am_lab_picture.specs.declared.data.Arrow.{Arrow}
use Rattle.am_lab_picture.specs.declared.data.Cross.{Cross}
use Rattle.am_lab_picture.specs.declared.data.Named.{Named as Message}
use Rattle.am_lab_picture.specs.declared.data.PlacedRow.{PlacedRow}
use Rattle.am_lab_picture.specs.declared.data.Residency.{Residency}
use Rattle.am_lab_picture.specs.declared.data.Residency.TheVariants as Places
use Rattle.am_lab_picture.specs.declared.data.Row.{Row}
use Rattle.am_lab_picture.specs.declared.data.Span.{Span}
use Rattle.am_lab_xml.specs.Trees.{Content, each}
use Rattle.am_lab_xml.specs.Trees.{Content as Contents}
use Rattle.am_lab_picture.specs.declared.layout.signs.Link.{Link}
use Rattle.am_lab_chart.specs.declared.tables.TheConstants.{STYLE}
use Rattle.am_lab_xml.specs.Escaped.{is_text}
use Rattle.am_lab_picture.specs.Layout.Layout.{band_left, band_width, has_interfaces, has_text, height, left_of, top, width, x_of_end, x_of_interface, y_of}
use Rattle.am_lab_picture.specs.Layout.Words.{class_of, fate_class, fate_sign, frame_of, place_class}
use Rattle.am_lab_chart.specs.Captions.{Word, caption, holding, joined, sign_at}
use Rattle.am_lab_picture.specs.Layout.Signs.{ending_sign, inner_of, label_of, sign_of, spot_of}
use Rattle.am_lab_chart.specs.Bars.{amount, bar, bar_title, frame_caption, frame_part, has_room, lane_bars, level_title, level_width, place_name, place_title, received}
use Rattle.am_lab_chart.specs.Bars.{records, stretch}
use Rattle.am_lab_chart.specs.Ways.{arc, arrow_title, cross_title, drawn_arrow, drawn_cross, is_own, message, straight, way_title}
use Rattle.am_lab_chart.specs.Rows.{fate_of, fate_x, inner, inner_text, label, label_at, label_text, labelled, line_number, line_text, link, link_line, mark}
use Rattle.am_lab_chart.specs.Rows.{placed_row, row_head, row_of, row_title, texts_of, x_of}
use Rattle.am_lab_chart.specs.Known.{occurs}
use Rattle.am_lab_chart.specs.Lanes.{band, dotted, end_head, end_title, end_words, head, interface, interface_lane, interface_title, interface_words, node_words, nodes, pages_of}
use Rattle.am_lab_chart.specs.Lanes.{repeated, tag_size, tag_words}
use Rattle.am_lab_chart.specs.Legends.{Drawn, Explained, Headed, arrow_head, head_attributes, meaning, meanings, shape, style}
use Rattle.am_lab_chart.specs.Tables.{heads}
use Rattle.am_lab_chart.specs.Drawing.{shapes, definitions, description, drawing, entries_of, front, inside, lanes_of, legend, page, scale, size_class, totals}
use Rattle.am_lab_chart.specs.Drawing.{svg_attributes}
use Rattle.am_lab_chart.specs.Titles.{head_titles, interface_titles, lane_titles, level_titles, nodes_titles, row_titles, titles_before}
use Rattle.am_lab_chart.proofs.Titled.{Has, Holds, a_title, both, break, choice, each_has, each_under, each_with, either, element, nothing, each_row, under_title}
use Rattle.am_lab_chart.proofs.Lines.{AreTexts, a_number, line_is_text, more, none, number_is_text, serial_is_text, tag_is_text}

sign : (s : List ℕ) (x y : ℕ) (class : List ℕ) → Has [] (sign_at s x y class)
unfolding sign_at
sign s x y class = record { sound = refl; plain = refl; led = refl; titles' = refl; rows' = refl }

-- ---- bars

amount_is_text : (count : Option ℕ) → is_text (amount count) ≡ true
amount_is_text None = refl
amount_is_text (Some n) = number_is_text n

bar_words : (end : EndpointId) (shown : Word) (count : Option ℕ) (from until : ℕ) → is_text shown ≡ true → AreTexts (bar_title end shown count from until)
bar_words end shown count from until h =
    more _ _ refl (a_number end.0 _ (more _ _ refl (more shown _ h (more _ _ (amount_is_text count) (more _ _ refl (a_number from _
    (more _ _ refl (a_number until _ none))))))))

box : (p : PictureLists) (class : Word) (x wide from until : ℕ) (told : List Word) → AreTexts told →
    Has (joined told ∷ []) (stretch p class x wide from until told)
unfolding stretch
box p class x wide from until told h = under_title (codes "rect") _ told [] refl refl refl h

frame_text : (p : PictureLists) (x from frame : ℕ) → Has [] (frame_caption p x from frame)
unfolding frame_caption caption holding
frame_text p x from frame = record { sound = refl; plain = refl; led = refl; titles' = refl; rows' = refl }

frame : (p : PictureLists) (x from until : ℕ) (f : Option ℕ) → Has [] (frame_part p x from until f)
frame p x from until None = nothing
frame p x from until (Some f) = choice (has_room p from until) (frame_caption p x from f) Contents.Nothing (frame_text p x from f) nothing

name_is_text : (place : Residency) → is_text (place_name place) ≡ true
unfolding place_name
name_is_text Places.Direct = refl
name_is_text (Places.Frame f) = refl
name_is_text (Places.Draining f) = refl
name_is_text Places.Host = refl
name_is_text Places.Disk = refl

place_bar : (p : PictureLists) (x : ℕ) (end : EndpointId) (span : Span Residency) → Has (joined (place_title end span) ∷ []) (bar p x end span)
unfolding bar
place_bar p x end span =
    both _ (frame_part p x span.from span.until (frame_of span.value))
    (box p (place_class span.value) (x + 28) 10 span.from span.until (place_title end span)
    (bar_words end (place_name span.value) (frame_of span.value) span.from span.until (name_is_text span.value)))
    (frame p x span.from span.until (frame_of span.value))

level_words : (end : EndpointId) (shown : Word) (span : Span ℕ) → is_text shown ≡ true → AreTexts (level_title end shown span)
level_words end shown span h = bar_words end shown (Some span.value) span.from span.until h

record_level : (p : PictureLists) (x : ℕ) (end : EndpointId) (span : Span ℕ) → Has (level_titles end (codes "records ") span) (records p x end span)
unfolding records
record_level p x end span =
    either (span.value == 0) Contents.Nothing _ [] _ nothing
    (box p (codes "records") (x + (28 - level_width span.value)) (level_width span.value) span.from span.until (level_title end (codes "records ") span)
    (level_words end (codes "records ") span refl))

received_level : (p : PictureLists) (x : ℕ) (end : EndpointId) (span : Span ℕ) → Has (level_titles end (codes "received ") span) (received p x end span)
unfolding received
received_level p x end span =
    either (span.value == 0) Contents.Nothing _ [] _ nothing
    (box p (codes "received") (x + 38) (level_width span.value) span.from span.until (level_title end (codes "received ") span)
    (level_words end (codes "received ") span refl))

bars : (p : PictureLists) (left : ℕ) (lane : LaneLists) → Has (lane_titles lane) (lane_bars p left lane)
unfolding lane_bars
bars p left lane =
    let x = left_of p left lane.id in
    both (each (bar p x lane.id) lane.residency) (Contents.Both (each (records p x lane.id) lane.records) (each (received p x lane.id) lane.received))
    (each_under (bar p x lane.id) (λ (span : Span Residency). joined (place_title lane.id span)) (place_bar p x lane.id) lane.residency)
    (both (each (records p x lane.id) lane.records) (each (received p x lane.id) lane.received)
    (each_with (records p x lane.id) (level_titles lane.id (codes "records ")) (record_level p x lane.id) lane.records)
    (each_with (received p x lane.id) (level_titles lane.id (codes "received ")) (received_level p x lane.id) lane.received))

-- ---- ways

message_is_text : (about : Option Message) → is_text (message about) ≡ true
message_is_text None = refl
message_is_text (Some about) = serial_is_text about.serial

way_words : (about : Option Message) (packet : Packet) (line : ℕ) (came end : Word) → is_text came ≡ true → is_text end ≡ true →
    AreTexts (way_title about packet line came end)
way_words about packet line came end h k =
    more _ _ (message_is_text about) (more _ _ refl (a_number (number_of packet) _ (more _ _ refl (a_number (from_of packet).0 _ (more _ _ refl
    (a_number (receiver_of packet).0 _ (more _ _ refl (a_number line _ (more came _ h (more end _ k none))))))))))

arrow_words : (a : Arrow) → AreTexts (arrow_title a)
arrow_words a = way_words a.about a.packet a.from (codes " to ") (decimal a.to) refl (number_is_text a.to)

straight_way : (p : PictureLists) (left : ℕ) (a : Arrow) → Has (joined (arrow_title a) ∷ []) (straight p left a)
unfolding straight
straight_way p left a = under_title (codes "line") _ (arrow_title a) [] refl refl refl (arrow_words a)

arc_way : (p : PictureLists) (left : ℕ) (a : Arrow) → Has (joined (arrow_title a) ∷ []) (arc p left a)
unfolding arc
arc_way p left a = under_title (codes "path") _ (arrow_title a) [] refl refl refl (arrow_words a)

way : (p : PictureLists) (left : ℕ) (a : Arrow) → Has (joined (arrow_title a) ∷ []) (drawn_arrow p left a)
way p left a = choice (is_own a.packet) (arc p left a) (straight p left a) (arc_way p left a) (straight_way p left a)

lost : (p : PictureLists) (left : ℕ) (c : Cross) → Has (joined (cross_title c) ∷ []) (drawn_cross p left c)
unfolding drawn_cross
lost p left c =
    under_title (codes "use") _ (cross_title c) [] refl refl refl (way_words c.about c.packet c.line (codes ", not received") [] refl refl)

-- ---- rows

own_title : (row : Row) → Has (printed row.entry ∷ []) (row_title row)
own_title row = a_title (printed row.entry) (line_is_text row.entry)

number_text : (y line : ℕ) → Has [] (line_number y line)
unfolding line_number caption holding
number_text y line = record { sound = refl; plain = refl; led = refl; titles' = refl; rows' = refl }

own_text : (y : ℕ) (row : Row) → Has [] (line_text y row)
unfolding line_text holding
own_text y row = record { sound = refl; plain = refl; led = refl; titles' = refl; rows' = refl }

row_texts : (p : PictureLists) (y line : ℕ) (row : Row) → Has [] (texts_of p y line row)
row_texts p y line row =
    choice (has_text p) (Contents.Both (line_number y line) (line_text y row)) Contents.Nothing
    (both (line_number y line) (line_text y row) (number_text y line) (own_text y row)) nothing

row_fate : (p : PictureLists) (y : ℕ) (about : Option Message) → Has [] (fate_of p y about)
row_fate p y None = nothing
row_fate p y (Some about) = sign (fate_sign about.fate) (fate_x p) y (fate_class about.fate)

a_line : (x far y : ℕ) (about : Option Message) (to : Link) → Has [] (link_line x far y about to.ending)
unfolding link_line
a_line x far y about to = record { sound = refl; plain = refl; led = refl; titles' = refl; rows' = refl }

row_link : (p : PictureLists) (left x y : ℕ) (about : Option Message) (to : Option Link) → Has [] (link p left x y about to)
row_link p left x y about None = nothing
row_link p left x y about (Some to) = both _ _ (a_line x _ y about to) (sign (ending_sign to.ending) _ y (class_of about))

sign_text : (x y : ℕ) (text : List ℕ) → Has [] (inner_text x y text)
unfolding inner_text caption holding
sign_text x y text = record { sound = refl; plain = refl; led = refl; titles' = refl; rows' = refl }

row_inner : (p : PictureLists) (x y : ℕ) (text : Option (List ℕ)) → Has [] (inner p x y text)
row_inner p x y None = nothing
row_inner p x y (Some text) = choice (has_text p) (inner_text x y text) Contents.Nothing (sign_text x y text) nothing

beside_text : (p : PictureLists) (left x y : ℕ) (about : Option Message) (to : Option Link) (text : List ℕ) → Has [] (label_text p left x y about to text)
unfolding label_at caption holding
beside_text p left x y about to text = record { sound = refl; plain = refl; led = refl; titles' = refl; rows' = refl }

row_label : (p : PictureLists) (left x y : ℕ) (about : Option Message) (to : Option Link) (text : Option (List ℕ)) → Has [] (label p left x y about to text)
row_label p left x y about to None = nothing
row_label p left x y about to (Some text) = choice (has_text p) (label_text p left x y about to text) Contents.Nothing (beside_text p left x y about to text)
    nothing

row_mark : (p : PictureLists) (left x y : ℕ) (row : Row) → Has [] (mark p left x y row)
unfolding mark
row_mark p left x y row =
    both _ _ (row_link p left x y row.about _)
    (both _ _ (sign (sign_of row.entry.event row.entry.outcome) x y (class_of row.about))
    (both _ _ (row_inner p x y (inner_of row.entry.outcome)) (row_label p left x y (labelled row.entry.outcome row) _ (label_of row.entry.outcome))))

head_has : (p : PictureLists) (y line : ℕ) (row : Row) → Has (printed row.entry ∷ []) (row_head p y line row)
unfolding row_head
head_has p y line row = both _ _ (own_title row) (both _ _ (row_fate p y row.about) (row_texts p y line row))

-- an element that is a row
a_row : {t : List Word} (row : Row) (more rest : Content) → Has t (Contents.Both (Contents.Both (row_title row) more) rest) →
    Holds (printed row.entry ∷ []) t (Contents.Element (codes "g") [] (Contents.Both (Contents.Both (row_title row) more) rest))
unfolding holding
a_row row more rest h =
    record {
      sound = rw h.sound refl;
      plain = h.plain;
      led = rw (line_is_text row.entry, h.led) refl;
      titles' = h.titles';
      rows' = rw h.rows' refl;
    }

row_has : (p : PictureLists) (left line : ℕ) (row : Row) → Holds (printed row.entry ∷ []) (printed row.entry ∷ []) (row_of p left line row)
unfolding row_of row_head
row_has p left line row =
    let y = y_of p line in
    let x = x_of p left (spot_of row.entry.event) in
    both _ Contents.Break
    (a_row row (Contents.Both (fate_of p y row.about) (texts_of p y line row)) (mark p left x y row) (both _ _ (head_has p y line row) (row_mark p left x y row)))
    break

-- ---- lanes

words_have : (class : Word) (x y : ℕ) (size : Word) (told words : List Word) → AreTexts told → Has (joined told ∷ []) (head class x y size told words)
unfolding head
words_have class x y size told words h = under_title (codes "text") _ told words refl refl refl h

one_more : (n : ℕ) (t : Word) → replicate n t ++ t ∷ [] ≡ t ∷ replicate n t
one_more zero t = refl
one_more (suc n) t = ap (λ (rest : List Word). t ∷ rest) (one_more n t)

repeated_has : (x : ℕ) (told words : List Word) → AreTexts told → (n : ℕ) → Has (replicate n (joined told)) (repeated x told words n)
repeated_has x told words h zero = nothing
repeated_has x told words h (suc n) =
    subst (λ (titles : List Word). Has titles (repeated x told words (suc n))) (one_more n (joined told))
    (both (repeated x told words n) _ (repeated_has x told words h n)
    (words_have (codes "again") x (top + 912 + 918 * n) (codes "9") told words h))

end_words_are_texts : (lane : LaneLists) → AreTexts (end_title lane)
end_words_are_texts lane =
    more _ _ refl (a_number lane.id.0 _ (more _ _ refl (a_number lane.node.0 _ (more _ _ refl (more (tag lane.tag) _ (tag_is_text lane.tag) none)))))

end_has : (p : PictureLists) (left : ℕ) (lane : LaneLists) → Has (head_titles p lane) (end_head p left lane)
unfolding end_head
end_has p left lane =
    let x = x_of_end p left lane.id in
    let h = end_words_are_texts lane in
    both _ _ (words_have (codes "head") x (top - 20) (codes "9") (end_title lane) (end_words lane) h)
    (both _ _ (words_have (codes "head") x (top - 8) (tag_size lane.tag) (end_title lane) (tag_words lane) h)
    (repeated_has x (end_title lane) (end_words lane) h (pages_of p)))

a_word_and_number : (word : Word) (n : ℕ) → is_text word ≡ true → AreTexts (word ∷ decimal n ∷ [])
a_word_and_number word n h = more word _ h (a_number n _ none)

band_has : (p : PictureLists) (left node : ℕ) → Has (joined (node_words node) ∷ []) (band p left node)
unfolding band
band_has p left node =
    both _ _ (record { sound = refl; plain = refl; led = refl; titles' = refl; rows' = refl })
    (words_have (codes "head") (band_left p left node + band_width p node / 2) (top - 42) (codes "12") (node_words node) (node_words node)
    (a_word_and_number (codes "node ") node refl))

dotted_has : (p : PictureLists) (x : ℕ) (told : List Word) → AreTexts told → Has (joined told ∷ []) (dotted p x told)
unfolding dotted
dotted_has p x told h = under_title (codes "line") _ told [] refl refl refl h

lane_has : (p : PictureLists) (x node : ℕ) →
    Has (joined (interface_title node) ∷ joined (interface_title node) ∷ replicate (pages_of p) (joined (interface_title node))) (interface_lane p x node)
unfolding interface_lane
lane_has p x node =
    let h : AreTexts (interface_title node) = a_word_and_number (codes "interface of node ") node refl in
    both _ _ (words_have (codes "head") x (top - 8) (codes "9") (interface_title node) (interface_words node) h)
    (both _ _ (dotted_has p x (interface_title node) h) (repeated_has x (interface_title node) (interface_words node) h (pages_of p)))

interface_has : (p : PictureLists) (left node : ℕ) → Has (interface_titles p node) (interface p left node)
interface_has p left node =
    either (has_interfaces p.network) (interface_lane p (x_of_interface p left (record { 0 = node })) node) Contents.Nothing _ [] (lane_has p _ node) nothing

nodes_have : (p : PictureLists) (left n : ℕ) → Has (nodes_titles p n) (nodes p left n)
nodes_have p left zero = nothing
nodes_have p left (suc node) = both _ _ (nodes_have p left node) (both _ _ (band_has p left node) (interface_has p left node))

-- ---- what is the same in every picture

style_has : (rules : List ℕ) → Has [] (style rules)
unfolding holding
style_has rules = record { sound = refl; plain = refl; led = refl; titles' = refl; rows' = refl }

shape_has : (scaled : List ℕ) (s : Drawn) → Has [] (shape scaled s)
unfolding shape
shape_has scaled s = record { sound = refl; plain = refl; led = refl; titles' = refl; rows' = refl }

arrow_words_have : (h : Headed) → Has [] (arrow_head h)
unfolding arrow_head head_attributes
arrow_words_have h = record { sound = refl; plain = refl; led = refl; titles' = refl; rows' = refl }

meaning_has : (x y : ℕ) (m : Explained) → Has [] (meaning x y m)
unfolding meaning caption holding
meaning_has x y m = record { sound = refl; plain = refl; led = refl; titles' = refl; rows' = refl }

meanings_have : (p : PictureLists) (x y : ℕ) (ms : List Explained) → Has [] (meanings p x y ms)
meanings_have p x y [] = nothing
meanings_have p x y (m ∷ ms) =
    choice (occurs p m.key) (Contents.Both (meaning x y m) (meanings p (x + m.width) y ms)) (meanings p x y ms)
    (both _ _ (meaning_has x y m) (meanings_have p (x + m.width) y ms)) (meanings_have p x y ms)

description_has : (summary : List ℕ) → Has [] (description summary)
unfolding holding
description_has summary = record { sound = refl; plain = refl; led = refl; titles' = refl; rows' = refl }

page_has : (wide high : ℕ) → Has [] (page wide high)
unfolding page
page_has wide high = record { sound = refl; plain = refl; led = refl; titles' = refl; rows' = refl }

shapes_have : (scaled : List ℕ) → Has [] (shapes scaled)
unfolding shapes
shapes_have scaled =
    let some = each_has (shape scaled) (shape_has scaled) in both _ _ (some _) (both _ _ (some _) (both _ _ (some _) (both _ _ (some _) (some _))))

definitions_have : (p : PictureLists) → Has [] (definitions p)
unfolding definitions
definitions_have p = element (codes "defs") [] _ refl refl refl (both _ _ (shapes_have (scale p)) (each_has arrow_head arrow_words_have heads))

front_has : (p : PictureLists) → Has [] (front p)
unfolding front
front_has p = both _ _ (description_has p.summary) (both _ _ (style_has STYLE.now) (definitions_have p))

totals_have : (y : ℕ) (summary : List ℕ) → Has [] (totals y summary)
unfolding holding
totals_have y summary = record { sound = refl; plain = refl; led = refl; titles' = refl; rows' = refl }

legend_has : (p : PictureLists) → Has [] (legend p)
unfolding legend
legend_has p =
    let some = meanings_have p 20 in
    both _ _ (some _ _) (both _ _ (some _ _) (both _ _ (some _ _) (both _ _ (some _ _) (both _ _ (some _ _) (totals_have _ p.summary)))))

-- ---- the whole

-- of the lanes, of the ways of packets, and of the rows
lanes_titles : PictureLists → List Word
lanes_titles p = nodes_titles p p.nodes ++ (flat_map lane_titles p.lanes ++ flat_map (head_titles p) p.lanes)

ways_titles : PictureLists → List Word
ways_titles p = map (λ (a : Arrow). joined (arrow_title a)) p.arrows ++ map (λ (c : Cross). joined (cross_title c)) p.crosses

lanes_have : (p : PictureLists) (left : ℕ) → Has (lanes_titles p) (lanes_of p left)
unfolding lanes_of lanes_titles
lanes_have p left =
    both _ _ (nodes_have p left p.nodes)
    (both _ _ (each_with (lane_bars p left) lane_titles (bars p left) p.lanes) (each_with (end_head p left) (head_titles p) (end_has p left) p.lanes))

entries_have : (p : PictureLists) (left : ℕ) → Holds (row_titles p) (ways_titles p ++ row_titles p) (entries_of p left)
unfolding entries_of ways_titles
entries_have p left =
    let arrows : List Word = map (λ (a : Arrow). joined (arrow_title a)) p.arrows in
    let crosses : List Word = map (λ (c : Cross). joined (cross_title c)) p.crosses in
    subst (λ (titles : List Word). Holds (row_titles p) titles (entries_of p left)) (sym (append_assoc arrows crosses (row_titles p)))
    (both _ _ (each_under (drawn_arrow p left) (λ (a : Arrow). joined (arrow_title a)) (way p left) p.arrows)
    (both _ _ (each_under (drawn_cross p left) (λ (c : Cross). joined (cross_title c)) (lost p left) p.crosses)
    (each_row (placed_row p left) (λ (placed : PlacedRow). printed placed.row.entry) (λ (placed : PlacedRow). row_has p left placed.line placed.row) p.rows)))

pub inside_has : (p : PictureLists) (left : ℕ) → Holds (row_titles p) (titles_before p ++ row_titles p) (inside p left)
unfolding inside lanes_titles ways_titles
inside_has p left =
    subst (λ (titles : List Word). Holds (row_titles p) titles (inside p left)) (sym (append_assoc (lanes_titles p) (ways_titles p) (row_titles p)))
    (both _ _ (front_has p) (both _ _ (page_has (width p left) (height p)) (both _ _ (legend_has p) (both _ _ (lanes_have p left) (entries_have p left)))))

pub drawing_has : (p : PictureLists) (left : ℕ) → Holds (row_titles p) (titles_before p ++ row_titles p) (drawing p left)
unfolding drawing
drawing_has p left = element (codes "svg") (svg_attributes (size_class p) (width p left) (height p)) (inside p left) refl refl refl (inside_has p left)
