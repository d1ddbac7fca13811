-- The bars of an endpoint's lane: where it lies, and beside it how much it holds.
use Rattle.std.specs.Prelude.{ℕ, Bool, ◌+◌, ◌-◌, ◌/◌, ◌==◌, ◌&&◌, nat_le, min, List, [], ◌∷◌, codes, Option, Some, None, if◌then◌else◌}
use Rattle.std.specs.Fmt.{decimal}
use Rattle.am_names.specs.declared.EndpointId.{EndpointId}
use Rattle.am_lab_picture.specs.Data.{LaneLists, PictureLists}
use Rattle.am_lab_picture.specs.declared.data.Residency.{Residency}
use Rattle.am_lab_picture.specs.declared.data.Residency.TheVariants as Places
use Rattle.am_lab_picture.specs.declared.data.Span.{Span}
use Rattle.am_lab_xml.specs.Trees.{Content, each}
use Rattle.am_lab_xml.specs.Trees.{Content as Contents}
use Rattle.am_lab_picture.specs.Layout.Layout.{has_text, left_of, y_of}
use Rattle.am_lab_picture.specs.Layout.Words.{place_class, frame_of}
use Rattle.am_lab_chart.specs.Captions.{Word, caption, number, titled, word}

-- ---- titles

-- where an endpoint lies, in front of the number of its frame
unfoldable pub place_name : Residency → Word
place_name Places.Direct = codes "direct network"
place_name (Places.Frame frame) = codes "frame "
place_name (Places.Draining frame) = codes "draining in frame "
place_name Places.Host = codes "host"
place_name Places.Disk = codes "disk"

abbrev pub amount : Option ℕ → Word
amount None = []
amount (Some n) = decimal n

-- the endpoint of a bar, what it shows, how much, and from which line to which
abbrev pub bar_title : EndpointId → Word → Option ℕ → ℕ → ℕ → List Word
bar_title end shown count from until =
    codes "endpoint " ∷ decimal end.0 ∷ codes ": " ∷ shown ∷ amount count ∷ codes ", line " ∷ decimal from ∷ codes " to " ∷ decimal until ∷ []

abbrev pub place_title : EndpointId → Span Residency → List Word
place_title end span = bar_title end (place_name span.value) (frame_of span.value) span.from span.until

abbrev pub level_title : EndpointId → Word → Span ℕ → List Word
level_title end shown span = bar_title end shown (Some span.value) span.from span.until

-- ---- bars

-- a box of this class, width and title, from one line of the report to another
unfoldable pub stretch : PictureLists → Word → ℕ → ℕ → ℕ → ℕ → List Word → Content
stretch p class x wide from until told =
    titled (codes "rect")
    (word (codes "class") class ∷ number (codes "x") x ∷ number (codes "y") (y_of p from) ∷
    number (codes "width") wide ∷ number (codes "height") (y_of p until - y_of p from) ∷ [])
    told []

-- the number of a frame at the bar's upper end, where there is room for it
abbrev pub has_room : PictureLists → ℕ → ℕ → Bool
has_room p from until = has_text p && nat_le (y_of p from + 14) (y_of p until)

unfoldable pub frame_caption : PictureLists → ℕ → ℕ → ℕ → Content
frame_caption p x from frame =
    caption (number (codes "x") (x + 33) ∷ number (codes "y") (y_of p from + 11) ∷ word (codes "class") (codes "in-frame") ∷ []) (decimal frame ∷ [])

abbrev pub frame_part : PictureLists → ℕ → ℕ → ℕ → Option ℕ → Content
frame_part p x from until None = Contents.Nothing
frame_part p x from until (Some frame) = if has_room p from until then frame_caption p x from frame else Contents.Nothing

-- the bar of an endpoint's place, 10 pixels wide in the middle of the lane whose left edge is `x`
unfoldable pub bar : PictureLists → ℕ → EndpointId → Span Residency → Content
bar p x end span =
    Contents.Both (stretch p (place_class span.value) (x + 28) 10 span.from span.until (place_title end span))
    (frame_part p x span.from span.until (frame_of span.value))

-- a level is wider, the more it counts, up to 48
abbrev pub level_width : ℕ → ℕ
level_width count = 2 + min count 48 / 2

-- how many records are out, at the bar's left; nothing is drawn for none
unfoldable pub records : PictureLists → ℕ → EndpointId → Span ℕ → Content
records p x end span =
    if span.value == 0 then Contents.Nothing
    else stretch p (codes "records") (x + (28 - level_width span.value)) (level_width span.value) span.from span.until
    (level_title end (codes "records ") span)

-- how many messages are received and not polled, at the bar's right
unfoldable pub received : PictureLists → ℕ → EndpointId → Span ℕ → Content
received p x end span =
    if span.value == 0 then Contents.Nothing
    else stretch p (codes "received") (x + 38) (level_width span.value) span.from span.until (level_title end (codes "received ") span)

abbrev pub bars_at : PictureLists → ℕ → LaneLists → Content
bars_at p x lane =
    Contents.Both (each (bar p x lane.id) lane.residency)
    (Contents.Both (each (records p x lane.id) lane.records) (each (received p x lane.id) lane.received))

-- the bars of a lane
unfoldable pub lane_bars : PictureLists → ℕ → LaneLists → Content
lane_bars p left lane = bars_at p (left_of p left lane.id) lane
