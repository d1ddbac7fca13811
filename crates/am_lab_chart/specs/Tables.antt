-- What is the same in every picture: the shapes of the signs, and the legend.
use Rattle.std.specs.Prelude.{ℕ, List, [], ◌∷◌, codes}
use Rattle.am_lab_chart.specs.Legends.{Drawn, Explained, Headed}

abbrev pub drawn : List ℕ → List ℕ → List ℕ → Drawn
drawn id area edge = record { id = id; area = area; edge = edge }

abbrev pub headed : List ℕ → List ℕ → Headed
headed id class = record { id = id; class = class }

-- what occurs by this word, its sign in a class, dashed so, the room that it takes, and what it stands for
abbrev pub explained : List ℕ → List ℕ → List ℕ → List ℕ → ℕ → List ℕ → Explained
explained key sign class dashes width text = record { key = key; sign = sign; class = class; dashes = dashes; width = width; text = text }

-- a sign that is known by itself, in dark grey
abbrev pub sign : List ℕ → ℕ → List ℕ → Explained
sign name width text = explained name name (codes "plain") (codes "none") width text

-- the shapes of what calls come to
unfoldable pub call_shapes : List Drawn
call_shapes =
    drawn (codes "request") (codes "M-6-5L6 0L-6 5z") (codes "M0 0") ∷
    drawn (codes "run") (codes "M-7 0a7 7 0 1 0 14 0a7 7 0 1 0-14 0z") (codes "M0 0") ∷
    drawn (codes "notice") (codes "M-6-6h12v12h-12z") (codes "M0 0") ∷
    drawn (codes "refused") (codes "M0 0") (codes "M-5-5L5 5M-5 5L5-5") ∷
    drawn (codes "blocked") (codes "M-8-2h16v4h-16z") (codes "M0 0") ∷
    drawn (codes "given-up") (codes "M-6 0L0-6L6 0L0 6z") (codes "M0 0") ∷
    drawn (codes "closed") (codes "M0 0") (codes "M-9-2h18M-9 2h18") ∷
    drawn (codes "wanted") (codes "M-5 3L0-5L5 3z") (codes "M0 0") ∷ []

-- the shapes of what happens beside calls
unfoldable pub event_shapes : List Drawn
event_shapes =
    drawn (codes "done") (codes "M-3 0a3 3 0 1 0 6 0a3 3 0 1 0-6 0z") (codes "M0 0") ∷
    drawn (codes "nothing") (codes "M0 0") (codes "M-3 0a3 3 0 1 0 6 0a3 3 0 1 0-6 0z") ∷
    drawn (codes "moved") (codes "M0 0") (codes "M-10 0h20") ∷
    drawn (codes "failed") (codes "M0 0") (codes "M-10 0h20M-4-5l8 10M-4 5l8-10") ∷
    drawn (codes "time-out") (codes "M0 0") (codes "M-5 0a5 5 0 1 0 10 0a5 5 0 1 0-10 0zM0-3V0h3") ∷
    drawn (codes "lost-right") (codes "M16 4l1.5-1.5l3.5 3.5l3.5-3.5l1.5 1.5l-3.5 3.5l3.5 3.5l-1.5 1.5l-3.5-3.5l-3.5 3.5l-1.5-1.5l3.5-3.5z") (codes "M0 0L18 6.5") ∷
    drawn (codes "lost-left") (codes "M-16 4l-1.5-1.5l-3.5 3.5l-3.5-3.5l-1.5 1.5l3.5 3.5l-3.5 3.5l1.5 1.5l3.5-3.5l3.5 3.5l1.5-1.5l-3.5-3.5z") (codes "M0 0L-18 6.5") ∷
    []

-- the shapes of what stands at the end of a line to an endpoint
unfoldable pub ending_shapes : List Drawn
ending_shapes =
    drawn (codes "taken") (codes "M0 0") (codes "M0 0") ∷ drawn (codes "arrived") (codes "M0 0") (codes "M0 0") ∷
    drawn (codes "stopped") (codes "M0 0") (codes "M0-6v12") ∷
    drawn (codes "settled") (codes "M0 0") (codes "M-5 0l4 4l6-8") ∷
    drawn (codes "requeued") (codes "M0 0") (codes "M4 2a4 4 0 1 1 0-4M5-6v4h-4") ∷
    drawn (codes "came-back") (codes "M0 0") (codes "M-4-4l8 8M-4 4l8-8") ∷
    drawn (codes "timed-out") (codes "M0 0") (codes "M-3-3a3 3 0 1 1 4 2.8c-1 .4-1 1-1 2M0 4v1.5") ∷ []

-- the shapes of fates
unfoldable pub fate_shapes : List Drawn
fate_shapes =
    drawn (codes "no-fate") (codes "M0 0") (codes "M-3 0h6") ∷
    drawn (codes "fate-ran") (codes "M0 0") (codes "M-5 0l4 4l6-8") ∷
    drawn (codes "fate-returned") (codes "M0 0") (codes "M-4-4l8 8M-4 4l8-8") ∷
    drawn (codes "fate-unknown") (codes "M0 0") (codes "M-3-3a3 3 0 1 1 4 2.8c-1 .4-1 1-1 2M0 4v1.5") ∷
    drawn (codes "fate-unknown-but-ran") (codes "M0 0") (codes "M-6-3a3 3 0 1 1 4 2.8c-1 .4-1 1-1 2M-3 4v1.5M1 2l2 2l4-6") ∷
    drawn (codes "fate-pending") (codes "M0 0") (codes "M-5 0h2M-1 0h2M3 0h2") ∷ []

-- the shapes that the legend has besides
unfoldable pub legend_shapes : List Drawn
legend_shapes =
    drawn (codes "box") (codes "M-6-6h12v12h-12z") (codes "M0 0") ∷ drawn (codes "way") (codes "M0 0") (codes "M-12 0h24") ∷ []

-- the arrow heads, one for each class of messages
unfoldable pub heads : List Headed
heads =
    headed (codes "head-plain") (codes "plain") ∷ headed (codes "head-ran") (codes "ran") ∷
    headed (codes "head-returned") (codes "returned") ∷ headed (codes "head-unknown") (codes "unknown") ∷
    headed (codes "head-unknown-but-ran") (codes "unknown-but-ran") ∷ headed (codes "head-pending") (codes "pending") ∷
    []

-- the legend of fates
unfoldable pub fate_meanings : List Explained
fate_meanings =
    explained (codes "ran") (codes "#fate-ran") (codes "ran") (codes "none") 49 (codes "ran") ∷
    explained (codes "returned") (codes "#fate-returned") (codes "returned") (codes "none") 75 (codes "returned") ∷
    explained (codes "unknown") (codes "#fate-unknown") (codes "unknown") (codes "none") 70 (codes "unknown") ∷
    explained (codes "unknown-but-ran") (codes "#fate-unknown-but-ran") (codes "unknown-but-ran") (codes "none") 117 (codes "unknown, but ran") ∷
    explained (codes "pending") (codes "#fate-pending") (codes "pending") (codes "none") 70 (codes "pending") ∷
    explained (codes "plain") (codes "#no-fate") (codes "plain") (codes "none") 226 (codes "no message, or none that was accepted") ∷
    []

-- the legend of bars
unfoldable pub bar_meanings : List Explained
bar_meanings =
    explained (codes "frame") (codes "#box") (codes "frame") (codes "none") 153 (codes "in a frame (its number)") ∷
    explained (codes "draining") (codes "#box") (codes "draining") (codes "none") 75 (codes "draining") ∷
    explained (codes "host") (codes "#box") (codes "host") (codes "none") 91 (codes "on the host") ∷
    explained (codes "disk") (codes "#box") (codes "disk") (codes "none") 70 (codes "on disk") ∷
    explained (codes "direct") (codes "#box") (codes "direct") (codes "none") 143 (codes "on the direct network") ∷
    explained (codes "records") (codes "#box") (codes "records") (codes "none") 200 (codes "records of requests that are out") ∷
    explained (codes "received") (codes "#box") (codes "received") (codes "none") 153 (codes "received and not polled") ∷
    []

-- the legend of calls
unfoldable pub call_meanings : List Explained
call_meanings =
    sign (codes "#request") 71 (codes "request") ∷
    sign (codes "#run") 122 (codes "run (its handler)") ∷
    sign (codes "#notice") 65 (codes "notice") ∷
    sign (codes "#refused") 98 (codes "refused call") ∷
    sign (codes "#blocked") 132 (codes "no room for a reply") ∷
    sign (codes "#given-up") 78 (codes "given up") ∷
    sign (codes "#closed") 65 (codes "closed") ∷
    []

-- the legend of other events
unfoldable pub event_meanings : List Explained
event_meanings =
    sign (codes "#done") 54 (codes "done") ∷
    sign (codes "#nothing") 131 (codes "nothing came of it") ∷
    sign (codes "#moved") 64 (codes "moved") ∷
    sign (codes "#failed") 101 (codes "device failed") ∷
    sign (codes "#time-out") 75 (codes "time-out") ∷
    sign (codes "#wanted") 65 (codes "wanted") ∷
    []

-- the legend of packets, and of what their sources are told
unfoldable pub way_meanings : List Explained
way_meanings =
    explained (codes "none") (codes "#way") (codes "plain") (codes "none") 90 (codes "request") ∷
    explained (codes "9 3") (codes "#way") (codes "plain") (codes "9 3") 80 (codes "reply") ∷
    explained (codes "2 3") (codes "#way") (codes "plain") (codes "2 3") 85 (codes "answer") ∷
    sign (codes "#lost-left") 106 (codes "never received") ∷
    sign (codes "#stopped") 101 (codes "refused there") ∷
    sign (codes "#settled") 106 (codes "accepted there") ∷
    sign (codes "#requeued") 75 (codes "put back") ∷
    sign (codes "#came-back") 75 (codes "returned") ∷
    sign (codes "#timed-out") 70 (codes "unknown") ∷
    []
