-- How the shapes of the signs and the arrow heads stand in the program: as one text, with bytes that stand for what comes again.
use Rattle.std.specs.Prelude.{ℕ, ◌==◌, List, [], ◌∷◌, codes, flat_map, if◌then◌else◌}
use Rattle.am_lab_picture.specs.Data.{PictureLists}
use Rattle.am_lab_picture.specs.Layout.Layout.{has_text}

-- what stands between a shape's name and its area
unfoldable pub scaled : PictureLists → List ℕ
scaled p =
    if has_text p then codes "\" transform=\"scale(1)\"><path class=\"area\" d=\"" else codes "\" transform=\"scale(.4)\"><path class=\"area\" d=\""

-- what a byte stands for: `[`, `(`, `)` and `]` for what stands round a shape's name, area and edge, `{`, `:` and `}` for what stands
-- round an arrow head's name and class, and any other for itself
unfoldable pub spelled_byte : List ℕ → ℕ → List ℕ
spelled_byte scale byte =
    if byte == 91 then codes "<g id=\"" else
    (if byte == 40 then scale else
    (if byte == 41 then codes "\"/><path class=\"edge\" d=\"" else
    (if byte == 93 then codes "\"/></g>" else
    (if byte == 123 then codes "<marker id=\"" else
    (if byte == 58 then codes "\" class=\"" else
    (if byte == 125
    then codes "\" viewBox=\"0 0 8 8\" refX=\"7\" refY=\"4\" markerWidth=\"5\" markerHeight=\"5\" orient=\"auto\"><path class=\"area\" d=\"M0 0L8 4L0 8z\"/></marker>"
    else byte ∷ []))))))

unfoldable pub spelled : List ℕ → List ℕ → List ℕ
spelled scale text = flat_map (spelled_byte scale) text
