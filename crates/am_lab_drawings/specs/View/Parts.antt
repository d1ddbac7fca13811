-- Which lines are shown.
use Rattle.std.specs.Prelude.{ℕ, ◌+◌, ◌-◌, Bool, ◌&&◌, nat_le, nat_lt, List, length, Option, Some, None, Result, Ok, Err, if◌then◌else◌}
use Rattle.am_office_entries.specs.declared.Entry.{Entry}
use Rattle.am_lab_picture.specs.declared.data.Lines.{Lines}
use Rattle.am_lab_drawings.specs.declared.view.parts.LineRange.{LineRange}
use Rattle.am_lab_drawings.specs.declared.view.parts.PictureFault.{PictureFault}
use Rattle.am_lab_drawings.specs.declared.view.parts.PictureFault.TheVariants.{NoSuchLines, TooManyRows}

-- whether a part has a line, and only lines of a journal with so many entries, whose first is the third of the report
abbrev pub is_within : ℕ → LineRange → Bool
is_within count part = nat_le 3 part.from && (nat_le part.from part.to && nat_lt part.to (count + 3))

-- lines that a picture may have rows for
abbrev pub few : Lines → Result Lines PictureFault
few lines = if nat_le lines.count 20_000 then Ok lines else Err TooManyRows

abbrev pub part_lines : LineRange → Lines
part_lines part = record { first = part.from; count = part.to + 1 - part.from }

-- the lines that a part names of a journal with so many entries, or all of its lines
abbrev pub lines_of : ℕ → Option LineRange → Result Lines PictureFault
lines_of count None = few (record { first = 3; count = count })
lines_of count (Some part) = if is_within count part then few (part_lines part) else Err NoSuchLines

-- all lines of a journal
abbrev pub all_lines : List Entry → Lines
all_lines journal = record { first = 3; count = length journal }
