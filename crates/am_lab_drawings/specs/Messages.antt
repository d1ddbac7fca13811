-- What `chart` draws of one message.
use Rattle.std.specs.Prelude.{◌≡◌, ◌==◌, ℕ, nat_le, List, [], ◌∷◌, codes, length, if◌then◌else◌}
use Rattle.am_lab_chart.specs.Drawing.{svg_of}
use Rattle.am_lab_drawings.specs.Charts.{too_many_rows}
use Rattle.am_lab_drawings.specs.View.Messages.{ShowsMessage}
use Rattle.am_lab_picture.specs.Data.{PictureLists}
use Rattle.am_main_lines.specs.Lines.{Answer}
use Rattle.am_names.specs.declared.Serial.{Serial}
use Rattle.am_office_text.specs.Words.{line, serial}
use Rattle.am_scenario_types.specs.declared.parts.Form.{Form}

-- the answer where no entry touches the message, as `why` gives it
abbrev pub never_accepted : Serial → Answer
never_accepted s = record { status = 0; text = line (codes "message") (serial s ∷ codes "was never accepted" ∷ []) }

abbrev pub message_drawing : Serial → PictureLists → Answer
message_drawing s p =
    if length p.rows == 0 then never_accepted s
    else (if nat_le (length p.rows) 20_000 then record { status = 0; text = svg_of p } else too_many_rows)

-- what is shown of a message of the report in a text is drawn
pub record ChartsMessage (form : Form) (text : List ℕ) (s : Serial) (answer : Answer) : Type 0 where
  pub shown : PictureLists
  pub shows : ShowsMessage form text s shown
  pub answer' : answer ≡ message_drawing s shown
