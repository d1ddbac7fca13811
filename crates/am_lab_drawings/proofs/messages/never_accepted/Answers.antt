use Rattle.std.proofs.Common.{ℕ, List, [], ◌∷◌, ◌++◌, codes, ap, ◌∙◌}
use Rattle.am_main_lines.specs.Lines.{Answer}
use Rattle.am_office_text.specs.Words.{line, serial}
use Rattle.am_lab_drawings.proofs.messages.never_accepted.Goals as goal

abbrev told : List ℕ → Answer
told text = record { status = 0; text = text }

pub returns : goal.returns
returns c =
    let words = serial c.args.serial ∷ codes "was never accepted" ∷ [] in
    ap told (c.in_ok-put_line.ensures.ok ∙ ap (λ (text : List ℕ). text ++ line (codes "message") words) c.new-text.ensures.items)
