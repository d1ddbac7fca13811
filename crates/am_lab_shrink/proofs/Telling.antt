-- What is told of a report.
use Rattle.std.proofs.Common.{◌≡◌, ℕ, Bool, List, sym}
use Rattle.am_lab_shrink.specs.declared.reports.Making.{Making}
use Rattle.am_lab_shrink.specs.Reports.{Answers, IsOnly, TellsWhether, shows}
use Rattle.am_main_lines.specs.Lines.{Answer}

-- an answer was looked at
pub told : (making : Making) (words text : List ℕ) (answer : Answer) (shown : Bool) → Answers making text answer → IsOnly making text answer →
    shown ≡ shows words answer → TellsWhether making words text shown
told making words text answer shown answers only is = record { answer = answer; answers = answers; only = only; shown' = sym is }
