-- One line more.
use Rattle.std.proofs.Common.{◌≡◌, ℕ, List, [], ◌∷◌, Result, Ok, Err, refl, sym, ◌∙◌}
use Rattle.am_lexer.specs.declared.what.What.{What}
use Rattle.am_lexer.specs.Lines.{line_after}
use Rattle.am_session.specs.declared.script.LineFault.{LineFault}
use Rattle.am_session.specs.declared.script.LineFault.TheVariants as faults
use Rattle.am_session.specs.declared.script.SessionTextFault.{SessionTextFault}
use Rattle.am_session.specs.Answers.{Changes, Finishes, Answers, at_line}
use Rattle.am_session.specs.Grammar.{after_line, whole, read_from}
use Rattle.am_session.specs.Scripts.{Script, Said}

-- a line that was taken
pub line_taken : (number : ℕ) (said next : Said) (line : List ℕ) (lines : List (List ℕ)) (all : Result Script SessionTextFault)
    → after_line number said line ≡ Ok next → read_from number said (line ∷ lines) ≡ all → read_from (line_after number) next lines ≡ all
unfolding read_from
line_taken number said next line lines all e so_far = rw e at so_far

-- a line that was not
pub line_refused : (number : ℕ) (said next : Said) (line : List ℕ) (lines : List (List ℕ)) (all : Result Script SessionTextFault) (fault : LineFault)
    → Changes (Err fault) next (after_line number said line) → read_from number said (line ∷ lines) ≡ all → Answers (Err (at_line number fault)) all
unfolding read_from
line_refused number said next line lines all (faults.What what) e so_far = sym so_far ∙ rw e refl
line_refused number said next line lines all faults.NoMemory e so_far = tt

-- no line is left
pub all_taken : (number : ℕ) (said : Said) (script : Script) (all : Result Script SessionTextFault)
    → Finishes (Ok script) (whole said) → read_from number said [] ≡ all → Answers (Ok script) all
unfolding read_from
all_taken number said script all e so_far = sym so_far ∙ rw e refl

pub all_refused : (number : ℕ) (said : Said) (what : What) (all : Result Script SessionTextFault)
    → Finishes (Err what) (whole said) → read_from number said [] ≡ all → Answers (Err (at_line number (faults.What what))) all
unfolding read_from
all_refused number said what all e so_far = sym so_far ∙ rw e refl
