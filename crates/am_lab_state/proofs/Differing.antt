-- A line that is looked for in a text, and told unless the text has it.
use Rattle.std.proofs.Common.{◌≡◌, ℕ, Bool, true, false, ◌||◌, List, ◌∷◌, ◌++◌, sym, refl, ap, ◌∙◌}
use Rattle.std.proofs.lemmas.List.{append-nil}
use Rattle.std.specs.List.{list_any}
use Rattle.am_lexer.specs.Text.{lines_of}
use Rattle.am_lab_state.specs.Differences.{HasLinesOf, has_line, line_unless, marked_line, same_line}

or_true : (a b : Bool) → b ≡ true → (a || b) ≡ true
or_true true b h = refl
or_true false b h = h

-- a text has the lines behind its first one
pub lines_behind : (rest after first : List ℕ) → lines_of rest ≡ first ∷ lines_of after → HasLinesOf rest after
lines_behind rest after first is line h =
    ap (list_any (same_line line)) is ∙ or_true (same_line line first) (list_any (same_line line) (lines_of after)) h

-- and so has one that has those of the first
pub further_behind : (text rest after first : List ℕ) → HasLinesOf text rest → lines_of rest ≡ first ∷ lines_of after → HasLinesOf text after
further_behind text rest after first part is line h = part line (lines_behind rest after first is line h)

pub known_put : (mark other line out : List ℕ) → has_line other line ≡ true → out ≡ out ++ marked_line mark other line
known_put mark other line out h = sym (ap (λ (b : Bool). out ++ line_unless b mark line) h ∙ append-nil out)

pub missing_put : (mark other line out new : List ℕ) → has_line other line ≡ false → new ≡ out ++ line_unless false mark line →
    new ≡ out ++ marked_line mark other line
missing_put mark other line out new h put = put ∙ sym (ap (λ (b : Bool). out ++ line_unless b mark line) h)
