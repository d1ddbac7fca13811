-- The lines of a text that lines make.
use Rattle.std.proofs.Common.{◌≡◌, ℕ, Bool, true, false, eqb, List, [], ◌∷◌, ◌++◌, refl, sym, subst, ap, ◌∙◌, inl, inr}
use Rattle.std.specs.List.{onto_first}
use Rattle.std.specs.Prelude.{codes}
use Rattle.am_lexer.specs.Text.{lines_of}
use Rattle.am_lab_shrink.specs.Lines.{IsSubsequence, ended, text_of}

-- no newline stands in it
abbrev HasNoEnd : List ℕ → Type 0
HasNoEnd [] = Unit {0}
HasNoEnd (byte ∷ line) = (eqb byte 10 ≡ false) × HasNoEnd line

abbrev AreLines : List (List ℕ) → Type 0
AreLines [] = Unit {0}
AreLines (line ∷ lines) = HasNoEnd line × AreLines lines

ended_line : (line rest : List ℕ) → HasNoEnd line → lines_of ((line ++ codes "\n") ++ rest) ≡ line ∷ lines_of rest
unfolding lines_of
ended_line [] rest none = refl
ended_line (byte ∷ line) rest none = rw (none.0, ended_line line rest none.1) refl

back : (lines : List (List ℕ)) → AreLines lines → lines_of (text_of lines) ≡ lines
unfolding lines_of
back [] are = refl
back (line ∷ lines) are = ended_line line (text_of lines) are.0 ∙ ap (λ (l : List (List ℕ)). line ∷ l) (back lines are.1)

onto : (byte : ℕ) (lines : List (List ℕ)) → eqb byte 10 ≡ false → AreLines lines → AreLines (onto_first byte lines)
onto byte [] other are = ((other, tt), tt)
onto byte (line ∷ lines) other are = ((other, are.0), are.1)

by_byte : (byte : ℕ) (text : List ℕ) (b : Bool) → eqb byte 10 ≡ b → AreLines (lines_of text) → AreLines (lines_of (byte ∷ text))
unfolding lines_of
by_byte byte text true is are = rw is (tt, are)
by_byte byte text false is are = rw is (onto byte (lines_of text) is are)

are_lines : (text : List ℕ) → AreLines (lines_of text)
unfolding lines_of
are_lines [] = tt
are_lines (byte ∷ text) = by_byte byte text (eqb byte 10) refl (are_lines text)

some_are : (some all : List (List ℕ)) → IsSubsequence some all → AreLines all → AreLines some
some_are [] all chosen are = tt
some_are (line ∷ some) [] chosen are = absurd chosen
some_are (line ∷ some) (other ∷ all) chosen are = elim chosen [
  | inl here ↦ (subst HasNoEnd (sym here.0) are.0, some_are some all here.1 are.1)
  | inr later ↦ some_are (line ∷ some) all later are.1
]

-- the text of some lines of a text has these lines
pub spelled : (lines : List (List ℕ)) (text : List ℕ) → IsSubsequence lines (lines_of text) → lines_of (text_of lines) ≡ lines
spelled lines text chosen = back lines (some_are lines (lines_of text) chosen (are_lines text))
