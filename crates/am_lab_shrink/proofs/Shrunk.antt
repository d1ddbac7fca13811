-- The lines of a text to begin with, and those that stay in the end.
use Rattle.std.proofs.Common.{◌≡◌, ℕ, ◌<◌, ◌≤◌, true, false, List, length, Result, Ok, Err, IfOk, sym, subst, ap, ◌∙◌, inr, arith}
use Rattle.std.specs.List.{remove}
use Rattle.am_lexer.specs.Text.{lines_of}
use Rattle.am_lab_shrink.specs.declared.reports.Making.{Making}
use Rattle.am_lab_shrink.specs.Lines.{IsSubsequence, text_of}
use Rattle.am_lab_shrink.specs.Reports.{Answers, IsOnly, TellsWhether, shows}
use Rattle.am_lab_shrink.specs.Shrinks.{IsShrunk, ShrinksFew}
use Rattle.am_lab_shrink.specs.Steps.{HaveLine, IsLeastText}
use Rattle.am_lab_shrink.proofs.Chosen.{are_all}
use Rattle.am_lab_shrink.proofs.SameLines.{same_answers, same_only}
use Rattle.am_lab_shrink.proofs.TextLines.{spelled}
use Rattle.am_main_lines.specs.Lines.{Answer, answer_in}
use Rattle.am_main_lines.specs.declared.outputs.Output.{Output}

-- the report of all lines is that of the text
pub all_have : (making : Making) (words text : List ℕ) (lines : List (List ℕ)) (first : Answer) → lines ≡ lines_of text → Answers making text first →
    IsOnly making text first → shows words first ≡ true → HaveLine making words lines
all_have making words text lines first are answers only shown =
    let same : lines_of text ≡ lines_of (text_of (lines_of text)) = sym (spelled (lines_of text) text (are_all (lines_of text))) in
    subst (λ (ls : List (List ℕ)). HaveLine making words ls) (sym are) (record {
      answer = first;
      answers = same_answers making text (text_of (lines_of text)) first same answers;
      only = same_only making text (text_of (lines_of text)) first same only;
      shown' = shown;
    })

is_shrunk : (making : Making) (words text shrunk : List ℕ) (lines : List (List ℕ)) → lines ≡ lines_of text → IsLeastText making words lines shrunk →
    IsShrunk making words text shrunk
is_shrunk making words text shrunk lines are t =
    let chosen : IsSubsequence t.kept (lines_of text) = subst (λ (ls : List (List ℕ)). IsSubsequence t.kept ls) are t.shrinks.lines in
    let same : lines_of shrunk ≡ t.kept = ap lines_of t.text' ∙ spelled t.kept text chosen in
    record {
      lines = subst (λ (ls : List (List ℕ)). IsSubsequence ls (lines_of text)) (sym same) chosen;
      shows' = subst (λ (out : List ℕ). TellsWhether making words out true) (sym t.text') t.shrinks.have;
      least = λ place below.
          let within : place < length t.kept = subst (λ (ls : List (List ℕ)). place < length ls) same below in
          let first : 0 ≤ place = omega arith in
          subst (λ (ls : List (List ℕ)). TellsWhether making words (text_of (remove ls place)) false) (sym same) (t.least place first within);
    }

-- the answer is the text that is left
pub shrunk_told : {E : Type 0} (making : Making) (words text : List ℕ) (lines : List (List ℕ)) (first : Answer) (result : Result Output E) → lines ≡ lines_of text →
    length lines ≤ 4096 → Answers making text first → IsOnly making text first → shows words first ≡ true →
    IfOk result (λ (output : Output). output.status ≡ 0) →
    IfOk result (λ (output : Output). IsLeastText making words lines output.text.items) →
    IfOk result (λ (output : Output). ShrinksFew making words text (answer_in output))
shrunk_told making words text lines first (Ok output) are few answers only shown status left = record {
  few = subst (λ (ls : List (List ℕ)). length ls ≤ 4096) are few;
  first = first;
  answers = answers;
  only = only;
  by = inr (inr (shown, status, is_shrunk making words text output.text.items lines are left));
}
shrunk_told making words text lines first (Err e) are few answers only shown status left = tt
