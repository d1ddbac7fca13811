-- The lines of a report.
use Rattle.std.proofs.Common.{◌≡◌, ℕ, ◌^◌, ◌<◌, ◌≤◌, ◌+◌, true, false, eqb, List, [], ◌∷◌, ◌++◌, length, drop, map, Some, refl, ap, ◌∙◌, append_assoc, arith}
use Rattle.std.proofs.Common.{length-append}
use Rattle.std.specs.Prelude.{codes}
use Rattle.std.specs.Fmt.{decimal}
use Rattle.std.specs.List.{flat_map}
use Rattle.std.proofs.lemmas.Bool.{and_parts, not-true}
use Rattle.std.proofs.lemmas.List.{append-nil}
use Rattle.am_lexer.specs.Text.{lines_of}
use Rattle.am_names.specs.declared.EndpointId.{EndpointId}
use Rattle.am_office_entries.specs.declared.Entry.{Entry}
use Rattle.am_office_text.specs.Words.{spaced}
use Rattle.am_office_text.specs.EntryLines.Lines.{line_of}
use Rattle.am_office_report.specs.Report.{report, journal_part, entries_line, end_part, messages_part, told}
use Rattle.am_check_lines.specs.Grammar.{printed}
use Rattle.am_check_lines.proofs.Cuts.{is_free}
use Rattle.am_check_lines.proofs.Decimals.{decimal_read}
use Rattle.am_check_lines.proofs.Lines.{printed_lines}
use Rattle.am_check.specs.Cut.{first_line}
use Rattle.am_check.specs.Verdict.{count_in, count_of}
use Rattle.am_check.proofs.Newlines.{printed_whole, decimal_whole}

-- a line and its newline in front of a text
line_first : (line text : List ℕ) → is_free 10 line ≡ true → lines_of (line ++ 10 ∷ text) ≡ line ∷ lines_of text
unfolding lines_of
line_first [] text h = refl
line_first (byte ∷ line) text h =
    let p = and_parts _ _ h in
    let other : eqb byte 10 ≡ false = not-true _ p.0 in
    rw (other, line_first line text p.1) refl

line_and_text : (line more text : List ℕ) → ((line ++ codes "\n") ++ more) ++ text ≡ line ++ 10 ∷ (more ++ text)
line_and_text line more text = simp append_assoc

journal_lines : (journal : List Entry) (text : List ℕ) → lines_of (flat_map line_of journal ++ text) ≡ map printed journal ++ lines_of text
journal_lines [] text = refl
journal_lines (x ∷ journal) text =
    let more = flat_map line_of journal in
    ap lines_of (ap (λ (l : List ℕ). (l ++ more) ++ text) (printed_lines x).whole ∙ line_and_text (printed x) more text)
    ∙ line_first (printed x) (more ++ text) (printed_whole x)
    ∙ ap (λ (ls : List (List ℕ)). printed x ∷ ls) (journal_lines journal text)

-- the second line
pub second : List Entry → List ℕ
second journal = codes "entries " ++ decimal (length journal)

-- what stands behind the lines of the journal
pub behind : List EndpointId → List Entry → List ℕ
behind ids journal = flat_map (λ (e : EndpointId). end_part journal e) ids ++ messages_part (told journal)

five : (a b c d e : List ℕ) → (((a ++ codes "\n") ++ ((b ++ codes "\n") ++ c)) ++ d) ++ e ≡ a ++ 10 ∷ (b ++ 10 ∷ (c ++ (d ++ e)))
five a b c d e = simp append_assoc

second_is : (journal : List Entry) → entries_line journal ≡ second journal ++ codes "\n"
unfolding entries_line second spaced
second_is journal = ap (λ (l : List ℕ). codes "entries " ++ (l ++ codes "\n")) (append-nil (decimal (length journal)))

report_is : (ids : List EndpointId) (journal : List Entry) → report ids journal ≡ first_line ++
    10 ∷ (second journal ++ 10 ∷ (flat_map line_of journal ++ behind ids journal))
unfolding report journal_part behind spaced
report_is ids journal =
    let lines = flat_map line_of journal in
    let ends = flat_map (λ (e : EndpointId). end_part journal e) ids in
    let messages = messages_part (told journal) in
    ap (λ (l : List ℕ). (((first_line ++ codes "\n") ++ (l ++ lines)) ++ ends) ++ messages) (second_is journal)
    ∙ five first_line (second journal) lines ends messages

second_whole : (journal : List Entry) → is_free 10 (second journal) ≡ true
unfolding second
second_whole journal = decimal_whole (length journal)

pub lines_are : (ids : List EndpointId) (journal : List Entry) →
    lines_of (report ids journal) ≡ first_line ∷ second journal ∷ (map printed journal ++ lines_of (behind ids journal))
lines_are ids journal =
    let lines = flat_map line_of journal ++ behind ids journal in
    ap lines_of (report_is ids journal)
    ∙ line_first first_line (second journal ++ 10 ∷ lines) refl
    ∙ ap (λ (ls : List (List ℕ)). first_line ∷ ls) (line_first (second journal) lines (second_whole journal)
    ∙ ap (λ (ls : List (List ℕ)). second journal ∷ ls) (journal_lines journal (behind ids journal)))

second_read : (journal : List Entry) → length journal < 2 ^ 64 → count_in (second journal) ≡ Some (length journal)
unfolding count_in second
second_read journal h = decimal_read (length journal) h

pub count_is : (ids : List EndpointId) (journal : List Entry) → length journal < 2 ^ 64 → count_of (lines_of (report ids journal)) ≡ Some (length journal)
count_is ids journal h = ap count_of (lines_are ids journal) ∙ second_read journal h

pub rest_is : (ids : List EndpointId) (journal : List Entry) → drop 2 (lines_of (report ids journal)) ≡ map printed journal ++ lines_of (behind ids journal)
rest_is ids journal = ap (drop 2) (lines_are ids journal)

-- each entry takes a byte at least
bytes_of : (journal : List Entry) → length journal ≤ length (flat_map line_of journal)
bytes_of [] = omega arith
bytes_of (x ∷ journal) =
    let more = bytes_of journal in
    let whole : length (line_of x) ≡ length (printed x) + 1 = ap length (printed_lines x).whole ∙ length-append (printed x) (codes "\n") in
    omega (arith, length-append (line_of x) (flat_map line_of journal), more, whole)

pub count_fits : (ids : List EndpointId) (journal : List Entry) → length journal ≤ length (report ids journal)
count_fits ids journal =
    let lines = flat_map line_of journal in
    let text : length (report ids journal) ≡ length (first_line ++ 10 ∷ (second journal ++ 10 ∷ (lines ++ behind ids journal))) =
    ap length (report_is ids journal) in
    omega (
      arith,
      text,
      bytes_of journal,
      length-append first_line (10 ∷ (second journal ++ 10 ∷ (lines ++ behind ids journal))),
      length-append (second journal) (10 ∷ (lines ++ behind ids journal)),
      length-append lines (behind ids journal),
    )
