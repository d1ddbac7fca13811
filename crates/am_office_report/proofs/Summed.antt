-- The summary's lines stand in the report.
use Rattle.std.proofs.Common.{◌≡◌, ℕ, List, [], ◌∷◌, ◌++◌, length, append_assoc}
use Rattle.std.specs.Prelude.{codes}
use Rattle.std.specs.Fmt.{decimal}
use Rattle.std.specs.List.{flat_map}
use Rattle.am_names.specs.declared.EndpointId.{EndpointId}
use Rattle.am_office_text.specs.EntryLines.Lines.{line_of}
use Rattle.am_office_text.specs.Words.{line}
use Rattle.am_office_report.specs.Report.{SummaryIsOfReport, report, journal_part, entries_line, end_part, messages_part, fate_line, told, totals}

-- six parts in a row, grouped to the second and the last
grouped : (a b c d e f g : List ℕ) → ((a ++ (b ++ c)) ++ d) ++ ((e ++ f) ++ g) ≡ ((a ++ b) ++ (c ++ (d ++ (e ++ f)))) ++ g
grouped a b c d e f g = simp append_assoc

pub summary_is_of_report : SummaryIsOfReport
unfolding report journal_part messages_part
summary_is_of_report ends journal =
    let ends' = flat_map (λ (e : EndpointId). end_part journal e) ends in
    let count = line (codes "messages") (decimal (length (told journal)) ∷ []) in
    let fates = flat_map fate_line (told journal) in (
      flat_map line_of journal ++ (ends' ++ (count ++ fates)),
      grouped (line (codes "am2") (codes "report" ∷ codes "1" ∷ [])) (entries_line journal) (flat_map line_of journal) ends' count fates
          (totals (told journal)),
    )
