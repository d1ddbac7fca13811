use Rattle.std.proofs.Common.{◌≡◌, ℕ, List, [], ◌++◌, refl, ap, ◌∙◌, append_assoc}
use Rattle.am_office_entries.specs.Logged.Behind.{entries_behind}
use Rattle.am_office_report.specs.Report.{report, journal_part}
use Rattle.am_office_report.proofs.reports.text.Goals as goal

-- four parts, each appended to what was there
joined : (l j f m out0 out1 out2 out3 out4 : List ℕ) → out0 ≡ [] → out1 ≡ out0 ++ l → out2 ≡ out1 ++ j → out3 ≡ out2 ++ f → out4 ≡ out3 ++ m →
    out4 ≡ l ++ j ++ f ++ m
joined l j f m out0 out1 out2 out3 out4 e0 e1 e2 e3 e4 = rw (e4, e3, e2, e1, e0) refl

-- two parts are one
as_one : (n j old mid new : List ℕ) → mid ≡ old ++ n → new ≡ mid ++ j → new ≡ old ++ (n ++ j)
as_one n j old mid new first second = second ∙ ap (λ (l : List ℕ). l ++ j) first ∙ append_assoc old n j

pub returns : goal.returns
unfolding report journal_part
returns c =
    let journal = entries_behind c.args.entries.now in
    joined _ _ _ _ _ _ _ _ _ c.new-out.ensures.items c.in_ok-put_line.ensures.ok
    (as_one _ _ _ _ _ c.in_ok-put_count.ensures c.in_ok-walk.ensures.lines)
    (c.in_ok-end_parts.ensures journal (c.in_ok-walk.ensures.runs c.in_ok-runs.ensures)) (rw (
      c.deref.ensures.value,
      c.in_ok-messages.ensures journal (c.in_ok-walk.ensures.heard c.in_ok-heard.ensures),
    ) at c.in_ok-put_messages.ensures)
