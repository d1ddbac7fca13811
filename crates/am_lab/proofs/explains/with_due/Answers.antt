use Rattle.std.proofs.Common.{ℕ, List, ◌++◌, inr, ap, ◌∙◌}
use Rattle.am_main_lines.specs.Lines.{Answer, answer_in}
use Rattle.am_lab.proofs.explains.with_due.Goals as goal

abbrev with_text : ℕ → List ℕ → Answer
with_text status text = record { status = status; text = text }

pub returns-in-Ok : goal.returns-in-Ok
returns-in-Ok c =
    let o = c.args.output in
    record {
      checked = answer_in o;
      checks = c.requires.checks;
      more = inr (record {
        number = c.args.line;
        what = c.args.what;
        verdict = c.requires.stopped;
        due = c.in_ok-more.more.items;
        due' = c.in_ok-more.ensures;
        answer' = c.in-Ok.ensures ∙ ap (λ (t : List ℕ). with_text o.status (o.text.items ++ t)) c.deref.ensures.value;
      });
    }
