use Rattle.std.proofs.Common.{ℕ, List, ◌++◌, ap, ◌∙◌}
use Rattle.am_main_lines.specs.Lines.{Answer}
use Rattle.am_lab.proofs.fronts.told_before.Goals as goal

abbrev with_text : ℕ → List ℕ → Answer
with_text status text = record { status = status; text = text }

pub returns-in-Ok : goal.returns-in-Ok
returns-in-Ok c =
    let o = c.args.checked in
    record {
      out = c.in_ok-more.more.items;
      tells = c.in_ok-more.ensures;
      answer' = c.in-Ok.ensures ∙ ap (λ (t : List ℕ). with_text o.status (o.text.items ++ t)) c.deref.ensures.value;
    }
