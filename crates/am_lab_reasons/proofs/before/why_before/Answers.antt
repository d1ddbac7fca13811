use Rattle.std.proofs.Common.{◌≡◌, ℕ, List}
use Rattle.am_lab_reasons.specs.Before.{TellsBefore}
use Rattle.am_lab_reasons.specs.Reasons.{reasons}
use Rattle.am_lab_reasons.proofs.Reported.{told_if}
use Rattle.am_lab_reasons.proofs.before.why_before.Goals as goal

pub returns : goal.returns
returns c =
    let a = c.args in
    let front = c.in_ok-front.front in
    told_if c.front_text.result (λ (out : List ℕ). out ≡ reasons front.scenario.plan front.journal a.serial)
    (TellsBefore a.form a.text.now a.line a.what a.serial)
    (λ out p. record { scenario = front.scenario; journal = front.journal; front = c.in_ok-front.ensures.front; text' = p })
    c.front_text.ensures
