use Rattle.std.proofs.Common.{ℕ, ◌+◌, ap, ◌∙◌}
use Rattle.am_lab_picture.specs.Rows.{stands_between}
use Rattle.am_lab_picture.proofs.messages.is_seen.Goals as goal

pub returns : goal.returns
returns g c =
    c.stands_between.ensures
    ∙ ap (λ (from : ℕ). stands_between c.args.rows.now from (c.from-2.result + 1)) c.from.ensures
    ∙ ap (λ (until : ℕ). stands_between c.args.rows.now c.args.span.now.from (until + 1)) c.from-2.ensures
