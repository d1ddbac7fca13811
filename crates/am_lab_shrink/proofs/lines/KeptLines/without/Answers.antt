use Rattle.std.proofs.Common.{List, ap, ◌∙◌, ℕ}
use Rattle.std.specs.Borrow.{Bor}
use Rattle.std.specs.List.{remove_range}
use Rattle.am_lab_shrink.specs.Kept.{lines_behind}
use Rattle.am_lab_shrink.proofs.Behind.{part_left}
use Rattle.am_lab_shrink.proofs.lines.KeptLines.without.Goals as goal

pub returns : goal.returns
returns c =
    let left = c.in_ok-lines.ensures ∙ ap (λ (lines : List (Bor (List ℕ))). remove_range lines c.args.from c.args.to) c.deref.ensures.value in
    ap lines_behind left ∙ part_left c.args.from c.args.to c.self.inside.lines.items
    ∙ ap (λ (lines : List (List ℕ)). remove_range lines c.args.from c.args.to) c.self.view_is
