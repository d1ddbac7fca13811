use Rattle.std.specs.Global.{Vec}
use Rattle.std.specs.Option.{option_map}
use Rattle.std.proofs.Common.{ℕ}
use Rattle.am_lab_page.proofs.Paging.{page_is}
use Rattle.am_lab_page.proofs.page.page_with.Goals as goal

pub returns : goal.returns
returns c = λ k.
    page_is c.args.journal.now c.args.picture.now (option_map (λ (v : Vec ℕ). v.items) c.in_ok-told.told) k.scenario k.report.journal c.in_ok-text.text.items
    c.in_ok-text.ensures (c.in_ok-told.ensures k)
