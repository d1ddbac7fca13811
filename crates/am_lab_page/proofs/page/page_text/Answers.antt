use Rattle.std.proofs.Common.{ℕ}
use Rattle.std.specs.Global.{Vec}
use Rattle.std.specs.Option.{option_map}
use Rattle.am_lab_page.proofs.Paging.{page_put}
use Rattle.am_lab_page.proofs.page.page_text.Goals as goal

pub returns : goal.returns
returns c =
    page_put c.args.journal.now c.args.picture.now c.in_ok-text.text.items c.put_last.new.text.items (option_map (λ (v : Vec ℕ). v.items) c.args.told)
    c.in_ok-text.ensures c.in_ok-put_last.ensures
