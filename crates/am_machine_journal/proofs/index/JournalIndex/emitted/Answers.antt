use Rattle.std.specs.Prelude.{slice_index_or}
use Rattle.std.proofs.Common.{◌≡◌, ◌<◌, ℕ, length, map, ap, sym, ◌∙◌, subst, arith}
use Rattle.am_machine_journal.specs.Index.Kept.{items_of}
use Rattle.am_machine_journal.specs.Index.Places.{link}
use Rattle.am_machine_journal.specs.Index.View.{IndexView, IsIndexOf}
use Rattle.am_machine_journal.proofs.Growing.{emitted_here}
use Rattle.am_machine_journal.proofs.Lists.{index_map}
use Rattle.am_machine_journal.proofs.index.JournalIndex.emitted.Goals as goal

pub returns : goal.returns
returns c past is =
    let j = c.self.inside in
    let links = j.packets.items in
    let one = c.index.result.now in
    let many = c.self.invariant.links in
    let was = subst (λ (v : IndexView). IsIndexOf past v.read) (sym c.self.view_is) is in
    let within : link c.args.from c.args.to < length links = omega (arith, many, c.requires.from, c.requires.to) in
    let at : one.items ≡ slice_index_or (map items_of links) (link c.args.from c.args.to) one.items =
    ap items_of c.index.ensures
    ∙ ap (λ (k : ℕ). items_of (slice_index_or links k one)) c.link.ensures
    ∙ sym (index_map items_of links (link c.args.from c.args.to) one one.items within) in
    c.as_slice.ensures.value
    ∙ emitted_here past j.receipts (map items_of links) c.args.from c.args.to one.items was.read c.requires.from c.requires.to at
