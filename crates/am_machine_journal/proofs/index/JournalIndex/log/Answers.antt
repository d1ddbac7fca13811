use Rattle.std.specs.Prelude.{max, slice_index_or, IfSome, Option}
use Rattle.std.proofs.Common.{◌≡◌, ◌<◌, ◌^◌, ◌+◌, ◌++◌, ◌∷◌, [], ℕ, length, map, refl, ap, sym, ◌∙◌, subst}
use Rattle.std.proofs.lemmas.List.{length-map}
use Rattle.am_machine_journal.specs.Index.Kept.{items_of}
use Rattle.am_machine_journal.specs.Index.View.{CanCount, IndexView, IsIndexOf}
use Rattle.am_machine_journal.specs.Index.Places.{counted, receipt_place}
use Rattle.am_machine_journal.proofs.Growing as growing
use Rattle.am_machine_journal.proofs.index.JournalIndex.log.Goals as goal

pub count-requires-clause-small : goal.count-requires-clause-small
count-requires-clause-small c =
    let j = c.self.inside in
    let can = subst (λ (v : IndexView). CanCount v.read) (sym c.self.view_is) c.requires.counts in
    subst (λ (place : Option ℕ). IfSome place (λ k. slice_index_or j.receipts k 0 + 1 < 2 ^ 64)) (sym c.receipt_place.ensures)
    (growing.receipt_small j.receipts c.args.entry.now.event can.received c.self.invariant.numbers c.requires.nodes)

pub invariant_of-self : goal.invariant_of-self
invariant_of-self c =
    let j = c.self.inside in
    record {
      numbers = ap length (c.count.ensures ∙ ap (λ p. counted p j.receipts) c.receipt_place.ensures)
          ∙ growing.counted_length (receipt_place c.args.entry.now.event) j.receipts ∙ c.self.invariant.numbers;
      links =
          sym (length-map c.deliver.new.links.items items_of)
          ∙ ap length c.deliver.ensures
          ∙ growing.delivered_length c.args.packet (map items_of j.packets.items)
          ∙ length-map j.packets.items items_of
          ∙ c.self.invariant.links;
    }

pub returns : goal.returns
returns c past is =
    let j = c.self.inside in
    let x = c.args.entry.now in
    let was = subst (λ (v : IndexView). IsIndexOf past v.read) (sym c.self.view_is) is in
    let received : c.count.new.counts ≡ counted (receipt_place x.event) j.receipts = c.count.ensures ∙ ap (λ p. counted p j.receipts) c.receipt_place.ensures in
    let next = growing.read_more past j.receipts (map items_of j.packets.items) x c.args.packet was.read c.requires.packet
    (growing.nodes_within c.args.self.now c.args.packet c.requires.room) c.requires.nodes in
    record {
      greatest = c.max-self-inside.ensures ∙ ap (λ (n : ℕ). max n x.stamp) was.greatest ∙ sym (growing.greatest_push past x);
      read = growing.read_same _ _ _ (past ++ x ∷ []) c.count.new.counts (map items_of c.deliver.new.links.items) refl received c.deliver.ensures next;
    }
