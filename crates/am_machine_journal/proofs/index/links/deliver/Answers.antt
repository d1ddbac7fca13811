use Rattle.std.specs.Prelude.{IfSome, Option}
use Rattle.std.proofs.Common.{◌≡◌, ◌<◌, [], ◌∷◌, ◌++◌, List, length, subst, sym, ap, ◌∙◌, arith, map, slice_set, slice_index_or}
use Rattle.std.proofs.lemmas.Grind.{common_steps}
use Rattle.am_names.specs.declared.Packet.{Packet}
use Rattle.am_machine_journal.specs.Index.Kept.{items_of}
use Rattle.am_machine_journal.specs.Index.Places.{delivered, link_of}
use Rattle.am_machine_journal.proofs.Lists.{index_map, map_set}
use Rattle.am_machine_journal.proofs.index.links.deliver.Goals as goal

pub returns-in-Some : goal.returns-in-Some
returns-in-Some c =
    let vs = c.args.links.now.items in
    let k = c.link_of.result in
    let was = c.index_mut.result.now in
    let items : c.push.new.self.items ≡ was.items ++ c.in-Some.packet ∷ [] = grind (arith, common_steps) in
    let there : link_of c.in-Some.packet < length vs = subst (λ (p : Option Packet). IfSome p (λ q. link_of q < length vs)) c.in-Some.is c.requires.within in
    let within : k < length vs = omega (arith, there, c.link_of.ensures) in
    let old : was.items ≡ slice_index_or (map items_of vs) k [] = ap items_of c.index_mut.ensures.value ∙ sym (index_map items_of vs k was [] within) in
    map_set items_of vs k c.push.new.self
    ∙ ap (slice_set (map items_of vs) k) (items ∙ ap (λ (ps : List Packet). ps ++ c.in-Some.packet ∷ []) old)
    ∙ (λ i. slice_set (map items_of vs) (c.link_of.ensures i) (slice_index_or (map items_of vs) (c.link_of.ensures i) [] ++ c.in-Some.packet ∷ []))
    ∙ ap (λ p. delivered p (map items_of vs)) (sym c.in-Some.is)
