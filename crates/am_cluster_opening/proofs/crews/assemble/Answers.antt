use Rattle.std.proofs.Common.{rules, ◌≡◌, ◌+◌, Option, [], ◌∷◌, ◌++◌, length, ap, ◌∙◌, sym}
use Rattle.std.specs.Option.{option_to_list}
use Rattle.std.specs.Global.{Vec}
use Rattle.am_wire.specs.declared.receiving.LinkIn.{LinkIn}
use Rattle.am_wire.specs.declared.sending.LinkOut.{LinkOut}
use Rattle.am_cluster_opening.proofs.Linked.{AreMade, made_more, next_declared, next_links, next_opening}
use Rattle.am_cluster_opening.proofs.crews.assemble.Goals as goal

pub open_crew-requires-clause-opening : goal.open_crew-requires-clause-opening
open_crew-requires-clause-opening c =
    let outs : c.loop-opening.outs.items ≡ c.pop-in-Some.new.self.items ++ c.unwrap-node_outs.result ∷ [] = c.pop-in-Some.ensures.items
    ∙ ap (λ (x : Option (Vec LinkOut)). c.pop-in-Some.new.self.items ++ option_to_list x) c.unwrap-node_outs.ensures in
    let ins : c.loop-opening.ins.items ≡ c.pop-in-Some-2.new.self.items ++ c.unwrap-node_ins.result ∷ [] = c.pop-in-Some-2.ensures.items
    ∙ ap (λ (x : Option (Vec LinkIn)). c.pop-in-Some-2.new.self.items ++ option_to_list x) c.unwrap-node_ins.ensures in
    let so = coe 0 1 (i. AreMade c.args.scenario.now c.args.openings.items c.args.links.outs.items c.args.links.ins.items c.loop-opening.first
    c.loop-opening.crews.items (c.in-Some.ensures.items i) (outs i) (ins i)) c.loop-opening.invariant in
    next_opening c.args.scenario.now c.args.openings.items c.args.links c.loop-opening.first c.loop-opening.crews.items c.pop.new.self.items
    c.pop-in-Some.new.self.items c.pop-in-Some-2.new.self.items c.in-Some.opening c.unwrap-node_outs.result c.unwrap-node_ins.result c.requires.lawful
    c.requires.openings c.requires.links so

pub open_crew-requires-clause-declared : goal.open_crew-requires-clause-declared
open_crew-requires-clause-declared c =
    let outs : c.loop-opening.outs.items ≡ c.pop-in-Some.new.self.items ++ c.unwrap-node_outs.result ∷ [] = c.pop-in-Some.ensures.items
    ∙ ap (λ (x : Option (Vec LinkOut)). c.pop-in-Some.new.self.items ++ option_to_list x) c.unwrap-node_outs.ensures in
    let ins : c.loop-opening.ins.items ≡ c.pop-in-Some-2.new.self.items ++ c.unwrap-node_ins.result ∷ [] = c.pop-in-Some-2.ensures.items
    ∙ ap (λ (x : Option (Vec LinkIn)). c.pop-in-Some-2.new.self.items ++ option_to_list x) c.unwrap-node_ins.ensures in
    let so = coe 0 1 (i. AreMade c.args.scenario.now c.args.openings.items c.args.links.outs.items c.args.links.ins.items c.loop-opening.first
    c.loop-opening.crews.items (c.in-Some.ensures.items i) (outs i) (ins i)) c.loop-opening.invariant in
    next_declared c.args.scenario.now c.args.openings.items c.args.links c.loop-opening.first c.loop-opening.crews.items c.pop.new.self.items
    c.pop-in-Some.new.self.items c.pop-in-Some-2.new.self.items c.in-Some.opening c.unwrap-node_outs.result c.unwrap-node_ins.result c.requires.lawful
    c.requires.openings c.requires.links so

pub open_crew-requires-clause-links : goal.open_crew-requires-clause-links
open_crew-requires-clause-links c =
    let outs : c.loop-opening.outs.items ≡ c.pop-in-Some.new.self.items ++ c.unwrap-node_outs.result ∷ [] = c.pop-in-Some.ensures.items
    ∙ ap (λ (x : Option (Vec LinkOut)). c.pop-in-Some.new.self.items ++ option_to_list x) c.unwrap-node_outs.ensures in
    let ins : c.loop-opening.ins.items ≡ c.pop-in-Some-2.new.self.items ++ c.unwrap-node_ins.result ∷ [] = c.pop-in-Some-2.ensures.items
    ∙ ap (λ (x : Option (Vec LinkIn)). c.pop-in-Some-2.new.self.items ++ option_to_list x) c.unwrap-node_ins.ensures in
    let so = coe 0 1 (i. AreMade c.args.scenario.now c.args.openings.items c.args.links.outs.items c.args.links.ins.items c.loop-opening.first
    c.loop-opening.crews.items (c.in-Some.ensures.items i) (outs i) (ins i)) c.loop-opening.invariant in
    next_links c.args.scenario.now c.args.openings.items c.args.links c.loop-opening.first c.loop-opening.crews.items c.pop.new.self.items
    c.pop-in-Some.new.self.items c.pop-in-Some-2.new.self.items c.in-Some.opening c.unwrap-node_outs.result c.unwrap-node_ins.result c.requires.lawful
    c.requires.openings c.requires.links so

pub loop-opening-preserved : goal.loop-opening-preserved
loop-opening-preserved c =
    let outs : c.loop-opening.outs.items ≡ c.pop-in-Some.new.self.items ++ c.unwrap-node_outs.result ∷ [] = c.pop-in-Some.ensures.items
    ∙ ap (λ (x : Option (Vec LinkOut)). c.pop-in-Some.new.self.items ++ option_to_list x) c.unwrap-node_outs.ensures in
    let ins : c.loop-opening.ins.items ≡ c.pop-in-Some-2.new.self.items ++ c.unwrap-node_ins.result ∷ [] = c.pop-in-Some-2.ensures.items
    ∙ ap (λ (x : Option (Vec LinkIn)). c.pop-in-Some-2.new.self.items ++ option_to_list x) c.unwrap-node_ins.ensures in
    let so = coe 0 1 (i. AreMade c.args.scenario.now c.args.openings.items c.args.links.outs.items c.args.links.ins.items c.loop-opening.first
    c.loop-opening.crews.items (c.in-Some.ensures.items i) (outs i) (ins i)) c.loop-opening.invariant in
    let n : c.len.result ≡ length c.in_ok-crew.crew.threads.items = search rules in
    coe 0 1 (i. AreMade c.args.scenario.now c.args.openings.items c.args.links.outs.items c.args.links.ins.items (c.loop-opening.first + (sym n i + 2))
    (sym c.in_ok-push.ensures.items i) c.pop.new.self.items c.pop-in-Some.new.self.items c.pop-in-Some-2.new.self.items)
    (made_more c.args.scenario.now c.args.openings.items c.args.links c.loop-opening.first c.loop-opening.crews.items c.pop.new.self.items
    c.pop-in-Some.new.self.items c.pop-in-Some-2.new.self.items c.in-Some.opening c.unwrap-node_outs.result c.unwrap-node_ins.result c.requires.lawful
    c.requires.openings c.requires.links so c.in_ok-crew.crew c.in_ok-crew.ensures.crew c.in_ok-crew.ensures.first c.in_ok-crew.ensures.outs
    c.in_ok-crew.ensures.ins c.in_ok-crew.ensures.unused)
