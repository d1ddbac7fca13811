use Rattle.std.proofs.Common.{◌≡◌, ◌++◌, ◌∷◌, [], Option, List, length, length-append, reverse, ap, ◌∙◌, sym, arith}
use Rattle.std.specs.Prelude.{◌+◌, vec_len}
use Rattle.std.specs.Option.{option_to_list}
use Rattle.std.proofs.lemmas.Grind.{common_steps}
use Rattle.am_iface.specs.View.{InterfaceView}
use Rattle.am_swap_device.specs.Memory.{Store}
use Rattle.am_machine.specs.declared.node.NodePart.{NodePart}
use Rattle.am_machine.specs.Node.Parts.{part_of, parts_of}
use Rattle.am_machine.proofs.Assembled.{assembled_more}
use Rattle.am_machine.proofs.node.assembling.assemble.Goals as goal

pub loop-shell-preserved : goal.loop-shell-preserved
loop-shell-preserved c =
    let kept = c.loop-shell.invariant in
    let shells : c.loop-shell.shells.items ≡ c.pop.new.self.items ++ c.in-Some.shell ∷ [] = c.in-Some.ensures.items in
    let interfaces : c.loop-shell.interfaces.items ≡ c.pop-in-Some.new.self.items ++ c.unwrap-iface.result ∷ [] = c.pop-in-Some.ensures.items
    ∙ ap (λ (o : Option InterfaceView). c.pop-in-Some.new.self.items ++ option_to_list o) c.unwrap-iface.ensures in
    let swaps : c.loop-shell.swaps.items ≡ c.pop-in-Some-2.new.self.items ++ c.unwrap-swap.result ∷ [] = c.pop-in-Some-2.ensures.items
    ∙ ap (λ (o : Option Store). c.pop-in-Some-2.new.self.items ++ option_to_list o) c.unwrap-swap.ensures in
    let n = ap (λ l. length l) shells ∙ length-append c.pop.new.self.items (c.in-Some.shell ∷ []) in
    let i = ap (λ l. length l) interfaces ∙ length-append c.pop-in-Some.new.self.items (c.unwrap-iface.result ∷ []) in
    let w = ap (λ l. length l) swaps ∙ length-append c.pop-in-Some-2.new.self.items (c.unwrap-swap.result ∷ []) in
    let same_i : length c.pop-in-Some.new.self.items ≡ length c.pop.new.self.items = (let e = kept.interfaces' in omega (arith, e, n, i)) in
    let same_w : length c.pop-in-Some-2.new.self.items ≡ length c.pop.new.self.items = (let e = kept.swaps' in omega (arith, e, n, w)) in
    let parts : c.push.new.self.items ≡ c.loop-shell.parts.items ++ part_of c.in-Some.shell c.unwrap-iface.result c.unwrap-swap.result ∷ [] =
    grind (arith, common_steps) in
    record {
      made =
          ap (λ (ps : List NodePart). parts_of c.pop.new.self.items c.pop-in-Some.new.self.items c.pop-in-Some-2.new.self.items ++ reverse ps) parts
          ∙ assembled_more c.pop.new.self.items c.pop-in-Some.new.self.items c.pop-in-Some-2.new.self.items c.in-Some.shell c.unwrap-iface.result
          c.unwrap-swap.result c.loop-shell.parts.items (parts_of c.args.shells.items c.args.interfaces.items c.args.swaps.items) same_i same_w
          ((λ k. parts_of (sym shells k) (sym interfaces k) (sym swaps k) ++ reverse c.loop-shell.parts.items) ∙ kept.made);
      interfaces' = same_i;
      swaps' = same_w;
      room = (let old = kept.room in let size : vec_len c.push.new.self ≡ vec_len c.loop-shell.parts + 1 = grind (arith, common_steps) in
          let capacity = c.push.ensures.capacity in omega (arith, old, size, capacity, n));
    }
