use Rattle.std.specs.Global.{Vec}
use Rattle.std.specs.List.{All}
use Rattle.std.proofs.Common.{◌≡◌, ◌+◌, ℕ, [], ap, subst, sym, ◌∙◌}
use Rattle.std.proofs.lemmas.List.Elements.{All-push}
use Rattle.am_names.specs.declared.Packet.{Packet}
use Rattle.am_machine_journal.proofs.index.links.no_packets.Goals as goal

pub loop-i-preserved : goal.loop-i-preserved
loop-i-preserved c =
    record {
      len = c.in-Ok.ensures.len ∙ ap (λ (n : ℕ). n + 1) c.loop-i.invariant.len;
      none = subst (All (λ (packets : Vec Packet). packets.items ≡ [])) (sym c.in-Ok.ensures.items)
          (All-push (λ (packets : Vec Packet). packets.items ≡ []) c.loop-i.links.items c.new.result c.loop-i.invariant.none c.new.ensures.items);
    }
