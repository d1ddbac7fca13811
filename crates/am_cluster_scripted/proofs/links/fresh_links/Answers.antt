use Rattle.std.proofs.Common.{rules, ◌≡◌, [], ◌∷◌, ◌++◌, sym, subst, arith}
use Rattle.std.proofs.lemmas.Grind.{common_steps}
use Rattle.am_cluster_scripted.specs.Links.{HasAllRoom}
use Rattle.am_cluster_scripted.proofs.Rooms.{room_push}
use Rattle.am_cluster_scripted.proofs.links.fresh_links.Goals as goal

pub loop-i-preserved : goal.loop-i-preserved
loop-i-preserved c =
    let pushed : c.push.new.self.items ≡ c.loop-i.links.items ++ c.in_ok-link.link ∷ [] = search rules in
    record {
      len = search rules;
      none = grind (arith, common_steps, c.loop-i.invariant.none, c.in_ok-link.ensures.none);
      room = subst HasAllRoom (sym pushed) (room_push c.loop-i.links.items c.in_ok-link.link c.loop-i.invariant.room c.in_ok-link.ensures.room);
    }
