use Rattle.std.specs.Prelude.{slice_get}
use Rattle.std.proofs.Common.{rules, ◌≡◌, ◌∙◌, ℕ, List, ◌∷◌, ◌++◌, length, Some, sym, ap, subst, arith}
use Rattle.am_lemmas.proofs.Lists.{slice_get-append_seam}
use Rattle.am_names.specs.declared.NodeId.{NodeId}
use Rattle.am_cluster_running.specs.Ending.{HasRoom}
use Rattle.am_cluster_opening.specs.Crews.{IsCrew}
use Rattle.am_cluster_opening.specs.declared.crew.NodeCrew.{NodeCrew}
use Rattle.am_cluster_running.proofs.Adding.{ended_more, moved_on, none_ended, one_left, room_less}
use Rattle.am_cluster_running.proofs.ending.end_crews.Goals as goal

pub loop-crew-init : goal.loop-crew-init
loop-crew-init c =
    let left = c.into_iter-crew-iterator.ensures.into_iter_gives.0 in
    let n : c.len.result ≡ length c.args.crews.items = search rules in
    record {
      so_far = none_ended c.in_ok-all.all c.in_ok-all.ensures.none.0 c.in_ok-all.ensures.none.1 c.in_ok-all.ensures.none.2;
      left = left;
      room = subst (λ (m : ℕ). HasRoom m c.in_ok-all.all) (n ∙ ap (λ (xs : List NodeCrew). length xs) (sym left)) c.in_ok-all.ensures.room;
    }

pub end_crew-requires : goal.end_crew-requires
end_crew-requires c =
    let all : c.loop-crew.yielded ++ c.in-Some.crew ∷ c.next.new.self.rest.items ≡ c.args.crews.items =
    sym (ap (λ (more : List NodeCrew). c.loop-crew.yielded ++ more) c.in-Some.ensures.steps.0) ∙ c.loop-crew.invariant.left
    in
    let at : slice_get c.args.crews.items (length c.loop-crew.yielded) ≡ Some c.in-Some.crew =
    subst (λ (xs : List NodeCrew). slice_get xs (length c.loop-crew.yielded) ≡ Some c.in-Some.crew) all
    (slice_get-append_seam c.loop-crew.yielded c.in-Some.crew c.next.new.self.rest.items)
    in
    let own = c.requires.crews.each (length c.loop-crew.yielded) c.in-Some.crew at in
    record { crew = subst (λ (n : NodeId). IsCrew c.args.scenario.now n c.args.scenario.now.turns c.in-Some.crew) (sym own.is_node) own }

pub add-requires : goal.add-requires
add-requires c =
    let one = one_left c.loop-crew.crew-iterator.rest.items c.next.new.self.rest.items c.in-Some.crew c.in-Some.ensures.steps.0 in
    record { room = room_less (length c.loop-crew.crew-iterator.rest.items) 1 c.loop-crew.all (omega (arith, one)) c.loop-crew.invariant.room }

pub loop-crew-preserved : goal.loop-crew-preserved
loop-crew-preserved c =
    let one = one_left c.loop-crew.crew-iterator.rest.items c.next.new.self.rest.items c.in-Some.crew c.in-Some.ensures.steps.0 in
    record {
      so_far = ended_more c.loop-crew.yielded c.loop-crew.all c.add.new.all c.in-Some.crew c.in_ok-ended.ended c.loop-crew.invariant.so_far
          c.in_ok-ended.ensures c.add.ensures.nodes c.add.ensures.outs c.add.ensures.ins;
      left = moved_on c.loop-crew.yielded c.in-Some.crew c.next.new.self.rest.items c.loop-crew.crew-iterator.rest.items c.args.crews.items
          c.in-Some.ensures.steps.0 c.loop-crew.invariant.left;
      room = c.add.ensures.room (length c.next.new.self.rest.items) (subst (λ (m : ℕ). HasRoom m c.loop-crew.all) one c.loop-crew.invariant.room);
    }
