use Rattle.std.proofs.Common.{◌∙◌, arith, inl, refl, sym}
use Rattle.std.proofs.lemmas.Option.{slice_get_within}
use Rattle.am_workers.proofs.WorkTurns.{found_there, with_done}
use Rattle.am_workers.proofs.turns.services.with_turn.Goals as goal

pub returns-in-Some-clause-turn : goal.returns-in-Some-clause-turn
returns-in-Some-clause-turn c = with_done c.in-Some.at c.args.work.now c.args.interface.now c.interface_turn.new.interface c.interface_turn.result
    c.args.seat.now.token.me.0 c.interface_turn.new.seat.token.me.0 c.interface_turn.ensures.turn

pub returns-in-Some-clause-why : goal.returns-in-Some-clause-why
returns-in-Some-clause-why c =
    let t = c.interface_turn in
    found_there c.args.ids.now c.args.end c.in-Some.at c.args.work.now c.args.interface.now t.new.interface t.result c.args.seat.now.token.me.0
    t.new.seat.token.me.0 (sym c.place_of.ensures.place ∙ c.in-Some.is) t.ensures.turn

pub returns-in-None-clause-why : goal.returns-in-None-clause-why
returns-in-None-clause-why c = inl (sym c.place_of.ensures.place ∙ c.in-None.is, refl)

pub interface_turn-requires-clause-at : goal.interface_turn-requires-clause-at
interface_turn-requires-clause-at c =
    let near = slice_get_within c.args.ids.now c.in-Some.at c.args.end c.in-Some.ensures.there in let all = c.requires.count in omega (arith, near, all)

pub interface_turn-requires-clause-needs : goal.interface_turn-requires-clause-needs
interface_turn-requires-clause-needs c set born = c.requires.needs ∙ sym c.in-Some.ensures.there ∙ c.requires.births c.in-Some.at set born
