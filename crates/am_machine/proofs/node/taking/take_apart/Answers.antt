use Rattle.std.proofs.Common.{◌≡◌, ◌∷◌, [], List, ℕ, length, length-append, ap, ◌∙◌, sym, subst, arith}
use Rattle.std.proofs.lemmas.List.{nil_from_length}
use Rattle.am_machine.specs.declared.node.NodePart.{NodePart}
use Rattle.am_machine.specs.Node.Taken.{HasRoomFor}
use Rattle.am_machine.proofs.Takings.{AreBeingTaken, begins, ends, goes_on}
use Rattle.am_machine.proofs.node.taking.take_apart.Goals as goal

pub loop-part-init : goal.loop-part-init
loop-part-init c =
    record {
      taken' = subst (λ (rest : List NodePart). AreBeingTaken c.args.parts.items rest c.args.taken) (sym c.reverse.ensures.items)
          (begins c.args.parts.items c.args.taken c.requires.none);
      room = subst (λ (n : ℕ). HasRoomFor n c.args.taken) (let a = c.reverse.ensures.len in let b = c.args.parts.ok.0 in let d = c.reverse.new.self.ok.0 in
          omega (arith, a, b, d)) c.requires.room;
    }

pub take-requires : goal.take-requires
take-requires c =
    let n = ap (λ (l : List NodePart). length l) c.in-Some.ensures.items ∙ length-append c.pop.new.self.items (c.in-Some.part ∷ []) in
    let room = c.loop-part.invariant.room in
    record {
      ends' = (let a = room.ends' in omega (arith, a, n));
      interfaces' = (let a = room.interfaces' in omega (arith, a, n));
      swaps' = (let a = room.swaps' in omega (arith, a, n));
    }

pub loop-part-preserved : goal.loop-part-preserved
loop-part-preserved c =
    let before = subst (λ (rest : List NodePart). AreBeingTaken c.args.parts.items rest c.loop-part.taken) c.in-Some.ensures.items c.loop-part.invariant.taken'
    in
    record {
      taken' = goes_on c.args.parts.items c.pop.new.self.items c.in-Some.part c.loop-part.taken c.take.new.taken before c.take.ensures.taken;
      room = c.take.ensures.room (length c.pop.new.self.items) (subst (λ (n : ℕ). HasRoomFor n c.loop-part.taken)
          (ap (λ (l : List NodePart). length l) c.in-Some.ensures.items ∙ length-append c.pop.new.self.items (c.in-Some.part ∷ [])) c.loop-part.invariant.room);
    }

pub returns : goal.returns
returns c =
    let none : c.loop-part.parts.items ≡ [] = nil_from_length c.loop-part.parts.items (let items = c.loop-part.parts.ok.0 in
    let empty = c.in_default.ensures.cases.0 in omega (arith, items, empty)) in
    ends c.args.parts.items c.loop-part.taken (subst (λ (rest : List NodePart). AreBeingTaken c.args.parts.items rest c.loop-part.taken) none
    c.loop-part.invariant.taken')
