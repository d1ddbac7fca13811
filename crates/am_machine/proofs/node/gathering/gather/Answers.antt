use Rattle.std.proofs.Common.{◌≡◌, ◌+◌, ◌++◌, ◌∷◌, [], List, get_or, length, length-take, drop, take, ap, sym, subst, arith}
use Rattle.std.proofs.lemmas.List.{length-map}
use Rattle.std.proofs.lemmas.Grind.{common_steps}
use Rattle.am_scenario_types.specs.declared.parts.EndLine.{EndLine}
use Rattle.am_machine.specs.Node.Gathered.{AreDeclared, setting_in}
use Rattle.am_model_scripts.specs.Layout.{setting_of}
use Rattle.am_machine.proofs.Gatherers.{AreGathering, begins, ends_made, goes_on, has_one, line_now, line_next, no_line}
use Rattle.am_machine.proofs.node.gathering.gather.Goals as goal

pub loop-line-init : goal.loop-line-init
loop-line-init c =
    record {
      gathering = subst (AreGathering c.args.lines.now 0 c.args.groups.items c.args.groups.items) (sym c.requires.none)
          (begins c.args.lines.now c.args.groups.items c.requires.declared);
      room = c.requires.room;
    }

-- the next line's node has an endpoint
declared : (c : goal.After-last_of-arg-1) → AreDeclared (get_or c.args.lines.now c.loop-line.line-index no_line ∷ drop (c.loop-line.line-index + 1)
    c.args.lines.now) c.loop-line.groups.items
declared c = subst (λ (l : List EndLine). AreDeclared l c.loop-line.groups.items) (line_next c.args.lines.now c.loop-line.line-index no_line
    c.loop-line-test.true) c.loop-line.invariant.gathering.declared'

pub last_of-end-requires-clause-within : goal.last_of-end-requires-clause-within
last_of-end-requires-clause-within c = (declared c).nodes.0

pub last_of-end-requires-clause-some : goal.last_of-end-requires-clause-some
last_of-end-requires-clause-some c = has_one (get_or c.args.lines.now c.loop-line.line-index no_line) (drop (c.loop-line.line-index + 1) c.args.lines.now)
    c.loop-line.groups.items (declared c)

pub unwrap-requires : goal.unwrap-requires
unwrap-requires c =
    let made = ap (λ l. length l) c.loop-line.invariant.gathering.made in
    let left = length-map c.loop-line.ends.items setting_in in
    let right = length-map (take c.loop-line.line-index c.args.lines.now) setting_of in
    let short = length-take c.loop-line.line-index c.args.lines.now in
    let items = c.loop-line.ends.ok.0 in
    let room = c.loop-line.invariant.room in
    let lt = c.loop-line-test.true in
    c.push.ensures.succeeds (omega (arith, made, left, right, short, items, room, lt))

pub loop-line-preserved : goal.loop-line-preserved
loop-line-preserved c =
    let items : c.push.new.self.items ≡ c.loop-line.ends.items ++ c.last_of-end.result ∷ [] = grind (arith, common_steps) in
    record {
      gathering =
          subst (AreGathering c.args.lines.now (c.loop-line.line-index + 1) c.args.groups.items c.last_of-end.new.groups.items) (sym items)
          (goes_on c.args.lines.now c.loop-line.line-index (get_or c.args.lines.now c.loop-line.line-index no_line) c.args.groups.items c.loop-line.groups.items
          c.last_of-end.new.groups.items c.loop-line.ends.items c.last_of-end.result
          (line_next c.args.lines.now c.loop-line.line-index no_line c.loop-line-test.true)
          (line_now c.args.lines.now c.loop-line.line-index no_line c.loop-line-test.true) c.loop-line.invariant.gathering c.last_of-end.ensures);
      room = (let old = c.loop-line.invariant.room in let more = c.push.ensures.capacity in omega (arith, old, more));
    }

pub returns-clause-settings : goal.returns-clause-settings
returns-clause-settings c = let past = c.loop-line-test.false in let end = c.loop-line.auto.line-index-end in
    ends_made c.args.lines.now c.loop-line.line-index c.args.groups.items c.loop-line.groups.items c.loop-line.ends.items (omega (arith, past, end))
    c.loop-line.invariant.gathering
