use Rattle.std.proofs.Common.{refl, sym, ◌∙◌}
use Rattle.am_lexer.specs.Text.{lines_of}
use Rattle.am_lab_state.specs.Differences.{same_line}
use Rattle.am_lab_reasons.proofs.Naming.{any_ended, any_found, any_passed}
use Rattle.am_lab_state.proofs.Differing.{further_behind}
use Rattle.am_lab_state.proofs.differences.behind_line.Goals as goal

pub loop-next-init : goal.loop-next-init
loop-next-init c = record { found = refl; part = λ line h. h }

pub returns-then-is_same-clause-found : goal.returns-then-is_same-clause-found
returns-then-is_same-clause-found c =
    sym (any_found (same_line c.args.line.now) (lines_of c.loop-next.rest.now) _ _ _ c.in-Some.ensures.first (sym c.is_same.ensures ∙ c.if-is_same.true)
    c.loop-next.invariant.found)

pub returns-then-is_same-clause-part : goal.returns-then-is_same-clause-part
returns-then-is_same-clause-part c =
    further_behind c.args.text.now c.loop-next.rest.now c.in-Some.after.now _ c.loop-next.invariant.part c.in-Some.ensures.first

pub loop-next-preserved : goal.loop-next-preserved
loop-next-preserved c =
    record {
      found = any_passed (same_line c.args.line.now) (lines_of c.loop-next.rest.now) _ _ _ c.in-Some.ensures.first
          (sym c.is_same.ensures ∙ c.if-is_same.false) c.loop-next.invariant.found;
      part = further_behind c.args.text.now c.loop-next.rest.now c.in-Some.after.now _ c.loop-next.invariant.part c.in-Some.ensures.first;
    }

pub returns-clause-found : goal.returns-clause-found
returns-clause-found c =
    sym (any_ended (same_line c.args.line.now) (lines_of c.loop-next.rest.now) _ c.in_default.ensures.first c.loop-next.invariant.found)
