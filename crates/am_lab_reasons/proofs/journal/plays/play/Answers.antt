use Rattle.std.proofs.Common.{◌≡◌, ◌<◌, ◌+◌, ◌++◌, ◌∷◌, [], List, true, refl, sym, ap, ◌∙◌, subst, arith}
use Rattle.am_model_drain.specs.Made.{next_entry}
use Rattle.am_lexer.specs.Text.{lines_of}
use Rattle.am_machine.specs.View.{ClusterView}
use Rattle.am_model.specs.History.{is_in_range}
use Rattle.am_model.specs.Layout.{Layout}
use Rattle.am_office_entries.specs.declared.Entry.{Entry}
use Rattle.am_lab_reasons.proofs.Again.{IsLeft, at_first, at_last, goes_on}
use Rattle.am_lab_reasons.proofs.journal.plays.play.Goals as goal

pub make-requires : goal.make-requires
make-requires c =
    let v = c.args.cluster.now in
    let n = c.loop-place.cluster in
    let r = c.requires.lines in
    let event = c.in-Some-parse_line.told.event in
    let told = c.in-Some-parse_line.ensures.exact in
    let below : c.loop-place.place < c.args.count = c.loop-place-test.true in
    let on = goes_on v.layout r.journal r.left c.args.count c.loop-place.place n.journal (lines_of c.loop-place.rest.now) c.in-Some.line.now
    (lines_of c.in-Some.after.now) event
    (c.loop-place.invariant.left r.journal r.left r.are r.count') below c.in-Some.ensures.first told in
    record { in_range = subst (λ (l : Layout). is_in_range l event ≡ true) (sym c.loop-place.invariant.layout) on.in_range' }

pub loop-place-init : goal.loop-place-init
loop-place-init c =
    let v = c.args.cluster.now in
    let lines = lines_of c.args.lines.now in
    record {
      layout = refl;
      left = λ journal left are long.
          subst (λ (past : List Entry). IsLeft v.layout journal left c.args.count 0 past lines) (sym c.requires.fresh)
          (at_first v.layout lines journal left c.args.count are long);
    }

pub loop-place-preserved : goal.loop-place-preserved
loop-place-preserved c =
    let v = c.args.cluster.now in
    let n = c.loop-place.cluster in
    let event = c.in-Some-parse_line.told.event in
    let told = c.in-Some-parse_line.ensures.exact in
    let below : c.loop-place.place < c.args.count = c.loop-place-test.true in
    let after = lines_of c.in-Some.after.now in
    let made = c.in-Ok.ensures.1 in
    let journal' = ap (λ (w : ClusterView). w.journal) made ∙ ap (λ (l : Layout). n.journal ++ next_entry l n.journal event ∷ []) c.loop-place.invariant.layout
    in
    record {
      layout = ap (λ (w : ClusterView). w.layout) made ∙ c.loop-place.invariant.layout;
      left = λ journal left are long.
          let on = goes_on v.layout journal left c.args.count c.loop-place.place n.journal (lines_of c.loop-place.rest.now) c.in-Some.line.now after event
          (c.loop-place.invariant.left journal left are long) below c.in-Some.ensures.first told in
          subst (λ (past : List Entry). IsLeft v.layout journal left c.args.count (c.loop-place.place + 1) past after) (sym journal') on.next;
    }

pub returns-clause-played : goal.returns-clause-played
returns-clause-played c = λ journal left are long.
    let v = c.args.cluster.now in
    let n = c.loop-place.cluster in
    let end : c.loop-place.place ≡ c.args.count = omega arith in
    let all = at_last v.layout journal left c.args.count c.loop-place.place n.journal (lines_of c.loop-place.rest.now)
    (c.loop-place.invariant.left journal left are long) end in
    (all.same, all.rest')
