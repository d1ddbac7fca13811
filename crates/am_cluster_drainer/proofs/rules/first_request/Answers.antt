use Rattle.std.proofs.Common.{sym, ◌∙◌, ap, arith}
use Rattle.std.specs.Prelude.{option_map}
use Rattle.std.proofs.lemmas.Option.{slice_get_within}
use Rattle.am_model_scripts.specs.Layout.{layout_of}
use Rattle.am_model_scripts.specs.Standings.{standings}
use Rattle.am_cluster_drainer.specs.Reads.{mail_of}
use Rattle.am_cluster_drainer.specs.Choices.{sends_request}
use Rattle.am_cluster_drainer.proofs.Finding.{read_here, read_not}
use Rattle.am_cluster_drainer.proofs.Firsts.{fronts_end, fronts_skip}
use Rattle.am_cluster_drainer.proofs.rules.first_request.Goals as goal

pub returns-in_err-place-clause-value : goal.returns-in_err-place-clause-value
returns-in_err-place-clause-value g c =
    let m = g.M.Drainable in
    let ends = standings (layout_of (m.scenario c.args.machine.now)) (m.journal c.args.machine.now) in
    c.from_residual.ensures ∙ (sym (ap (option_map mail_of) (fronts_end ends c.ends.from c.in_err-place.ensures)) ∙ c.ends.invariant.first)

pub mail-mail-requires-clause-index : goal.mail-mail-requires-clause-index
mail-mail-requires-clause-index g c =
    let m = g.M.Drainable in
    let ends = standings (layout_of (m.scenario c.args.machine.now)) (m.journal c.args.machine.now) in
    slice_get_within ends c.in_ok-place.place c.in_ok-place.ensures.one c.in_ok-place.ensures.at_place

pub returns-then-finds_room-clause-value : goal.returns-then-finds_room-clause-value
returns-then-finds_room-clause-value g c =
    let m = g.M.Drainable in
    let ends = standings (layout_of (m.scenario c.args.machine.now)) (m.journal c.args.machine.now) in
    let skipped = ap (option_map mail_of) (fronts_skip ends c.ends.from c.in_ok-place.place c.in_ok-place.ensures) in
    sym (read_here mail_of (sends_request ends) ends c.in_ok-place.place c.mail-mail.result c.mail-mail.ensures.value (sym c.finds_room.ensures
    ∙ c.if-finds_room.true)) ∙ (skipped ∙ c.ends.invariant.first)

pub overflow_add-from : goal.overflow_add-from
overflow_add-from g c =
    let m = g.M.Drainable in
    let ends = standings (layout_of (m.scenario c.args.machine.now)) (m.journal c.args.machine.now) in
    let below = slice_get_within ends c.in_ok-place.place c.in_ok-place.ensures.one c.in_ok-place.ensures.at_place in
    omega (arith, below, c.ends.invariant.count)

pub ends-preserved : goal.ends-preserved
ends-preserved g c =
    let m = g.M.Drainable in
    let ends = standings (layout_of (m.scenario c.args.machine.now)) (m.journal c.args.machine.now) in
    let skipped = ap (option_map mail_of) (fronts_skip ends c.ends.from c.in_ok-place.place c.in_ok-place.ensures) in
    record {
      count = c.ends.invariant.count;
      first = read_not mail_of (sends_request ends) ends c.in_ok-place.place c.mail-mail.result c.mail-mail.ensures.value (sym c.finds_room.ensures
          ∙ c.if-finds_room.false) ∙ (skipped ∙ c.ends.invariant.first);
    }
