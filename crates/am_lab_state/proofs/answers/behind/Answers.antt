use Rattle.std.proofs.Common.{sym, ◌∙◌}
use Rattle.am_lab_state.proofs.Asking.{has_line_of, line_front, line_within}
use Rattle.am_lab_state.proofs.answers.behind.Goals as goal

pub front_text-requires-clause-front : goal.front_text-requires-clause-front
front_text-requires-clause-front c =
    let r = c.requires.report in
    (r.0, line_front r.0 c.args.scenario.now c.args.bytes.now c.args.count c.args.line (sym c.is_line.ensures ∙ c.if-not-is_line.false) r.1)

pub returns : goal.returns
returns c = λ form r long.
    let within = sym c.is_line.ensures ∙ c.if-not-is_line.false in
    has_line_of c.args.scenario.now r.journal c.args.count c.args.line c.in_ok-text.text.items long within
    (c.in_ok-text.ensures form r (line_within c.args.count c.args.line r.journal within long))
