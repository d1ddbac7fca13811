use Rattle.std.proofs.Common.{◌≡◌, ℕ, Option, sym, ap, ◌∙◌, subst}
use Rattle.std.specs.Global.{Vec}
use Rattle.std.specs.Option.{option_map}
use Rattle.std.specs.Prelude.{IfOk}
use Rattle.am_lab_state.specs.Answers.{asked_text, behind}
use Rattle.am_lab_state.specs.declared.asked.StateLines.{StateLines}
use Rattle.am_lab_state.proofs.Asking.{both_same, so_long, whole_front, whole_text}
use Rattle.am_lab_state.proofs.answers.asked_text.Goals as goal

pub front_text-requires-clause-front : goal.front_text-requires-clause-front
front_text-requires-clause-front c =
    let r = c.requires.report in
    (r.0, whole_front r.0 c.args.scenario.now c.args.bytes.now c.args.count r.1)

pub returns-in_ok-text-in-End : goal.returns-in_ok-text-in-End
returns-in_ok-text-in-End c = λ form r long.
    let s = c.args.scenario.now in
    whole_text s r.journal c.args.count c.in_ok-text-in-End.text.items long (c.in_ok-text-in-End.ensures form r (so_long c.args.count r.journal long))
    ∙ ap (asked_text s r.journal) (sym c.in-End.is)

pub returns-in-Behind : goal.returns-in-Behind
returns-in-Behind c = λ form r long.
    subst
    (λ (lines : StateLines).
    IfOk c.behind.result (λ (t : Option (Vec ℕ)). option_map (λ (v : Vec ℕ). v.items) t ≡ asked_text c.args.scenario.now r.journal lines))
    (sym c.in-Behind.is) (c.behind.ensures form r long)

pub returns-in_ok-second-in-Between : goal.returns-in_ok-second-in-Between
returns-in_ok-second-in-Between c = λ form r long.
    let s = c.args.scenario.now in
    let items = λ (t : Option (Vec ℕ)). option_map (λ (v : Vec ℕ). v.items) t in
    subst (λ (lines : StateLines). IfOk c.between.result (λ (t : Option (Vec ℕ)). option_map (λ (v : Vec ℕ). v.items) t ≡ asked_text s r.journal lines))
    (sym c.in-Between.is)
    (both_same c.between.result (items c.in_ok-first-in-Between.first) (items c.in_ok-second-in-Between.second) (behind s r.journal c.in-Between.first)
    (behind s r.journal c.in-Between.second) (c.in_ok-first-in-Between.ensures form r long) (c.in_ok-second-in-Between.ensures form r long)
    c.between.ensures)
