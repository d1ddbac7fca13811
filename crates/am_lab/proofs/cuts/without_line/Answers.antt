use Rattle.std.proofs.Common.{◌≡◌, ℕ, ◌+◌, ◌-◌, ◌≤◌, List, Result, Ok, Err, drop, length, take, ap, arith, length-append, length-drop}
use Rattle.std.specs.Global.{Vec}
use Rattle.std.specs.Prelude.{IfOk, Some}
use Rattle.std.proofs.lemmas.List.{length-take}
use Rattle.am_lab.specs.Cuts.{without_line}
use Rattle.am_lab.proofs.cuts.without_line.Goals as goal

shorter : {E : Type 0} (text line : List ℕ) (place : ℕ) (r : Result (Vec ℕ) E) → place ≤ length text →
    IfOk r (λ (left : Vec ℕ). left.items ≡ without_line text line (Some place)) → IfOk r (λ (left : Vec ℕ). length left.items ≤ length text)
shorter text line place (Ok left) within is =
    let all = ap length is in
    let both = length-append (take (place - (length line + 1)) text) (drop place text) in
    let front = length-take (place - (length line + 1)) text in
    let behind = length-drop place text in
    omega (arith, all, both, front, behind, within)
shorter text line place (Err e) within is = tt

pub returns-in-Some-clause-short : goal.returns-in-Some-clause-short
returns-in-Some-clause-short c =
    shorter c.args.text.now c.args.line.now c.in-Some.place c.cut_out.result c.in-Some.ensures.within c.cut_out.ensures
