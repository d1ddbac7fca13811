use Rattle.std.proofs.Common.{arith}
use Rattle.std.proofs.lemmas.Bool.{eqb-true, leb-true}
use Rattle.am_office_report.proofs.Placing.{placed}
use Rattle.am_office_report.proofs.sources.fits.Goals.{else-place-gt0-via-then-place-gt0+else-rows-place, else-place-gt0-via-else-place-gt0}
use Rattle.am_office_report.proofs.sources.fits.Goals as goal

pub returns-then-place-rows-2 : goal.returns-then-place-rows-2
returns-then-place-rows-2 c = λ full. elim c.else-place-gt0.branch [
  | else-place-gt0-via-then-place-gt0+else-rows-place w ↦
      placed c.args.rows.now c.args.count c.args.place c.requires (omega arith) (λ h. w.if-rows-place.false) (λ h. absurd (omega (arith, eqb-true _ _ full)))
  | else-place-gt0-via-else-place-gt0 w ↦
      placed c.args.rows.now c.args.count c.args.place c.requires (omega arith) (λ h. absurd (omega (arith, w.if-place-gt0.false)))
      (λ h. absurd (omega (arith, eqb-true _ _ full)))
]

pub returns-else-place-rows-2 : goal.returns-else-place-rows-2
returns-else-place-rows-2 c = λ high. elim c.else-place-gt0.branch [
  | else-place-gt0-via-then-place-gt0+else-rows-place w ↦
      placed c.args.rows.now c.args.count c.args.place c.requires (omega arith) (λ h. w.if-rows-place.false) (λ h. leb-true _ _ high)
  | else-place-gt0-via-else-place-gt0 w ↦
      placed c.args.rows.now c.args.count c.args.place c.requires (omega arith) (λ h. absurd (omega (arith, w.if-place-gt0.false))) (λ h. leb-true _ _ high)
]
