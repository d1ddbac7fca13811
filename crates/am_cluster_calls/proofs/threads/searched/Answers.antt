use Rattle.std.proofs.Common.{◌∙◌, ap, sym, refl, arith, Some, eqb-true}
use Rattle.std.proofs.lemmas.Option.{slice_get_within, slice_get-get_or}
use Rattle.am_cluster_calls.proofs.Counting.{seen_more}
use Rattle.am_cluster_calls.proofs.threads.searched.Goals as goal

pub loop-index-init : goal.loop-index-init
loop-index-init c = record { count = refl; others = λ k t lt at same. absurd (omega (arith, lt)) }

pub loop-index-preserved : goal.loop-index-preserved
loop-index-preserved c =
    let ts = c.args.threads.now in
    let k = c.loop-index.index in
    let one = c.index-threads-index.result in
    record {
      count = refl;
      others = seen_more ts c.args.id k one (slice_get-get_or ts k one c.loop-index-test.true ∙ ap Some (sym c.index-threads-index.is)) (sym c.has_id.ensures
          ∙ c.if-has_id.false) c.loop-index.invariant.others;
    }

pub returns-then-has_id : goal.returns-then-has_id
returns-then-has_id c =
    let ts = c.args.threads.now in
    let k = c.loop-index.index in
    let one = c.index-threads-index.result in (
      one,
      slice_get-get_or ts k one c.loop-index-test.true ∙ ap Some (sym c.index-threads-index.is),
      eqb-true one.id c.args.id (sym c.has_id.ensures
          ∙ c.if-has_id.true),
    )

pub returns : goal.returns
returns c = λ k t at same.
    let within = slice_get_within c.args.threads.now k t at in
    let all = c.loop-index-test.false in
    c.loop-index.invariant.others k t (omega (arith, within, all)) at same
