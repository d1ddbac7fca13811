use Rattle.std.specs.Prelude.{option_map, slice_get}
use Rattle.std.proofs.Common.{◌≡◌, ◌+◌, ◌∙◌, ap, sym, map, subst, refl, arith, Some, Option}
use Rattle.std.proofs.lemmas.List.{length-map}
use Rattle.std.proofs.lemmas.Option.{slice_get_within, slice_get-get_or}
use Rattle.am_lemmas.proofs.Lists.{slice_get-map_Some}
use Rattle.am_model_drain.specs.Rules.{Left}
use Rattle.am_cluster_drainer.specs.Reads.{left_of}
use Rattle.am_cluster_calls.specs.Threads.{scripted_in}
use Rattle.am_cluster_calls.proofs.Fewest.{FewestTo, fewest_all, fewest_more, fewest_none}
use Rattle.am_cluster_calls.proofs.threads.fewest.Goals as goal

pub loop-index-init : goal.loop-index-init
loop-index-init c = record { count = refl; few = fewest_none (map scripted_in c.args.threads.now) }

pub loop-index-preserved : goal.loop-index-preserved
loop-index-preserved c =
    let ts = c.args.threads.now in
    let k = c.loop-index.index in
    let one = c.index-threads-index.result in
    let best = option_map left_of c.loop-index.best in
    let at : slice_get (map scripted_in ts) k ≡ Some (scripted_in one) =
    slice_get-map_Some scripted_in ts k one (slice_get-get_or ts k one c.loop-index-test.true ∙ ap Some (sym c.index-threads-index.is)) in
    record {
      count = refl;
      few =
          subst (λ (o : Option Left). FewestTo (map scripted_in ts) (k + 1) o) (sym c.fewer-best.ensures)
          (fewest_more (map scripted_in ts) k best (scripted_in one) at c.loop-index.invariant.few);
    }

pub returns : goal.returns
returns c =
    let ts = c.args.threads.now in
    let len = length-map ts scripted_in in
    let all = c.loop-index-test.false in
    fewest_all (map scripted_in ts) c.loop-index.index (option_map left_of c.loop-index.best)
    (λ k t at. (let within = slice_get_within (map scripted_in ts) k t at in omega (arith, within, len, all)))
    c.loop-index.invariant.few
