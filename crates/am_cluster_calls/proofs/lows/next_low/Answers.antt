use Rattle.std.specs.Prelude.{slice_get}
use Rattle.std.proofs.Common.{◌≡◌, ◌∙◌, ap, sym, map, arith, Some}
use Rattle.std.proofs.lemmas.List.{length-map}
use Rattle.std.proofs.lemmas.Option.{slice_get_within, slice_get-get_or}
use Rattle.am_lemmas.proofs.Lists.{slice_get-map_Some}
use Rattle.am_cluster_calls.specs.Threads.{scripted_in}
use Rattle.am_cluster_calls.proofs.Lowest.{seen_more}
use Rattle.am_cluster_calls.proofs.lows.next_low.Goals as goal

pub loop-index-preserved : goal.loop-index-preserved
loop-index-preserved c =
    let ts = c.args.threads.now in
    let k = c.loop-index.index in
    let one = c.index-threads-index.result in
    let at : slice_get (map scripted_in ts) k ≡ Some (scripted_in one) =
    slice_get-map_Some scripted_in ts k one (slice_get-get_or ts k one (let lt = c.loop-index-test.true in let count = c.loop-index.invariant.count in
    omega (arith, lt, count)) ∙ ap Some (sym c.index-threads-index.is)) in
    record {
      count = c.loop-index.invariant.count;
      behind = let low = c.loop-index.invariant.behind in omega (arith, low);
      least = seen_more (map scripted_in ts) c.args.mark.made c.args.mark.from k (scripted_in one) at (sym c.is_low.ensures
          ∙ c.if-is_low.false) c.loop-index.invariant.least;
    }

pub returns-then-is_low : goal.returns-then-is_low
returns-then-is_low c =
    let ts = c.args.threads.now in
    let k = c.loop-index.index in
    let one = c.index-threads-index.result in
    record {
      behind = c.loop-index.invariant.behind;
      one = scripted_in one;
      at_place = slice_get-map_Some scripted_in ts k one (slice_get-get_or ts k one (let lt = c.loop-index-test.true in
          let count = c.loop-index.invariant.count in omega (arith, lt, count)) ∙ ap Some (sym c.index-threads-index.is));
      passes' = sym c.is_low.ensures ∙ c.if-is_low.true;
      least = c.loop-index.invariant.least;
    }

pub returns : goal.returns
returns c = λ k t behind at.
    let ts = c.args.threads.now in
    let len = length-map ts scripted_in in
    let within = slice_get_within (map scripted_in ts) k t at in
    let all = c.loop-index-test.false in
    let count = c.loop-index.invariant.count in
    c.loop-index.invariant.least k t behind (omega (arith, within, len, all, count)) at
