use Rattle.std.proofs.Common.{◌+◌, ◌<◌, ◌^◌, arith, refl}
use Rattle.am_workers.proofs.Working.{is_driver_of}
use Rattle.am_workers.proofs.drivers.turn_as_driver.Goals as goal

pub returns-clause-at_work : goal.returns-clause-at_work
returns-clause-at_work c =
    let w = c.args.worker.now in let a = c.requires.at_work in let s = c.args.scenario.now in let t = c.driver_turn-moved in
    let ids = c.args.places.now.ids.items in
    let few : a.so_far + 1 < 2 ^ 64 = (let n = a.within in let low = c.ranges.turn.fits in omega (arith, n, low)) in
    record {
      idle = t.ensures.idle;
      is_node = refl;
      so_far = a.so_far + 1;
      within = let n = a.within in omega (arith, n);
      works = t.ensures.works s ids a.so_far (is_driver_of s ids w.node a.so_far c.requires.lawful c.requires.packet c.requires.ends c.requires.declared few)
          a.works;
    }
