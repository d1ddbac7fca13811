use Rattle.std.proofs.Common.{◌≡◌, map}
use Rattle.std.specs.List.{AllByRecursion}
use Rattle.am_places.specs.Seats.{pass_of, table_in}
use Rattle.am_places_stays.specs.Stays.{IsWaiting, gathered_all}
use Rattle.am_places_stays.proofs.ending.gather_all.Given as goal

abbrev pub invariant-loop-other : goal.invariant-loop-other
invariant-loop-other g l = record {
  table : l.keeper.token.table_id ≡ l.fn.keeper.token.table_id;
  gathered : gathered_all l.keeper.token.me.0 (map (λ s. pass_of s) l.other-iterator.rest.items) ≡ gathered_all l.fn.keeper.token.me.0
      (map (λ s. pass_of s) l.fn.others.items);
  hand : l.keeper.token.me.1 ≡ l.fn.keeper.token.me.1;
  waits : AllByRecursion (λ s. IsWaiting (table_in l.fn.places) s.token) l.other-iterator.rest.items;
}
