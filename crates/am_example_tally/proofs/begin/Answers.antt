use Rattle.std.proofs.Common.{ap, subst}
use lib.ListN.{get_elem?}
use Rattle.am_places_stays.specs.Stays.{BeganWith}
use Rattle.am_example_tally.proofs.begin.Goals as goal

pub returns-clause-first : goal.returns-clause-first
returns-clause-first c =
    let new = c.in_ok-places.ensures.first in
    record {
      waiting = new.waiting;
      began = subst (λ xs. BeganWith 0 xs c.in_ok-places.first.token.me.0) c.new.ensures
          (new.began 0 c.new.result (ap (λ l. get_elem? l 0) c.in_ok-books.ensures.items));
      added = new.added 0;
    }

pub returns-clause-second : goal.returns-clause-second
returns-clause-second c =
    let new = c.in_ok-places.ensures.second in
    record {
      waiting = new.waiting;
      began = subst (λ xs. BeganWith 0 xs c.in_ok-places.second.token.me.0) c.new.ensures
          (new.began 0 c.new.result (ap (λ l. get_elem? l 0) c.in_ok-books.ensures.items));
      added = new.added 0;
    }

pub returns-clause-marks : goal.returns-clause-marks
returns-clause-marks c = (c.in_ok-places.ensures.first.mark, c.in_ok-places.ensures.second.mark, c.in_ok-places.ensures.second.all_seats)
