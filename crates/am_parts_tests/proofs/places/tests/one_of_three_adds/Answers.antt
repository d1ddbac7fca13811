use Rattle.am_parts_tests.proofs.places.tests.one_of_three_adds.Goals as goal

pub end_seats-requires-clause-others : goal.end_seats-requires-clause-others
end_seats-requires-clause-others g c κs k s at = let e = c.last_seat.ensures.list k s at in (e.0, e.1)
