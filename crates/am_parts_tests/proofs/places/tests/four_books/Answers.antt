use Rattle.std.proofs.Common.{arith, ap, ◌∙◌, sym, length, slice_index_or}
use Rattle.am_parts_tests.specs.Places.Ids.{nine}
use Rattle.am_parts_tests.proofs.places.tests.four_books.Goals as goal

pub returns-clause-seats : goal.returns-clause-seats
returns-clause-seats c k s at = let t = c.in_ok-places.ensures.seats k s at in (
  t.waiting,
  t.mark,
  t.all_seats,
  t.all_frames
      ∙ sym c.in_ok-places.ensures.places.2,
)

pub returns-clause-nine : goal.returns-clause-nine
returns-clause-nine c = let ids = ap (λ z. z) c.in_ok-places.ensures.places.0 ∙ c.in_ok-ids.ensures.items in
    (2, omega (arith, ap length ids), ap (λ z. slice_index_or z 2 nine) ids)
