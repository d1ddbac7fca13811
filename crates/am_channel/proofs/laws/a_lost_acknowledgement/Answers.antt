use Rattle.std.proofs.Common.{refl, arith}
use Rattle.am_channel.proofs.laws.a_lost_acknowledgement.Goals as goal

pub returns-clause-made : goal.returns-clause-made
returns-clause-made c = (
  (refl, omega arith),
  record { end = record { 0 = 0 }; number = 1; event = refl; outcome = refl },
  (
    omega arith,
    record { number = 1; answer = 1; event = refl; outcome = refl },
    (
      refl,
      record { number = 2; event = refl; outcome = refl },
      (
        omega arith,
        record { number = 2; answer = 2; event = refl; outcome = refl },
        (
          tt,
          record { number = 2; limit = 0; bounces = 0; event = refl; outcome = refl },
          (
            tt,
            record { number = 1; limit = 0; bounces = 0; event = refl; outcome = refl },
            tt,
          ),
        ),
      ),
    ),
  ),
)
