use Rattle.am_swap_image.proofs.Examples.{fresh_is_valid}
use Rattle.am_swap_image.proofs.a_fresh_body.Goals as goal

pub returns-clause-valid : goal.returns-clause-valid
returns-clause-valid c = fresh_is_valid
