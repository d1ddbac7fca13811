use Rattle.am_swap_image.proofs.Bodies as laws
use Rattle.am_swap_image.proofs.each_body_has_its_image.Goals as goal

pub returns : goal.returns
returns c = laws.each_body_has_its_image
