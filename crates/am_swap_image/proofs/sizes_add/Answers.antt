use Rattle.am_swap_image.proofs.Sizes as laws
use Rattle.am_swap_image.proofs.sizes_add.Goals as goal

pub returns : goal.returns
returns c = laws.sizes_add
