use Rattle.am_lab_drawings.proofs.Touched.{message_pictures_are}
use Rattle.am_lab_drawings.proofs.view.laws.message_pictures_are_of_messages.Goals as goal

pub returns : goal.returns
returns c = message_pictures_are
