use Rattle.am_lab_page.proofs.Cutting.{event_room}
use Rattle.am_lab_page.proofs.json.texts.event_words.Goals as goal

pub behind-requires : goal.behind-requires
behind-requires c = event_room c.args.event c.args.left.now c.args.who c.requires.left c.requires.who
