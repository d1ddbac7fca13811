use Rattle.std.proofs.Common.{arith}
use Rattle.std.proofs.lemmas.Grind.{common_steps}
use Rattle.std.proofs.lemmas.List.Edits.{map_over_more}
use Rattle.am_model.specs.Changes.{arrived}
use Rattle.am_translate.proofs.records.mark.Goals as goal

pub loop-a-preserved : goal.loop-a-preserved
loop-a-preserved c = grind (arith, common_steps, map_over_more (arrived c.args.request))
