use Rattle.am_check.proofs.Scripts.{begins_scripts}
use Rattle.am_check.proofs.runs.ScriptedClusterFollower.is_ended.Goals as goal

pub is_run_ended-requires : goal.is_run_ended-requires
is_run_ended-requires c = begins_scripts c.args.self.now.scenario c.args.self.now.journal c.requires
