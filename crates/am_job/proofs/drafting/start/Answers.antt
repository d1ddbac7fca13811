use Rattle.std.proofs.Common.{arith}
use Rattle.am_scenario_types.specs.Lists.{ScenarioLists}
use Rattle.am_library_drafts.proofs.Welcome.{refused_for, starts}
use Rattle.am_job.proofs.drafting.start.Goals as goal

pub only_memory-requires : goal.only_memory-requires
only_memory-requires c = refused_for ScenarioLists c.in-Err.fault _ (starts c.args.w (omega (arith, c.requires.some), omega (arith, c.requires.nodes))) c.in-Err.ensures.refused
