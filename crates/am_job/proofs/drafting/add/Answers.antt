use Rattle.am_library_drafts.proofs.Welcome.{refused_for}
use Rattle.am_job.proofs.drafting.add.Goals as goal

pub only_memory-requires : goal.only_memory-requires
only_memory-requires c = refused_for (Unit {0}) c.in-Err.fault _ c.requires c.in-Err.ensures.refused
