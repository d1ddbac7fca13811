use Rattle.std.proofs.lemmas.Bool.{le-leb}
use Rattle.am_library_drafts.specs.declared.draft.Setting.TheVariants.{Turns}
use Rattle.am_library_drafts.proofs.Welcome.{refused_for, settings}
use Rattle.am_job.proofs.drafting.set_turns.Goals as goal

pub only_memory-requires : goal.only_memory-requires
only_memory-requires c = refused_for (Unit {0}) c.in-Err.fault _ (settings (Turns c.args.turns) (le-leb c.args.turns 10_000 c.requires)) c.in-Err.ensures.refused
