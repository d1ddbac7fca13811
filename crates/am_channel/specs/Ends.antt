-- Both ends that a node keeps of a channel.
use Rattle.std.specs.Prelude.{None}
use Rattle.am_names.specs.declared.Cause.TheVariants.{NoRequest}
use Rattle.am_names.specs.declared.Verdict.TheVariants as Verdicts
use Rattle.am_channel.specs.declared.ends.Ends.{Ends}

-- ends on which nothing was bound and nothing decided
abbrev pub new_ends : Ends
new_ends = record { sending = record { seq = 0; bound = None }; receiving = record { seq = 0; attempt = 0; verdict = Verdicts.Refused NoRequest } }
