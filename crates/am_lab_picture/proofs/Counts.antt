-- Of a list as many are counted as it is long, or fewer.
use Rattle.std.proofs.lemmas.List.Sums.{count_by-le-length}

pub ruleset few = (count_by-le-length)
