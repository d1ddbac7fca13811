-- One declared number more.
use Rattle.std.proofs.Common.{◌≡◌, ℕ, ◌+◌, [], ◌++◌, refl, add-one}
use Rattle.std.specs.Option.{option_to_list}
use Rattle.am_scenario.specs.Drafts.Said.{Said, end_of, thread_of}
use Rattle.am_scenario.specs.Grammar.{ends_below, threads_below}

pub ends_none : (said : Said) → ends_below said 0 ≡ []
unfolding ends_below
ends_none said = refl

pub ends_more : (said : Said) (n : ℕ) → ends_below said (n + 1) ≡ ends_below said n ++ option_to_list (end_of said n)
unfolding ends_below
ends_more said n = rw add-one refl

pub threads_none : (said : Said) → threads_below said 0 ≡ []
unfolding threads_below
threads_none said = refl

pub threads_more : (said : Said) (n : ℕ) → threads_below said (n + 1) ≡ threads_below said n ++ option_to_list (thread_of said n)
unfolding threads_below
threads_more said n = rw add-one refl
