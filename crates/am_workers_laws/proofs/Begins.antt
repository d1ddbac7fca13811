-- What each worker keeps before its first turn.
use Rattle.std.proofs.Common.{◌≡◌, ℕ, zero, suc, List, [], ◌∷◌, map, refl, subst, arith}
use lib.ListN.{get_elem?}
use mathlib.Core.Option.{some}
use Rattle.am_endpoint_body.specs.declared.settings.EndSettings.{EndSettings}
use Rattle.am_model.specs.Layout.{AllAre, Layout}
use Rattle.am_workers_laws.specs.declared.books.EndBook.{EndBook}
use Rattle.am_model_scripts.specs.Layout.{layout_of}
use Rattle.am_workers_laws.specs.Invariants.Begins.{InterfacesBegin, ThreadsBegin}
use Rattle.am_workers_laws.specs.Invariants.Seats.{IsBorn}
use Rattle.am_workers_laws.proofs.Fresh.{fresh_know}

born_there : (layout : Layout) (books : List EndBook) → AllAre (λ (b : EndBook). IsBorn layout b.end.value.settings) books → (j : ℕ) (set : EndSettings) →
    get_elem? (map (λ (b : EndBook). b.end.value.settings) books) j ≡ some set → IsBorn layout set
born_there layout [] h j set is = absurd (cc)
born_there layout (b ∷ bs) h zero set is = let same : b.end.value.settings ≡ set = cc in subst (IsBorn layout) same h.0
born_there layout (b ∷ bs) h (suc j) set is = born_there layout bs h.1 j set is

pub threads_begin : ThreadsBegin
threads_begin s books named thread k seats frames fresh guest =
    record {
      made = [];
      born = born_there (layout_of s) books fresh.born;
      knows = fresh_know books named k seats frames fresh.apart fresh.none;
      guest = guest;
      clocked = record { rising = tt; below = tt; low = tt };
      own = tt;
      few = omega (arith);
      calls = refl;
      ranged = tt;
      right = λ logs seen. tt;
    }

pub interfaces_begin : InterfacesBegin
interfaces_begin s books named node k seats frames fresh guest =
    record {
      born = born_there (layout_of s) books fresh.born;
      knows = fresh_know books named k seats frames fresh.apart fresh.none;
      guest = guest;
      rising = tt;
      low = tt;
      few = omega (arith);
      ranged = tt;
      emits = λ to. refl;
      got = λ from. [];
      receipts = λ from. tt;
      in_hand = λ from. refl;
      right = λ logs seen. tt;
    }
