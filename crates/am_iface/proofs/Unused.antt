-- What an interface keeps before any entry.
use Rattle.std.specs.Prelude.{slice_get}
use Rattle.std.proofs.Common.{◌≡◌, ℕ, ◌+◌, ◌*◌, Some, List, [], sym, subst, arith, refl, replicate}
use Rattle.std.proofs.lemmas.List.{length-replicate}
use Rattle.std.proofs.lemmas.List.Elements.{All-replicate}
use Rattle.am_lemmas.proofs.Lists.{All-slice_get}
use Rattle.am_office_entries.specs.declared.Entry.{Entry}
use Rattle.am_model.specs.History.{channel_to}
use Rattle.am_model.specs.Layout.{node_at}
use Rattle.am_channel.specs.declared.ends.Ends.{Ends}
use Rattle.am_channel.specs.Ends.{new_ends}
use Rattle.am_channel.specs.Counted.{AreCounted}
use Rattle.am_channel.proofs.Folds.{new_counted}
use Rattle.am_iface.specs.Settings.{AreLawful, SettingsView}
use Rattle.am_iface.specs.Kept.{AreOfLog}

-- each element of a list of copies is the one that was copied
drawn : {X : Type 0} (n k : ℕ) (x e : X) → slice_get (replicate n x) k ≡ Some e → e ≡ x
drawn {X} n k x e got = All-slice_get (λ (f : X). f ≡ x) (replicate n x) k e (All-replicate (λ (f : X). f ≡ x) n x refl) got

-- no call was made on the ends of each channel, and no packet went to a peer
opened_empty : (set : SettingsView) → AreLawful set → AreOfLog set (replicate 64 new_ends) (replicate 16 0) []
opened_empty set lawful =
    record {
      ends =
          λ peer channel e below got. subst (λ (f : Ends). AreCounted (channel_to set.node (node_at peer) channel) [] f)
          (sym (drawn 64 (4 * peer + channel) new_ends e got))
          (new_counted (channel_to set.node (node_at peer) channel));
      emissions = λ peer n got. let none : n ≡ 0 = drawn 16 peer 0 n got in (none, omega (arith, none));
      all_ends = length-replicate 64 new_ends;
      all_peers = length-replicate {A = ℕ} 16 0;
      bounded = omega arith;
      lawful = lawful;
    }

pub opened : (set : SettingsView) (ends : List Ends) (counts : List ℕ) (log : List Entry) → AreLawful set → ends ≡ replicate 64 new_ends →
    counts ≡ replicate 16 0 → log ≡ [] → AreOfLog set ends counts log
opened set ends counts log lawful unused none empty =
    subst (λ (es : List Ends). AreOfLog set es counts log) (sym unused)
    (subst (λ (ns : List ℕ). AreOfLog set (replicate 64 new_ends) ns log) (sym none)
    (subst (λ (xs : List Entry). AreOfLog set (replicate 64 new_ends) (replicate 16 0) xs) (sym empty) (opened_empty set lawful)))
