-- A packet that is stamped below was emitted before.
use Rattle.std.specs.Prelude.{slice_get}
use Rattle.std.proofs.Common.{◌≡◌, ◌⊎◌, inl, inr, ⊎_elim, ℕ, zero, suc, ◌-◌, ◌<◌, ◌≤◌, List, [], ◌∷◌, ◌++◌, length, Some, sym, ap, ◌∙◌, arith}
use Rattle.am_names.specs.declared.NodeId.{NodeId}
use Rattle.am_names.specs.declared.Packet.{Packet}
use Rattle.am_office_entries.specs.declared.Entry.{Entry}
use Rattle.am_model.specs.Layout.{AllAre}
use Rattle.am_model.specs.Channels.{emitted}
use Rattle.am_model.specs.Packets.{stamp_of}
use Rattle.am_model.proofs.Ends.{EmittedIn, was_emitted}
use Rattle.am_model.proofs.Stamps.{emitted_stamp, stamp_in}
use Rattle.am_model_parts.proofs.Growing.{emitted_append}

-- none is stamped below
abbrev pub IsNotBefore : ℕ → List Entry → Type 0
IsNotBefore t xs = AllAre (λ (y : Entry). t ≤ y.stamp) xs

not_before : (t : ℕ) (xs : List Entry) (p : Packet) → IsNotBefore t xs → EmittedIn p xs → t ≤ stamp_of p
not_before t [] p h e = absurd e
not_before t (x ∷ xs) p h e =
    ⊎_elim
    (λ here. let same : stamp_of p ≡ x.stamp = ap (stamp_in x.stamp) (sym here) ∙ emitted_stamp x.stamp x.event x.outcome in omega (arith, same, h.0))
    (λ there. not_before t xs p h.1 there)
    e

got_append : {X : Type 0} (xs ys : List X) (k : ℕ) (p : X) → slice_get (xs ++ ys) k ≡ Some p →
    (slice_get xs k ≡ Some p) ⊎ (slice_get ys (k - length xs) ≡ Some p)
got_append [] ys k p h = inr (let same : k - 0 ≡ k = omega arith in ap (slice_get ys) same ∙ h)
got_append (x ∷ xs) ys zero p h = inl h
got_append (x ∷ xs) ys (suc k) p h =
    ⊎_elim (λ here. inl here) (λ there. inr (let same : suc k - suc (length xs) ≡ k - length xs = omega arith in ap (slice_get ys) same
    ∙ there)) (got_append xs ys k p h)

-- where it is stamped below all that come after
pub sent_early : (a b : NodeId) (past rest : List Entry) (k : ℕ) (p : Packet) (t : ℕ) → slice_get (emitted a b (past ++ rest)) k ≡ Some p → stamp_of p < t →
    IsNotBefore t rest → slice_get (emitted a b past) k ≡ Some p
sent_early a b past rest k p t h below after =
    ⊎_elim
    (λ here. here)
    (λ there. absurd (let w = was_emitted a b rest (k - length (emitted a b past)) p there in omega (arith, not_before t rest p after w.0, below)))
    (got_append (emitted a b past) (emitted a b rest) k p (ap (λ (ps : List Packet). slice_get ps k) (sym (emitted_append a b past rest)) ∙ h))
