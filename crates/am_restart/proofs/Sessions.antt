-- The laws of every session.
use Rattle.std.specs.Prelude.{count_by}
use Rattle.std.proofs.Common.{◌≡◌, ℕ, ◌≤◌, List, [], ◌∷◌, ◌++◌, refl, sym, ◌∙◌, subst, append_assoc, arith}
use Rattle.std.proofs.lemmas.Bool.{ne_eqb}
use Rattle.std.proofs.lemmas.List.{append-nil}
use Rattle.am_restart.specs.declared.events.SessionEntry.{SessionEntry}
use Rattle.am_restart.specs.declared.packets.SessionParcel.{SessionParcel}
use Rattle.am_restart.specs.Fates.{returns}
use Rattle.am_restart.specs.History.{IsSession, MayFollow, EachAfter, after, replayed, state_of}
use Rattle.am_restart.specs.Moves.{move_of}
use Rattle.am_restart.specs.State.{SessionState, opening}
use Rattle.am_restart.specs.Laws.Laws.{SessionLaws, IsFinal, HasItsCause}
use Rattle.am_restart.proofs.Causes.{has_its_cause}
use Rattle.am_restart.proofs.MoveKinds.{kind_of}
use Rattle.am_restart.proofs.Lists.{Among, none_pass}
use Rattle.am_restart.proofs.LawParts.{Holds, Dead, is_taken}
use Rattle.am_restart.proofs.Steps.{After, step}

-- one entry more
pub replayed_push : (s : SessionState) (xs : List SessionEntry) (x : SessionEntry) → replayed s (xs ++ x ∷ []) ≡ after (replayed s xs) x.event
replayed_push s [] x = refl
replayed_push s (y ∷ xs) x = replayed_push (after s y.event) xs x

-- what holds of the session after these entries
record Kept (tries : ℕ) (past : List SessionEntry) : Type 0 where
  taken : List SessionParcel
  holds : Holds (state_of tries past) taken past

opened : (tries : ℕ) → Kept tries []
opened tries =
    record {
      taken = [];
      holds = record {
        places = record { sum = λ m. refl; once = λ m. omega arith; later = λ m lt. refl };
        sender' = record { fits = λ p e. absurd e; one = λ p q e. absurd e; peer = omega arith };
        dead = record { later = λ p q e. absurd e; bound = λ p b e. absurd e; queued = λ p e. absurd e; returned = λ p e. absurd e };
        receiver' = record { emitted = λ d e. absurd e; settled = λ d e. absurd e; answers = λ a e. absurd e; welcomes = λ sender receiver e. absurd e };
        tally = record { put = λ m. refl; once = λ m. omega arith };
      };
    }

keeps : (tries : ℕ) (past : List SessionEntry) (x : SessionEntry) → Kept tries past → MayFollow (state_of tries past) x → Kept tries (past ++ x ∷ [])
keeps tries past x h may =
    let there : After (state_of tries past) (move_of (state_of tries past) x.event) (past ++ x ∷ []) =
    step (state_of tries past) h.taken past x (move_of (state_of tries past) x.event) h.holds (kind_of (state_of tries past) x.event may.enabled)
    may.outcome' in
    record {
      taken = there.taken;
      holds = subst (λ (s : SessionState). Holds s there.taken (past ++ x ∷ [])) (sym (replayed_push (opening tries) past x))
          there.holds;
    }

kept : (tries : ℕ) (past xs : List SessionEntry) → Kept tries past → EachAfter (λ past x. MayFollow (state_of tries past) x) past xs → Kept tries (past ++ xs)
kept tries past [] h each = subst (Kept tries) (sym (append-nil past)) h
kept tries past (x ∷ xs) h each =
    subst (Kept tries) (append_assoc past (x ∷ []) xs) (kept tries (past ++ x ∷ []) xs (keeps tries past x h each.0) each.1)

with_causes : (tries : ℕ) (past xs : List SessionEntry) → EachAfter (λ past x. MayFollow (state_of tries past) x) past xs →
    EachAfter (λ past x. HasItsCause (state_of tries past) x) past xs
with_causes tries past [] each = tt
with_causes tries past (x ∷ xs) each = (has_its_cause (state_of tries past) x each.0, with_causes tries (past ++ x ∷ []) xs each.1)

-- no message that is returned was put
none_put : (tries : ℕ) (entries : List SessionEntry) (h : Kept tries entries) (m : ℕ) → 1 ≤ count_by (returns m) entries → count_by (is_taken m) h.taken ≡ 0
none_put tries entries h m one = none_pass (is_taken m) h.taken (λ d there. ne_eqb m d.message (λ same. other d there same))
  where
    other : (d : SessionParcel) → Among d h.taken → m ≡ d.message → ⊥
    other d there same =
        let dead : Dead _ h.taken d = h.holds.dead.returned d (h.holds.receiver'.emitted d there) (subst (λ (n : ℕ). 1 ≤ count_by (returns n) entries) same one)
        in
        dead.untaken d there (record { receiver = refl; sender' = refl; seq = refl })

final : (tries : ℕ) (entries : List SessionEntry) → Kept tries entries → (m : ℕ) → 1 ≤ count_by (returns m) entries → IsFinal entries m
final tries entries h m one =
    record {
      put = h.holds.tally.put m ∙ none_put tries entries h m one;
      unknown = omega (arith, h.holds.places.sum m, h.holds.places.once m, one);
      once = omega (arith, h.holds.places.sum m, h.holds.places.once m, one);
    }

pub laws : (tries : ℕ) (entries : List SessionEntry) → IsSession tries entries → SessionLaws tries entries
laws tries entries h =
    let k : Kept tries entries = kept tries [] entries (opened tries) h in
    record {
      put_once = λ m. omega (arith, k.holds.tally.put m, k.holds.tally.once m);
      returned_for_good = λ m one. final tries entries k m one;
      unknown_once = λ m. omega (arith, k.holds.places.sum m, k.holds.places.once m);
      unknown_with_cause = with_causes tries [] entries h;
    }
