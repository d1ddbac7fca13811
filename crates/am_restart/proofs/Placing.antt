-- Where each message is after a move.
use Rattle.std.specs.Prelude.{count_by, slice_get, drop}
use Rattle.std.proofs.Common.{◌≡◌, ℕ, ◌+◌, ◌≤◌, true, false, ◌==◌, ◌⊎◌, inl, inr, Option, Some, None, List, [], ◌∷◌, ◌++◌, ap, ◌∙◌, arith}
use Rattle.std.proofs.lemmas.Bool.{ne_eqb}
use Rattle.std.proofs.lemmas.Bool.Decides.{eqb_tells}
use Rattle.am_channel.specs.declared.sending.Bound.{Bound}
use Rattle.am_restart.specs.declared.events.SessionEntry.{SessionEntry}
use Rattle.am_restart.specs.declared.packets.SessionParcel.{SessionParcel}
use Rattle.am_restart.specs.Fates.{puts, returns, leaves_unknown, is_of}
use Rattle.am_restart.proofs.MoveKinds.{Tells}
use Rattle.am_restart.proofs.Lists.{count_more, count_front, count_first}
use Rattle.am_restart.proofs.LawParts.{Places, Tally, offers, delivers, bound_bit, is_taken}
use Rattle.am_model.proofs.Received.{bit, bit_at_most}

-- what the entries tell with one more
pub record Pushed (past next : List SessionEntry) (o p r u d : Option ℕ) : Type 0 where
  pub offers' : (m : ℕ) → count_by (offers m) next ≡ count_by (offers m) past + bit (is_of m o)
  pub puts' : (m : ℕ) → count_by (puts m) next ≡ count_by (puts m) past + bit (is_of m p)
  pub returns' : (m : ℕ) → count_by (returns m) next ≡ count_by (returns m) past + bit (is_of m r)
  pub unknown' : (m : ℕ) → count_by (leaves_unknown m) next ≡ count_by (leaves_unknown m) past + bit (is_of m u)
  pub delivers' : (m : ℕ) → count_by (delivers m) next ≡ count_by (delivers m) past + bit (is_of m d)

pub pushed : (past : List SessionEntry) (x : SessionEntry) (o p r u d : Option ℕ) → Tells x.outcome o p r u d → Pushed past (past ++ x ∷ []) o p r u d
pushed past x o p r u d is =
    record {
      offers' = λ m. count_more (offers m) past x ∙ ap (λ (n : Option ℕ). count_by (offers m) past + bit (is_of m n)) is.offers';
      puts' = λ m. count_more (puts m) past x ∙ ap (λ (n : Option ℕ). count_by (puts m) past + bit (is_of m n)) is.puts';
      returns' = λ m. count_more (returns m) past x ∙ ap (λ (n : Option ℕ). count_by (returns m) past + bit (is_of m n)) is.returns';
      unknown' = λ m. count_more (leaves_unknown m) past x ∙ ap (λ (n : Option ℕ). count_by (leaves_unknown m) past + bit (is_of m n)) is.unknown';
      delivers' = λ m. count_more (delivers m) past x ∙ ap (λ (n : Option ℕ). count_by (delivers m) past + bit (is_of m n)) is.delivers';
    }

-- a count to which nothing was added
pub none_more : (n count : ℕ) → n ≡ count + 0 → n ≡ count
none_more n count h = omega (arith, h)

-- no message goes anywhere, or what is bound stays the same message
pub places_same : (bound after : Option Bound) (offered : ℕ) (queue : List ℕ) (past next : List SessionEntry) (p : Option ℕ) → Places bound offered queue past →
    Pushed past next None p None None None → ((m : ℕ) → bound_bit m after ≡ bound_bit m bound) → Places after offered queue next
places_same bound after offered queue past next p h more same =
    record {
      sum = λ m. omega (arith, h.sum m, more.offers' m, more.returns' m, more.unknown' m, more.delivers' m, same m);
      once = λ m. omega (arith, h.once m, more.offers' m);
      later = λ m lt. omega (arith, h.later m lt, more.offers' m);
    }

-- what was bound is returned, unknown or delivered
pub places_free : (bound after : Option Bound) (offered : ℕ) (queue : List ℕ) (past next : List SessionEntry) (r u d : Option ℕ) →
    Places bound offered queue past → Pushed past next None None r u d → ((m : ℕ) → bound_bit m bound ≡ bit (is_of m r) + bit (is_of m u) + bit (is_of m d)) →
    after ≡ None → Places after offered queue next
places_free bound after offered queue past next r u d h more is idle =
    record {
      sum = λ m. let free : ◌≡◌ {A = ℕ} (bound_bit m after) 0 = ap (bound_bit m) idle in
          omega (arith, h.sum m, more.offers' m, more.returns' m, more.unknown' m, more.delivers' m, is m, free);
      once = λ m. omega (arith, h.once m, more.offers' m);
      later = λ m lt. omega (arith, h.later m lt, more.offers' m);
    }

-- what was bound waits again
pub places_requeue : (bound after : Option Bound) (offered : ℕ) (queue : List ℕ) (past next : List SessionEntry) (n : ℕ) → Places bound offered queue past →
    Pushed past next None None None None None → ((m : ℕ) → bound_bit m bound ≡ bit (m == n)) → after ≡ None → Places after offered (queue ++ n ∷ []) next
places_requeue bound after offered queue past next n h more is idle =
    record {
      sum = λ m. let free : ◌≡◌ {A = ℕ} (bound_bit m after) 0 = ap (bound_bit m) idle in
          omega (arith, h.sum m, more.offers' m, more.returns' m, more.unknown' m, more.delivers' m, is m, free, count_more (λ (k : ℕ). m == k) queue n);
      once = λ m. omega (arith, h.once m, more.offers' m);
      later = λ m lt. omega (arith, h.later m lt, more.offers' m);
    }

-- the queue's front is bound
pub places_bind : (bound after : Option Bound) (offered : ℕ) (queue : List ℕ) (past next : List SessionEntry) (n : ℕ) → Places bound offered queue past →
    Pushed past next None None None None None → bound ≡ None → ((m : ℕ) → bound_bit m after ≡ bit (m == n)) → slice_get queue 0 ≡ Some n →
    Places after offered (drop 1 queue) next
places_bind bound after offered queue past next n h more idle is front =
    record {
      sum = λ m. let free : ◌≡◌ {A = ℕ} (bound_bit m bound) 0 = ap (bound_bit m) idle in
          omega (arith, h.sum m, more.offers' m, more.returns' m, more.unknown' m, more.delivers' m, is m, free, count_front (λ (k : ℕ). m == k) n queue front);
      once = λ m. omega (arith, h.once m, more.offers' m);
      later = λ m lt. omega (arith, h.later m lt, more.offers' m);
    }

-- the next message waits
pub places_offer : (bound : Option Bound) (offered : ℕ) (queue : List ℕ) (past next : List SessionEntry) → Places bound offered queue past →
    Pushed past next (Some (offered + 1)) None None None None → Places bound (offered + 1) (queue ++ (offered + 1) ∷ []) next
places_offer bound offered queue past next h more =
    record {
      sum = λ m. omega (arith, h.sum m, more.offers' m, more.returns' m, more.unknown' m, more.delivers' m, count_more (λ (k : ℕ). m == k) queue (offered + 1));
      once = λ m. over m (eqb_tells m (offered + 1));
      later = λ m lt.
          let other : (m == (offered + 1)) ≡ false = ne_eqb m (offered + 1) (λ same. omega (arith, same, lt)) in
          let none : ◌≡◌ {A = ℕ} (bit (m == (offered + 1))) 0 = ap bit other in
          omega (arith, h.later m (omega arith), more.offers' m, none);
    }
  where
    over : (m : ℕ) → (((m == (offered + 1)) ≡ true) × (m ≡ offered + 1)) ⊎ (((m == (offered + 1)) ≡ false) × (m ≡ offered + 1 → ⊥)) →
        count_by (offers m) next ≤ 1
    over m (inl same) = omega (arith, h.later m (let e : m ≡ offered + 1 = same.1 in omega (arith, e)), more.offers' m, bit_at_most (m == (offered + 1)))
    over m (inr other) = let none : ◌≡◌ {A = ℕ} (bit (m == (offered + 1))) 0 = ap bit other.0 in omega (arith, h.once m, more.offers' m, none)

-- nothing more is put
pub tally_same : (past next : List SessionEntry) (taken : List SessionParcel) (o r u d : Option ℕ) → Tally past taken → Pushed past next o None r u d →
    Tally next taken
tally_same past next taken o r u d h more = record { put = λ m. omega (arith, h.put m, more.puts' m); once = h.once }

-- a parcel is put, of a message of which none was
pub tally_put : (past next : List SessionEntry) (taken : List SessionParcel) (f : SessionParcel) → Tally past taken →
    Pushed past next None (Some f.message) None None None → count_by (is_taken f.message) taken ≡ 0 → Tally next (f ∷ taken)
tally_put past next taken f h more none =
    record {
      put = λ m. omega (arith, h.put m, more.puts' m, count_first (is_taken m) f taken);
      once = λ m. over m (eqb_tells m f.message);
    }
  where
    over : (m : ℕ) → (((m == f.message) ≡ true) × (m ≡ f.message)) ⊎ (((m == f.message) ≡ false) × (m ≡ f.message → ⊥)) → count_by (is_taken m) (f ∷ taken) ≤ 1
    over m (inl same) =
        let zero : ◌≡◌ {A = ℕ} (count_by (is_taken m) taken) 0 = ap (λ (n : ℕ). count_by (is_taken n) taken) same.1 ∙ none in
        omega (arith, count_first (is_taken m) f taken, bit_at_most (m == f.message), zero)
    over m (inr other) = let no_bit : ◌≡◌ {A = ℕ} (bit (m == f.message)) 0 = ap bit other.0 in omega (arith, count_first (is_taken m) f taken, h.once m, no_bit)
