-- What is so of each kind of call that a round's threads make is so of each call of its script.
use Rattle.std.proofs.Common.{ℕ, zero, suc, ◌+◌, ◌%◌, ◌<◌, ◌≤◌, List, [], ◌∷◌, ◌++◌, arith}
use Rattle.std.specs.List.{All}
use Rattle.std.proofs.lemmas.List.Elements.{All-nil, All-cons, All-push, All-append}
use Rattle.std.proofs.lemmas.Nat.{mod_below}
use Rattle.am_office_entries.specs.declared.Call.TheVariants.{Request, Poll, SetHandler}
use Rattle.am_office_entries.specs.declared.HandlerKind.TheVariants.{Note}
use Rattle.am_scenario_types.specs.declared.parts.ScriptCall.{ScriptCall}
use Rattle.am_job.specs.declared.words.codes.CodedWord.{CodedWord}
use Rattle.am_job.specs.Scripts.{map_to, maps_below, on_owner, on_sender, opening, openings_below, owner, polls, script, sending, sendings}

-- P is so of what the threads of w nodes call
pub record IsOfEach (w : ℕ) (P : ScriptCall → Type 0) : Type 0 where
  pub note : (n : ℕ) → n < w → P (on_owner n (SetHandler 1 Note))
  pub mapping : (n k : ℕ) → n < w → k < w → P (on_sender n (map_to k))
  pub request : (n : ℕ) (word : CodedWord) → n < w → P (on_sender n (Request (owner w word) 1 word.words))
  pub owners_poll : (n : ℕ) → n < w → P (on_owner n Poll)
  pub senders_poll : (n : ℕ) → n < w → P (on_sender n Poll)

module _ (w : ℕ) (P : ScriptCall → Type 0) (each : IsOfEach w P) where
  some_maps : (n k : ℕ) → n < w → k ≤ w → All P (maps_below n k)
  unfolding maps_below
  some_maps n zero less few = All-nil P
  some_maps n (suc k) less few =
      All-push P (maps_below n k) (on_sender n (map_to k)) (some_maps n k less (omega arith)) (each.mapping n k less (omega arith))

  some_openings : (n : ℕ) → n ≤ w → All P (openings_below w n)
  unfolding openings_below opening
  some_openings zero few = All-nil P
  some_openings (suc n) few =
      All-append P (openings_below w n) (on_owner n (SetHandler 1 Note) ∷ [] ++ maps_below n w) (some_openings n (omega arith))
      (All-cons P (on_owner n (SetHandler 1 Note)) (maps_below n w) (each.note n (omega arith)) (some_maps n w (omega arith) (omega arith)))

  some_polls : (n times : ℕ) → n < w → All P (polls n times)
  unfolding polls
  some_polls n zero less = All-nil P
  some_polls n (suc times) less = All-push P (polls n times) (on_owner n Poll) (some_polls n times less) (each.owners_poll n less)

  a_sending : (n : ℕ) (word : CodedWord) → n < w → All P (sending w n word)
  unfolding sending
  a_sending n word less =
      let first : ScriptCall = on_sender n (Request (owner w word) 1 word.words) in
      All-push P (first ∷ [] ++ polls n w) (on_sender n Poll) (All-cons P first (polls n w) (each.request n word less) (some_polls n w less))
      (each.senders_poll n less)

  some_sendings : (j : ℕ) (words : List CodedWord) → 0 < w → All P (sendings w j words)
  unfolding sendings
  some_sendings j [] some = All-nil P
  some_sendings j (word ∷ words) some =
      All-append P (sending w (j % w) word) (sendings w (j + 1) words) (a_sending (j % w) word (mod_below j w some))
      (some_sendings (j + 1) words some)

  pub each_call : (words : List CodedWord) → 0 < w → All P (script w words)
  unfolding script
  each_call words some = All-append P (openings_below w w) (sendings w 0 words) (some_openings w (omega arith)) (some_sendings 0 words some)
