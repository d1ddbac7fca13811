-- What is known of a message after one entry more.
use Rattle.std.proofs.Common.{◌≡◌, ℕ, ◌<◌, ◌+◌, Bool, true, false, ◌||◌, ◌==◌, cond, Option, Some, None, List, [], ◌∷◌, ◌++◌, refl, sym, ap, ◌∙◌, length, take}
use Rattle.std.proofs.Common.{get_or, add-one}
use Rattle.std.specs.Ordering.{is_eq, nat_cmp}
use Rattle.std.specs.BTreeMap.{BTreeMap, get, Updates}
use Rattle.std.proofs.lemmas.Bool.{eqb-true}
use Rattle.std.proofs.Math.Seq.{take-suc}
use mathlib.Core.Bool.{or-false, or-true}
use Rattle.am_lemmas.proofs.Numbers.{nat_cmp-is_eq}
use Rattle.am_lemmas.proofs.Lists.{list_any-push}
use Rattle.am_restart.specs.declared.events.SessionEntry.{SessionEntry}
use Rattle.am_restart.specs.declared.events.SessionOutcome.{SessionOutcome}
use Rattle.am_restart.specs.declared.events.SessionOutcome.TheVariants as Out
use Rattle.am_restart.specs.Fates.{puts, returns, leaves_unknown, is_of, put_in, returned_in, unknown_in}
use Rattle.am_session.specs.declared.fates.Known.{Known}
use Rattle.am_session.specs.declared.fates.News.{News}
use Rattle.am_session.specs.declared.fates.News.TheVariants as Latest
use Rattle.am_session.specs.Tables.{news_in, unknown_news, known_with, known_in, known_of, known_after, AreKnown}

learned_if : (b : Bool) (m n : BTreeMap ℕ Known) (k s : ℕ) (news : News) → b ≡ (s == k) →
    get nat_cmp n s ≡ cond b (Some (known_with (known_in m k) news)) (get nat_cmp m s) → known_in n s ≡ cond b (known_with (known_in m s) news) (known_in m s)
learned_if true m n k s news is got = rw (got, eqb-true s k (sym is)) refl
learned_if false m n k s news is got = rw got refl

pub learned : (m n : BTreeMap ℕ Known) (k : ℕ) (news : News) → Updates nat_cmp m n k (Some (known_with (known_in m k) news)) → (s : ℕ) →
    known_in n s ≡ known_after s (known_in m s) (Some (k, news))
learned m n k news updates s =
    rw (← nat_cmp-is_eq k s) (learned_if (is_eq (nat_cmp k s)) m n k s news (nat_cmp-is_eq k s) (updates.0 s))

-- what is known after an entry that says these
abbrev grown : Known → Bool → Bool → Bool → Known
grown k put returned unknown = record { put = k.put || put; returned = k.returned || returned; unknown = k.unknown || unknown }

grown_none : (k : Known) → grown k false false false ≡ k
grown_none k = rw (or-false k.put, or-false k.returned, or-false k.unknown) refl

grown_put : (b : Bool) (k : Known) → grown k b false false ≡ cond b (known_with k Latest.Put) k
grown_put true k = rw (or-true k.put, or-false k.returned, or-false k.unknown) refl
grown_put false k = grown_none k

grown_returned : (b : Bool) (k : Known) → grown k false b false ≡ cond b (known_with k Latest.Returned) k
grown_returned true k = rw (or-false k.put, or-true k.returned, or-false k.unknown) refl
grown_returned false k = grown_none k

grown_unknown : (b : Bool) (k : Known) → grown k false false b ≡ cond b (known_with k Latest.Unknown) k
grown_unknown true k = rw (or-false k.put, or-false k.returned, or-true k.unknown) refl
grown_unknown false k = grown_none k

grown_peer : (s : ℕ) (k : Known) (unknown : Option ℕ) → grown k false false (is_of s unknown) ≡ known_after s k (unknown_news unknown)
grown_peer s k None = grown_none k
grown_peer s k (Some m) = grown_unknown (s == m) k

grown_by : (s : ℕ) (k : Known) (o : SessionOutcome) → grown k (is_of s (put_in o)) (is_of s (returned_in o)) (is_of s (unknown_in o)) ≡ known_after s k
    (news_in o)
grown_by s k (Out.Accepted m answer) = grown_put (s == m) k
grown_by s k (Out.Returned m) = grown_returned (s == m) k
grown_by s k (Out.Unknown m) = grown_unknown (s == m) k
grown_by s k (Out.Peer incarnation unknown) = grown_peer s k unknown
grown_by s k outcome = grown_none k

known_append : (s : ℕ) (past : List SessionEntry) (x : SessionEntry) → known_of (past ++ x ∷ []) s ≡ known_after s (known_of past s) (news_in x.outcome)
known_append s past x =
    let all : known_of (past ++ x ∷ []) s ≡ grown (known_of past s) (puts s x) (returns s x) (leaves_unknown s x) =
    rw (list_any-push (puts s) past x, list_any-push (returns s) past x, list_any-push (leaves_unknown s) past x) refl
    in
    all ∙ grown_by s (known_of past s) x.outcome

pub known_next : (old new : BTreeMap ℕ Known) (xs : List SessionEntry) (i : ℕ) (d : SessionEntry) → i < length xs → AreKnown old (take i xs) →
    ((s : ℕ) → known_in new s ≡ known_after s (known_in old s) (news_in (get_or xs i d).outcome)) → AreKnown new (take (i + 1) xs)
known_next old new xs i d below are step =
    let taken : take (i + 1) xs ≡ take i xs ++ get_or xs i d ∷ [] = rw add-one (take-suc xs i d below) in
    record {
      each = λ (s : ℕ).
          step s
          ∙ ap (λ (k : Known). known_after s k (news_in (get_or xs i d).outcome)) (are.each s)
          ∙ sym (known_append s (take i xs) (get_or xs i d))
          ∙ ap (λ (past : List SessionEntry). known_of past s) (sym taken);
    }
