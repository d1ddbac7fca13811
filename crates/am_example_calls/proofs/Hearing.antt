-- What the runs of a round say of one call.
use Rattle.std.specs.Prelude.{◌==◌, fold, slice_set}
use Rattle.std.proofs.Common.{◌≡◌, ◌≢◌, ℕ, ◌<◌, Bool, true, false, Option, Some, None, List, [], ◌∷◌, ◌++◌, refl, sym, ap, ◌∙◌, subst, ⊎_elim, length, arith}
use Rattle.std.proofs.Common.{eqb-true}
use Rattle.std.specs.List.{Contains}
use Rattle.std.proofs.lemmas.Bool.{eqb-false}
use Rattle.std.proofs.lemmas.List.{get_or-set_same, get_or-set_other, length-set}
use Rattle.std.proofs.lemmas.List.Elements.{Contains-append_cases, Contains-append_left, Contains-append_right, Contains-push}
use Rattle.am_names.specs.declared.Message.{Message}
use Rattle.am_office_entries.specs.declared.Entry.{Entry}
use Rattle.am_library_views.specs.Views.{reply_to, with_reply}
use Rattle.am_library_views.proofs.Distinct.{only_one}
use Rattle.am_example_calls.specs.declared.answers.Answer.{Answer}
use Rattle.am_example_calls.specs.declared.answers.Answer.TheVariants.{Heard, Unheard, NeverRan}
use Rattle.am_example_calls.specs.Answers.{after_run, answer_at, is_heard, noted}

-- after the run of a request in a journal
abbrev pub noted_in : List Entry → List Answer → Message → List Answer
noted_in journal answers m = noted answers (with_reply journal m)

-- no run with this token had a reply
abbrev pub AllUnanswered : List Entry → List Message → ℕ → Type 0
AllUnanswered journal runs token = (n : Message) → Contains runs n → n.words.a ≡ token → reply_to journal n.serial ≡ None

-- an answer that was known stays; else it is the reply to a run; else there was a run, and no reply; else there was none
pub data Next (journal : List Entry) (runs : List Message) (token : ℕ) (a b : Answer) : Type 0 where
  Known : is_heard a ≡ true → b ≡ a → Next journal runs token a b
  Came :
      is_heard a ≡ false → (m r : Message) → Contains runs m → m.words.a ≡ token → reply_to journal m.serial ≡ Some r → b ≡ Heard r.words →
      Next journal runs token a b
  Gone : is_heard a ≡ false → (m : Message) → Contains runs m → m.words.a ≡ token → AllUnanswered journal runs token → b ≡ Unheard → Next journal runs token a b
  Still : is_heard a ≡ false → ((n : Message) → Contains runs n → n.words.a ≡ token → ⊥) → b ≡ a → Next journal runs token a b

nothing : (m : Message) → Contains [] m → ⊥
nothing m (k, below, is) = omega arith

first : (m : Message) (ms : List Message) → Contains (m ∷ ms) m
first m ms = Contains-append_left (m ∷ []) ms m (Contains-push [] m)

later : (m n : Message) (ms : List Message) → Contains ms n → Contains (m ∷ ms) n
later m n ms has = Contains-append_right (m ∷ []) ms n has

-- what holds of a first run and of each later one
each_run : (P : Message → Type 0) (m : Message) (ms : List Message) → P m → ((n : Message) → Contains ms n → P n) → (n : Message) → Contains (m ∷ ms) n → P n
each_run P m ms here rest n has =
    ⊎_elim (λ (now : Contains (m ∷ []) n). subst P (only_one m n now) here) (λ (next : Contains ms n). rest n next) (Contains-append_cases (m ∷ []) ms n has)

-- a run with another token says nothing
other_run : (journal : List Entry) (m : Message) (ms : List Message) (token : ℕ) (a b : Answer) → m.words.a ≢ token → Next journal ms token a b →
    Next journal (m ∷ ms) token a b
other_run journal m ms token a b other (Known heard is) = Known heard is
other_run journal m ms token a b other (Came heard n r has at reply is) = Came heard n r (later m n ms has) at reply is
other_run journal m ms token a b other (Gone heard n has at none is) =
    Gone heard n (later m n ms has) at
    (each_run (λ (k : Message). k.words.a ≡ token → reply_to journal k.serial ≡ None) m ms (λ (same : m.words.a ≡ token). absurd (other same)) none) is
other_run journal m ms token a b other (Still heard none is) =
    Still heard (each_run (λ (k : Message). k.words.a ≡ token → ⊥) m ms other none) is

-- after a run that was heard nothing more is said
heard_run : (journal : List Entry) (m r : Message) (ms : List Message) (token : ℕ) (a b : Answer) → is_heard a ≡ false → m.words.a ≡ token →
    reply_to journal m.serial ≡ Some r → Next journal ms token (Heard r.words) b → Next journal (m ∷ ms) token a b
heard_run journal m r ms token a b open' at reply (Known heard is) = Came open' m r (first m ms) at reply is
heard_run journal m r ms token a b open' at reply (Came heard n q has there answer is) = absurd (cc)
heard_run journal m r ms token a b open' at reply (Gone heard n has there none is) = absurd (cc)
heard_run journal m r ms token a b open' at reply (Still heard none is) = absurd (cc)

-- after one that was not, what comes later
unheard_run : (journal : List Entry) (m : Message) (ms : List Message) (token : ℕ) (a b : Answer) → is_heard a ≡ false → m.words.a ≡ token →
    reply_to journal m.serial ≡ None → Next journal ms token Unheard b → Next journal (m ∷ ms) token a b
unheard_run journal m ms token a b open' at none (Known heard is) = absurd (cc)
unheard_run journal m ms token a b open' at none (Came heard n r has there reply is) = Came open' n r (later m n ms has) there reply is
unheard_run journal m ms token a b open' at none (Gone heard n has there all is) =
    Gone open' m (first m ms) at (each_run (λ (k : Message). k.words.a ≡ token → reply_to journal k.serial ≡ None) m ms
    (λ (same : m.words.a ≡ token). none) all) is
unheard_run journal m ms token a b open' at none (Still heard never is) =
    Gone open' m (first m ms) at (each_run (λ (k : Message). k.words.a ≡ token → reply_to journal k.serial ≡ None) m ms
    (λ (same : m.words.a ≡ token). none)
    (λ (k : Message) (has : Contains ms k) (same : k.words.a ≡ token). absurd (never k has same))) is

known_run : (journal : List Entry) (m : Message) (ms : List Message) (token : ℕ) (a b : Answer) → is_heard a ≡ true → Next journal ms token a b →
    Next journal (m ∷ ms) token a b
known_run journal m ms token a b known (Known heard is) = Known heard is
known_run journal m ms token a b known (Came heard n r has there reply is) = absurd (cc)
known_run journal m ms token a b known (Gone heard n has there all is) = absurd (cc)
known_run journal m ms token a b known (Still heard never is) = absurd (cc)

-- a run with the token
own_run : (journal : List Entry) (m : Message) (ms : List Message) (token : ℕ) (a b : Answer) (o : Option Message) → m.words.a ≡ token →
    reply_to journal m.serial ≡ o → Next journal ms token (after_run a o) b → Next journal (m ∷ ms) token a b
own_run journal m ms token (Heard words) b o at is next = known_run journal m ms token (Heard words) b refl next
own_run journal m ms token Unheard b (Some r) at is next = heard_run journal m r ms token Unheard b refl at is next
own_run journal m ms token NeverRan b (Some r) at is next = heard_run journal m r ms token NeverRan b refl at is next
own_run journal m ms token Unheard b None at is next = unheard_run journal m ms token Unheard b refl at is next
own_run journal m ms token NeverRan b None at is next = unheard_run journal m ms token NeverRan b refl at is next

none_said : (journal : List Entry) (token : ℕ) (a : Answer) → Next journal [] token a a
none_said journal token a = by_heard (is_heard a) refl
  where
    by_heard : (b : Bool) → is_heard a ≡ b → Next journal [] token a a
    by_heard true is = Known is refl
    by_heard false is = Still is (λ (n : Message) (has : Contains [] n) (at : n.words.a ≡ token). nothing n has) refl

pub next : (journal : List Entry) (runs : List Message) (token : ℕ) (answers : List Answer) → token < length answers →
    Next journal runs token (answer_at answers token) (answer_at (fold (noted_in journal) answers runs) token)
next journal [] token answers below = none_said journal token (answer_at answers token)
next journal (m ∷ ms) token answers below =
    by_token (m.words.a == token) refl
    (next journal ms token (noted_in journal answers m)
    (subst (λ (n : ℕ). token < n) (sym (length-set answers m.words.a (after_run (answer_at answers m.words.a) (reply_to journal m.serial)))) below))
  where
    by_token : (b : Bool) → (m.words.a == token) ≡ b →
        Next journal ms token (answer_at (noted_in journal answers m) token) (answer_at (fold (noted_in journal) (noted_in journal answers m) ms) token) →
        Next journal (m ∷ ms) token (answer_at answers token) (answer_at (fold (noted_in journal) (noted_in journal answers m) ms) token)
    by_token true is rest =
        let at : m.words.a ≡ token = eqb-true m.words.a token is in
        let now : answer_at (noted_in journal answers m) token ≡ after_run (answer_at answers token) (reply_to journal m.serial) =
        subst (λ (k : ℕ). answer_at (noted_in journal answers m) k ≡ after_run (answer_at answers k) (reply_to journal m.serial)) at
        (get_or-set_same answers m.words.a (after_run (answer_at answers m.words.a) (reply_to journal m.serial)) NeverRan
        (subst (λ (k : ℕ). k < length answers) (sym at) below)) in
        own_run journal m ms token (answer_at answers token) (answer_at (fold (noted_in journal) (noted_in journal answers m) ms) token)
        (reply_to journal m.serial) at refl
        (subst (λ (a : Answer). Next journal ms token a (answer_at (fold (noted_in journal) (noted_in journal answers m) ms) token)) now rest)
    by_token false is rest =
        let other : m.words.a ≢ token = eqb-false m.words.a token is in
        let same : answer_at (noted_in journal answers m) token ≡ answer_at answers token =
        get_or-set_other answers m.words.a token (after_run (answer_at answers m.words.a) (reply_to journal m.serial)) NeverRan
        (λ (e : token ≡ m.words.a). other (sym e)) in
        other_run journal m ms token (answer_at answers token) (answer_at (fold (noted_in journal) (noted_in journal answers m) ms) token) other
        (subst (λ (a : Answer). Next journal ms token a (answer_at (fold (noted_in journal) (noted_in journal answers m) ms) token)) same rest)

pub length_noted : (journal : List Entry) (runs : List Message) (answers : List Answer) → length (fold (noted_in journal) answers runs) ≡ length answers
length_noted journal [] answers = refl
length_noted journal (m ∷ ms) answers =
    length_noted journal ms (noted_in journal answers m)
    ∙ length-set answers m.words.a (after_run (answer_at answers m.words.a) (reply_to journal m.serial))
