-- The thread that made the fewest calls, as a mark finds it.
use Rattle.std.specs.Prelude.{◌&&◌, nat_le, nat_lt, slice_get}
use Rattle.std.proofs.Common.{◌≡◌, ℕ, ◌+◌, ◌<◌, ◌≤◌, Bool, true, false, cond, List, map, length, Option, Some, None, inl, inr, refl, sym, ap, ◌∙◌, subst}
use Rattle.std.proofs.Common.{arith, ltb-true, ⊎_elim}
use Rattle.std.proofs.lemmas.Bool.{cases_lt, leb-false, leb-true, ltb-false}
use Rattle.std.proofs.lemmas.Option.{slice_get_within}
use Rattle.am_lemmas.proofs.Lists.{Some-slice_get_map, slice_get-None, slice_get-Some}
use Rattle.am_scenario_types.specs.declared.parts.ScriptCall.{ScriptCall}
use Rattle.am_model_scripts.specs.Scripts.{is_of_thread}
use Rattle.am_model_drain.specs.Rules.{Left, left_after}
use Rattle.am_cluster_drainer.specs.Firsts.{IsFewest, IsNextAt}
use Rattle.am_cluster_calls.specs.Lows.{IsLow, IsLowAt, IsPast, is_low}
use Rattle.am_cluster_calls.specs.Threads.{Scripted, call_in, left_in, with_call_if}
use Rattle.am_cluster_calls.specs.declared.lows.LowMark.{LowMark}

-- ---- one thread

record IsTold (t : Scripted) (l : Left) : Type 0 where
  after : l.after ≡ t.made
  left' : t.made < length t.calls

told : (t : Scripted) (l : Left) → left_in t ≡ Some l → IsTold t l
told t l is = by_call (call_in t) refl is
  where
    by_call : (o : Option ScriptCall) → call_in t ≡ o → left_after t.made o ≡ Some l → IsTold t l
    by_call None here h = absurd (cc)
    by_call (Some c) here h =
        let same : record { after = t.made; call = c } ≡ l = cc in
        record { after = sym (ap (λ (x : Left). x.after) same); left' = slice_get_within t.calls t.made c here }

record IsLowest (made : ℕ) (t : Scripted) : Type 0 where
  few : t.made ≤ made
  left' : t.made < length t.calls

lowest : (made : ℕ) (t : Scripted) → is_low made t ≡ true → IsLowest made t
lowest made t is = by_test (nat_le t.made made) (nat_lt t.made (length t.calls)) refl refl is
  where
    by_test : (a b : Bool) → nat_le t.made made ≡ a → nat_lt t.made (length t.calls) ≡ b → (a && b) ≡ true → IsLowest made t
    by_test true true few left h = record { few = leb-true t.made made few; left' = ltb-true t.made (length t.calls) left }
    by_test true false few left h = absurd (cc)
    by_test false b few left h = absurd (cc)

pub not_low : (made : ℕ) (t : Scripted) → is_low made t ≡ false → IsPast (made + 1) t
not_low made t is = by_test (nat_le t.made made) (nat_lt t.made (length t.calls)) refl refl is
  where
    by_test : (a b : Bool) → nat_le t.made made ≡ a → nat_lt t.made (length t.calls) ≡ b → (a && b) ≡ false → IsPast (made + 1) t
    by_test true true few left h = absurd (cc)
    by_test true false few left h = inr (ltb-false t.made (length t.calls) left)
    by_test false b few left h = let more = leb-false t.made made few in inl (omega (arith, more))

past_by : (n : ℕ) (t : Scripted) → ((l : Left) → left_in t ≡ Some l → n ≤ l.after) → IsPast n t
past_by n t h = by_call (call_in t) refl
  where
    by_call : (o : Option ScriptCall) → call_in t ≡ o → IsPast n t
    by_call None is = inr (slice_get-None t.calls t.made is)
    by_call (Some c) is = inl (h (record { after = t.made; call = c }) (ap (left_after t.made) is))

-- a thread with a call left that is past so many made so many
past_told : (n : ℕ) (t : Scripted) (l : Left) → left_in t ≡ Some l → IsPast n t → n ≤ l.after
past_told n t l is past =
    let one = told t l is in
    let after = one.after in
    let left = one.left' in
    ⊎_elim (λ (le : n ≤ t.made). omega (arith, le, after)) (λ (le : length t.calls ≤ t.made). absurd (omega (arith, le, left))) past

-- one thread more that is not low
pub seen_more : (ts : List Scripted) (made from n : ℕ) (one : Scripted) → slice_get ts n ≡ Some one → is_low made one ≡ false →
    ((k : ℕ) (t : Scripted) → from ≤ k → k < n → slice_get ts k ≡ Some t → is_low made t ≡ false) → (k : ℕ) (t : Scripted) → from ≤ k → k < n + 1 →
    slice_get ts k ≡ Some t → is_low made t ≡ false
seen_more ts made from n one here not_it before k t behind lt at =
    ⊎_elim (λ (less : k < n). before k t behind less at)
    (λ (le : n ≤ k). (let is : k ≡ n = omega (arith, lt, le) in let both : Some t ≡ Some one = sym at ∙ ap (slice_get ts) is
    ∙ here in let same : t ≡ one = cc in ap (is_low made) same ∙ not_it))
    (cases_lt k n)

-- ---- a mark

pub low_none : (ts : List Scripted) → IsLowAt ts 0 0
low_none ts = record { all = λ k t at. inl (omega arith); before = λ k t lt at. absurd (omega (arith, lt)) }

-- a mark at what is left to the thread that made the fewest
pub low_fewest : (ts : List Scripted) (l : Left) → IsFewest left_in ts (Some l) → IsLowAt ts l.after 0
low_fewest ts l few =
    record {
      all = λ k t at. past_by l.after t (λ m is. few.fewest k t m at is);
      before = λ k t lt at. absurd (omega (arith, lt));
    }

-- nothing is left where there is no thread that made the fewest
pub low_nothing : (ts : List Scripted) → IsFewest left_in ts None → (k : ℕ) (t : Scripted) → slice_get ts k ≡ Some t → length t.calls ≤ t.made
low_nothing ts none k t at = by_call (call_in t) refl
  where
    by_call : (o : Option ScriptCall) → call_in t ≡ o → length t.calls ≤ t.made
    by_call None is = slice_get-None t.calls t.made is
    by_call (Some c) is = absurd (let both : None ≡ Some (record { after = t.made; call = c }) = sym (none k t at) ∙ ap (left_after t.made) is in cc)

pub nothing_left : (ts : List Scripted) → ((k : ℕ) (t : Scripted) → slice_get ts k ≡ Some t → length t.calls ≤ t.made) → IsFewest left_in ts None
nothing_left ts none k t at = by_left (left_in t) refl
  where
    by_left : (o : Option Left) → left_in t ≡ o → left_in t ≡ None
    by_left None is = is
    by_left (Some l) is = let one = (told t l is).left' in let le = none k t at in absurd (omega (arith, one, le))

-- below the next low thread each is past
before_next : (ts : List Scripted) (made from place : ℕ) → IsLowAt ts made from → IsNextAt (is_low made) ts from place → (k : ℕ) (t : Scripted) → k < place →
    slice_get ts k ≡ Some t → IsPast (made + 1) t
before_next ts made from place low next k t lt at =
    ⊎_elim (λ (less : k < from). low.before k t less at) (λ (le : from ≤ k). not_low made t (next.least k t le lt at)) (cases_lt k from)

pub low_moved : (ts : List Scripted) (made from place : ℕ) → IsLowAt ts made from → IsNextAt (is_low made) ts from place → IsLowAt ts made place
low_moved ts made from place low next = record { all = low.all; before = before_next ts made from place low next }

-- the next low thread made the fewest
pub fewest_low : (ts : List Scripted) (made from place : ℕ) (t : Scripted) (o : Option Left) → IsLowAt ts made from → IsNextAt (is_low made) ts from place →
    slice_get ts place ≡ Some t → o ≡ left_in t → IsFewest left_in ts o
fewest_low ts made from place t o low next at is =
    let both : Some next.one ≡ Some t = sym next.at_place ∙ at in
    let same : next.one ≡ t = cc in
    let one = lowest made t (ap (is_low made) (sym same) ∙ next.passes') in
    let few = one.few in
    let call = slice_get-Some t.calls t.made one.left' in
    let left : left_in t ≡ Some (record { after = t.made; call = call.0 }) = ap (left_after t.made) call.1 in
    subst (λ (p : Option Left). IsFewest left_in ts p) (sym (is ∙ left))
    (record {
      place = place;
      thread = t;
      at_place = at;
      left' = left;
      fewest = λ k u m here has. (let le = past_told made u m has (low.all k u here) in omega (arith, le, few));
      least = λ k u m lt here has. (let le = past_told (made + 1) u m has (before_next ts made from place low next k u lt here) in omega (arith, le, few));
    })

-- ---- one call more

more_made : (o : Option ScriptCall) (t : Scripted) → t.made ≤ (with_call_if o t).made
more_made None t = omega arith
more_made (Some c) t = by_test (is_of_thread t.id c)
  where
    by_test : (b : Bool) → t.made ≤ cond b (t.made + 1) t.made
    by_test true = omega arith
    by_test false = omega arith

same_calls : (o : Option ScriptCall) (t : Scripted) → (with_call_if o t).calls ≡ t.calls
same_calls None t = refl
same_calls (Some c) t = refl

none_left : (o : Option ScriptCall) (t : Scripted) → length t.calls ≤ t.made → length (with_call_if o t).calls ≤ (with_call_if o t).made
none_left o t le =
    let more = more_made o t in
    let same = ap (λ (cs : List ScriptCall). length cs) (same_calls o t) in
    omega (arith, le, more, same)

past_kept : (n : ℕ) (o : Option ScriptCall) (t : Scripted) → IsPast n t → IsPast n (with_call_if o t)
past_kept n o t past =
    let more = more_made o t in
    ⊎_elim (λ (le : n ≤ t.made). inl (omega (arith, le, more))) (λ (le : length t.calls ≤ t.made). inr (none_left o t le)) past

-- what each thread is, each is after one call more
kept : (P : Scripted → Type 0) (o : Option ScriptCall) (ts : List Scripted) (k : ℕ) (u : Scripted) →
    ((t : Scripted) → slice_get ts k ≡ Some t → P (with_call_if o t)) → slice_get (map (with_call_if o) ts) k ≡ Some u → P u
kept P o ts k u h at = let was = Some-slice_get_map (with_call_if o) ts k u at in subst P was.2 (h was.0 was.1)

low_kept : (ts : List Scripted) (o : Option ScriptCall) (low : Option LowMark) → IsLow ts low → IsLow (map (with_call_if o) ts) low
low_kept ts o None none = λ k u at. kept (λ (t : Scripted). length t.calls ≤ t.made) o ts k u (λ t was. none_left o t (none k t was)) at
low_kept ts o (Some mark) low =
    record {
      all = λ k u at. kept (IsPast mark.made) o ts k u (λ t was. past_kept mark.made o t (low.all k t was)) at;
      before = λ k u lt at. kept (IsPast (mark.made + 1)) o ts k u (λ t was. past_kept (mark.made + 1) o t (low.before k t lt was)) at;
    }

pub low_counted : (old new : List Scripted) (o : Option ScriptCall) (low : Option LowMark) → new ≡ map (with_call_if o) old → IsLow old low → IsLow new low
low_counted old new o low is was = subst (λ (ts : List Scripted). IsLow ts low) (sym is) (low_kept old o low was)
