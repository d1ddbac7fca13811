-- The counts of words, one word more at a time.
use Rattle.std.proofs.Common.{◌≡◌, ℕ, ◌+◌, Bool, true, false, cond, Option, Some, None, List, [], ◌∷◌, ◌++◌, refl, sym, ap, ◌∙◌, subst, map, filter_map}
use Rattle.std.proofs.Common.{if◌then◌else◌, arith, append_assoc, append-nil}
use Rattle.std.specs.Prelude.{min, unwrap_or, option_to_list}
use Rattle.std.specs.declared.cmp.Ordering.{Ordering}
use Rattle.std.specs.declared.cmp.Ordering.TheVariants.{Less, Equal, Greater}
use Rattle.std.specs.BTreeMap.{insert_entry}
use Rattle.std.specs.Cmp.Lexicographic.{slice_cmp, nat_list_cmp_total}
use Rattle.std.specs.Map.{lookup}
use Rattle.std.specs.Ordering.{is_eq, match_ordering, nat_cmp, ordering_reverse}
use Rattle.std.proofs.lemmas.List.Sums.{sum_by_push}
use Rattle.std.proofs.lemmas.Map.Lookups.{exact_bytes}
use Rattle.am_office_entries.specs.declared.Entry.{Entry}
use Rattle.am_job.specs.declared.words.tally.Count.{Count}
use Rattle.am_job.specs.Words.Counts.{Counted, IsTallyOf, ask, capped, count_at, one_asked, one_ran, same_word, see, see_journal, times, with_count, word_run}
use Rattle.am_job.specs.Words.Counts.{words_run}

-- ---- the order of words

abbrev order : List ℕ → List ℕ → Ordering
order = slice_cmp nat_cmp

itself : (o : Ordering) → o ≡ ordering_reverse o → o ≡ Equal
itself Less e = absurd (cc)
itself Equal e = refl
itself Greater e = absurd (cc)

pub order_same : (word : List ℕ) → order word word ≡ Equal
order_same word = itself (order word word) (nat_list_cmp_total.antisymm word word)

is_equal : (o : Ordering) → is_eq o ≡ true → o ≡ Equal
is_equal Less e = absurd (cc)
is_equal Equal e = refl
is_equal Greater e = absurd (cc)

pub same_is : (word other : List ℕ) → same_word word other ≡ true → word ≡ other
same_is word other e = exact_bytes word other (is_equal (order word other) e)

-- ---- a map whose keys are seen as lists

pub lookup_seen : {K : Type 0} (f : K → List ℕ) (test : List ℕ → Bool) (es : List (K × Count)) →
    lookup test (map (λ (e : K × Count). (f e.0, e.1)) es) ≡ lookup (λ (k : K). test (f k)) es
lookup_seen f test [] = refl
lookup_seen f test (e ∷ es) = ap (λ (o : Option Count). cond (test (f e.0)) (Some e.1) o) (lookup_seen f test es)

seen_cases : {K : Type 0} (view : K × Count → List ℕ × Count) (o : Ordering) (a b : List (K × Count)) (e : K × Count) (c : List (K × Count))
    (a' b' c' : List (List ℕ × Count)) → map view a ≡ a' → map view b ≡ b' → map view c ≡ c' →
    map view (match_ordering o a b (e ∷ c)) ≡ match_ordering o a' b' (view e ∷ c')
seen_cases view Less a b e c a' b' c' p q r = p
seen_cases view Equal a b e c a' b' c' p q r = q
seen_cases view Greater a b e c a' b' c' p q r = ap (λ (l : List (List ℕ × Count)). view e ∷ l) r

pub insert_seen : {K : Type 0} (f : K → List ℕ) (es : List (K × Count)) (k : K) (v : Count) →
    map (λ (e : K × Count). (f e.0, e.1)) (insert_entry (λ (x y : K). slice_cmp nat_cmp (f x) (f y)) es k v) ≡ with_count
    (map (λ (e : K × Count). (f e.0, e.1)) es) (f k) v
insert_seen f [] k v = refl
insert_seen {K} f (e ∷ es) k v =
    seen_cases (λ (e : K × Count). (f e.0, e.1)) (order (f k) (f e.0)) _ _ e _ _ _ _ refl refl (insert_seen f es k v)

-- ---- a look-up after a change

twice : (b : Bool) (x y : Option Count) (z : Option Count) → cond b x z ≡ cond b x (cond b y z)
twice true x y z = refl
twice false x y z = refl

swapped : (b c : Bool) (x y z : Option Count) → (b ≡ true → c ≡ true → ⊥) → cond c y (cond b x z) ≡ cond b x (cond c y z)
swapped true true x y z never = absurd (never refl refl)
swapped true false x y z never = refl
swapped false c x y z never = refl

put_cases : (o : Ordering) (k q : List ℕ) (v : Count) (e : List ℕ × Count) (es rest : List (List ℕ × Count)) → order k e.0 ≡ o →
    lookup (same_word q) rest ≡ cond (same_word q k) (Some v) (lookup (same_word q) es)
    → lookup (same_word q) (match_ordering o ((k, v) ∷ e ∷ es) ((e.0, v) ∷ es) (e ∷ rest)) ≡ cond (same_word q k) (Some v) (lookup (same_word q) (e ∷ es))
put_cases Less k q v e es rest at so = refl
put_cases Equal k q v e es rest at so =
    let same : e.0 ≡ k = sym (exact_bytes k e.0 at) in
    ap (λ (w : List ℕ). cond (same_word q w) (Some v) (lookup (same_word q) es)) same
    ∙ twice (same_word q k) (Some v) (Some e.1) (lookup (same_word q) es)
    ∙ ap (λ (w : List ℕ). cond (same_word q k) (Some v) (cond (same_word q w) (Some e.1) (lookup (same_word q) es))) (sym same)
put_cases Greater k q v e es rest at so =
    ap (λ (o : Option Count). cond (same_word q e.0) (Some e.1) o) so
    ∙ swapped (same_word q k) (same_word q e.0) (Some v) (Some e.1) (lookup (same_word q) es)
    (λ (one : same_word q k ≡ true) (other : same_word q e.0 ≡ true).
    let equal : k ≡ e.0 = sym (same_is q k one) ∙ same_is q e.0 other in
    let first : order k e.0 ≡ Equal = ap (λ (w : List ℕ). order k w) (sym equal) ∙ order_same k in
    let never : Greater ≡ Equal = sym at ∙ first in cc)

pub lookup_put : (es : List (List ℕ × Count)) (k q : List ℕ) (v : Count) →
    lookup (same_word q) (with_count es k v) ≡ cond (same_word q k) (Some v) (lookup (same_word q) es)
lookup_put [] k q v = refl
lookup_put (e ∷ es) k q v = put_cases (order k e.0) k q v e es (with_count es k v) refl (lookup_put es k q v)

default_of : (b : Bool) (v d : Count) (o : Option Count) → unwrap_or (cond b (Some v) o) d ≡ cond b v (unwrap_or o d)
default_of true v d o = refl
default_of false v d o = refl

pub count_put : (es : Counted) (k q : List ℕ) (v : Count) → count_at (with_count es k v) q ≡ cond (same_word q k) v (count_at es q)
count_put es k q v = ap (λ (o : Option Count). unwrap_or o (record { asked = 0; ran = 0 })) (lookup_put es k q v)
    ∙ default_of (same_word q k) v (record { asked = 0; ran = 0 }) (lookup (same_word q) es)

-- ---- one word more

abbrev pair : ℕ → ℕ → Count
pair asked ran = record { asked = asked; ran = ran }

capped_more : (n : ℕ) → capped (capped n + 1) ≡ capped (n + 1)
capped_more n = omega arith

one_more : (words : List (List ℕ)) (word q : List ℕ) → times (words ++ word ∷ []) q ≡ times words q + (if same_word q word then 1 else 0)
one_more words word q = sum_by_push (λ (w : List ℕ). if same_word q w then 1 else 0) words word

asked_cases : (b : Bool) (here there : Count) (a a' r : ℕ) → (b ≡ true → here ≡ pair (capped a) (capped r)) → there ≡ pair (capped a) (capped r) →
    a' ≡ a + (if b then 1 else 0) → cond b (one_asked here) there ≡ pair (capped a') (capped r)
asked_cases true here there a a' r is that more =
    ap (λ (c : Count). one_asked c) (is refl) ∙ ap (λ (n : ℕ). pair n (capped r)) (capped_more a ∙ ap (λ (n : ℕ). capped n) (sym more))
asked_cases false here there a a' r is that more = let same : a' ≡ a = omega (arith, more) in that ∙ ap (λ (n : ℕ). pair (capped n) (capped r)) (sym same)

ran_cases : (b : Bool) (here there : Count) (a r r' : ℕ) → (b ≡ true → here ≡ pair (capped a) (capped r)) → there ≡ pair (capped a) (capped r) →
    r' ≡ r + (if b then 1 else 0) → cond b (one_ran here) there ≡ pair (capped a) (capped r')
ran_cases true here there a r r' is that more =
    ap (λ (c : Count). one_ran c) (is refl) ∙ ap (λ (n : ℕ). pair (capped a) n) (capped_more r ∙ ap (λ (n : ℕ). capped n) (sym more))
ran_cases false here there a r r' is that more = let same : r' ≡ r = omega (arith, more) in that ∙ ap (λ (n : ℕ). pair (capped a) (capped n)) (sym same)

pub tells_ask : (counted : Counted) (asked ran : List (List ℕ)) (o : Option (List ℕ)) → IsTallyOf counted asked ran →
    IsTallyOf (ask counted o) (asked ++ option_to_list o) ran
unfolding ask
tells_ask counted asked ran None tells = record {
  each = λ (q : List ℕ). tells.each q
      ∙ ap (λ (words : List (List ℕ)). pair (capped (times words q)) (capped (times ran q))) (sym (append-nil asked));
}
tells_ask counted asked ran (Some word) tells = record {
  each = λ (q : List ℕ).
      count_put counted word q (one_asked (count_at counted word))
      ∙ asked_cases (same_word q word) (count_at counted word) (count_at counted q) (times asked q) (times (asked ++ word ∷ []) q) (times ran q)
      (λ (same : same_word q word ≡ true). ap (λ (w : List ℕ). count_at counted w) (sym (same_is q word same)) ∙ tells.each q)
      (tells.each q) (one_more asked word q);
}

tells_see : (counted : Counted) (asked ran : List (List ℕ)) (o : Option (List ℕ)) → IsTallyOf counted asked ran →
    IsTallyOf (see counted o) asked (ran ++ option_to_list o)
unfolding see
tells_see counted asked ran None tells = record {
  each = λ (q : List ℕ). tells.each q
      ∙ ap (λ (words : List (List ℕ)). pair (capped (times asked q)) (capped (times words q))) (sym (append-nil ran));
}
tells_see counted asked ran (Some word) tells = record {
  each = λ (q : List ℕ).
      count_put counted word q (one_ran (count_at counted word))
      ∙ ran_cases (same_word q word) (count_at counted word) (count_at counted q) (times asked q) (times ran q) (times (ran ++ word ∷ []) q)
      (λ (same : same_word q word ≡ true). ap (λ (w : List ℕ). count_at counted w) (sym (same_is q word same)) ∙ tells.each q)
      (tells.each q) (one_more ran word q);
}

pub listed : {X Y : Type 0} (h : X → Option Y) (x : X) (xs : List X) (o : Option Y) → h x ≡ o → filter_map h (x ∷ xs) ≡ option_to_list o ++ filter_map h xs
listed h x xs None e = rw e refl
listed h x xs (Some y) e = rw e refl

pub grown : (all front rest whole : List (List ℕ)) → whole ≡ front ++ rest → (all ++ front) ++ rest ≡ all ++ whole
grown all front rest whole e = append_assoc all front rest ∙ ap (λ (l : List (List ℕ)). all ++ l) (sym e)

pub tells_journal : (journal : List Entry) (counted : Counted) (asked ran : List (List ℕ)) → IsTallyOf counted asked ran →
    IsTallyOf (see_journal counted journal) asked (ran ++ words_run journal)
tells_journal [] counted asked ran tells = subst (λ (words : List (List ℕ)). IsTallyOf counted asked words) (sym (append-nil ran)) tells
tells_journal (x ∷ journal) counted asked ran tells =
    let word : Option (List ℕ) = word_run x in
    subst (λ (words : List (List ℕ)). IsTallyOf (see_journal (see counted word) journal) asked words)
    (grown ran (option_to_list word) (words_run journal) (words_run (x ∷ journal)) (listed word_run x journal word refl))
    (tells_journal journal (see counted word) asked (ran ++ option_to_list word) (tells_see counted asked ran word tells))

pub tells_nothing : IsTallyOf [] [] []
tells_nothing = record { each = λ (q : List ℕ). refl }

-- ---- the map behind the counts

pub count_found : {K : Type 0} (f : K → List ℕ) (es : List (K × Count)) (counted : Counted) (word : List ℕ) (looked : Option Count) (found : Count) →
    map (λ (e : K × Count). (f e.0, e.1)) es ≡ counted → looked ≡ lookup (λ (k : K). same_word word (f k)) es → found ≡ unwrap_or looked (pair 0 0) →
    found ≡ count_at counted word
count_found f es counted word looked found seen at is =
    is ∙ ap (λ (o : Option Count). unwrap_or o (pair 0 0)) (at ∙ sym (lookup_seen f (same_word word) es)) ∙ ap (λ (t : Counted). count_at t word) seen

pub count_kept : {K : Type 0} (f : K → List ℕ) (es es' : List (K × Count)) (k : K) (v : Count) (counted : Counted) (word : List ℕ) →
    map (λ (e : K × Count). (f e.0, e.1)) es ≡ counted → es' ≡ insert_entry (λ (x y : K). slice_cmp nat_cmp (f x) (f y)) es k v → f k ≡ word →
    map (λ (e : K × Count). (f e.0, e.1)) es' ≡ with_count counted word v
count_kept {K} f es es' k v counted word seen put is =
    ap (λ (l : List (K × Count)). map (λ (e : K × Count). (f e.0, e.1)) l) put
    ∙ insert_seen f es k v
    ∙ ap (λ (t : Counted). with_count t (f k) v) seen
    ∙ ap (λ (w : List ℕ). with_count counted w v) is

pub asks : (counted new : Counted) (o : Option (List ℕ)) (word first second : List ℕ) (count : Count) (asked : ℕ) → Some word ≡ o → first ≡ word →
    second ≡ word → count ≡ count_at counted first → asked ≡ min (count.asked + 1) 0xffff_ffff_ffff_ffff →
    new ≡ with_count counted second (record { asked = asked; ran = count.ran }) → new ≡ ask counted o
unfolding ask
asks counted new o word first second count asked is one two at' more put' =
    let at : count ≡ count_at counted word = at' ∙ ap (λ (w : List ℕ). count_at counted w) one in
    put'
    ∙ ap (λ (w : List ℕ). with_count counted w (pair asked count.ran)) two
    ∙ ap (λ (n : ℕ). with_count counted word (pair n count.ran)) more
    ∙ ap (λ (c : Count). with_count counted word (one_asked c)) at
    ∙ ap (λ (w : Option (List ℕ)). ask counted w) is

pub asks_none : (counted : Counted) (o : Option (List ℕ)) → None ≡ o → counted ≡ ask counted o
unfolding ask
asks_none counted o is = ap (λ (w : Option (List ℕ)). ask counted w) is

pub sees : (counted new : Counted) (o : Option (List ℕ)) (word first second : List ℕ) (count : Count) (ran : ℕ) → Some word ≡ o → first ≡ word → second ≡ word →
    count ≡ count_at counted first → ran ≡ min (count.ran + 1) 0xffff_ffff_ffff_ffff →
    new ≡ with_count counted second (record { asked = count.asked; ran = ran }) → new ≡ see counted o
unfolding see
sees counted new o word first second count ran is one two at' more put' =
    let at : count ≡ count_at counted word = at' ∙ ap (λ (w : List ℕ). count_at counted w) one in
    put'
    ∙ ap (λ (w : List ℕ). with_count counted w (pair count.asked ran)) two
    ∙ ap (λ (n : ℕ). with_count counted word (pair count.asked n)) more
    ∙ ap (λ (c : Count). with_count counted word (one_ran c)) at
    ∙ ap (λ (w : Option (List ℕ)). see counted w) is

pub sees_none : (counted : Counted) (o : Option (List ℕ)) → None ≡ o → counted ≡ see counted o
unfolding see
sees_none counted o is = ap (λ (w : Option (List ℕ)). see counted w) is
