-- How what a seat knows is kept over a stay.
use Rattle.std.specs.Prelude.{slice_get, slice_index_or, slice_set}
use Rattle.std.specs.List.{filter, list_any}
use Rattle.std.proofs.Common.{◌≡◌, ◌≢◌, ◌⊎◌, inl, inr, ⊎_elim, ℕ, zero, suc, ◌-◌, ◌<◌, Bool, true, false, ◌||◌, List, [], ◌∷◌, ◌++◌, length, Some, refl, sym}
use Rattle.std.proofs.Common.{ap, ◌∙◌, subst, arith, append_assoc, append-nil, true≢false, Contains}
use Rattle.std.proofs.lemmas.List.Elements.{filter-append}
use Rattle.std.proofs.lemmas.List.{length-set}
use Rattle.am_names.specs.declared.EndpointId.{EndpointId}
use Rattle.am_names.specs.Names.{same_end}
use Rattle.am_office_entries.specs.declared.Entry.{Entry}
use Rattle.am_office_entries.specs.Entries.{touches}
use Rattle.am_endpoint_body.specs.declared.settings.EndSettings.{EndSettings}
use Rattle.am_model.specs.Parts.{last_stamp, stamp_by}
use Rattle.am_model.specs.History.{EachAfter}
use Rattle.am_model.specs.Layout.{AllAre, AreApart}
use Rattle.am_model.proofs.Names.{same_end-is, same_end-refl}
use Rattle.am_model_merge.proofs.Sorted.{Has, contains_has, filter_has, has_contains, has_append}
use Rattle.am_model_merge.specs.Logs.{IsRising}
use Rattle.am_places.specs.Rule.{inside_with, joined, known_at, nothing, with_known}
use Rattle.am_places.specs.declared.board.Known.{Known}
use Rattle.am_workers_laws.specs.Phases.Seats.{KnowsItsOwn, left_with}
use Rattle.am_workers_laws.specs.Phases.Tenures.{IsAboveAll}
use Rattle.am_workers_laws.proofs.Seats.{enters, leaves}
use Rattle.am_workers_laws.specs.Invariants.Seats.{EndPass, Ids, KnowsNode}
use Rattle.am_workers_laws.specs.Invariants.Stands.{AboveLast, NoneKeep, StandsOn, StaysKeep, TouchOnly}

pub stands_on : StandsOn
stands_on log more past x h = (h.0 ++ more, ap (λ (xs : List Entry). xs ++ more) h.1 ∙ append past h.0)
  where
    append : (ys zs : List Entry) → (ys ++ x ∷ zs) ++ more ≡ ys ++ x ∷ (zs ++ more)
    append [] zs = refl
    append (y ∷ ys) zs = ap (λ (xs : List Entry). y ∷ xs) (append ys zs)

-- ---- places in lists

pub set_here : (xs : List (Known Entry)) (k : ℕ) (x : Known Entry) → k < length xs → slice_index_or (slice_set xs k x) k nothing ≡ x
set_here [] k x h = absurd (omega (arith, h))
set_here (y ∷ ys) zero x h = refl
set_here (y ∷ ys) (suc k) x h = set_here ys k x (omega (arith, h))

pub set_there : (xs : List (Known Entry)) (k j : ℕ) (x : Known Entry) → j ≢ k → slice_index_or (slice_set xs k x) j nothing ≡ slice_index_or xs j nothing
set_there [] k j x h = refl
set_there (y ∷ ys) zero zero x h = absurd (h refl)
set_there (y ∷ ys) zero (suc j) x h = refl
set_there (y ∷ ys) (suc k) zero x h = refl
set_there (y ∷ ys) (suc k) (suc j) x h = set_there ys k j x (λ same. h (ap suc same))

pub got_low : (ids : Ids) (k : ℕ) (e : EndpointId) → slice_get ids k ≡ Some e → k < length ids
got_low [] k e h = absurd (cc)
got_low (i ∷ is) zero e h = omega arith
got_low (i ∷ is) (suc k) e h = let less = got_low is k e h in omega (arith, less)

got_has : (ids : Ids) (k : ℕ) (e : EndpointId) → slice_get ids k ≡ Some e → Contains ids e
got_has [] k e h = absurd (cc)
got_has (i ∷ is) zero e h = (0, omega arith, cc)
got_has (i ∷ is) (suc k) e h = let c = got_has is k e h in let less = c.1 in (suc c.0, omega (arith, less), c.2)

pub got_any : (ids : Ids) (k : ℕ) (e : EndpointId) → slice_get ids k ≡ Some e → list_any (same_end e) ids ≡ true
got_any [] k e h = absurd (cc)
got_any (i ∷ is) zero e h = let same : i ≡ e = cc in ap (λ (b : Bool). b || list_any (same_end e) is) (ap (same_end e) same ∙ same_end-refl e)
got_any (i ∷ is) (suc k) e h = or_true (same_end e i) (list_any (same_end e) is) (got_any is k e h)
  where
    or_true : (a b : Bool) → b ≡ true → (a || b) ≡ true
    or_true true b h = refl
    or_true false b h = h

-- no endpoint has two places
pub one_place : (ids : Ids) (j k : ℕ) (e : EndpointId) → AreApart same_end ids → slice_get ids j ≡ Some e → slice_get ids k ≡ Some e → j ≡ k
one_place [] j k e apart a b = absurd (cc)
one_place (i ∷ is) zero zero e apart a b = refl
one_place (i ∷ is) zero (suc k) e apart a b = absurd (let same : i ≡ e = cc in true≢false (sym (got_any is k e b)
    ∙ ap (λ (d : EndpointId). list_any (same_end d) is) (sym same) ∙ apart.0))
one_place (i ∷ is) (suc j) zero e apart a b = absurd (let same : i ≡ e = cc in true≢false (sym (got_any is j e a)
    ∙ ap (λ (d : EndpointId). list_any (same_end d) is) (sym same) ∙ apart.0))
one_place (i ∷ is) (suc j) (suc k) e apart a b = ap suc (one_place is j k e apart.1 a b)

-- ---- what a seat keeps

-- entries that don't touch the endpoint change nothing there
others_own : (made new : List Entry) (e : EndpointId) (m : ℕ) (x : Known Entry) → KnowsItsOwn made e m x → filter (touches e) new ≡ [] →
    KnowsItsOwn (made ++ new) e m x
others_own made new e m x h none =
    record {
      tenures = h.tenures;
      rises = h.rises;
      added = h.added ∙ sym (filter-append (touches e) made new ∙ ap (λ (xs : List Entry). filter (touches e) made ++ xs) none
          ∙ append-nil (filter (touches e) made));
      mine = h.mine;
      opened = h.opened;
    }

not_in : (new : List Entry) (d : EndpointId) (x : Entry) → filter (touches d) new ≡ [] → Has new x → touches d x ≡ true → ⊥
not_in new d x none has is = absurd (subst (λ (xs : List Entry). Has xs x) none (filter_has (touches d) new x has is))

end_or : (d e : EndpointId) → (d ≡ e) ⊎ (d ≢ e)
end_or d e = by_test (same_end d e) refl
  where
    by_test : (b : Bool) → same_end d e ≡ b → (d ≡ e) ⊎ (d ≢ e)
    by_test true is = inl (same_end-is d e is)
    by_test false is = inr (λ same. absurd (true≢false (sym (ap (same_end d) (sym same) ∙ same_end-refl d) ∙ is)))

pub none_keep : NoneKeep
none_keep ids made new v h none =
    record {
      apart = h.apart;
      births = h.births;
      all = h.all;
      wide = h.wide;
      keeps = h.keeps;
      own = λ k e at. others_own made new e v.mark (known_at k v) (h.own k e at) (none e);
      here =
          λ x e c is.
          ⊎_elim (λ (a : Has made x). h.here x e (has_contains made x a) is) (λ (b : Has new x). absurd (not_in new e x (none e) b is))
          (has_append made new x (contains_has (made ++ new) x c));
    }

-- what it knows after a stay, by the pass
stayed : (ids : Ids) (made new : List Entry) (k : ℕ) (set : EndSettings) (x : Known Entry) (v : EndPass) → KnowsNode ids made v → TouchOnly set.id new →
    slice_get ids k ≡ Some set.id → KnowsItsOwn (made ++ new) set.id v.mark x → KnowsNode ids (made ++ new) (with_known k x v)
stayed ids made new k set x v h only at mine =
    record {
      apart = h.apart;
      births = h.births;
      all = h.all;
      wide = length-set v.known k x ∙ h.wide;
      keeps = h.keeps;
      own = own;
      here =
          λ y d c is.
          ⊎_elim (λ (a : Has made y). h.here y d (has_contains made y a) is)
          (λ (b : Has new y). ⊎_elim (λ (same : d ≡ set.id). subst (λ (z : EndpointId). Contains ids z) (sym same) (got_has ids k set.id at))
          (λ (other : d ≢ set.id). absurd (not_in new d y (only.none d other) b is)) (end_or d set.id))
          (has_append made new y (contains_has (made ++ new) y c));
    }
  where
    low : k < length v.known
    low = subst (λ (n : ℕ). k < n) (sym h.wide) (got_low ids k set.id at)

    own : (j : ℕ) (e : EndpointId) → slice_get ids j ≡ Some e → KnowsItsOwn (made ++ new) e v.mark (slice_index_or (slice_set v.known k x) j nothing)
    own j e there =
        ⊎_elim
        (λ (same : e ≡ set.id).
        (let place : j ≡ k = h.apart j k set.id (there ∙ ap (λ (d : EndpointId). Some d) same) at in
        subst (λ (d : EndpointId). KnowsItsOwn (made ++ new) d v.mark (slice_index_or (slice_set v.known k x) j nothing)) (sym same)
        (subst (λ (n : ℕ). KnowsItsOwn (made ++ new) set.id v.mark (slice_index_or (slice_set v.known k x) n nothing)) (sym place)
        (subst (KnowsItsOwn (made ++ new) set.id v.mark) (sym (set_here v.known k x low)) mine))))
        (λ (other : e ≢ set.id).
        subst (KnowsItsOwn (made ++ new) e v.mark) (sym (set_there v.known k j x (λ same. other (some_end (sym there ∙ ap (slice_get ids) same ∙ at)))))
        (others_own made new e v.mark (known_at j v) (h.own j e there) (only.none e other)))
        (end_or e set.id)
      where
        some_end : Some e ≡ Some set.id → e ≡ set.id
        some_end s = cc

first_of : (y : Entry) (past : List Entry) (x : Entry) (xs : List Entry) → AllAre (λ (z : Entry). y.stamp < z.stamp) (past ++ x ∷ xs) → y.stamp < x.stamp
first_of y [] x xs h = h.0
first_of y (z ∷ past) x xs h = first_of y past x xs h.1

above_all : (past : List Entry) (x : Entry) (xs : List Entry) → IsRising (past ++ x ∷ xs) → IsAboveAll past x
above_all [] x xs h = tt
above_all (y ∷ past) x xs h = (first_of y past x xs h.0, above_all past x xs h.1)

each_above : (past new : List Entry) → IsRising (past ++ new) → EachAfter IsAboveAll past new
each_above past [] h = tt
each_above past (x ∷ xs) h = (above_all past x xs h, each_above (past ++ x ∷ []) xs (subst IsRising (sym (append_assoc past (x ∷ []) xs)) h))

pub stays_keep : StaysKeep
stays_keep ids made new k set place log v w h only s =
    subst (KnowsNode ids (made ++ new)) (sym s.left.1) (stayed ids made new k set (left_with v.mark (joined log ++ new) place
    (inside_with s.left.0 log (known_at k v))) v h only at mine)
  where
    at : slice_get ids k ≡ Some set.id
    at = h.births k set s.born

    mine : KnowsItsOwn (made ++ new) set.id v.mark (left_with v.mark (joined log ++ new) place (inside_with s.left.0 log (known_at k v)))
    mine =
        leaves made new (joined log ++ new) set.id v.mark place (inside_with s.left.0 log (known_at k v))
        (enters made set.id v.mark s.left.0 (known_at k v) log (h.own k set.id at) s.begins s.own)
        (record {
          longer = ap (λ (xs : List Entry). joined log ++ xs) (sym only.all);
          rises = subst (EachAfter IsAboveAll (joined log)) (sym only.all) (each_above (joined log) new s.rising);
        })

-- ---- stamps

last_same : (x y : Entry) (ys : List Entry) → last_stamp (x ∷ y ∷ ys) ≡ last_stamp (y ∷ ys)
last_same x y ys =
    let first : suc (suc (length ys)) - 1 ≡ suc (length ys) = omega arith in
    let second : suc (length ys) - 1 ≡ length ys = omega arith in
    ap (λ (n : ℕ). stamp_by (slice_get (x ∷ y ∷ ys) n)) first ∙ ap (λ (n : ℕ). stamp_by (slice_get (y ∷ ys) n)) (sym second)

pub above_last : AboveLast
above_last [] n rising low = tt
above_last (x ∷ []) n rising low = (low, tt)
above_last (x ∷ y ∷ ys) n rising low =
    let more = above_last (y ∷ ys) n rising.1 (subst (λ (m : ℕ). m < n) (last_same x y ys) low) in
    (let less = rising.0.0 in let next = more.0 in omega (arith, less, next), more)
