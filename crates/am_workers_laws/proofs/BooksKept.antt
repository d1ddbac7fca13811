-- A book to which an entry was added is a book again.
use Rattle.std.proofs.Common.{◌≡◌, ◌∙◌, ℕ, suc, ◌+◌, ◌-◌, ◌<◌, ◌≤◌, true, false, List, [], ◌∷◌, ◌++◌, length, sym, ap, subst, arith, length-append}
use Rattle.std.specs.List.{slice_get}
use Rattle.am_lemmas.proofs.Bools.{not_implied, implied_anyway}
use Rattle.am_office_entries.specs.declared.Entry.{Entry}
use Rattle.am_endpoint_body.specs.declared.settings.EndSettings.{EndSettings}
use Rattle.am_endpoint.specs.View.{EndpointView, state_after}
use Rattle.am_model.specs.Parts.{last_stamp, stamp_by}
use Rattle.am_model.specs.Endpoint.{State, fresh, is_on_disk}
use Rattle.am_model.specs.Layout.{AllAre}
use Rattle.am_model.proofs.Alls.{all_push}
use Rattle.am_model_merge.specs.Logs.{IsRising}
use Rattle.am_workers_laws.specs.Books.Books.{IsBook}
use Rattle.am_workers_laws.specs.Phases.Lying.{keeps_body, keeps_on_disk, rests}
use Rattle.am_workers_laws.proofs.Lying.{rests_push}

last_of_more : (y z : Entry) (zs : List Entry) → last_stamp (y ∷ z ∷ zs) ≡ last_stamp (z ∷ zs)
last_of_more y z zs =
    let e : length (y ∷ z ∷ zs) - 1 ≡ suc (length (z ∷ zs) - 1) = omega arith in
    ap (λ (k : ℕ). stamp_by (slice_get (y ∷ z ∷ zs) k)) e

-- the last stamp is the greatest
first_below : (y : Entry) (ys : List Entry) → AllAre (λ (z : Entry). y.stamp < z.stamp) ys → IsRising ys → y.stamp ≤ last_stamp (y ∷ ys)
first_below y [] above rising = omega arith
first_below y (z ∷ zs) above rising = let more : z.stamp ≤ last_stamp (z ∷ zs) = first_below z zs rising.0 rising.1 in
    let same : last_stamp (y ∷ z ∷ zs) ≡ last_stamp (z ∷ zs) = last_of_more y z zs in let less : y.stamp < z.stamp = above.0 in omega arith

last_below_more : (y : Entry) (ys : List Entry) (n : ℕ) → last_stamp (y ∷ ys) < n → last_stamp ys < n
last_below_more y [] n h = omega arith
last_below_more y (z ∷ zs) n h = let same : last_stamp (y ∷ z ∷ zs) ≡ last_stamp (z ∷ zs) = last_of_more y z zs in omega arith

pub rising_push : (log : List Entry) (x : Entry) → IsRising log → last_stamp log < x.stamp → IsRising (log ++ x ∷ [])
rising_push [] x rising h = (tt, tt)
rising_push (y ∷ ys) x rising h =
    let first : y.stamp ≤ last_stamp (y ∷ ys) = first_below y ys rising.0 rising.1 in
    (all_push (λ (z : Entry). y.stamp < z.stamp) ys x rising.0 (omega arith), rising_push ys x rising.1 (last_below_more y ys x.stamp h))

pub grown_book : (e f : EndpointView) (x : Entry) → IsBook e → f.settings ≡ e.settings → f.log ≡ e.log ++ x ∷ [] → (length e.log ≡ e.settings.log → ⊥) →
    last_stamp e.log < x.stamp → keeps_on_disk (state_after e) x ≡ true → IsBook f
grown_book e f x b set log full later keeps =
    let limit : f.settings.log ≡ e.settings.log = ap (λ (s : EndSettings). s.log) set in
    let long : length f.log ≡ length e.log + 1 = ap length log ∙ length-append e.log (x ∷ []) in
    record {
      few = less (length e.log) e.settings.log (length f.log) f.settings.log limit long b.few full;
      limit = omega (arith, b.limit);
      rising = subst IsRising (sym log) (rising_push e.log x b.rising later);
      rests = coe 0 1 (i. rests (sym set i).id (fresh (sym set i).tag (sym set i).place) (sym log i) ≡ true)
          (rests_push e.settings.id (fresh e.settings.tag e.settings.place) e.log x b.rests keeps);
    }
  where
    less : (n m k l : ℕ) → l ≡ m → k ≡ n + 1 → n ≤ m → (n ≡ m → ⊥) → k ≤ l
    less n m k l a b c d = omega arith

pub same_book : (e f : EndpointView) → IsBook e → f.settings ≡ e.settings → f.log ≡ e.log → IsBook f
same_book e f b set log =
    let limit : f.settings.log ≡ e.settings.log = ap (λ (s : EndSettings). s.log) set in
    let long : length f.log ≡ length e.log = ap length log in
    record {
      few = omega (arith, b.few);
      limit = omega (arith, b.limit);
      rising = subst IsRising (sym log) b.rising;
      rests = coe 0 1 (i. rests (sym set i).id (fresh (sym set i).tag (sym set i).place) (sym log i) ≡ true) b.rests;
    }

-- what an entry keeps of an endpoint that is not on disk, and one that keeps the body

pub here_keeps : (s : State) (x : Entry) → is_on_disk s.head.place ≡ false → keeps_on_disk s x ≡ true
here_keeps s x here = not_implied (is_on_disk s.head.place) (keeps_body x.event x.outcome) here

pub kept_keeps : (s : State) (x : Entry) → keeps_body x.event x.outcome ≡ true → keeps_on_disk s x ≡ true
kept_keeps s x kept = implied_anyway (is_on_disk s.head.place) (keeps_body x.event x.outcome) kept
