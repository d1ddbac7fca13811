-- Ends are put into the lists of their places, from the last to the first.
use Rattle.std.specs.Prelude.{slice_get, slice_index_or, slice_set}
use Rattle.std.specs.Global.{Vec}
use Rattle.std.proofs.Common.{◌≡◌, ◌⊎◌, inl, inr, ⊎_elim, ℕ, zero, suc, ◌+◌, ◌<◌, ◌≤◌, Some, List, [], ◌∷◌, ◌++◌, length, refl, sym, ap, ◌∙◌, subst, arith}
use Rattle.std.proofs.Common.{append-nil, append_assoc}
use Rattle.std.proofs.lemmas.List.{length_push}
use Rattle.am_wire.specs.declared.receiving.LinkIn.{LinkIn}
use Rattle.am_wire.specs.AllLinks.Links.{AreSpread}
use Rattle.am_wire.proofs.Lists.{got_last, got_low, got_one, index_got, set_here, set_length, set_there}

abbrev pub Columns : Type 0
Columns = List (Vec LinkIn)

-- these ends are still to be put
pub record AreSpreading (whole rest : List LinkIn) (old now : Columns) : Type 0 where
  pub fits : length rest ≤ length now
  pub all : length now ≡ length old
  pub gone : List LinkIn
  pub left : rest ++ gone ≡ whole
  pub kept : (k : ℕ) → k < length rest → slice_get now k ≡ slice_get old k
  pub each : (k : ℕ) (i : LinkIn) (before after : Vec LinkIn) → length rest ≤ k → slice_get whole k ≡ Some i → slice_get old k ≡ Some before →
      slice_get now k ≡ Some after → after.items ≡ before.items ++ i ∷ []

pub begins : (whole : List LinkIn) (old : Columns) → length whole ≡ length old → AreSpreading whole whole old old
begins whole old same =
    record {
      fits = omega (arith, same);
      all = refl;
      gone = [];
      left = append-nil whole;
      kept = λ k low. refl;
      each = λ k i before after high got b a. absurd (let low = got_low whole k i got in omega (arith, high, low));
    }

at_or_apart : (k n : ℕ) → n ≤ k → (k ≡ n) ⊎ (n + 1 ≤ k)
at_or_apart zero zero h = inl refl
at_or_apart (suc k) zero h = inr (omega arith)
at_or_apart zero (suc n) h = absurd (omega (arith, h))
at_or_apart (suc k) (suc n) h = ⊎_elim (λ (e : k ≡ n). inl (ap suc e)) (λ (more : n + 1 ≤ k). inr (omega (arith, more))) (at_or_apart k n (omega (arith, h)))

pub goes_on : (whole rest : List LinkIn) (x : LinkIn) (old now : Columns) (d u : Vec LinkIn) → AreSpreading whole (rest ++ x ∷ []) old now →
    u.items ≡ (slice_index_or now (length rest) d).items ++ x ∷ [] → AreSpreading whole rest old (slice_set now (length rest) u)
goes_on whole rest x old now d u a put =
    record {
      fits = (let n = length_push rest x in let m = set_length now (length rest) u in let f = a.fits in omega (arith, n, m, f));
      all = set_length now (length rest) u ∙ a.all;
      gone = x ∷ a.gone;
      left = sym (append_assoc rest (x ∷ []) a.gone) ∙ a.left;
      kept = λ k low. set_there now (length rest) k u (λ same. absurd (omega (arith, low, same)))
          ∙ a.kept k (let n = length_push rest x in omega (arith, n, low));
      each = λ k i before after high got b f. ⊎_elim (λ (e : k ≡ length rest). here k i before after e got b f)
          (λ (more : length rest + 1 ≤ k). there k i before after more got b f) (at_or_apart k (length rest) high);
    }
  where
    low : length rest < length now
    low = let n = length_push rest x in let f = a.fits in omega (arith, n, f)

    here : (k : ℕ) (i : LinkIn) (before after : Vec LinkIn) → k ≡ length rest → slice_get whole k ≡ Some i → slice_get old k ≡ Some before →
        slice_get (slice_set now (length rest) u) k ≡ Some after → after.items ≡ before.items ++ i ∷ []
    here k i before after e got b f =
        let is_u : after ≡ u = set_here now (length rest) after u (subst (λ (m : ℕ). slice_get (slice_set now (length rest) u) m ≡ Some after) e f) in
        let is_x : i ≡ x = got_one whole (length rest) i x (subst (λ (m : ℕ). slice_get whole m ≡ Some i) e got)
        (subst (λ (l : List LinkIn). slice_get l (length rest) ≡ Some x) a.left (got_last rest a.gone x)) in
        let was : slice_get now (length rest) ≡ Some before = a.kept (length rest) (let n = length_push rest x in omega (arith, n))
        ∙ subst (λ (m : ℕ). slice_get old m ≡ Some before) e b in
        let is_before : slice_index_or now (length rest) d ≡ before =
        got_one now (length rest) (slice_index_or now (length rest) d) before (index_got now (length rest) d low) was in
        ap (λ (v : Vec LinkIn). v.items) is_u ∙ put ∙ (λ j. (is_before j).items ++ sym is_x j ∷ [])

    there : (k : ℕ) (i : LinkIn) (before after : Vec LinkIn) → length rest + 1 ≤ k → slice_get whole k ≡ Some i → slice_get old k ≡ Some before →
        slice_get (slice_set now (length rest) u) k ≡ Some after → after.items ≡ before.items ++ i ∷ []
    there k i before after more got b f =
        a.each k i before after (let n = length_push rest x in omega (arith, n, more)) got b
        (sym (set_there now (length rest) k u (λ same. absurd (omega (arith, more, same)))) ∙ f)

pub ends : (whole : List LinkIn) (old now : Columns) → AreSpreading whole [] old now → AreSpread whole old now
ends whole old now a = record { all = a.all; each = λ k i before after got b f. a.each k i before after (omega arith) got b f }
