-- What is kept of a journal after one entry more.
use Rattle.std.proofs.Common.{◌≡◌, ℕ, ◌+◌, ◌<◌, Bool, true, false, ◌||◌, cond, Option, Some, None, List, [], ◌∷◌, ◌++◌, refl, sym, ap, ◌∙◌, subst, arith, length, take}
use Rattle.std.proofs.Common.{get_or, add-one}
use Rattle.std.proofs.Math.Seq.{take-suc}
use Rattle.std.proofs.lemmas.List.{length-take-le}
use Rattle.std.specs.BTreeMap.{BTreeMap}
use Rattle.std.specs.BTreeSet.{BTreeSet}
use Rattle.std.specs.List.{position_from}
use Rattle.std.specs.Option.{option_or}
use Rattle.am_lemmas.proofs.Lists.{list_any-push}
use Rattle.am_office_entries.specs.declared.Entry.{Entry}
use Rattle.am_names.specs.declared.Way.{Way}
use Rattle.am_lab_picture.specs.Ways.{AreEmitters, AreReceived, emits, emitted_way, has_way, place_for, place_in, receives}
use Rattle.am_lab_picture.specs.Tables.{AreTables}
use Rattle.am_lab_picture.specs.declared.tables.JournalTable.{JournalTable}

test_push : (b c : Bool) (i n : ℕ) (more rest : Option ℕ) → more ≡ option_or rest (cond c (Some n) None) →
    cond b (Some i) more ≡ option_or (cond b (Some i) rest) (cond c (Some n) None)
test_push true c i n more rest e = refl
test_push false c i n more rest e = e

-- the first place in a list with one more element
pub position_push : {X : Type 0} (p : X → Bool) (i n : ℕ) (xs : List X) (x : X) → n ≡ i + length xs →
    position_from p i (xs ++ x ∷ []) ≡ option_or (position_from p i xs) (cond (p x) (Some n) None)
position_push p i n [] x e = let here : n ≡ i = omega (arith, e) in rw here refl
position_push p i n (y ∷ xs) x e =
    test_push (p y) (p x) i n (position_from p (i + 1) (xs ++ x ∷ [])) (position_from p (i + 1) xs) (position_push p (i + 1) n xs x (omega (arith, e)))

pub emitters_push : (old new : BTreeMap Way ℕ) (past : List Entry) (x : Entry) (place : ℕ) → place ≡ length past → AreEmitters old past →
    ((w : Way) → place_in new w ≡ option_or (place_in old w) (place_for w (emitted_way x) place)) → AreEmitters new (past ++ x ∷ [])
emitters_push old new past x place at are step =
    record {
      each = λ (w : Way).
          step w
          ∙ ap (λ (o : Option ℕ). option_or o (place_for w (emitted_way x) place)) (are.each w)
          ∙ sym (position_push (emits w) 0 place past x (omega (arith, at)));
    }

pub received_push : (old new : BTreeSet Way) (past : List Entry) (x : Entry) → AreReceived old past →
    ((w : Way) → has_way new w ≡ (has_way old w || receives w x)) → AreReceived new (past ++ x ∷ [])
received_push old new past x are step =
    record {
      each = λ (w : Way). step w ∙ ap (λ (b : Bool). b || receives w x) (are.each w) ∙ sym (list_any-push (receives w) past x);
    }

-- of as many entries as stand in front of a place
pub place_is : (xs : List Entry) (i : ℕ) → i < length xs → i ≡ length (take i xs)
place_is xs i below = sym (length-take-le i xs (omega (arith, below)))

pub next : (new : JournalTable) (xs : List Entry) (i : ℕ) (d : Entry) → i < length xs → AreTables new (take i xs ++ get_or xs i d ∷ []) →
    AreTables new (take (i + 1) xs)
next new xs i d below are =
    let taken : take (i + 1) xs ≡ take i xs ++ get_or xs i d ∷ [] = rw add-one (take-suc xs i d below) in
    subst (λ (l : List Entry). AreTables new l) (sym taken) are
