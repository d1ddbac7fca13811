-- What a seat knows that was just made.
use Rattle.std.specs.Prelude.{slice_get, slice_index_or}
use Rattle.std.proofs.Common.{◌≡◌, ℕ, zero, suc, ◌+◌, Bool, false, cond, List, [], ◌∷◌, map, Some, refl, sym, ap, subst, arith}
use lib.ListN.{get_elem?}
use mathlib.Core.Option.{some}
use Rattle.am_lemmas.proofs.Numbers.{zero_eqb_suc}
use Rattle.am_lemmas.proofs.Lists.{maps_as_long}
use Rattle.am_names.specs.declared.EndpointId.{EndpointId}
use Rattle.am_office_entries.specs.declared.Entry.{Entry}
use Rattle.am_endpoint_body.specs.declared.settings.EndSettings.{EndSettings}
use Rattle.am_model.specs.Layout.{AllAre}
use Rattle.am_places.specs.Rule.{nothing, tenure}
use Rattle.am_places.specs.declared.board.Known.{Known}
use Rattle.am_workers_laws.specs.declared.books.EndBook.{EndBook}
use Rattle.am_workers_laws.specs.Phases.Seats.{KnowsItsOwn}
use Rattle.am_workers_laws.specs.Invariants.Stands.{FreshKnow}
use Rattle.am_workers_laws.proofs.Stands.{one_place}

-- what is known of an endpoint at first
abbrev at_first : Known Entry
at_first = record { seen = tenure 0 [] ∷ []; made = []; others = []; inside = false; place = 0 }

first_own : (e : EndpointId) (k : ℕ) → KnowsItsOwn [] e (k + 1) at_first
first_own e k =
    record {
      tenures = ap (λ (b : Bool). cond b ([] ∷ []) []) (zero_eqb_suc k);
      rises = ((λ same. absurd (omega (arith, same))), tt);
      added = ap (λ (b : Bool). cond b [] []) (zero_eqb_suc k);
      mine = tt;
      opened = ([], refl);
    }

-- what is known of a book's endpoint at first
abbrev pub known_of : EndBook → Known Entry
known_of b = record { seen = tenure 0 b.end.value.log ∷ []; made = []; others = []; inside = false; place = 0 }

first_at : (books : List EndBook) (j : ℕ) (e : EndpointId) → AllAre (λ (b : EndBook). b.end.value.log ≡ []) books →
    slice_get (map (λ (b : EndBook). b.end.value.settings.id) books) j ≡ Some e → slice_index_or (map known_of books) j nothing ≡ at_first
first_at [] j e none h = absurd (cc)
first_at (b ∷ bs) zero e none h = ap (λ (xs : List Entry). record { seen = tenure 0 xs ∷ []; made = []; others = []; inside = false; place = 0 }) none.0
first_at (b ∷ bs) (suc j) e none h = first_at bs j e none.1 h

born_at : (books : List EndBook) (j : ℕ) (set : EndSettings) → get_elem? (map (λ (b : EndBook). b.end.value.settings) books) j ≡ some set →
    slice_get (map (λ (b : EndBook). b.end.value.settings.id) books) j ≡ Some set.id
born_at [] j set h = absurd (cc)
born_at (b ∷ bs) zero set h = let same : b.end.value.settings ≡ set = cc in ap (λ (x : EndSettings). Some x.id) same
born_at (b ∷ bs) (suc j) set h = born_at bs j set h

pub fresh_know : FreshKnow
fresh_know books named k seats frames apart none =
    record {
      apart = λ i j e. one_place (map (λ (b : EndBook). b.end.value.settings.id) books) i j e apart;
      births = born_at books;
      all = maps_as_long (λ (b : EndBook). b.end.value.settings) (λ (b : EndBook). b.end.value.settings.id) books;
      wide = maps_as_long known_of (λ (b : EndBook). b.end.value.settings.id) books;
      keeps = refl;
      own = λ j e at. subst (KnowsItsOwn [] e (k + 1)) (sym (first_at books j e none at)) (first_own e k);
      here = λ x e c is. absurd (let less = c.1 in omega (arith, less));
    }
