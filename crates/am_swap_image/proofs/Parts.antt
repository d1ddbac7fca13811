-- Mappings, records, handlers and lists are read as they were written.
use Rattle.std.proofs.Common.{◌≡◌, ℕ, zero, suc, Bool, true, false, ◌&&◌, List, [], ◌∷◌, ◌++◌, length, Option, Some, None, refl, sym, ap, subst, ◌∙◌}
use Rattle.std.proofs.Common.{append_assoc}
use Rattle.std.specs.Prelude.{flat_map}
use Rattle.std.specs.List.{list_all}
use Rattle.std.proofs.lemmas.List.Concat.{flat_map-cons}
use Rattle.std.proofs.lemmas.Bool.{and_from}
use Rattle.am_lemmas.specs.Bytes.{AreBytes}
use Rattle.am_lemmas.proofs.Bools.{and_first, and_second}
use Rattle.am_names.specs.declared.EndpointId.{EndpointId}
use Rattle.am_names.specs.Names.{same_end}
use Rattle.am_office_entries.specs.declared.HandlerKind.{HandlerKind}
use Rattle.am_office_entries.specs.declared.HandlerKind.TheVariants.{Note, Echo, Add}
use Rattle.am_model.specs.declared.Mapping.{Mapping}
use Rattle.am_model.specs.declared.Awaited.{Awaited}
use Rattle.am_model.specs.History.{is_byte, is_four_bytes, is_eight_bytes}
use Rattle.am_model.proofs.Names.{same_end-is, same_end-refl}
use Rattle.am_swap_image.specs.Image.{in_turn, byte, short, long, counted, mapping_bytes, record_bytes, state_number, handler_bytes}
use Rattle.am_swap_image.specs.Range.{fits_mapping, fits_record, fits_handler}
use Rattle.am_swap_image.specs.Reading.{Read, byte_at, short_at, long_at, some_mapping_at, mapping_at, state_of, record_at, echo_at, add_at, handler_by}
use Rattle.am_swap_image.specs.Reading.{handler_at, many_at, counted_at}
use Rattle.am_swap_image.proofs.Fields.{Took, IsReader, then_some, step, some_is, none_some, by_mark, by_number, turn_again, turn_parts, byte_reader}
use Rattle.am_swap_image.proofs.Fields.{short_reader, long_reader}

-- a value behind a mark
behind : {X : Type 0} (fits : X → Bool) (text : X → List ℕ) (bytes : List ℕ) (x : X) (rest : List ℕ) (n mark : ℕ) (after : List ℕ) → mark ≡ n →
    Took is_byte byte bytes mark after → Took fits text (n ∷ after) x rest → Took fits text bytes x rest
behind fits text bytes x rest n mark after is t took = subst (λ (w : List ℕ). Took fits text w x rest) (sym (t.parts ∙ ap (λ (k : ℕ). k ∷ after) is)) took

-- a value that is written as a mark alone
alone : {X : Type 0} (fits : X → Bool) (text : X → List ℕ) (n : ℕ) (v x : X) (after rest : List ℕ) → fits v ≡ true → text v ≡ n ∷ [] → AreBytes after →
    ◌≡◌ {A = Option (X × List ℕ)} (let read : X × List ℕ = (v, after) in Some read) (let found : X × List ℕ = (x, rest) in Some found) →
    Took fits text (n ∷ after) x rest
alone {X} fits text n v x after rest in_range is after_fits h =
    let read : X × List ℕ = (v, after) in
    let found : X × List ℕ = (x, rest) in
    subst (λ (y : X × List ℕ). Took fits text (n ∷ after) y.0 y.1) (some_is read found h) (record {
      parts = ap (λ (t : List ℕ). t ++ after) (sym is);
      rest_fits = after_fits;
      in_range = in_range;
    })

-- ---- mappings

some_mapping_takes : (bytes : List ℕ) (x : Option Mapping) (rest : List ℕ) → AreBytes bytes → some_mapping_at bytes ≡ Some (x, rest) →
    Took fits_mapping mapping_bytes (1 ∷ bytes) x rest
unfolding some_mapping_at
some_mapping_takes bytes x rest fits e =
    then_some (byte_at bytes) _ (x, rest) e (λ a ea a'.
    let at = byte_reader.takes bytes a.0 a.1 fits ea in
    then_some (long_at a.1) _ (x, rest) a' (λ b eb b'.
    let bt = long_reader.takes a.1 b.0 b.1 at.rest_fits eb in
    then_some (byte_at b.1) _ (x, rest) b' (λ c ec c'.
    let ct = byte_reader.takes b.1 c.0 c.1 bt.rest_fits ec in
    let read : Option Mapping × List ℕ = (Some (record { name = record { 0 = a.0 }; tag = record { 0 = b.0 }; credits = c.0 }), c.1) in
    let pc : b.1 ≡ in_turn (byte c.0 ∷ []) ++ c.1 = turn_parts b.1 (byte c.0) c.1 [] c.1 ct.parts refl in
    let pb : a.1 ≡ in_turn (long b.0 ∷ byte c.0 ∷ []) ++ c.1 = turn_parts a.1 (long b.0) b.1 (byte c.0 ∷ []) c.1 bt.parts pc in
    let pa : bytes ≡ in_turn (byte a.0 ∷ long b.0 ∷ byte c.0 ∷ []) ++ c.1 = turn_parts bytes (byte a.0) a.1 (long b.0 ∷ byte c.0 ∷ []) c.1 at.parts pb in
    subst (λ (y : Option Mapping × List ℕ). Took fits_mapping mapping_bytes (1 ∷ bytes) y.0 y.1) (some_is read (x, rest) c')
    (record {
      parts = ap (λ (w : List ℕ). 1 ∷ w) pa;
      rest_fits = ct.rest_fits;
      in_range = and_from (is_byte a.0) (is_eight_bytes b.0 && is_byte c.0) at.in_range (and_from (is_eight_bytes b.0) (is_byte c.0) bt.in_range ct.in_range);
    }))))

mapping_takes : (bytes : List ℕ) (x : Option Mapping) (rest : List ℕ) → AreBytes bytes → mapping_at bytes ≡ Some (x, rest) →
    Took fits_mapping mapping_bytes bytes x rest
unfolding mapping_at
mapping_takes bytes x rest fits e =
    then_some (byte_at bytes) _ (x, rest) e (λ a ea a'.
    let t = byte_reader.takes bytes a.0 a.1 fits ea in
    by_mark a.0 0 _ _ (x, rest) (λ is h. behind fits_mapping mapping_bytes bytes x rest 0 a.0 a.1 is t
    (alone fits_mapping mapping_bytes 0 None x a.1 rest refl refl t.rest_fits h))
    (by_mark a.0 1 _ _ (x, rest) (λ is h. behind fits_mapping mapping_bytes bytes x rest 1 a.0 a.1 is t (some_mapping_takes a.1 x rest t.rest_fits h))
    (λ h. absurd (none_some (x, rest) h))) a')

mapping_again : (x : Option Mapping) (rest : List ℕ) → fits_mapping x ≡ true → mapping_at (mapping_bytes x ++ rest) ≡ Some (x, rest)
unfolding mapping_at some_mapping_at
mapping_again None rest h = step _ _ _ _ (byte_reader.again 0 rest refl) refl
mapping_again (Some m) rest h =
    let g : (is_eight_bytes m.tag.0 && is_byte m.credits) ≡ true = and_second (is_byte m.name.0) (is_eight_bytes m.tag.0 && is_byte m.credits) h in
    step _ _ _ _ (turn_again is_byte byte byte_at byte_reader 1 (byte m.name.0 ∷ long m.tag.0 ∷ byte m.credits ∷ []) rest refl)
    (step _ _ _ _ (turn_again is_byte byte byte_at byte_reader m.name.0 (long m.tag.0 ∷ byte m.credits ∷ []) rest
    (and_first (is_byte m.name.0) (is_eight_bytes m.tag.0 && is_byte m.credits) h))
    (step _ _ _ _ (turn_again is_eight_bytes long long_at long_reader m.tag.0 (byte m.credits ∷ []) rest
    (and_first (is_eight_bytes m.tag.0) (is_byte m.credits) g))
    (step _ _ _ _ (turn_again is_byte byte byte_at byte_reader m.credits [] rest (and_second (is_eight_bytes m.tag.0) (is_byte m.credits) g)) refl)))

pub mapping_reader : IsReader fits_mapping mapping_bytes mapping_at
mapping_reader = record { takes = mapping_takes; again = mapping_again }

-- ---- records

state_takes : (number : ℕ) (arrived : Bool) → state_of number ≡ Some arrived → number ≡ state_number arrived
unfolding state_of
state_takes number arrived e =
    by_number state_number number 0 false _ arrived refl (by_number state_number number 1 true _ arrived refl (λ h. absurd (none_some arrived h))) e

state_back : (arrived : Bool) → state_of (state_number arrived) ≡ Some arrived
unfolding state_of
state_back false = refl
state_back true = refl

state_fits : (arrived : Bool) → is_byte (state_number arrived) ≡ true
state_fits false = refl
state_fits true = refl

-- whether a record is of this endpoint, with its numbers in range
abbrev pub fits_own : EndpointId → Awaited → Bool
fits_own e a = same_end e a.serial.source && fits_record a

record_takes : (own : EndpointId) (bytes : List ℕ) (x : Awaited) (rest : List ℕ) → AreBytes bytes → record_at own bytes ≡ Some (x, rest) →
    Took (fits_own own) record_bytes bytes x rest
unfolding record_at
record_takes own bytes x rest fits e =
    then_some (byte_at bytes) _ (x, rest) e (λ a ea a'.
    let at = byte_reader.takes bytes a.0 a.1 fits ea in
    then_some (short_at a.1) _ (x, rest) a' (λ b eb b'.
    let bt = short_reader.takes a.1 b.0 b.1 at.rest_fits eb in
    then_some (byte_at b.1) _ (x, rest) b' (λ c ec c'.
    let ct = byte_reader.takes b.1 c.0 c.1 bt.rest_fits ec in
    then_some (state_of c.0) _ (x, rest) c' (λ s es s'.
    let made : Awaited = record { index = a.0; serial = record { source = own; count = b.0 }; arrived = s } in
    let read : Awaited × List ℕ = (made, c.1) in
    let pc : b.1 ≡ in_turn (byte (state_number s) ∷ []) ++ c.1 = ct.parts ∙ ap (λ (i : ℕ). i ∷ c.1) (state_takes c.0 s es) in
    let pb : a.1 ≡ in_turn (short b.0 ∷ byte (state_number s) ∷ []) ++ c.1 = turn_parts a.1 (short b.0) b.1 (byte (state_number s) ∷ []) c.1 bt.parts pc in
    subst (λ (y : Awaited × List ℕ). Took (fits_own own) record_bytes bytes y.0 y.1) (some_is read (x, rest) s')
    (record {
      parts = turn_parts bytes (byte a.0) a.1 (short b.0 ∷ byte (state_number s) ∷ []) c.1 at.parts pb;
      rest_fits = ct.rest_fits;
      in_range = and_from (same_end own own) (fits_record made) (same_end-refl own) (and_from (is_byte a.0) (is_four_bytes b.0) at.in_range bt.in_range);
    })))))

abbrev some_read : Awaited × List ℕ → Read Awaited
some_read read = Some read

record_again : (own : EndpointId) (x : Awaited) (rest : List ℕ) → fits_own own x ≡ true → record_at own (record_bytes x ++ rest) ≡ Some (x, rest)
unfolding record_at
record_again own x rest h =
    let source : own ≡ x.serial.source = same_end-is own x.serial.source (and_first (same_end own x.serial.source) (fits_record x) h) in
    let g : fits_record x ≡ true = and_second (same_end own x.serial.source) (fits_record x) h in
    step _ _ _ _ (turn_again is_byte byte byte_at byte_reader x.index (short x.serial.count ∷ byte (state_number x.arrived) ∷ []) rest
    (and_first (is_byte x.index) (is_four_bytes x.serial.count) g))
    (step _ _ _ _ (turn_again is_four_bytes short short_at short_reader x.serial.count (byte (state_number x.arrived) ∷ []) rest
    (and_second (is_byte x.index) (is_four_bytes x.serial.count) g))
    (step _ _ _ _ (turn_again is_byte byte byte_at byte_reader (state_number x.arrived) [] rest (state_fits x.arrived))
    (step _ _ _ _ (state_back x.arrived) (of_source own source))))
  where
    of_source : (e : EndpointId) → e ≡ x.serial.source → ◌≡◌ {A = Read Awaited} (let read : Awaited × List ℕ =
        (record { index = x.index; serial = record { source = e; count = x.serial.count }; arrived = x.arrived }, rest) in Some read) (Some (x, rest))
    of_source e is = ap (λ (s : EndpointId). let read : Awaited × List ℕ = (
      record {
        index = x.index;
        serial = record { source = s; count = x.serial.count };
        arrived = x.arrived;
      },
      rest,
    ) in some_read read) is

pub record_reader : (own : EndpointId) → IsReader (fits_own own) record_bytes (record_at own)
record_reader own = record { takes = record_takes own; again = record_again own }

-- ---- handlers

echo_takes : (bytes : List ℕ) (x : Option HandlerKind) (rest : List ℕ) → AreBytes bytes → echo_at bytes ≡ Some (x, rest) →
    Took fits_handler handler_bytes (2 ∷ bytes) x rest
unfolding echo_at
echo_takes bytes x rest fits e =
    then_some (byte_at bytes) _ (x, rest) e (λ a ea a'.
    let at = byte_reader.takes bytes a.0 a.1 fits ea in
    let read : Option HandlerKind × List ℕ = (Some (Echo a.0), a.1) in
    subst (λ (y : Option HandlerKind × List ℕ). Took fits_handler handler_bytes (2 ∷ bytes) y.0 y.1) (some_is read (x, rest) a')
    (record { parts = ap (λ (w : List ℕ). 2 ∷ w) at.parts; rest_fits = at.rest_fits; in_range = at.in_range }))

add_takes : (bytes : List ℕ) (x : Option HandlerKind) (rest : List ℕ) → AreBytes bytes → add_at bytes ≡ Some (x, rest) →
    Took fits_handler handler_bytes (3 ∷ bytes) x rest
unfolding add_at
add_takes bytes x rest fits e =
    then_some (byte_at bytes) _ (x, rest) e (λ a ea a'.
    let at = byte_reader.takes bytes a.0 a.1 fits ea in
    let read : Option HandlerKind × List ℕ = (Some (Add a.0), a.1) in
    subst (λ (y : Option HandlerKind × List ℕ). Took fits_handler handler_bytes (3 ∷ bytes) y.0 y.1) (some_is read (x, rest) a')
    (record { parts = ap (λ (w : List ℕ). 3 ∷ w) at.parts; rest_fits = at.rest_fits; in_range = at.in_range }))

handler_takes : (bytes : List ℕ) (x : Option HandlerKind) (rest : List ℕ) → AreBytes bytes → handler_at bytes ≡ Some (x, rest) →
    Took fits_handler handler_bytes bytes x rest
unfolding handler_at handler_by
handler_takes bytes x rest fits e =
    then_some (byte_at bytes) _ (x, rest) e (λ a ea a'.
    let t = byte_reader.takes bytes a.0 a.1 fits ea in
    by_mark a.0 0 _ _ (x, rest) (λ is h. behind fits_handler handler_bytes bytes x rest 0 a.0 a.1 is t
    (alone fits_handler handler_bytes 0 None x a.1 rest refl refl t.rest_fits h))
    (by_mark a.0 1 _ _ (x, rest) (λ is h. behind fits_handler handler_bytes bytes x rest 1 a.0 a.1 is t
    (alone fits_handler handler_bytes 1 (Some Note) x a.1 rest refl refl t.rest_fits h))
    (by_mark a.0 2 _ _ (x, rest) (λ is h. behind fits_handler handler_bytes bytes x rest 2 a.0 a.1 is t (echo_takes a.1 x rest t.rest_fits h))
    (by_mark a.0 3 _ _ (x, rest) (λ is h. behind fits_handler handler_bytes bytes x rest 3 a.0 a.1 is t (add_takes a.1 x rest t.rest_fits h))
    (λ h. absurd (none_some (x, rest) h))))) a')

handler_again : (x : Option HandlerKind) (rest : List ℕ) → fits_handler x ≡ true → handler_at (handler_bytes x ++ rest) ≡ Some (x, rest)
unfolding handler_at handler_by echo_at add_at
handler_again None rest h = step _ _ _ _ (byte_reader.again 0 rest refl) refl
handler_again (Some Note) rest h = step _ _ _ _ (byte_reader.again 1 rest refl) refl
handler_again (Some (Echo to)) rest h =
    step _ _ _ _ (turn_again is_byte byte byte_at byte_reader 2 (byte to ∷ []) rest refl)
    (step _ _ _ _ (turn_again is_byte byte byte_at byte_reader to [] rest h) refl)
handler_again (Some (Add to)) rest h =
    step _ _ _ _ (turn_again is_byte byte byte_at byte_reader 3 (byte to ∷ []) rest refl)
    (step _ _ _ _ (turn_again is_byte byte byte_at byte_reader to [] rest h) refl)

pub handler_reader : IsReader fits_handler handler_bytes handler_at
handler_reader = record { takes = handler_takes; again = handler_again }

-- ---- lists

-- so many were taken from the front
pub record TookMany {X : Type 0} (fits : X → Bool) (text : X → List ℕ) (n : ℕ) (bytes : List ℕ) (xs : List X) (rest : List ℕ) : Type 0 where
  pub took : Took (list_all fits) (flat_map text) bytes xs rest
  pub len : length xs ≡ n

pub many_takes : {X : Type 0} (fits : X → Bool) (text : X → List ℕ) (at : List ℕ → Read X) → IsReader fits text at →
    (n : ℕ) (bytes : List ℕ) (xs : List X) (rest : List ℕ) → AreBytes bytes → many_at at n bytes ≡ Some (xs, rest) → TookMany fits text n bytes xs rest
unfolding many_at
many_takes {X} fits text at reader zero bytes xs rest byte_fits e =
    let read : List X × List ℕ = ([], bytes) in
    let found : List X × List ℕ = (xs, rest) in
    subst (λ (y : List X × List ℕ). TookMany fits text 0 bytes y.0 y.1) (some_is read found e) (record {
      took = record {
        parts = refl;
        rest_fits = byte_fits;
        in_range = refl;
      };
      len = refl;
    })
many_takes {X} fits text at reader (suc n) bytes xs rest byte_fits e =
    then_some (at bytes) _ (xs, rest) e (λ a ea a'.
    let t : Took fits text bytes a.0 a.1 = reader.takes bytes a.0 a.1 byte_fits ea in
    then_some (many_at at n a.1) _ (xs, rest) a' (λ b eb b'.
    let more : TookMany fits text n a.1 b.0 b.1 = many_takes fits text at reader n a.1 b.0 b.1 t.rest_fits eb in
    let read : List X × List ℕ = (a.0 ∷ b.0, b.1) in
    let found : List X × List ℕ = (xs, rest) in
    let joined : bytes ≡ flat_map text (a.0 ∷ b.0) ++ b.1 = t.parts ∙ (ap (λ (w : List ℕ). text a.0 ++ w) more.took.parts
    ∙ (sym (append_assoc (text a.0) (flat_map text b.0) b.1) ∙ ap (λ (w : List ℕ). w ++ b.1) (sym (flat_map-cons text a.0 b.0)))) in
    subst (λ (y : List X × List ℕ). TookMany fits text (suc n) bytes y.0 y.1) (some_is read found b')
    (record {
      took = record { parts = joined; rest_fits = more.took.rest_fits; in_range = and_from (fits a.0) (list_all fits b.0) t.in_range more.took.in_range };
      len = ap suc more.len;
    })))

pub many_again : {X : Type 0} (fits : X → Bool) (text : X → List ℕ) (at : List ℕ → Read X) → IsReader fits text at → (xs : List X) (rest : List ℕ) →
    list_all fits xs ≡ true → many_at at (length xs) (flat_map text xs ++ rest) ≡ Some (xs, rest)
unfolding many_at
many_again {X} fits text at reader [] rest h = refl
many_again {X} fits text at reader (x ∷ xs) rest h =
    let regrouped : flat_map text (x ∷ xs) ++ rest ≡ text x ++ (flat_map text xs ++ rest) = ap (λ (w : List ℕ). w ++ rest) (flat_map-cons text x xs)
    ∙ append_assoc (text x) (flat_map text xs) rest in
    ap (many_at at (suc (length xs))) regrouped
    ∙ step _ _ _ _ (reader.again x (flat_map text xs ++ rest) (and_first (fits x) (list_all fits xs) h))
    (step _ _ _ _ (many_again fits text at reader xs rest (and_second (fits x) (list_all fits xs) h)) refl)

-- whether a counted list has few enough elements, each in range
abbrev pub fits_counted : {X : Type 0} → (X → Bool) → List X → Bool
fits_counted fits xs = is_byte (length xs) && list_all fits xs

counted_takes : {X : Type 0} (fits : X → Bool) (text : X → List ℕ) (at : List ℕ → Read X) → IsReader fits text at →
    (bytes : List ℕ) (xs : List X) (rest : List ℕ) → AreBytes bytes → counted_at at bytes ≡ Some (xs, rest) →
    Took (fits_counted fits) (counted text) bytes xs rest
unfolding counted_at
counted_takes {X} fits text at reader bytes xs rest byte_fits e =
    then_some (byte_at bytes) _ (xs, rest) e (λ a ea a'.
    let t = byte_reader.takes bytes a.0 a.1 byte_fits ea in
    let many : TookMany fits text a.0 a.1 xs rest = many_takes fits text at reader a.0 a.1 xs rest t.rest_fits a' in
    let head : bytes ≡ byte (length xs) ++ a.1 = t.parts ∙ ap (λ (k : ℕ). k ∷ a.1) (sym many.len) in
    let tail : a.1 ≡ in_turn (flat_map text xs ∷ []) ++ rest = turn_parts a.1 (flat_map text xs) rest [] rest many.took.parts refl in
    record {
      parts = turn_parts bytes (byte (length xs)) a.1 (flat_map text xs ∷ []) rest head tail;
      rest_fits = many.took.rest_fits;
      in_range = and_from (is_byte (length xs)) (list_all fits xs) (ap is_byte many.len ∙ t.in_range) many.took.in_range;
    })

counted_again : {X : Type 0} (fits : X → Bool) (text : X → List ℕ) (at : List ℕ → Read X) → IsReader fits text at → (xs : List X) (rest : List ℕ) →
    fits_counted fits xs ≡ true → counted_at at (counted text xs ++ rest) ≡ Some (xs, rest)
unfolding counted_at
counted_again {X} fits text at reader xs rest h =
    step _ _ _ _ (turn_again is_byte byte byte_at byte_reader (length xs) (flat_map text xs ∷ []) rest (and_first (is_byte (length xs)) (list_all fits xs) h))
    (ap (many_at at (length xs)) (append_assoc (flat_map text xs) [] rest)
    ∙ many_again fits text at reader xs rest (and_second (is_byte (length xs)) (list_all fits xs) h))

pub counted_reader : {X : Type 0} (fits : X → Bool) (text : X → List ℕ) (at : List ℕ → Read X) → IsReader fits text at →
    IsReader (fits_counted fits) (counted text) (counted_at at)
counted_reader fits text at reader = record { takes = counted_takes fits text at reader; again = counted_again fits text at reader }
