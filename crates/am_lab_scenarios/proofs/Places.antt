-- What is read of the word at the front.
use Rattle.std.proofs.Common.{◌≡◌, ℕ, ◌^◌, ◌<◌, ◌≤◌, true, false, eqb, leb, ltb, List, [], ◌∷◌, Option, Some, None, Ok, refl, ap, inl, inr, arith}
use Rattle.std.specs.Prelude.{codes, find, IsSome}
use Rattle.std.specs.Fmt.{decimal}
use Rattle.std.specs.List.{All}
use Rattle.std.specs.Option.{option_map}
use Rattle.std.specs.Str.{bytes_eq}
use Rattle.std.proofs.lemmas.Bool.{lt-ltb, le-leb, eq-eqb, eqb-true, ne_eqb, cases_eq}
use Rattle.am_lemmas.proofs.Lists.{find_passes}
use Rattle.am_lexer.specs.Fields.{word_at, number_at, within}
use Rattle.am_names.specs.declared.EndpointId.{EndpointId}
use Rattle.am_names.specs.declared.NodeId.{NodeId}
use Rattle.am_names.specs.declared.Serial.{Serial}
use Rattle.am_names.specs.declared.Tag.{Tag}
use Rattle.am_office_entries.specs.declared.HandlerKind.{HandlerKind}
use Rattle.am_office_entries.specs.declared.HandlerKind.TheVariants as Kinds
use Rattle.am_office_entries.specs.declared.Mask.{Mask}
use Rattle.am_office_entries.specs.declared.Mask.TheVariants as Masks
use Rattle.am_office_text.specs.Words.{Word, tag, serial}
use Rattle.am_office_text.specs.EntryLines.Lines.{handler_kind, mask}
use Rattle.am_scenario_types.specs.declared.parts.EndLine.{EndLine}
use Rattle.am_scenario_types.specs.Lawful.{IsWithin, IsLawfulKind, IsLawfulSerial, IsDeclared, IsOn}
use Rattle.am_scenario.specs.declared.drafts.settings.Settings.{Settings}
use Rattle.am_scenario.specs.Drafts.Said.{Said, node_count}
use Rattle.am_scenario.specs.Lines.Places.{below, node_at, is_wanted, end_word, end_at, tag_at, serial_at}
use Rattle.am_scenario.specs.Lines.Declarations.{mask_at}
use Rattle.am_scenario.specs.Lines.Calls.{kind_at}
use Rattle.am_scenario.proofs.Below.{found_holds}
use Rattle.am_lab_scenarios.proofs.Words.{number_read, number_differs, serial_read}

-- ---- numbers

pub number_here : (n : ℕ) (rest : List Word) → n < 2 ^ 64 → number_at (decimal n ∷ rest) ≡ Ok (n, rest)
unfolding number_at word_at
number_here n rest h = rw (number_read n h) refl

pub within_here : (low high n : ℕ) (rest : List Word) → IsWithin low high n → n < 2 ^ 64 → within low high (decimal n ∷ rest) ≡ Ok (n, rest)
unfolding within
within_here low high n rest h small =
    let from : leb low n ≡ true = le-leb low n h.0 in
    let to : leb n high ≡ true = le-leb n high h.1 in
    rw (number_here n rest small, from, to) refl

pub below_here : (limit n : ℕ) (rest : List Word) → n < limit → n < 2 ^ 64 → below limit (decimal n ∷ rest) ≡ Ok (n, rest)
unfolding below
below_here limit n rest h small = let less : ltb n limit ≡ true = lt-ltb n limit h in rw (number_here n rest small, less) refl

pub node_here : (settings : Settings) (node : NodeId) (rest : List Word) → node.0 < node_count settings → node_count settings ≤ 16 →
    node_at settings (decimal node.0 ∷ rest) ≡ Ok (node, rest)
unfolding node_at
node_here settings node rest h few = rw (below_here (node_count settings) node.0 rest h (omega arith)) refl

-- ---- tags, serials, kinds and masks

pub tag_here : (t : Tag) (rest : List Word) → t.0 < 2 ^ 64 → tag_at (tag t ∷ rest) ≡ Ok (t, rest)
unfolding tag_at word_at tag
tag_here t rest h = elim (cases_eq t.0 0) [
  | inl z ↦ let yes : eqb t.0 0 ≡ true = eq-eqb t.0 0 z in rw (yes, z) refl
  | inr nz ↦ elim (cases_eq t.0 18446744073709551615) [
    | inl m ↦ let differ : eqb t.0 0 ≡ false = ne_eqb t.0 0 nz in let yes : eqb t.0 18446744073709551615 ≡ true = eq-eqb t.0 18446744073709551615 m in
        rw (differ, yes, m) refl
    | inr nm ↦
        let differ : eqb t.0 0 ≡ false = ne_eqb t.0 0 nz in
        let max : eqb t.0 18446744073709551615 ≡ false = ne_eqb t.0 18446744073709551615 nm in
        let none : bytes_eq (decimal t.0) (codes "none") ≡ false = number_differs t.0 110 (codes "one") h (omega arith) in
        let all : bytes_eq (decimal t.0) (codes "all") ≡ false = number_differs t.0 97 (codes "ll") h (omega arith) in
        rw (differ, max, none, all, number_read t.0 h) refl
  ]
]

pub serial_here : (s : Serial) (rest : List Word) → IsLawfulSerial s → serial_at (serial s ∷ rest) ≡ Ok (s, rest)
unfolding serial_at word_at
serial_here s rest h = rw (serial_read s h) refl

pub kind_here : (k : HandlerKind) → IsLawfulKind k → kind_at (handler_kind k) ≡ Ok (k, [])
unfolding kind_at word_at handler_kind
kind_here Kinds.Note h = refl
kind_here (Kinds.Echo r) h = rw (within_here 1 15 r [] h (omega (arith, h.1))) refl
kind_here (Kinds.Add r) h = rw (within_here 1 15 r [] h (omega (arith, h.1))) refl

pub mask_here : (m : Mask) (rest : List Word) → mask_at (mask m ∷ rest) ≡ Ok (m, rest)
unfolding mask_at word_at mask
mask_here Masks.NoEvents rest = refl
mask_here Masks.NotEmpty rest = refl

-- ---- endpoints

-- an endpoint that a number is read as, of the node that is wanted
abbrev pub IsWantedEnd : List EndLine → Option NodeId → EndpointId → Type 0
IsWantedEnd ends wanted id = (end : EndLine) × (find (λ end. eqb end.id.0 id.0) ends ≡ Some end) × (is_wanted wanted end.node ≡ true)

mapped : {A B : Type 0} (f : A → B) (o : Option A) → IsSome (option_map f o) → (x : A) × (o ≡ Some x)
mapped f None h = absurd cc
mapped f (Some x) h = (x, refl)

pub mapped_to : {A B : Type 0} (f : A → B) (o : Option A) (y : B) → option_map f o ≡ Some y → (x : A) × (o ≡ Some x) × (f x ≡ y)
mapped_to f None y h = absurd cc
mapped_to f (Some x) y h = (x, refl, cc)

pub declared_end : (ends : List EndLine) (id : EndpointId) → IsDeclared ends id → IsWantedEnd ends None id
declared_end ends id h = let found = mapped (λ end. end.node) (find (λ end. eqb end.id.0 id.0) ends) h in (found.0, found.1, refl)

pub end_on : (ends : List EndLine) (node : NodeId) (id : EndpointId) → IsOn ends node id → IsWantedEnd ends (Some node) id
end_on ends node id h =
    let found = mapped_to (λ end. end.node) (find (λ end. eqb end.id.0 id.0) ends) node h in
    (found.0, found.1, eq-eqb found.0.node.0 node.0 (ap (λ (n : NodeId). n.0) found.2))

pub end_with_node : (ends : List EndLine) (node : NodeId) (id : EndpointId) → IsOn ends node id →
    (end : EndLine) × (find (λ end. eqb end.id.0 id.0) ends ≡ Some end) × (end.node ≡ node)
end_with_node ends node id h = mapped_to (λ end. end.node) (find (λ end. eqb end.id.0 id.0) ends) node h

pub id_of_found : (ends : List EndLine) (id : EndpointId) (end : EndLine) → find (λ end. eqb end.id.0 id.0) ends ≡ Some end → end.id ≡ id
id_of_found ends id end e =
    let same : end.id.0 ≡ id.0 = eqb-true end.id.0 id.0 (find_passes (λ end. eqb end.id.0 id.0) ends end e) in
    ap (λ (n : ℕ). record { 0 = n }) same

pub small_id : (ends : List EndLine) (wanted : Option NodeId) (id : EndpointId) → All (λ end. end.id.0 ≤ 255) ends → IsWantedEnd ends wanted id → id.0 < 2 ^ 64
small_id ends wanted id small w =
    let same = id_of_found ends id w.0 w.1 in
    let low = found_holds (λ end. end.id.0 ≤ 255) (λ end. eqb end.id.0 id.0) ends w.0 small w.1 in
    let n : w.0.id.0 ≡ id.0 = ap (λ (e : EndpointId). e.0) same in
    omega arith

pub end_word_here : (said : Said) (wanted : Option NodeId) (id : EndpointId) → id.0 < 2 ^ 64 → (w : IsWantedEnd said.ends wanted id) →
    end_word said wanted (decimal id.0) ≡ Ok w.0
unfolding end_word
end_word_here said wanted id small w = rw (number_read id.0 small, w.1, w.2) refl

pub end_here : (said : Said) (wanted : Option NodeId) (id : EndpointId) (rest : List Word) → All (λ end. end.id.0 ≤ 255) said.ends →
    IsWantedEnd said.ends wanted id → end_at said wanted (decimal id.0 ∷ rest) ≡ Ok (id, rest)
unfolding end_at word_at
end_here said wanted id rest small w =
    rw (end_word_here said wanted id (small_id said.ends wanted id small w) w, id_of_found said.ends id w.0 w.1) refl
