-- What ran at an endpoint, entry by entry.
use Rattle.std.proofs.Common.{◌≡◌, ℕ, ◌+◌, ◌<◌, Bool, true, false, ◌&&◌, cond, Option, Some, None, List, [], ◌∷◌, ◌++◌, refl, sym, ap, ◌∙◌, length, take, take_all}
use Rattle.std.proofs.Common.{◌≤◌, if◌then◌else◌, arith, drop, get_or, filter_map, map, slice_get}
use Rattle.std.specs.Prelude.{filter, fold, option_to_list}
use Rattle.std.specs.Borrow.{Bor}
use Rattle.std.specs.List.{cons_option}
use Rattle.std.specs.Option.{option_map}
use Rattle.std.proofs.lemmas.List.{append-nil, map_more, take-append-drop}
use Rattle.std.proofs.lemmas.List.Elements.{filter-append, filter_map-append}
use Rattle.std.proofs.lemmas.List.Sums.{fold_push}
use Rattle.am_names.specs.declared.EndpointId.{EndpointId}
use Rattle.am_names.specs.declared.Message.{Message}
use Rattle.am_names.specs.declared.Words.{Words}
use Rattle.am_names.specs.Names.{is_request}
use Rattle.am_office_entries.specs.declared.Entry.{Entry}
use Rattle.am_office_entries.specs.Entries.{run_of}
use Rattle.am_office_entries.specs.Logged.Behind.{entries_behind}
use Rattle.am_office_entries.proofs.Entries.{behind_next, length_behind}
use Rattle.am_library_views.specs.declared.runs.Run.{Run}
use Rattle.am_library_views.specs.Ends.{words_if_request, words_of, words_run, words_run_of}
use Rattle.am_library_views.specs.Views.{first_word, is_to, reply_to, requests_run, runs_at, with_reply}

-- a fold over one entry more
pub folds : {B : Type 0} (f : B → Entry → B) (b : B) (xs : List (Bor Entry)) (i : ℕ) (d : Bor Entry) (mid new : B) → i < length xs →
    mid ≡ fold f b (take i (entries_behind xs)) → new ≡ f mid (get_or xs i d).now → new ≡ fold f b (take (i + 1) (entries_behind xs))
folds {B} f b xs i d mid new below so_far step =
    step
    ∙ ap (λ (m : B). f m (get_or xs i d).now) so_far
    ∙ sym (ap (fold f b) (behind_next xs i d below) ∙ fold_push f b (take i (entries_behind xs)) (get_or xs i d).now)

-- what ran in two parts of a journal
runs_both : (past more : List Entry) (e : EndpointId) → runs_at (past ++ more) e ≡ runs_at past e ++ runs_at more e
runs_both past more e =
    ap (λ (ms : List Message). filter (is_to e) (filter is_request ms)) (filter_map-append run_of past more)
    ∙ ap (filter (is_to e)) (filter-append is_request (filter_map run_of past) (filter_map run_of more))
    ∙ filter-append (is_to e) (requests_run past) (requests_run more)

pub runs_next : (xs : List (Bor Entry)) (e : EndpointId) (i : ℕ) (d : Bor Entry) (o : Option Message) (runs new : List Message) → i < length xs →
    runs ≡ runs_at (take i (entries_behind xs)) e → option_to_list o ≡ runs_at ((get_or xs i d).now ∷ []) e → new ≡ runs ++ option_to_list o →
    new ≡ runs_at (take (i + 1) (entries_behind xs)) e
runs_next xs e i d o runs new below so_far here push =
    push
    ∙ (λ j. so_far j ++ here j)
    ∙ sym (ap (λ (past : List Entry). runs_at past e) (behind_next xs i d below) ∙ runs_both (take i (entries_behind xs)) ((get_or xs i d).now ∷ []) e)

pub runs_same : (xs : List (Bor Entry)) (e : EndpointId) (i : ℕ) (d : Bor Entry) (runs : List Message) → i < length xs →
    runs ≡ runs_at (take i (entries_behind xs)) e → [] ≡ runs_at ((get_or xs i d).now ∷ []) e → runs ≡ runs_at (take (i + 1) (entries_behind xs)) e
runs_same xs e i d runs below so_far here = runs_next xs e i d None runs runs below so_far here (sym (append-nil runs))

-- ---- the first

abbrev pub FirstWord : List Entry → EndpointId → Option ℕ
FirstWord journal e = option_map first_word (slice_get (runs_at journal e) 0)

pub first_found : (xs : List (Bor Entry)) (journal : List Entry) (e : EndpointId) (i : ℕ) (d : Bor Entry) (o : Option Message) (m : Message) →
    entries_behind xs ≡ journal → i < length xs → runs_at (take i (entries_behind xs)) e ≡ [] → option_to_list o ≡ runs_at ((get_or xs i d).now ∷ []) e →
    o ≡ Some m → Some m.words.a ≡ FirstWord journal e
first_found xs journal e i d o m behind below none here is =
    let rest : List Entry = drop (i + 1) (entries_behind xs) in
    let so_far : m ∷ [] ≡ runs_at (take (i + 1) (entries_behind xs)) e =
    runs_next xs e i d (Some m) [] (m ∷ []) below (sym none) (sym (ap option_to_list is) ∙ here) refl in
    let all : m ∷ runs_at rest e ≡ runs_at journal e =
    ap (λ (l : List Message). l ++ runs_at rest e) so_far
    ∙ sym (runs_both (take (i + 1) (entries_behind xs)) rest e)
    ∙ ap (λ (l : List Entry). runs_at l e) (take-append-drop (i + 1) (entries_behind xs) ∙ behind) in
    ap (λ (l : List Message). option_map first_word (slice_get l 0)) all

pub none_yet : (xs : List (Bor Entry)) (e : EndpointId) (i : ℕ) (d : Bor Entry) (o : Option Message) → i < length xs →
    runs_at (take i (entries_behind xs)) e ≡ [] → option_to_list o ≡ runs_at ((get_or xs i d).now ∷ []) e → o ≡ None →
    runs_at (take (i + 1) (entries_behind xs)) e ≡ []
none_yet xs e i d o below none here is = sym (runs_next xs e i d None [] [] below (sym none) (sym (ap option_to_list is) ∙ here) refl)

pub none_found : (xs : List (Bor Entry)) (journal : List Entry) (e : EndpointId) (i : ℕ) → entries_behind xs ≡ journal → length xs ≤ i →
    runs_at (take i (entries_behind xs)) e ≡ [] → None ≡ FirstWord journal e
none_found xs journal e i behind all none =
    ap (λ (l : List Message). option_map first_word (slice_get l 0))
    (sym none ∙ ap (λ (l : List Entry). runs_at l e) (take_all i (entries_behind xs) (omega (arith, length_behind xs, all)) ∙ behind))

-- ---- with their replies

pub replied_next : (journal : List Entry) (ms : List Message) (i : ℕ) (d : Message) (reply : Option Message) (runs new : List Run) → i < length ms →
    runs ≡ map (with_reply journal) (take i ms) → reply ≡ reply_to journal (get_or ms i d).serial →
    new ≡ runs ++ record { request = get_or ms i d; reply = reply } ∷ [] → new ≡ map (with_reply journal) (take (i + 1) ms)
replied_next journal ms i d reply runs new below so_far here push =
    push
    ∙ (λ j. so_far j ++ record { request = get_or ms i d; reply = here j } ∷ [])
    ∙ sym (map_more (with_reply journal) ms i d below)

-- the request that one entry runs at an endpoint
kept : (e : EndpointId) (m : Message) (a b : Bool) → is_request m ≡ a → is_to e m ≡ b →
    filter (is_to e) (filter is_request (m ∷ [])) ≡ cond (a && b) (m ∷ []) []
kept e m true true request to = ap (λ (t : Bool). filter (is_to e) (cond t (m ∷ []) [])) request ∙ ap (λ (t : Bool). cond t (m ∷ []) []) to
kept e m true false request to = ap (λ (t : Bool). filter (is_to e) (cond t (m ∷ []) [])) request ∙ ap (λ (t : Bool). cond t (m ∷ []) []) to
kept e m false b request to = ap (λ (t : Bool). filter (is_to e) (cond t (m ∷ []) [])) request

pub one_run : (x : Entry) (e : EndpointId) (m : Message) → run_of x ≡ Some m → (is_request m && is_to e m) ≡ true → m ∷ [] ≡ runs_at (x ∷ []) e
one_run x e m is both =
    sym (ap (λ (o : Option Message). filter (is_to e) (filter is_request (cons_option o []))) is
    ∙ kept e m (is_request m) (is_to e m) refl refl
    ∙ ap (λ (t : Bool). cond t (m ∷ []) []) both)

pub no_run : (x : Entry) (e : EndpointId) (m : Message) → run_of x ≡ Some m → (is_request m && is_to e m) ≡ false → [] ≡ runs_at (x ∷ []) e
no_run x e m is both =
    sym (ap (λ (o : Option Message). filter (is_to e) (filter is_request (cons_option o []))) is
    ∙ kept e m (is_request m) (is_to e m) refl refl
    ∙ ap (λ (t : Bool). cond t (m ∷ []) []) both)

pub none_run : (x : Entry) (e : EndpointId) → run_of x ≡ None → [] ≡ runs_at (x ∷ []) e
none_run x e is = sym (ap (λ (o : Option Message). filter (is_to e) (filter is_request (cons_option o []))) is)

-- ---- the words of the requests that ran, entry by entry

pub words_run_each : (journal : List Entry) → filter_map words_run_of journal ≡ words_run journal
words_run_each [] = refl
words_run_each (x ∷ xs) = by_run (words_run_each xs) (run_of x)
  where
    by_kind : filter_map words_run_of xs ≡ words_run xs → (m : Message) (b : Bool) → cons_option (if b then Some m.words else None)
        (filter_map words_run_of xs) ≡ map words_of (if b then m ∷ requests_run xs else requests_run xs)
    by_kind later m true = ap (λ (l : List Words). m.words ∷ l) later
    by_kind later m false = later

    by_run : filter_map words_run_of xs ≡ words_run xs → (o : Option Message) → cons_option (words_if_request o) (filter_map words_run_of xs) ≡ map words_of
        (filter is_request (cons_option o (filter_map run_of xs)))
    by_run later None = later
    by_run later (Some m) = by_kind later m (is_request m)
