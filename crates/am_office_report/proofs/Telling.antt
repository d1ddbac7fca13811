-- The table of a journal's messages, entry by entry, and the fates that it gives.
use Rattle.std.proofs.Common.{◌≡◌, ℕ, ◌<◌, ◌+◌, add-one, length, take, get_or, Option, Some, None, List, [], ◌∷◌, ◌++◌, refl, sym, ap, ◌∙◌, map, filter_map, option_to_list, Result, Ok, Err, OnOk, IfOk, append_assoc}
use Rattle.std.specs.Global.{Vec}
use Rattle.std.specs.List.{fold, cons_option}
use Rattle.std.specs.BTreeMap.{insert_entry}
use Rattle.std.specs.Ordering.{match_ordering}
use Rattle.std.proofs.Math.Seq.{take-suc}
use Rattle.std.proofs.lemmas.List.{append-nil}
use Rattle.std.proofs.lemmas.List.Elements.{filter_map-append}
use Rattle.am_lemmas.proofs.Lists.{map_alike, map_twice}
use Rattle.am_names.specs.declared.Serial.{Serial}
use Rattle.am_names.specs.declared.MsgKind.{MsgKind}
use Rattle.am_names.specs.declared.Message.{Message}
use Rattle.am_names.specs.Names.{serial_order}
use Rattle.am_office_entries.specs.declared.Entry.{Entry}
use Rattle.am_office_report.specs.declared.messages.MessageFate.{MessageFate}
use Rattle.am_office_report.specs.declared.sources.MessageState.{MessageState}
use Rattle.am_office_report.specs.declared.heard.Heard.{Heard}
use Rattle.am_office_report.specs.declared.known.Known.{Known}
use Rattle.am_office_report.specs.declared.known.News.{News}
use Rattle.am_office_entries.specs.Entries.{accepted_of}
use Rattle.am_office_entries.specs.Fates.{causes_of, is_unknown, is_run, fate_of_accepted}
use Rattle.am_office_report.specs.Report.{told, listed, listed_with}
use Rattle.am_office_report.specs.Tables.{accepted_state, accepted_with, kind_of, heard_with, heard_all, messages_in, state_after, entry_after, fate_of_entry, known_of}
use Rattle.am_office_report.specs.Tables.{known_after, news_of, HasHeard}
use Rattle.am_office_entries.proofs.Causes.{fate_by_first}
use Rattle.am_office_report.proofs.Flat.{match_map}
use Rattle.am_office_report.proofs.Knowing.{known_append}

abbrev Listed : Type 0
Listed = List (Serial × MsgKind)

abbrev Entries : Type 0
Entries = List (Serial × MessageState)

fold_append : {A B : Type 0} (f : B → A → B) (a : B) (xs : List A) (x : A) → fold f a (xs ++ x ∷ []) ≡ f (fold f a xs) x
fold_append f a [] x = refl
fold_append f a (y ∷ ys) x = fold_append f (f a y) ys x

listed_more : (past : List Entry) (x : Entry) → listed (past ++ x ∷ []) ≡ listed_with (listed past) (accepted_of x)
listed_more past x = fold_append (λ (messages : Listed) (y : Entry). listed_with messages (accepted_of y)) [] past x

accepted_next : (listed : Listed) (s : Serial) (kind : MsgKind) →
    insert_entry serial_order (map (state_after []) listed) s (accepted_state kind) ≡ map (state_after []) (insert_entry serial_order listed s kind)
accepted_next [] s kind = refl
accepted_next (m ∷ ms) s kind =
    let less : Entries = (s, accepted_state kind) ∷ map (state_after []) (m ∷ ms) in
    let same : Entries = (m.0, accepted_state kind) ∷ map (state_after []) ms in
    ap (λ (rest : Entries). match_ordering (serial_order s m.0) less same (state_after [] m ∷ rest)) (accepted_next ms s kind)
    ∙ match_map (state_after []) (serial_order s m.0) ((s, kind) ∷ m ∷ ms) ((m.0, kind) ∷ ms) (m ∷ insert_entry serial_order ms s kind)

abbrev state_of : Serial × MsgKind → Known → Serial × MessageState
state_of m k = (m.0, record { kind = m.1; known = k })

heard_each : (f : Serial × MsgKind → Known) (news : Option (Serial × News)) (listed : Listed) →
    heard_with (map (λ (m : Serial × MsgKind). state_of m (f m)) listed) news ≡ map (λ (m : Serial × MsgKind). state_of m (known_after m.0 (f m) news)) listed
heard_each f None listed = refl
heard_each f (Some (about, news)) listed = map_twice (λ (m : Serial × MsgKind). state_of m (f m)) (entry_after about news) listed

-- one entry more of those whose news are noted
heard_more : (past : List Entry) (x : Entry) (listed : Listed) →
    heard_with (map (state_after past) listed) (news_of x) ≡ map (state_after (past ++ x ∷ [])) listed
heard_more past x listed =
    heard_each (λ (m : Serial × MsgKind). known_of past m.0) (news_of x) listed
    ∙ map_alike (λ (m : Serial × MsgKind). state_of m (known_after m.0 (known_of past m.0) (news_of x))) (state_after (past ++ x ∷ []))
    (λ m. ap (λ (k : Known). state_of m k) (sym (known_append m.0 past x))) listed

-- the news up to one more
pub heard_next : (es : Entries) (news : List (Serial × News)) (i : ℕ) (d : Serial × News) → i < length news →
    heard_all es (take (i + 1) news) ≡ map (entry_after (get_or news i d).0 (get_or news i d).1) (heard_all es (take i news))
heard_next es news i d below =
    let taken : take (i + 1) news ≡ take i news ++ get_or news i d ∷ [] = rw add-one (take-suc news i d below) in
    ap (λ (ns : List (Serial × News)). heard_all es ns) taken
    ∙ fold_append (λ (before : Entries) (one : Serial × News). map (entry_after one.0 one.1) before) es (take i news) (get_or news i d)

one_heard : (es : Entries) (news : Option (Serial × News)) (rest : List (Serial × News)) →
    heard_all es (cons_option news rest) ≡ heard_all (heard_with es news) rest
one_heard es None rest = refl
one_heard es (Some one) rest = refl

heard_behind : (past xs : List Entry) (listed : Listed) →
    heard_all (map (state_after past) listed) (filter_map news_of xs) ≡ map (state_after (past ++ xs)) listed
heard_behind past [] listed = ap (λ (journal : List Entry). map (state_after journal) listed) (sym (append-nil past))
heard_behind past (x ∷ xs) listed =
    one_heard (map (state_after past) listed) (news_of x) (filter_map news_of xs)
    ∙ ap (λ (es : Entries). heard_all es (filter_map news_of xs)) (heard_more past x listed)
    ∙ heard_behind (past ++ x ∷ []) xs listed
    ∙ ap (λ (journal : List Entry). map (state_after journal) listed) (append_assoc past (x ∷ []) xs)

accepted_listed : (listed : Listed) (accepted : Option Message) →
    accepted_with (map (state_after []) listed) (kind_of accepted) ≡ map (state_after []) (listed_with listed accepted)
accepted_listed listed None = refl
accepted_listed listed (Some m) = accepted_next listed m.serial m.kind

one_news : {X : Type 0} (o : Option X) → option_to_list o ≡ cons_option o []
one_news None = refl
one_news (Some x) = refl

-- one entry more of those that are heard
pub hears : {T E : Type 0} (r : Result T E) (old new : Heard) (past : List Entry) (x : Entry) (accepted : Option (Serial × MsgKind))
    (found : Option (Serial × News)) → accepted ≡ kind_of (accepted_of x) → found ≡ news_of x → HasHeard old past →
    messages_in new.messages ≡ accepted_with (messages_in old.messages) accepted →
    OnOk r (new.news.items ≡ old.news.items ++ option_to_list found) → OnOk r (HasHeard new (past ++ x ∷ []))
hears (Err e) old new past x accepted found is tells h table news = tt
hears (Ok y) old new past x accepted found is tells h table news = record {
  accepted = table ∙ ap (λ (es : Entries). accepted_with es accepted) h.accepted
      ∙ ap (λ (a : Option (Serial × MsgKind)). accepted_with (map (state_after []) (listed past)) a) is
      ∙ accepted_listed (listed past) (accepted_of x)
      ∙ ap (λ (ms : Listed). map (state_after []) ms) (sym (listed_more past x));
  news = news ∙ ap (λ (ns : List (Serial × News)). ns ++ option_to_list found) h.news
      ∙ ap (λ (f : Option (Serial × News)). filter_map news_of past ++ option_to_list f) tells
      ∙ ap (λ (ns : List (Serial × News)). filter_map news_of past ++ ns) (one_news (news_of x))
      ∙ sym (filter_map-append news_of past (x ∷ []));
}

pub heard_none : (heard : Heard) → messages_in heard.messages ≡ [] → heard.news.items ≡ [] → HasHeard heard []
heard_none heard table news = record { accepted = table; news = news }

one_told : (journal : List Entry) (m : Serial × MsgKind) → fate_of_entry (state_after journal m) ≡ record {
  serial = m.0;
  kind = m.1;
  fate = fate_of_accepted journal m.0;
}
one_told journal m = rw (fate_by_first (causes_of journal m.0) (is_unknown journal m.0) (is_run journal m.0)) refl

told_as_known : (journal : List Entry) → map fate_of_entry (map (state_after journal) (listed journal)) ≡ told journal
told_as_known journal =
    map_twice (state_after journal) fate_of_entry (listed journal)
    ∙ map_alike (λ (m : Serial × MsgKind). fate_of_entry (state_after journal m)) _ (one_told journal) (listed journal)

-- what is heard of a journal gives its fates
told_as_heard : (heard : Heard) (journal : List Entry) (table : List (List (ℕ × MessageState))) (news : List (Serial × News)) → HasHeard heard journal →
    news ≡ heard.news.items → messages_in table ≡ heard_all (messages_in heard.messages) news → map fate_of_entry (messages_in table) ≡ told journal
told_as_heard heard journal table news h is all =
    ap (λ (es : Entries). map fate_of_entry es) (all ∙ ap (λ (ns : List (Serial × News)). heard_all (messages_in heard.messages) ns) (is ∙ h.news)
    ∙ ap (λ (es : Entries). heard_all es (filter_map news_of journal)) h.accepted ∙ heard_behind [] journal (listed journal))
    ∙ told_as_known journal

pub told_by : {E : Type 0} (r : Result (Vec MessageFate) E) (heard : Heard) (journal : List Entry) (table : List (List (ℕ × MessageState)))
    (news : List (Serial × News)) → HasHeard heard journal → news ≡ heard.news.items → messages_in table ≡ heard_all (messages_in heard.messages) news →
    IfOk r (λ (fates : Vec MessageFate). fates.items ≡ map fate_of_entry (messages_in table)) →
    IfOk r (λ (fates : Vec MessageFate). fates.items ≡ told journal)
told_by (Ok fates) heard journal table news h is all told = told ∙ told_as_heard heard journal table news h is all
told_by (Err e) heard journal table news h is all told = tt
