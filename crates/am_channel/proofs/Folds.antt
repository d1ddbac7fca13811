-- The ends of every channel after a list of calls.
use Rattle.std.proofs.Common.{◌≡◌, Bool, true, false, List, [], ◌∷◌, ◌++◌, refl, sym, ◌∙◌, subst, true≢false, append_assoc, if◌then◌else◌}
use Rattle.std.proofs.lemmas.List.{append-nil}
use Rattle.am_office_entries.specs.declared.Entry.{Entry}
use Rattle.am_model.specs.Channels.{Channel, same_channel}
use Rattle.am_model.proofs.Names.{same_channel-refl}
use Rattle.am_channel.specs.declared.ends.Ends.{Ends}
use Rattle.am_channel.specs.Ends.{new_ends}
use Rattle.am_channel.specs.Calls.{TellsCall, after}
use Rattle.am_channel.specs.Counted.{AreCounted}
use Rattle.am_channel.specs.Folded.{Told, AreMade, changed, ends_after, entries_of}
use Rattle.am_channel.proofs.Pushes.{call_counted}
use Rattle.am_channel.proofs.Apart.{call_apart, same_channel-is}

pub new_counted : (c : Channel) → AreCounted c [] new_ends
new_counted c = record { seq = refl; bound = refl; attempt = tt; mark = refl }

abbrev AllCounted : List Entry → (Channel → Ends) → Type 0
AllCounted log ends = (c : Channel) → AreCounted c log (ends c)

one_more : (log : List Entry) (ends : Channel → Ends) (t : Told) → AllCounted log ends → TellsCall t.channel (ends t.channel) t.call t.entry →
    AllCounted (log ++ t.entry ∷ []) (changed ends t)
one_more log ends t are tells c = by_test (same_channel c t.channel.node t.channel.peer t.channel.number) refl
  where
    by_test : (b : Bool) → same_channel c t.channel.node t.channel.peer t.channel.number ≡ b →
        AreCounted c (log ++ t.entry ∷ []) (if b then after (ends c) t.call else ends c)
    by_test true is =
        let here : t.channel ≡ c = same_channel-is c t.channel is in
        call_counted c log (ends c) t.call t.entry (are c) (subst (λ (d : Channel). TellsCall d (ends d) t.call t.entry) here tells)
    by_test false is =
        call_apart c t.channel log (ends c) (ends t.channel) t.call t.entry (are c) tells
        (λ here. true≢false (sym (subst (λ (d : Channel). same_channel c d.node d.peer d.number ≡ true) (sym here) (same_channel-refl c)) ∙ is))

counted_from : (log : List Entry) (ends : Channel → Ends) (told : List Told) → AllCounted log ends → AreMade ends told →
    AllCounted (log ++ entries_of told) (ends_after ends told)
counted_from log ends [] are made c = subst (λ (xs : List Entry). AreCounted c xs (ends c)) (sym (append-nil log)) (are c)
counted_from log ends (t ∷ told) are made c =
    subst (λ (xs : List Entry). AreCounted c xs (ends_after (changed ends t) told c))
    (append_assoc log (t.entry ∷ []) (entries_of told))
    (counted_from (log ++ t.entry ∷ []) (changed ends t) told (one_more log ends t are made.1) made.2 c)

pub calls_counted : (told : List Told) → AreMade (λ _. new_ends) told → (c : Channel) → AreCounted c (entries_of told) (ends_after (λ _. new_ends) told c)
calls_counted told made c = counted_from [] (λ _. new_ends) told new_counted made c
