-- The picture of a message is of the entries that touch it.
use Rattle.std.proofs.Common.{◌≡◌, ◌⊎◌, inl, inr, ℕ, ◌+◌, Bool, true, false, ◌||◌, cond, List, [], ◌∷◌, Option, Some, None, filter, map, length, refl, sym, ap}
use Rattle.std.proofs.Common.{◌∙◌, subst, arith, take_all}
use Rattle.std.specs.List.{AllByRecursion}
use Rattle.am_lab_reasons.specs.Touches.{is_reply, names, touches}
use Rattle.am_lemmas.specs.Numbered.{numbered}
use Rattle.am_names.specs.Names.{same_serial}
use Rattle.am_names.specs.declared.Message.{Message}
use Rattle.am_names.specs.declared.Serial.{Serial}
use Rattle.am_office_entries.specs.Entries.{given_up_in, is_serial, received_about}
use Rattle.am_office_entries.specs.declared.Call.TheVariants as Calls
use Rattle.am_office_entries.specs.declared.Entry.{Entry}
use Rattle.am_office_entries.specs.declared.Event.{Event}
use Rattle.am_office_entries.specs.declared.Event.TheVariants as Events
use Rattle.am_office_entries.specs.declared.Outcome.{Outcome}
use Rattle.am_office_entries.specs.declared.Outcome.TheVariants as Out
use Rattle.am_lab_picture.specs.Abouts.{about_by, reply_by, sent_serial}
use Rattle.am_lab_picture.specs.Arrows.{arrows, crosses}
use Rattle.am_lab_picture.specs.Laws.{IsArrow, IsCross, IsPlaced}
use Rattle.am_lab_picture.specs.Messages.{is_crossed, is_named, is_touching, leads, touching}
use Rattle.am_lab_picture.specs.Rows.{entries_in, named_by, placed_rows, row, row_in}
use Rattle.am_lab_picture.specs.declared.data.PlacedRow.{PlacedRow}
use Rattle.am_lab_picture.proofs.Shown.{arrows_join, crosses_stand, rows_stand}
use Rattle.am_lab_drawings.specs.View.Laws.{MessagePicturesAreOfMessages}
use Rattle.am_lab_drawings.specs.View.Parts.{all_lines}

-- ---- a row touches a message where its entry does

-- only what is done gives up a message
gives_up_done : (event : Event) (o : Outcome) → (given_up_in event o ≡ None) ⊎ (o ≡ Out.Done)
gives_up_done (Events.Call actor end (Calls.GiveUp serial)) Out.Done = inr refl
gives_up_done event o = inl refl

module _ (journal : List Entry) (s : Serial) where
  named_is : (o : Option Serial) → is_named s (named_by journal o) ≡ is_serial s o
  named_is None = refl
  named_is (Some t) = refl

  no_more : (b : Bool) → (b || false) ≡ b
  no_more true = refl
  no_more false = refl

  -- an outcome that names no message
  only_given : (g : Option Serial) → (is_named s (named_by journal g) || false) ≡ is_serial s g
  only_given g = no_more (is_named s (named_by journal g)) ∙ named_is g

  reply_is : (m : Message) (sends : Option Message) →
      (same_serial s m.serial || is_named s (named_by journal (sent_serial sends))) ≡ ((same_serial s m.serial || is_reply s sends) || false)
  reply_is m None = sym (no_more (same_serial s m.serial || false))
  reply_is m (Some r) = sym (no_more (same_serial s m.serial || same_serial s r.serial))

  received_is : (o : Option Serial) → (is_named s (named_by journal o) || false) ≡ (is_serial s o || false)
  received_is o = ap (λ (b : Bool). b || false) (named_is o)

  -- of an outcome that gives nothing up
  none_given : (o : Outcome) → (is_named s (named_by journal (about_by None o)) || is_named s (named_by journal (reply_by o))) ≡ (names s o || false)
  none_given Out.Silent = refl
  none_given Out.Done = refl
  none_given (Out.Requested m) = refl
  none_given (Out.Refused refusal) = refl
  none_given (Out.Zero t why) = refl
  none_given (Out.Ran handler m sends) = reply_is m sends
  none_given Out.Blocked = refl
  none_given Out.Empty = refl
  none_given Out.Ready = refl
  none_given Out.Quiet = refl
  none_given Out.Failed = refl
  none_given (Out.Accepted m) = refl
  none_given (Out.Requeued m cause used) = refl
  none_given (Out.Returned m cause) = refl
  none_given (Out.Sent m peer channel seq attempt number) = refl
  none_given (Out.Delivered t) = refl
  none_given (Out.Unknown t) = refl
  none_given (Out.Received channel seq attempt result) = received_is (received_about result)

  by_given : (o : Outcome) (g : Option Serial) → (g ≡ None) ⊎ (o ≡ Out.Done) →
      (is_named s (named_by journal (about_by g o)) || is_named s (named_by journal (reply_by o))) ≡ (names s o || is_serial s g)
  by_given o g (inl none) =
      subst (λ (h : Option Serial). (is_named s (named_by journal (about_by h o)) || is_named s (named_by journal (reply_by o))) ≡ (names s o || is_serial s h))
      (sym none) (none_given o)
  by_given o g (inr done) =
      subst (λ (p : Outcome). (is_named s (named_by journal (about_by g p)) || is_named s (named_by journal (reply_by p))) ≡ (names s p || is_serial s g))
      (sym done) (only_given g)

  touches_same : (x : Entry) → is_touching s (row journal x) ≡ touches s x
  touches_same x = by_given x.outcome (given_up_in x.event x.outcome) (gives_up_done x.event x.outcome)

  kept_entries : (b c : Bool) (r : PlacedRow) (x : Entry) (rows : List PlacedRow) (xs : List Entry) → b ≡ c → r.row.entry ≡ x →
      map (λ (placed : PlacedRow). placed.row.entry) rows ≡ xs →
      map (λ (placed : PlacedRow). placed.row.entry) (cond b (r ∷ rows) rows) ≡ cond c (x ∷ xs) xs
  kept_entries true c r x rows xs e f g = rw (sym e, f, g) refl
  kept_entries false c r x rows xs e f g = rw (sym e, g) refl

  entries_touch : (line : ℕ) (xs : List Entry) →
      map (λ (placed : PlacedRow). placed.row.entry) (touching s (numbered (row_in journal) line xs)) ≡ filter (touches s) xs
  entries_touch line [] = refl
  entries_touch line (x ∷ xs) =
      kept_entries (is_touching s (row journal x)) (touches s x) (record { line = line; row = row journal x }) x
      (touching s (numbered (row_in journal) (line + 1) xs)) (filter (touches s) xs) (touches_same x) refl (entries_touch (line + 1) xs)

-- ---- what is kept of a list

all_if : {X : Type 0} (P : X → Type 0) (b : Bool) (x : X) (xs : List X) → P x → AllByRecursion P xs → AllByRecursion P (cond b (x ∷ xs) xs)
all_if P true x xs h all = (h, all)
all_if P false x xs h all = all

all_kept : {X : Type 0} (P : X → Type 0) (p : X → Bool) (xs : List X) → AllByRecursion P xs → AllByRecursion P (filter p xs)
all_kept P p [] all = tt
all_kept P p (x ∷ xs) all = all_if P (p x) x (filter p xs) all.0 (all_kept P p xs all.1)

-- ---- the picture

pub message_pictures_are : MessagePicturesAreOfMessages
message_pictures_are s journal serial =
    let lines = all_lines journal in
    let rows = touching serial (placed_rows lines journal) in
    record {
      entries = entries_touch journal serial 3 (entries_in lines journal) ∙ ap (filter (touches serial)) (take_all (length journal) journal (omega arith));
      rows' = all_kept (IsPlaced journal) (λ (placed : PlacedRow). is_touching serial placed.row) (placed_rows lines journal)
          (rows_stand lines journal (omega arith));
      arrows' = all_kept (IsArrow journal) (leads rows) (arrows lines journal) (arrows_join lines journal);
      crosses' = all_kept (IsCross journal) (is_crossed rows) (crosses lines journal) (crosses_stand lines journal (omega arith));
    }
