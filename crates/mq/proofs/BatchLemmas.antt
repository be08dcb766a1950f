-- Values in the place of the texts that were sent and received.
use Rattle.std.proofs.Common.{◌≡◌, inl, inr, ℕ, suc, ◌+◌, ◌≤◌, ◌<◌, ◌||◌, nat_lt, Bool, true, false, min, List, [], ◌∷◌, ◌++◌, length, map, Option, None, Result, Ok, Err, refl, sym, ap, subst, ◌∙◌, append_assoc, arith, length-append, ℤ}
use Rattle.std.specs.Prelude.{All, MatchResult}
use Rattle.std.specs.List.{AllZip, FoldsTo}
use Rattle.std.proofs.lemmas.List.{append-nil, length-take}
use Rattle.std.proofs.lemmas.List.Elements.{All-cons}
use Rattle.mq_arena.specs.Text.{PlainText}
use Rattle.mq_message.specs.declared.selection.Selection.{Selection}
use Rattle.mq_table.specs.Ids.{seq_of, slot_of}
use Rattle.mq_calls.specs.declared.errno.Errno.{Errno}
use Rattle.mq_calls.specs.declared.errno.Errno.TheVariants.{E2BIG, EAGAIN, EEXIST, EIDRM, EINVAL, ENOENT, ENOMEM, ENOMSG, ENOSPC, EPERM}
use Rattle.mq_calls.specs.declared.results.Delivered.{Delivered}
use Rattle.mq_calls.specs.declared.results.Refused.{Refused}
use Rattle.mq_system.proofs.LaterLemmas.{look_self}
use Rattle.mq_system.specs.Outcome.{IsNotReceived, IsNotSent, IsTurnedAway}
use Rattle.mq_system.specs.Pledge.{Pledged}
use Rattle.mq_system.specs.Refusals.{MayNotDraft, MaySend, Refuses, never_sent}
use Rattle.mq_system.specs.Seat.{SeatState, front_of}
use Rattle.mq_system.specs.Seen.{send_verdict}
use Rattle.mq_system.specs.SeenMany.{AreSent, IsFirstEntry, IsFirstNotSent, IsNextReceived, IsNextSent}
use Rattle.mq_system.specs.declared.many.Letter.{Letter}
use Rattle.mq_system.specs.declared.many.TheConstants.{MAX_BATCH}
use Rattle.mq.specs.Batches.{AreReceivedTexts}
use Rattle.mq.specs.Caller.{IsNotSentFrom, with_bytes}
use Rattle.mq.specs.ValueBatches.{AreDrafted, AreValuesRead, AreValuesSent, HasNoText, IsDraftOf, IsFirstValueNotSent, IsFirstWithNoText, IsReadable, IsValueOf, letter_of_value, text_of_value, texts_of}
use Rattle.mq.specs.Values.{IsNotMade}

module _ {A B : Type 0} (R : A → B → Type 0) where
  -- a list beside two lists, one behind the other, has two parts
  pub parted : (xs ys : List A) (zs : List B) → AllZip R (xs ++ ys) zs
      → (us : List B) × (vs : List B) × (zs ≡ us ++ vs) × AllZip R xs us × AllZip R ys vs
  parted [] ys zs h = ([], zs, refl, tt, h)
  parted (x ∷ xs) ys [] h = absurd h
  parted (x ∷ xs) ys (z ∷ zs) h =
      let rest = parted xs ys zs h.1 in
      (z ∷ rest.0, rest.1, ap (λ t. z ∷ t) rest.2, (h.0, rest.3), rest.4)

  pub as_long : (xs : List A) (zs : List B) → AllZip R xs zs → length xs ≡ length zs
  as_long [] [] h = refl
  as_long [] (z ∷ zs) h = absurd h
  as_long (x ∷ xs) [] h = absurd h
  as_long (x ∷ xs) (z ∷ zs) h = ap suc (as_long xs zs h.1)

module _ {V : Type 0} (bytes_of : V → List ℕ) (slots id : ℕ) where
  one_sent : (moment : ℕ) (old new : SeatState) (l : Letter PlainText) (v : Letter V)
      → IsDraftOf bytes_of l v → IsNextSent slots id moment old l new
      → IsNextSent slots id moment old (letter_of_value bytes_of v) new
  one_sent moment old new l v is told = record {
    entry = told.entry;
    sent = rw (sym is.mtype, sym is.tag, sym is.bytes) told.sent;
    next = told.next;
  }

  -- the values of letters that were sent one after another were
  pub sent_values : (moment : ℕ) (now new : SeatState) (ls : List (Letter PlainText)) (vs : List (Letter V))
      → AllZip (IsDraftOf bytes_of) ls vs → FoldsTo (IsNextSent slots id moment) now ls new
      → FoldsTo (IsNextSent slots id moment) now (map (letter_of_value bytes_of) vs) new
  sent_values moment now new [] [] h t = t
  sent_values moment now new [] (v ∷ vs) h t = absurd h
  sent_values moment now new (l ∷ ls) [] h t = absurd h
  sent_values moment now new (l ∷ ls) (v ∷ vs) h t =
      (t.0, one_sent moment now t.0 l v h.0 t.1, sent_values moment t.0 new ls vs h.1 t.2)

  first_entry : (next : ℕ) (ls : List (Letter PlainText)) (vs : List (Letter V)) (first : Option ℕ)
      → AllZip (IsDraftOf bytes_of) ls vs → IsFirstEntry next ls first
      → IsFirstEntry next (map (letter_of_value bytes_of) vs) first
  first_entry next [] [] first h is = is
  first_entry next [] (v ∷ vs) first h is = absurd h
  first_entry next (l ∷ ls) [] first h is = absurd h
  first_entry next (l ∷ ls) (v ∷ vs) first h is = is

  allowed : (nowait early : Bool) (r : Refused) → Refuses early (MaySend nowait) r → MaySend nowait r.errno
  allowed nowait true r is = rw is tt
  allowed nowait false r is = is.1

  -- a letter that was refused is a value that was
  pub turned_away : (height : ℕ) (nowait : Bool) (seat : SeatState) (l : Letter PlainText) (v : Letter V) (r : Refused)
      → IsDraftOf bytes_of l v → IsNotSent slots id l.mtype (length l.text.bytes) nowait seat seat r
      → IsNotSentFrom (IsNotMade nowait height (length (bytes_of v.text)) seat seat) slots id v.mtype
      (length (bytes_of v.text)) nowait seat seat r.errno
  turned_away height nowait seat l v r is told = rw (sym is.mtype, sym is.bytes) (record {
    allowed = allowed nowait (never_sent slots id l.mtype) r told.refuses;
    look = told.look;
    why = inr (record { entry = r.entry; turned = told });
  })

  pub first_turned_away : (height : ℕ) (nowait : Bool) (seat : SeatState) (left : List (Letter PlainText))
      (vs more : List (Letter V)) (r : Refused) → AllZip (IsDraftOf bytes_of) left vs
      → IsFirstNotSent slots id nowait seat left r
      → IsFirstValueNotSent bytes_of slots height id nowait seat (vs ++ more) r
  first_turned_away height nowait seat [] vs more r h told = absurd (cc told.is)
  first_turned_away height nowait seat (l ∷ ls) [] more r h told = absurd h
  first_turned_away height nowait seat (l ∷ ls) (v ∷ vs) more r h told =
      let same : told.first ≡ l = cc told.is in record {
        first = v;
        others = vs ++ more;
        is = refl;
        refused = turned_away height nowait seat l v r h.0 (rw (sym same) told.refused);
      }

  may_send : (n : ℕ) (nowait : Bool) (errno : Errno) → MayNotDraft n errno → MaySend nowait errno
  may_send n nowait EINVAL may = tt
  may_send n nowait ENOMEM may = tt
  may_send n nowait EIDRM may = absurd may
  may_send n nowait EEXIST may = absurd may
  may_send n nowait ENOENT may = absurd may
  may_send n nowait ENOSPC may = absurd may
  may_send n nowait EPERM may = absurd may
  may_send n nowait EAGAIN may = absurd may
  may_send n nowait ENOMSG may = absurd may
  may_send n nowait E2BIG may = absurd may

  -- a value that has no text is refused as a call of its own would be, whatever its seat knows
  pub unsent : (height : ℕ) (nowait : Bool) (seat : SeatState) (v : Letter V) (errno : Errno)
      → HasNoText bytes_of slots height id nowait v errno
      → IsNotSentFrom (IsNotMade nowait height (length (bytes_of v.text)) seat seat) slots id v.mtype
      (length (bytes_of v.text)) nowait seat seat errno
  unsent height nowait seat v errno (inl p) =
      let early : Refused = record { errno = EINVAL; entry = None } in
      let turned : (b : Bool) → b ≡ true
      → IsTurnedAway b (MaySend nowait) (slot_of id) (send_verdict (seq_of id) v.mtype (length (bytes_of v.text)))
      seat seat early =
      λ b is. rw is (record { look = look_self seat; refuses = refl; decided = tt }) in
      rw p.0 (record {
        allowed = tt;
        look = look_self seat;
        why = inr (record { entry = None; turned = turned (never_sent slots id v.mtype) p.1 });
      })
  unsent height nowait seat v errno (inr (inl is)) = rw is (record {
    allowed = tt;
    look = look_self seat;
    why = inl (inl (refl, refl));
  })
  unsent height nowait seat v errno (inr (inr p)) = record {
    allowed = may_send (length (bytes_of v.text)) nowait errno p.0;
    look = look_self seat;
    why = inl (inr ((p.0, refl), p.1));
  }

  first_unsent : (height : ℕ) (nowait : Bool) (seat : SeatState) (left : List (Letter V)) (r : Refused)
      → IsFirstWithNoText bytes_of slots height id nowait left r
      → IsFirstValueNotSent bytes_of slots height id nowait seat left r
  first_unsent height nowait seat left r told = record {
    first = told.first;
    others = told.others;
    is = told.is;
    refused = unsent height nowait seat told.first r.errno told.why;
  }

  -- values of which none has a text, since memory ran out
  pub none_sent : (height moment : ℕ) (nowait : Bool) (seat : SeatState) (values : List (Letter V))
      → 0 < length values
      → AreValuesSent bytes_of slots height id nowait moment seat seat values
      (record { count = 0; first = None; ended = Err (record { errno = ENOMEM; entry = None }) })
  none_sent height moment nowait seat [] some = absurd (omega (arith, some))
  none_sent height moment nowait seat (v ∷ vs) some = record {
    now = seat;
    look = look_self seat;
    sent = [];
    left = v ∷ vs;
    split = refl;
    count = refl;
    entry = refl;
    turns = refl;
    all = omega arith;
    refused = record {
      first = v;
      others = vs;
      is = refl;
      refused = unsent height (nowait || nat_lt 0 0) seat v ENOMEM (inr (inl refl));
    };
  }

  none_left : (xs ys : List (Letter PlainText)) → length (xs ++ ys) ≡ length xs → ys ≡ []
  none_left xs [] is = refl
  none_left xs (y ∷ ys) is = absurd (omega (arith, is, length-append xs (y ∷ ys)))

  -- all that were drafted were sent: what ended the drafts ended the call
  pub all_sent : (height moment : ℕ) (nowait : Bool) (old new : SeatState) (values : List (Letter V))
      (drafts left : List (Letter PlainText)) (first : Option ℕ) (ended : Result (Unit {0}) Refused)
      (count : ℕ)
      → AreDrafted bytes_of slots height id nowait values drafts ended
      → AreSent slots id nowait moment MAX_BATCH old new drafts left first (Ok tt)
      → count + length left ≡ length drafts
      → AreValuesSent bytes_of slots height id nowait moment old new values
      (record { count = count; first = first; ended = ended })
  all_sent height moment nowait old new values drafts left first ended count d s counted =
      let whole : length s.sent ≡ length drafts =
      omega (arith, s.all, d.within) in
      let long : length drafts ≡ length (s.sent ++ left) = ap length s.split in
      let none : left ≡ [] = none_left s.sent left (omega (arith, whole, long)) in
      let same : drafts ≡ s.sent = s.split ∙ ap (λ t. s.sent ++ t) none ∙ append-nil s.sent in
      let each : AllZip (IsDraftOf bytes_of) s.sent d.made =
      subst (λ t. AllZip (IsDraftOf bytes_of) t d.made) same d.each in
      let n : length drafts ≡ length d.made = as_long (IsDraftOf bytes_of) drafts d.made d.each in record {
        now = s.now;
        look = s.look;
        sent = d.made;
        left = d.left;
        split = d.split;
        count = omega (arith, counted, ap length none, n);
        entry = first_entry (length (front_of s.now (slot_of id))) s.sent d.made first each s.entry;
        turns = sent_values moment s.now new s.sent d.made each s.turns;
        all = by_end ended n d.all;
        refused = by_refusal ended n d.refused;
      }
    where
      by_end : (ended : Result (Unit {0}) Refused) → length drafts ≡ length d.made
          → MatchResult ended (λ _. length drafts ≡ min (length values) MAX_BATCH) (λ _. length drafts < MAX_BATCH)
          → MatchResult ended (λ _. length d.made ≡ min (length values) MAX_BATCH) (λ _. length d.made < MAX_BATCH)
      by_end (Ok _) n is = sym n ∙ is
      by_end (Err r) n is = omega (arith, n, is)

      by_refusal : (ended : Result (Unit {0}) Refused) → length drafts ≡ length d.made
          → MatchResult ended (λ _. Unit {0}) (IsFirstWithNoText bytes_of slots height id (nowait || nat_lt 0 (length drafts)) d.left)
          → MatchResult ended (λ _. Unit {0}) (IsFirstValueNotSent bytes_of slots height id (nowait || nat_lt 0 (length d.made)) new d.left)
      by_refusal (Ok _) n is = tt
      by_refusal (Err r) n is = first_unsent height (nowait || nat_lt 0 (length d.made)) new d.left r
          (subst (λ k. IsFirstWithNoText bytes_of slots height id (nowait || nat_lt 0 k) d.left r) n is)

  -- a letter was refused: it and those behind it, and the values that had no text, are left
  pub some_sent : (height moment : ℕ) (nowait : Bool) (old new : SeatState) (values : List (Letter V))
      (drafts left : List (Letter PlainText)) (first : Option ℕ) (ended : Result (Unit {0}) Refused)
      (r : Refused) (count : ℕ)
      → AreDrafted bytes_of slots height id nowait values drafts ended
      → AreSent slots id nowait moment MAX_BATCH old new drafts left first (Err r)
      → count + length left ≡ length drafts
      → AreValuesSent bytes_of slots height id nowait moment old new values
      (record { count = count; first = first; ended = Err r })
  some_sent height moment nowait old new values drafts left first ended r count d s counted =
      let parts = parted (IsDraftOf bytes_of) s.sent left d.made
      (subst (λ t. AllZip (IsDraftOf bytes_of) t d.made) s.split d.each) in
      let n : length s.sent ≡ length parts.0 = as_long (IsDraftOf bytes_of) s.sent parts.0 parts.3 in record {
        now = s.now;
        look = s.look;
        sent = parts.0;
        left = parts.1 ++ d.left;
        split = d.split ∙ ap (λ t. t ++ d.left) parts.2 ∙ append_assoc parts.0 parts.1 d.left;
        count = omega (arith, counted, ap length s.split, length-append s.sent left, n);
        entry = first_entry (length (front_of s.now (slot_of id))) s.sent parts.0 first parts.3 s.entry;
        turns = sent_values moment s.now new s.sent parts.0 parts.3 s.turns;
        all = omega (arith, n, s.all);
        refused = first_turned_away height (nowait || nat_lt 0 (length parts.0)) new left parts.1 d.left r parts.4
            (subst (λ k. IsFirstNotSent slots id (nowait || nat_lt 0 k) new left r) n s.refused);
      }

module _ {V : Type 0} (bytes_of : V → List ℕ) (vowed : ℕ → ℕ → ℤ → V → Type 0) where
  -- what is vowed of each value that was read
  pub all_vowed : (ds : List (Delivered PlainText)) (vs : List (Delivered V))
      → AllZip (IsValueOf bytes_of vowed) ds vs → All (λ d. vowed d.sender d.tag d.mtype d.text) vs
  all_vowed [] [] h = λ k d less. absurd (omega (arith, less))
  all_vowed [] (v ∷ vs) h = absurd h
  all_vowed (d ∷ ds) [] h = absurd h
  all_vowed (d ∷ ds) (v ∷ vs) h = All-cons (λ d. vowed d.sender d.tag d.mtype d.text) v vs h.0.vow (all_vowed ds vs h.1)

  same_text : (d : Delivered PlainText) (v : Delivered V) → IsValueOf bytes_of vowed d v
      → text_of_value bytes_of v ≡ with_bytes d d.text.bytes
  same_text d v is = rw (is.entry, is.mtype, is.sender, is.tag, is.long, is.bytes) refl

  none_of : (read unread : List (Delivered PlainText)) (vs : List (Delivered V)) → read ++ unread ≡ []
      → AllZip (IsValueOf bytes_of vowed) read vs → texts_of bytes_of vs unread ≡ []
  none_of [] unread [] is h = is
  none_of [] unread (v ∷ vs) is h = absurd h
  none_of (d ∷ ds) unread vs is h = absurd (cc is)

  as_many : (read unread : List (Delivered PlainText)) (vs : List (Delivered V))
      → AllZip (IsValueOf bytes_of vowed) read vs
      → length (read ++ unread) ≡ length (texts_of bytes_of vs unread)
  as_many [] unread [] h = refl
  as_many [] unread (v ∷ vs) h = absurd h
  as_many (d ∷ ds) unread [] h = absurd h
  as_many (d ∷ ds) unread (v ∷ vs) h = ap suc (as_many ds unread vs h.1)

  module _ (kept : Pledged) (slots id size : ℕ) (selection : Selection) (moment : ℕ) where
    -- a receipt of a value's text, wherever its bytes lie
    one_received : (old new : SeatState) (d : Delivered PlainText) (v : Delivered V)
        → IsValueOf bytes_of vowed d v → IsNextReceived kept slots id size selection false moment old d new
        → IsNextReceived kept slots id size selection false moment old (text_of_value bytes_of v) new
    one_received old new d v is told =
        let its = told.received in
        let bare : IsNextReceived kept slots id size selection false moment old (with_bytes d d.text.bytes) new = record {
          received = record {
            early = its.early;
            step = its.step;
            receipt = record {
              message = its.receipt.message;
              done = its.receipt.done;
              named = its.receipt.named;
              mtype = its.receipt.mtype;
              sender = its.receipt.sender;
              tag = its.receipt.tag;
              long = its.receipt.long;
            };
            pledge = record {
              whole = its.pledge.whole;
              long = its.pledge.long;
              pledge = its.pledge.pledge;
              cut = its.pledge.cut;
            };
            whole = its.whole;
          };
          next = told.next;
        } in
        subst (λ t. IsNextReceived kept slots id size selection false moment old t new) (sym (same_text d v is)) bare

    received_values : (now new : SeatState) (ds : List (Delivered PlainText)) (vs : List (Delivered V))
        (rest : List (Delivered PlainText)) → AllZip (IsValueOf bytes_of vowed) ds vs
        → FoldsTo (IsNextReceived kept slots id size selection false moment) now (ds ++ rest) new
        → FoldsTo (IsNextReceived kept slots id size selection false moment) now (texts_of bytes_of vs rest) new
    received_values now new [] [] rest h t = t
    received_values now new [] (v ∷ vs) rest h t = absurd h
    received_values now new (d ∷ ds) [] rest h t = absurd h
    received_values now new (d ∷ ds) (v ∷ vs) rest h t =
        (t.0, one_received now t.0 d v h.0 t.1, received_values t.0 new ds vs rest h.1 t.2)

    -- what was received in the form of values, and of the texts behind them
    pub values_received : (nowait : Bool) (n : ℕ) (old new : SeatState) (ds : List (Delivered PlainText))
        (ended : Result (Unit {0}) Refused) (allocates : Bool) (vs : List (Delivered V))
        (unread : List (Delivered PlainText))
        → AreReceivedTexts kept slots id size selection false nowait moment n old new ds ended
        → AreValuesRead bytes_of vowed allocates ds vs unread
        → AreReceivedTexts kept slots id size selection false nowait moment n old new (texts_of bytes_of vs unread) ended
    values_received nowait n old new ds ended allocates vs unread (inl told) r =
        let long : length ds ≡ length (texts_of bytes_of vs unread) =
        ap length r.split ∙ as_many r.read unread vs r.each in
        inl (record {
          now = told.now;
          look = told.look;
          turns = received_values told.now new r.read vs unread r.each
              (subst (λ t. FoldsTo (IsNextReceived kept slots id size selection false moment) told.now t new) r.split told.turns);
          all = subst (λ k. MatchResult ended (λ _. k ≡ n) (λ _. k < n)) long told.all;
          refused = subst (λ k. MatchResult ended (λ _. Unit {0})
              (IsNotReceived slots id size selection false (nowait || nat_lt 0 k) new new)) long told.refused;
        })
    values_received nowait n old new ds ended allocates vs unread (inr told) r = inr (record {
      errno = told.errno;
      ended_is = told.ended_is;
      none = none_of r.read unread vs (sym r.split ∙ told.none) r.each;
      same = told.same;
      why = told.why;
    })

module _ (kept : Pledged) (slots id size : ℕ) (selection : Selection) (moment room : ℕ) where
  readable_turns : (now new : SeatState) (ds : List (Delivered PlainText)) → size ≤ room
      → FoldsTo (IsNextReceived kept slots id size selection false moment) now ds new
      → All (IsReadable kept room) ds
  readable_turns now new [] big t = λ k d less. absurd (omega (arith, less))
  readable_turns now new (d ∷ ds) big t =
      let its = t.1.received in
      let fits : length d.text.bytes ≤ size = rw its.pledge.cut (omega (arith, length-take size its.pledge.whole)) in
      All-cons (IsReadable kept room) d ds (record { fits = omega (arith, fits, big); whole = its.whole refl })
      (readable_turns t.0 new ds big t.2)

  -- texts that were received whole are readable where there is room for the longest
  pub readable : (nowait : Bool) (n : ℕ) (old new : SeatState) (ds : List (Delivered PlainText))
      (ended : Result (Unit {0}) Refused) → size ≤ room
      → AreReceivedTexts kept slots id size selection false nowait moment n old new ds ended
      → All (IsReadable kept room) ds
  readable nowait n old new ds ended big (inl told) = readable_turns told.now new ds big told.turns
  readable nowait n old new ds ended big (inr told) =
      rw told.none (λ k d less. absurd (omega (arith, less)))

-- and where there is more room
pub with_more_room : (kept : Pledged) (room more : ℕ) (ds : List (Delivered PlainText)) → room ≤ more
    → All (IsReadable kept room) ds → All (IsReadable kept more) ds
with_more_room kept room more ds big h k d less =
    let its = h k d less in record { fits = omega (arith, its.fits, big); whole = its.whole }
