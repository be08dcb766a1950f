-- A queue whose log may be drained: it is kept as one with some whole log is.
use Rattle.std.proofs.Common.{◌≡◌, inl, inr, ℕ, ℤ, pos, ◌+◌, ◌-◌, ◌<◌, ◌≤◌, ◌≤ℤ◌, nat_le, List, [], ◌∷◌, ◌++◌, length, length-append, filter, ◌==◌, not, Some, None, Ok, Err, IfSome, All, Bool, true, false, if◌then◌else◌, int_lt, ◌&&◌, ◌||◌, refl, ap, sym, ◌∙◌, arith, append_assoc, append-nil}
use Rattle.std.specs.Option.{option_map}
use Rattle.std.proofs.lemmas.Bool.{le-ltb}
use Rattle.std.proofs.lemmas.Bool.Decides.{nat_tests}
use Rattle.std.proofs.lemmas.Grind.{fold-append}
use Rattle.std.proofs.lemmas.List.Sums.{sum_by_push}
use Rattle.mq_message.specs.declared.message.Message.{Message}
use Rattle.mq_message.specs.declared.header.Header.{Header}
use Rattle.mq_message.specs.declared.selection.Selection.{Selection}
use Rattle.mq_message.specs.Selection.{pick}
use Rattle.mq_message.specs.Waiting.{header_of, headers_of, message_at, without}
use Rattle.mq_queue.specs.declared.base.Base.{Base}
use Rattle.mq_queue.specs.declared.error.QueueError.TheVariants.{Full, TooBig}
use Rattle.mq_queue.specs.declared.event.Event.{Event}
use Rattle.mq_queue.specs.declared.event.Event.TheVariants.{Made, Sent, Received, Changed, Removed}
use Rattle.mq_queue.specs.declared.figures.Figures.{Figures}
use Rattle.mq_queue.specs.declared.limits.TheConstants.{MAX_CUT, MSGMAX, MSGMNB}
use Rattle.mq_queue.specs.Answer.{receive_answer, send_refusal}
use Rattle.mq_queue.specs.Base.{base_after, base_of, figures_from, quota_from, waiting_from}
use Rattle.mq_queue.specs.Lawful.{CanHappen}
use Rattle.mq_queue.specs.LawfulFrom.{LawfulFrom}
use Rattle.mq_queue.specs.Figures.{live_figures, no_figures}
use Rattle.mq_queue.specs.Log.{is_made, is_removed}
use Rattle.mq_queue.specs.Queue.{IsKeptQueue, IsSoundFrom}
use Rattle.mq_queue.specs.Replay.{after_event}
use Rattle.mq_queue.specs.Room.{bytes_waiting, has_room, quota}
use Rattle.mq_queue.specs.Waiting.{waiting}
use Rattle.mq_queue.proofs.Bases.{goes_on, quota_on, removed-append}
use Rattle.mq_queue.proofs.Found.{IsTaken, headers_without, picked_header, taken_left}
use Rattle.mq_queue.proofs.Sends.{map_push, not_refused}
use Rattle.mq_queue.proofs.Sound.{figures_after, figures_more, lawful_more, messages_within, sound_more}
use Rattle.mq_queue.proofs.Steps.{state_of}

-- a kept queue is sound from its base
pub sound_kept : {B : Type 0} (bytes : B → List ℕ) (base : Base) (tail : List Event) (messages : List (ℕ × Message B)) (kept : Figures) → IsKeptQueue bytes base tail messages kept → IsSoundFrom bytes base tail messages
sound_kept bytes base tail messages kept k =
    let on = goes_on k.cut tail k.opened in
    rw k.known (record {
      lawful = on.lawful k.sound.lawful;
      live = sym (removed-append k.cut tail k.opened.live) ∙ k.sound.live;
      waits = k.sound.waits ∙ on.waits;
    })

-- the figures that are kept are those that are shown
pub shown_kept : {B : Type 0} (bytes : B → List ℕ) (base : Base) (tail : List Event) (messages : List (ℕ × Message B)) (kept : Figures) → IsKeptQueue bytes base tail messages kept → figures_from base tail ≡ kept
shown_kept bytes base tail messages kept k =
    rw (k.known, ← (goes_on k.cut tail k.opened).shows, k.sound.live) (sym k.figures.same)

-- the messages are within the whole log
pub messages_below : {B : Type 0} (bytes : B → List ℕ) (base : Base) (tail : List Event) (messages : List (ℕ × Message B)) (kept : Figures) → IsKeptQueue bytes base tail messages kept → All (λ m. m.0 < base.places + length tail) messages
messages_below bytes base tail messages kept k =
    rw (k.known, ← length-append k.cut tail) (messages_within bytes (k.cut ++ tail) messages k.sound)

-- what the kept figures say of the room
room_is : (log : List Event) (kept : Figures) (n : ℕ) → kept ≡ live_figures log → (nat_le (kept.cbytes + n) kept.qbytes && nat_le (kept.qnum + 1) kept.qbytes) ≡ has_room (waiting log) n (quota log)
room_is log kept n same = rw same refl

pub room_shown : {B : Type 0} (bytes : B → List ℕ) (base : Base) (tail : List Event) (messages : List (ℕ × Message B)) (kept : Figures) (n : ℕ) → IsKeptQueue bytes base tail messages kept → (nat_le (kept.cbytes + n) kept.qbytes && nat_le (kept.qnum + 1) kept.qbytes) ≡ has_room (waiting_from base tail) n (quota_from base tail)
room_shown bytes base tail messages kept n k =
    rw (k.known, ← (goes_on k.cut tail k.opened).waits, ← quota_on k.cut tail k.opened.live) (room_is (k.cut ++ tail) kept n k.figures.same)

pub room_from : {B : Type 0} (bytes : B → List ℕ) (base : Base) (tail : List Event) (messages : List (ℕ × Message B)) (kept : Figures) (mtype : ℤ) (n : ℕ) → IsKeptQueue bytes base tail messages kept → None ≡ send_refusal (waiting_from base tail) (quota_from base tail) mtype n → true ≡ (nat_le (kept.cbytes + n) kept.qbytes && nat_le (kept.qnum + 1) kept.qbytes)
room_from bytes base tail messages kept mtype n k free =
    sym (room_shown bytes base tail messages kept n k ∙ (not_refused (waiting_from base tail) (quota_from base tail) mtype n free).2)

-- why a message would be refused where it is neither of no type nor too long
pub full_shown : {B : Type 0} (bytes : B → List ℕ) (base : Base) (tail : List Event) (messages : List (ℕ × Message B)) (kept : Figures) (mtype : ℤ) (n : ℕ) (room : Bool) → IsKeptQueue bytes base tail messages kept → int_lt mtype (pos 1) ≡ false → n ≤ MSGMAX → room ≡ (nat_le (kept.cbytes + n) kept.qbytes && nat_le (kept.qnum + 1) kept.qbytes) → (if room then None else Some Full) ≡ send_refusal (waiting_from base tail) (quota_from base tail) mtype n
full_shown bytes base tail messages kept mtype n room k positive short told =
    rw (positive, le-ltb MSGMAX n short, ← room_shown bytes base tail messages kept n k, ← told) refl

-- a new queue
pub made_kept : {B : Type 0} (bytes : B → List ℕ) (base : Base) (tail : List Event) (messages : List (ℕ × Message B)) (kept : Figures) (seat moment : ℕ) (key : ℤ) → base ≡ base_of [] → tail ≡ Made seat moment key ∷ [] → messages ≡ [] → kept ≡ record { qnum = 0; cbytes = 0; qbytes = MSGMNB; stime = 0; rtime = 0; ctime = moment; lspid = 0; lrpid = 0 } → IsKeptQueue bytes base tail messages kept
made_kept bytes base tail messages kept seat moment key known begun none same = rw (known, begun, none, same) (record {
  cut = [];
  opened = record { lawful = inl refl; live = refl };
  known = refl;
  sound = record {
    lawful = record {
      begun = refl;
      each = (record { made_first = refl; removed_last = refl; allowed = tt }, tt);
    };
    live = refl;
    waits = refl;
  };
  figures = record { same = refl; count = omega arith; bytes = omega arith; limit = omega arith };
  short = omega arith;
})

-- with one event more a queue is kept
kept_more : {B : Type 0} (bytes : B → List ℕ) (base : Base) (tail tail' : List Event) (event : Event) (messages messages' : List (ℕ × Message B)) (kept kept' : Figures) (k : IsKeptQueue bytes base tail messages kept) → tail' ≡ tail ++ event ∷ [] → is_made event ≡ false → is_removed event ≡ false → CanHappen (waiting (k.cut ++ tail)) (quota (k.cut ++ tail)) event → headers_of bytes messages' ≡ (after_event (length (k.cut ++ tail)) (state_of (k.cut ++ tail)) event).headers → kept' ≡ figures_after (k.cut ++ tail) event → kept'.qnum ≤ MSGMNB → kept'.cbytes ≤ MSGMNB → kept'.qbytes ≤ MSGMNB → IsKeptQueue bytes base tail' messages' kept'
kept_more bytes base tail tail' event messages messages' kept kept' k grown later lives allowed waits same count held limit =
    let more : k.cut ++ tail' ≡ (k.cut ++ tail) ++ event ∷ [] = rw (grown, append_assoc) refl in
    record {
      cut = k.cut;
      opened = k.opened;
      known = k.known;
      sound = sound_more bytes (k.cut ++ tail) (k.cut ++ tail') event messages messages' more k.sound later lives allowed waits;
      figures = record {
        same = rw (figures_more (k.cut ++ tail) (k.cut ++ tail') event more k.sound.lawful) same;
        count = count;
        bytes = held;
        limit = limit;
      };
      short = k.short;
    }

-- a message is sent
pub sent_kept : {B : Type 0} (bytes : B → List ℕ) (base : Base) (tail tail' : List Event) (messages messages' : List (ℕ × Message B)) (kept kept' : Figures) (m : Message B) (moment n : ℕ) → IsKeptQueue bytes base tail messages kept → pos 1 ≤ℤ m.mtype → n ≤ MSGMAX → true ≡ (nat_le (kept.cbytes + n) kept.qbytes && nat_le (kept.qnum + 1) kept.qbytes) → n ≡ length (bytes m.body) → tail' ≡ tail ++ Sent m.sender moment m.tag m.mtype n ∷ [] → messages' ≡ messages ++ (base.places + length tail, m) ∷ [] → kept' ≡ record kept { qnum = kept.qnum + 1; cbytes = kept.cbytes + n; stime = moment; lspid = m.sender } → IsKeptQueue bytes base tail' messages' kept'
sent_kept bytes base tail tail' messages messages' kept kept' m moment n k low short room long grown added same =
    let log : List Event = k.cut ++ tail in
    let header : Header = record { place = length log; seat = m.sender; tag = m.tag; mtype = m.mtype; length = n } in
    let places : base.places + length tail ≡ length log = rw (k.known, length-append k.cut tail) refl in
    let allowed : has_room (waiting log) n (quota log) ≡ true = sym (room ∙ room_is log kept n k.figures.same) in
    let waits : headers_of bytes messages' ≡ waiting log ++ header ∷ [] = rw (added, map_push (header_of bytes) messages (base.places + length tail, m), places, ← long, k.sound.waits) refl in
    let shown = ap (λ (f : Figures). record f { qnum = f.qnum + 1; cbytes = f.cbytes + n; stime = moment; lspid = m.sender }) k.figures.same in
    let limit = k.figures.limit in
    rw same (kept_more bytes base tail tail' (Sent m.sender moment m.tag m.mtype n) messages messages' kept _ k grown refl refl (low, short, allowed) waits (rw (length-append (waiting log) (header ∷ []), sum_by_push (λ (m : Header). m.length) (waiting log) header) shown) (grind (arith, nat_tests, room, limit)) (grind (arith, nat_tests, room, limit)) limit)

-- the quota is set
pub changed_kept : {B : Type 0} (bytes : B → List ℕ) (base : Base) (tail tail' : List Event) (messages : List (ℕ × Message B)) (kept kept' : Figures) (seat moment qbytes : ℕ) → IsKeptQueue bytes base tail messages kept → qbytes ≤ MSGMNB → tail' ≡ tail ++ Changed seat moment qbytes ∷ [] → kept' ≡ record kept { qbytes = qbytes; ctime = moment } → IsKeptQueue bytes base tail' messages kept'
changed_kept bytes base tail tail' messages kept kept' seat moment qbytes k limit grown same =
    let shown = ap (λ (f : Figures). record f { qbytes = qbytes; ctime = moment }) k.figures.same in
    rw same (kept_more bytes base tail tail' (Changed seat moment qbytes) messages messages kept _ k grown refl refl limit k.sound.waits shown k.figures.count k.figures.bytes limit)

-- a message is received
pub taken_kept : {B : Type 0} (bytes : B → List ℕ) (base : Base) (tail tail' : List Event) (messages messages' : List (ℕ × Message B)) (kept kept' : Figures) (selection : Selection) (size : ℕ) (noerror : Bool) (m : Header) (seat moment : ℕ) (k : IsKeptQueue bytes base tail messages kept) → IsTaken (k.cut ++ tail) selection size noerror m → tail' ≡ tail ++ Received seat noerror moment m.place selection size ∷ [] → messages' ≡ without m.place messages → kept' ≡ record kept { qnum = kept.qnum - 1; cbytes = kept.cbytes - m.length; rtime = moment; lrpid = seat } → IsKeptQueue bytes base tail' messages' kept'
taken_kept bytes base tail tail' messages messages' kept kept' selection size noerror m seat moment k taken grown left same =
    let log : List Event = k.cut ++ tail in
    let fewer = taken_left log kept selection m k.figures.same taken.picked in
    let rest : List Header = filter (λ x. not (x.place == m.place)) (waiting log) in
    let counted : kept.qnum - 1 ≡ length rest = omega (arith, fewer.0) in
    let added : kept.cbytes - m.length ≡ bytes_waiting rest = omega (arith, fewer.1) in
    let waits : headers_of bytes messages' ≡ rest = rw (left, headers_without bytes messages m.place, k.sound.waits) refl in
    let shown = ap (λ (f : Figures). record f { qnum = length rest; cbytes = bytes_waiting rest; rtime = moment; lrpid = seat }) k.figures.same in
    rw same (kept_more bytes base tail tail' (Received seat noerror moment m.place selection size) messages messages' kept _ k grown refl refl (rw taken.picked (refl, taken.fits)) waits (rw (counted, added) shown) (omega (arith, k.figures.count)) (omega (arith, k.figures.bytes)) k.figures.limit)

-- it is what the receiver gets
pub taken_shown : {B : Type 0} (bytes : B → List ℕ) (base : Base) (tail : List Event) (messages : List (ℕ × Message B)) (kept : Figures) (selection : Selection) (size : ℕ) (noerror : Bool) (m : Header) (k : IsKeptQueue bytes base tail messages kept) → IsTaken (k.cut ++ tail) selection size noerror m → receive_answer (waiting_from base tail) size selection noerror ≡ Ok m
taken_shown bytes base tail messages kept selection size noerror m k taken =
    rw (k.known, ← (goes_on k.cut tail k.opened).waits, taken.picked, taken.fits) refl

-- so is what the waiting list finds, where its size allows it
pub found_shown : {B : Type 0} (bytes : B → List ℕ) (base : Base) (tail : List Event) (messages : List (ℕ × Message B)) (kept : Figures) (size : ℕ) (selection : Selection) (noerror : Bool) (place n : ℕ) → IsKeptQueue bytes base tail messages kept → Some place ≡ option_map (λ m. m.0) (pick (λ m. m.1.mtype) messages selection) → IfSome (message_at place messages) (λ m. n ≡ length (bytes m.body)) → (m : Header) × (receive_answer (waiting_from base tail) size selection noerror ≡ (if noerror || nat_le n size then Ok m else Err TooBig))
found_shown bytes base tail messages kept size selection noerror place n k found long =
    let there = picked_header bytes (k.cut ++ tail) messages selection place n k.sound found long in
    let m : Header = record { place = place; seat = there.0.sender; tag = there.0.tag; mtype = there.0.mtype; length = n } in
    (m, rw (k.known, ← (goes_on k.cut tail k.opened).waits, there.2) refl)

-- the queue is removed
pub removed_lawful : {B : Type 0} (bytes : B → List ℕ) (base : Base) (tail tail' : List Event) (messages : List (ℕ × Message B)) (kept : Figures) (seat moment : ℕ) → IsKeptQueue bytes base tail messages kept → tail' ≡ tail ++ Removed seat moment ∷ [] → LawfulFrom base tail'
removed_lawful bytes base tail tail' messages kept seat moment k grown =
    let more : k.cut ++ tail' ≡ (k.cut ++ tail) ++ Removed seat moment ∷ [] = rw (grown, append_assoc) refl in
    rw k.known ((goes_on k.cut tail' k.opened).lawful (lawful_more (k.cut ++ tail) (k.cut ++ tail') (Removed seat moment) more k.sound.lawful k.sound.live refl tt))

pub none_from : (base : Base) (tail tail' : List Event) (seat moment : ℕ) → tail' ≡ tail ++ Removed seat moment ∷ [] → figures_from base tail' ≡ no_figures
none_from base tail tail' seat moment grown =
    rw (grown, fold-append (λ (_ : Bool) event. is_removed event) false tail (Removed seat moment ∷ [])) refl

-- the log is drained
pub cut_base : {B : Type 0} (bytes : B → List ℕ) (base base' : Base) (tail : List Event) (messages : List (ℕ × Message B)) (kept : Figures) (places : ℕ) (waits : List Header) → base' ≡ record { places = places; figures = kept; waiting = waits } → places ≡ base.places + length tail → waits ≡ headers_of bytes messages → base' ≡ record { places = base.places + length tail; figures = kept; waiting = headers_of bytes messages }
cut_base bytes base base' tail messages kept places waits after counted held = rw (after, counted, held) refl

pub cut_kept : {B : Type 0} (bytes : B → List ℕ) (base base' : Base) (tail tail' : List Event) (messages : List (ℕ × Message B)) (kept : Figures) → IsKeptQueue bytes base tail messages kept → base' ≡ record { places = base.places + length tail; figures = kept; waiting = headers_of bytes messages } → base.places + length tail ≤ MAX_CUT → tail' ≡ [] → IsKeptQueue bytes base' tail' messages kept
cut_kept bytes base base' tail tail' messages kept k after short none =
    let whole : List Event = k.cut ++ tail in
    let places : base.places + length tail ≡ length whole = rw (k.known, length-append k.cut tail) refl in
    let held : base'.places ≡ base.places + length tail = rw after refl in
    rw none (record {
      cut = whole;
      opened = record { lawful = inr k.sound.lawful; live = k.sound.live };
      known = rw (after, places, k.sound.waits, k.sound.live, ← k.figures.same) refl;
      sound = rw append-nil k.sound;
      figures = rw append-nil k.figures;
      short = omega (arith, held, short);
    })

pub cut_known : {B : Type 0} (bytes : B → List ℕ) (base base' : Base) (tail : List Event) (messages : List (ℕ × Message B)) (kept : Figures) → IsKeptQueue bytes base tail messages kept → base' ≡ record { places = base.places + length tail; figures = kept; waiting = headers_of bytes messages } → base' ≡ base_after base tail
cut_known bytes base base' tail messages kept k after =
    rw (after, shown_kept bytes base tail messages kept k, (sound_kept bytes base tail messages kept k).waits) refl
