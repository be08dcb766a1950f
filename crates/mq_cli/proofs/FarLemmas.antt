-- How far a worker is in its plan, and what it has noted.
use Rattle.std.proofs.Common.{◌≡◌, inl, inr, ℕ, ℤ, ◌+◌, ◌-◌, ◌<◌, ◌≤◌, ◌&&◌, Bool, replicate, Result, Ok, Err, List, [], ◌∷◌, ◌++◌, length, Option, None, Some, refl, rules, sym, ap, ◌∙◌, subst, append_assoc, append-nil, length-append, take, arith}
use Rattle.std.proofs.Math.ListN.{get_or}
use Rattle.std.proofs.lemmas.List.{length-map, map-append, replicate-append-replicate, reverse-append}
use Rattle.std.specs.HashMap.{Updates, get}
use Rattle.std.specs.Prelude.{reverse}
use Rattle.mq_calls.specs.declared.errno.Errno.{Errno}
use Rattle.mq_calls.specs.declared.errno.Errno.TheVariants.{ENOMEM}
use Rattle.mq_cli.specs.declared.threads.notes.Notes.{Notes}
use Rattle.mq_cli.specs.declared.threads.notes.Stream.{Stream}
use Rattle.mq_cli.specs.declared.threads.outcome.Outcome.{Outcome}
use Rattle.mq_cli.specs.declared.threads.plan.Progress.{Progress}
use Rattle.mq_cli.specs.declared.threads.step.Step.{Step}
use Rattle.mq_cli.specs.declared.threads.taken.Taken.{Taken}
use Rattle.mq_cli.specs.Batches.{TakesMany}
use Rattle.mq_cli.specs.Calls.{PortCall, TakenMessage, calls_in, calls_of, message_of, messages_of, receive, same_stream}
use Rattle.mq_cli.specs.Calls.{stream_of}
use Rattle.mq_cli.specs.Plans.{puts_in, puts_of, rises}
use Rattle.mq_cli.specs.Progress.{AreNotes, ComesBy, ComesFurther, HoldSame, NotesAll, NotesTag, outcome_of}
use Rattle.mq_cli.specs.Works.{AreCalled, HasWorked, Puts, Removals, Takes}
use Rattle.mq_cli.proofs.MainLemmas.{taken_from}
use Rattle.mq_cli.proofs.WorkLemmas.{called_then, called_within, calls_in_two, none_called, received_all, received_until}

-- what is reported of a worker is how far it is
module _ (outcome : Outcome) (progress : Progress) (stop : Option Errno) (told : outcome ≡ outcome_of progress stop) where
  pub told_sent : outcome.sent ≡ progress.sent
  told_sent = ap (λ (o : Outcome). o.sent) told

  pub told_received : outcome.received ≡ progress.received
  told_received = ap (λ (o : Outcome). o.received) told

  pub told_end : outcome.end ≡ stop
  told_end = ap (λ (o : Outcome). o.end) told

-- one message more is noted
pub noted_more : (eq : Stream → Stream → Bool) → ((a b : Stream) → eq a b ≡ same_stream a b) → (so_far : List TakenMessage) (one : TakenMessage) (old new : Notes)
    → AreNotes eq so_far old → new.ordered ≡ (old.ordered && rises (get eq old.last (stream_of one)) one.taken.tag)
    → Updates eq old.last new.last (stream_of one) (Some one.taken.tag) → AreNotes eq (so_far ++ one ∷ []) new
noted_more eq same so_far one old new notes ordered updates =
    let back : reverse (so_far ++ one ∷ []) ≡ one ∷ reverse so_far = reverse-append so_far (one ∷ []) in
    record {
      last = λ q.
          let here = updates.0 q in
          let test = same (stream_of one) q in
          let before = notes.last q in
          rw back (rw (← test, ← before) here);
      ordered =
          let all = notes.ordered in
          let last = notes.last (stream_of one) in
          rw back (rw (← all, ← last) ordered);
    }

-- the next of the messages that were received is noted
pub noted_next : (eq : Stream → Stream → Bool) → ((a b : Stream) → eq a b ≡ same_stream a b) → (id : ℕ) (came : List Taken) (k : ℕ) (d : Taken) (start old new : Notes)
    → k < length came → NotesTag eq old new (stream_of (record { id = id; taken = get_or came k d })) (get_or came k d).tag
    → NotesAll eq start old (messages_of id (take k came)) → NotesAll eq start new (messages_of id (take (k + 1) came))
noted_next eq same id came k d start old new within tag noted =
    let one : TakenMessage = record { id = id; taken = get_or came k d } in
    let before : List TakenMessage = messages_of id (take k came) in
    let more : messages_of id (take (k + 1) came) ≡ before ++ one ∷ [] =
    ap (messages_of id) (taken_from came k d within) ∙ map-append (message_of id) (take k came) (get_or came k d ∷ []) in
    λ so_far had.
    rw more
    (subst (λ (l : List TakenMessage). AreNotes eq l new) (append_assoc so_far before (one ∷ []))
    (noted_more eq same (so_far ++ before) one old new (noted so_far had) tag.ordered tag.last))

-- notes that hold the same
pub noted_same : (eq : Stream → Stream → Bool) (so_far : List TakenMessage) (old new : Notes) → ((stream : Stream) → get eq new.last stream ≡ get eq old.last stream)
    → new.ordered ≡ old.ordered → AreNotes eq so_far old → AreNotes eq so_far new
noted_same eq so_far old new last ordered notes = record { last = λ q. last q ∙ notes.last q; ordered = ordered ∙ notes.ordered }

-- and then noted more
pub noted_all : (eq : Stream → Stream → Bool) (old mid new : Notes) (received : List TakenMessage) → HoldSame eq old mid → NotesAll eq mid new received → NotesAll eq old new received
noted_all eq old mid new received same noted =
    λ so_far had. noted so_far (noted_same eq so_far old mid same.last same.ordered had)

-- what a worker has done, where it has done these steps
pub record IsFar {Q : Type 0} (eq : Stream → Stream → Bool) (puts : Puts Q) (takes : Takes Q) (removes : Removals Q) (plan : List Step) (old : Q) (progress : Progress)
    (new : Q) : Type 0 where
  pub received : List TakenMessage
  pub called : AreCalled puts takes removes (calls_in 0 plan) old progress.sent received None new
  pub count : progress.received ≡ length received
  pub notes : AreNotes eq received progress.notes

module _ {Q : Type 0} (eq : Stream → Stream → Bool) (puts : Puts Q) (takes : Takes Q) (removes : Removals Q) where
  -- messages were sent, and nothing else was done
  pub goes_sending : (calls : List PortCall) (old new : Q) (before after : Progress) (k : ℕ) (end : Option Errno) → after.sent ≡ before.sent + k
      → after.received ≡ before.received → after.notes ≡ before.notes → AreCalled puts takes removes calls old k [] end new
      → ComesFurther eq puts takes removes calls old new before after end
  goes_sending calls old new before after k end sent received notes it = record {
    sent = k;
    received = [];
    called = it;
    sent_is = sent;
    received_is = omega (arith, received);
    noted = λ so_far had. rw (append-nil so_far, notes) had;
  }

  -- nothing was done by a call that sends and receives nothing
  pub goes_nowhere : (calls : List PortCall) (old new : Q) (before : Progress) (end : Option Errno) → AreCalled puts takes removes calls old 0 [] end new
      → ComesFurther eq puts takes removes calls old new before before end
  goes_nowhere calls old new before end it =
      goes_sending calls old new before before 0 end (omega arith) refl refl it

  -- messages were received, and nothing else was done
  pub goes_receiving : (calls : List PortCall) (old new : Q) (before after : Progress) (received : List TakenMessage) (end : Option Errno) → after.sent ≡ before.sent
      → after.received ≡ before.received + length received → AreCalled puts takes removes calls old 0 received end new
      → ((so_far : List TakenMessage) → AreNotes eq so_far before.notes → AreNotes eq (so_far ++ received) after.notes)
      → ComesFurther eq puts takes removes calls old new before after end
  goes_receiving calls old new before after received end sent count it noted = record {
    sent = 0;
    received = received;
    called = it;
    sent_is = omega (arith, sent);
    received_is = count;
    noted = noted;
  }

  -- more calls behind others
  pub further_then : (a b : List PortCall) (old mid new : Q) (before between after : Progress) (end : Option Errno) → ComesFurther eq puts takes removes a old mid before between None
      → ComesFurther eq puts takes removes b mid new between after end → ComesFurther eq puts takes removes (a ++ b) old new before after end
  further_then a b old mid new before between after end one two = record {
    sent = one.sent + two.sent;
    received = one.received ++ two.received;
    called = called_then puts takes removes a b old mid new one.sent two.sent one.received two.received end one.called two.called;
    sent_is = omega (arith, one.sent_is, two.sent_is);
    received_is = omega (arith, one.received_is, two.received_is, length-append one.received two.received);
    noted = λ so_far had.
        subst (λ (l : List TakenMessage). AreNotes eq l after.notes) (append_assoc so_far one.received two.received)
        (two.noted (so_far ++ one.received) (one.noted so_far had));
  }

  -- calls of which one was refused, before more calls
  further_within : (calls more : List PortCall) (old new : Q) (before after : Progress) (errno : Errno) → ComesFurther eq puts takes removes calls old new before after (Some errno)
      → ComesFurther eq puts takes removes (calls ++ more) old new before after (Some errno)
  further_within calls more old new before after errno it = record {
    sent = it.sent;
    received = it.received;
    called = called_within puts takes removes calls more old new it.sent it.received errno it.called;
    sent_is = it.sent_is;
    received_is = it.received_is;
    noted = it.noted;
  }

  -- so many calls more, all of them or up to a refusal
  pub further_more : (call : PortCall) (k n : ℕ) (old mid new : Q) (before between after : Progress) → ComesFurther eq puts takes removes (replicate k call) old mid before between None
      → ComesFurther eq puts takes removes (replicate n call) mid new between after None → ComesFurther eq puts takes removes (replicate (k + n) call) old new before after None
  further_more call k n old mid new before between after one two =
      subst (λ (calls : List PortCall). ComesFurther eq puts takes removes calls old new before after None) (replicate-append-replicate k n call)
      (further_then (replicate k call) (replicate n call) old mid new before between after None one two)

  pub further_until : (call : PortCall) (k n count : ℕ) (old mid new : Q) (before between after : Progress) (errno : Errno) → k + n ≤ count
      → ComesFurther eq puts takes removes (replicate k call) old mid before between None → ComesFurther eq puts takes removes (replicate n call) mid new between after (Some errno)
      → ComesFurther eq puts takes removes (replicate count call) old new before after (Some errno)
  further_until call k n count old mid new before between after errno within one two =
      let rest : List PortCall = replicate (count - (k + n)) call in
      let here = further_then (replicate k call) (replicate n call) old mid new before between after (Some errno) one two in
      let number : k + n + (count - (k + n)) ≡ count = omega arith in
      subst (λ (calls : List PortCall). ComesFurther eq puts takes removes calls old new before after (Some errno))
      (ap (λ (calls : List PortCall). calls ++ rest) (replicate-append-replicate k n call) ∙ replicate-append-replicate (k + n) (count - (k + n)) call
      ∙ ap (λ (c : ℕ). replicate c call) number)
      (further_within (replicate k call ++ replicate n call) rest old new before after errno here)

  -- no call was made, since there was no memory for what it receives
  pub comes_not : (id : ℕ) (msgtyp : ℤ) (ends : Bool) (moment n : ℕ) (old : Q) (before after : Progress) (errno : Errno) → errno ≡ ENOMEM → 0 < n → after.came.items ≡ []
      → after.sent ≡ before.sent → after.received ≡ before.received → HoldSame eq before.notes after.notes
      → ComesBy eq puts takes removes (receive id msgtyp ends moment) n old old before after (Err errno)
  comes_not id msgtyp ends moment n old before after errno is some none sent received same =
      let call = receive id msgtyp ends moment in
      let length_is : length after.came.items ≡ 0 = rw none refl in
      let count : after.received ≡ before.received + length after.came.items = omega (arith, received, length_is) in
      record {
        count = omega (arith, length_is, some);
        sent = sent;
        received = count;
        called =
            goes_receiving (replicate n call) old old before after [] (Some errno) sent (omega (arith, received))
            (received_until puts takes removes id msgtyp 0 n ends moment errno [] old old old some (none_called puts takes removes old) (inr (is, refl)))
            (λ so_far had. rw (append-nil so_far) (noted_same eq so_far before.notes after.notes same.last same.ordered had));
      }

  -- a call was made that received these
  pub comes_by : (id : ℕ) (msgtyp : ℤ) (ends : Bool) (moment n : ℕ) (old new : Q) (before after : Progress) (result : Result (Unit {0}) Errno)
      → TakesMany takes id msgtyp ends moment n old after.came.items result new → after.sent ≡ before.sent → after.received ≡ before.received + length after.came.items
      → NotesAll eq before.notes after.notes (messages_of id after.came.items)
      → ComesBy eq puts takes removes (receive id msgtyp ends moment) n old new before after result
  comes_by id msgtyp ends moment n old new before after (Ok _) did sent received noted =
      let call = receive id msgtyp ends moment in
      let came = after.came.items in
      let count : after.received ≡ before.received + length (messages_of id came) = received ∙ ap (λ (n : ℕ). before.received + n) (sym (length-map came (message_of id))) in
      let called = received_all puts takes removes id msgtyp ends moment came old did.mid did.turns in
      record {
        count = did.count;
        sent = sent;
        received = received;
        called =
            goes_receiving (replicate (length came) call) old new before after (messages_of id came) None sent count
            (subst (λ (q : Q). AreCalled puts takes removes (replicate (length came) call) old 0 (messages_of id came) None q) (sym did.ended) called) noted;
      }
  comes_by id msgtyp ends moment n old new before after (Err errno) did sent received noted =
      let call = receive id msgtyp ends moment in
      let came = after.came.items in
      let count : after.received ≡ before.received + length (messages_of id came) = received ∙ ap (λ (n : ℕ). before.received + n) (sym (length-map came (message_of id))) in
      let called = received_all puts takes removes id msgtyp ends moment came old did.mid did.turns in
      record {
        count = did.count;
        sent = sent;
        received = received;
        called =
            goes_receiving (replicate n call) old new before after (messages_of id came) (Some errno) sent count
            (received_until puts takes removes id msgtyp (length came) n ends moment errno (messages_of id came) old did.mid new did.count called (inl did.ended)) noted;
      }

  -- the calls of some steps and of one more
  more_calls : (plan rest : List Step) (step : Step) (sent : ℕ) → sent ≡ puts_in plan
      → calls_in 0 (plan ++ step ∷ rest) ≡ calls_in 0 plan ++ (calls_of sent step ++ calls_in (sent + puts_of step) rest)
  more_calls plan rest step sent is =
      let none : 0 + puts_in plan ≡ puts_in plan = omega arith in
      calls_in_two 0 plan (step ∷ rest) ∙ ap (λ (s : ℕ). calls_in 0 plan ++ (calls_of s step ++ calls_in (s + puts_of step) rest)) (none ∙ sym is)

  -- one step more
  pub far_more : (plan : List Step) (step : Step) (old mid new : Q) (before after : Progress) → IsFar eq puts takes removes plan old before mid → before.sent ≡ puts_in plan
      → ComesFurther eq puts takes removes (calls_of before.sent step) mid new before after None → IsFar eq puts takes removes (plan ++ step ∷ []) old after new
  far_more plan step old mid new before after far is on =
      let all = called_then puts takes removes (calls_in 0 plan) (calls_of before.sent step) old mid new before.sent on.sent far.received on.received None far.called on.called in
      let calls : calls_in 0 plan ++ calls_of before.sent step ≡ calls_in 0 (plan ++ step ∷ []) =
      ap (λ (l : List PortCall). calls_in 0 plan ++ l) (sym (append-nil (calls_of before.sent step))) ∙ sym (more_calls plan [] step before.sent is) in
      record {
        received = far.received ++ on.received;
        called = rw (on.sent_is, ← calls) all;
        count = omega (arith, far.count, on.received_is, length-append far.received on.received);
        notes = on.noted far.received far.notes;
      }

  -- a step at which the plan ended
  pub far_until : (plan rest all : List Step) (step : Step) (errno : Errno) (old mid new : Q) (before after : Progress) (outcome : Outcome)
      → all ≡ plan ++ step ∷ rest → IsFar eq puts takes removes plan old before mid → before.sent ≡ puts_in plan
      → ComesFurther eq puts takes removes (calls_of before.sent step) mid new before after
      (Some errno)
      → outcome ≡ outcome_of after (Some errno) → HasWorked puts takes removes all outcome old new
  far_until plan rest all step errno old mid new before after outcome cut far is on told =
      let some = called_then puts takes removes (calls_in 0 plan) (calls_of before.sent step) old mid new before.sent on.sent far.received on.received (Some errno) far.called on.called in
      let within = called_within puts takes removes (calls_in 0 plan ++ calls_of before.sent step) (calls_in (before.sent + puts_of step) rest) old new (before.sent + on.sent)
      (far.received ++ on.received) errno some in
      let calls : (calls_in 0 plan ++ calls_of before.sent step) ++ calls_in (before.sent + puts_of step) rest ≡ calls_in 0 all =
      append_assoc (calls_in 0 plan) (calls_of before.sent step) (calls_in (before.sent + puts_of step) rest)
      ∙ sym (more_calls plan rest step before.sent is) ∙ ap (calls_in 0) (sym cut) in
      let notes = on.noted far.received far.notes in
      rw told (record {
        received = far.received ++ on.received;
        called = rw (on.sent_is, ← calls) within;
        count = omega (arith, far.count, on.received_is, length-append far.received on.received);
        ordered = notes.ordered;
      })

  -- a plan that was done
  pub far_end : (plan : List Step) (old new : Q) (progress : Progress) (outcome : Outcome) → IsFar eq puts takes removes plan old progress new
      → outcome ≡ outcome_of progress None → HasWorked puts takes removes plan outcome old new
  far_end plan old new progress outcome far told =
      rw told (search (rules, far.called, far.count, far.notes.ordered))
