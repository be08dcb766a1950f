-- The calls of a plan, one after the other.
use Rattle.std.proofs.Common.{◌≡◌, ℕ, ℤ, Bool, ◌+◌, ◌-◌, ◌<◌, zero, suc, List, [], ◌∷◌, ◌++◌, length, map, replicate, cond, Option, None, Some, Ok, Err, refl, rules, sym, ap, ◌∙◌, subst, append_assoc, append-nil, arith}
use Rattle.std.proofs.lemmas.List.{replicate-append-replicate}
use Rattle.std.proofs.lemmas.List.FromFn.{map-range_with_len_more}
use Rattle.std.proofs.lemmas.List.Sums.{sum_by-append}
use Rattle.std.specs.List.{FoldsTo, range_with_len}
use Rattle.std.specs.Prelude.{count_by}
use Rattle.mq_calls.specs.declared.errno.Errno.{Errno}
use Rattle.mq_cli.specs.declared.threads.step.Step.{Step}
use Rattle.mq_cli.specs.declared.threads.taken.Taken.{Taken}
use Rattle.mq_cli.specs.Batches.{TakesNext}
use Rattle.mq_cli.specs.Calls.{PortCall, TakenMessage, send, receive, calls_in, calls_of, is_send, messages_of, sends_after}
use Rattle.mq_cli.specs.Plans.{puts_in, puts_of}
use Rattle.mq_cli.specs.Works.{AllSucceed, AreCalled, Ends, Fails, Puts, Removals, Succeeds, Takes}
use Rattle.mq_cli.proofs.LettersLemmas.{in_two}

-- how many of two sequences of calls send
sends_counted : (a b : List PortCall) → count_by is_send (a ++ b) ≡ count_by is_send a + count_by is_send b
sends_counted a b = sum_by-append (λ c. cond (is_send c) 1 0) a b

module _ {Q : Type 0} (puts : Puts Q) (takes : Takes Q) (removes : Removals Q) where
  -- calls behind others
  all_then : (first rest : List PortCall) (old mid new : Q) (a b : List TakenMessage) → AllSucceed puts takes removes first old a mid
      → AllSucceed puts takes removes rest mid b new → AllSucceed puts takes removes (first ++ rest) old (a ++ b) new
  all_then [] rest old mid new a b done more =
      let from : AllSucceed puts takes removes rest old b new = subst (λ (q : Q). AllSucceed puts takes removes rest q b new) done.1 more in
      subst (λ (l : List TakenMessage). AllSucceed puts takes removes rest old (l ++ b) new) (sym done.0) from
  all_then (call ∷ first) rest old mid new a b done more = (
    done.0,
    done.1 ++ b,
    done.2,
    ap (λ (l : List TakenMessage). l ++ b) done.3 ∙ append_assoc done.0 done.1 b,
    done.4,
    all_then first rest done.2 mid new done.1 b done.5 more,
  )

  none_left : (rest : List PortCall) (mid new : Q) → Ends puts takes removes rest mid None new → (rest ≡ []) × (new ≡ mid)
  none_left [] mid new ended = (refl, ended)
  none_left (call ∷ rest) mid new ended = absurd ended

  refused_before : (rest more : List PortCall) (mid new : Q) (errno : Errno) → Ends puts takes removes rest mid (Some errno) new
      → Ends puts takes removes (rest ++ more) mid (Some errno) new
  refused_before [] more mid new errno ended = absurd ended
  refused_before (call ∷ rest) more mid new errno ended = ended

  -- no call
  pub none_called : (q : Q) → AreCalled puts takes removes [] q 0 [] None q
  none_called q = record { first = []; rest = []; mid = q; cut = refl; made = (refl, refl); sent_is = refl; ended = refl }

  -- calls that were made behind calls that all succeeded
  pub called_then : (first rest : List PortCall) (old mid new : Q) (s t : ℕ) (a b : List TakenMessage) (end : Option Errno)
      → AreCalled puts takes removes first old s a None mid → AreCalled puts takes removes rest mid t b end new
      → AreCalled puts takes removes (first ++ rest) old (s + t) (a ++ b) end new
  called_then first rest old mid new s t a b end one two =
      let left = none_left one.rest one.mid mid one.ended in
      let whole : first ≡ one.first = one.cut ∙ ap (λ (l : List PortCall). one.first ++ l) left.0 ∙ append-nil one.first in
      let more : AllSucceed puts takes removes two.first one.mid b two.mid = subst (λ (q : Q). AllSucceed puts takes removes two.first q b two.mid) left.1 two.made in
      let sent : s + t ≡ count_by is_send (one.first ++ two.first) = omega (arith, one.sent_is, two.sent_is, sends_counted one.first two.first) in
      record {
        first = one.first ++ two.first;
        rest = two.rest;
        mid = two.mid;
        cut = ap (λ (l : List PortCall). l ++ rest) whole ∙ ap (λ (l : List PortCall). one.first ++ l) two.cut ∙ sym (append_assoc one.first two.first two.rest);
        made = all_then one.first two.first old one.mid two.mid a b one.made more;
        sent_is = sent;
        ended = two.ended;
      }

  -- calls of which one was refused, before more calls
  pub called_within : (calls more : List PortCall) (old new : Q) (sent : ℕ) (received : List TakenMessage) (errno : Errno)
      → AreCalled puts takes removes calls old sent received (Some errno) new → AreCalled puts takes removes (calls ++ more) old sent received (Some errno) new
  called_within calls more old new sent received errno it =
      let cut = ap (λ (l : List PortCall). l ++ more) it.cut ∙ append_assoc it.first it.rest more in
      let ended = refused_before it.rest more it.mid new errno it.ended in
      search (rules, cut, it.made, it.sent_is, ended)

  -- one call, which succeeded
  pub called_one : (call : PortCall) (old new : Q) (sent : ℕ) (received : List TakenMessage) → sent ≡ count_by is_send (call ∷ [])
      → Succeeds puts takes removes call old received new → AreCalled puts takes removes (call ∷ []) old sent received None new
  called_one call old new sent received counted done = record {
    first = call ∷ [];
    rest = [];
    mid = new;
    cut = refl;
    made = (received, [], new, sym (append-nil received), done, (refl, refl));
    sent_is = counted;
    ended = refl;
  }

  -- one call, which was refused
  pub called_refused : (call : PortCall) (old new : Q) (errno : Errno) → Fails puts takes removes call old errno new
      → AreCalled puts takes removes (call ∷ []) old 0 [] (Some errno) new
  called_refused call old new errno failed = record {
    first = [];
    rest = call ∷ [];
    mid = old;
    cut = refl;
    made = (refl, refl);
    sent_is = refl;
    ended = failed;
  }

  -- one message more was sent
  pub sent_more : (before id : ℕ) (mtype : ℤ) (k n : ℕ) (ends : Bool) (moment tag entry : ℕ) (old mid new : Q) → before + 1 + k ≡ tag
      → AreCalled puts takes removes (sends_after before id mtype k n ends moment) old k [] None mid → puts mid id mtype tag n ends moment (Ok entry) new
      → AreCalled puts takes removes (sends_after before id mtype (k + 1) n ends moment) old (k + 1) [] None new
  sent_more before id mtype k n ends moment tag entry old mid new next so done =
      let call = send id mtype tag n ends moment in
      let more = map-range_with_len_more (λ t. send id mtype t n ends moment) (before + 1) k tag next in
      rw more (called_then (sends_after before id mtype k n ends moment) (call ∷ []) old mid new k 1 [] [] None so
      (called_one call mid new 1 [] refl (refl, (entry, done))))

  -- the next message was refused
  pub sent_until : (before id : ℕ) (mtype : ℤ) (k count n : ℕ) (ends : Bool) (moment tag : ℕ) (errno : Errno) (old mid new : Q) → before + 1 + k ≡ tag → k < count
      → AreCalled puts takes removes (sends_after before id mtype k n ends moment) old k [] None mid → puts mid id mtype tag n ends moment (Err errno) new
      → AreCalled puts takes removes (sends_after before id mtype count n ends moment) old k [] (Some errno) new
  sent_until before id mtype k count n ends moment tag errno old mid new next within so failed =
      let f : ℕ → PortCall = λ t. send id mtype t n ends moment in
      let call = send id mtype tag n ends moment in
      let left = count - (k + 1) in
      let rest = map f (range_with_len (before + 1 + k + 1) left) in
      let here = called_then (sends_after before id mtype k n ends moment) (call ∷ []) old mid new k 0 [] [] (Some errno) so
      (called_refused call mid new errno failed) in
      let all = called_within (sends_after before id mtype k n ends moment ++ call ∷ []) rest old new (k + 0) ([] ++ []) errno here in
      let number : k + suc left ≡ count = omega arith in
      let none : k + 0 ≡ k = omega arith in
      let first : map f (range_with_len (before + 1) k) ++ f (before + 1 + k) ∷ rest ≡ sends_after before id mtype count n ends moment =
      sym (in_two f (before + 1) k (suc left)) ∙ ap (λ (c : ℕ). map f (range_with_len (before + 1) c)) number in
      let same : (sends_after before id mtype k n ends moment ++ call ∷ []) ++ rest ≡ sends_after before id mtype count n ends moment =
      append_assoc (sends_after before id mtype k n ends moment) (call ∷ []) rest
      ∙ ap (λ (t : ℕ). sends_after before id mtype k n ends moment ++ f t ∷ rest) (sym next) ∙ first in
      rw (← same) (rw none at all)

  none_sends : (id : ℕ) (msgtyp : ℤ) (ends : Bool) (moment k : ℕ) → count_by is_send (replicate k (receive id msgtyp ends moment)) ≡ 0
  none_sends id msgtyp ends moment zero = refl
  none_sends id msgtyp ends moment (suc k) =
      let rest = none_sends id msgtyp ends moment k in
      omega (arith, rest)

  -- messages that were received one after another
  all_taken : (id : ℕ) (msgtyp : ℤ) (ends : Bool) (moment : ℕ) (taken : List Taken) (old new : Q) → FoldsTo (TakesNext takes id msgtyp ends moment) old taken new
      → AllSucceed puts takes removes (replicate (length taken) (receive id msgtyp ends moment)) old (messages_of id taken) new
  all_taken id msgtyp ends moment [] old new is = (refl, sym is)
  all_taken id msgtyp ends moment (one ∷ taken) old new turns =
      let first : TakenMessage = record { id = id; taken = one } in
      (first ∷ [], messages_of id taken, turns.0, refl, (one, refl, turns.1), all_taken id msgtyp ends moment taken turns.0 new turns.2)

  pub received_all : (id : ℕ) (msgtyp : ℤ) (ends : Bool) (moment : ℕ) (taken : List Taken) (old new : Q) → FoldsTo (TakesNext takes id msgtyp ends moment) old taken new
      → AreCalled puts takes removes (replicate (length taken) (receive id msgtyp ends moment)) old 0 (messages_of id taken) None new
  received_all id msgtyp ends moment taken old new turns =
      let call = receive id msgtyp ends moment in
      record {
        first = replicate (length taken) call;
        rest = [];
        mid = new;
        cut = sym (append-nil (replicate (length taken) call));
        made = all_taken id msgtyp ends moment taken old new turns;
        sent_is = sym (none_sends id msgtyp ends moment (length taken));
        ended = refl;
      }

  -- the next message was not
  pub received_until : (id : ℕ) (msgtyp : ℤ) (k count : ℕ) (ends : Bool) (moment : ℕ) (errno : Errno) (received : List TakenMessage) (old mid new : Q) → k < count
      → AreCalled puts takes removes (replicate k (receive id msgtyp ends moment)) old 0 received None mid
      → Fails puts takes removes (receive id msgtyp ends moment) mid errno new
      → AreCalled puts takes removes (replicate count (receive id msgtyp ends moment)) old 0 received (Some errno) new
  received_until id msgtyp k count ends moment errno received old mid new within so failed =
      let call = receive id msgtyp ends moment in
      let left = count - (k + 1) in
      let rest : List PortCall = replicate left call in
      let here = called_then (replicate k call) (call ∷ []) old mid new 0 0 received [] (Some errno) so (called_refused call mid new errno failed) in
      let all = called_within (replicate k call ++ call ∷ []) rest old new 0 (received ++ []) errno here in
      let number : k + suc left ≡ count = omega arith in
      let same : (replicate k call ++ call ∷ []) ++ rest ≡ replicate count call =
      append_assoc (replicate k call) (call ∷ []) rest ∙ replicate-append-replicate k (suc left) call ∙ ap (λ (c : ℕ). replicate c call) number in
      rw (← same) (rw (append-nil received) at all)

-- the calls of a plan in two parts
pub calls_in_two : (sent : ℕ) (first rest : List Step) → calls_in sent (first ++ rest) ≡ calls_in sent first ++ calls_in (sent + puts_in first) rest
calls_in_two sent [] rest =
    let none : sent + 0 ≡ sent = omega arith in
    rw none refl
calls_in_two sent (step ∷ first) rest =
    let front : puts_in (step ∷ first) ≡ puts_in (step ∷ []) + puts_in first = sum_by-append puts_of (step ∷ []) first in
    let sum : sent + puts_of step + puts_in first ≡ sent + puts_in (step ∷ first) = omega (arith, front) in
    ap (λ (l : List PortCall). calls_of sent step ++ l) (calls_in_two (sent + puts_of step) first rest ∙ ap (λ (s : ℕ). calls_in (sent + puts_of step) first ++ calls_in s rest) sum)
    ∙ sym (append_assoc (calls_of sent step) (calls_in (sent + puts_of step) first) (calls_in (sent + puts_in (step ∷ first)) rest))
