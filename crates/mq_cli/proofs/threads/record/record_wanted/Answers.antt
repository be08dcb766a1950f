use Rattle.std.proofs.Common.{◌≡◌, ℕ, suc, ◌-◌, ◌<◌, ◌∷◌, ◌++◌, List, length, take, drop, arith, rules, sym, subst, ◌∙◌}
use Rattle.std.specs.List.{All}
use Rattle.mq_calls.specs.Closed.{IsClosed}
use Rattle.mq_system.specs.Seat.{SeatState}
use Rattle.mq_system.specs.Closed.{IsEnd}
use Rattle.mq_cli.specs.RecordedThreads.{RecordsParts}
use Rattle.mq_cli.specs.Threads.{AreClosed, main_seat}
use Rattle.mq_cli.specs.ThreadsParsed.{wanted_seen}
use Rattle.mq_cli.proofs.EndLemmas.{first_seat, first_taken}
use Rattle.mq_cli.proofs.RecordThreadsLemmas.{wanted_leaves}
use Rattle.mq_cli.proofs.threads.record.record_wanted.Goals as goal

pub returns : goal.returns
returns g c =
    let names = c.requires.names in
    let config = c.args.config in
    let wanted = wanted_seen c.args.wanted.now in
    let main = c.in-Some.main.now in
    let now = c.record_parts-ran.new.main in
    let slots = c.close-slots.result.slots.items in
    let ran = c.record_parts-ran.result in
    let fresh : main ≡ main_seat config = first_seat config g.N.Names.slots _ main c.in-Some.others.now (sym names.slots) (search rules) c.in-Ok.ensures.fresh in
    let Ran : ℕ → ℕ → SeatState → Type 0 = λ s l seat. RecordsParts s l wanted seat now ran in
    let Closed : ℕ → Type 0 = λ n. All (IsClosed n) slots in
    let some : 0 < c.in-Ok.seats.len = omega (arith, c.in-Ok.ensures.seats, names.seats, c.requires.run.seated) in
    let rest = c.record_parts-ran.new.others ++ drop (suc (length c.record_parts-ran.new.others)) c.in-Ok.seats.items in
    let others = take (c.in-Ok.seats.len - 1) rest in
    let Ends : ℕ → List SeatState → Type 0 = λ n seats. IsEnd n seats slots in
    let ends : Ends g.N.Names.last_seq (now ∷ others) = subst (Ends g.N.Names.last_seq) (first_taken c.in-Ok.seats.len now rest some) c.close-slots.ensures.ends in
    let are : AreClosed config now slots = record {
      count = c.close-slots.ensures.slots ∙ sym names.slots;
      closed = subst Closed (sym names.last_seq) c.close-slots.ensures.closed;
      others = others;
      ends = subst (λ (n : ℕ). Ends n (now ∷ others)) (sym names.last_seq) ends;
    } in
    let by_slots = subst (λ (s : ℕ). Ran s g.N.Names.last_seq main) (sym names.slots) c.record_parts-ran.ensures.ran in
    let by_seqs = subst (λ (l : ℕ). Ran config.slots l main) (sym names.last_seq) by_slots in
    wanted_leaves config wanted now ran c.close-slots.result.slots c.left_of.result (subst (Ran config.slots config.last_seq) fresh by_seqs) are c.left_of.ensures
