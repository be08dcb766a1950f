use Rattle.std.proofs.Common.{◌≡◌, ℕ, suc, ◌-◌, ◌<◌, ◌^◌, ◌∷◌, ◌++◌, List, length, take, drop, ap, arith, rules, sym, subst, ◌∙◌}
use Rattle.std.specs.List.{All}
use Rattle.mq_calls.specs.Closed.{IsClosed}
use Rattle.mq_system.specs.Seat.{SeatState}
use Rattle.mq_system.specs.Closed.{IsEnd}
use Rattle.mq_cli.specs.Threads.{AreClosed, RanParts, main_seat}
use Rattle.mq_cli.specs.ThreadsParsed.{wanted_seen}
use Rattle.mq_cli.proofs.EndLemmas.{RanFrom, first_seat, first_taken, never_begun, run_is}
use Rattle.mq_cli.proofs.threads.run_wanted.Goals as goal

pub returns-in_default : goal.returns-in_default
returns-in_default g c = never_begun c.args.config (wanted_seen c.args.wanted.now) (g.W.Write.contents c.args.writer.now)

pub returns : goal.returns
returns g c =
    let names = c.requires.names in
    let config = c.args.config in
    let wanted = wanted_seen c.args.wanted.now in
    let had = g.W.Write.contents c.args.writer.now in
    let mid = g.W.Write.contents c.run_parts-ran.new.writer in
    let end = g.W.Write.contents c.tell-told.new.writer in
    let has = g.W.Write.contents c.flush.new.writer in
    let main = c.in-Some.main.now in
    let now = c.run_parts-ran.new.main in
    let slots = c.close-slots.result.slots.items in
    let ran = c.run_parts-ran.result in
    let fresh : main ≡ main_seat config = first_seat config g.N.Names.slots _ main c.in-Some.others.now (sym names.slots) (search rules) c.in-Ok.ensures.fresh in
    let Ran : ℕ → ℕ → SeatState → Type 0 = λ s l seat. RanParts s l wanted seat now had mid ran in
    let Closed : ℕ → Type 0 = λ n. All (IsClosed n) slots in
    let some : 0 < c.in-Ok.seats.len = omega (arith, c.in-Ok.ensures.seats, names.seats, c.requires.run.seated) in
    let rest = c.run_parts-ran.new.others ++ drop (suc (length c.run_parts-ran.new.others)) c.in-Ok.seats.items in
    let others = take (c.in-Ok.seats.len - 1) rest in
    let Ends : ℕ → List SeatState → Type 0 = λ n seats. IsEnd n seats slots in
    let ends : Ends g.N.Names.last_seq (now ∷ others) = subst (Ends g.N.Names.last_seq) (first_taken c.in-Ok.seats.len now rest some) c.close-slots.ensures.ends in
    let are : AreClosed config now slots = record {
      count = c.close-slots.ensures.slots ∙ sym names.slots;
      closed = subst Closed (sym names.last_seq) c.close-slots.ensures.closed;
      others = others;
      ends = subst (λ (n : ℕ). Ends n (now ∷ others)) (sym names.last_seq) ends;
    } in
    let paged : c.pages-pages.result ≡ 2 ^ config.height =
    c.pages-pages.ensures ∙ ap (λ (h : ℕ). 2 ^ h) (c.close-slots.ensures.height ∙ sym names.height) in
    let by_slots = subst (λ (s : ℕ). Ran s g.N.Names.last_seq main) (sym names.slots) c.run_parts-ran.ensures.ran in
    let by_seqs = subst (λ (l : ℕ). Ran config.slots l main) (sym names.last_seq) by_slots in
    let begun : RanFrom config wanted now had mid ran = subst (Ran config.slots config.last_seq) fresh by_seqs in
    run_is config wanted now had mid end has ran c.deref.result.now c.pages-pages.result c.free_pages-free.result c.tell-told.result c.flush.result
    begun (subst (AreClosed config now) (sym c.deref.ensures.value) are) paged c.tell-told.ensures c.flush.ensures
