use Rattle.std.proofs.Common.{◌≡◌, ℕ, ◌-◌, List, ◌∷◌, [], ◌++◌, ◌∙◌, arith, rules, ap, length, length-append, map, take}
use Rattle.mq_system.specs.Seat.{SeatState, counted_by}
use Rattle.mq_system.proofs.CountLemmas.{one_seat_more}
use Rattle.mq_system.specs.Closed.{known_by}
use Rattle.mq_system.proofs.HomeLemmas.{all_apart, is_known, none_apart, one_apart}
use Rattle.mq_system.proofs.TallyLemmas.{counted_more}
use Rattle.mq_system.proofs.close.gather.Goals as goal

pub loop-seat-preserved : goal.loop-seat-preserved
loop-seat-preserved g c =
    let slots = g.N.Names.slots in
    let kept = c.loop-seat.invariant in
    let left = c.pop.new.self.items in
    let seat = c.in-Some.seat in
    let items = c.in-Some.ensures.items in
    let ended = c.end.ensures in
    let pushed = c.push_reserved.ensures in (
      omega (arith, ap length items, length-append left (seat ∷ []), ended.parts, kept.0),
      omega (arith, ap counted_by items, counted_more left seat, one_seat_more slots left seat items, ended.left, kept.1),
      one_apart slots c.args.seats.items c.loop-seat.seats.items left seat c.loop-seat.fronts.items c.push_reserved.new.self.items kept.2 items
          (pushed.items ∙ ap (λ f. c.loop-seat.fronts.items ++ f ∷ []) (is_known c.end.result seat ended.place ended.fronts))
          (record { each = c.holds.ensures.each; fronts = c.holds.ensures.fronts; known = c.holds.ensures.known }),
      omega (arith, ap length items, length-append left (seat ∷ []), ap length pushed.items, length-append c.loop-seat.fronts.items (known_by seat ∷ []), kept.3),
      omega (arith, pushed.capacity, kept.4),
    )

pub loop-seat-init : goal.loop-seat-init
loop-seat-init g c = (
  omega arith,
  omega arith,
  none_apart g.N.Names.slots c.args.seats.items c.args.fronts.now.items c.requires.none,
  omega (arith, c.requires.none),
  omega (arith, c.requires.room),
)

pub returns-clause-fronts : goal.returns-clause-fronts
returns-clause-fronts g c =
    let last = c.in_default.ensures.rest
    ∙ ap (λ (n : ℕ). take (n - 1) c.loop-seat.seats.items) c.in_default.ensures.cases.0 in
    let none : c.loop-seat.seats.items ≡ [] =
    c.in_default.ensures.items ∙ ap (λ (rest : List SeatState). rest ++ []) last in
    let told : c.reverse.new.self.items ≡ map known_by c.args.seats.items =
    c.reverse.ensures.items ∙ (all_apart g.N.Names.slots c.args.seats.items c.loop-seat.seats.items c.loop-seat.fronts.items c.loop-seat.invariant.2 none).0 in
    search (rules, told)

pub returns-clause-recorded : goal.returns-clause-recorded
returns-clause-recorded g c =
    let last = c.in_default.ensures.rest
    ∙ ap (λ (n : ℕ). take (n - 1) c.loop-seat.seats.items) c.in_default.ensures.cases.0 in
    let none : c.loop-seat.seats.items ≡ [] =
    c.in_default.ensures.items ∙ ap (λ (rest : List SeatState). rest ++ []) last in
    (all_apart g.N.Names.slots c.args.seats.items c.loop-seat.seats.items c.loop-seat.fronts.items c.loop-seat.invariant.2 none).1
