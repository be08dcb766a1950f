use Rattle.std.proofs.Common.{◌≡◌, ◌≢◌, ◌∙◌, ℕ, ℤ, List, Some, Result, Ok, Err, OnErr, true, ap, sym, cond, nat_eq, refl, arith}
use Rattle.std.specs.Ordering.{int_eq}
use Rattle.std.specs.Map.{lookup}
use Rattle.std.proofs.lemmas.Bool.{lt-ltb, ltb-true}
use Rattle.std.proofs.lemmas.Int.{to_z-of_z}
use Rattle.std.proofs.lemmas.Option.{same_Some}
use Rattle.mq_select.specs.ByType.{queue_at, queue_of}
use Rattle.mq_select.proofs.Changes.{prepared, same_index}
use Rattle.mq_select.proofs.Merging.{int_eq-here}
use Rattle.mq_select.proofs.by_type.ByTypeWaiting.prepare.Goals as goal

-- the queue that was made
at_type : {X : Type 0} (t : ℤ) (queues made : List (ℤ × List (ℕ × X))) → ((s : ℤ) → queue_at made s ≡ cond (int_eq t s) (Some (queue_of queues s)) (queue_at queues s)) → queue_at made t ≡ Some (queue_of queues t)
at_type t queues made at = rw (int_eq-here t) at (at t)

pub invariant_of-self : goal.invariant_of-self
invariant_of-self g c = (
  same_index _ _ _ _ _ _ _ _ c.self.invariant.0 c.reserve.ensures.unchanged (λ n. refl),
  λ x e. search (arith, c.self.invariant.1 x e, c.reserve.ensures.room),
)

pub invariant_of-self-in_err-reserve-2 : goal.invariant_of-self-in_err-reserve-2
invariant_of-self-in_err-reserve-2 g c = (
  same_index _ _ _ _ _ _ _ _ c.self.invariant.0 c.reserve.ensures.unchanged (λ n. ap (lookup (nat_eq n)) c.reserve-2.ensures.entries),
  λ x e. search (arith, c.self.invariant.1 x e, c.reserve.ensures.room, c.reserve-2.ensures.room.0),
)

pub invariant_of-self-in_err-make : goal.invariant_of-self-in_err-make
invariant_of-self-in_err-make g c = (
  same_index _ _ _ _ _ _ _ _ c.self.invariant.0 c.reserve.ensures.unchanged (λ n. ap (lookup (nat_eq n)) c.reserve-2.ensures.entries),
  λ x e. let r = c.self.invariant.1 x e in let more = c.reserve.ensures.room in let most = c.reserve-2.ensures.room.0 in
      record { queue = r.queue; few = r.few; first = omega (arith, r.first, more); place = omega (arith, r.place, most); node = c.in_err-make.ensures.refused.1 ∙ sym c.in_err-make.ensures.refused.0 ∙ r.node },
)

pub invariant_of-self-2 : goal.invariant_of-self-2
invariant_of-self-2 g c =
    let room = simp (to_z-of_z, c.ranges.mtype) at c.has_room.ensures in
    let has : c.has_room.result ≡ true = rw (c.if-not-has_room.false) refl in
    let made = simp (to_z-of_z, c.ranges.mtype) at c.in_ok-make-2.ensures.ok in
    let there = simp (to_z-of_z, c.ranges.mtype) at c.forget_older.ensures.there in
    let kept = simp (to_z-of_z, c.ranges.mtype) at c.forget_older.ensures.kept in
    let whole = prepared _ _ _ c.make-2.new.queues.entries c.forget_older.new.queues.entries _ _ _ _ _ c.args.mtype c.self.invariant.0 c.forget_older.ensures.ordered made c.forget_older.ensures.same kept c.reserve.ensures.unchanged (λ n. ap (lookup (nat_eq n)) c.reserve-2.ensures.entries) in
    let is = at_type c.args.mtype c.self.inside.queues.entries c.make-2.new.queues.entries made in
    simp (to_z-of_z, c.ranges.mtype) (
      whole.1,
      λ x e. let same : c.args.mtype ≡ x = same_Some _ _ e in
          rw (← same)
          (record {
            queue = rw (there, is) refl;
            few = rw (c.forget_older.ensures.same c.args.mtype, is) (ltb-true _ _ (sym room ∙ has));
            first = c.in_ok-reserve.ensures.ok;
            place = c.in_ok-reserve-2.ensures.ok;
            node = c.in_ok-make.ensures.ok;
          }),
    )

pub returns-clause-prepared : goal.returns-clause-prepared
returns-clause-prepared g c =
    let made = simp (to_z-of_z, c.ranges.mtype) at c.in_ok-make-2.ensures.ok in
    let kept = simp (to_z-of_z, c.ranges.mtype) at c.forget_older.ensures.kept in
    let whole = prepared _ _ _ c.make-2.new.queues.entries c.forget_older.new.queues.entries _ _ _ _ _ c.args.mtype c.self.invariant.0 c.forget_older.ensures.ordered made c.forget_older.ensures.same kept c.reserve.ensures.unchanged (λ n. ap (lookup (nat_eq n)) c.reserve-2.ensures.entries) in
    record { unchanged = rw (← c.self.view_is) whole.0; ok = simp (to_z-of_z, c.ranges.mtype) refl; err = tt }

-- what holds anyway holds of a refusal
on_err : {T E : Type 0} (P : Type 0) (r : Result T E) → P → OnErr r P
on_err P (Ok x) p = tt
on_err P (Err e) p = p

-- a list that is prepared for this type has all that one more message of it needs
pub returns-then-not-has_room-clause-refused : goal.returns-then-not-has_room-clause-refused
returns-then-not-has_room-clause-refused g c e =
    let ready = c.self.invariant.1 c.args.mtype (rw (← c.self.view_is) at e) in
    let room = simp (to_z-of_z, c.ranges.mtype) at c.has_room.ensures in
    cc (lt-ltb _ _ ready.few)

pub returns-in_err-reserve-clause-refused : goal.returns-in_err-reserve-clause-refused
returns-in_err-reserve-clause-refused g c =
    on_err (c.args.self.now.prepared ≢ Some c.args.mtype) c.from_residual.result
    (λ e.
    let ready = c.self.invariant.1 c.args.mtype (rw (← c.self.view_is) at e) in
    omega (arith, ready.first, c.in_err-reserve.ensures.refused))

pub returns-in_err-reserve-2-clause-refused : goal.returns-in_err-reserve-2-clause-refused
returns-in_err-reserve-2-clause-refused g c =
    on_err (c.args.self.now.prepared ≢ Some c.args.mtype) c.from_residual-in_err-reserve-2.result
    (λ e.
    let ready = c.self.invariant.1 c.args.mtype (rw (← c.self.view_is) at e) in
    cc (c.in_err-reserve-2.ensures.succeeds (omega (arith, ready.place))))

pub returns-in_err-make-clause-refused : goal.returns-in_err-make-clause-refused
returns-in_err-make-clause-refused g c =
    on_err (c.args.self.now.prepared ≢ Some c.args.mtype) c.from_residual-in_err-make.result
    (λ e.
    let ready = c.self.invariant.1 c.args.mtype (rw (← c.self.view_is) at e) in
    cc (ready.node, c.in_err-make.ensures.refused.0))

pub returns-in_err-make-2-clause-refused : goal.returns-in_err-make-2-clause-refused
returns-in_err-make-2-clause-refused g c =
    on_err (c.args.self.now.prepared ≢ Some c.args.mtype) c.from_residual-in_err-make-2.result
    (λ e.
    let ready = c.self.invariant.1 c.args.mtype (rw (← c.self.view_is) at e) in
    let none = simp (to_z-of_z, c.ranges.mtype) at c.in_err-make-2.ensures.refused in
    cc (rw none at ready.queue))
