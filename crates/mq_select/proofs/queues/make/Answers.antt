use Rattle.std.proofs.Common.{◌≡◌, ℤ, sym, cond, true, false, Option, Some, None, List, [], arith}
use Rattle.std.specs.Option.{is_some, unwrap_or}
use Rattle.std.specs.BTreeMap.{is_at}
use Rattle.std.specs.Ordering.{int_cmp, int_eq}
use Rattle.std.proofs.lemmas.Int.{to_z-of_z}
use Rattle.mq_select.specs.ByType.{queue_at}
use Rattle.mq_select.proofs.Merging.{at_is, int_eq-same}
use Rattle.mq_select.proofs.queues.make.Goals as goal

-- a queue that is there is found again
stays : {Y : Type 0} (f : ℤ → Option (List Y)) (t m : ℤ) → is_some (f m) ≡ true → f t ≡ cond (int_eq m t) (Some (unwrap_or (f t) [])) (f t)
stays f t m there = grind (arith, int_eq-same m t, there)

none_is : {Y : Type 0} (o : Option Y) → false ≡ is_some o → o ≡ None
none_is o e = grind arith

-- an empty one is inserted where there was none
comes : {Y : Type 0} (f new : ℤ → Option (List Y)) (t m : ℤ) (q : List Y) → f m ≡ None → q ≡ [] → new t ≡ cond (is_at (int_cmp m) t) (Some q) (f t) → new t ≡ cond (int_eq m t) (Some (unwrap_or (f t) [])) (f t)
comes f new t m q none empty is = grind (arith, at_is m t, int_eq-same m t)

pub returns-then-contains_key-clause-ok : goal.returns-then-contains_key-clause-ok
returns-then-contains_key-clause-ok g c t =
    let there = simp (to_z-of_z, c.ranges.mtype) at c.if-contains_key.ensures in
    stays (queue_at c.args.queues.now.entries) t c.args.mtype (sym there)

pub returns-in-Ok-clause-ok : goal.returns-in-Ok-clause-ok
returns-in-Ok-clause-ok g c t =
    let absent = simp (to_z-of_z, c.ranges.mtype) at c.if-contains_key.ensures in
    let new = simp (to_z-of_z, c.ranges.mtype) at c.in-Ok.ensures.updates.0 t in
    comes (queue_at c.args.queues.now.entries) (queue_at c.insert.new.self.entries) t c.args.mtype c.new.result (none_is _ absent) c.new.ensures new

pub returns-in-Err-clause-refused : goal.returns-in-Err-clause-refused
returns-in-Err-clause-refused g c =
    let absent = simp (to_z-of_z, c.ranges.mtype) at c.if-contains_key.ensures in
    none_is _ absent
