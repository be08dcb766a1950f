use Rattle.std.proofs.Common.{◌≡◌, ◌≤◌, arith}
use Rattle.std.proofs.lemmas.Bool.Decides.{nat_tests}
use Rattle.mq_arena.specs.Text.{order_for}
use Rattle.mq_arena.proofs.Orders.{order_least}
use Rattle.mq_arena.proofs.order.order_for.Goals as goal

pub returns-then-len-2-clause-least : goal.returns-then-len-2-clause-least
returns-then-len-2-clause-least c = λ order room.
    let least : order_for c.args.len ≤ order = order_least c.args.len order room in
    let value : order_for c.args.len ≡ 2 = grind (arith, nat_tests) in
    omega arith

pub returns-then-len-le-INLINE_LEN-clause-least : goal.returns-then-len-le-INLINE_LEN-clause-least
returns-then-len-le-INLINE_LEN-clause-least c = λ order room.
    let least : order_for c.args.len ≤ order = order_least c.args.len order room in
    let value : order_for c.args.len ≡ 3 = grind (arith, nat_tests) in
    omega arith
