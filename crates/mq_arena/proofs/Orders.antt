-- The order of a block that has room for that many bytes.
use Rattle.std.proofs.Common.{ℕ, ◌*◌, ◌^◌, ◌≤◌, zero, suc, arith}
use Rattle.std.proofs.lemmas.Bool.Decides.{nat_tests}
use Rattle.mq_arena.specs.Text.{order_for}
use Rattle.mq_arena.specs.declared.page.TheConstants.{PAGE_LEN}

-- no lower order has room
pub order_least : (n order : ℕ) → n ≤ PAGE_LEN * 2 ^ order → order_for n ≤ order
order_least n zero room = grind (arith, nat_tests)
order_least n (suc zero) room = grind (arith, nat_tests)
order_least n (suc (suc zero)) room = grind (arith, nat_tests)
order_least n (suc (suc (suc zero))) room = grind (arith, nat_tests)
order_least n (suc (suc (suc (suc zero)))) room = grind (arith, nat_tests)
order_least n (suc (suc (suc (suc (suc zero))))) room = grind (arith, nat_tests)
order_least n (suc (suc (suc (suc (suc (suc order)))))) room = grind (arith, nat_tests)
