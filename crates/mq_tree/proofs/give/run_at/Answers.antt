use Rattle.std.proofs.Common.{◌≡◌, ◌%◌, ◌^◌, ap, arith}
use Rattle.std.proofs.lemmas.Nat.{pow_pos, pow_below}
use Rattle.mq_tree.specs.Blocks.{block}
use Rattle.mq_tree.proofs.Starts.{run_of}
use Rattle.mq_tree.proofs.Giving.{not_lent}
use Rattle.mq_tree.proofs.give.run_at.Goals as goal

pub returns-then-order-height : goal.returns-then-order-height
returns-then-order-height c = λ lent set.
    not_lent c.args.height lent (block c.args.start c.args.order) set (λ a within. omega (arith, within, pow_below c.args.height c.args.order c.if-order-height.true))

pub returns-then-start-all : goal.returns-then-start-all
returns-then-start-all c = λ lent set.
    not_lent c.args.height lent (block c.args.start c.args.order) set (λ a within. omega (arith, within, pow_pos c.args.order, c.if-start-all.true, c.pages_in-all.ensures))

pub returns-then-inside-ne0 : goal.returns-then-inside-ne0
returns-then-inside-ne0 c = λ lent set.
    not_lent c.args.height lent (block c.args.start c.args.order) set (λ a within. c.if-inside-ne0.true (omega (arith, a, ap (λ x. c.args.start % x) c.pages_in-pages.ensures)))

pub returns : goal.returns
returns c =
    let aligned : c.args.start % 2 ^ c.args.order ≡ 0 = omega (arith, c.if-inside-ne0.false, ap (λ x. c.args.start % x) c.pages_in-pages.ensures) in
    rw (c.pages_in-all.ensures, c.pages_in-pages.ensures)
    (run_of c.args.height c.args.order c.args.start c.if-order-height.false (omega (arith, c.if-start-all.false, c.pages_in-all.ensures)) aligned)
