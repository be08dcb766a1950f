use Rattle.std.proofs.Common.{sym, ◌∙◌, below_more, arith}
use Rattle.mq_cli.proofs.NumberLemmas.{all_digits, no_first_digit, no_more_digits, one_digit_more}
use Rattle.mq_cli.proofs.number.number.Goals as goal

pub returns-then-not-has_first_digit : goal.returns-then-not-has_first_digit
returns-then-not-has_first_digit c = no_first_digit _ (sym c.has_first_digit.ensures ∙ c.if-not-has_first_digit.true)

pub returns-in-None : goal.returns-in-None
returns-in-None c = no_more_digits _ _ _ c.loop-byte-test.true c.loop-byte.invariant.1 c.in-None.ensures

pub loop-byte-preserved : goal.loop-byte-preserved
loop-byte-preserved c = (
  below_more _ _ c.loop-byte.invariant.0 c.in-Some.ensures.0,
  one_digit_more _ _ _ _ c.loop-byte-test.true c.loop-byte.invariant.1 c.in-Some.ensures.0 c.in-Some.ensures.1,
  omega arith,
)

pub returns : goal.returns
returns c =
    all_digits _ _ _ (sym c.has_first_digit.ensures ∙ c.if-not-has_first_digit.false) c.loop-byte-test.false c.loop-byte.invariant.0 c.loop-byte.invariant.1 c.loop-byte.invariant.2
