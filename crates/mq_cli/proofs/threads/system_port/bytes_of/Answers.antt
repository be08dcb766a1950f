use Rattle.std.proofs.Common.{◌≡◌, ◌+◌, ◌-◌, ◌%◌, arith, rules}
use Rattle.mq_cli.specs.declared.threads.system_port.TheConstants.{LETTERS}
use Rattle.mq_cli.proofs.LettersLemmas.{text_is}
use Rattle.mq_cli.proofs.threads.system_port.bytes_of.Goals as goal

pub returns-clause-letters : goal.returns-clause-letters
returns-clause-letters c =
    let same : c.from.result ≡ c.args.seat = search (rules, c.from.ensures) in
    let start = (c.args.tag % 26 + c.args.seat) % 26 in
    let count : start + c.args.count - start ≡ c.args.count = omega arith in
    rw (same, count) (text_is c.args.letters.now LETTERS c.args.seat c.args.tag c.args.count c.requires.letters (omega (arith, c.requires.few)))
