use Rattle.std.proofs.Common.{rules, ◌≡◌, sym, false, Ok, codes, ◌∷◌}
use Rattle.std.specs.Str.{bytes_eq}
use Rattle.mq_cli.specs.Commands.{command_named}
use Rattle.mq_cli.specs.Lines.{words_of}
use Rattle.mq_cli.specs.Parts.{parts_left}
use Rattle.mq_cli.specs.Seen.{asked_by}
use Rattle.mq_cli.proofs.FilledLemmas.{named_read}
use Rattle.mq_cli.proofs.command.read_command.Goals as goal

pub returns-in-Ok : goal.returns-in-Ok
returns-in-Ok c =
    let name = c.in-Some.name.now in
    let rest = parts_left 32 c.next.new.self.rest in
    let words : words_of c.args.line.now ≡ name ∷ rest = search rules in
    let other : bytes_eq name (codes "snd") ≡ false = search rules in
    let read : command_named name rest ≡ Ok (asked_by c.in-Ok.command) = search rules in
    rw words (sym (named_read name rest (asked_by c.in-Ok.command) other read))
