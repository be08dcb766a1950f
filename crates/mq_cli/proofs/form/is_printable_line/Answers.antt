use Rattle.std.proofs.Common.{rules, ◌≡◌, true, ◌&&◌, fold, ◌∙◌}
use Rattle.mq_cli.specs.Lines.{is_printable}
use Rattle.mq_cli.proofs.LinesLemmas.{printable_to_the_end}
use Rattle.mq_cli.proofs.form.is_printable_line.Goals as goal

pub returns : goal.returns
returns c =
    let told : c.fold.result ≡ fold (λ all b. all && is_printable b) true c.args.line.now = search rules in
    told ∙ printable_to_the_end c.args.line.now
