use Rattle.mq_cli.proofs.PromptLemmas.{IsAnsweredUpTo}
use Rattle.mq_cli.proofs.serial.prompt.answer_lines.Given as goal

-- what was answered stands before what is answered to the lines that are left
abbrev pub invariant-loop-number : goal.invariant-loop-number
invariant-loop-number g l = IsAnsweredUpTo (g.R.Read.remaining l.fn.reader) (g.R.Read.remaining l.reader)
    (g.W.Write.contents l.fn.writer) (g.W.Write.contents l.writer) l.fn.session l.number l.session
