use Rattle.mq_cli.proofs.PromptLemmas.{answered_call, answered_fault}
use Rattle.mq_cli.proofs.serial.prompt.answer_line.Goals as goal

pub returns-in-Ok-Some : goal.returns-in-Ok-Some
returns-in-Ok-Some g c =
    let read = rw c.in-Ok-Some.field-0-is at c.in-Ok-Some.ensures in
    rw (← read) (answered_call _ _ c.args.number _ _ _ c.run_command.ensures)

pub returns-in-Err : goal.returns-in-Err
returns-in-Err g c = rw (← c.in-Err.ensures) (answered_fault _ _ _ _ _ c.name_fault.ensures)
