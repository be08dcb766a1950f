use Rattle.std.proofs.Common.{rules}
use Rattle.mq_cli.proofs.threads.notes.Notes.note_one.Goals as goal

pub returns-clause-noted : goal.returns-clause-noted
returns-clause-noted c = search (rules, c.of.ensures, c.note.ensures.noted)
