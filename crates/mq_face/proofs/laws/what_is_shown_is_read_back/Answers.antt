use Rattle.std.proofs.Common.{rules}
use Rattle.mq_face.proofs.BytesLemmas.{eight_read}
use Rattle.mq_face.proofs.laws.what_is_shown_is_read_back.Goals as goal

pub returns-clause-figures : goal.returns-clause-figures
returns-clause-figures c =
    let f = c.args.figures in
    eight_read f.qnum f.cbytes f.qbytes f.stime f.rtime f.ctime f.lspid f.lrpid (search rules) (search rules) (search rules) (search rules) (search rules) (search rules) (search rules)
    (search rules)
