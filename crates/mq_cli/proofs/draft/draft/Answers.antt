use Rattle.mq_cli.specs.Seen.{text_seen}
use Rattle.mq_cli.proofs.DraftLemmas.{drafts_are}
use Rattle.mq_cli.proofs.draft.draft.Goals as goal

pub returns : goal.returns
returns g c = record {
  answer = drafts_are c.args.queues.now c.draft_of.new.self (text_seen c.args.text) c.bytes_of.result.now c.draft_of.result c.bytes_of.ensures c.draft_of.ensures.answer c.draft_of.ensures.memory;
}
