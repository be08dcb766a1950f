use Rattle.std.proofs.Common.{◌<◌, ◌==◌, ℕ, not, sym}
use Rattle.std.proofs.lemmas.List.Elements.{All-filter, All-same}
use Rattle.mq_message.specs.declared.message.Message.{Message}
use Rattle.mq_message.specs.declared.vec_body.VecBody.{VecBody}
use Rattle.mq_message.proofs.Places.{picked_waits}
use Rattle.mq_message.specs.Waiting.{without}
use Rattle.bench.proofs.waiting.receive.Goals as goal

pub length_of-length-requires : goal.length_of-length-requires
length_of-length-requires g c =
    picked_waits (λ m. m.1.mtype) (g.W.Waiting.messages c.args.list.now) c.args.selection c.in-Some.place (sym c.in-Some.ensures)

pub take-message-requires : goal.take-message-requires
take-message-requires g c =
    picked_waits (λ m. m.1.mtype) (g.W.Waiting.messages c.args.list.now) c.args.selection c.in-Some.place (sym c.in-Some.ensures)

pub returns : goal.returns
returns g c =
    let P : ℕ × Message VecBody → Type 0 = λ m. m.0 < c.args.above in
    All-same P (g.W.Waiting.messages c.take-message.new.self) (without c.in-Some.place (g.W.Waiting.messages c.args.list.now)) c.take-message.ensures.rest (All-filter (λ (m : ℕ × Message VecBody). not (m.0 == c.in-Some.place)) P (g.W.Waiting.messages c.args.list.now) c.requires)
