use Rattle.std.proofs.Common.{rules, ◌≡◌, [], false, ℕ, List, refl, sym, ◌∙◌, ap, arith}
use Rattle.std.proofs.lemmas.List.{append-nil}
use Rattle.mq_queue.specs.declared.limits.TheConstants.{MSGMAX}
use Rattle.mq_wire.specs.declared.unread_error.UnreadError.{UnreadError}
use Rattle.mq_wire.specs.declared.unread_error.UnreadError.TheVariants.{NoMemory, NoValue}
use Rattle.mq.specs.Caller.{IsReceivedOf}
use Rattle.mq.proofs.ValueLemmas.{moved}
use Rattle.mq.proofs.caller.Caller.receive_value_within.Goals as goal

abbrev code : UnreadError → ℕ
code NoMemory = 0
code NoValue = 1

pub unreachable-requires : goal.unreachable-requires
unreachable-requires g c =
    let told = c.in-Ok.ensures.answer in
    let bytes : List ℕ = told.0 in
    let got : IsReceivedOf g.P.Pledge.kept g.N.Names.slots c.args.id MSGMAX c.args.selection false
    c.receive_into_within.new.self.moments.now c.args.self.now.seat
    c.receive_into_within.new.self.seat c.in-Ok.received bytes = search (rules, told.2) in
    let items : c.receive_into_within.new.bytes.items ≡ bytes = search (rules, told.1) in
    let kept = g.met.P.ValuePledge.read_back c.in-Ok.received.sender c.in-Ok.received.tag
    c.in-Ok.received.mtype bytes (got.received.pledge refl) in
    let read : c.in-Err-NoValue.field-0 ≡ NoMemory = c.in-Err-NoValue.ensures.back kept.0 []
    (c.as_slice.ensures.value ∙ items ∙ kept.1
    ∙ sym (append-nil (g.P.Value.Wire.bytes_of kept.0))) in
    let wrong : 1 ≡ 0 = ap code (sym c.in-Err-NoValue.field-0-is ∙ read) in
    omega (arith, wrong)

pub returns-in-Ok-read-clause-answer : goal.returns-in-Ok-read-clause-answer
returns-in-Ok-read-clause-answer g c =
    let told = c.in-Ok.ensures.answer in
    let bytes : List ℕ = told.0 in
    let got : IsReceivedOf g.P.Pledge.kept g.N.Names.slots c.args.id MSGMAX c.args.selection false
    c.receive_into_within.new.self.moments.now c.args.self.now.seat
    c.receive_into_within.new.self.seat c.in-Ok.received bytes = search (rules, told.2) in
    let items : c.receive_into_within.new.bytes.items ≡ bytes = search (rules, told.1) in
    let kept = g.met.P.ValuePledge.read_back c.in-Ok.received.sender c.in-Ok.received.tag
    c.in-Ok.received.mtype bytes (got.received.pledge refl) in
    let read = c.in-Ok-read.ensures.back kept.0 []
    (c.as_slice.ensures.value ∙ items ∙ kept.1
    ∙ sym (append-nil (g.P.Value.Wire.bytes_of kept.0))) in
    let same : c.in-Ok-read.value ≡ kept.0 = read.0 in
    let whole : g.P.Value.Wire.bytes_of c.in-Ok-read.value ≡ bytes =
    ap g.P.Value.Wire.bytes_of same ∙ sym kept.1 in
    rw c.join_text.ensures (rw same kept.2, moved _ _ _ _ _ _ _ _ _ _ _ _ _ _ refl whole got)
