use Rattle.std.proofs.Common.{rules, ◌≡◌, [], ℕ, refl, sym, ◌∙◌, ap, arith}
use Rattle.std.proofs.lemmas.List.{append-nil}
use Rattle.mq_wire.specs.declared.unread_error.UnreadError.{UnreadError}
use Rattle.mq_wire.specs.declared.unread_error.UnreadError.TheVariants.{NoMemory, NoValue}
use Rattle.mq.proofs.caller.Caller.read_value.Goals as goal

abbrev code : UnreadError → ℕ
code NoMemory = 0
code NoValue = 1

pub unreachable-requires : goal.unreachable-requires
unreachable-requires g c =
    let d = c.args.delivered in
    let items : c.copy_out.new.bytes.items ≡ d.text.bytes = search rules in
    let kept = g.met.P.ValuePledge.read_back d.sender d.tag d.mtype d.text.bytes c.requires.text.whole in
    let read : c.in-Err-NoValue.field-0 ≡ NoMemory = c.in-Err-NoValue.ensures.back kept.0 []
    (c.as_slice.ensures.value ∙ items ∙ kept.1
    ∙ sym (append-nil (g.P.Value.Wire.bytes_of kept.0))) in
    let wrong : 1 ≡ 0 = ap code (sym c.in-Err-NoValue.field-0-is ∙ read) in
    omega (arith, wrong)

pub returns-in-Ok-clause-value : goal.returns-in-Ok-clause-value
returns-in-Ok-clause-value g c =
    let d = c.args.delivered in
    let items : c.copy_out.new.bytes.items ≡ d.text.bytes = search rules in
    let kept = g.met.P.ValuePledge.read_back d.sender d.tag d.mtype d.text.bytes c.requires.text.whole in
    let read = c.in-Ok.ensures.back kept.0 []
    (c.as_slice.ensures.value ∙ items ∙ kept.1
    ∙ sym (append-nil (g.P.Value.Wire.bytes_of kept.0))) in
    let same : c.in-Ok.value ≡ kept.0 = read.0 in
    rw (c.join_text.ensures, c.split_text-text.ensures.header) (record {
      entry = refl;
      mtype = refl;
      sender = refl;
      tag = refl;
      long = refl;
      bytes = ap g.P.Value.Wire.bytes_of same ∙ sym kept.1;
      vow = rw same kept.2;
    })
