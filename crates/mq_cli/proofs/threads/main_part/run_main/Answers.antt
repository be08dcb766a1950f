use Rattle.std.proofs.Common.{◌+◌, ◌++◌, List, take, take-append-drop, drop, ap, sym, ◌∙◌}
use Rattle.mq_cli.specs.declared.threads.script.MainCall.{MainCall}
use Rattle.mq_cli.proofs.MainLemmas.{taken_more, wrote_first, wrote_more, wrote_part}
use Rattle.mq_cli.proofs.threads.main_part.run_main.Goals as goal

pub returns-in_default : goal.returns-in_default
returns-in_default g c =
    let calls = c.args.calls.now in
    let k = c.loop-call.call-index in
    wrote_first g.N.Names.slots g.N.Names.last_seq (take k calls) (drop k calls) calls _ _ _ _ (sym (take-append-drop k calls)) c.loop-call.invariant

pub returns-in_default-write_bytes : goal.returns-in_default-write_bytes
returns-in_default-write_bytes g c =
    let calls = c.args.calls.now in
    let k = c.loop-call.call-index in
    let call = c.call-item.result in
    let more = taken_more calls k call c.loop-call-test.true c.call-item.is in
    let cut = sym (take-append-drop (k + 1) calls) ∙ ap (λ (l : List MainCall). l ++ drop (k + 1) calls) more in
    let cleared = rw c.clear.ensures.items at c.in-Ok.ensures in
    let reply = rw (sym c.deref.ensures.value) at cleared in
    wrote_part g.N.Names.slots g.N.Names.last_seq (take k calls) call (drop (k + 1) calls) calls c.deref.result.now _ _ _ _ _ _ _ cut c.loop-call.invariant reply
    c.in_default-write_bytes.ensures

pub loop-call-preserved : goal.loop-call-preserved
loop-call-preserved g c =
    let calls = c.args.calls.now in
    let k = c.loop-call.call-index in
    let call = c.call-item.result in
    let more = taken_more calls k call c.loop-call-test.true c.call-item.is in
    let cleared = rw c.clear.ensures.items at c.in-Ok.ensures in
    let reply = rw (sym c.deref.ensures.value) at cleared in
    rw more
    (wrote_more g.N.Names.slots g.N.Names.last_seq (take k calls) call c.deref.result.now _ _ _ _ _ _ _ c.loop-call.invariant reply c.in-Ok-write_bytes.ensures)
