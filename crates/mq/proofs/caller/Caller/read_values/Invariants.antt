use Rattle.std.proofs.Common.{◌≡◌, ◌++◌, All, List, length, vec_capacity}
use Rattle.std.specs.List.{AllZip}
use Rattle.mq_arena.specs.Text.{PlainText}
use Rattle.mq_calls.specs.declared.results.Delivered.{Delivered}
use Rattle.mq.specs.ValueBatches.{IsReadable, IsValueOf}
use Rattle.mq.proofs.caller.Caller.read_values.Given as goal

-- the values of the texts that were taken so far, and that the others are readable
abbrev pub invariant-loop-done : goal.invariant-loop-done
invariant-loop-done g l =
    (read : List (Delivered PlainText)) × (l.fn.texts.items ≡ read ++ l.texts.items)
    × AllZip (IsValueOf g.P.Value.Wire.bytes_of g.P.ValuePledge.vowed) read l.values.items
    × (length read ≡ l._done)
    × (length l.values.items ≡ l._done)
    × (vec_capacity l.values ≡ vec_capacity l.fn.values)
    × All (IsReadable g.P.Pledge.kept (vec_capacity l.self.room)) l.texts.items
    × (l.self.seat ≡ l.fn.self.seat)
    × (l.self.moments ≡ l.fn.self.moments)
