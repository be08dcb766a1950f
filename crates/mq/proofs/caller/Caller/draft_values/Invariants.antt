use Rattle.std.proofs.Common.{◌≡◌, All, length, take, vec_capacity}
use Rattle.std.specs.List.{AllZip}
use Rattle.mq.specs.ValueBatches.{IsDraftOf}
use Rattle.mq.proofs.caller.Caller.draft_values.Given as goal

-- the texts of the values so far, and that the room is the same
abbrev pub invariant-loop-place : goal.invariant-loop-place
invariant-loop-place g l =
    AllZip (IsDraftOf g.P.Value.Wire.bytes_of) l.texts.items (take l.place l.letters)
    × (length l.texts.items ≡ l.place)
    × (vec_capacity l.texts ≡ vec_capacity l.fn.texts)
    × All (λ x. g.P.Pledge.kept l.fn.self.seat.number x.tag x.mtype x.text.bytes) l.texts.items
    × (l.self.seat ≡ l.fn.self.seat)
    × (l.self.moments ≡ l.fn.self.moments)
