-- The forms of the pending messages: one list, or layers.
use Rattle.std.specs.Prelude.{ℕ, Bool, length, nat_lt}
use Rattle.mq_message.specs.Waiting.{Listed}
use Rattle.mq_select.specs.declared.index.WaitingForm.{WaitingForm}
use Rattle.mq_select.specs.declared.index.WaitingForm.TheVariants.{Few, Many}

-- the messages and the prepared type, whichever holds them
abbrev pub waiting_in : {B : Type 0} → WaitingForm B → Listed B
waiting_in (Few list) = list
waiting_in (Many layers) = layers

-- whether one message more is held in the same form: in a list where that is no longer than the
-- most, and in layers where more than a few are pending
abbrev pub stays : {B : Type 0} → ℕ → ℕ → WaitingForm B → Bool
stays most few (Few list) = nat_lt (length list.messages) most
stays most few (Many layers) = nat_lt few (length layers.messages)
