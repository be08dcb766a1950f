-- The numbers of an answer: what the call returns, its errno, for what it waits and its slot,
-- whether it changed something, the type and the length of a message, and what is shown.
use Rattle.std.specs.Prelude.{ℕ, ◌-◌, ◌^◌, List, [], ◌∷◌, length, is_some, Some}
use Rattle.std.specs.Int.{cast_unsigned, from_bool, w32, w64}
use Rattle.mq_arena.specs.declared.page.TheConstants.{PAGE_LEN}
use Rattle.mq_arena.specs.Text.{PlainText}
use Rattle.mq_queue.specs.declared.figures.Figures.{Figures}
use Rattle.mq_queue.specs.declared.limits.TheConstants.{MSGMAX, MSGMNB}
use Rattle.mq_calls.specs.declared.usage.Usage.{Usage}
use Rattle.mq_face.specs.declared.answer.Done.{Done}
use Rattle.mq_face.specs.declared.answer.ReceivedMessage.{ReceivedMessage}
use Rattle.mq_face.specs.declared.answer.ControlShown.{ControlShown}
use Rattle.mq_face.specs.declared.answer.ControlShown.TheVariants as shown
use Rattle.mq_face.specs.declared.answer.ControlShown.TheVariants.{Nothing, Queue}
use Rattle.mq_face.specs.declared.refusal.Refusal.{Refusal}
use Rattle.mq_face.specs.declared.refusal.Wait.{Wait}
use Rattle.mq_face.specs.declared.refusal.Wait.TheVariants.{No, Change, Pages}

-- a call that changed a slot, and returns 0
abbrev pub changed : ℕ → ℕ → Done
changed slot entry = record { value = 0; slot = slot; entry = Some entry; shown = Nothing }

abbrev pub shown_kind : ControlShown → ℕ
shown_kind Nothing = 0
shown_kind (Queue figures) = 1
shown_kind (shown.Usage usage) = 2

-- the figures of a queue (msgctl(2), IPC_STAT)
abbrev pub figure_numbers : Figures → List ℕ
figure_numbers f =
    f.qnum ∷ f.cbytes ∷ f.qbytes ∷ f.stime ∷ f.rtime ∷ f.ctime ∷ f.lspid ∷ f.lrpid ∷ []

-- what is in use, then the limits (msgctl(2), IPC_INFO)
abbrev pub usage_numbers : Usage → List ℕ
usage_numbers u =
    u.queues ∷ u.messages ∷ u.bytes ∷ u.slots ∷ u.pages ∷ MSGMAX ∷ MSGMNB ∷ PAGE_LEN ∷ []

-- what is shown
abbrev pub shown_numbers : ControlShown → List ℕ
shown_numbers Nothing = 0 ∷ 0 ∷ 0 ∷ 0 ∷ 0 ∷ 0 ∷ 0 ∷ 0 ∷ []
shown_numbers (Queue figures) = figure_numbers figures
shown_numbers (shown.Usage usage) = usage_numbers usage

-- a call that is done
abbrev pub done_numbers : Done → List ℕ
done_numbers done =
    done.value ∷ 0 ∷ 0 ∷ done.slot ∷ from_bool (is_some done.entry) ∷ 0 ∷ 0
    ∷ shown_kind done.shown ∷ []

abbrev pub wait_number : Wait → ℕ
wait_number No = 0
wait_number (Change slot) = 1
wait_number Pages = 2

abbrev pub wait_slot : Wait → ℕ
wait_slot No = 0
wait_slot (Change slot) = slot
wait_slot Pages = 0

-- a call that is refused: it returns -1
abbrev pub refusal_numbers : Refusal → List ℕ
refusal_numbers r =
    (2 ^ 64 - 1) ∷ cast_unsigned w32 r.errno ∷ wait_number r.wait ∷ wait_slot r.wait ∷ 0 ∷ 0 ∷ 0
    ∷ 0 ∷ []

-- a message: as many bytes of its text follow
abbrev pub received_numbers : ReceivedMessage PlainText → List ℕ
received_numbers m =
    length m.text.bytes ∷ 0 ∷ 0 ∷ m.slot ∷ 1 ∷ cast_unsigned w64 m.mtype ∷ length m.text.bytes
    ∷ 0 ∷ []
