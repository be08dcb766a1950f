-- Slots at the start, and what the figures of a queue count.
use Rattle.std.proofs.Common.{◌≡◌, ℕ, ◌<◌, Bool, cond, List, length, arith, sym, ap, ◌∙◌, get_or}
use Rattle.std.proofs.lemmas.List.{length-map}
use Rattle.std.proofs.lemmas.List.FromFn.{get_or-map-range_with_len, length-map-range_with_len}
use Rattle.mq_arena.specs.Text.{PlainText}
use Rattle.mq_message.specs.Waiting.{header_of}
use Rattle.mq_queue.specs.declared.figures.Figures.{Figures}
use Rattle.mq_queue.specs.Base.{figures_from, live_figures_from}
use Rattle.mq_queue.specs.Figures.{no_figures}
use Rattle.mq_queue.specs.Queue.{Queue, IsSoundFrom}
use Rattle.mq_table.specs.Kept.{KeptSlot}
use Rattle.mq_table.specs.SlotParts.{empty_kept}
use Rattle.mq_calls.specs.Limits.{empty_slots}

-- a new slot stands at the place of its number
pub placed_new : (count k : ℕ) → k < count → (get_or (empty_slots count) k (empty_kept k)).number ≡ k
placed_new count k within =
    ap (λ (s : KeptSlot PlainText). s.number) (get_or-map-range_with_len empty_kept 0 count k k (empty_kept k) within (omega arith))

pub length_new : (count : ℕ) → length (empty_slots count) ≡ count
length_new count = length-map-range_with_len empty_kept 0 count

-- a sound queue's figures count the pending messages
pub count_of : {B : Type 0} (bytes : B → List ℕ) (queue : Queue B) (kept : Figures) → kept ≡ figures_from queue.base queue.tail → IsSoundFrom bytes queue.base queue.tail queue.messages → kept.qnum ≡ length queue.messages
count_of bytes queue kept e sound =
    ap (λ (f : Figures). f.qnum) e
    ∙ ap (λ (b : Bool). (cond b no_figures (live_figures_from queue.base queue.tail)).qnum) sound.live
    ∙ ap length (sym sound.waits)
    ∙ length-map queue.messages (header_of bytes)
