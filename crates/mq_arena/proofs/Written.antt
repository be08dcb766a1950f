-- A text after its bytes were written.
use Rattle.std.proofs.Common.{◌≡◌, ◌≤◌, ◌-◌, ◌*◌, ◌^◌, ℕ, List, ◌++◌, length, take, replicate, Some, refl, sym, ◌∙◌, ap, subst, arith}
use Rattle.std.proofs.lemmas.List.{take_at}
use Rattle.std.specs.List.{concat}
use Rattle.mq_arena.specs.OwnedBlock.{OwnedBlock, IsBlock}
use Rattle.mq_arena.specs.declared.page.TheConstants.{PAGE_LEN}
use Rattle.mq_arena.specs.Lent.{place}
use Rattle.mq_arena.specs.Text.{PlainText, ArePagesOf, AreItsAlone}
use Rattle.mq_arena.specs.TextHeld.{text_of}
use Rattle.mq_arena.proofs.Texts.{text_length}
use Rattle.mq_arena.proofs.TextParts.{IsHeld, held_by}

-- bytes as many as the text had, written over the first ones of its block
pub filled_text : (len : ℕ) (b new : OwnedBlock) (bytes rest : List ℕ) → length bytes ≡ len
    → new.start ≡ b.start → new.order ≡ b.order → concat new.pages ≡ bytes ++ rest
    → text_of len (Some new) ≡ record { bytes = bytes; block = Some (place b) }
filled_text len b new bytes rest long same_start same_order now =
    let cut : take len (concat new.pages) ≡ bytes = ap (take len) now ∙ take_at bytes rest len long in
    rw (cut, same_start, same_order) refl

-- the pages of a text are those of its block
pub pages_of : {text : PlainText} {len : ℕ} {b : OwnedBlock} → IsHeld text len b → ArePagesOf text b.pages
pages_of {len = len} {b = b} h =
    subst (λ t. ArePagesOf t b.pages) h.same (record {
      whole = h.held.0.whole;
      count = h.held.0.count;
      bytes = ap (λ n. take n (concat b.pages)) (sym (text_length len (Some b) h.held));
    })

-- the pages once all is cleared that stands behind the text
pub alone_in : {text : PlainText} {len : ℕ} {b : OwnedBlock} (new : OwnedBlock) → IsHeld text len b → IsBlock new
    → new.order ≡ b.order → concat new.pages ≡ take len (concat b.pages) ++ replicate (PAGE_LEN * 2 ^ b.order - len) 0
    → AreItsAlone text new.pages
alone_in {len = len} {b = b} new h whole same_order cleared =
    let count : length new.pages ≡ 2 ^ b.order = whole.count ∙ ap (λ k. 2 ^ k) same_order in
    let long : length (take len (concat b.pages)) ≡ len = text_length len (Some b) h.held in
    let zeros : PAGE_LEN * 2 ^ b.order - len ≡ PAGE_LEN * length new.pages - length (take len (concat b.pages)) =
    omega (arith, count, long) in
    subst (λ t. AreItsAlone t new.pages) h.same (record {
      whole = whole.whole;
      count = count;
      bytes = cleared ∙ ap (λ k. take len (concat b.pages) ++ replicate k 0) zeros;
    })

-- whatever is in its block at the end, it is a text of as many bytes as before
pub still_held : {text : PlainText} {len : ℕ} {b : OwnedBlock} (new : OwnedBlock) → IsHeld text len b → IsBlock new → new.order ≡ b.order → IsHeld (text_of len (Some new)) len new
still_held {len = len} new h whole same_order =
    held_by {block = Some new} len refl refl (whole, subst (λ order. len ≤ PAGE_LEN * 2 ^ order) (sym same_order) h.held.1)
