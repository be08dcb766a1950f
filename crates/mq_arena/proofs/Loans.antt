-- A part of a text, once a mutable borrow of it ends.
use Rattle.std.proofs.Common.{◌≡◌, ◌∙◌, ◌+◌, ◌-◌, ◌*◌, ◌≤◌, ◌<◌, ℕ, List, [], ◌++◌, length, take, drop, get_or, set, min, Some, refl, sym, ap, arith, inl, inr, length-append, length-drop}
use Rattle.std.proofs.lemmas.Bool.{cases_lt}
use Rattle.std.proofs.lemmas.List.{take_all, take_at, take-take, drop-take, take-append-le, length-take, length-take-le}
use Rattle.std.proofs.Math.Seq.{take-append-add}
use Rattle.std.specs.List.{concat, refill, length_refill}
use Rattle.mq_arena.specs.Bytes.{AreWhole}
use Rattle.mq_arena.specs.OwnedBlock.{OwnedBlock, owned}
use Rattle.mq_arena.specs.Lent.{place}
use Rattle.mq_arena.specs.Lends.{with_page_left as with_page}
use Rattle.mq_arena.specs.declared.page.TheConstants.{PAGE_LEN}
use Rattle.mq_arena.specs.Text.{PlainText, count_of, text_part, with_part}
use Rattle.mq_arena.specs.TextHeld.{text_of}
use Rattle.mq_arena.specs.TextLends.{with_left}
use Rattle.mq_arena.proofs.Pages.{length-before, concat-set, page_length, written}
use Rattle.mq_arena.proofs.TextParts.{IsPartOf}

-- bytes left in the front of a page are the front of the page that they are left in
refill_front : (n : ℕ) (old left : List ℕ) → n ≤ length old
    → refill n (take n old) left ≡ take n (refill (length old) old left)
refill_front n old left within =
    let k : ℕ = length left in
    let whole : take n (refill (length old) old left) ≡ take n (left ++ drop k old) =
    take-take n (length old) (left ++ drop k old) within in
    elim (cases_lt n k) [
      | inl less ↦
          take-append-le n left (drop k (take n old)) (omega arith)
          ∙ sym (take-append-le n left (drop k old) (omega arith)) ∙ sym whole
      | inr more ↦
          let rest : ℕ = n - k in
          let both : k + rest ≡ n = omega arith in
          ap (λ m. take m (left ++ drop k (take m old))) (sym both)
          ∙ take-append-add left (drop k (take (k + rest) old)) rest
          ∙ ap (λ bs. left ++ take rest bs) (drop-take k rest old)
          ∙ ap (λ bs. left ++ bs) (take-take rest rest (drop k old) (omega arith))
          ∙ sym (take-append-add left (drop k old) rest)
          ∙ ap (λ m. take m (left ++ drop k old)) both ∙ sym whole
    ]

-- bytes that end within page i
ends_within : (pages : List (List ℕ)) (i n : ℕ) (page : List ℕ) → AreWhole pages → i < length pages
    → n ≤ length page
    → take (PAGE_LEN * i + n) (concat (set pages i page)) ≡ concat (take i pages) ++ take n page
ends_within pages i n page whole within short =
    let before : List ℕ = concat (take i pages) in
    let after : List ℕ = concat (drop (i + 1) pages) in
    let long : length before ≡ PAGE_LEN * i = length-before pages i whole (omega arith) in
    ap (take (PAGE_LEN * i + n)) (concat-set pages i page within)
    ∙ ap (λ k. take (k + n) (before ++ (page ++ after))) (sym long)
    ∙ take-append-add before (page ++ after) n
    ∙ ap (λ bs. before ++ bs) (take-append-le n page after short)

-- the first bytes show no more of page i than its front
same_front : (pages : List (List ℕ)) (i len : ℕ) (one other : List ℕ) → AreWhole pages
    → i < length pages → PAGE_LEN * i ≤ len → length one ≡ PAGE_LEN → length other ≡ PAGE_LEN
    → take (min PAGE_LEN (len - PAGE_LEN * i)) one
    ≡ take (min PAGE_LEN (len - PAGE_LEN * i)) other
    → take len (concat (set pages i one)) ≡ take len (concat (set pages i other))
same_front pages i len one other whole within from long long-2 same =
    let n : ℕ = min PAGE_LEN (len - PAGE_LEN * i) in
    elim (cases_lt (len - PAGE_LEN * i) PAGE_LEN) [
      | inl less ↦
          let end : PAGE_LEN * i + n ≡ len = omega arith in
          ap (λ k. take k (concat (set pages i one))) (sym end)
          ∙ ends_within pages i n one whole within (omega arith)
          ∙ ap (λ bs. concat (take i pages) ++ bs) same
          ∙ sym (ends_within pages i n other whole within (omega arith))
          ∙ ap (λ k. take k (concat (set pages i other))) end
      | inr more ↦
          let all : one ≡ other =
          sym (take_all n one (omega arith)) ∙ same ∙ take_all n other (omega arith) in
          ap (λ page. take len (concat (set pages i page))) all
    ]

-- the text once these bytes are in its part
part_written : (text : PlainText) (len i : ℕ) (b : OwnedBlock) (part : List ℕ)
    → IsPartOf text len i b → length part ≡ min PAGE_LEN (len - PAGE_LEN * i)
    → let page = part ++ drop (length part) (get_or b.pages i []) in
    text_of len (Some (owned b.start b.order (set b.pages i page))) ≡ with_part text i part
part_written text len i b part is long =
    let at_end : PAGE_LEN * i + length part ≤ len = omega (arith, is.from) in
    ap (λ bs. let t : PlainText = record { bytes = bs; block = Some (place b) } in t)
    (written b.pages i len (length part) part is.whole is.within (omega arith) at_end refl)
    ∙ ap (λ t. with_part t i part) is.same

-- the text once the borrow of its part ends
pub part_left : (text : PlainText) (len i : ℕ) (b : OwnedBlock) (left : List ℕ)
    → IsPartOf text len i b
    → text_of len (Some (owned b.start b.order (with_page b.pages i left))) ≡ with_left text i left
part_left text len i b left is =
    let n : ℕ = min PAGE_LEN (len - PAGE_LEN * i) in
    let old : List ℕ = get_or b.pages i [] in
    let one : length old ≡ PAGE_LEN = page_length b.pages i is.whole is.within in
    let page : List ℕ = refill (length old) old left in
    let page_long : length page ≡ PAGE_LEN = sym (length_refill (length old) old left refl) ∙ one in
    let part : List ℕ = take n page in
    let part_long : length part ≡ n = length-take-le n page (omega arith) in
    let other : List ℕ = part ++ drop (length part) old in
    let other_long : length other ≡ PAGE_LEN =
    omega (arith, length-append part (drop (length part) old), length-drop (length part) old) in
    let same : take n page ≡ take n other =
    sym (take_at part (drop (length part) old) n part_long) in
    let lent : refill (length (text_part text.bytes i)) (text_part text.bytes i) left ≡ part =
    ap (λ bs. refill (length bs) bs left) is.part
    ∙ ap (λ k. refill k (take n old) left) (length-take-le n old (omega arith))
    ∙ refill_front n old left (omega arith) in
    ap (λ bs. let t : PlainText = record { bytes = bs; block = Some (place b) } in t)
    (same_front b.pages i len page other is.whole is.within is.from page_long other_long same)
    ∙ part_written text len i b part is part_long ∙ ap (with_part text i) (sym lent)

-- a text stays as long as it was, whatever was left in its part
pub left_length : (text : PlainText) (i : ℕ) (left : List ℕ) → i < count_of (length text.bytes)
    → length (with_left text i left).bytes ≡ length text.bytes
left_length text i left below =
    let before : ℕ = PAGE_LEN * i in
    let old : List ℕ = text_part text.bytes i in
    let part : List ℕ = refill (length old) old left in
    let after : List ℕ = drop (before + length part) text.bytes in
    let same : length old ≡ length part = length_refill (length old) old left refl in
    let short : length old ≡ min PAGE_LEN (length text.bytes - before) =
    omega (arith, length-take PAGE_LEN (drop before text.bytes), length-drop before text.bytes) in
    let front : List ℕ = take before text.bytes ++ part in
    omega (
      arith,
      length-append front after,
      length-append (take before text.bytes) part,
      length-take before text.bytes,
      length-drop (before + length part) text.bytes,
    )
