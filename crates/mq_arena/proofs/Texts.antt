-- A text that lies in a block.
use Rattle.std.proofs.Common.{◌≡◌, ℕ, ◌+◌, ◌-◌, ◌*◌, ◌≤◌, ◌<◌, List, [], length, take, drop, get_or, min, Option, None, Some, sym, ◌∙◌, ap, arith, inl, inr}
use Rattle.std.proofs.lemmas.Bool.{cases_lt}
use Rattle.std.proofs.lemmas.List.{take_all, take-take, drop-take, length-take, length-take-le}
use Rattle.std.specs.List.{concat}
use Rattle.mq_arena.specs.Bytes.{AreWhole}
use Rattle.mq_arena.specs.OwnedBlock.{OwnedBlock}
use Rattle.mq_arena.specs.declared.page.TheConstants.{PAGE_LEN}
use Rattle.mq_arena.proofs.Filling.{length-concat}
use Rattle.mq_arena.specs.Text.{text_part}
use Rattle.mq_arena.specs.TextHeld.{text_of, IsText}
use Rattle.mq_arena.proofs.Pages.{page_is}

-- the text is as long as it says
pub text_length : (len : ℕ) (block : Option OwnedBlock) → IsText len block → length (text_of len block).bytes ≡ len
text_length len None held = sym held
text_length len (Some b) held =
    let whole = held.0.whole in
    let count = held.0.count in
    length-take-le len (concat b.pages) (omega (arith, length-concat PAGE_LEN b.pages whole))

-- the first k of the first n
take_both : (n k : ℕ) (bytes : List ℕ) → take n (take k bytes) ≡ take (min n k) bytes
take_both n k bytes = elim (cases_lt n k) [
  | inl less ↦ let least : min n k ≡ n = omega arith in rw least (take-take n k bytes (omega arith))
  | inr more ↦
      let least : min n k ≡ k = omega arith in
      rw least (take_all n (take k bytes) (omega (arith, length-take k bytes)))
]

-- part i is the front of page i
pub part_is : (pages : List (List ℕ)) (len i : ℕ) → AreWhole pages → i < length pages → PAGE_LEN * i ≤ len
    → text_part (take len (concat pages)) i ≡ take (min PAGE_LEN (len - PAGE_LEN * i)) (get_or pages i [])
part_is pages len i whole within from =
    let all : List ℕ = concat pages in
    let left : ℕ = len - PAGE_LEN * i in
    let room : PAGE_LEN * i + left ≡ len = omega arith in
    let rest : drop (PAGE_LEN * i) (take len all) ≡ take left (drop (PAGE_LEN * i) all) =
    ap (λ k. drop (PAGE_LEN * i) (take k all)) (sym room) ∙ drop-take (PAGE_LEN * i) left all in
    let cut : take (min PAGE_LEN left) (take PAGE_LEN (drop (PAGE_LEN * i) all)) ≡ take (min PAGE_LEN left) (drop (PAGE_LEN * i) all) =
    take-take (min PAGE_LEN left) PAGE_LEN (drop (PAGE_LEN * i) all) (omega arith) in
    ap (take PAGE_LEN) rest ∙ take_both PAGE_LEN left (drop (PAGE_LEN * i) all) ∙ sym cut
    ∙ ap (take (min PAGE_LEN left)) (page_is pages i whole within)
