-- A part of a text, and the page that it is the front of.
use Rattle.std.proofs.Common.{◌≡◌, ℕ, ◌-◌, ◌*◌, ◌^◌, ◌≤◌, ◌<◌, List, [], ◌∷◌, zero, suc, inl, inr, length, take, get_or, min, Option, Some, refl, sym, ◌∙◌, ap, subst, arith}
use Rattle.std.proofs.lemmas.Bool.{cases_lt}
use Rattle.std.proofs.lemmas.List.{take_min}
use Rattle.std.proofs.lemmas.List.Elements.{All-head, All-tail}
use Rattle.mq_arena.specs.Bytes.{AreWhole, cut_parts}
use Rattle.mq_arena.specs.OwnedBlock.{OwnedBlock}
use Rattle.mq_arena.specs.declared.page.TheConstants.{PAGE_LEN}
use Rattle.mq_arena.proofs.Cuts.{cut_some}
use Rattle.mq_arena.specs.Text.{PlainText, count_of, text_part}
use Rattle.mq_arena.specs.TextHeld.{text_of, IsText}
use Rattle.mq_arena.proofs.Texts.{text_length, part_is}

-- the text is the first bytes of this block, whose pages have room for them
pub record IsHeld (text : PlainText) (len : ℕ) (b : OwnedBlock) : Type 0 where
  pub held : IsText len (Some b)
  pub same : text_of len (Some b) ≡ text
  pub long : length text.bytes ≡ len
  pub room : len ≤ PAGE_LEN * length b.pages

pub held_by : {text : PlainText} {block : Option OwnedBlock} {b : OwnedBlock} (len : ℕ) → text_of len block ≡ text → block ≡ Some b → IsText len block → IsHeld text len b
held_by {block = block} {b = b} len shown some held =
    let here : IsText len (Some b) = subst (IsText len) some held in
    record {
      held = here;
      same = ap (text_of len) (sym some) ∙ shown;
      long = ap (λ t. length t.bytes) (sym shown) ∙ text_length len block held;
      room = let few : len ≤ PAGE_LEN * 2 ^ b.order = here.1 in omega (arith, few, here.0.count);
    }

-- part i of the text is the front of page i of its block
pub record IsPartOf (text : PlainText) (len i : ℕ) (b : OwnedBlock) : Type 0 where
  pub whole : AreWhole b.pages
  pub within : i < length b.pages
  pub from : PAGE_LEN * i ≤ len
  pub same : text_of len (Some b) ≡ text
  pub part : text_part text.bytes i ≡ take (min PAGE_LEN (len - PAGE_LEN * i)) (get_or b.pages i [])

-- this holds of each part of the text
pub part_of : {text : PlainText} {len : ℕ} {b : OwnedBlock} (i : ℕ) → IsHeld text len b → i < count_of (length text.bytes) → IsPartOf text len i b
part_of {text = text} {len = len} {b = b} i h below =
    let within : i < length b.pages = omega (arith, h.room, h.long, below) in
    let from : PAGE_LEN * i ≤ len = omega (arith, h.long, below) in
    record {
      whole = h.held.0.whole;
      within = within;
      from = from;
      same = h.same;
      part = ap (λ t. text_part t.bytes i) (sym h.same) ∙ part_is b.pages len i h.held.0.whole within from;
    }

-- one part more
count_more : (len : ℕ) → 0 < len → count_of len ≡ suc (count_of (len - PAGE_LEN))
count_more len some = elim (cases_lt len PAGE_LEN) [ inl less ↦ omega arith | inr more ↦ omega arith ]

-- as many parts as pages that the bytes begin
pub length-cut_parts : (len : ℕ) (pages : List (List ℕ)) → len ≤ PAGE_LEN * length pages
    → length (cut_parts len pages) ≡ count_of len
length-cut_parts len [] room = let none : len ≡ 0 = omega arith in rw none refl
length-cut_parts len (page ∷ pages) room = elim (cases_lt 0 len) [
  | inl some ↦
      ap length (cut_some len page pages some)
      ∙ ap suc (length-cut_parts (len - PAGE_LEN) pages (omega arith)) ∙ sym (count_more len some)
  | inr none ↦ let zero_len : len ≡ 0 = omega arith in rw zero_len refl
]

-- a part is the front of its page
pub cut_at : (len i : ℕ) (pages : List (List ℕ)) → AreWhole pages → len ≤ PAGE_LEN * length pages → i < count_of len
    → get_or (cut_parts len pages) i [] ≡ take (min PAGE_LEN (len - PAGE_LEN * i)) (get_or pages i [])
cut_at len i [] whole room below = let none : len ≡ 0 = omega arith in absurd (omega arith)
cut_at len zero (page ∷ pages) whole room below =
    let some : 0 < len = omega arith in
    let long : length page ≡ PAGE_LEN = All-head (λ p. length p ≡ PAGE_LEN) page pages whole in
    let same : min PAGE_LEN (len - PAGE_LEN * 0) ≡ min len (length page) = omega arith in
    ap (λ ps. get_or ps 0 []) (cut_some len page pages some) ∙ sym (ap (λ k. take k page) same ∙ take_min len page)
cut_at len (suc i) (page ∷ pages) whole room below =
    let some : 0 < len = omega arith in
    let rest : AreWhole pages = All-tail (λ p. length p ≡ PAGE_LEN) page pages whole in
    let fewer : i < count_of (len - PAGE_LEN) = omega (arith, count_more len some) in
    let same : len - PAGE_LEN - PAGE_LEN * i ≡ len - PAGE_LEN * suc i = omega arith in
    ap (λ ps. get_or ps (suc i) []) (cut_some len page pages some)
    ∙ cut_at (len - PAGE_LEN) i pages rest (omega arith) fewer
    ∙ ap (λ k. take (min PAGE_LEN k) (get_or pages i [])) same

-- all parts of a text: how many, and each of them
pub parts_count : {text : PlainText} {len : ℕ} {b : OwnedBlock} → IsHeld text len b → length (cut_parts len b.pages) ≡ count_of (length text.bytes)
parts_count {len = len} {b = b} h = length-cut_parts len b.pages h.room ∙ ap count_of (sym h.long)

pub parts_each : {text : PlainText} {len : ℕ} {b : OwnedBlock} → IsHeld text len b → (i : ℕ) → i < count_of (length text.bytes) → get_or (cut_parts len b.pages) i [] ≡ text_part text.bytes i
parts_each {len = len} {b = b} h i below =
    cut_at len i b.pages h.held.0.whole h.room (subst (λ n. i < count_of n) h.long below) ∙ sym (part_of i h below).part
