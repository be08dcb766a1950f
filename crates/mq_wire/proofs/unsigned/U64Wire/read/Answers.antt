use Rattle.std.proofs.Common.{rules, ◌≡◌, ◌++◌, ◌<◌, ◌^◌, ℕ, ap, sym, ◌∙◌}
use Rattle.std.proofs.lemmas.Bool.{lt-ltb}
use Rattle.std.proofs.lemmas.Nat.{le_bytes_8}
use Rattle.std.specs.Int.{w64, to_le_bytes}
use Rattle.mq_wire.specs.Encoding.{bytes_if, u64_bytes}
use Rattle.mq_wire.proofs.unsigned.U64Wire.read.Goals as goal

u64_is : (n : ℕ) → n < 2 ^ 64 → u64_bytes n ≡ to_le_bytes w64 n
unfolding u64_bytes
u64_is n fits = ap (λ test. bytes_if test (to_le_bytes w64 n)) (lt-ltb n (2 ^ 64) fits)

pub returns-clause-whole : goal.returns-clause-whole
returns-clause-whole c =
    let front = le_bytes_8 c.in_ok-take_array.field-0 c.from_le_bytes.result (search rules) (search rules) c.from_le_bytes.ensures in
    let is = u64_is c.from_le_bytes.result (search rules) in
    c.in_ok-take_array.ensures.parts ∙ ap (λ l. l ++ c.take_array.new.from.now) (sym (is ∙ front))
