use Rattle.std.proofs.Common.{rules, ◌≡◌, ◌++◌, ◌<◌, ◌^◌, ℤ, pos, negsuc, true, ap, sym, ◌∙◌, to_z, of_z}
use lib.Signed.{mag}
use Rattle.std.proofs.lemmas.Bool.{lt-ltb}
use Rattle.std.proofs.lemmas.Int.{of_z-to_z}
use Rattle.std.proofs.lemmas.Nat.{le_bytes_8}
use Rattle.std.specs.Int.{w64, cast_unsigned, to_le_bytes}
use Rattle.mq_wire.specs.Encoding.{bytes_if, i64_bytes, is_signed}
use Rattle.mq_wire.proofs.signed.I64Wire.read.Goals as goal

i64_holds : (z : ℤ) → mag z < 2 ^ 63 → is_signed (2 ^ 63) z ≡ true
i64_holds (pos n) small = lt-ltb n (2 ^ 63) small
i64_holds (negsuc n) small = lt-ltb n (2 ^ 63) small

i64_is : (z : ℤ) → is_signed (2 ^ 63) z ≡ true → i64_bytes z ≡ to_le_bytes w64 (cast_unsigned w64 z)
unfolding i64_bytes
i64_is z fits = ap (λ test. bytes_if test (to_le_bytes w64 (cast_unsigned w64 z))) fits

pub returns-clause-whole : goal.returns-clause-whole
returns-clause-whole c =
    let xs = c.in_ok-take_array.field-0 in
    let n = c.from_le_bytes.result in
    let z = c.cast_signed.result in
    let front : to_le_bytes w64 n ≡ xs = le_bytes_8 xs n (search rules) (search rules) c.from_le_bytes.ensures in
    let small : n < 2 ^ 64 = search rules in
    let bits : cast_unsigned w64 z ≡ n = ap (cast_unsigned w64) c.cast_signed.ensures ∙ of_z-to_z w64 n small in
    let test : is_signed (2 ^ 63) z ≡ true = i64_holds z c.cast_signed.type_inv in
    let same : to_z w64 (of_z w64 z) ≡ z = search rules in
    let is : i64_bytes (to_z w64 (of_z w64 z)) ≡ xs = ap i64_bytes same ∙ i64_is z test ∙ ap (to_le_bytes w64) bits ∙ front in
    c.in_ok-take_array.ensures.parts ∙ ap (λ l. l ++ c.take_array.new.from.now) (sym is)
