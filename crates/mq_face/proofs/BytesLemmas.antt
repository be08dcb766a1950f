use Rattle.std.proofs.Common.{◌≡◌, ℕ, ◌<◌, ◌^◌, List, [], ◌∷◌}
use Rattle.std.proofs.lemmas.Nat.{from_le_bytes-to_le_bytes_8}
use Rattle.mq_face.specs.Bytes.{bytes_of_numbers, numbers_in}

same_eight : (a b c d e f g h p q r s t u v w : ℕ) → a ≡ p → b ≡ q → c ≡ r → d ≡ s → e ≡ t → f ≡ u → g ≡ v → h ≡ w
    → let left : List ℕ = a ∷ b ∷ c ∷ d ∷ e ∷ f ∷ g ∷ h ∷ [] in left ≡ (p ∷ q ∷ r ∷ s ∷ t ∷ u ∷ v ∷ w ∷ [])
same_eight a b c d e f g h p q r s t u v w i j k l m n o x = cc

-- eight numbers are read back from their bytes
pub eight_read : (a b c d e f g h : ℕ) → a < 2 ^ 64 → b < 2 ^ 64 → c < 2 ^ 64 → d < 2 ^ 64 → e < 2 ^ 64 → f < 2 ^ 64 → g < 2 ^ 64 → h < 2 ^ 64
    → numbers_in (bytes_of_numbers (a ∷ b ∷ c ∷ d ∷ e ∷ f ∷ g ∷ h ∷ [])) ≡ (a ∷ b ∷ c ∷ d ∷ e ∷ f ∷ g ∷ h ∷ [])
eight_read a b c d e f g h i j k l m n o p =
    same_eight _ _ _ _ _ _ _ _ a b c d e f g h
    (from_le_bytes-to_le_bytes_8 a i) (from_le_bytes-to_le_bytes_8 b j) (from_le_bytes-to_le_bytes_8 c k) (from_le_bytes-to_le_bytes_8 d l)
    (from_le_bytes-to_le_bytes_8 e m) (from_le_bytes-to_le_bytes_8 f n) (from_le_bytes-to_le_bytes_8 g o) (from_le_bytes-to_le_bytes_8 h p)
