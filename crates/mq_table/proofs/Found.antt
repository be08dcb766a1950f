-- What a map's look-up finds is the id in the list of keys.
use Rattle.std.proofs.Common.{◌≡◌, ℕ, ℤ, Bool, List, [], ◌∷◌, ◌++◌, filter, None, refl, ◌∙◌, ◌≢◌, pos, map, arith}
use Rattle.std.specs.Ordering.{int_eq}
use Rattle.std.specs.List.{IsDistinct}
use Rattle.std.proofs.lemmas.List.Elements.{All-push, All-filter}
use Rattle.std.specs.HashMap.{HashMap}
use Rattle.std.specs.Map.{lookup}
use Rattle.std.proofs.lemmas.Cmp.{int_eq_equiv}
use Rattle.indexmap.specs.IndexMap.{insert_entry}
use Rattle.indexmap.proofs.CallerLemmas.{insert_entry-new}
use Rattle.mq_table.specs.Keys.{id_of_key, forget_key, AreKeys}

-- the map's value at a key is what the list has for it
pub lookup_is : (es : List (ℤ × ℕ)) (key : ℤ) → lookup (int_eq key) es ≡ id_of_key es key
lookup_is [] key = refl
lookup_is (e ∷ es) key = grind (arith, lookup_is es key, int_eq_equiv.symm key e.0)

-- a key that the list has not goes last
pub entered : {S : Type 0} (m : HashMap ℤ ℕ S) (key : ℤ) (id : ℕ) → id_of_key m.entries key ≡ None
    → insert_entry int_eq m.entries key id ≡ m.entries ++ (key, id) ∷ []
entered m key id absent = insert_entry-new int_eq m key id (lookup_is m.entries key ∙ absent)

-- and the keys stay distinct, and none is 0
pub keys_entered : {S : Type 0} (m : HashMap ℤ ℕ S) (es : List (ℤ × ℕ)) (key : ℤ) (id : ℕ)
    → AreKeys m.entries → id_of_key m.entries key ≡ None
    → es ≡ insert_entry int_eq m.entries key id → key ≢ pos 0
    → IsDistinct int_eq (map (λ p. p.0) es) → AreKeys es
keys_entered m es key id h absent grown named distinct = record {
  distinct = distinct;
  named =
      rw (grown, entered m key id absent)
      (All-push (λ p. p.0 ≢ pos 0) m.entries (key, id) h.named named);
}

-- as they do where some are left
pub keys_left : (passes : ℤ × ℕ → Bool) (es es' : List (ℤ × ℕ)) → AreKeys es
    → es' ≡ filter passes es → IsDistinct int_eq (map (λ p. p.0) es') → AreKeys es'
keys_left passes es es' h left distinct = record {
  distinct = distinct;
  named = rw left (All-filter passes (λ p. p.0 ≢ pos 0) es h.named);
}

-- a key that was taken out is not found
pub key_gone : (es : List (ℤ × ℕ)) (key : ℤ) → id_of_key (forget_key key es) key ≡ None
key_gone [] key = refl
key_gone (e ∷ es) key = grind (arith, key_gone es key)
