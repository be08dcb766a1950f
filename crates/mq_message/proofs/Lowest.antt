-- The first of the elements of the lowest type within a bound, by one reading of a list.
use Rattle.std.proofs.Common.{◌≡◌, ℕ, ℤ, pos, ◌<ℤ◌, ◌≤ℤ◌, int_le, int_lt, List, [], ◌∷◌, ◌++◌, All, Contains, filter, find, fold, Option, Some, None, Bool, true, false, cond, if◌then◌else◌, refl, sym, ap, ◌∙◌, subst, inl, inr, arith, append_assoc, append-nil}
use Rattle.std.specs.Option.{option_or}
use Rattle.std.specs.Ordering.{int_eq}
use Rattle.std.proofs.lemmas.Bool.{cases_Bool, cond-true, cond-false}
use Rattle.std.proofs.lemmas.Int.{ints}
use Rattle.std.proofs.lemmas.List.Elements.{All-nil, All-head, All-tail, All-push, All-weaker, Contains-push, Contains-append_left}
use Rattle.std.proofs.lemmas.List.Folds.{find-append}
use Rattle.mq_message.specs.Selection.{least_of, lower_of}
use Rattle.mq_message.specs.Laws.{IsLowest}

le_holds : (a b : ℤ) → int_le a b ≡ true → a ≤ℤ b
le_holds a b e = grind (arith, ints)

le_fails : (a b : ℤ) → int_le a b ≡ false → b <ℤ a
le_fails a b e = grind (arith, ints)

lt_holds : (a b : ℤ) → int_lt a b ≡ true → a <ℤ b
lt_holds a b e = grind (arith, ints)

lt_fails : (a b : ℤ) → int_lt a b ≡ false → b ≤ℤ a
lt_fails a b e = grind (arith, ints)

int_eq-refl : (t : ℤ) → int_eq t t ≡ true
int_eq-refl t = grind (arith, ints)

int_eq-above : (a b : ℤ) → a <ℤ b → int_eq b a ≡ false
int_eq-above a b l = grind (arith, ints)

-- what is lower than a, and within the bound, is lower than each type from which a is the lowest within it
lower_than_all : (x a m b : ℤ) → x ≤ℤ b → x <ℤ a → (m ≤ℤ b → a ≤ℤ m) → x <ℤ m
lower_than_all x a m b within lower lowest = elim (cases_Bool (int_le m b)) [
  | inl e ↦ omega (arith, ints, lower, lowest (le_holds m b e))
  | inr e ↦ omega (arith, ints, within, le_fails m b e)
]

-- a reading that keeps the earlier of two elements, or the later one where that is of a lower type
module _ {M : Type 0} (type_of : M → ℤ) (low : Option M → M → Option M) (first : (x : M) → low None x ≡ Some x)
    (next : (a x : M) → low (Some a) x ≡ Some (if int_lt (type_of x) (type_of a) then x else a)) (bound : ℕ) where
  -- this is the first element of the lowest type within the bound
  pub record IsFirstLowest (f : M) (seen : List M) : Type 0 where
    pub there : Contains seen f
    pub within : type_of f ≤ℤ pos bound
    pub lowest : All (λ m. type_of m ≤ℤ pos bound → type_of f ≤ℤ type_of m) seen
    pub found : find (λ m. int_eq (type_of m) (type_of f)) seen ≡ Some f

  -- what is kept of the elements that were read
  abbrev pub IsKept : List M → Option M → Type 0
  IsKept seen None = All (λ m. pos bound <ℤ type_of m) seen
  IsKept seen (Some f) = IsFirstLowest f seen

  find_above : (t : ℤ) (xs : List M) → All (λ m. t <ℤ type_of m) xs → find (λ m. int_eq (type_of m) t) xs ≡ None
  find_above t [] over = refl
  find_above t (x ∷ xs) over =
      cond-false (int_eq (type_of x) t) (Some x) (find (λ m. int_eq (type_of m) t) xs) (int_eq-above t (type_of x) (All-head (λ m. t <ℤ type_of m) x xs over))
      ∙ find_above t xs (All-tail (λ m. t <ℤ type_of m) x xs over)

  takes : (seen : List M) (x : M) → type_of x ≤ℤ pos bound → All (λ m. type_of x <ℤ type_of m) seen → IsFirstLowest x (seen ++ x ∷ [])
  takes seen x in_bound over = record {
    there = Contains-push seen x;
    within = in_bound;
    lowest =
        All-push (λ m. type_of m ≤ℤ pos bound → type_of x ≤ℤ type_of m) seen x
        (All-weaker (λ m. type_of x <ℤ type_of m) (λ m. type_of m ≤ℤ pos bound → type_of x ≤ℤ type_of m) (λ m l _. omega (arith, ints, l)) seen over)
        (λ _. omega (arith, ints));
    found =
        find-append (λ m. int_eq (type_of m) (type_of x)) seen (x ∷ [])
        ∙ ap (λ o. option_or o (find (λ m. int_eq (type_of m) (type_of x)) (x ∷ []))) (find_above (type_of x) seen over)
        ∙ cond-true (int_eq (type_of x) (type_of x)) (Some x) None (int_eq-refl (type_of x));
  }

  keeps : (f : M) (seen : List M) (x : M) → IsFirstLowest f seen → (type_of x ≤ℤ pos bound → type_of f ≤ℤ type_of x) → IsFirstLowest f (seen ++ x ∷ [])
  keeps f seen x is over = record {
    there = Contains-append_left seen (x ∷ []) f is.there;
    within = is.within;
    lowest = All-push (λ m. type_of m ≤ℤ pos bound → type_of f ≤ℤ type_of m) seen x is.lowest over;
    found =
        find-append (λ m. int_eq (type_of m) (type_of f)) seen (x ∷ [])
        ∙ ap (λ o. option_or o (find (λ m. int_eq (type_of m) (type_of f)) (x ∷ []))) is.found;
  }

  kept_as : (seen : List M) {o p : Option M} → o ≡ p → IsKept seen p → IsKept seen o
  kept_as seen e = subst (IsKept seen) (sym e)

  one_more : (seen : List M) (x : M) (o : Option M) → IsKept seen o → IsKept (seen ++ x ∷ []) (cond (int_le (type_of x) (pos bound)) (low o x) o)
  one_more seen x None h = elim (cases_Bool (int_le (type_of x) (pos bound))) [
    | inl e ↦
        let within = le_holds (type_of x) (pos bound) e in
        kept_as (seen ++ x ∷ []) (cond-true (int_le (type_of x) (pos bound)) (low None x) None e ∙ first x)
        (takes seen x within (All-weaker (λ m. pos bound <ℤ type_of m) (λ m. type_of x <ℤ type_of m) (λ m l. omega (arith, ints, l, within)) seen h))
    | inr e ↦
        kept_as (seen ++ x ∷ []) (cond-false (int_le (type_of x) (pos bound)) (low None x) None e)
        (All-push (λ m. pos bound <ℤ type_of m) seen x h (le_fails (type_of x) (pos bound) e))
  ]
  one_more seen x (Some a) h = elim (cases_Bool (int_le (type_of x) (pos bound))) [
    | inl e ↦
        let within = le_holds (type_of x) (pos bound) e in
        let now = cond-true (int_le (type_of x) (pos bound)) (low (Some a) x) (Some a) e ∙ next a x in
        elim (cases_Bool (int_lt (type_of x) (type_of a))) [
          | inl f ↦
              kept_as (seen ++ x ∷ []) (now ∙ ap (λ b. Some (cond b x a)) f)
              (takes seen x within
              (All-weaker (λ m. type_of m ≤ℤ pos bound → type_of a ≤ℤ type_of m) (λ m. type_of x <ℤ type_of m)
              (λ m l. lower_than_all (type_of x) (type_of a) (type_of m) (pos bound) within (lt_holds (type_of x) (type_of a) f) l) seen h.lowest))
          | inr f ↦ kept_as (seen ++ x ∷ []) (now ∙ ap (λ b. Some (cond b x a)) f) (keeps a seen x h (λ _. lt_fails (type_of x) (type_of a) f))
        ]
    | inr e ↦
        kept_as (seen ++ x ∷ []) (cond-false (int_le (type_of x) (pos bound)) (low (Some a) x) (Some a) e)
        (keeps a seen x h (λ l. absurd (omega (arith, ints, le_fails (type_of x) (pos bound) e, l))))
  ]

  fold_cond : (b : Bool) (o : Option M) (x : M) (ys : List M) → fold low o (cond b (x ∷ ys) ys) ≡ fold low (cond b (low o x) o) ys
  fold_cond true o x ys = refl
  fold_cond false o x ys = refl

  all_more : (xs seen : List M) (o : Option M) → IsKept seen o → IsKept (seen ++ xs) (fold low o (filter (λ m. int_le (type_of m) (pos bound)) xs))
  all_more [] seen o h = subst (λ l. IsKept l o) (sym (append-nil seen)) h
  all_more (x ∷ xs) seen o h =
      let rest = all_more xs (seen ++ x ∷ []) (cond (int_le (type_of x) (pos bound)) (low o x) o) (one_more seen x o h) in
      kept_as (seen ++ (x ∷ xs)) (fold_cond (int_le (type_of x) (pos bound)) o x (filter (λ m. int_le (type_of m) (pos bound)) xs))
      (subst (λ l. IsKept l (fold low (cond (int_le (type_of x) (pos bound)) (low o x) o) (filter (λ m. int_le (type_of m) (pos bound)) xs))) (append_assoc seen (x ∷ []) xs) rest)

  pub kept_of_all : (xs : List M) → IsKept xs (fold low None (filter (λ m. int_le (type_of m) (pos bound)) xs))
  kept_of_all xs = all_more xs [] None (All-nil (λ m. pos bound <ℤ type_of m))

-- the lowest type itself
pub finds_lowest : (bound : ℕ) (xs : List ℤ) → IsLowest bound xs (least_of bound xs)
finds_lowest bound xs = told (least_of bound xs) (kept_of_all (λ (t : ℤ). t) lower_of (λ x. refl) (λ a x. refl) bound xs)
  where
    told : (o : Option ℤ) → IsKept (λ (t : ℤ). t) lower_of (λ x. refl) (λ a x. refl) bound xs o → IsLowest bound xs o
    told None h = h
    told (Some least) h = (h.there, h.within, h.lowest)
