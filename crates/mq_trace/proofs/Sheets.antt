use Rattle.std.proofs.Common.{◌≡◌, ℕ, List, [], ◌∷◌, ◌++◌, Bool, true, false, Option, Result, Ok, Err, refl, sym, ap, ◌∙◌, subst, append_assoc, append-nil}
use Rattle.std.specs.Io.KnownBytes.{Appends}
use Rattle.std.proofs.KnownBytes.{Appends-nil, Appends-trans}
use Rattle.mq_trace.specs.Trace.{begun_after, listed, separator}
use Rattle.mq_trace.specs.Written.{Adds, AppendsPrefix, Writes, WritesRecords, Wrote}
use Rattle.mq_trace.specs.declared.sheet.Sheet.{Sheet}
use Rattle.mq_trace.specs.declared.trace_error.TraceError.{TraceError}
use Rattle.mq_trace.proofs.Bytes.{prefix_behind, prefix_more}

begun_true : (xs : List (List ℕ)) → begun_after true xs ≡ true
begun_true [] = refl
begun_true (x ∷ xs) = refl

begun_append : (b : Bool) (xs ys : List (List ℕ)) → begun_after b (xs ++ ys) ≡ begun_after (begun_after b xs) ys
begun_append b [] ys = refl
begun_append b (x ∷ xs) ys = sym (begun_true ys)

listed_true : (xs ys : List (List ℕ)) → listed true xs ++ listed (begun_after true xs) ys ≡ listed true xs ++ listed true ys
listed_true xs ys = ap (λ (c : Bool). listed true xs ++ listed c ys) (begun_true xs)

-- records behind others are written behind them
pub listed_append : (b : Bool) (xs ys : List (List ℕ)) → listed b (xs ++ ys) ≡ listed b xs ++ listed (begun_after b xs) ys
listed_append b [] ys = refl
listed_append b (x ∷ xs) ys =
    ap (λ (l : List ℕ). separator b ++ x ++ l) (listed_append true xs ys ∙ listed_true xs ys)
    ∙ sym (append_assoc (separator b ++ x) (listed true xs) (listed true ys))

-- what is added in two parts is added
pub adds_both : (a b c : Sheet) (xs ys : List (List ℕ)) → Adds a b xs → Adds b c ys → Adds a c (xs ++ ys)
adds_both a b c xs ys p q = record {
  text = q.text ∙ ap (λ (l : List ℕ). l ++ listed b.begun ys) p.text
      ∙ append_assoc a.text.items (listed a.begun xs) (listed b.begun ys)
      ∙ ap (λ (e : Bool). a.text.items ++ (listed a.begun xs ++ listed e ys)) p.begun
      ∙ ap (λ (l : List ℕ). a.text.items ++ l) (sym (listed_append a.begun xs ys));
  begun = q.begun ∙ ap (λ (e : Bool). begun_after e ys) p.begun ∙ sym (begun_append a.begun xs ys);
}

pub wrote_none : (now : Option (List ℕ)) (s : Sheet) → Wrote now now s s []
wrote_none now s = record { text = []; taken = Appends-nil now; same = append-nil s.text.items; begun = refl }

-- what was only added is still on the sheet
pub wrote_added : (now : Option (List ℕ)) (s t : Sheet) (xs : List (List ℕ)) → Adds s t xs → Wrote now now s t xs
wrote_added now s t xs p = record { text = []; taken = Appends-nil now; same = sym p.text; begun = p.begun }

-- all that was on the sheet, and two parts of records, where the first was written
both_are : (old now : Option (List ℕ)) (s t : Sheet) (xs ys : List (List ℕ)) (p : Wrote old now s t xs)
    → s.text.items ++ listed s.begun (xs ++ ys) ≡ p.text ++ (t.text.items ++ listed t.begun ys)
both_are old now s t xs ys p =
    ap (λ (l : List ℕ). s.text.items ++ l) (listed_append s.begun xs ys)
    ∙ sym (append_assoc s.text.items (listed s.begun xs) (listed (begun_after s.begun xs) ys))
    ∙ ap (λ (l : List ℕ). l ++ listed (begun_after s.begun xs) ys) p.same
    ∙ ap (λ (e : Bool). (p.text ++ t.text.items) ++ listed e ys) (sym p.begun)
    ∙ append_assoc p.text t.text.items (listed t.begun ys)

pub wrote_both : (old now new : Option (List ℕ)) (s t u : Sheet) (xs ys : List (List ℕ)) → Wrote old now s t xs → Wrote now new t u ys → Wrote old new s u (xs ++ ys)
wrote_both old now new s t u xs ys p q = record {
  text = p.text ++ q.text;
  taken = Appends-trans old now new p.text q.text p.taken q.taken;
  same = both_are old now s t xs ys p ∙ ap (λ (l : List ℕ). p.text ++ l) q.same ∙ sym (append_assoc p.text q.text u.text.items);
  begun = q.begun ∙ ap (λ (e : Bool). begun_after e ys) p.begun ∙ sym (begun_append s.begun xs ys);
}

-- where the second part failed a prefix of both was taken
pub wrote_part : (old now new : Option (List ℕ)) (s t : Sheet) (xs ys : List (List ℕ)) → Wrote old now s t xs
    → AppendsPrefix now new (t.text.items ++ listed t.begun ys) → AppendsPrefix old new (s.text.items ++ listed s.begun (xs ++ ys))
wrote_part old now new s t xs ys p failed =
    subst (AppendsPrefix old new) (sym (both_are old now s t xs ys p))
    (prefix_behind old now new p.text (t.text.items ++ listed t.begun ys) p.taken failed)

-- a prefix of some records is one of all that begins with them
pub prefix_longer : (old new : Option (List ℕ)) (s : Sheet) (xs ys : List (List ℕ)) → AppendsPrefix old new (s.text.items ++ listed s.begun xs)
    → AppendsPrefix old new (s.text.items ++ listed s.begun (xs ++ ys))
prefix_longer old new s xs ys p =
    subst (AppendsPrefix old new)
    (append_assoc s.text.items (listed s.begun xs) (listed (begun_after s.begun xs) ys)
    ∙ ap (λ (l : List ℕ). s.text.items ++ l) (sym (listed_append s.begun xs ys)))
    (prefix_more old new (s.text.items ++ listed s.begun xs) (listed (begun_after s.begun xs) ys) p)

-- the records that were written so far are all but the rest
pub record SoFar (old now : Option (List ℕ)) (s t : Sheet) (whole rest : List (List ℕ)) : Type 0 where
  pub done : List (List ℕ)
  pub cut : whole ≡ done ++ rest
  pub wrote : Wrote old now s t done

pub so_far_nothing : (now : Option (List ℕ)) (s : Sheet) (whole : List (List ℕ)) → SoFar now now s s whole whole
so_far_nothing now s whole = record { done = []; cut = refl; wrote = wrote_none now s }

pub so_far_step : (old now new : Option (List ℕ)) (s t u : Sheet) (whole part rest : List (List ℕ)) → SoFar old now s t whole (part ++ rest)
    → Wrote now new t u part → SoFar old new s u whole rest
so_far_step old now new s t u whole part rest so wrote = record {
  done = so.done ++ part;
  cut = so.cut ∙ sym (append_assoc so.done part rest);
  wrote = wrote_both old now new s t u so.done part so.wrote wrote;
}

pub so_far_failed : (old now new : Option (List ℕ)) (s t : Sheet) (whole part rest : List (List ℕ)) → SoFar old now s t whole (part ++ rest)
    → AppendsPrefix now new (t.text.items ++ listed t.begun part) → AppendsPrefix old new (s.text.items ++ listed s.begun whole)
so_far_failed old now new s t whole part rest so failed =
    subst (λ (w : List (List ℕ)). AppendsPrefix old new (s.text.items ++ listed s.begun w)) (sym so.cut)
    (wrote_part old now new s t so.done (part ++ rest) so.wrote (prefix_longer now new t part rest failed))

pub so_far_end : (old now : Option (List ℕ)) (s t : Sheet) (whole : List (List ℕ)) → SoFar old now s t whole [] → Wrote old now s t whole
so_far_end old now s t whole so =
    subst (λ (w : List (List ℕ)). Wrote old now s t w) (sym (so.cut ∙ append-nil so.done)) so.wrote

-- what stands behind all records is written behind them
pub ended : (old now new : Option (List ℕ)) (s t : Sheet) (xs : List (List ℕ)) (end : List ℕ) (r : Result (Unit {0}) TraceError) → Wrote old now s t xs
    → Writes now new (t.text.items ++ end) r → Writes old new ((s.text.items ++ listed s.begun xs) ++ end) r
ended old now new s t xs end (Ok done) p wrote =
    subst (Appends old new) (sym (append_assoc p.text t.text.items end) ∙ ap (λ (l : List ℕ). l ++ end) (sym p.same))
    (Appends-trans old now new p.text (t.text.items ++ end) p.taken wrote)
ended old now new s t xs end (Err error) p wrote =
    subst (AppendsPrefix old new) (sym (append_assoc p.text t.text.items end) ∙ ap (λ (l : List ℕ). l ++ end) (sym p.same))
    (prefix_behind old now new p.text (t.text.items ++ end) p.taken wrote)

-- two parts, of which the first was written
pub both_written : (old now new : Option (List ℕ)) (s t u : Sheet) (xs ys : List (List ℕ)) (r : Result (Unit {0}) TraceError) → Wrote old now s t xs
    → WritesRecords now new t u ys r → WritesRecords old new s u (xs ++ ys) r
both_written old now new s t u xs ys (Ok done) p q = wrote_both old now new s t u xs ys p q
both_written old now new s t u xs ys (Err error) p q = wrote_part old now new s t xs ys p q

-- what was added, and then perhaps written
pub added_written : (now new : Option (List ℕ)) (s t u : Sheet) (xs : List (List ℕ)) (r : Result (Unit {0}) TraceError) → Adds s t xs
    → WritesRecords now new t u [] r → WritesRecords now new s u xs r
added_written now new s t u xs r p q =
    subst (λ (w : List (List ℕ)). WritesRecords now new s u w r) (append-nil xs)
    (both_written now now new s t u xs [] r (wrote_added now s t xs p) q)

-- a sheet that was written is empty
pub written_out : (old new : Option (List ℕ)) (s t : Sheet) → Appends old new s.text.items → t.text.items ≡ [] → t.begun ≡ s.begun → Wrote old new s t []
written_out old new s t taken empty same =
    record { text = s.text.items; taken = taken; same = ap (λ (l : List ℕ). s.text.items ++ l) (sym empty); begun = same }

-- or a prefix of it was
pub written_in_part : (old new : Option (List ℕ)) (s : Sheet) → AppendsPrefix old new s.text.items → AppendsPrefix old new (s.text.items ++ listed s.begun [])
written_in_part old new s part = subst (AppendsPrefix old new) (sym (append-nil s.text.items)) part

-- a trace that failed, or ended
pub failed_before : (old new : Option (List ℕ)) (s : Sheet) (xs : List (List ℕ)) (end head : List ℕ) → s.text.items ≡ head → s.begun ≡ false
    → AppendsPrefix old new (s.text.items ++ listed s.begun xs) → AppendsPrefix old new ((head ++ listed false xs) ++ end)
failed_before old new s xs end head is first part =
    prefix_more old new (head ++ listed false xs) end
    (subst (λ (b : Bool). AppendsPrefix old new (head ++ listed b xs)) first
    (subst (λ (l : List ℕ). AppendsPrefix old new (l ++ listed s.begun xs)) is part))

pub ended_after : (old now new : Option (List ℕ)) (s t : Sheet) (xs : List (List ℕ)) (end head : List ℕ) (r : Result (Unit {0}) TraceError) → s.text.items ≡ head
    → s.begun ≡ false → Wrote old now s t xs → Writes now new (t.text.items ++ end) r → Writes old new ((head ++ listed false xs) ++ end) r
ended_after old now new s t xs end head r is first p wrote =
    subst (λ (b : Bool). Writes old new ((head ++ listed b xs) ++ end) r) first
    (subst (λ (l : List ℕ). Writes old new ((l ++ listed s.begun xs) ++ end) r) is (ended old now new s t xs end r p wrote))
