-- The answers of jobs, one job after another.
use Rattle.std.proofs.Common.{◌≡◌, ◌<◌, List, [], ◌∷◌, ◌++◌, length, map, All}
use Rattle.std.proofs.lemmas.List.{get_or-map, length-map}
use Rattle.std.proofs.lemmas.List.Elements.{All-map}
use Rattle.mq_jobs.specs.Jobs.{AreAfter}

add : {J A : Type 0} (after : J → A → Type 0) (jobs : List J) (answers : List A) (job : J) (answer : A)
    → AreAfter after jobs answers → after job answer → AreAfter after (jobs ++ job ∷ []) (answers ++ answer ∷ [])
add after [] [] job answer all one = (one, tt)
add after [] (a ∷ answers) job answer all one = absurd all
add after (j ∷ jobs) [] job answer all one = absurd all
add after (j ∷ jobs) (a ∷ answers) job answer all one = (all.0, add after jobs answers job answer all.1 one)

-- one more job at the end, and its answer
pub one_more : {J A : Type 0} (after : J → A → Type 0) (jobs front : List J) (answers most : List A) (job : J) (answer : A)
    → jobs ≡ front ++ job ∷ [] → answers ≡ most ++ answer ∷ [] → AreAfter after front most → after job answer
    → AreAfter after jobs answers
one_more after jobs front answers most job answer last pushed all one =
    rw last (rw pushed (add after front most job answer all one))

-- Jobs that are made of other things, each of one: `seen` and `meant` say what a job and a thing have in common.
module _ {J X V : Type 0} (seen : J → V) (meant : X → V) where
  -- what holds of each thing before holds of each job
  pub made_before : (before : V → Type 0) (jobs : List J) (things : List X) → map seen jobs ≡ map meant things
      → All (λ x. before (meant x)) things → All (λ j. before (seen j)) jobs
  made_before before jobs things e all k d lt =
      let mapped : All before (map meant things) = All-map before meant things all in
      let same : All before (map seen jobs) = rw e mapped in
      let long : k < length (map seen jobs) = rw (length-map jobs seen) lt in
      rw (get_or-map seen jobs k d (seen d) lt) at (same k (seen d) long)

  -- what holds of each job and its answer holds of each thing and that answer
  pub made_after : {A : Type 0} (after : V → A → Type 0) (jobs : List J) (things : List X) (answers : List A) → map seen jobs ≡ map meant things
      → AreAfter (λ j. after (seen j)) jobs answers → AreAfter (λ x. after (meant x)) things answers
  made_after after [] [] [] e all = tt
  made_after after [] [] (a ∷ answers) e all = absurd all
  made_after after [] (x ∷ things) answers e all = absurd (cc e)
  made_after after (j ∷ jobs) [] answers e all = absurd (cc e)
  made_after after (j ∷ jobs) (x ∷ things) [] e all = absurd all
  made_after after (j ∷ jobs) (x ∷ things) (a ∷ answers) e all =
      let here : seen j ≡ meant x = cc in
      let rest : map seen jobs ≡ map meant things = cc in
      (rw here at all.0, made_after after jobs things answers rest all.1)
