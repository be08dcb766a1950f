-- What is known of the answers of jobs.
use Rattle.std.specs.Prelude.{◌≡◌, ℕ, ◌≤◌, List, length, All}
use Rattle.std.specs.List.{AllZip}

-- what is known after a job holds of each job and its answer, which stand in the same order
abbrev pub AreAfter : {J A : Type 0} → (J → A → Type 0) → List J → List A → Type 0
AreAfter after jobs answers = AllZip after jobs answers

-- jobs of which what must hold before does, and no answer yet, with room for one of each
pub record CanRun {J A : Type 0} (must : J → Type 0) (jobs : List J) (answers : List A) (places : ℕ)
    : Type 0 where
  pub before : All must jobs
  pub none : length answers ≡ 0
  pub room : length jobs ≤ places
