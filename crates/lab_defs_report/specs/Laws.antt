-- Laws of what the program writes, and of draws.
use Rattle.std.specs.Prelude.{◌≡◌, ℕ, suc, Bool, true, false, ◌*◌, ◌/◌, ◌^◌, ◌<◌, ◌≤◌, List, ◌++◌, length, take}
use Rattle.lab_math.specs.Sums.{sum_over}
use Rattle.lab_defs_text.specs.Words.{Bytes}
use Rattle.lab_defs_report.specs.Walks.{drawn}
use Rattle.lab_defs_report.specs.Modes.{Program, mode_in, mode_answer, report_in, replies_in}

-- the first is a prefix of the second
abbrev pub IsFront : Bytes → Bytes → Type 0
IsFront front whole = (rest : Bytes) × (whole ≡ front ++ rest)

-- what is written for the first bytes of an input stays, whatever follows them
abbrev pub FrontLaw : Type 0
FrontLaw = (p : Program) (ws : List Bytes) (bytes more : Bytes)
    → IsFront (replies_in p ws bytes) (replies_in p ws (bytes ++ more)) × IsFront (replies_in p ws bytes) (report_in p ws (bytes ++ more))

-- a refusal that the first bytes of an input cause comes whatever follows them, read to the end or not, and nothing is written after it
abbrev pub RefusalLaw : Type 0
RefusalLaw = (p : Program) (ws : List Bytes) (ended : Bool) (bytes more : Bytes) → (mode_answer p false bytes (mode_in p ws)).refuses ≡ true
    → mode_answer p ended (bytes ++ more) (mode_in p ws) ≡ mode_answer p false bytes (mode_in p ws)

-- the weights of the first i items together
abbrev pub running_sum : List ℕ → ℕ → ℕ
running_sum weights i = sum_over (λ w. w) (take i weights)

-- item i is the first one whose weights so far sum to more than n
pub record IsFirstPast (weights : List ℕ) (n i : ℕ) : Type 0 where
  pub there : i < length weights
  pub past : n < running_sum weights (suc i)
  pub first : (j : ℕ) → j ≤ i → running_sum weights j ≤ n

-- a word draws the first item whose running sum passes the word's part of all weights
abbrev pub DrawLaw : Type 0
DrawLaw = (weights : List ℕ) (word : ℕ) → word < 2 ^ 64 → 0 < sum_over (λ w. w) weights
    → IsFirstPast weights (word * sum_over (λ w. w) weights / 2 ^ 64) (drawn weights word)
