-- What an opponent sees of a form against a strategy: the step that each set follows, and each row's last step and worth.
use Rattle.std.specs.Prelude.{◌≡◌, ℕ, zero, suc, ◌-◌, ◌*◌, ◌^◌, ◌<◌, ◌≤◌, ℤ, pos, ◌+ℤ◌, ◌*ℤ◌, ◌≤ℤ◌, List, [], ◌∷◌, if◌then◌else◌, ◌==◌, Option, Some, None, filter, length, All, slice_index}
use Rattle.lab_math.specs.Sums.{total, product_over}
use Rattle.lab_math.specs.Below.{total_below}
use Rattle.lab_defs_game.specs.Forms.{deciding}
use Rattle.lab_defs_game.specs.Paths.{SetAction, is_taken}
use Rattle.lab_defs_value.specs.Parents.{passes_through, IsStepBelow}
use Rattle.lab_defs_value.specs.Replies.{Reply, IsReply, reply_factor}

-- a row: what it is worth, and its last step
pub record Ending : Type 0 where
  pub worth : ℤ
  pub last : Option SetAction

-- the numbers of actions of the sets, the step that each follows, and the rows
pub record StepForm : Type 0 where
  pub actions : List ℕ
  pub parent : ℕ → Option SetAction
  pub rows : List Ending

abbrev pub actions_at : StepForm → ℕ → ℕ
actions_at v J = slice_index v.actions J

-- the steps from the last one back to the first, at most k of them
abbrev pub steps_back : StepForm → ℕ → Option SetAction → List SetAction
steps_back v zero s = []
steps_back v (suc k) None = []
steps_back v (suc k) (Some s) = s ∷ steps_back v k (v.parent s.set)

-- all steps on a row, the last one first
abbrev pub trail : StepForm → Ending → List SetAction
trail v z = steps_back v (length v.actions) z.last

-- of the steps, those from the set I on
abbrev pub from_set : ℕ → List SetAction → List SetAction
from_set I [] = []
from_set I (s ∷ t) = if s.set == I then s ∷ [] else s ∷ from_set I t

-- the reply's weights from the set I on, made up to m factors
abbrev pub tail_back : StepForm → ℕ → Reply → ℕ → List SetAction → ℕ
tail_back v m r I t = product_over (reply_factor v.actions r) (from_set I t) * r.all ^ (m - deciding v.actions (from_set I t))

-- what the reply earns on the rows through I
abbrev pub earned_back : StepForm → ℕ → Reply → ℕ → ℤ
earned_back v m r I = total (λ z. z.worth *ℤ pos (tail_back v m r I (trail v z))) (filter (λ z. passes_through I (trail v z)) v.rows)

-- no row has more than m decisions
abbrev pub AtMostDecisions : StepForm → ℕ → Type 0
AtMostDecisions v m = All (λ z. deciding v.actions (trail v z) ≤ m) v.rows

-- what an action backs up
abbrev pub backed : StepForm → (ℕ → ℤ) → ℕ → ℕ → ℤ
backed v B J a =
    total_below (length v.actions) (λ I. if is_taken (record { set = J; action = a }) (v.parent I) then B I else pos 0)
    +ℤ total (λ z. if is_taken (record { set = J; action = a }) z.last then z.worth else pos 0) v.rows

-- each set has an action and follows an earlier one, and each row's last step is there
pub record IsStepForm (v : StepForm) : Type 0 where
  pub parents : (J : ℕ) → J < length v.actions → IsStepBelow v.actions J (v.parent J)
  pub some_action : (J : ℕ) → J < length v.actions → 1 ≤ actions_at v J
  pub lasts : All (λ z. IsStepBelow v.actions (length v.actions) z.last) v.rows

-- each number of B is the greatest of what its actions back up
pub record BackedUp (v : StepForm) (B : ℕ → ℤ) : Type 0 where
  pub bounds : (J a : ℕ) → J < length v.actions → a < actions_at v J → backed v B J a ≤ℤ B J
  pub taken : (J : ℕ) → J < length v.actions → (a : ℕ) × (a < actions_at v J) × (backed v B J a ≡ B J)

-- B is the greatest of what is backed up, at J
pub record BackedAt (v : StepForm) (B : ℕ → ℤ) (J : ℕ) : Type 0 where
  pub bounds : (a : ℕ) → a < actions_at v J → backed v B J a ≤ℤ B J
  pub taken : (a : ℕ) × (a < actions_at v J) × (backed v B J a ≡ B J)

-- b is the most that replies earn at I
pub record BestBack (v : StepForm) (m I : ℕ) (b : ℤ) : Type 0 where
  pub bounds : (r : Reply) → IsReply v.actions r → earned_back v m r I ≤ℤ (pos (r.all ^ m) *ℤ b)
  pub earns : (r : Reply) × IsReply v.actions r × (r.all ≡ 1) × (earned_back v m r I ≡ b)
