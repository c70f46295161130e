-- Histories by their parent and last step.
use Rattle.std.specs.Prelude.{ℕ, ◌≡◌, ◌<◌, ◌↔◌, List, [], length, Some, slice_get}
use Rattle.std.specs.declared.cmp.Ordering.{Ordering}
use Rattle.std.specs.Option.{option_cmp}
use Rattle.std.specs.Ordering.{nat_cmp, on, then_cmp}
use Rattle.lab_unfold.specs.declared.history.HistoryId.{HistoryId}
use Rattle.lab_unfold.specs.declared.history.Step.{Step}
use Rattle.lab_unfold.specs.declared.history.History.{History}
use Rattle.lab_unfold.specs.Values.{all_steps, IsLonger}

-- by the number
abbrev pub id_cmp : HistoryId → HistoryId → Ordering
id_cmp = on (λ i. i.0) nat_cmp

-- by the first seat's action, then by the second's, then by the outcome
abbrev pub place_cmp : Step → Step → Ordering
place_cmp = then_cmp (on (λ s. s.place1) nat_cmp) (then_cmp (on (λ s. s.place2) nat_cmp) (on (λ s. s.outcome) nat_cmp))

-- by the parent, then by the last step; the history with no step is first
abbrev pub birth_cmp : History → History → Ordering
birth_cmp = then_cmp (on (λ h. h.parent) (option_cmp id_cmp)) (on (λ h. h.step) (option_cmp place_cmp))

-- the history with the number k has this parent and this last step
abbrev pub IsChild : List History → HistoryId → Step → ℕ → Type 0
IsChild items id step k = (h : History) × (slice_get items k ≡ Some h) × (h.parent ≡ Some id) × (h.step ≡ Some step)

-- parents and last steps tell which history is longer by which step
abbrev pub TellLonger : List History → Type 0
TellLonger items = (id : HistoryId) (s : Step) (k : ℕ) → id.0 < length items → IsChild items id s k ↔ IsLonger (all_steps [] items) id.0 s k
