-- Laws of best values, bounds and allowances.
use Rattle.std.specs.Prelude.{◌≡◌, ℕ, ◌+◌, ◌-◌, ◌*◌, ◌^◌, unsigned_abs, ◌<◌, ◌≤◌, ◌||◌, nat_lt, nat_le, slice_index, ℤ, pos, neg_ℤ, ◌*ℤ◌, ◌≤ℤ◌, List, length, true, false, ◌↔◌, ◌⊎◌, All, Some, None, ◌+ℤ◌, ◌-ℤ◌}
use Rattle.lab_defs_text.specs.Texts.{one_of}
use Rattle.lab_math.specs.Sums.{sum_over}
use Rattle.lab_math.specs.Below.{sum_below}
use Rattle.lab_defs_text.specs.Games.{GameModel}
use Rattle.lab_defs_game.specs.Sets.{sets}
use Rattle.lab_defs_game.specs.Forms.{Row, Form, sets_of, parent_of, chain, actions_of, path_of, pad_of, decides, deciding}
use Rattle.lab_defs_game.specs.Paths.{SetAction}
use Rattle.lab_defs_value.specs.Rounding.{even_part}
use Rattle.lab_defs_value.specs.Smallness.{factors_at}
use Rattle.lab_defs_value.specs.Tables.{first_weight, whole_table, factor, own_weight}
use Rattle.lab_defs_value.specs.Expectation.{expectation}
use Rattle.lab_defs_value.specs.Parents.{IsForm, is_form, passes_through, begins_at}
use Rattle.lab_defs_value.specs.Replies.{Strategy, Reply, IsReply, opponent, reply_sets, factors_in, reply_factors, reply_by, IsTable, worth_against, earned}
use Rattle.lab_defs_value.specs.BestValues.{IsBest, IsChoice, pure_reply, best_response_value}
use Rattle.lab_defs_value.specs.Bounds.{through, through_rows, Holds, holds, IsBackedUp, IsBackedAt, Tight}
use Rattle.lab_defs_value.specs.Allowances.{Rule, reach, pool, shared, allowance, Ascends, path_followers}
use Rattle.lab_defs_game.specs.Nodes.{path_sets}
use Rattle.lab_defs_value.specs.Settling.{with_bound, settled}
use Rattle.lab_defs_value.specs.Splices.{FitsSpan, spliced, with_table, stays_outside, encloses}
use Rattle.lab_defs_value.specs.Matching.{path_before}
use Rattle.lab_defs_value.specs.Passes.{limit, Passes, excess, least_margin, first_above}

-- the opponent's sets and paths are those of a form
abbrev pub Sound : Strategy → Type 0
Sound s = IsForm s.form (opponent s)

-- each row has as many factors of a seat, its decisions and pad together
abbrev pub HasFactors : Form → ℕ → Type 0
HasFactors f seat = All (λ (z : Row). factors_at f seat z ≡ factors_in f seat) f.rows

-- each row begins at set 0 of a seat and has as many factors
pub record IsPadded (f : Form) (seat : ℕ) : Type 0 where
  pub first : All (λ (z : Row). begins_at (path_of z seat) 0 ≡ true) f.rows
  pub factors : HasFactors f seat

-- the test whether a form is well made says so exactly where it is
abbrev pub FormTestLaw : Type 0
FormTestLaw = (f : Form) (seat : ℕ) → (is_form f seat ≡ true) ↔ IsForm f seat

-- in a form a row that passes through a set comes to it from the set's parent: the steps before it are the chain of parents that ends there
abbrev pub ChainLaw : Type 0
ChainLaw = (f : Form) (seat : ℕ) → IsForm f seat → All (λ (z : Row). (I : ℕ) → passes_through I (path_of z seat) ≡ true
    → path_before I (path_of z seat) ≡ chain (sets_of f seat) (parent_of f seat I)) f.rows

-- a set has at most one best-response value
abbrev pub UniqueBestLaw : Type 0
UniqueBestLaw = (s : Strategy) (I : ℕ) (b c : ℤ) → IsBest s I b → IsBest s I c → b ≡ c

-- what an action backs up: each set that follows it directly counts there by its bound, whether a row passes through it or not, and no other set does; without any it is what the rows are worth that end with the action
abbrev pub ThroughLaw : Type 0
ThroughLaw = (s : Strategy) (B : ℕ → ℤ) (J a I : ℕ) (bound : ℤ) → I < length (reply_sets s) →
    (parent_of s.form (opponent s) I ≡ Some (record { set = J; action = a }) → through s (with_bound B I bound) J a ≡ through s B J a +ℤ (bound -ℤ B I))
    × ((parent_of s.form (opponent s) I ≡ Some (record { set = J; action = a }) → ⊥) → through s (with_bound B I bound) J a ≡ through s B J a)
    × (through s (λ K. pos 0) J a ≡ through_rows s J a)

-- a table is backed up exactly where its numbers are the best values
abbrev pub BackedUpLaw : Type 0
BackedUpLaw = (s : Strategy) → Sound s → (B : ℕ → ℤ) → IsBackedUp s B ↔ Tight s B

-- a table is of best values once each of its numbers is one, or is the greatest of what the numbers after it back up
abbrev pub SettleLaw : Type 0
SettleLaw = (s : Strategy) → Sound s → (B : ℕ → ℤ) → ((J : ℕ) → J < length (reply_sets s) → IsBest s J (B J) ⊎ IsBackedAt s B J) → Tight s B

-- sets inside and above that belong together: what follows a set inside is inside, what a set inside or above follows is inside or above, and none is both
pub record IsNear (s : Strategy) (above inside : List ℕ) : Type 0 where
  pub in_order : Ascends 0 (length (reply_sets s)) above
  pub apart : (I : ℕ) → one_of inside I ≡ true → one_of above I ≡ false
  pub children : (I : ℕ) (t : SetAction) → I < length (reply_sets s) → parent_of s.form (opponent s) I ≡ Some t → one_of inside t.set ≡ true → one_of inside I ≡ true
  pub parents : (I : ℕ) (t : SetAction) → I < length (reply_sets s) → parent_of s.form (opponent s) I ≡ Some t → (one_of inside I || one_of above I) ≡ true → (one_of inside t.set || one_of above t.set) ≡ true

-- what bounds become that are settled: at the sets inside the best-response values, at those above the greatest that the actions back up, and elsewhere as they were. They hold where they held at the other sets, and are tight where those were
abbrev pub SettledLaw : Type 0
SettledLaw = (s : Strategy) → Sound s → (above inside : List ℕ) → IsNear s above inside → (B : ℕ → ℤ) →
    let C = settled s above inside B in
    let IsOff = λ (J : ℕ). (J < length (reply_sets s)) × ((one_of inside J || one_of above J) ≡ false) in
    ((J : ℕ) → J < length (reply_sets s) → one_of inside J ≡ true → C J ≡ best_response_value s J)
    × ((J : ℕ) → J < length (reply_sets s) → one_of above J ≡ true → IsBackedAt s C J)
    × ((J : ℕ) → IsOff J → C J ≡ B J)
    × (((J a : ℕ) → IsOff J → a < slice_index (reply_sets s) J → through s B J a ≤ℤ B J) → Holds s C)
    × (((J : ℕ) → IsOff J → IsBest s J (B J)) → Tight s C)

-- the most that pure replies earn is the best-response value at each set, and these are backed up
abbrev pub BestResponseLaw : Type 0
BestResponseLaw = (s : Strategy) → Sound s → Tight s (best_response_value s) × IsBackedUp s (best_response_value s)

-- where each row begins at set 0 of the opponent and has its pad, a table as a reply earns at set 0 what its seat expects
abbrev pub ExpectationLaw : Type 0
ExpectationLaw = (f : Form) (grid1 grid2 : ℕ) (table1 table2 : List ℕ)
    → (IsPadded f 2 → earned (record { form = f; keeper = 1; grid = grid1; table = table1 }) (reply_by grid2 (actions_of f 2) table2) 0 ≡ neg_ℤ (expectation grid1 grid2 f table1 table2))
    × (IsPadded f 1 → earned (record { form = f; keeper = 2; grid = grid2; table = table2 }) (reply_by grid1 (actions_of f 1) table1) 0 ≡ expectation grid1 grid2 f table1 table2)

-- a table that puts the whole grid on a chosen action at each deciding set is a table
abbrev pub WholeIsTableLaw : Type 0
WholeIsTableLaw = (grid : ℕ) (actions choice : List ℕ) → 1 ≤ grid → IsChoice actions choice → IsTable actions grid (whole_table grid actions choice)

-- by such a table a seat expects what the pure reply earns, the best value where that is a best one, times the power of its grid
abbrev pub WholeTableLaw : Type 0
WholeTableLaw = (f : Form) (grid1 grid2 : ℕ) (table1 table2 choice : List ℕ) (b : ℤ)
    → (IsForm f 2 → IsPadded f 2 → earned (record { form = f; keeper = 1; grid = grid1; table = table1 }) (pure_reply choice) 0 ≡ b
    → neg_ℤ (expectation grid1 grid2 f table1 (whole_table grid2 (actions_of f 2) choice)) ≡ b *ℤ pos (grid2 ^ factors_in f 2))
    × (IsForm f 1 → IsPadded f 1 → earned (record { form = f; keeper = 2; grid = grid2; table = table2 }) (pure_reply choice) 0 ≡ b
    → expectation grid1 grid2 f (whole_table grid1 (actions_of f 1) choice) table2 ≡ b *ℤ pos (grid1 ^ factors_in f 1))

-- and against a table some such table earns the best value at the first set
abbrev pub BestTableLaw : Type 0
BestTableLaw = (f : Form) (grid1 grid2 : ℕ) (table1 table2 : List ℕ)
    → (IsForm f 2 → IsPadded f 2 → 0 < length (actions_of f 2)
    → (choice : List ℕ) × IsChoice (actions_of f 2) choice
    × (neg_ℤ (expectation grid1 grid2 f table1 (whole_table grid2 (actions_of f 2) choice)) ≡ best_response_value (record { form = f; keeper = 1; grid = grid1; table = table1 }) 0 *ℤ pos (grid2 ^ factors_in f 2)))
    × (IsForm f 1 → IsPadded f 1 → 0 < length (actions_of f 1)
    → (choice : List ℕ) × IsChoice (actions_of f 1) choice
    × (expectation grid1 grid2 f (whole_table grid1 (actions_of f 1) choice) table2 ≡ best_response_value (record { form = f; keeper = 2; grid = grid2; table = table2 }) 0 *ℤ pos (grid1 ^ factors_in f 1)))

-- where a table holds, no reply earns more than its numbers
abbrev pub HoldsLaw : Type 0
HoldsLaw = (s : Strategy) → Sound s → (B : ℕ → ℤ) → Holds s B → (r : Reply) → IsReply (reply_sets s) r → (I : ℕ) → I < length (reply_sets s)
    → earned s r I ≤ℤ (pos (r.all ^ reply_factors s) *ℤ B I)

-- the test whether a table holds says so exactly where it does
abbrev pub HoldsTestLaw : Type 0
HoldsTestLaw = (s : Strategy) (B : ℕ → ℤ) → (holds s B ≡ true) ↔ Holds s B

-- by reach each set has its part of the pool of the step that it follows
abbrev pub ReachLaw : Type 0
ReachLaw = (s : Strategy) → Sound s → (B : ℕ → ℤ) (path : List ℕ) (I : ℕ) → I < length (reply_sets s)
    → allowance reach s B path I ≡ shared s B path (allowance reach s B path) I (parent_of s.form (opponent s) I)

-- and the parts of one pool sum to it
abbrev pub PoolLaw : Type 0
PoolLaw = (s : Strategy) → Sound s → (B : ℕ → ℤ) (path : List ℕ) → Ascends 0 (length (reply_sets s)) path → (J a : ℕ) → 0 < length (path_followers s path J a)
    → sum_over (allowance reach s B path) (path_followers s path J a) ≡ pool s B (allowance reach s B path) J a

-- an even part is at least that of the next place, and at most one more; and all of them sum to the number: so what remains goes one each to the first
abbrev pub EvenPartLaw : Type 0
EvenPartLaw = (number m : ℕ) → 1 ≤ m →
    ((place : ℕ) → (even_part number m (place + 1) ≤ even_part number m place) × (even_part number m place ≤ even_part number m (place + 1) + 1))
    × (sum_below m (even_part number m) ≡ number)

-- the sets on a public path are in order
abbrev pub PathOrderLaw : Type 0
PathOrderLaw = (g : GameModel) (seat : ℕ) (node : List ℕ) → Ascends 0 (length (sets g seat)) (path_sets g seat node)

-- a strategy passes at a node exactly where no best-response value there is above its limit, and where the least margin is not negative
abbrev pub PassLaw : Type 0
PassLaw = (s : Strategy) → Sound s → (B : ℕ → ℤ) (allow : ℕ → ℕ) (node : List ℕ) → All (λ I. I < length (reply_sets s)) node
    → (Passes s B allow node ↔ (first_above s B allow node ≡ None))
    × (Passes s B allow node ↔ All (λ I. excess s B allow I ≤ℤ pos 0) node)
    × (0 < length node → Passes s B allow node ↔ (pos 0 ≤ℤ least_margin s B allow node))

-- a splice has the proposal's weights at the sets of its span, and the table's elsewhere
abbrev pub SpliceLaw : Type 0
SpliceLaw = (actions : List ℕ) (start end : ℕ) (table proposal : List ℕ) → FitsSpan actions start end table proposal
    → (length (spliced actions start end table proposal) ≡ length table)
    × ((t : SetAction) → t.action < slice_index actions t.set → (nat_lt t.set start || nat_le end t.set) ≡ true → factor actions (spliced actions start end table proposal) t ≡ factor actions table t)
    × ((J a : ℕ) → start ≤ J → J < end → decides actions J ≡ true → a < slice_index actions J
    → slice_index (spliced actions start end table proposal) (first_weight actions J + a) ≡ slice_index proposal (first_weight actions J - first_weight actions start + a))

-- a splice leaves what replies earn at a set whose rows stay outside its span
abbrev pub StayLaw : Type 0
StayLaw = (s : Strategy) → IsForm s.form s.keeper → (start end : ℕ) (proposal : List ℕ) → FitsSpan (actions_of s.form s.keeper) start end s.table proposal
    → (I : ℕ) → All (λ (z : Row). passes_through I (path_of z (opponent s)) ≡ true → stays_outside start end (path_of z s.keeper) ≡ true) s.form.rows
    → (r : Reply) → earned (with_table s (spliced (actions_of s.form s.keeper) start end s.table proposal)) r I ≡ earned s r I

-- what is known of a part of a strategy to be replaced: a table that holds, the path to a node, and a proposal for the span that the node encloses
pub record IsPart (s : Strategy) (B : ℕ → ℤ) (path node : List ℕ) (start end : ℕ) (proposal : List ℕ) : Type 0 where
  pub sound : Sound s
  pub keeps : IsForm s.form s.keeper
  pub table_holds : Holds s B
  pub in_order : Ascends 0 (length (reply_sets s)) path
  pub enclosed : encloses s path node start end ≡ true
  pub fits : FitsSpan (actions_of s.form s.keeper) start end s.table proposal

-- where a splice passes at a node, by any rule, no reply to it earns more than bound and allowance by reach at the sets of the path, so no more than the bound at the first set
abbrev pub SafeLaw : Type 0
SafeLaw = (s : Strategy) (B : ℕ → ℤ) (path node : List ℕ) (start end : ℕ) (proposal : List ℕ) → IsPart s B path node start end proposal
    → (rule : Rule) → Passes (with_table s (spliced (actions_of s.form s.keeper) start end s.table proposal)) B (allowance rule s B path) node
    → (r : Reply) → IsReply (reply_sets s) r
    → ((I : ℕ) → one_of path I ≡ true → earned (with_table s (spliced (actions_of s.form s.keeper) start end s.table proposal)) r I ≤ℤ (pos (r.all ^ reply_factors s) *ℤ limit B (allowance reach s B path) I))
    × (one_of path 0 ≡ true → earned (with_table s (spliced (actions_of s.form s.keeper) start end s.table proposal)) r 0 ≤ℤ (pos (r.all ^ reply_factors s) *ℤ B 0))

-- where a table of bounds holds, its first number limits what the keeper loses on average to any table of the other seat
abbrev pub GuaranteeLaw : Type 0
GuaranteeLaw = (f : Form) (grid1 grid2 : ℕ) (table1 table2 : List ℕ) (B : ℕ → ℤ)
    → (IsForm f 2 → IsPadded f 2 → 0 < length (actions_of f 2) → Holds (record { form = f; keeper = 1; grid = grid1; table = table1 }) B → IsTable (actions_of f 2) grid2 table2
    → neg_ℤ (expectation grid1 grid2 f table1 table2) ≤ℤ (pos (grid2 ^ factors_in f 2) *ℤ B 0))
    × (IsForm f 1 → IsPadded f 1 → 0 < length (actions_of f 1) → Holds (record { form = f; keeper = 2; grid = grid2; table = table2 }) B → IsTable (actions_of f 1) grid1 table1
    → expectation grid1 grid2 f table1 table2 ≤ℤ (pos (grid1 ^ factors_in f 1) *ℤ B 0))

-- what the rows are worth to the opponent, without their signs
abbrev pub worth_sizes : Strategy → ℕ
worth_sizes s = sum_over (λ z. unsigned_abs (worth_against s z)) s.form.rows

-- how large the numbers are: own weights are at most the grid to their factors, and earnings at most what all rows are worth, by the reply's number to its factors
abbrev pub WorthSizeLaw : Type 0
WorthSizeLaw = ((f : Form) (seat grid : ℕ) (table : List ℕ) → IsForm f seat → IsTable (actions_of f seat) grid table
    → All (λ (z : Row). own_weight grid (actions_of f seat) table (path_of z seat) (pad_of z seat) ≤ grid ^ (deciding (actions_of f seat) (path_of z seat) + pad_of z seat)) f.rows)
    × ((s : Strategy) → Sound s → (I : ℕ)
    → ((r : Reply) → IsReply (reply_sets s) r → unsigned_abs (earned s r I) ≤ r.all ^ reply_factors s * worth_sizes s)
    × (I < length (reply_sets s) → unsigned_abs (best_response_value s I) ≤ worth_sizes s))
