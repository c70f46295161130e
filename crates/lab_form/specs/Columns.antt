-- What a form keeps beside its sets and rows.
use Rattle.std.specs.Prelude.{ℕ, zero, suc, ◌==◌, ◌≡◌, ◌<◌, ◌≤◌, List, [], ◌∷◌, ◌++◌, length, slice_index, slice_index_or, slice_set, Option, Some, None}
use Rattle.lab_form.specs.declared.items.SetId.{SetId}
use Rattle.lab_form.specs.declared.items.FormSet.{FormSet}
use Rattle.lab_form.specs.declared.items.FormRow.{FormRow}
use Rattle.lab_form.specs.Forms.{FormValue, AreSets, AreShort, IsFormValue, last_of}
use Rattle.lab_form.specs.Chains.{last_to_first}
use Rattle.lab_form.specs.Decisions.{decisions_above, row_decisions, sets_above, deciding_sets}

-- ---- links

-- at most so many numbers along the links from one on, each plus one in the links; 0 ends
abbrev pub chained_within : ℕ → List ℕ → ℕ → List ℕ
chained_within zero links next = []
chained_within (suc k) links zero = []
chained_within (suc k) links (suc n) = n ∷ chained_within k links (slice_index links n)

-- the numbers along the links from one on
abbrev pub chained : List ℕ → ℕ → List ℕ
chained links next = chained_within next links next

-- each link leads to a lower number, or ends
abbrev pub AreLinks : List ℕ → Type 0
AreLinks links = (i : ℕ) → i < length links → slice_index links i ≤ i

-- links, and for each place where they begin
pub record AreHeads (heads links : List ℕ) : Type 0 where
  pub some : 0 < length heads
  pub order : AreLinks links
  pub within : (k : ℕ) → k < length heads → slice_index heads k ≤ length links

-- ---- chains by place

-- for each place the numbers that are chained there, how many there are, and for how many places after the first and for how many numbers there is room
pub record ChainsValue : Type 0 where
  pub lists : List (List ℕ)
  pub count : ℕ
  pub set_room : ℕ
  pub item_room : ℕ

-- one place, with no number
abbrev pub empty_chains : (sets items : ℕ) → ChainsValue
empty_chains sets items = record { lists = [] ∷ []; count = 0; set_room = sets; item_room = items }

-- with one more place
abbrev pub with_place : ChainsValue → ChainsValue
with_place c = record { lists = c.lists ++ [] ∷ []; count = c.count; set_room = c.set_room; item_room = c.item_room }

-- with the next number at a place
abbrev pub with_number : ChainsValue → ℕ → ChainsValue
with_number c place = record {
  lists = slice_set c.lists place (c.count ∷ slice_index_or c.lists place []);
  count = suc c.count;
  set_room = c.set_room;
  item_room = c.item_room;
}

-- the place of a set: 0 for none
abbrev pub place_of : Option SetId → ℕ
place_of None = 0
place_of (Some s) = suc s.0

-- the place of a step's set
abbrev pub place_of_step : Option (SetId × ℕ) → ℕ
place_of_step None = 0
place_of_step (Some t) = suc t.0.0

-- the items are chained at the places of their steps' sets
pub record AreChains {A : Type 0} (sets : ℕ) (step : A → Option (SetId × ℕ)) (items : List A) (c : ChainsValue) : Type 0 where
  pub places : length c.lists ≡ suc sets
  pub count : c.count ≡ length items
  pub each : (k : ℕ) → k ≤ sets → slice_index_or c.lists k [] ≡ last_to_first (λ x. place_of_step (step x) == k) items

-- ---- the columns of a seat

-- the sets of a seat, its chains of rows, and for how many sets there is room
pub record SeatValue : Type 0 where
  pub sets : List FormSet
  pub rows : ChainsValue
  pub set_room : ℕ

-- no set and no row
abbrev pub empty_seat : (sets rows : ℕ) → SeatValue
empty_seat sets rows = record { sets = []; rows = empty_chains sets rows; set_room = sets }

-- with one more set
abbrev pub seat_with_set : SeatValue → FormSet → SeatValue
seat_with_set v s = record { sets = v.sets ++ s ∷ []; rows = with_place v.rows; set_room = v.set_room }

-- with one more row, whose last step of the seat is this
abbrev pub seat_with_row : SeatValue → Option (SetId × ℕ) → SeatValue
seat_with_row v step = record { sets = v.sets; rows = with_number v.rows (place_of_step step); set_room = v.set_room }

-- the decisions above the sets of a seat and the sets of these, the sets that decide, the chains of children, and a place for the rows at each
pub record AreColumns (sets : List FormSet) (above over deciding : List ℕ) (children rows : ChainsValue) (set_room : ℕ) : Type 0 where
  pub order : AreSets sets
  pub short : AreShort sets
  pub room : length sets ≤ set_room
  pub decisions : above ≡ decisions_above sets
  pub sets_over : over ≡ sets_above sets
  pub deciders : deciding ≡ deciding_sets sets
  pub chains : AreChains (length sets) (λ (s : FormSet). s.parent) sets children
  pub places : length rows.lists ≡ suc (length sets)
  pub child_places : children.set_room ≡ set_room
  pub child_room : children.item_room ≡ set_room
  pub row_places : rows.set_room ≡ set_room

-- ---- the columns of a form

-- a form with what its seats keep, and its rows
abbrev pub form_in : (one two : SeatValue) → List FormRow → (set_room row_room : ℕ) → FormValue
form_in one two rows set_room row_room = record { sets1 = one.sets; sets2 = two.sets; rows = rows; set_room = set_room; row_room = row_room }

-- what the two seats keep, and the decisions of the rows, are those of the form
pub record AreKept (f : FormValue) (one two : SeatValue) (last : List (List ℕ)) : Type 0 where
  pub value : IsFormValue f
  pub rows1 : AreChains (length f.sets1) (λ (r : FormRow). last_of r 1) f.rows one.rows
  pub rows2 : AreChains (length f.sets2) (λ (r : FormRow). last_of r 2) f.rows two.rows
  pub decisions : last ≡ row_decisions f.sets1 f.sets2 f.rows
  pub set_room1 : one.set_room ≡ f.set_room
  pub set_room2 : two.set_room ≡ f.set_room
  pub row_room1 : one.rows.item_room ≡ f.row_room
  pub row_room2 : two.rows.item_room ≡ f.row_room
