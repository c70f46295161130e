-- Entries of a list that go on from earlier ones, and the first of those that are alike.
use Rattle.std.specs.Prelude.{ℕ, ◌≡◌, ◌<◌, ◌≤◌, List, [], ◌∷◌, ◌++◌, length, slice_index_or, Option, Some, None}
use Rattle.std.specs.declared.cmp.Ordering.{Ordering}
use Rattle.std.specs.Ordering.{nat_cmp, on, then_cmp}
use Rattle.lab_unfold.specs.declared.item.Item.{Item}
use Rattle.lab_unfold.specs.declared.link.Link.{Link}

-- items by their parts in turn
abbrev pub part_cmp : Item → Item → Ordering
part_cmp = then_cmp (on (λ x. x.action) nat_cmp) (then_cmp (on (λ x. x.own) nat_cmp) (on (λ x. x.public) nat_cmp))

-- by the parent, then by the item
abbrev pub link_cmp : Link → Link → Ordering
link_cmp = then_cmp (on (λ l. l.parent) nat_cmp) (on (λ l. l.item) part_cmp)

-- the parent of a link is an entry below i
abbrev pub IsBefore : ℕ → Option Link → Type 0
IsBefore i None = Unit {0}
IsBefore i (Some l) = l.parent < i

-- each parent comes before
abbrev pub AreBefore : List (Option Link) → Type 0
AreBefore links = (i : ℕ) → i < length links → IsBefore i (slice_index_or links i None)

-- the list of an entry is empty, or that of an earlier one with the item after it
abbrev pub IsMade : List (List Item) → ℕ → Option Link → Type 0
IsMade all i None = slice_index_or all i [] ≡ []
IsMade all i (Some l) = (l.parent < i) × (slice_index_or all i [] ≡ slice_index_or all l.parent [] ++ l.item ∷ [])

-- the lists are made by the links
pub record IsGrown (all : List (List Item)) (links : List (Option Link)) : Type 0 where
  pub count : length links ≡ length all
  pub made : (i : ℕ) → i < length links → IsMade all i (slice_index_or links i None)

-- the entry f is the first with the list of the entry i
pub record IsFirstList (all : List (List Item)) (i f : ℕ) : Type 0 where
  pub within : f ≤ i
  pub same : slice_index_or all f [] ≡ slice_index_or all i []
  pub before : (k : ℕ) → k < f → slice_index_or all k [] ≡ slice_index_or all i [] → ⊥

-- for each entry the first with its list
pub record AreFirstLists (all : List (List Item)) (firsts : List ℕ) : Type 0 where
  pub count : length firsts ≡ length all
  pub first : (i : ℕ) → i < length all → IsFirstList all i (slice_index_or firsts i 0)

-- a link with the first of those that are like its parent
abbrev pub key_of : List ℕ → Option Link → Option Link
key_of firsts None = None
key_of firsts (Some l) = Some (record { parent = slice_index_or firsts l.parent 0; item = l.item })

-- that of an entry
abbrev pub key_at : List (Option Link) → List ℕ → ℕ → Option Link
key_at links firsts k = key_of firsts (slice_index_or links k None)

-- f is the first entry with this key
pub record IsFirstKey (keys : ℕ → Option Link) (q : Link) (f : ℕ) : Type 0 where
  pub at : keys f ≡ Some q
  pub before : (k : ℕ) → k < f → keys k ≡ Some q → ⊥

-- f is the first entry with the key of an entry i, and 0 where it has none
abbrev pub IsTold : (ℕ → Option Link) → ℕ → Option Link → ℕ → Type 0
IsTold keys i None f = f ≡ 0
IsTold keys i (Some q) f = (f ≤ i) × IsFirstKey keys q f

-- what is kept of the entries whose first ones are found: at each key the first of them
pub record Keyed (links : List (Option Link)) (firsts : List ℕ) (kept : Link → Option ℕ) : Type 0 where
  pub told : (i : ℕ) → i < length firsts → IsTold (key_at links firsts) i (key_at links firsts i) (slice_index_or firsts i 0)
  pub some : (q : Link) (f : ℕ) → kept q ≡ Some f → (f < length firsts) × IsFirstKey (key_at links firsts) q f
  pub none : (q : Link) → kept q ≡ None → (k : ℕ) → k < length firsts → key_at links firsts k ≡ Some q → ⊥
