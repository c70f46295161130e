-- Why a game has no perfect recall.
use Rattle.std.specs.Prelude.{ℕ, ◌+◌, List, [], ◌∷◌, ◌++◌, length, map, Bool, true, false, not, ◌&&◌, if◌then◌else◌, Option, Some, None}
use Rattle.std.specs.List.{list_any}
use Rattle.std.specs.Ordering.{is_eq}
use Rattle.std.specs.Str.{bytes_eq}
use Rattle.lab_defs_text.specs.Words.{Bytes}
use Rattle.lab_defs_text.specs.Games.{GameModel, Recall, by_acts, by_seen}
use Rattle.lab_defs_text.specs.Texts.{is_world}
use Rattle.lab_defs_game.specs.Keys.{list_cmp}
use Rattle.lab_defs_game.specs.Histories.{History, histories, place_of, action_names}
use Rattle.lab_defs_game.specs.Sets.{Item, seen, publics, set_cmp}

-- two histories of one set whose actions have other names, and two with the same tokens whose own actions differ: the seat, and the numbers of both histories
pub data RecallFault : Type 0 where
  legal_differs : ℕ → ℕ → ℕ → RecallFault
  forgotten : ℕ → ℕ → ℕ → RecallFault

-- whether two lists of names are one
abbrev pub same_names : List Bytes → List Bytes → Bool
same_names [] [] = true
same_names (n ∷ ns) (m ∷ ms) = bytes_eq n m && same_names ns ms
same_names _ _ = false

-- two histories of one set of a seat
abbrev pub one_set : GameModel → ℕ → History → History → Bool
one_set g seat h k = is_world (place_of g h) && (is_world (place_of g k) && is_eq (set_cmp (seen g seat h) (seen g seat k)))

-- two of one set, where the seat's actions have other names
abbrev pub differ : GameModel → ℕ → History → History → Bool
differ g seat h k = one_set g seat h k && not (same_names (action_names seat (place_of g h)) (action_names seat (place_of g k)))

-- the private tokens of a seen list
abbrev pub owns : List Item → List ℕ
owns s = map (λ x. x.own) s

-- the own actions of a seen list
abbrev pub actions : List Item → List ℕ
actions s = map (λ x. x.action) s

-- whether two lists of numbers are one
abbrev pub same_list : List ℕ → List ℕ → Bool
same_list xs ys = is_eq (list_cmp xs ys)

-- seen lists with the same tokens and other own actions
abbrev pub forgets : List Item → List Item → Bool
forgets s t = same_list (owns s) (owns t) && (same_list (publics s) (publics t) && not (same_list (actions s) (actions t)))

-- two non-terminal histories with the same tokens of a seat, and other own actions
abbrev pub confused : GameModel → ℕ → History → History → Bool
confused g seat h k = is_world (place_of g h) && (is_world (place_of g k) && forgets (seen g seat h) (seen g seat k))

-- how many of these come before the first that passes
abbrev pub place_of_first : (History → Bool) → List History → ℕ
place_of_first test [] = 0
place_of_first test (h ∷ hs) = if test h then 0 else place_of_first test hs + 1

-- the first history that clashes with an earlier one, and the first earlier one that it is akin to, by their numbers: `earlier` come before these
abbrev pub first_pair : (akin clash : History → History → Bool) → List History → List History → Option (ℕ × ℕ)
first_pair akin clash earlier [] = None
first_pair akin clash earlier (h ∷ hs) =
    if list_any (λ k. clash k h) earlier then Some (place_of_first (λ k. akin k h) earlier, length earlier) else first_pair akin clash (earlier ++ h ∷ []) hs

-- for each seat: the first history whose actions have other names than those of an earlier one of its set, and the first of its set
abbrev pub legal_pair : GameModel → ℕ → Option (ℕ × ℕ)
legal_pair g seat = first_pair (one_set g seat) (differ g seat) [] (histories g)

-- for each seat, where what is seen has to tell the own actions: the first history that is confused with an earlier one, and the first such
abbrev pub confused_pair : GameModel → Recall → ℕ → Option (ℕ × ℕ)
confused_pair g by_acts seat = None
confused_pair g by_seen seat = first_pair (confused g seat) (confused g seat) [] (histories g)

-- a fault of a pair, if there is one
abbrev pub fault_of : (ℕ → ℕ → RecallFault) → Option (ℕ × ℕ) → Option RecallFault
fault_of fault None = None
fault_of fault (Some p) = Some (fault p.0 p.1)

-- the first of several faults
abbrev pub first_fault : List (Option RecallFault) → Option RecallFault
first_fault [] = None
first_fault (None ∷ os) = first_fault os
first_fault (Some f ∷ os) = Some f

-- the first reason why a game has no perfect recall
abbrev pub recall_fault : GameModel → Option RecallFault
recall_fault g = first_fault
    (fault_of (legal_differs 1) (legal_pair g 1) ∷ fault_of (legal_differs 2) (legal_pair g 2)
    ∷ fault_of (forgotten 1) (confused_pair g g.recall 1) ∷ fault_of (forgotten 2) (confused_pair g g.recall 2) ∷ [])
