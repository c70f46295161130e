-- The model of a game.
use Rattle.std.specs.Prelude.{ℕ, ℤ, List}
use Rattle.lab_defs_text.specs.Words.{Bytes}

-- whether what a seat remembers must tell its own actions by what it has seen
pub data Recall : Type 0 where
  by_acts : Recall
  by_seen : Recall

-- where a joint action may lead, with its weight: the next place, each seat's private token and the public token, by their numbers
pub record Outcome : Type 0 where
  pub weight : ℕ
  pub next : ℕ
  pub own1 : ℕ
  pub own2 : ℕ
  pub public : ℕ

-- the names of each seat's actions, and the outcomes of each joint action: by the first seat's action, then by the second's
pub record World : Type 0 where
  pub one : List Bytes
  pub two : List Bytes
  pub rows : List (List Outcome)

-- a world, or an end with what it pays seat 1
pub data Place : Type 0 where
  a_world : World → Place
  an_end : ℤ → Place

-- tokens and places are known by their numbers; `names` are the names of the places
pub record GameModel : Type 0 where
  pub grid : ℕ
  pub horizon : ℕ
  pub recall : Recall
  pub tokens : List Bytes
  pub names : List Bytes
  pub places : List Place
  pub root : ℕ
