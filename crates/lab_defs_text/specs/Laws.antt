-- Laws of the texts of a game.
use Rattle.std.specs.Prelude.{◌≡◌, ◌↔◌, ◌^◌, ◌<◌, ◌≤◌, true, Ok, Err, ℕ, ℤ, pos, ◌*ℤ◌}
use Rattle.std.specs.Int.{IsGcd}
use Rattle.std.specs.Int.RustNames.{unsigned_abs}
use Rattle.lab_defs_text.specs.Words.{Bytes}
use Rattle.lab_defs_text.specs.Numbers.{is_whole, whole_value, signed_numeral}
use Rattle.lab_defs_text.specs.Fractions.{lowest_num, lowest_den}
use Rattle.lab_defs_text.specs.Games.{GameModel}
use Rattle.lab_defs_text.specs.Texts.{game_ok, IsText, canonical}
use Rattle.lab_defs_text.specs.Faults.{TextFault}
use Rattle.lab_defs_text.specs.Readings.{game_of}

-- a canonical text is a text
abbrev pub CanonicalLaw : Type 0
CanonicalLaw = (g : GameModel) → game_ok g ≡ true → IsText (canonical g) g

-- bytes are read to a game exactly where they are a text of that game
abbrev pub TextLaw : Type 0
TextLaw = (bytes : Bytes) (g : GameModel) → (game_of bytes ≡ Ok g) ↔ IsText bytes g

-- bytes are a text of one game at most
abbrev pub OneGameLaw : Type 0
OneGameLaw = (bytes : Bytes) (g h : GameModel) → IsText bytes g → IsText bytes h → g ≡ h

-- bytes have a fault exactly where they are a text of no game
abbrev pub NoGameLaw : Type 0
NoGameLaw = (bytes : Bytes) → ((fault : TextFault) × (game_of bytes ≡ Err fault)) ↔ ((g : GameModel) → IsText bytes g → ⊥)

-- the canonical text of a game is read back to it
abbrev pub ReadBackLaw : Type 0
ReadBackLaw = (g : GameModel) → game_ok g ≡ true → game_of (canonical g) ≡ Ok g

-- a number whose size is below 10 ^ 40 has one spelling: a word spells it exactly where it is its numeral
abbrev pub SpellingLaw : Type 0
SpellingLaw = (word : Bytes) (z : ℤ) → unsigned_abs z < 10 ^ 40 → ((is_whole word ≡ true) × (whole_value word ≡ z)) ↔ (word ≡ signed_numeral z)

-- lowest terms are the same fraction, over a denominator of at least 1, and have no common divisor but 1
abbrev pub LowestLaw : Type 0
LowestLaw = (num : ℤ) (den : ℕ) → 1 ≤ den
    → (lowest_num num den *ℤ pos den ≡ num *ℤ pos (lowest_den num den)) × IsGcd (unsigned_abs (lowest_num num den)) (lowest_den num den) 1 × (1 ≤ lowest_den num den)
