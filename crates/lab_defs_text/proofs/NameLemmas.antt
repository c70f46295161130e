-- Names are ASCII.
use Rattle.std.proofs.Common.{◌≡◌, ℕ, ◌<◌, List, length, get_or, Bool, true, false, ◌&&◌, refl, arith, nat_lt, nat_le}
use Rattle.std.specs.List.{list_all}
use Rattle.std.specs.Str.{IsAscii}
use Rattle.std.proofs.lemmas.Bool.Decides.{nat_tests}
use Rattle.std.proofs.lemmas.List.Recursion.{and_at}
use Rattle.std.proofs.lemmas.Str.Ascii.{IsAscii-from_reads}
use Rattle.lab_defs_text.specs.Words.{is_name, is_name_byte}

-- a byte of names is ASCII
name_byte_small : (c : ℕ) → is_name_byte c ≡ true → c < 128
name_byte_small c h = grind (arith, nat_tests)

-- the last of three tests that hold
last_of : (a b c : Bool) → (a && (b && c)) ≡ true → c ≡ true
last_of true true c e = e
last_of true false c e = cc
last_of false b c e = cc

-- each byte of a name is one of names
pub name_byte_at : (word : List ℕ) (i : ℕ) → is_name word ≡ true → i < length word → is_name_byte (get_or word i 0) ≡ true
name_byte_at word i h p =
    and_at (list_all is_name_byte) is_name_byte refl (λ _ _. refl) word i 0 p
    (last_of (nat_lt 0 (length word)) (nat_le (length word) 32) (list_all is_name_byte word) h)

-- a name is ASCII
pub IsAscii-name : (word : List ℕ) → is_name word ≡ true → IsAscii word
IsAscii-name word h =
    IsAscii-from_reads word (length word) (omega arith) (λ i p. name_byte_small (get_or word i 0) (name_byte_at word i h p))
