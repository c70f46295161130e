-- Certificates as texts: a table and bounds in JSON.
use Rattle.std.specs.Prelude.{ℕ, ◌+◌, ◌^◌, ◌==◌, ◌&&◌, ◌||◌, ℤ, List, [], ◌∷◌, ◌++◌, map, nat_le, nat_lt, if◌then◌else◌, Option, Some, None, option_map, option_and_then, Result, Ok, Err}
use Rattle.std.specs.List.{join_with_byte}
use Rattle.std.specs.Str.{is_utf8}
use lib.Chars.{codes}
use Rattle.serde_json.specs.Data.{Data, Items, no_items, item, Members, no_members, member}
use Rattle.serde_json.specs.Find.{get, as_u64, as_number, as_str, as_array, as_object}
use Rattle.serde_json.specs.Read.{read}
use Rattle.lab_defs_text.specs.Words.{Bytes}
use Rattle.lab_defs_text.specs.Numbers.{numeral, signed_numeral, is_whole, whole_value, whole_size}
use Rattle.lab_defs_text.specs.Steps.{◌>>=◌}

-- a seat, its weights in set order, and a bound for each set of its opponent
pub record Certificate : Type 0 where
  pub seat : ℕ
  pub weights : List ℕ
  pub bounds : List ℤ

-- ---- its text

-- a text between quotation marks
abbrev pub quoted : Bytes → Bytes
quoted text = 34 ∷ text ++ (34 ∷ [])

-- texts between brackets, with commas between them
abbrev pub bracketed : List Bytes → Bytes
bracketed texts = 91 ∷ join_with_byte 44 texts ++ (93 ∷ [])

-- a key with a value
abbrev pub keyed : Bytes → Bytes → Bytes
keyed key value = quoted key ++ (58 ∷ value)

-- compactly, its keys in order, the bounds as texts
abbrev pub certificate_text : Certificate → Bytes
certificate_text c =
    123 ∷ join_with_byte 44 (keyed (codes "bounds") (bracketed (map (λ b. quoted (signed_numeral b)) c.bounds)) ∷ keyed (codes "seat") (numeral c.seat)
    ∷ keyed (codes "weights") (bracketed (map numeral c.weights)) ∷ []) ++ (125 ∷ [])

-- ---- read

-- a text that is no JSON; a value that is no certificate, by what is wrong first
pub data CertificateFault : Type 0 where
  bad_json : CertificateFault
  bad_shape : (key : Bytes) → CertificateFault

-- the value of a JSON text of at most 127 levels
abbrev pub json_of : Bytes → Option Data
json_of bytes = if is_utf8 bytes then read bytes else None

-- a number of 32 bits without a point, an exponent or a sign
abbrev pub weight_read : Data → Option ℕ
weight_read d = option_and_then (λ n. if nat_lt n (2 ^ 32) then Some n else None) (option_and_then as_u64 (as_number d))

-- the number 1 or 2, without a point, an exponent or a sign
abbrev pub seat_read : Data → Option ℕ
seat_read d = option_and_then (λ n. if (n == 1) || (n == 2) then Some n else None) (option_and_then as_u64 (as_number d))

-- a text that is a whole number of at most 2 ^ 100
abbrev pub bound_read : Data → Option ℤ
bound_read d = option_and_then (λ w. if is_whole w && nat_le (whole_size w) (2 ^ 100) then Some (whole_value w) else None) (as_str d)

-- each item as f reads it, if it reads all
abbrev pub all_items : {A : Type 0} → (Data → Option A) → Items → Option (List A)
all_items f no_items = Some []
all_items f (item d ds) = option_and_then (λ x. option_map (λ xs. x ∷ xs) (all_items f ds)) (f d)

-- an array whose items f all reads
abbrev pub list_in : {A : Type 0} → (Data → Option A) → Data → Option (List A)
list_in f d = option_and_then (all_items f) (as_array d)

-- how many keys an object has
abbrev pub key_count : Members → ℕ
key_count no_members = 0
key_count (member k d ms) = key_count ms + 1

-- what is at a key, as f reads it
abbrev pub shaped : {A : Type 0} → Bytes → (Data → Option A) → Data → Result A CertificateFault
shaped key f d = elim (option_and_then f (get key d)) [ Some x ↦ Ok x | None ↦ Err (bad_shape key) ]

-- the certificate that an object is, each of its keys there and no other
abbrev pub certificate_in : Data → Members → Result Certificate CertificateFault
certificate_in d ms =
    shaped (codes "bounds") (list_in bound_read) d >>= λ bounds. shaped (codes "seat") seat_read d >>= λ seat. shaped (codes "weights") (list_in weight_read) d >>= λ weights.
    if key_count ms == 3 then Ok (record { seat = seat; weights = weights; bounds = bounds }) else Err (bad_shape (codes "extra"))

-- the certificate that a value is, which has to be an object
abbrev pub certificate_of : Data → Result Certificate CertificateFault
certificate_of d = elim (as_object d) [ Some ms ↦ certificate_in d ms | None ↦ Err (bad_shape (codes "whole")) ]

-- the certificate that a text is, or what is wrong first
abbrev pub certificate_read : Bytes → Result Certificate CertificateFault
certificate_read bytes = elim (json_of bytes) [ Some d ↦ certificate_of d | None ↦ Err bad_json ]
