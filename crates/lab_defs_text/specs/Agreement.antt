-- An answer of the program beside that of the definitions.
use Rattle.std.specs.Prelude.{◌≡◌, Option, Some, None, Result, Ok, Err}

-- the same fault, where the program's is one of the definitions; want of memory is none, and agrees with each answer
abbrev pub FaultAgrees : {Y F : Type 0} → Option F → Result Y F → Type 0
FaultAgrees None answer = Unit {0}
FaultAgrees (Some f) answer = answer ≡ Err f

-- the same value, or the same fault
abbrev pub Agrees : {X Y E F : Type 0} → (X → Y) → (E → Option F) → Result X E → Result Y F → Type 0
Agrees value fault (Ok x) answer = answer ≡ Ok (value x)
Agrees value fault (Err e) answer = FaultAgrees (fault e) answer
