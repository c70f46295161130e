-- Stops that are passed on, and their causes.
use Rattle.std.proofs.Common.{◌≡◌, ◌≢◌, ℕ, ◌≤◌, Option, Result, Ok, Err, sym, ap, ◌∙◌, subst, arith}
use Rattle.std.specs.Result.{IsErr, IsErrAnd}
use Rattle.lab_io.specs.Causes.{Rose}
use Rattle.lab_defs_text.specs.Words.{Bytes}
use Rattle.lab_defs_report.specs.Refusals.{Refusal}
use Rattle.lab_input.specs.declared.stop.Stop.{Stop}
use Rattle.lab_input.specs.declared.stop.Stop.TheVariants.{ReadFault, WriteFault}
use Rattle.lab_input.specs.Stops.{Denies}
use Rattle.lab_input.specs.GameParts.{CutsOff}

-- an error that is passed on is a stop where it was that stop before
pub stop_passed : {T U : Type 0} (s t : Stop) (r : Result T Stop) → IsErr r × IsErrAnd r (λ e. e ≡ s) → r ≡ Err t → ◌≡◌ {A = Result U Stop} (Err s) (Err t)
stop_passed s t (Ok x) h e = absurd h.1
stop_passed s t (Err u) h e = let same : u ≡ t = cc in ap Err (sym h.1 ∙ same)

-- and is another one where it was another one
pub other_passed : {T U : Type 0} (s t : Stop) (r : Result T Stop) → IsErr r × IsErrAnd r (λ e. e ≡ s) → r ≢ Err t → ◌≢◌ {A = Result U Stop} (Err s) (Err t)
other_passed s t (Ok x) h other = absurd h.1
other_passed s t (Err u) h other = λ e. let same : s ≡ t = cc in other (ap Err (h.1 ∙ same))

-- and is not a stop that was not met
pub not_passed : {T : Type 0} (s t : Stop) (r : Result T Stop) → IsErr r × IsErrAnd r (λ e. e ≡ s) → s ≢ t → r ≢ Err t
not_passed s t (Ok x) h other = absurd h.1
not_passed s t (Err u) h other = λ e. let same : u ≡ t = cc in other (sym h.1 ∙ same)

-- what is found is no stop
pub found_no_stop : {T : Type 0} (x : T) (t : Stop) → ◌≢◌ {A = Result T Stop} (Ok x) (Err t)
found_no_stop x t e = absurd cc

-- ---- stops that no part of a mode meets

-- the sink does not fail while a game is read
pub cut_off_no_write_fault : (old new : Option Bytes) (s : Stop) → CutsOff old new s → s ≢ WriteFault
cut_off_no_write_fault old new s h = λ e. subst (CutsOff old new) e h

-- nothing fails where a game is refused
pub denied_no_read_fault : {Y : Type 0} (found : Result Y Refusal) (s : Stop) → Denies found s → s ≢ ReadFault
denied_no_read_fault found s h = λ e. subst (Denies found) e h

pub denied_no_write_fault : {Y : Type 0} (found : Result Y Refusal) (s : Stop) → Denies found s → s ≢ WriteFault
denied_no_write_fault found s h = λ e. subst (Denies found) e h

-- ---- causes

-- a count that rose is no lower later
pub rose_later : (a b c : ℕ) → b ≤ c → Rose a b → Rose a c
rose_later a b c h r = omega (arith, h, r)
