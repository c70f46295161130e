-- Faults that agree with those of the definitions.
use Rattle.std.proofs.Common.{◌≡◌, ◌≢◌, Option, Some, None, Result, Err, IfErr, refl, sym, subst}
use Rattle.lab_defs_text.specs.Agreement.{FaultAgrees}
use Rattle.lab_world.specs.declared.parts.AssembleFault.{AssembleFault}
use Rattle.lab_world.specs.declared.parts.AssembleFault.TheVariants as parts
use Rattle.lab_world.specs.Drafts.{assemble_fault}
use Rattle.lab_text.specs.declared.fault.TextFault.{TextFault}
use Rattle.lab_text.specs.declared.fault.TextFault.TheVariants as text
use Rattle.lab_text.specs.Faults.{text_fault, fault_of_parts}

-- a fault that agrees with one answer agrees with another that has its faults
pub fault_same : {A B F : Type 0} (fault : Option F) (r : Result A F) (s : Result B F) → ((f : F) → r ≡ Err f → s ≡ Err f) → FaultAgrees fault r → FaultAgrees fault s
fault_same None r s h p = tt
fault_same (Some f) r s h p = h f p

-- a fault of parts is the same as one of the text
pub parts_told : (f : AssembleFault) → text_fault (fault_of_parts f) ≡ assemble_fault f
parts_told (parts.UnknownName line place) = refl
parts_told (parts.ExtraRow line) = refl
parts_told (parts.MissingRow line first second) = refl
parts_told (parts.NoRoot line) = refl
parts_told parts.Memory = refl

-- want of memory is no fault of the parts
pub parts_not_memory : (f : AssembleFault) (e : TextFault) → e ≡ fault_of_parts f → e ≢ text.Assemble parts.Memory
parts_not_memory (parts.UnknownName line place) e h a = cc (h, a)
parts_not_memory (parts.ExtraRow line) e h a = cc (h, a)
parts_not_memory (parts.MissingRow line first second) e h a = cc (h, a)
parts_not_memory (parts.NoRoot line) e h a = cc (h, a)
parts_not_memory parts.Memory e h a = cc (h, a)

-- what holds of the fault that was answered
pub told_holds : {A E : Type 0} (P : E → Type 0) (result : Result A E) (told : E) → result ≡ Err told → P told → IfErr result P
told_holds P result told e h = subst (λ r. IfErr r P) (sym e) h
