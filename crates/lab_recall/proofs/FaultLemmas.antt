-- From pairs of histories to the fault of the game.
use Rattle.std.proofs.Common.{◌≡◌, sym, subst, inl, inr, ◌⊎◌}
use Rattle.std.specs.Prelude.{Result, Ok, Err, IfErr}
use Rattle.std.specs.Result.{IsErrAnd}
use Rattle.lab_defs_text.specs.Games.{GameModel, by_seen}
use Rattle.lab_defs_game.specs.Laws.{AlikeNames, Remembers}
use Rattle.lab_defs_game.proofs.PairLaws.{legal_differs_law, forgotten_law}
use Rattle.lab_recall.specs.declared.fault.RecallFault.{RecallFault}
use Rattle.lab_recall.specs.declared.fault.RecallFault.TheVariants.{LegalDiffers, Forgotten, Memory}
use Rattle.lab_recall.specs.Faults.{IsFault, IsNamesFault, IsMemoryFault, IsForgotten}

-- names differ for seat 1
pub names_first : (g : GameModel) (e : RecallFault) → IsNamesFault g 1 e → IsFault g e
names_first g (LegalDiffers s m n) f = (legal_differs_law g s m.0 n.0).1 (inl (f.0, f.1))
names_first g (Forgotten s m n) f = absurd f
names_first g Memory f = tt

-- names differ for seat 2, and not for seat 1
pub names_second : (g : GameModel) (e : RecallFault) → AlikeNames g 1 → IsNamesFault g 2 e → IsFault g e
names_second g (LegalDiffers s m n) a f = (legal_differs_law g s m.0 n.0).1 (inr (f.0, a, f.1))
names_second g (Forgotten s m n) a f = absurd f
names_second g Memory a f = tt

-- seat 1 forgets
memory_first : (g : GameModel) (e : RecallFault) → AlikeNames g 1 → AlikeNames g 2 → g.recall ≡ by_seen → IsMemoryFault g 1 e → IsFault g e
memory_first g (LegalDiffers s m n) a b r f = absurd f
memory_first g (Forgotten s m n) a b r f = (forgotten_law g s m.0 n.0).1 (a, b, r, inl (f.0, f.1))
memory_first g Memory a b r f = tt

-- seat 2 forgets, and not seat 1
memory_second : (g : GameModel) (e : RecallFault) → AlikeNames g 1 → AlikeNames g 2 → g.recall ≡ by_seen → Remembers g 1 → IsMemoryFault g 2 e → IsFault g e
memory_second g (LegalDiffers s m n) a b r k f = absurd f
memory_second g (Forgotten s m n) a b r k f = (forgotten_law g s m.0 n.0).1 (a, b, r, inr (f.0, k, f.1))
memory_second g Memory a b r k f = tt

-- one of them forgets
pub forgotten_fault : (g : GameModel) (e : RecallFault) → AlikeNames g 1 → AlikeNames g 2 → IsForgotten g e → IsFault g e
forgotten_fault g e a b f = at f.1
  where
    at : IsMemoryFault g 1 e ⊎ (Remembers g 1 × IsMemoryFault g 2 e) → IsFault g e
    at (inl h) = memory_first g e a b f.0 h
    at (inr h) = memory_second g e a b f.0 h.0 h.1

-- a fault that is passed on
pub passed_on : {X : Type 0} (P : RecallFault → Type 0) (r : Result X RecallFault) (e : RecallFault) → IsErrAnd r (λ f. f ≡ e) → P e → IfErr r P
passed_on P (Ok x) e a p = tt
passed_on P (Err f) e a p = subst P (sym a) p
