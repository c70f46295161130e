-- The histories that a game without perfect recall is refused for.
use Rattle.std.proofs.Common.{◌≡◌, ℕ, ◌<◌, length, subst, arith, inl, inr, ◌⊎◌}
use Rattle.lab_defs_text.specs.Games.{GameModel}
use Rattle.lab_defs_game.specs.Histories.{histories}
use Rattle.lab_defs_game.specs.Laws.{AlikeNames, Remembers, IsFirstPair}
use Rattle.lab_defs_game.specs.Recall.{one_set, differ, confused}
use Rattle.lab_defs_game.proofs.PairLaws.{legal_differs_law, forgotten_law}
use Rattle.lab_unfold.specs.declared.history.HistoryId.{HistoryId}
use Rattle.lab_recall.specs.Faults.{IsFault}
use Rattle.lab_recall.specs.declared.fault.RecallFault.{RecallFault}
use Rattle.lab_recall.specs.declared.fault.RecallFault.TheVariants.{LegalDiffers, Forgotten}

-- both are there where names differ
pub differ_there : (g : GameModel) (f : RecallFault) (seat : ℕ) (m n : HistoryId) → IsFault g f → f ≡ LegalDiffers seat m n → (m.0 < length (histories g)) × (n.0 < length (histories g))
differ_there g f seat m n h e = at ((legal_differs_law g seat m.0 n.0).0 (subst (IsFault g) e h))
  where
    at : ((seat ≡ 1) × IsFirstPair (one_set g 1) (differ g 1) (histories g) m.0 n.0) ⊎ ((seat ≡ 2) × AlikeNames g 1 × IsFirstPair (one_set g 2) (differ g 2) (histories g) m.0 n.0)
        → (m.0 < length (histories g)) × (n.0 < length (histories g))
    at (inl p) = (omega (arith, p.1.0, p.1.3), p.1.0)
    at (inr p) = (omega (arith, p.2.0, p.2.3), p.2.0)

-- and where own actions are forgotten
pub forgotten_there : (g : GameModel) (f : RecallFault) (seat : ℕ) (m n : HistoryId) → IsFault g f → f ≡ Forgotten seat m n → (m.0 < length (histories g)) × (n.0 < length (histories g))
forgotten_there g f seat m n h e = at ((forgotten_law g seat m.0 n.0).0 (subst (IsFault g) e h)).3
  where
    at : ((seat ≡ 1) × IsFirstPair (confused g 1) (confused g 1) (histories g) m.0 n.0) ⊎ ((seat ≡ 2) × Remembers g 1 × IsFirstPair (confused g 2) (confused g 2) (histories g) m.0 n.0)
        → (m.0 < length (histories g)) × (n.0 < length (histories g))
    at (inl p) = (omega (arith, p.1.0, p.1.3), p.1.0)
    at (inr p) = (omega (arith, p.2.0, p.2.3), p.2.0)
