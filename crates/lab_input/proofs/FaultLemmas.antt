-- The histories that a game without perfect recall is refused for.
use Rattle.std.proofs.Common.{◌≡◌, ◌<◌, ℕ, length, Option, None, Some, Result, Ok, Err, ◌⊎◌, inl, inr, arith, subst, refl, sym, ap, ◌∙◌}
use Rattle.std.specs.Prelude.{IfSome}
use Rattle.std.specs.Result.{IsErr, IsErrAnd}
use Rattle.lab_defs_text.specs.Games.{GameModel}
use Rattle.lab_defs_game.specs.Histories.{histories}
use Rattle.lab_defs_game.specs.Recall.{legal_differs, forgotten, one_set, differ, confused, recall_fault}
use Rattle.lab_defs_game.specs.Laws.{AlikeNames, Remembers, IsFirstPair}
use Rattle.lab_defs_game.proofs.PairLaws.{legal_differs_law, forgotten_law}
use Rattle.lab_recall.specs.declared.fault.RecallFault.{RecallFault}
use Rattle.lab_recall.specs.declared.fault.RecallFault.TheVariants as fault
use Rattle.lab_recall.specs.Faults.{IsFault, fault_in}
use Rattle.lab_unfold.specs.declared.history.UnfoldFault.{UnfoldFault}
use Rattle.lab_unfold.specs.Faults as unfolds
use Rattle.lab_defs_game.specs.Recall as recall
use Rattle.lab_defs_game.specs.Unfolding as model
use Rattle.lab_defs_game.specs.Unfolding.{unfold_fault}
use Rattle.lab_defs_text.specs.Words.{Bytes}
use Rattle.lab_defs_report.specs.Refusals.{Refusal, refused_unfolding, refused_recall}
use Rattle.lab_defs_report.specs.GameModes.{read_text, accepted_at, playable}
use Rattle.lab_input.specs.declared.stop.Stop.{Stop}
use Rattle.lab_input.specs.declared.stop.Stop.TheVariants as stop
use Rattle.lab_input.specs.Stops.{IsRefusal, Denies, Gives, RefusesUnfolding, RefusesRecall}
use Rattle.lab_unfold.specs.declared.history.HistoryId.{HistoryId}

-- both histories that are named are there
differ_there : (g : GameModel) (seat m n : ℕ) → recall_fault g ≡ Some (legal_differs seat m n) → (m < length (histories g)) × (n < length (histories g))
differ_there g seat m n e = at ((legal_differs_law g seat m n).0 e)
  where
    at : ((seat ≡ 1) × IsFirstPair (one_set g 1) (differ g 1) (histories g) m n) ⊎ ((seat ≡ 2) × AlikeNames g 1 × IsFirstPair (one_set g 2) (differ g 2) (histories g) m n)
        → (m < length (histories g)) × (n < length (histories g))
    at (inl p) = (omega (arith, p.1.0, p.1.3), p.1.0)
    at (inr p) = (omega (arith, p.2.0, p.2.3), p.2.0)

forgotten_there : (g : GameModel) (seat m n : ℕ) → recall_fault g ≡ Some (forgotten seat m n) → (m < length (histories g)) × (n < length (histories g))
forgotten_there g seat m n e = at ((forgotten_law g seat m n).0 e).3
  where
    at : ((seat ≡ 1) × IsFirstPair (confused g 1) (confused g 1) (histories g) m n) ⊎ ((seat ≡ 2) × Remembers g 1 × IsFirstPair (confused g 2) (confused g 2) (histories g) m n)
        → (m < length (histories g)) × (n < length (histories g))
    at (inl p) = (omega (arith, p.1.0, p.1.3), p.1.0)
    at (inr p) = (omega (arith, p.2.0, p.2.3), p.2.0)

-- so are those of either fault as the program has it
pub differ_histories : (g : GameModel) (f : RecallFault) (seat : ℕ) (m n : HistoryId) → IsFault g f → f ≡ fault.LegalDiffers seat m n → (m.0 < length (histories g)) × (n.0 < length (histories g))
differ_histories g f seat m n h k = differ_there g seat m.0 n.0 (subst (IsFault g) k h)

pub forgotten_histories : (g : GameModel) (f : RecallFault) (seat : ℕ) (m n : HistoryId) → IsFault g f → f ≡ fault.Forgotten seat m n → (m.0 < length (histories g)) × (n.0 < length (histories g))
forgotten_histories g f seat m n h k = forgotten_there g seat m.0 n.0 (subst (IsFault g) k h)

-- ---- refusals

-- a refusal that is kept denies what is found
denied : {Y : Type 0} (found : Result Y Refusal) (r : Refusal) (s : Stop) → found ≡ Err r → IsRefusal r s → Denies found s
denied found r (stop.Refused kept) e h = (r, e, h)
denied found r stop.ReadFault e h = h
denied found r stop.WriteFault e h = h
denied found r stop.Memory e h = tt

-- for want of memory nothing is denied
denied_memory : {Y : Type 0} (found : Result Y Refusal) (s : Stop) → s ≡ stop.Memory → Denies found s
denied_memory found s e = subst (Denies found) (sym e) tt

-- a game that does not unfold
pub unfolding_denied : (g : GameModel) (line : ℕ) (e : UnfoldFault) (s : Stop) → unfolds.IsFault g e → RefusesUnfolding g line (unfolds.fault_in e) s → Denies (accepted_at line g) s
unfolding_denied g line e s h r = at (unfolds.fault_in e) h r
  where
    at : (f : Option model.UnfoldFault) → IfSome f (λ f. unfold_fault g ≡ Some f) → RefusesUnfolding g line f s → Denies (accepted_at line g) s
    at None h r = denied_memory (accepted_at line g) s r
    at (Some f) h r = denied (accepted_at line g) (refused_unfolding g line f) s (rw (accepted_at, h) refl) r

-- a game without perfect recall
pub recall_denied : (g : GameModel) (line : ℕ) (e : RecallFault) (s : Stop) → unfold_fault g ≡ None → IsFault g e → RefusesRecall g line (fault_in e) s → Denies (accepted_at line g) s
recall_denied g line e s u h r = at (fault_in e) h r
  where
    at : (f : Option recall.RecallFault) → IfSome f (λ f. recall_fault g ≡ Some f) → RefusesRecall g line f s → Denies (accepted_at line g) s
    at None h r = denied_memory (accepted_at line g) s r
    at (Some f) h r = denied (accepted_at line g) (refused_recall g line f) s (rw (accepted_at, u, h) refl) r

-- ---- texts

-- the game of a text, if it is accepted
abbrev accepted_of : ℕ → Result GameModel Refusal → Result GameModel Refusal
accepted_of line found = elim found [ Ok g ↦ accepted_at line g | Err r ↦ Err r ]

-- nor is a game that is not accepted
pub game_denied : (text : Bytes) (line : ℕ) (g : GameModel) (s : Stop) → read_text text ≡ Ok g → Denies (accepted_at line g) s → Denies (playable text line) s
game_denied text line g (stop.Refused kept) t h = (h.0, ap (accepted_of line) t ∙ h.1, h.2)
game_denied text line g stop.ReadFault t h = h
game_denied text line g stop.WriteFault t h = h
game_denied text line g stop.Memory t h = tt

-- ---- an error that is passed on

pub gives_denied : {X Y : Type 0} (value : X → Y) (found : Result Y Refusal) (s : Stop) (r : Result X Stop) → IsErr r × IsErrAnd r (λ e. e ≡ s) → Denies found s → Gives value found r
gives_denied value found s (Ok x) h d = absurd h.1
gives_denied value found s (Err e) h d = subst (Denies found) (sym h.1) d
