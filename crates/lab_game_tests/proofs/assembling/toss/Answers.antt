use Rattle.std.proofs.Common.{◌≡◌, true, subst, sym, refl}
use Rattle.lab_defs_text.specs.Drafts.{Draft}
use Rattle.lab_world.specs.Drafts.{may_assemble}
use Rattle.lab_game_tests.proofs.assembling.toss.Goals as goal

pub assemble-requires-clause-fit : goal.assemble-requires-clause-fit
assemble-requires-clause-fit c = subst (λ (d : Draft). may_assemble d ≡ true) (sym c.in_ok-parts.ensures.draft) refl
