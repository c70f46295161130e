use Rattle.std.proofs.Common.{◌≡◌, Vec, ℕ, map}
use Rattle.std.specs.Global.{Global}
use Rattle.std.proofs.lemmas.Result.{IfOk-weaker}
use Rattle.lab_defs_game.specs.Histories.{histories}
use Rattle.lab_world.specs.Games.{game_model}
use Rattle.lab_world.specs.Seats.{seat_number}
use Rattle.lab_unfold.specs.declared.link.Kept.TheVariants.{Whole}
use Rattle.lab_unfold.specs.Firsts.{set_first}
use Rattle.lab_unfold.specs.Links.{AreFirstLists}
use Rattle.lab_unfold.specs.Traces.{traces}
use Rattle.lab_unfold.proofs.AlikeLemmas.{sets_told}
use Rattle.lab_unfold.proofs.seen.first_of_sets.Goals as goal

pub returns : goal.returns
returns c =
    let g = game_model c.args.game.now in
    IfOk-weaker c.first_lists.result (λ (v : Vec ℕ Global). AreFirstLists (traces g (seat_number c.args.seat) Whole) v.items) (λ (v : Vec ℕ Global). v.items ≡ map (set_first g (seat_number c.args.seat)) (histories g))
    (λ v all. sets_told g (seat_number c.args.seat) v.items all) c.first_lists.ensures
