-- What callers of the tree of a game may know.
use Rattle.std.proofs.Common.{◌≡◌, ℕ, ◌<◌, [], Bool, true, false, cond, length, map, Option, Some, None, refl, sym, subst}
use Rattle.std.specs.Prelude.{◌==◌, not, slice_index_or}
use Rattle.std.specs.Option.{IsSome}
use Rattle.std.proofs.lemmas.List.{get_or-map}
use Rattle.lab_defs_text.specs.Games.{GameModel}
use Rattle.lab_defs_text.specs.Texts.{is_world}
use Rattle.lab_defs_game.specs.Histories.{histories, is_terminal, place_of}
use Rattle.lab_defs_game.specs.Sets.{seen, set_number}
use Rattle.lab_form.specs.declared.items.SetId.{SetId}
use Rattle.lab_tree.specs.Trees.{seat_in, seat_of, set_at, set_id, tree_of}

-- a history that is not terminal has a set of each seat
pub set_there : (g : GameModel) (seat n : ℕ) → n < length (histories g) → is_terminal g (slice_index_or (histories g) n []) ≡ false → IsSome (slice_index_or (seat_of (tree_of g) seat).set_of n None)
set_there g seat n l e = at (seat == 1)
  where
    inner : (b : Bool) (x : SetId) → not b ≡ false → IsSome (cond b (Some x) None)
    inner true x e = refl
    inner false x e = absurd cc

    of_seat : (s : ℕ) → IsSome (slice_index_or (map (set_at g s) (histories g)) n None)
    of_seat s =
        let h = slice_index_or (histories g) n [] in
        subst (λ (o : Option SetId). IsSome o) (sym (get_or-map (set_at g s) (histories g) n [] None l)) (inner (is_world (place_of g h)) (set_id (set_number g s (seen g s h))) e)

    at : (b : Bool) → IsSome (slice_index_or (cond b (seat_in g 1) (seat_in g 2)).set_of n None)
    at true = of_seat 1
    at false = of_seat 2
