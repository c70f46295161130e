-- The information sets of a seat, as they are made from the first histories of them.
use Rattle.std.proofs.Common.{◌≡◌, ℕ, ◌<◌, ◌≤◌, List, [], true, cond, Bool, false, length, get_or, map, ◌&&◌, Option, Some, None, refl, sym, ap, ◌∙◌, arith}
use Rattle.std.specs.Prelude.{◌==◌, if◌then◌else◌}
use Rattle.std.specs.List.{All, range_with_len}
use Rattle.std.specs.Ordering.{is_eq}
use Rattle.std.proofs.lemmas.List.{ext_get_or, get_or-map, length-map, get_or_default}
use Rattle.std.proofs.lemmas.List.FromFn.{length-map-range_with_len, get_or-map-range_with_len}
use Rattle.lab_math.proofs.Members.{in_get_or}
use Rattle.lab_defs_text.specs.Games.{GameModel}
use Rattle.lab_defs_game.specs.Keys.{in_order}
use Rattle.lab_defs_game.specs.Histories.{histories}
use Rattle.lab_defs_game.specs.Recall.{one_set, place_of_first}
use Rattle.lab_defs_game.specs.Sets.{Item, seen, set_cmp, sets, set_number}
use Rattle.lab_defs_game.proofs.KeyLemmas.{length_merged}
use Rattle.lab_defs_game.proofs.Orders.{set_total, set_exact}
use Rattle.lab_form.specs.declared.items.SetId.{SetId}
use Rattle.lab_world.specs.declared.seat.Seat.{Seat}
use Rattle.lab_world.specs.Seats.{seat_number}
use Rattle.lab_unfold.specs.Firsts.{AreFirsts, is_inner}
use Rattle.lab_unfold.specs.Values.{Unfolded, unfolded}
use Rattle.lab_unfold.specs.Parents.{history_at}
use Rattle.lab_tree.specs.Keyed.{keyed}
use Rattle.lab_tree.specs.NodeValues.{keys_in, pair_cmp}
use Rattle.lab_tree.specs.Ranks.{AreApart, AreRanks}
use Rattle.lab_tree.specs.SetValues.{HasSeen, ranked_set}
use Rattle.lab_tree.specs.Trees.{set_id, set_at}
use Rattle.lab_tree.proofs.ClassLemmas.{AreFirstByKey, stands, keys_are, apart, within, rank_is}
use Rattle.lab_tree.proofs.NodesMade.{keyed_few}
use Rattle.lab_unfold.proofs.CallerLemmas.{seat_firsts}

-- what was made so far: the first history of each set, with what is seen along it, in order
pub record SetsMade (g : GameModel) (seat : ℕ) (firsts : List ℕ) (order : List (List Item × ℕ)) : Type 0 where
  pub firsts_are : AreFirsts (is_inner g) (one_set g seat) (histories g) firsts
  pub order_is : order ≡ in_order (pair_cmp set_cmp) (keyed (is_inner g) (seen g seat) (histories g) firsts (length (histories g)))

-- from what the functions say
pub made : (g : GameModel) (s : Seat) (u : Unfolded) (n : ℕ) (firsts : List ℕ) (keys order : List (List Item × ℕ)) → n ≡ seat_number s → u ≡ unfolded g
    → firsts ≡ (if n == 1 then u.set_firsts1 else u.set_firsts2) → keys ≡ keyed (is_inner g) (seen g (seat_number s)) (histories g) firsts (length (histories g)) → order ≡ in_order (pair_cmp set_cmp) keys
    → SetsMade g (seat_number s) firsts order
made g s u n firsts keys order named e f k o = record {
  firsts_are = seat_firsts g s u n firsts named e f;
  order_is = o ∙ ap (in_order (pair_cmp set_cmp)) k;
}

module _ (g : GameModel) (seat : ℕ) (firsts : List ℕ) (order : List (List Item × ℕ)) (m : SetsMade g seat firsts order) where
  by_key : AreFirstByKey set_cmp set_total set_exact (is_inner g) (seen g seat) (histories g) firsts
  by_key = record {
    count = m.firsts_are.count;
    placed = λ i l t. m.firsts_are.first i l t ∙ ap (λ b. place_of_first (λ k. is_inner g k && (b && is_eq (set_cmp (seen g seat k) (seen g seat (history_at g i))))) (histories g)) t;
  }

  pub made_few : length order ≤ length (histories g)
  made_few =
      let keys = keyed (is_inner g) (seen g seat) (histories g) firsts (length (histories g)) in
      omega (arith, ap length m.order_is, length_merged (pair_cmp set_cmp) keys [], keyed_few (is_inner g) (seen g seat) (histories g) firsts (length (histories g)))

  pub made_within : All (λ (p : List Item × ℕ). p.1 < length (histories g)) order
  made_within = within set_cmp set_total set_exact (is_inner g) (seen g seat) (histories g) firsts by_key order m.order_is

  pub made_apart : AreApart order
  made_apart = apart set_cmp set_total set_exact (is_inner g) (seen g seat) (histories g) firsts by_key order m.order_is

  pub made_seen : All (HasSeen g seat) order
  made_seen i d l =
      let s = stands set_cmp set_total set_exact (is_inner g) (seen g seat) (histories g) firsts by_key order m.order_is (get_or order i d) (in_get_or order i d l) in
      (s.below, s.passes, s.own)

  pub made_sets : keys_in order ≡ sets g seat
  made_sets = keys_are set_cmp set_total set_exact (is_inner g) (seen g seat) (histories g) firsts by_key order m.order_is

  pub first_below : (n : ℕ) → n ≡ length (histories g) → All (λ f. f < n) firsts
  first_below n e i d l =
      let li : i < length (histories g) = omega (arith, l, m.firsts_are.count) in
      omega (arith, e, m.firsts_are.below i li, get_or_default firsts i 0 d l)

  pub made_of : (ranks : List ℕ) → AreRanks order ranks (length order) → map (ranked_set g firsts ranks) (range_with_len 0 (length firsts)) ≡ map (set_at g seat) (histories g)
  made_of ranks are =
      ext_get_or None (map (ranked_set g firsts ranks) (range_with_len 0 (length firsts))) (map (set_at g seat) (histories g))
      (length-map-range_with_len (ranked_set g firsts ranks) 0 (length firsts) ∙ m.firsts_are.count ∙ sym (length-map (histories g) (set_at g seat))) each
    where
      at : (i : ℕ) → i < length (histories g) → (b : Bool) → is_inner g (history_at g i) ≡ b
          → ◌≡◌ {A = Option SetId} (cond b (Some (set_id (get_or ranks (get_or firsts i 0) 0))) None) (cond b (Some (set_id (set_number g seat (seen g seat (history_at g i))))) None)
      at i l true e = ap (λ n. Some (set_id n)) (rank_is set_cmp set_total set_exact (is_inner g) (seen g seat) (histories g) firsts by_key order m.order_is ranks are i l e)
      at i l false e = refl

      each : (i : ℕ) → i < length (map (ranked_set g firsts ranks) (range_with_len 0 (length firsts)))
          → get_or (map (ranked_set g firsts ranks) (range_with_len 0 (length firsts))) i None ≡ get_or (map (set_at g seat) (histories g)) i None
      each i l =
          let lf : i < length firsts = omega (arith, l, length-map-range_with_len (ranked_set g firsts ranks) 0 (length firsts)) in
          let lh : i < length (histories g) = omega (arith, lf, m.firsts_are.count) in
          get_or-map-range_with_len (ranked_set g firsts ranks) 0 (length firsts) i i None lf (omega arith)
          ∙ at i lh (is_inner g (history_at g i)) refl
          ∙ sym (get_or-map (set_at g seat) (histories g) i [] None lh)
