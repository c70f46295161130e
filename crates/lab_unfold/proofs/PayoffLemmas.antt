-- What histories pay, and the greatest payoff of those that end and of all.
use Rattle.std.proofs.Common.{◌≡◌, ℕ, ◌+◌, ◌<◌, ◌≤◌, List, [], ◌∷◌, ◌++◌, length, get_or, drop, take, map, filter, Bool, cond, refl, sym, ap, ◌∙◌, arith, inl, inr}
use Rattle.std.specs.Prelude.{max, not}
use Rattle.std.specs.Int.RustNames.{unsigned_abs}
use Rattle.std.proofs.Math.ListN.{drop_of_length-le}
use Rattle.std.proofs.lemmas.List.{map-append, take_more}
use Rattle.std.proofs.lemmas.Simd.{map-map}
use Rattle.lab_math.proofs.Members.{In}
use Rattle.lab_math.specs.Sums.{greatest_over}
use Rattle.lab_defs_text.specs.Games.{GameModel, Place, a_world, an_end}
use Rattle.lab_defs_text.specs.Texts.{place_at, is_world}
use Rattle.lab_defs_game.specs.Histories as model
use Rattle.lab_defs_game.specs.Unfolding.{top_payoff}
use Rattle.lab_unfold.specs.declared.history.History.{History}
use Rattle.lab_unfold.specs.Values.{history_in}

-- a history that is not terminal pays nothing
greatest_terminal : (g : GameModel) (hs : List model.History)
    → greatest_over (λ (h : History). unsigned_abs (model.payoff_at (place_at g h.world.0))) (map (history_in g) hs) ≡ greatest_over (λ h. unsigned_abs (model.payoff g h)) (filter (model.is_terminal g) hs)
greatest_terminal g [] = refl
greatest_terminal g (h ∷ hs) = at (model.place_of g h) refl (greatest_terminal g hs)
  where
    rest : ℕ
    rest = greatest_over (λ (k : History). unsigned_abs (model.payoff_at (place_at g k.world.0))) (map (history_in g) hs)

    left : ℕ
    left = greatest_over (λ k. unsigned_abs (model.payoff g k)) (filter (model.is_terminal g) hs)

    greatest : Bool → ℕ
    greatest b = greatest_over (λ k. unsigned_abs (model.payoff g k)) (cond b (h ∷ filter (model.is_terminal g) hs) (filter (model.is_terminal g) hs))

    nothing : (n : ℕ) → max 0 n ≡ n
    nothing n = omega arith

    at : (p : Place) → model.place_of g h ≡ p → rest ≡ left → max (unsigned_abs (model.payoff g h)) rest ≡ greatest (model.is_terminal g h)
    at (a_world w) e same =
        ap (λ q. max (unsigned_abs (model.payoff_at q)) rest) e ∙ nothing rest ∙ same ∙ sym (ap (λ q. greatest (not (is_world q))) e)
    at (an_end z) e same =
        ap (max (unsigned_abs (model.payoff g h))) same ∙ sym (ap (λ q. greatest (not (is_world q))) e)

-- once nothing is left the greatest so far is that of all
pub greatest_end : {X : Type 0} (f : X → ℕ) (xs : List X) (i top : ℕ) → length xs ≤ i → max top (greatest_over f (drop i xs)) ≡ greatest_over f xs → top ≡ greatest_over f xs
greatest_end f xs i top l e = nothing top ∙ ap (λ ys. max top (greatest_over f ys)) (sym (drop_of_length-le xs l)) ∙ e
  where
    nothing : (n : ℕ) → n ≡ max n 0
    nothing n = omega arith

-- so the greatest of all is that of the terminal ones
pub top_is : (g : GameModel) (items : List History) → items ≡ map (history_in g) (model.histories g)
    → greatest_over (λ (h : History). unsigned_abs (model.payoff_at (place_at g h.world.0))) items ≡ top_payoff g
top_is g items e = ap (greatest_over (λ (h : History). unsigned_abs (model.payoff_at (place_at g h.world.0)))) e ∙ greatest_terminal g (model.histories g)

-- values that are no greater than another have no greater greatest one
pub greatest_small : {X : Type 0} (f : X → ℕ) (m : ℕ) (xs : List X) → ((x : X) → In x xs → f x ≤ m) → greatest_over f xs ≤ m
greatest_small f m [] e = omega arith
greatest_small f m (x ∷ xs) e = omega (arith, e x (inl refl), greatest_small f m xs (λ y i. e y (inr i)))

-- what the places where histories lead pay
pub payoffs_are : (g : GameModel) (items : List History) → items ≡ map (history_in g) (model.histories g)
    → map (λ (h : History). model.payoff_at (place_at g h.world.0)) items ≡ map (model.payoff g) (model.histories g)
payoffs_are g items e =
    ap (map (λ (h : History). model.payoff_at (place_at g h.world.0))) e ∙ map-map (λ (h : History). model.payoff_at (place_at g h.world.0)) (history_in g) (model.histories g)

-- those of one more history
pub payoffs_more : (g : GameModel) (items : List History) (i : ℕ) (d : History) → i < length items
    → map (λ (h : History). model.payoff_at (place_at g h.world.0)) (take (i + 1) items)
    ≡ map (λ (h : History). model.payoff_at (place_at g h.world.0)) (take i items) ++ model.payoff_at (place_at g (get_or items i d).world.0) ∷ []
payoffs_more g items i d l =
    ap (map (λ (h : History). model.payoff_at (place_at g h.world.0))) (take_more items i d l)
    ∙ map-append (λ (h : History). model.payoff_at (place_at g h.world.0)) (take i items) (get_or items i d ∷ [])
