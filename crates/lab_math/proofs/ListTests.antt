-- Tests that all items of a list pass.
use Rattle.std.proofs.Common.{◌≡◌, ℕ, suc, ◌<◌, Bool, true, List, [], ◌∷◌, ◌++◌, length, get_or, map, nat_lt, refl, ap, sym, ◌∙◌, subst, arith}
use Rattle.std.specs.List.{list_all}
use Rattle.std.proofs.lemmas.Bool.{and_parts, and_from, lt-ltb}
use Rattle.std.proofs.lemmas.List.{length-map, length-append, get_or-map}
use Rattle.std.proofs.lemmas.List.Recursion.{and_at}

-- where all items pass a test, each does
pub item_at : {X : Type 0} (p : X → Bool) (xs : List X) (i : ℕ) (x : X) → i < length xs → x ≡ get_or xs i x → list_all p xs ≡ true → p x ≡ true
item_at p xs i x h e all = subst (λ y. p y ≡ true) (sym e) (and_at (list_all p) p refl (λ _ _. refl) xs i x h all)

-- where all images pass a test, that of each item does
pub image_at : {X Y : Type 0} (p : Y → Bool) (f : X → Y) (xs : List X) (i : ℕ) (x : X) → i < length xs → x ≡ get_or xs i x → list_all p (map f xs) ≡ true → p (f x) ≡ true
image_at p f xs i x h e all =
    item_at p (map f xs) i (f x) (omega (arith, h, length-map xs f)) (ap f e ∙ sym (get_or-map f xs i x (f x) h)) all

-- where each item passes a test, all do
pub all_from_each : {X : Type 0} (p : X → Bool) (d : X) (xs : List X) → ((i : ℕ) → i < length xs → p (get_or xs i d) ≡ true) → list_all p xs ≡ true
all_from_each p d [] h = refl
all_from_each p d (x ∷ xs) h = and_from (p x) (list_all p xs) (h 0 (omega arith)) (all_from_each p d xs (λ i lt. h (suc i) (omega (arith, lt))))

-- all items and one more
pub all_push : {X : Type 0} (p : X → Bool) (xs : List X) (x : X) → list_all p xs ≡ true → p x ≡ true → list_all p (xs ++ x ∷ []) ≡ true
all_push p [] x e f = and_from (p x) true f refl
all_push p (y ∷ ys) x e f = let a = and_parts (p y) (list_all p ys) e in and_from (p y) (list_all p (ys ++ x ∷ [])) a.0 (all_push p ys x a.1 f)

-- with one more there are some
pub some_push : {X : Type 0} (xs : List X) (x : X) → nat_lt 0 (length (xs ++ x ∷ [])) ≡ true
some_push xs x = lt-ltb 0 (length (xs ++ x ∷ [])) (omega (arith, length-append xs (x ∷ [])))
