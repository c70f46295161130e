-- Lists whose items are made one after another.
use Rattle.std.proofs.Common.{◌≡◌, ℕ, ◌+◌, ◌<◌, List, [], ◌∷◌, ◌++◌, length, map, drop, get_or, Option, Some, None, Result, Ok, Err, refl, sym, ap, subst, ◌∙◌, append_assoc, append-nil, arith}
use Rattle.std.proofs.lemmas.List.{drop_more}
use Rattle.lab_defs_text.specs.Agreement.{Agrees, FaultAgrees}
use Rattle.lab_defs_text.specs.Steps.{◌>>=◌, each}

-- what is made so far, with what is made of the rest
abbrev pub each_on : {E A B : Type 0} → (A → Result B E) → List B → List A → Result (List B) E
each_on f found [] = Ok found
each_on f found (x ∷ xs) = f x >>= λ y. each_on f (found ++ y ∷ []) xs

-- the items so far stand before those that are made of the rest
before_rest : {E B : Type 0} (found : List B) (y : B) (r : Result (List B) E) → (r >>= λ ys. Ok ((found ++ y ∷ []) ++ ys)) ≡ ((r >>= λ ys. Ok (y ∷ ys)) >>= λ ys. Ok (found ++ ys))
before_rest found y (Ok ys) = ap Ok (append_assoc found (y ∷ []) ys)
before_rest found y (Err e) = refl

-- likewise where the first of the rest may fail
before_all : {E A B : Type 0} (f : A → Result B E) (found : List B) (xs : List A) (r : Result B E)
    → ((y : B) → each_on f (found ++ y ∷ []) xs ≡ (each f xs >>= λ ys. Ok ((found ++ y ∷ []) ++ ys)))
    → (r >>= λ y. each_on f (found ++ y ∷ []) xs) ≡ ((r >>= λ y. each f xs >>= λ ys. Ok (y ∷ ys)) >>= λ ys. Ok (found ++ ys))
before_all f found xs (Err e) h = refl
before_all f found xs (Ok y) h = h y ∙ before_rest found y (each f xs)

-- what is made so far stands before what is made of the rest
each_behind : {E A B : Type 0} (f : A → Result B E) (found : List B) (xs : List A) → each_on f found xs ≡ (each f xs >>= λ ys. Ok (found ++ ys))
each_behind f found [] = ap Ok (sym (append-nil found))
each_behind f found (x ∷ xs) = before_all f found xs (f x) (λ y. each_behind f (found ++ y ∷ []) xs)

-- nothing stands before the first item
nothing_before : {E B : Type 0} (r : Result (List B) E) → (r >>= λ ys. Ok ([] ++ ys)) ≡ r
nothing_before (Ok ys) = refl
nothing_before (Err e) = refl

-- where nothing is made so far, all is made
pub each_first : {E A B : Type 0} (f : A → Result B E) (xs : List A) → each_on f [] xs ≡ each f xs
each_first f xs = each_behind f [] xs ∙ nothing_before (each f xs)

-- one item more
pub each_next : {E A B : Type 0} (f : A → Result B E) (found after : List B) (x : A) (xs : List A) (y : B) (all : Result (List B) E) → f x ≡ Ok y → after ≡ found ++ y ∷ [] → each_on f found (x ∷ xs) ≡ all → each_on f after xs ≡ all
each_next f found after x xs y all made items whole = ap (λ ys. each_on f ys xs) items ∙ sym (ap (λ r. r >>= λ z. each_on f (found ++ z ∷ []) xs) made) ∙ whole

-- the fault of a first step is that of all steps
pub fault_first : {Y Z F : Type 0} (o : Option F) (r : Result Y F) (f : Y → Result Z F) (all : Result Z F) → FaultAgrees o r → (r >>= f) ≡ all → FaultAgrees o all
fault_first None r f all e whole = tt
fault_first (Some x) r f all e whole = sym whole ∙ ap (λ q. q >>= f) e

-- an answer that is a fault agrees where the fault does
pub agrees_by_fault : {X Y E F : Type 0} (value : X → Y) (fault : E → Option F) (r : Result X E) (e : E) (answer : Result Y F) → r ≡ Err e → FaultAgrees (fault e) answer → Agrees value fault r answer
agrees_by_fault value fault r e answer same h = subst (λ q. Agrees value fault q answer) (sym same) h

-- ---- one item more

-- the last item of three steps
last_step : {E B : Type 0} (r : Result B E) (s : Result (List B) E) (t : Result B E)
    → (r >>= λ y. (s >>= λ ys. t >>= λ z. Ok (ys ++ z ∷ [])) >>= λ ys. Ok (y ∷ ys)) ≡ ((r >>= λ y. s >>= λ ys. Ok (y ∷ ys)) >>= λ ys. t >>= λ z. Ok (ys ++ z ∷ []))
last_step (Err e) s t = refl
last_step (Ok y) (Err e) t = refl
last_step (Ok y) (Ok ys) (Err e) = refl
last_step (Ok y) (Ok ys) (Ok z) = refl

-- the last item is made after all others
each_push : {E A B : Type 0} (f : A → Result B E) (xs : List A) (x : A) → each f (xs ++ x ∷ []) ≡ (each f xs >>= λ ys. f x >>= λ y. Ok (ys ++ y ∷ []))
each_push f [] x = refl
each_push f (w ∷ ws) x = ap (λ s. f w >>= λ y. s >>= λ ys. Ok (y ∷ ys)) (each_push f ws x) ∙ last_step (f w) (each f ws) (f x)

-- all items and one more
pub each_more : {E A B : Type 0} (f : A → Result B E) (xs : List A) (x : A) (ys : List B) (y : B) → each f xs ≡ Ok ys → f x ≡ Ok y → each f (xs ++ x ∷ []) ≡ Ok (ys ++ y ∷ [])
each_more f xs x ys y all made = each_push f xs x ∙ ap (λ r. r >>= λ zs. f x >>= λ z. Ok (zs ++ z ∷ [])) all ∙ ap (λ r. r >>= λ z. Ok (ys ++ z ∷ [])) made

-- the first fault is that of one more
pub fault_more : {E A B : Type 0} (o : Option E) (f : A → Result B E) (xs : List A) (x : A) (ys : List B) → each f xs ≡ Ok ys → FaultAgrees o (f x) → FaultAgrees o (each f (xs ++ x ∷ []))
fault_more o f xs x ys all fails =
    fault_first o (f x) (λ y. Ok (ys ++ y ∷ [])) (each f (xs ++ x ∷ [])) fails (sym (each_push f xs x ∙ ap (λ r. r >>= λ zs. f x >>= λ z. Ok (zs ++ z ∷ [])) all))

-- a fault is still the first with one more
pub fault_kept : {E A B : Type 0} (o : Option E) (f : A → Result B E) (xs : List A) (x : A) → FaultAgrees o (each f xs) → FaultAgrees o (each f (xs ++ x ∷ []))
fault_kept o f xs x fails = fault_first o (each f xs) (λ ys. f x >>= λ y. Ok (ys ++ y ∷ [])) (each f (xs ++ x ∷ [])) fails (sym (each_push f xs x))

-- ---- lists that are walked by places

-- the items from place i on are the one there and those from i + 1 on
left_at : {X A : Type 0} (g : X → A) (xs : List X) (i : ℕ) (d : X) → i < length xs → map g (drop i xs) ≡ g (get_or xs i d) ∷ map g (drop (i + 1) xs)
left_at g xs i d h = ap (map g) (drop_more xs i d h)

-- the item at place i is made
pub each_at : {E A B X : Type 0} (f : A → Result B E) (g : X → A) (xs : List X) (i : ℕ) (d : X) (found after : List B) (y : B) (all : Result (List B) E) → i < length xs → f (g (get_or xs i d)) ≡ Ok y → after ≡ found ++ y ∷ []
    → each_on f found (map g (drop i xs)) ≡ all → each_on f after (map g (drop (i + 1) xs)) ≡ all
each_at f g xs i d found after y all h made items whole = each_next f found after (g (get_or xs i d)) (map g (drop (i + 1) xs)) y all made items (ap (each_on f found) (sym (left_at g xs i d h)) ∙ whole)

-- or it is the first that fails
pub fault_at : {E A B X : Type 0} (o : Option E) (f : A → Result B E) (g : X → A) (xs : List X) (i : ℕ) (d : X) (found : List B) (all : Result (List B) E) → i < length xs → FaultAgrees o (f (g (get_or xs i d)))
    → each_on f found (map g (drop i xs)) ≡ all → FaultAgrees o all
fault_at o f g xs i d found all h fails whole = fault_first o (f (g (get_or xs i d))) (λ y. each_on f (found ++ y ∷ []) (map g (drop (i + 1) xs))) all fails (ap (each_on f found) (sym (left_at g xs i d h)) ∙ whole)

-- a list of one item
pub only_item : {X : Type 0} (xs : List X) (d : X) → length xs ≡ 1 → xs ≡ get_or xs 0 d ∷ []
only_item [] d e = absurd (omega (arith, e))
only_item (x ∷ []) d e = refl
only_item (x ∷ (y ∷ ys)) d e = absurd (omega (arith, e))

-- one item by itself is made
pub each_one : {E A B X : Type 0} (f : A → Result B E) (g : X → A) (xs : List X) (d : X) (y : B) (ys : List B) → length xs ≡ 1 → f (g (get_or xs 0 d)) ≡ Ok y → ys ≡ y ∷ [] → each f (map g xs) ≡ Ok ys
each_one f g xs d y ys one made items =
    ap (λ zs. each f (map g zs)) (only_item xs d one) ∙ ap (λ r. r >>= λ z. Ok (z ∷ [])) made ∙ ap Ok (sym items)

-- or it fails
pub fault_one : {E A B X : Type 0} (o : Option E) (f : A → Result B E) (g : X → A) (xs : List X) (d : X) → length xs ≡ 1 → FaultAgrees o (f (g (get_or xs 0 d))) → FaultAgrees o (each f (map g xs))
fault_one o f g xs d one fails = fault_first o (f (g (get_or xs 0 d))) (λ y. Ok (y ∷ [])) (each f (map g xs)) fails (sym (ap (λ zs. each f (map g zs)) (only_item xs d one)))
