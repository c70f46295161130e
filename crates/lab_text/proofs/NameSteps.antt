-- Names that are added, and names that stand twice.
use Rattle.std.proofs.Common.{◌≡◌, ℕ, zero, suc, ◌+◌, ◌<◌, Bool, true, List, [], ◌∷◌, ◌++◌, length, get_or, take, drop, position, Option, Some, None, is_some, Ok, Err, refl, false, ap, sym, ◌∙◌, arith}
use Rattle.std.specs.Borrow.{Bor}
use Rattle.std.specs.List.{list_any}
use Rattle.std.specs.Str.{bytes_eq}
use Rattle.std.proofs.lemmas.Bool.{cond-true, cond-false, or_left, or_right}
use Rattle.std.proofs.lemmas.List.{drop_more, take_more, map-append}
use Rattle.std.proofs.lemmas.List.Quantifiers.{position-Some}
use Rattle.lab_defs_text.specs.Words.{Bytes, stands_in}
use Rattle.lab_defs_text.specs.Faults.{twice_at}
use Rattle.lab_defs_text.specs.Drafts.{first_twice, unless_twice}
use Rattle.lab_lex.proofs.CallerLemmas.{nothing_passes}
use Rattle.lab_text.specs.Drafts.{pieces}

-- an item that passes a test
any_at : {X : Type 0} (p : X → Bool) (xs : List X) (i : ℕ) (d : X) → i < length xs → p (get_or xs i d) ≡ true → list_any p xs ≡ true
any_at p [] i d h e = absurd (omega arith)
any_at p (x ∷ xs) zero d h e = or_left (p x) (list_any p xs) e
any_at p (x ∷ xs) (suc i) d h e = or_right (p x) (list_any p xs) (any_at p xs i d (omega arith) e)

-- a name that has a number stands there
stands_found : (n : Bytes) (ns : List Bytes) (k : ℕ) → position (bytes_eq n) ns ≡ Some k → stands_in n ns ≡ true
stands_found n ns k e = let r = position-Some (bytes_eq n) ns k [] e in any_at (bytes_eq n) ns k [] r.0 r.1

-- a name that is new is added
pub new_name : {A : Type 0} (n : Bytes) (ns : List Bytes) (x : A) → position (bytes_eq n) ns ≡ None → unless_twice (stands_in n ns) x ≡ Ok x
new_name n ns x e = cond-false (stands_in n ns) (Err (twice_at 2)) (Ok x) (nothing_passes (bytes_eq n) ns e)

-- a name that has a number is not added
pub old_name : {A : Type 0} (n : Bytes) (ns : List Bytes) (x : A) (k : ℕ) → position (bytes_eq n) ns ≡ Some k → unless_twice (stands_in n ns) x ≡ Err (twice_at 2)
old_name n ns x k e = cond-true (stands_in n ns) (Err (twice_at 2)) (Ok x) (stands_found n ns k e)

-- the name at a place stands before it
pub twice_here : (place : ℕ) (before : List Bytes) (ns : List (Bor Bytes)) (i : ℕ) (d : Bor Bytes) (k : ℕ) → i < length ns
    → position (bytes_eq (get_or ns i d).now) before ≡ Some k → first_twice place before (pieces (drop i ns)) ≡ place
twice_here place before ns i d k h p =
    let n = (get_or ns i d).now in
    ap (λ (ys : List (Bor Bytes)). first_twice place before (pieces ys)) (drop_more ns i d h)
    ∙ cond-true (stands_in n before) place (first_twice (place + 1) (before ++ n ∷ []) (pieces (drop (i + 1) ns))) (stands_found n before k p)

-- the name at a place is new
pub twice_later : (place : ℕ) (before after : List Bytes) (ns : List (Bor Bytes)) (i : ℕ) (d : Bor Bytes) → i < length ns
    → position (bytes_eq (get_or ns i d).now) before ≡ None → after ≡ before ++ (get_or ns i d).now ∷ [] → first_twice (place + 1) after (pieces (drop (i + 1) ns)) ≡ first_twice place before (pieces (drop i ns))
twice_later place before after ns i d h p a =
    let n = (get_or ns i d).now in
    ap (λ (bs : List Bytes). first_twice (place + 1) bs (pieces (drop (i + 1) ns))) a
    ∙ sym (ap (λ (ys : List (Bor Bytes)). first_twice place before (pieces ys)) (drop_more ns i d h)
    ∙ cond-false (stands_in n before) place (first_twice (place + 1) (before ++ n ∷ []) (pieces (drop (i + 1) ns))) (nothing_passes (bytes_eq n) before p))

-- the names up to a place are those before it, and that at it
pub names_up_to : (ns : List (Bor Bytes)) (i : ℕ) (d : Bor Bytes) → i < length ns → pieces (take (i + 1) ns) ≡ pieces (take i ns) ++ (get_or ns i d).now ∷ []
names_up_to ns i d h = ap pieces (take_more ns i d h) ∙ map-append (λ (n : Bor Bytes). n.now) (take i ns) (get_or ns i d ∷ [])

-- the name at a place stands before it, as a search tells
pub twice_where_found : (place : ℕ) (before : List Bytes) (ns : List (Bor Bytes)) (i : ℕ) (d : Bor Bytes) (found : Option ℕ) → i < length ns
    → found ≡ position (bytes_eq (get_or ns i d).now) before → is_some found ≡ true → first_twice place before (pieces (drop i ns)) ≡ place
twice_where_found place before ns i d None h p t = absurd cc
twice_where_found place before ns i d (Some k) h p t = twice_here place before ns i d k h (sym p)

-- likewise that it is new
pub found_nowhere : (found : Option ℕ) → is_some found ≡ false → found ≡ None
found_nowhere None t = refl
found_nowhere (Some k) t = absurd cc
