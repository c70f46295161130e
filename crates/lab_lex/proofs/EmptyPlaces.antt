-- The place of the first empty word, going along the bytes of a line.
use Rattle.std.proofs.Common.{◌≡◌, ℕ, ◌+◌, List, [], ◌∷◌, Bool, true, false, cond, length, get_or, drop, ◌<◌, ◌≤◌, refl, ◌∙◌, if◌then◌else◌, ◌==◌}
use Rattle.std.specs.List.{onto_first}
use Rattle.std.proofs.lemmas.List.{drop_more, drop_all}
use Rattle.lab_defs_text.specs.Words.{Bytes, words, first_empty}

-- the place of the first empty word of what is left, where the current word has the place n, and whether it is empty so far
abbrev pub empty_from : Bool → ℕ → List ℕ → ℕ
empty_from empty n [] = if empty then n else 0
empty_from empty n (c ∷ cs) = if c == 32 then (if empty then n else empty_from true (n + 1) cs) else empty_from false n cs

-- a word that has a byte may get another before it
onto_twice : (n x c : ℕ) (ws : List Bytes) → first_empty n (onto_first c ws) ≡ first_empty n (onto_first x (onto_first c ws))
onto_twice n x c [] = refl
onto_twice n x c (w ∷ ws) = refl

-- going along the bytes finds the place that is defined
both : (cs : List ℕ) → ((n : ℕ) → empty_from true n cs ≡ first_empty n (words cs)) × ((n x : ℕ) → empty_from false n cs ≡ first_empty n (onto_first x (words cs)))
both [] = (λ n. refl, λ n x. refl)
both (c ∷ cs) =
    let r = both cs in (
      λ n. elim (c == 32) as (λ b. cond b n (empty_from false n cs) ≡ first_empty n (cond b ([] ∷ words cs) (onto_first c (words cs)))) [
        | true ↦ refl
        | false ↦ r.1 n c
      ],
      λ n x. elim (c == 32) as (λ b. cond b (empty_from true (n + 1) cs) (empty_from false n cs) ≡ first_empty n (onto_first x (cond b ([] ∷ words cs) (onto_first c (words cs))))) [
        | true ↦ r.0 (n + 1)
        | false ↦ r.1 n c ∙ onto_twice n x c (words cs)
      ],
    )

-- from the start it is the one that is defined
pub empty_from_start : (n : ℕ) (cs : List ℕ) → empty_from true n cs ≡ first_empty n (words cs)
empty_from_start n cs = (both cs).0 n

-- at a space behind no byte it is the current word's
pub empty_here : (empty : Bool) (n i : ℕ) (line : List ℕ) → i < length line → get_or line i 0 ≡ 32 → empty ≡ true → n ≡ empty_from empty n (drop i line)
empty_here empty n i line h s e = rw (drop_more line i 0 h, s, e) refl

-- likewise at the end
pub empty_at_end : (empty : Bool) (n i : ℕ) (line : List ℕ) → length line ≤ i → empty ≡ true → n ≡ empty_from empty n (drop i line)
empty_at_end empty n i line h e = rw (drop_all i line h, e) refl

-- at the end behind a byte there is none
pub none_at_end : (empty : Bool) (n i : ℕ) (line : List ℕ) → length line ≤ i → empty ≡ false → 0 ≡ empty_from empty n (drop i line)
none_at_end empty n i line h e = rw (drop_all i line h, e) refl
