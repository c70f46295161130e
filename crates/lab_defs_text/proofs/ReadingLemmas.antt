-- A line that is read is spelled so, and a line that is spelled so is read again.
use Rattle.std.proofs.Common.{◌≡◌, ℕ, ◌+◌, ◌^◌, ◌<◌, Bool, true, false, List, [], ◌∷◌, length, Option, Some, None, Result, Ok, Err, refl, sym, ap, subst, ◌∙◌, arith, inl, inr}
use Rattle.std.specs.Prelude.{◌&&◌, nat_lt, nat_le, ◌==◌, ℤ, pos, negsuc, neg_ℤ, int_le, if◌then◌else◌}
use Rattle.std.specs.Int.RustNames.{unsigned_abs}
use Rattle.std.specs.List.{list_all, list_any, join_with_byte}
use Rattle.std.specs.Str.{bytes_eq}
use Rattle.std.proofs.lemmas.Bool.{and_parts, and_from, or_left, or_right, cases_Bool, false_from_ne_true, both_ways, leb-true, lt-ltb}
use Rattle.std.proofs.lemmas.Int.{ints}
use Rattle.std.proofs.lemmas.Bool.Decides.{nat_tests}
use Rattle.std.proofs.lemmas.List.Splits.{join_with_byte-slice_split}
use lib.Chars.{codes}
use Rattle.lab_defs_text.specs.Faults.{LineFault, lexical, bad_space_at, bad_name_at, bad_word_at}
use Rattle.lab_defs_text.specs.Steps.{◌>>=◌}
use Rattle.lab_defs_text.specs.Words.{Bytes, words, first_empty, is_name}
use Rattle.lab_defs_text.specs.Numbers.{is_whole, whole_value, numeral, signed_numeral}
use Rattle.lab_defs_text.specs.Games.{Recall, by_acts, by_seen}
use Rattle.lab_defs_text.specs.Lines.{Line, head_line, grid_line, horizon_line, memory_line, token_line, world_line, one_line, two_line, row_line, to_line, end_line, root_line, done_line, recall_word, words_of, bytes_of}
use Rattle.lab_defs_text.specs.Reading.{Kind, start_kind, head_kind, grid_kind, horizon_kind, memory_kind, token_kind, world_kind, one_kind, two_kind, row_kind, to_kind, end_kind, root_kind, done_kind, kind_of, keyword, next_kinds, kind_among, no_words, one_word, two_words, five_words, some_words, fixed_at, recall_at, name_at, names_at, whole_at, number_at, payoff_word, rest_at, of_kind, words_at, line_at}
use Rattle.lab_defs_text.specs.Texts.{is_within, is_payoff}
use Rattle.lab_defs_text.proofs.StepLemmas.{bind_ok, passed, ok_is, ok_carries, some_is}
use Rattle.lab_defs_text.proofs.SplitLemmas.{bytes_eq_is, bytes_eq_refl, is_word, are_words, has_words, name_is_word, names_are_words, no_feed, joined_no_feed, words_line}
use Rattle.lab_defs_text.proofs.SpellingLemmas.{numeral_is_word, signed_is_word, signed_again, numeral_again, signed_is}
use Rattle.lab_defs_text.proofs.GameLemmas.{within_small, payoff_small}

-- ---- which lines have a spelling

-- names and numbers of a line are such
abbrev pub is_line : Line → Bool
is_line head_line = true
is_line (grid_line n) = is_within 1 4096 n
is_line (horizon_line n) = is_within 1 32 n
is_line (memory_line r) = true
is_line (token_line n) = is_name n
is_line (world_line n) = is_name n
is_line (one_line ns) = nat_lt 0 (length ns) && list_all is_name ns
is_line (two_line ns) = nat_lt 0 (length ns) && list_all is_name ns
is_line (row_line a b) = is_name a && is_name b
is_line (to_line w n x y p) = is_within 1 1048576 w && (is_name n && (is_name x && (is_name y && is_name p)))
is_line (end_line n z) = is_name n && is_payoff z
is_line (root_line n) = is_name n
is_line done_line = true

-- the words behind the first one
abbrev pub rest_of : Line → List Bytes
rest_of head_line = codes "1" ∷ []
rest_of (grid_line n) = numeral n ∷ []
rest_of (horizon_line n) = numeral n ∷ []
rest_of (memory_line r) = recall_word r ∷ []
rest_of (token_line n) = n ∷ []
rest_of (world_line n) = n ∷ []
rest_of (one_line ns) = ns
rest_of (two_line ns) = ns
rest_of (row_line a b) = a ∷ b ∷ []
rest_of (to_line w n x y p) = numeral w ∷ n ∷ x ∷ y ∷ p ∷ []
rest_of (end_line n z) = n ∷ signed_numeral z ∷ []
rest_of (root_line n) = n ∷ []
rest_of done_line = []

-- the words of a line by its kind
words_by_kind : (l : Line) → words_of l ≡ keyword (kind_of l) ∷ rest_of l
words_by_kind head_line = refl
words_by_kind (grid_line n) = refl
words_by_kind (horizon_line n) = refl
words_by_kind (memory_line r) = refl
words_by_kind (token_line n) = refl
words_by_kind (world_line n) = refl
words_by_kind (one_line ns) = refl
words_by_kind (two_line ns) = refl
words_by_kind (row_line a b) = refl
words_by_kind (to_line w n x y p) = refl
words_by_kind (end_line n z) = refl
words_by_kind (root_line n) = refl
words_by_kind done_line = refl

-- kinds with one first word
abbrev pub same_kind : Kind → Kind → Bool
same_kind j k = bytes_eq (keyword j) (keyword k)

-- whether a kind is among those that may follow
abbrev pub may_follow : Kind → Kind → Bool
may_follow last k = list_any (λ j. same_kind j k) (next_kinds last)

-- ---- words read

-- a name that is read
name_read : (p : ℕ) (w x : Bytes) → name_at p w ≡ Ok x → (w ≡ x) × (is_name x ≡ true)
name_read p w x e =
    let a = passed (is_name w) (Ok w) (lexical (bad_name_at p)) x e in
    let same = ok_is w x a.1 in
    (same, subst (λ (v : Bytes). is_name v ≡ true) same a.0)

-- names that are read
names_read : (p : ℕ) (ws xs : List Bytes) → names_at p ws ≡ Ok xs → (ws ≡ xs) × (list_all is_name xs ≡ true)
names_read p [] xs e = let same = ok_is [] xs e in (same, subst (λ (vs : List Bytes). list_all is_name vs ≡ true) same refl)
names_read p (w ∷ ws) xs e =
    let a = bind_ok (name_at p w) (λ x. names_at (p + 1) ws >>= λ ys. Ok (x ∷ ys)) xs e in
    let b = bind_ok (names_at (p + 1) ws) (λ ys. Ok (a.0 ∷ ys)) xs a.2 in
    let c = name_read p w a.0 a.1 in
    let d = names_read (p + 1) ws b.0 b.1 in
    let same = ok_is (a.0 ∷ b.0) xs b.2 in (
      ap (λ (x : Bytes). x ∷ ws) c.0 ∙ ap (λ (x : List Bytes). a.0 ∷ x) d.0 ∙ same,
      subst (λ (vs : List Bytes). list_all is_name vs ≡ true) same (and_from (is_name a.0) (list_all is_name b.0) c.1 d.1),
    )

-- names are read again
names_again : (p : ℕ) (ws : List Bytes) → list_all is_name ws ≡ true → names_at p ws ≡ Ok ws
names_again p [] e = refl
names_again p (w ∷ ws) e = let a = and_parts (is_name w) (list_all is_name ws) e in rw (a.0, names_again (p + 1) ws a.1) refl

-- a whole number that is read
whole_read : (p : ℕ) (lo hi : ℤ) (w : Bytes) (z : ℤ) → whole_at p lo hi w ≡ Ok z → (is_whole w ≡ true) × ((int_le lo z && int_le z hi) ≡ true) × (whole_value w ≡ z)
whole_read p lo hi w z e =
    let a = passed (is_whole w) _ _ z e in
    let b = passed (int_le lo (whole_value w) && int_le (whole_value w) hi) _ _ z a.1 in
    let c = ok_is (whole_value w) z b.1 in
    (a.0, subst (λ (x : ℤ). (int_le lo x && int_le x hi) ≡ true) c b.0, c)

-- a payoff that is read
payoff_read : (p : ℕ) (w : Bytes) (z : ℤ) → payoff_word p w ≡ Ok z → (w ≡ signed_numeral z) × (is_payoff z ≡ true)
payoff_read p w z e =
    let a = whole_read p (neg_ℤ (pos 1048576)) (pos 1048576) w z e in
    let small : unsigned_abs (whole_value w) < 10 ^ 40 = rw a.2 (payoff_small z a.1) in
    (sym (signed_is w a.0 small) ∙ ap signed_numeral a.2, a.1)

-- a payoff is read again
payoff_again : (p : ℕ) (z : ℤ) → is_payoff z ≡ true → payoff_word p (signed_numeral z) ≡ Ok z
payoff_again p z e = let a = signed_again z (payoff_small z e) in rw (a.0, a.1, e) refl

-- the order of natural numbers as integers
int_le_pos : (a b : ℕ) → nat_le a b ≡ true → int_le (pos a) (pos b) ≡ true
int_le_pos a b e = grind (arith, nat_tests, ints)

-- likewise back
pos_le_pos : (a b : ℕ) → int_le (pos a) (pos b) ≡ true → nat_le a b ≡ true
pos_le_pos a b e = grind (arith, nat_tests, ints)

-- a natural number within limits by its word
number_of_whole : (lo hi : ℕ) (w : Bytes) (z : ℤ) (x : ℕ) → hi < 10 ^ 40 → is_whole w ≡ true → (int_le (pos lo) z && int_le z (pos hi)) ≡ true → whole_value w ≡ z → unsigned_abs z ≡ x → (w ≡ numeral x) × (is_within lo hi x ≡ true)
number_of_whole lo hi w (pos y) x small e r v same =
    let a = and_parts (int_le (pos lo) (pos y)) (int_le (pos y) (pos hi)) r in
    let t = and_from (nat_le lo y) (nat_le y hi) (pos_le_pos lo y a.0) (pos_le_pos y hi a.1) in
    let le = leb-true y hi (pos_le_pos y hi a.1) in
    let lt : unsigned_abs (whole_value w) < 10 ^ 40 = rw v (omega arith) in
    (sym (signed_is w e lt) ∙ ap signed_numeral v ∙ ap numeral same, subst (λ (k : ℕ). is_within lo hi k ≡ true) same t)
number_of_whole lo hi w (negsuc y) x small e r v same = absurd cc

-- a natural number that is read
number_read : (p lo hi : ℕ) (w : Bytes) (x : ℕ) → hi < 10 ^ 40 → number_at p lo hi w ≡ Ok x → (w ≡ numeral x) × (is_within lo hi x ≡ true)
number_read p lo hi w x small e =
    let a = bind_ok (whole_at p (pos lo) (pos hi) w) (λ z. Ok (unsigned_abs z)) x e in
    let b = whole_read p (pos lo) (pos hi) w a.0 a.1 in
    number_of_whole lo hi w a.0 x small b.0 b.1 b.2 (ok_is (unsigned_abs a.0) x a.2)

-- a natural number is read again
number_again : (p lo hi x : ℕ) → hi < 10 ^ 40 → is_within lo hi x ≡ true → number_at p lo hi (numeral x) ≡ Ok x
number_again p lo hi x small e =
    let h = and_parts (nat_le lo x) (nat_le x hi) e in
    let le = leb-true x hi h.1 in
    let a = numeral_again x (omega arith) in
    let t : (int_le (pos lo) (pos x) && int_le (pos x) (pos hi)) ≡ true = and_from _ _ (int_le_pos lo x h.0) (int_le_pos x hi h.1) in
    rw (a.0, a.1, t) refl

-- a kind of memory that is read
recall_read : (p : ℕ) (w : Bytes) (r : Recall) → recall_at p w ≡ Ok r → w ≡ recall_word r
recall_read p w r e = elim (cases_Bool (bytes_eq w (recall_word by_acts))) [
  | inl t ↦ (let f : ◌≡◌ {A = Result Recall LineFault} (Ok by_acts) (Ok r) = rw t at e in
      bytes_eq_is w (recall_word by_acts) t ∙ ap recall_word (ok_is by_acts r f))
  | inr t ↦ (let f : (if bytes_eq w (recall_word by_seen) then Ok by_seen else Err (bad_word_at p)) ≡ Ok r = rw t at e in
      let a = passed (bytes_eq w (recall_word by_seen)) (Ok by_seen) (bad_word_at p) r f in
      bytes_eq_is w (recall_word by_seen) a.0 ∙ ap recall_word (ok_is by_seen r a.1))
]

-- ---- the number of words

-- no word
none_is : (ws : List Bytes) (x : Bool) → no_words ws ≡ Ok x → ws ≡ []
none_is [] x e = refl
none_is (w ∷ ws) x e = absurd cc

-- one word
one_is : (ws : List Bytes) (a : Bytes) → one_word ws ≡ Ok a → ws ≡ a ∷ []
one_is [] a e = absurd cc
one_is (x ∷ []) a e = ap (λ (y : Bytes). y ∷ []) (ok_is x a e)
one_is (x ∷ y ∷ ws) a e = absurd cc

-- two words
two_is : (ws : List Bytes) (a : Bytes × Bytes) → two_words ws ≡ Ok a → ws ≡ a.0 ∷ a.1 ∷ []
two_is [] a e = absurd cc
two_is (x ∷ []) a e = absurd cc
two_is (x ∷ y ∷ []) a e = ap (λ (t : Bytes × Bytes). t.0 ∷ t.1 ∷ []) (ok_is (x, y) a e)
two_is (x ∷ y ∷ z ∷ ws) a e = absurd cc

-- five words
five_is : (ws : List Bytes) (a : Bytes × Bytes × Bytes × Bytes × Bytes) → five_words ws ≡ Ok a → ws ≡ a.0 ∷ a.1 ∷ a.2 ∷ a.3 ∷ a.4 ∷ []
five_is [] a e = absurd cc
five_is (x ∷ []) a e = absurd cc
five_is (x ∷ y ∷ []) a e = absurd cc
five_is (x ∷ y ∷ z ∷ []) a e = absurd cc
five_is (x ∷ y ∷ z ∷ u ∷ []) a e = absurd cc
five_is (x ∷ y ∷ z ∷ u ∷ v ∷ []) a e = ap (λ (t : Bytes × Bytes × Bytes × Bytes × Bytes). t.0 ∷ t.1 ∷ t.2 ∷ t.3 ∷ t.4 ∷ []) (ok_is (x, y, z, u, v) a e)
five_is (x ∷ y ∷ z ∷ u ∷ v ∷ w ∷ ws) a e = absurd cc

-- some words
some_is_some : (ws ns : List Bytes) → some_words ws ≡ Ok ns → (ws ≡ ns) × (nat_lt 0 (length ns) ≡ true)
some_is_some [] ns e = absurd cc
some_is_some (w ∷ ws) ns e =
    let same = ok_is (w ∷ ws) ns e in
    (same, subst (λ (vs : List Bytes). nat_lt 0 (length vs) ≡ true) same (lt-ltb 0 (length (w ∷ ws)) (omega arith)))

-- ---- the words of a line

-- the words behind the first one are those of a line of the kind
pub record SpellsRest (k : Kind) (ws : List Bytes) (l : Line) : Type 0 where
  pub words : ws ≡ rest_of l
  pub line : is_line l ≡ true
  pub kind : k ≡ kind_of l

-- a line that is made of what was read
made : (k : Kind) (ws : List Bytes) (m l : Line) → ◌≡◌ {A = Result Line LineFault} (Ok m) (Ok l) → ws ≡ rest_of m → is_line m ≡ true → k ≡ kind_of m → SpellsRest k ws l
made k ws m l e p q r = ok_carries (λ (x : Line). SpellsRest k ws x) m l e (record { words = p; line = q; kind = r })

-- two words for two
two_same : (a x b y : Bytes) → a ≡ x → b ≡ y → a ∷ b ∷ [] ≡ x ∷ y ∷ []
two_same a x b y p q = cc

-- five words for five
five_same : (a v b w c x d y e z : Bytes) → a ≡ v → b ≡ w → c ≡ x → d ≡ y → e ≡ z → a ∷ b ∷ c ∷ d ∷ e ∷ [] ≡ v ∷ w ∷ x ∷ y ∷ z ∷ []
five_same a v b w c x d y e z p q r s t = cc

-- likewise of a list that has the five
from_five : (ws : List Bytes) (a v b w c x d y e z : Bytes) → ws ≡ a ∷ b ∷ c ∷ d ∷ e ∷ [] → a ≡ v → b ≡ w → c ≡ x → d ≡ y → e ≡ z → ws ≡ v ∷ w ∷ x ∷ y ∷ z ∷ []
from_five ws a v b w c x d y e z h p q r s t = h ∙ five_same a v b w c x d y e z p q r s t

-- one word for one
one_same : (ws : List Bytes) (a x : Bytes) → ws ≡ a ∷ [] → a ≡ x → ws ≡ x ∷ []
one_same ws a x p q = p ∙ ap (λ (v : Bytes). v ∷ []) q

-- the line of the format
head_read : (ws : List Bytes) (l : Line) → rest_at head_kind ws ≡ Ok l → SpellsRest head_kind ws l
head_read ws l e =
    let c = bind_ok (one_word ws) (λ a. fixed_at 2 (codes "1") a >>= λ x. Ok head_line) l e in
    let x = bind_ok (fixed_at 2 (codes "1") c.0) (λ x. Ok head_line) l c.2 in
    let t = passed (bytes_eq c.0 (codes "1")) (Ok true) (bad_word_at 2) x.0 x.1 in
    made head_kind ws head_line l x.2 (one_same ws c.0 (codes "1") (one_is ws c.0 c.1) (bytes_eq_is c.0 (codes "1") t.0)) refl refl

-- the line of the grid
grid_read : (ws : List Bytes) (l : Line) → rest_at grid_kind ws ≡ Ok l → SpellsRest grid_kind ws l
grid_read ws l e =
    let c = bind_ok (one_word ws) (λ a. number_at 2 1 4096 a >>= λ n. Ok (grid_line n)) l e in
    let x = bind_ok (number_at 2 1 4096 c.0) (λ n. Ok (grid_line n)) l c.2 in
    let r = number_read 2 1 4096 c.0 x.0 (omega arith) x.1 in
    made grid_kind ws (grid_line x.0) l x.2 (one_same ws c.0 (numeral x.0) (one_is ws c.0 c.1) r.0) r.1 refl

-- the line of the horizon
horizon_read : (ws : List Bytes) (l : Line) → rest_at horizon_kind ws ≡ Ok l → SpellsRest horizon_kind ws l
horizon_read ws l e =
    let c = bind_ok (one_word ws) (λ a. number_at 2 1 32 a >>= λ n. Ok (horizon_line n)) l e in
    let x = bind_ok (number_at 2 1 32 c.0) (λ n. Ok (horizon_line n)) l c.2 in
    let r = number_read 2 1 32 c.0 x.0 (omega arith) x.1 in
    made horizon_kind ws (horizon_line x.0) l x.2 (one_same ws c.0 (numeral x.0) (one_is ws c.0 c.1) r.0) r.1 refl

-- the line of the memory
memory_read : (ws : List Bytes) (l : Line) → rest_at memory_kind ws ≡ Ok l → SpellsRest memory_kind ws l
memory_read ws l e =
    let c = bind_ok (one_word ws) (λ a. recall_at 2 a >>= λ r. Ok (memory_line r)) l e in
    let x = bind_ok (recall_at 2 c.0) (λ r. Ok (memory_line r)) l c.2 in
    made memory_kind ws (memory_line x.0) l x.2 (one_same ws c.0 (recall_word x.0) (one_is ws c.0 c.1) (recall_read 2 c.0 x.0 x.1)) refl refl

-- what a line of one name is
abbrev IsNamed : Kind → (Bytes → Line) → Type 0
IsNamed k f = (n : Bytes) → (rest_of (f n) ≡ n ∷ []) × (is_line (f n) ≡ is_name n) × (k ≡ kind_of (f n))

-- a line of one name
named_read : (k : Kind) (f : Bytes → Line) (ws : List Bytes) (l : Line) → IsNamed k f → (one_word ws >>= λ a. name_at 2 a >>= λ n. Ok (f n)) ≡ Ok l → SpellsRest k ws l
named_read k f ws l h e =
    let c = bind_ok (one_word ws) (λ a. name_at 2 a >>= λ n. Ok (f n)) l e in
    let x = bind_ok (name_at 2 c.0) (λ n. Ok (f n)) l c.2 in
    let r = name_read 2 c.0 x.0 x.1 in
    made k ws (f x.0) l x.2 (one_same ws c.0 x.0 (one_is ws c.0 c.1) r.0 ∙ sym (h x.0).0) ((h x.0).1 ∙ r.1) (h x.0).2

-- what a line of names is
abbrev IsListed : Kind → (List Bytes → Line) → Type 0
IsListed k f = (ns : List Bytes) → (rest_of (f ns) ≡ ns) × (is_line (f ns) ≡ (nat_lt 0 (length ns) && list_all is_name ns)) × (k ≡ kind_of (f ns))

-- a line of names
listed_read : (k : Kind) (f : List Bytes → Line) (ws : List Bytes) (l : Line) → IsListed k f → (some_words ws >>= λ ns. names_at 2 ns >>= λ xs. Ok (f xs)) ≡ Ok l → SpellsRest k ws l
listed_read k f ws l h e =
    let c = bind_ok (some_words ws) (λ ns. names_at 2 ns >>= λ xs. Ok (f xs)) l e in
    let x = bind_ok (names_at 2 c.0) (λ xs. Ok (f xs)) l c.2 in
    let s = some_is_some ws c.0 c.1 in
    let r = names_read 2 c.0 x.0 x.1 in
    let some : nat_lt 0 (length x.0) ≡ true = subst (λ (ns : List Bytes). nat_lt 0 (length ns) ≡ true) r.0 s.1 in
    made k ws (f x.0) l x.2 (s.0 ∙ r.0 ∙ sym (h x.0).0) ((h x.0).1 ∙ and_from (nat_lt 0 (length x.0)) (list_all is_name x.0) some r.1) (h x.0).2

-- the line of a row
row_read : (ws : List Bytes) (l : Line) → rest_at row_kind ws ≡ Ok l → SpellsRest row_kind ws l
row_read ws l e =
    let c = bind_ok (two_words ws) (λ a. name_at 2 a.0 >>= λ x. name_at 3 a.1 >>= λ y. Ok (row_line x y)) l e in
    let t = c.0 in
    let x = bind_ok (name_at 2 t.0) (λ x. name_at 3 t.1 >>= λ y. Ok (row_line x y)) l c.2 in
    let y = bind_ok (name_at 3 t.1) (λ y. Ok (row_line x.0 y)) l x.2 in
    let p = name_read 2 t.0 x.0 x.1 in
    let q = name_read 3 t.1 y.0 y.1 in
    made row_kind ws (row_line x.0 y.0) l y.2 (two_is ws t c.1 ∙ two_same t.0 x.0 t.1 y.0 p.0 q.0) (and_from (is_name x.0) (is_name y.0) p.1 q.1) refl

-- the line of an end
end_read : (ws : List Bytes) (l : Line) → rest_at end_kind ws ≡ Ok l → SpellsRest end_kind ws l
end_read ws l e =
    let c = bind_ok (two_words ws) (λ a. name_at 2 a.0 >>= λ n. payoff_word 3 a.1 >>= λ z. Ok (end_line n z)) l e in
    let t = c.0 in
    let x = bind_ok (name_at 2 t.0) (λ n. payoff_word 3 t.1 >>= λ z. Ok (end_line n z)) l c.2 in
    let y = bind_ok (payoff_word 3 t.1) (λ z. Ok (end_line x.0 z)) l x.2 in
    let p = name_read 2 t.0 x.0 x.1 in
    let q = payoff_read 3 t.1 y.0 y.1 in
    made end_kind ws (end_line x.0 y.0) l y.2 (two_is ws t c.1 ∙ two_same t.0 x.0 t.1 (signed_numeral y.0) p.0 q.0) (and_from (is_name x.0) (is_payoff y.0) p.1 q.1) refl

-- the line of an outcome
to_read : (ws : List Bytes) (l : Line) → rest_at to_kind ws ≡ Ok l → SpellsRest to_kind ws l
to_read ws l e =
    let c = bind_ok (five_words ws) (λ a. number_at 2 1 1048576 a.0 >>= λ w. name_at 3 a.1 >>= λ n. name_at 4 a.2 >>= λ x. name_at 5 a.3 >>= λ y. name_at 6 a.4 >>= λ p. Ok (to_line w n x y p)) l e in
    let t = c.0 in
    let w = bind_ok (number_at 2 1 1048576 t.0) (λ w. name_at 3 t.1 >>= λ n. name_at 4 t.2 >>= λ x. name_at 5 t.3 >>= λ y. name_at 6 t.4 >>= λ p. Ok (to_line w n x y p)) l c.2 in
    let n = bind_ok (name_at 3 t.1) (λ n. name_at 4 t.2 >>= λ x. name_at 5 t.3 >>= λ y. name_at 6 t.4 >>= λ p. Ok (to_line w.0 n x y p)) l w.2 in
    let x = bind_ok (name_at 4 t.2) (λ x. name_at 5 t.3 >>= λ y. name_at 6 t.4 >>= λ p. Ok (to_line w.0 n.0 x y p)) l n.2 in
    let y = bind_ok (name_at 5 t.3) (λ y. name_at 6 t.4 >>= λ p. Ok (to_line w.0 n.0 x.0 y p)) l x.2 in
    let p = bind_ok (name_at 6 t.4) (λ p. Ok (to_line w.0 n.0 x.0 y.0 p)) l y.2 in
    let rwt = number_read 2 1 1048576 t.0 w.0 (omega arith) w.1 in
    let rn = name_read 3 t.1 n.0 n.1 in
    let rx = name_read 4 t.2 x.0 x.1 in
    let ry = name_read 5 t.3 y.0 y.1 in
    let rp = name_read 6 t.4 p.0 p.1 in
    made to_kind ws (to_line w.0 n.0 x.0 y.0 p.0) l p.2
    (from_five ws t.0 (numeral w.0) t.1 n.0 t.2 x.0 t.3 y.0 t.4 p.0 (five_is ws t c.1) rwt.0 rn.0 rx.0 ry.0 rp.0)
    (and_from (is_within 1 1048576 w.0) (is_name n.0 && (is_name x.0 && (is_name y.0 && is_name p.0))) rwt.1
    (and_from (is_name n.0) (is_name x.0 && (is_name y.0 && is_name p.0)) rn.1
    (and_from (is_name x.0) (is_name y.0 && is_name p.0) rx.1
    (and_from (is_name y.0) (is_name p.0) ry.1 rp.1)))) refl

-- words that are read are those of the line
pub rest_read : (k : Kind) (ws : List Bytes) (l : Line) → rest_at k ws ≡ Ok l → SpellsRest k ws l
rest_read start_kind ws l e = absurd cc
rest_read head_kind ws l e = head_read ws l e
rest_read grid_kind ws l e = grid_read ws l e
rest_read horizon_kind ws l e = horizon_read ws l e
rest_read memory_kind ws l e = memory_read ws l e
rest_read token_kind ws l e = named_read token_kind token_line ws l (λ n. (refl, refl, refl)) e
rest_read world_kind ws l e = named_read world_kind world_line ws l (λ n. (refl, refl, refl)) e
rest_read one_kind ws l e = listed_read one_kind one_line ws l (λ ns. (refl, refl, refl)) e
rest_read two_kind ws l e = listed_read two_kind two_line ws l (λ ns. (refl, refl, refl)) e
rest_read row_kind ws l e = row_read ws l e
rest_read to_kind ws l e = to_read ws l e
rest_read end_kind ws l e = end_read ws l e
rest_read root_kind ws l e = named_read root_kind root_line ws l (λ n. (refl, refl, refl)) e
rest_read done_kind ws l e =
    let c = bind_ok (no_words ws) (λ x. Ok done_line) l e in
    made done_kind ws done_line l c.2 (none_is ws c.0 c.1) refl refl

-- names, some at all, are read again
listed_again : (ns : List Bytes) (f : List Bytes → Line) → (nat_lt 0 (length ns) && list_all is_name ns) ≡ true → (some_words ns >>= λ vs. names_at 2 vs >>= λ xs. Ok (f xs)) ≡ Ok (f ns)
listed_again [] f e = absurd cc
listed_again (x ∷ xs) f e = let a = and_parts (nat_lt 0 (length (x ∷ xs))) (list_all is_name (x ∷ xs)) e in rw (names_again 2 (x ∷ xs) a.1) refl

-- the words of a line are read again
rest_again : (l : Line) → is_line l ≡ true → rest_at (kind_of l) (rest_of l) ≡ Ok l
rest_again head_line e = refl
rest_again (grid_line n) e = rw (number_again 2 1 4096 n (omega arith) e) refl
rest_again (horizon_line n) e = rw (number_again 2 1 32 n (omega arith) e) refl
rest_again (memory_line by_acts) e = refl
rest_again (memory_line by_seen) e = refl
rest_again (token_line n) e = rw e refl
rest_again (world_line n) e = rw e refl
rest_again (one_line ns) e = listed_again ns one_line e
rest_again (two_line ns) e = listed_again ns two_line e
rest_again (row_line a b) e = let h = and_parts (is_name a) (is_name b) e in rw (h.0, h.1) refl
rest_again (to_line w n x y p) e =
    let a = and_parts (is_within 1 1048576 w) (is_name n && (is_name x && (is_name y && is_name p))) e in
    let b = and_parts (is_name n) (is_name x && (is_name y && is_name p)) a.1 in
    let c = and_parts (is_name x) (is_name y && is_name p) b.1 in
    let d = and_parts (is_name y) (is_name p) c.1 in
    rw (number_again 2 1 1048576 w (omega arith) a.0, b.0, c.0, d.0, d.1) refl
rest_again (end_line n z) e = let h = and_parts (is_name n) (is_payoff z) e in rw (h.0, payoff_again 3 z h.1) refl
rest_again (root_line n) e = rw e refl
rest_again done_line e = refl

-- ---- the first word

-- the kind of a first word is one of those that it was looked for among
record Among (k : Kind) (ks : List Kind) (w : Bytes) : Type 0 where
  pub there : list_any (λ j. same_kind j k) ks ≡ true
  pub word : w ≡ keyword k

-- a kind that is found
among_read : (k : Kind) (ks : List Kind) (w : Bytes) → kind_among ks w ≡ Some k → Among k ks w
among_read k [] w e = absurd cc
among_read k (j ∷ js) w e = elim (cases_Bool (bytes_eq w (keyword j))) [
  | inl t ↦ (let f : ◌≡◌ {A = Option Kind} (Some j) (Some k) = rw t at e in
      let same = some_is j k f in
      record { there = or_left (same_kind j k) (list_any (λ i. same_kind i k) js) (subst (λ (i : Kind). same_kind j i ≡ true) same (bytes_eq_refl (keyword j))); word = bytes_eq_is w (keyword j) t ∙ ap keyword same })
  | inr f ↦ (let g : kind_among js w ≡ Some k = rw f at e in
      let r = among_read k js w g in
      record { there = or_right (same_kind j k) (list_any (λ i. same_kind i k) js) r.there; word = r.word })
]

-- all kinds
abbrev all_kinds : List Kind
all_kinds =
    start_kind ∷ head_kind ∷ grid_kind ∷ horizon_kind ∷ memory_kind ∷ token_kind ∷ world_kind ∷ one_kind ∷ two_kind ∷ row_kind ∷ to_kind ∷ end_kind ∷ root_kind ∷ done_kind ∷ []

-- each kind is found by its first word
kind_back : (k : Kind) → kind_among all_kinds (keyword k) ≡ Some k
kind_back start_kind = refl
kind_back head_kind = refl
kind_back grid_kind = refl
kind_back horizon_kind = refl
kind_back memory_kind = refl
kind_back token_kind = refl
kind_back world_kind = refl
kind_back one_kind = refl
kind_back two_kind = refl
kind_back row_kind = refl
kind_back to_kind = refl
kind_back end_kind = refl
kind_back root_kind = refl
kind_back done_kind = refl

-- first words tell kinds apart
kinds_apart : (j k : Kind) → keyword j ≡ keyword k → j ≡ k
kinds_apart j k e = some_is j k (sym (kind_back j) ∙ ap (kind_among all_kinds) e ∙ kind_back k)

-- a kind that is among some is found
among_again : (k : Kind) (ks : List Kind) → list_any (λ j. same_kind j k) ks ≡ true → kind_among ks (keyword k) ≡ Some k
among_again k [] e = absurd cc
among_again k (j ∷ js) e = elim (cases_Bool (bytes_eq (keyword k) (keyword j))) [
  | inl t ↦ (let same : j ≡ k = kinds_apart j k (sym (bytes_eq_is (keyword k) (keyword j) t)) in
      rw t (subst (λ (i : Kind). ◌≡◌ {A = Option Kind} (Some j) (Some i)) same refl))
  | inr f ↦ (let g : same_kind j k ≡ false = false_from_ne_true (same_kind j k) (λ t. both_ways (bytes_eq (keyword k) (keyword j)) f (rw (bytes_eq_is (keyword j) (keyword k) t) (bytes_eq_refl (keyword k)))) in
      let h : list_any (λ i. same_kind i k) js ≡ true = rw g at e in
      rw f (among_again k js h))
]

-- ---- from bytes to a line

-- the words of a line that may follow
record SpellsLine (last : Kind) (ws : List Bytes) (l : Line) : Type 0 where
  pub words : ws ≡ words_of l
  pub line : is_line l ≡ true
  pub follows : may_follow last (kind_of l) ≡ true

-- the bytes of a line that may follow
pub record IsLineOf (last : Kind) (b : Bytes) (l : Line) : Type 0 where
  pub bytes : b ≡ bytes_of l
  pub line : is_line l ≡ true
  pub follows : may_follow last (kind_of l) ≡ true

-- a first word and others for the same
words_same : (w x : Bytes) (ws xs : List Bytes) → w ≡ x → ws ≡ xs → w ∷ ws ≡ x ∷ xs
words_same w x ws xs p q = cc

-- words whose first one has a kind
kind_read : (last : Kind) (w : Bytes) (ws : List Bytes) (l : Line) (k : Option Kind) → kind_among (next_kinds last) w ≡ k → of_kind k ws ≡ Ok l → SpellsLine last (w ∷ ws) l
kind_read last w ws l None f e = absurd cc
kind_read last w ws l (Some k) f e =
    let a = among_read k (next_kinds last) w f in
    let r = rest_read k ws l e in
    record {
      words = words_same w (keyword (kind_of l)) ws (rest_of l) (a.word ∙ ap keyword r.kind) r.words ∙ sym (words_by_kind l);
      line = r.line;
      follows = subst (λ (j : Kind). may_follow last j ≡ true) r.kind a.there;
    }

-- words that are read are those of a line that may follow
words_read : (last : Kind) (ws : List Bytes) (l : Line) → words_at last ws ≡ Ok l → SpellsLine last ws l
words_read last [] l e = absurd cc
words_read last (w ∷ ws) l e = kind_read last w ws l (kind_among (next_kinds last) w) refl e

-- bytes that are read are those of a line that may follow
pub line_read : (last : Kind) (bytes : Bytes) (l : Line) → line_at last bytes ≡ Ok l → IsLineOf last bytes l
line_read last bytes l e =
    let a = passed (first_empty 1 (words bytes) == 0) (words_at last (words bytes)) _ l e in
    let r = words_read last (words bytes) l a.1 in
    record { bytes = sym (join_with_byte-slice_split 32 bytes) ∙ ap (join_with_byte 32) r.words; line = r.line; follows = r.follows }

-- no word is empty
none_empty : (n : ℕ) (ws : List Bytes) → are_words ws ≡ true → first_empty n ws ≡ 0
none_empty n [] e = refl
none_empty n ([] ∷ ws) e = absurd cc
none_empty n ((c ∷ cs) ∷ ws) e = none_empty (n + 1) ws (and_parts (is_word (c ∷ cs)) (are_words ws) e).1

-- one name is one word
name_word : (n : Bytes) → is_name n ≡ true → are_words (n ∷ []) ≡ true
name_word n e = and_from (is_word n) true (name_is_word n e) refl

-- one number is one word
number_word : (lo hi n : ℕ) → is_within lo hi n ≡ true → hi < 10 ^ 40 → are_words (numeral n ∷ []) ≡ true
number_word lo hi n e h = and_from (is_word (numeral n)) true (numeral_is_word n (within_small lo hi n e h)) refl

-- a word before words
more_words : (w : Bytes) (ws : List Bytes) → is_word w ≡ true → are_words ws ≡ true → are_words (w ∷ ws) ≡ true
more_words w ws e f = and_from (is_word w) (are_words ws) e f

-- the words of a line are words
pub line_words : (l : Line) → is_line l ≡ true → has_words l ≡ true
line_words head_line e = refl
line_words (grid_line n) e = number_word 1 4096 n e (omega arith)
line_words (horizon_line n) e = number_word 1 32 n e (omega arith)
line_words (memory_line by_acts) e = refl
line_words (memory_line by_seen) e = refl
line_words (token_line n) e = name_word n e
line_words (world_line n) e = name_word n e
line_words (one_line ns) e = names_are_words ns (and_parts (nat_lt 0 (length ns)) (list_all is_name ns) e).1
line_words (two_line ns) e = names_are_words ns (and_parts (nat_lt 0 (length ns)) (list_all is_name ns) e).1
line_words (row_line a b) e = let h = and_parts (is_name a) (is_name b) e in more_words a (b ∷ []) (name_is_word a h.0) (name_word b h.1)
line_words (to_line w n x y p) e =
    let a = and_parts (is_within 1 1048576 w) (is_name n && (is_name x && (is_name y && is_name p))) e in
    let b = and_parts (is_name n) (is_name x && (is_name y && is_name p)) a.1 in
    let c = and_parts (is_name x) (is_name y && is_name p) b.1 in
    let d = and_parts (is_name y) (is_name p) c.1 in
    more_words (numeral w) (n ∷ x ∷ y ∷ p ∷ []) (numeral_is_word w (within_small 1 1048576 w a.0 (omega arith)))
    (more_words n (x ∷ y ∷ p ∷ []) (name_is_word n b.0) (more_words x (y ∷ p ∷ []) (name_is_word x c.0) (more_words y (p ∷ []) (name_is_word y d.0) (name_word p d.1))))
line_words (end_line n z) e =
    let a = and_parts (is_name n) (is_payoff z) e in
    more_words n (signed_numeral z ∷ []) (name_is_word n a.0) (and_from (is_word (signed_numeral z)) true (signed_is_word z (payoff_small z a.1)) refl)
line_words (root_line n) e = name_word n e
line_words done_line e = refl

-- a line has no line feed
pub line_no_feed : (l : Line) → is_line l ≡ true → list_all no_feed (bytes_of l) ≡ true
line_no_feed l e = joined_no_feed (words_of l) (line_words l e)

-- bytes with these words are read by them
at_words : (last : Kind) (vs ws : List Bytes) (l : Line) → vs ≡ ws → first_empty 1 ws ≡ 0 → words_at last ws ≡ Ok l
    → ◌≡◌ {A = Result Line LineFault} (if first_empty 1 vs == 0 then words_at last vs else Err (lexical (bad_space_at (first_empty 1 vs)))) (Ok l)
at_words last vs ws l same none e = rw (same, none) e

-- the bytes of a line that may follow are read again
pub line_again : (last : Kind) (l : Line) → is_line l ≡ true → may_follow last (kind_of l) ≡ true → line_at last (bytes_of l) ≡ Ok l
line_again last l e f =
    let h = line_words l e in
    let by_kind : words_at last (keyword (kind_of l) ∷ rest_of l) ≡ Ok l = rw (among_again (kind_of l) (next_kinds last) f) (rest_again l e) in
    at_words last (words (bytes_of l)) (words_of l) l (words_line l h) (none_empty 1 (words_of l) h) (ap (words_at last) (words_by_kind l) ∙ by_kind)
