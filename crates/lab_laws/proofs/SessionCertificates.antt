-- What a certificate bounds, and how it is tested.
use Rattle.std.proofs.Common.{◌≡◌, ℕ, ◌<◌, ℤ, ◌-ℤ◌, ◌≤ℤ◌, List, [], ◌∷◌, Bool, true, false, cond, length, refl, sym, ap, ◌∙◌, subst, arith, Option, Some, None}
use Rattle.std.specs.Prelude.{slice_index, int_le}
use Rattle.std.specs.List.{AllByRecursion, range_with_len}
use Rattle.std.proofs.lemmas.List.FromFn.{length-map-range_with_len}
use Rattle.lab_math.proofs.Members.{all_in, all_from_in, in_range, in_from_range}
use Rattle.lab_defs_game.specs.Sets.{sets}
use Rattle.lab_defs_value.specs.Replies.{Strategy, strategy_of, reply_sets}
use Rattle.lab_defs_game.specs.Seats.{other}
use Rattle.lab_defs_value.specs.BestValues.{best_response_value}
use Rattle.lab_defs_value.specs.Bounds.{at, through}
use Rattle.lab_defs_value.proofs.HoldsTests.{le_from_test, test_from_le}
use Rattle.lab_defs_value.proofs.BestLaws.{holds_law}
use Rattle.lab_defs_report.specs.Certificates.{Broken, broken_at, broken_among, certified}
use Rattle.lab_laws.specs.Sessions.{CertifiedLaw, CertificateLaw, BrokenLaw}
use Rattle.lab_defs_value.proofs.GameValues.{some_set}
use Rattle.lab_defs_value.proofs.GameStrategies.{reply_count, sound, tight_holds}

-- ---- the test

module _ (s : Strategy) (B : ℕ → ℤ) where
  -- the actions of a set
  abbrev acts : ℕ → List ℕ
  acts J = range_with_len 0 (slice_index (reply_sets s) J)

  -- what an action backs up, where it is found broken
  abbrev found : ℕ → ℕ → Broken
  found J a = record { set = J; action = a; over = through s B J a -ℤ B J }

  -- where no action is found to back up more, none does
  none_at : (J : ℕ) (list : List ℕ) → broken_at s B J list ≡ None → AllByRecursion (λ a. through s B J a ≤ℤ B J) list
  none_at J [] e = tt
  none_at J (a ∷ rest) e = by (int_le (through s B J a) (B J)) refl e (λ k. none_at J rest k)
    where
      by : (b : Bool) → int_le (through s B J a) (B J) ≡ b → cond b (broken_at s B J rest) (Some (found J a)) ≡ None
          → (broken_at s B J rest ≡ None → AllByRecursion (λ a. through s B J a ≤ℤ B J) rest) → (through s B J a ≤ℤ B J) × AllByRecursion (λ a. through s B J a ≤ℤ B J) rest
      by true q e rest = (le_from_test (through s B J a) (B J) q, rest e)
      by false q e rest = absurd cc

  -- and back
  at_none : (J : ℕ) (list : List ℕ) → AllByRecursion (λ a. through s B J a ≤ℤ B J) list → broken_at s B J list ≡ None
  at_none J [] h = refl
  at_none J (a ∷ rest) h = ap (λ b. cond b (broken_at s B J rest) (Some (found J a))) (test_from_le (through s B J a) (B J) h.0) ∙ at_none J rest h.1

  -- what is found among sets, where this was found at the first of them
  abbrev next : List ℕ → Option Broken → Option Broken
  next rest o = elim o [ Some b ↦ Some b | None ↦ broken_among s B rest ]

  -- likewise of sets
  none_among : (Js : List ℕ) → broken_among s B Js ≡ None → AllByRecursion (λ J. broken_at s B J (acts J) ≡ None) Js
  none_among [] e = tt
  none_among (J ∷ rest) e = by (broken_at s B J (acts J)) refl e (λ k. none_among rest k)
    where
      by : (o : Option Broken) → broken_at s B J (acts J) ≡ o → next rest o ≡ None
          → (broken_among s B rest ≡ None → AllByRecursion (λ J. broken_at s B J (acts J) ≡ None) rest) → (broken_at s B J (acts J) ≡ None) × AllByRecursion (λ J. broken_at s B J (acts J) ≡ None) rest
      by (Some b) q e rest = absurd cc
      by None q e rest = (q, rest e)

  -- and back
  among_none : (Js : List ℕ) → AllByRecursion (λ J. broken_at s B J (acts J) ≡ None) Js → broken_among s B Js ≡ None
  among_none [] h = refl
  among_none (J ∷ rest) h = ap (next rest) h.0 ∙ among_none rest h.1

-- the law of the test
pub broken_law : BrokenLaw
broken_law g c =
    let s = certified g c in
    let B : ℕ → ℤ = at c.bounds in
    let n = length (reply_sets s) in (
      λ e J a l la.
          let here = all_in (λ J. broken_at s B J (acts s B J) ≡ None) (range_with_len 0 n) J (none_among s B (range_with_len 0 n) e) (in_range J 0 n (omega arith) (omega (arith, l))) in
          all_in (λ a. through s B J a ≤ℤ B J) (acts s B J) a (none_at s B J (acts s B J) here) (in_range a 0 (slice_index (reply_sets s) J) (omega arith) (omega (arith, la))),
      λ h. among_none s B (range_with_len 0 n) (all_from_in (λ J. broken_at s B J (acts s B J) ≡ None) (range_with_len 0 n) (λ J i.
          at_none s B J (acts s B J) (all_from_in (λ a. through s B J a ≤ℤ B J) (acts s B J) (λ a k.
          h J a (omega (arith, (in_from_range J 0 n i).1)) (omega (arith, (in_from_range a 0 (slice_index (reply_sets s) J) k).1)))))),
    )

-- ---- what is certified

-- the law of what is certified
pub certified_law : CertifiedLaw
certified_law g ok c is h r isr =
    holds_law (certified g c) (sound g ok c.seat is c.weights) (at c.bounds) h.holds r isr 0 (subst (λ n. 0 < n) (sym (reply_count g ok c.seat is)) (some_set g (other c.seat) ok.good))

-- the law of certificates
pub certificate_law : CertificateLaw
certificate_law g ok seat is table long is_table = record {
  weights = long;
  table = is_table;
  bounds = length-map-range_with_len (best_response_value (strategy_of g seat table)) 0 (length (sets g (other seat)));
  holds = tight_holds g ok seat is table;
}
