-- What a session keeps are bounds that may be kept.
use Rattle.std.proofs.Common.{◌≡◌, ℕ, ◌<◌, ◌≤◌, ℤ, pos, ◌≤ℤ◌, sym, subst, arith}
use Rattle.std.specs.Prelude.{unsigned_abs}
use Rattle.std.proofs.lemmas.Int.{ints}
use Rattle.lab_defs_game.specs.Seats.{other}
use Rattle.lab_defs_value.specs.BestValues.{best_response_value}
use Rattle.lab_defs_value.specs.Bounds.{at, value_limit}
use Rattle.lab_defs_value.proofs.BestLaws.{best_unique}
use Rattle.lab_defs_value.proofs.GameValues.{some_set}
use Rattle.lab_defs_value.proofs.GameStrategies.{reply_count, best_is}
use Rattle.lab_sizes.proofs.SizeRanges.{range_law}
use Rattle.lab_defs_report.specs.States.{table_of, bounds_of, played_by}
use Rattle.lab_laws.specs.Sessions.{SessionBoundsLaw}
use Rattle.lab_laws.proofs.SessionJudging.{kept_holds}
use Rattle.lab_laws.proofs.SessionSteps.{session_kept}

-- the law of what a session keeps: its bounds are tight, so they hold, and the first is a best-response value, which is within the limit
pub session_bounds_law : SessionBoundsLaw
session_bounds_law g ok cs s p l e seat is =
    let k = (session_kept g ok cs s p l e).1 seat is in
    let some = some_set g (other seat) ok.good in
    let best = best_response_value (played_by g p seat) 0 in
    let same : at (bounds_of p seat) 0 ≡ best =
    best_unique (played_by g p seat) 0 (at (bounds_of p seat) 0) best (k.tight 0 (subst (λ n. 0 < n) (sym (reply_count g ok seat is)) some)) (best_is g ok seat is (table_of p seat) 0 some) in
    record {
      weights = k.weights;
      sums = k.sums;
      count = k.count;
      holding = kept_holds g ok p seat is k;
      first = subst (λ x. x ≤ℤ pos (value_limit g seat)) (sym same) (up best (value_limit g seat) (range_law g ok seat is (table_of p seat) k.sums 0 some));
    }
  where
    up : (x : ℤ) (m : ℕ) → unsigned_abs x ≤ m → x ≤ℤ pos m
    up x m h = omega (arith, ints, h)
