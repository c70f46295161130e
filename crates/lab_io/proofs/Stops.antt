-- What a reader has taken where it stops, and why it stops at a byte past the limit or the allowance.
use Rattle.std.proofs.Common.{◌≡◌, ℕ, ◌+◌, ◌<◌, ◌≤◌, ◌++◌, List, IsTrue, length, length-append, sym, subst, arith, min}
use Rattle.std.proofs.lemmas.List.{get_or-append-add}
use Rattle.std.specs.declared.option.Option.{Option}
use Rattle.lab_io.proofs.Feeds.{IsBefore, no_feed-front}
use Rattle.lab_io.specs.Reading.{Takes, StoppedAfter, PassesLimit, PassesAllowance, no_feed}
use Rattle.lab_io.specs.declared.line_reader.TheConstants.{READ_AHEAD, LINE_LIMIT}

-- a reader that gave what is within the allowance has taken at most a buffer more
pub StoppedAfter-given : {a b : List ℕ} {l m : Option (List ℕ)} {given : List ℕ} {allowance : ℕ} (Why : List ℕ → Type 0) → Takes a l b m given → length given ≤ allowance → length b ≤ READ_AHEAD → Why (given ++ b) → StoppedAfter a l m allowance Why
StoppedAfter-given {a} {b} {l} {m} {given} {allowance} Why p paid short why = record {
  taken = p.taken;
  consumed = p.consumed;
  within = rw (p.split, length-append) (omega arith);
  why = subst Why (sym p.split) why;
}

-- a line that grows longer than the limit passes it
pub PassesLimit-grown : (line ahead : List ℕ) (count allowance : ℕ) → IsTrue (no_feed line) → IsBefore ahead count → LINE_LIMIT < length line + count → LINE_LIMIT ≤ allowance → PassesLimit allowance (line ++ ahead)
PassesLimit-grown line ahead count allowance none before long reached = record {
  long = rw length-append (omega arith);
  unended = no_feed-front (LINE_LIMIT + 1) line ahead count none before (omega arith);
  reached = reached;
}

-- a line that grows, with its line feed where that is there, longer than the allowance passes it, unless it passes the limit first
pub PassesAllowance-grown : (line ahead : List ℕ) (count allowance : ℕ) → IsTrue (no_feed line) → IsBefore ahead count → min (length line + count) (allowance + 1) ≤ LINE_LIMIT → allowance < length line + min (count + 1) (length ahead) → PassesAllowance allowance (line ++ ahead)
PassesAllowance-grown line ahead count allowance none before first past = record {
  long = rw length-append (omega arith);
  unended = no_feed-front allowance line ahead count none before (omega arith);
  reached = omega arith;
  at_limit = λ same.
      let full : LINE_LIMIT ≡ length line + count = omega arith in
      let ended : count < length ahead = omega arith in
      rw (full, get_or-append-add) (before.feed ended);
}
