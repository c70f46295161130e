-- The records that sources and sinks are seen as.
use Rattle.std.specs.Prelude.{ℕ, List}

-- a source over memory: the bytes left, the numbers of the calls that fail, the number of the next call, and the count of faults
pub record Held : Type 0 where
  pub left : List ℕ
  pub failing : List ℕ
  pub call : ℕ
  pub faults : ℕ

-- a sink into memory: the bytes written, how many still fit, the numbers of the calls that fail, the number of the next call, and the count of faults
pub record Kept : Type 0 where
  pub written : List ℕ
  pub room : ℕ
  pub failing : List ℕ
  pub call : ℕ
  pub faults : ℕ

-- a source or sink over std: the reader or writer, and the count of faults
pub record Counted (T : Type 0) : Type 0 where
  pub inner : T
  pub faults : ℕ
