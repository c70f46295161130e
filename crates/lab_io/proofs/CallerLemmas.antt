-- What a caller cites of a reader and of a sink.

-- bytes that were read in two steps were read together
pub use Rattle.lab_io.proofs.Fronts.{Consumes-append}
-- bytes that were given in two steps were given together; a run with nothing read ahead before or after took what it gave
pub use Rattle.lab_io.proofs.Givings.{Takes-append, Takes-all}
-- how many bytes there are before the first line feed
pub use Rattle.lab_io.proofs.Feeds.{IsBefore, IsBefore-from, before_is}
