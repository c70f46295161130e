-- What callers may cite.

-- a table after a window was written, in the words of the definitions
pub use Rattle.lab_table.proofs.SpliceLemmas.{window_spliced}
-- weights that sum to the grid, in these words and in those of the definitions
pub use Rattle.lab_table.proofs.SumLemmas.{weights_sum, sums_weigh}
-- where the weights of a set are among those of all
pub use Rattle.lab_table.proofs.PlaceLemmas.{no_set, all_is, first_le, next_is, end_is, deciding_weights, actions_length, actions_is, first_is}
