-- What callers may cite.

-- worths as whole numbers, place by place, and numbers that are a function's values in order
pub use Rattle.lab_best.proofs.NumberLemmas.{nothing, number_at, number_written, number_kept, number_zero, numbers_length, numbers_range, range_length, number_in_range}
-- small forms, and how many sets reply to a strategy
pub use Rattle.lab_best.proofs.FormLemmas.{small_for, keeper_grid, is_table, replies_length, worths_small}
-- best-response values: what an action backs up looks at later sets alone, lists of them, how small they are
pub use Rattle.lab_best.proofs.BestLemmas.{through_later, greatest_is_best, best_written, best_small, small_written, small_together, best_list, best_tight, first_best_earns}
