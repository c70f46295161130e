use Rattle.std.proofs.Common.{refl}
use Rattle.rand_core.specs.Pcg32Seed.{pcg32_seed}
use Rattle.rand_core.specs.Steps.{stream_of, word_bytes, u32_at}
use Rattle.rand_core.specs.Stream.{next_u64}
use Rattle.lab_examples.proofs.walks.words_of_a_seed.Goals as goal

pub returns : goal.returns
unfolding next_u64 stream_of pcg32_seed word_bytes u32_at
returns c = refl
