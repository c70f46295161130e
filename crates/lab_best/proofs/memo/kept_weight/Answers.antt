use Rattle.lab_best.proofs.KeptLemmas.{one_kept}
use Rattle.lab_best.proofs.memo.kept_weight.Goals as goal

pub returns-clause-kept : goal.returns-clause-kept
returns-clause-kept c =
    one_kept c.args.d c.args.paths.now.sets.now c.args.weights.now c.args.kept.now c.place-place.result c.args.step c.args.decision c.args.pad c.path_weight-weight.result c.requires.kept c.requires.step c.requires.decision
    c.path_weight-weight.ensures.value c.path_weight-weight.ensures.within
