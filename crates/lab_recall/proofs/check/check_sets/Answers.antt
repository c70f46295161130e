use Rattle.lab_defs_game.proofs.RecallLemmas.{recall_law}
use Rattle.lab_world.specs.Games.{game_model}
use Rattle.lab_recall.specs.Faults.{IsFault}
use Rattle.lab_recall.proofs.FaultLemmas.{names_first, names_second, forgotten_fault, passed_on}
use Rattle.lab_recall.proofs.check.check_sets.Goals as goal

pub returns-in_err-check_names-clause-fault : goal.returns-in_err-check_names-clause-fault
returns-in_err-check_names-clause-fault c =
    let g = game_model c.args.game.now in
    let e = c.in_err-check_names.field-0.0 in
    passed_on (IsFault g) c.from_residual.result e c.from_residual.ensures.1 (names_first g e c.in_err-check_names.ensures.fault)

pub returns-in_err-check_names-2-clause-fault : goal.returns-in_err-check_names-2-clause-fault
returns-in_err-check_names-2-clause-fault c =
    let g = game_model c.args.game.now in
    let e = c.in_err-check_names-2.field-0.0 in
    passed_on (IsFault g) c.from_residual-in_err-check_names-2.result e c.from_residual-in_err-check_names-2.ensures.1 (names_second g e c.in_ok-check_names.ensures.none c.in_err-check_names-2.ensures.fault)

pub returns-in_err-check_memories-clause-fault : goal.returns-in_err-check_memories-clause-fault
returns-in_err-check_memories-clause-fault c =
    let g = game_model c.args.game.now in
    let e = c.in_err-check_memories.field-0.0 in
    passed_on (IsFault g) c.from_residual-in_err-check_memories.result e c.from_residual-in_err-check_memories.ensures.1
    (forgotten_fault g e c.in_ok-check_names.ensures.none c.in_ok-check_names-2.ensures.none c.in_err-check_memories.ensures.fault)

pub returns-clause-none : goal.returns-clause-none
returns-clause-none c =
    (recall_law (game_model c.args.game.now)).1 (c.in_ok-check_names.ensures.none, c.in_ok-check_names-2.ensures.none, c.in_ok-check_memories.ensures.none)
