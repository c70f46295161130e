use Rattle.std.proofs.Common.{◌<◌, ◌≤◌, ◌^◌, ap, ◌∙◌, sym, subst, length, arith}
use Rattle.std.specs.Prelude.{unsigned_abs}
use Rattle.lab_defs_value.specs.Bounds.{at, bound_units}
use Rattle.lab_session.specs.Answers.{IsReduced}
use Rattle.lab_session.proofs.Amounts.{bound_small, some_bound}
use Rattle.lab_session.proofs.board.Board.bound.Goals as goal

pub root-requires : goal.root-requires
root-requires c =
    subst (λ bs. 0 < length bs) (sym c.requires.side.tight) (some_bound c.args.self.now c.bound_units-units.ensures.accepted c.args.seat c.args.side.now.table.weights)

pub fraction-requires-clause-amount : goal.fraction-requires-clause-amount
fraction-requires-clause-amount c =
    subst (λ z. unsigned_abs z ≤ 2 ^ 94) (sym (c.root.ensures ∙ ap (λ bs. at bs 0) c.requires.side.tight))
    (omega (arith, bound_small c.args.self.now c.bound_units-units.ensures.accepted c.args.seat c.requires.seat c.args.side.now.table c.requires.side.table))

pub returns : goal.returns
returns c =
    subst (λ z. IsReduced c.fraction.result z (bound_units c.args.self.now c.args.seat)) c.root.ensures (subst (λ n. IsReduced c.fraction.result c.root.result.0 n) c.bound_units-units.ensures.units c.fraction.ensures)
