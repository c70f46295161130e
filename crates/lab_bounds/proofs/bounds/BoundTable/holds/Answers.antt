use Rattle.std.proofs.Common.{◌≡◌, ap, subst}
use Rattle.std.specs.Prelude.{Err}
use Rattle.lab_defs_value.specs.Bounds.{at}
use Rattle.lab_bounds.specs.declared.broken.Broken.{Broken}
use Rattle.lab_bounds.specs.Tables.{bounded_in, IsFirstBroken}
use Rattle.lab_bounds.proofs.SearchLemmas.{one_first}
use Rattle.lab_bounds.proofs.bounds.BoundTable.holds.Goals as goal

pub returns-in-Some-clause-broken : goal.returns-in-Some-clause-broken
returns-in-Some-clause-broken c b =
    let s = bounded_in c.args.form.now c.args.d c.args.table.now c.args.self.now in
    let B = at c.args.self.now.bounds in (
      λ e. let same : c.in-Some.broken ≡ b = cc e in subst (λ (x : Broken). IsFirstBroken s B x.set.0 x.action x.over.0) same c.in-Some.ensures.some,
      λ first. ap Err (one_first s B c.in-Some.broken b c.in-Some.ensures.some first),
    )
