use Rattle.std.proofs.Common.{◌∷◌, [], ◌≡◌, ◌+◌, ap, sym, ◌∙◌, length, drop, get_or, arith, length-append}
use Rattle.lab_defs_text.specs.Drafts.{first_twice}
use Rattle.lab_text.specs.Drafts.{pieces}
use Rattle.lab_text.proofs.NameSteps.{twice_here, twice_later}
use Rattle.lab_text.proofs.draft_steps.twice_in_table.Goals as goal

pub returns-in-Err-Twice : goal.returns-in-Err-Twice
returns-in-Err-Twice c =
    sym (twice_here (c.loop-i.i + 2) c.loop-i.table c.args.names.now c.loop-i.i (record { ref_ptr = (0, 0); now = [] }) c.in-Err-Twice.field-0-0
    c.loop-i-test.true (c.in-Err-Twice.ensures.twice c.in-Err-Twice.field-0-0 c.in-Err-Twice.field-0-is))
    ∙ c.loop-i.invariant.so_far

pub loop-i-preserved : goal.loop-i-preserved
loop-i-preserved c =
    let place : c.loop-i.i + 1 + 2 ≡ c.loop-i.i + 2 + 1 = omega arith in
    let longer = ap length c.in-Ok.ensures.added in
    record {
      count = omega (arith, longer, length-append c.loop-i.table ((get_or c.args.names.now c.loop-i.i (record { ref_ptr = (0, 0); now = [] })).now ∷ []));
      so_far = ap (λ n. first_twice n c.add.new.self (pieces (drop (c.loop-i.i + 1) c.args.names.now))) place
          ∙ twice_later (c.loop-i.i + 2) c.loop-i.table c.add.new.self c.args.names.now c.loop-i.i (record { ref_ptr = (0, 0); now = [] })
          c.loop-i-test.true c.in-Ok.ensures.ok.1 c.in-Ok.ensures.added
          ∙ c.loop-i.invariant.so_far;
    }
