use Rattle.std.proofs.Common.{◌≡◌, ◌+◌, ap, sym, ◌∙◌, [], true, false, is_some, take, drop, rules, arith}
use Rattle.lab_defs_text.specs.Drafts.{first_twice}
use Rattle.lab_text.specs.Drafts.{pieces}
use Rattle.lab_text.proofs.NameSteps.{twice_where_found, twice_later, found_nowhere, names_up_to}
use Rattle.lab_text.proofs.draft_steps.twice_in_pairs.Goals as goal

pub returns-then-is_some : goal.returns-then-is_some
returns-then-is_some c =
    let found : is_some c.place_of_name.result ≡ true = search rules in
    sym (twice_where_found (c.loop-i.i + 2) (pieces (take c.loop-i.i c.args.names.now)) c.args.names.now c.loop-i.i (record { ref_ptr = (0, 0); now = [] }) c.place_of_name.result
    c.loop-i-test.true c.place_of_name.ensures found)
    ∙ c.loop-i.invariant

pub loop-i-preserved : goal.loop-i-preserved
loop-i-preserved c =
    let found : is_some c.place_of_name.result ≡ false = search rules in
    let place : c.loop-i.i + 1 + 2 ≡ c.loop-i.i + 2 + 1 = omega arith in
    let ns = c.args.names.now in
    let i = c.loop-i.i in
    ap (λ n. first_twice n (pieces (take (i + 1) ns)) (pieces (drop (i + 1) ns))) place
    ∙ twice_later (i + 2) (pieces (take i ns)) (pieces (take (i + 1) ns)) ns i (record { ref_ptr = (0, 0); now = [] })
    c.loop-i-test.true (sym c.place_of_name.ensures ∙ found_nowhere c.place_of_name.result found)
    (names_up_to ns i (record { ref_ptr = (0, 0); now = [] }) c.loop-i-test.true)
    ∙ c.loop-i.invariant
