use Rattle.std.proofs.Common.{rules, ◌≤◌, ◌<◌, ◌^◌, [], ◌∷◌, ◌++◌, sym, ap, ◌∙◌, arith, append_assoc}
use Rattle.std.specs.Fmt.{decimal, signed_decimal}
use Rattle.std.specs.Int.{w128}
use Rattle.std.specs.Int.RustNames.{unsigned_abs, FitsSigned}
use Rattle.std.proofs.lemmas.Int.{to_z-of_z, ints}
use Rattle.lab_math.proofs.ListParts.{same_drop_after}
use Rattle.lab_defs_text.proofs.FractionLemmas.{quotient_text_is}
use Rattle.lab_units.proofs.fraction.write_fraction.Goals as goal

pub returns-clause-text : goal.returns-clause-text
returns-clause-text c =
    let f : FitsSigned w128 c.args.value.now.num = search rules in
    let num : unsigned_abs c.args.value.now.num < 10 ^ 40 = omega (arith, ints) in
    let den : c.args.value.now.den < 2 ^ 128 = search rules in
    let wide : c.args.value.now.den < 10 ^ 40 = omega (arith, den) in
    c.put.ensures.piece
    ∙ ap (λ ds. ds ++ c.as_bytes-2.result.now)
    (c.put-start.ensures.piece ∙ ap (λ ds. ds ++ 47 ∷ []) (c.put-slash.ensures.piece ∙ c.as_bytes.ensures.value ∙ (simp to_z-of_z at c.format.ensures.text)))
    ∙ ap (λ ds. (signed_decimal c.args.value.now.num ++ 47 ∷ []) ++ ds) (c.as_bytes-2.ensures.value ∙ c.format-2.ensures.text)
    ∙ append_assoc (signed_decimal c.args.value.now.num) (47 ∷ []) (decimal c.args.value.now.den)
    ∙ sym (quotient_text_is c.args.value.now.num c.args.value.now.den num wide)

pub returns-clause-rest : goal.returns-clause-rest
returns-clause-rest c =
    let first : c.put-slash.result ≤ c.put.result = omega (arith, c.put.ensures.end, c.put-start.ensures.end) in
    let second : c.put-start.result ≤ c.put.result = omega (arith, c.put.ensures.end) in
    c.put.ensures.rest
    ∙ same_drop_after c.put-start.result c.put.result c.put-start.new.out c.put-slash.new.out second c.put-start.ensures.rest
    ∙ same_drop_after c.put-slash.result c.put.result c.put-slash.new.out c.args.out.now first c.put-slash.ensures.rest
