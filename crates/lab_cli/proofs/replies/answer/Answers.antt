-- Each command that is built is replied to by its call, and each other one refused.
use Rattle.std.proofs.Common.{◌≡◌, false, refl, sym, ap, inl, inr}
use Rattle.lab_defs_report.specs.Commands as definition
use Rattle.lab_defs_report.specs.Modes.{is_built_command}
use Rattle.lab_commands.specs.declared.command.Command.{Command}
use Rattle.lab_commands.specs.Commands.{command_model}
use Rattle.lab_cli.proofs.CommandLemmas.{other_refused}
use Rattle.lab_cli.proofs.replies.answer.Goals as goal

pub returns-in-ExpectUniform-clause-replies : goal.returns-in-ExpectUniform-clause-replies
returns-in-ExpectUniform-clause-replies g c = rw c.in-ExpectUniform.is (c.write.ensures.replies c.args.session.now definition.expect_uniform refl c.expect_uniform-reply.ensures)

pub returns-in-Expect-clause-replies : goal.returns-in-Expect-clause-replies
returns-in-Expect-clause-replies g c = rw c.in-Expect.is (c.write-in-Expect.ensures.replies c.args.session.now definition.expect refl c.expect.ensures)

pub returns-in-BlueprintUniform-clause-replies : goal.returns-in-BlueprintUniform-clause-replies
returns-in-BlueprintUniform-clause-replies g c = rw c.in-BlueprintUniform.is (c.write-in-BlueprintUniform.ensures.replies c.args.session.now definition.blueprint_uniform refl c.blueprint-reply.ensures)

pub returns-in-BlueprintGiven-clause-replies : goal.returns-in-BlueprintGiven-clause-replies
returns-in-BlueprintGiven-clause-replies g c =
    rw (c.in-BlueprintGiven.is, sym c.as_slice-weights.ensures) (c.write-in-BlueprintGiven.ensures.replies c.args.session.now (definition.blueprint_given c.as_slice-weights.result.now) refl c.blueprint-reply-in-BlueprintGiven.ensures)

pub returns-in-BlueprintSolve-clause-replies : goal.returns-in-BlueprintSolve-clause-replies
returns-in-BlueprintSolve-clause-replies g c =
    rw c.in-BlueprintSolve.is (c.write-in-BlueprintSolve.ensures.replies c.args.session.now (definition.blueprint_solve c.in-BlueprintSolve.rounds) refl c.blueprint-reply-in-BlueprintSolve.ensures)

pub returns-in-Bound-clause-replies : goal.returns-in-Bound-clause-replies
returns-in-Bound-clause-replies g c = rw c.in-Bound.is (c.write-in-Bound.ensures.replies c.args.session.now (definition.bound c.in-Bound.seat) refl c.bound.ensures)

pub returns-in-Show-clause-replies : goal.returns-in-Show-clause-replies
returns-in-Show-clause-replies g c = rw c.in-Show.is (c.write-in-Show.ensures.replies c.args.session.now (definition.show c.in-Show.seat) refl c.show.ensures)

pub returns-in-Propose-clause-replies : goal.returns-in-Propose-clause-replies
returns-in-Propose-clause-replies g c =
    let built = λ (x : Command). is_built_command (command_model x) in
    let none : is_built_command (command_model c.args.command.now) ≡ false = elim c.in-Propose.is [
      | inl propose ↦ ap built propose.4
      | inr rest ↦ elim rest [
        | inl resolve ↦ ap built resolve.4
        | inr rest ↦ elim rest [ inl cert ↦ ap built cert.1 | inr rest ↦ elim rest [ inl deal ↦ ap built deal.1 | inr play ↦ ap built play.2 ] ]
      ]
    ] in
    other_refused c.args.line c.args.session.now (command_model c.args.command.now) _ c.refused.result none c.refused.ensures
