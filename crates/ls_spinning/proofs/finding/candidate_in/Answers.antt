-- Why `candidate_in` in src/finding.rt keeps its contract and what it calls with.
use Rattle.std.proofs.Common.{[], subst}
use Rattle.std.specs.Prelude.{IfNone, IfSome}
use Rattle.ls_checked.specs.Plain.{plain_file}
use Rattle.ls_checked.specs.PlainProgram.{plain_program}
use Rattle.ls_graph.specs.Found.{HasAny}
use Rattle.ls_spinning.specs.Heard.{EachIsHeard}
use Rattle.ls_spinning.proofs.Led.{any_within, from_within, hearing}
use Rattle.ls_spinning.proofs.finding.candidate_in.Goals as goal

pub loud_of-requires-clause-within : goal.loud_of-requires-clause-within
loud_of-requires-clause-within c =
    from_within (plain_file c.args.scope.file.now) (plain_program c.args.scope.program.now) [] c.args.led.now
    c.requires

pub returns-in-None-clause-nothing : goal.returns-in-None-clause-nothing
returns-in-None-clause-nothing c = λ is.
    hearing (plain_file c.args.scope.file.now) (plain_program c.args.scope.program.now) c.args.led.now
    c.requires (c.is_whole.ensures c.if-not-is_whole.false) c.in_ok-loud.loud.items c.in_ok-loud.ensures.loud
    (subst (λ o. IfNone o (EachIsHeard c.in_ok-loud.loud.items c.args.led.now.closing.graph.edges.items)) c.in-None.is
    c.in_ok-first_turning.ensures.none)

pub path_to-requires-clause-within : goal.path_to-requires-clause-within
path_to-requires-clause-within c =
    any_within (plain_file c.args.scope.file.now) (plain_program c.args.scope.program.now) [] c.args.led.now
    c.requires c.in-Some.at
    (subst (λ o. IfSome o (HasAny c.args.led.now.closing.graph.edges.items)) c.in-Some.is
    c.in_ok-first_turning.ensures.some)
