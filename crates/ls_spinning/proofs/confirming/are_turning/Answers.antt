-- Why `are_turning` in src/confirming.rt keeps its contract and what it calls with.
use Rattle.std.proofs.Common.{Bool, List, sym, ap, ◌∙◌, arith}
use Rattle.std.specs.Prelude.{slice_get}
use Rattle.ls_checked.specs.CheckedTree.{File}
use Rattle.ls_checked.specs.CheckedProgram.{Program}
use Rattle.ls_checked.specs.Plain.{plain_file}
use Rattle.ls_checked.specs.PlainProgram.{plain_program}
use Rattle.ls_graph.specs.declared.closing.Edge.{Edge}
use Rattle.ls_spinning.proofs.Led.{from_within, turning}
use Rattle.ls_spinning.proofs.confirming.are_turning.Goals as goal

pub loud_of-requires-clause-within : goal.loud_of-requires-clause-within
loud_of-requires-clause-within c =
    from_within (plain_file c.args.scope.file.now) (plain_program c.args.scope.program.now) c.args.steps.now
    c.in_ok-led.led c.in_ok-led.ensures

pub returns : goal.returns
returns c = λ all.
    let file : File = plain_file c.args.scope.file.now in
    let program : Program = plain_program c.args.scope.program.now in
    turning file program c.args.steps.now c.in_ok-led.led c.in_ok-led.ensures
    (c.is_whole.ensures c.if-not-is_whole.false) c.in_ok-loud.loud.items c.in_ok-loud.ensures.loud
    (λ i e here.
    c.are_single.ensures c.if-not-are_single.false i e
    (ap (λ (l : List Edge). slice_get l i) c.deref.ensures.value ∙ here)) c.in_ok-left.left.items c.in_ok-left.ensures
    (λ at within.
    ap (λ (l : List Bool). slice_get l at) (sym c.deref-2.ensures.value)
    ∙ c.turn_all.ensures.left all at (omega (arith, within, c.len.ensures)))
    (λ at within mark.
    c.turn_all.ensures.silent all at (omega (arith, within, c.len.ensures))
    (ap (λ (l : List Bool). slice_get l at) c.deref-3.ensures.value ∙ mark))
