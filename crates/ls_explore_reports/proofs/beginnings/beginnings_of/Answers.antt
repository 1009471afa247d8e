-- Why `beginnings_of` in src/beginnings.rt keeps its loop `place`.

use Rattle.std.proofs.Common.{◌∙◌, ◌++◌, ◌∷◌, [], List, Vec, ap, map, subst, sym, take}
use Rattle.std.proofs.lemmas.List.{take_more}
use Rattle.std.specs.Global.{Global}
use Rattle.ls_checked.specs.PlainProgram.{plain_program}
use Rattle.ls_events.specs.declared.event.Event.{Event}
use Rattle.ls_explore_reports.specs.Judged.{Judged}
use Rattle.ls_explore_reports.specs.Shortest.{AreBeginnings}
use Rattle.ls_explore_reports.proofs.beginnings.beginnings_of.Goals as goal

pub loop-place-preserved : goal.loop-place-preserved
loop-place-preserved c =
    let judged = c.args.judged.now in
    let place = c.loop-place.place in
    let row = c.index-judged-place.result in
    subst (λ (rows : List Judged). AreBeginnings (plain_program c.args.program.now) rows
    (map (λ (v : Vec Event Global). v.items) c.push_beginning.new.beginnings.items))
    (sym (take_more judged place row c.loop-place-test.true
    ∙ ap (λ (j : Judged). take place judged ++ j ∷ []) (sym c.index-judged-place.is)))
    (c.in_ok-push_beginning.ensures (take place judged) c.loop-place.invariant)
