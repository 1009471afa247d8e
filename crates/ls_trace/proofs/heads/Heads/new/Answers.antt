-- Why `Heads::new` in src/heads.rt keeps its loop `place`.

use Rattle.std.proofs.lemmas.List.Elements.{All-push, All-same}
use Rattle.ls_labels.specs.Names.{names_of}
use Rattle.ls_trace.specs.Deeds.{IsOfKey}
use Rattle.ls_trace.proofs.heads.Heads.new.Goals as goal

pub loop-place-preserved : goal.loop-place-preserved
loop-place-preserved c =
    let P = IsOfKey (names_of c.args.names.now) in
    All-same P _ _ c.in_ok-push.ensures.items
    (All-push P c.loop-place.kept.items c.in_ok-first_head.field-0 c.loop-place.invariant c.in_ok-first_head.ensures)
