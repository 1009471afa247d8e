-- Why `tell_beside` in src/running.rt keeps its clause `told`.

use Rattle.std.proofs.Common.{◌∙◌, subst, sym, true}
use Rattle.std.proofs.KnownBytes.{Appends-nil}
use Rattle.ls_outlets.specs.Written.{IsWritten}
use Rattle.ls_tool.proofs.Ending.{nothing_there}
use Rattle.ls_tool.proofs.running.tell_beside.Goals as goal

pub returns-then-is_empty-clause-told : goal.returns-then-is_empty-clause-told
returns-then-is_empty-clause-told g c =
    let err = g.E.Write.contents c.args.err.now in
    let failed = g.E.Outlet.has_failed c.args.err.now in
    let nothing = nothing_there c.args.beside.now (sym c.is_empty.ensures ∙ c.if-is_empty.true) in
    subst (λ z. IsWritten z true err err failed) (sym nothing) (Appends-nil err)
