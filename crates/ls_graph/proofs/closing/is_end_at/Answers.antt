-- Why `is_end_at` in src/closing.rt keeps its contract.
use Rattle.std.proofs.Common.{refl, sym, ap, ◌∙◌, subst}
use Rattle.std.specs.Prelude.{slice_get}
use Rattle.ls_graph.proofs.Growing.{goes_still}
use Rattle.ls_graph.proofs.Lists.{some_is}
use Rattle.ls_graph.proofs.closing.is_end_at.Goals as goal

pub is_end-requires : goal.is_end-requires
is_end-requires g c = c.requires.known c.args.at c.node_at.result.now
    (ap (λ l. slice_get l c.args.at) (sym c.deref.ensures.value) ∙ c.node_at.ensures)

pub returns-clause-goes : goal.returns-clause-goes
returns-clause-goes g c =
    goes_still _ _ _ _ _ c.is_end.ensures.grows c.args.graph.now c.args.graph.now c.requires.known c.requires.led
    g.P.Space.weighs c.requires.weighed refl refl

pub returns-in_err-end-clause-goes : goal.returns-in_err-end-clause-goes
returns-in_err-end-clause-goes g c =
    goes_still _ _ _ _ _ c.is_end.ensures.grows c.args.graph.now c.args.graph.now c.requires.known c.requires.led
    g.P.Space.weighs c.requires.weighed refl refl

pub returns-clause-none : goal.returns-clause-none
returns-clause-none g c = λ isnt n here ends.
    c.in_ok-end.ensures.none isnt
    (subst (λ x. g.P.Space.Ends c.args.space.now (g.P.Space.stands c.args.space.now c.args.tables.now x))
    (some_is (sym here ∙ ap (λ l. slice_get l c.args.at) (sym c.deref.ensures.value) ∙ c.node_at.ensures)) ends)
