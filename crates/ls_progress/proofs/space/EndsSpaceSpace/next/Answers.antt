-- Why `next` of `Space for EndsSpace` in src/space.rt keeps its clauses `grows` and `known`.
use Rattle.std.proofs.Common.{ap}
use Rattle.ls_transitions.specs.Seen.{table_of}
use Rattle.ls_search.proofs.Strides.{stays}
use Rattle.ls_progress.specs.Steps.{stands_in}
use Rattle.ls_progress.proofs.KindLemmas.{ok_some}
use Rattle.ls_progress.proofs.Leading.{placed_still}
use Rattle.ls_progress.proofs.Repeating.{root_still}
use Rattle.ls_progress.proofs.space.EndsSpaceSpace.next.Goals as goal

pub returns-clause-grows : goal.returns-clause-grows
returns-clause-grows c = λ n is. (
  record {
    placed = placed_still _ _ (table_of c.args.tables.now.transitions) (table_of c.lead.new.tables.transitions)
        n.place c.lead.ensures.grows is.placed;
    root = root_still _ _ _ (table_of c.args.tables.now.transitions) (table_of c.lead.new.tables.transitions) _
        c.lead.ensures.grows is.root;
  },
  ap (stands_in c.args.self.now) (stays (table_of c.args.tables.now.transitions)
      (table_of c.lead.new.tables.transitions) n.place.store n.place.works.items c.lead.ensures.grows
      is.placed.numbers),
)

pub returns-clause-known : goal.returns-clause-known
returns-clause-known c =
    ok_some c.lead.result _ _
    (λ k placed. record {
      placed = placed;
      root = root_still _ _ _ (table_of c.args.tables.now.transitions) (table_of c.lead.new.tables.transitions) _
          c.lead.ensures.grows c.requires.root;
    }) c.lead.ensures.known
