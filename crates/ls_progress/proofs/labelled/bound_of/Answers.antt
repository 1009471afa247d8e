-- Why `bound_of` in src/labelled.rt keeps its contract.
use Rattle.std.proofs.Common.{List, refl, subst}
use Rattle.ls_graph.specs.declared.closing.Edge.{Edge}
use Rattle.ls_progress.specs.Judged.{edges_in, file_in, root_in, threads_in}
use Rattle.ls_progress.specs.Kinds.{kind_of}
use Rattle.ls_progress.specs.Labels.{AreLabels}
use Rattle.ls_progress.specs.Ranks.{AreRanks}
use Rattle.ls_progress.proofs.Bounding.{bounded}
use Rattle.ls_progress.proofs.KindLemmas.{by_both, quiet_of, thread_of}
use Rattle.ls_progress.proofs.labelled.bound_of.Goals as goal

pub returns : goal.returns
returns c =
    let l = c.args.labelled in
    let k = kind_of c.args.kind l.thread in
    by_both c.bound_by.result _ _ _
    (λ most ranks high. bounded (file_in l.scope) (threads_in l.scope) (root_in l.scope) (edges_in l) _ _
    c.requires.states (c.if-not-is_whole.ensures refl) k l.labels.now
    (subst (λ t. AreLabels t (edges_in l) l.labels.now) (thread_of c.args.kind l.thread) c.requires.labels) c.args.call
    c.args.ranks.now most
    (subst (λ (es : List Edge). AreRanks k es l.labels.now c.args.call c.args.ranks.now) c.deref.ensures.value ranks)
    high (quiet_of c.args.kind l.thread)) c.bound_by.ensures.ranks c.bound_by.ensures.most
