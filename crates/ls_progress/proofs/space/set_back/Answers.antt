-- Why `set_back` in src/space.rt keeps its contract.
use Rattle.std.proofs.Common.{sym, ap, ◌∙◌}
use Rattle.std.specs.Prelude.{slice_set}
use Rattle.ls_transitions.specs.Seen.{table_of}
use Rattle.ls_progress.proofs.Leading.{stayed_placed}
use Rattle.ls_progress.proofs.Repeating.{root_still, set_is, set_kept, set_placed}
use Rattle.ls_progress.proofs.space.set_back.Goals as goal

pub returns-then-ended-clause-placed : goal.returns-then-ended-clause-placed
returns-then-ended-clause-placed c =
    let t = table_of c.args.transitions.now in
    let t' = table_of c.has_thread_ended.new.transitions in
    let is = c.requires.known in
    let root = root_still _ _ _ t t' _ c.has_thread_ended.ensures.grows is.root in
    set_placed _ _ t t' c.args.place.now _ c.args.thread c.in-Some.work c.has_thread_ended.ensures.grows is.placed
    (root.placed.numbers.works_there c.args.thread c.in-Some.work (sym c.work_at.ensures ∙ c.in-Some.is))
    c.requires.within (c.put_work.ensures.store ∙ c.in_ok-back.ensures.store)
    (c.put_work.ensures.works ∙ ap (λ l. slice_set l c.args.thread c.in-Some.work) c.in_ok-back.ensures.works)

pub returns-then-ended-clause-back : goal.returns-then-ended-clause-back
returns-then-ended-clause-back c =
    let t = table_of c.args.transitions.now in
    let t' = table_of c.has_thread_ended.new.transitions in
    let is = c.requires.known in
    set_is _ _ _ t t' c.args.place.now c.put_work.new.place c.args.space.now.root c.args.thread c.in-Some.work
    c.has_thread_ended.ensures.grows is.placed is.root (sym c.work_at.ensures ∙ c.in-Some.is) c.requires.within
    c.requires.other
    (sym c.in_ok-ended.ensures.ended ∙ c.if-ended.true)
    (c.put_work.ensures.store ∙ c.in_ok-back.ensures.store)
    (c.put_work.ensures.works ∙ ap (λ l. slice_set l c.args.thread c.in-Some.work) c.in_ok-back.ensures.works)

pub returns-clause-placed : goal.returns-clause-placed
returns-clause-placed c =
    stayed_placed _ _ (table_of c.args.transitions.now) (table_of c.has_thread_ended.new.transitions)
    c.args.place.now c.in_ok-back.back c.has_thread_ended.ensures.grows c.requires.known.placed
    c.in_ok-back.ensures.store c.in_ok-back.ensures.works

pub returns-clause-back : goal.returns-clause-back
returns-clause-back c =
    set_kept _ _ _ (table_of c.args.transitions.now) (table_of c.has_thread_ended.new.transitions) c.args.place.now
    c.in_ok-back.back c.args.thread c.has_thread_ended.ensures.grows c.requires.known.placed
    (sym c.in_ok-ended.ensures.ended ∙ c.if-ended.false) c.in_ok-back.ensures.store c.in_ok-back.ensures.works
