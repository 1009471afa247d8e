-- Why `Tables::act` in src/tables.rt keeps its clause `acted`.

use Rattle.std.proofs.Common.{List, refl, sym, ap, ◌∙◌}
use Rattle.std.specs.Prelude.{map}
use Rattle.ls_events.specs.declared.value.Value.{Value}
use Rattle.ls_events.specs.declared.action.Action.{Action}
use Rattle.ls_checked.specs.Plain.{plain_class}
use Rattle.ls_checked.specs.declared.tree.Class.{Class}
use Rattle.ls_meaning.specs.Store.{Store}
use Rattle.ls_meaning.specs.Effect.{effect}
use Rattle.ls_source_store.specs.SeenStore.{store_of, plain_effect}
use Rattle.ls_source.specs.SeenThread.{thread_of}
use Rattle.ls_transitions.specs.Tables.{Table}
use Rattle.ls_transitions.specs.SeenTables.{tables_of}
use Rattle.ls_transitions.proofs.Keeping.{item_there}
use Rattle.ls_transitions.proofs.Acting.{done_there}
use Rattle.ls_transitions.proofs.tables.Tables.act.Goals as goal

pub returns-in_ok-work-in-Does-clause-acted : goal.returns-in_ok-work-in-Does-clause-acted
returns-in_ok-work-in-Does-clause-acted c =
    let t : Table = tables_of c.args.self.now in
    let action : Action Value = c.args.action.now in
    done_there t (tables_of c.keep_store.new.self) (tables_of c.keep_work.new.self) c.args.thread c.args.store
    (thread_of c.args.rest) (thread_of c.take.new.self) (thread_of c.forget.new.thread) (store_of c.index.result.now)
    (store_of c.act.new.self) action
    (record {
      action = action;
      answer = c.in-Does.answer;
      store = c.in_ok-kept-in-Does.kept;
      work = c.in_ok-work-in-Does.work;
    })
    (item_there store_of c.args.self.now.stores.items c.args.store c.index.result.now c.requires.there c.index.ensures)
    (ap (plain_effect (store_of c.act.new.self)) (sym c.in-Does.is)
    ∙ c.in_ok-act.ensures.effect
    ∙ ap (λ (l : List Class). effect (map plain_class l) (store_of c.in_ok-after.after) c.args.thread action)
    c.deref.ensures.value
    ∙ ap (λ (s : Store). effect t.file.classes s c.args.thread action) c.in_ok-after.ensures)
    c.requires.asks c.take.ensures
    (λ program q. c.forget.ensures t.file program q ∙ c.settle.ensures program q) refl c.keep_store.ensures.grows
    c.in_ok-kept-in-Does.ensures.number c.keep_work.ensures.grows c.in_ok-work-in-Does.ensures.number
