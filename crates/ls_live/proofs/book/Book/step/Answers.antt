-- Why `Book::step` in src/book.rt keeps its contract.

use Rattle.std.proofs.Common.{◌≡◌, ◌≢◌, length, false, sym, ◌∙◌, arith}
use Rattle.ls_code.specs.Machine.{machine_run, machine_state}
use Rattle.ls_live.specs.Answers.{is_not_started, is_over}
use Rattle.ls_live.proofs.Books.{kept_on}
use Rattle.ls_live.proofs.book.Book.step.Goals as goal

pub invariant_of-self : goal.invariant_of-self
invariant_of-self g c =
    let over : is_over (machine_run g.L.Session.start c.self.inside.schedule.items) c.args.thread ≡ false =
    rw c.self.view_is (sym c.is_over.ensures ∙ c.if-is_over.false) in
    let started : is_not_started (machine_state (machine_run g.L.Session.start c.self.inside.schedule.items)
    c.args.thread) ≡ false =
    rw c.self.view_is (sym c.is_not_started.ensures ∙ c.if-is_not_started.false) in
    let less : length c.self.inside.schedule.items ≢ c.self.inside.limit = omega arith in
    let kept = kept_on _ _ _ _ _ _ _ c.self.invariant.0 c.step-did.ensures.machine over started less in
    (rw c.push_reserved.ensures.items (rw c.entry_of-entry.ensures kept), omega arith, omega arith)
