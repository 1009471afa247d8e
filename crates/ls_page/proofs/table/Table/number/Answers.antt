-- Why `Table::number` in src/table.rt keeps its contract, and each text once.

use Rattle.std.proofs.Common.{◌≡◌, subst, true}
use Rattle.std.specs.Prelude.{bytes_eq, string_bytes}
use Rattle.ls_page.proofs.Once.{found_there, keeps_inserted, text_there, texts_once}
use Rattle.ls_page.proofs.table.Table.number.Goals as goal

pub returns-in-Some-clause-there : goal.returns-in-Some-clause-there
returns-in-Some-clause-there c =
    found_there c.args.self.now.texts.keys c.args.text.now c.in-Some.number c.in-Some.ensures.index

pub invariant_of-self : goal.invariant_of-self
invariant_of-self c = record { once = texts_once c.insert_full.new.self.keys c.insert_full.ensures.unique }

pub returns-clause-there : goal.returns-clause-there
returns-clause-there c =
    let there = c.in_ok-number.ensures.stored in
    text_there c.insert_full.new.self.keys c.args.text.now c.in_ok-number.number there.0 there.1
    (subst (λ t. bytes_eq t (string_bytes there.0) ≡ true) c.in_ok-copy.ensures.ok there.2)

pub returns-clause-keeps : goal.returns-clause-keeps
returns-clause-keeps c =
    keeps_inserted c.args.self.now.texts.keys c.insert_full.new.self.keys c.in_ok-copy.copy c.in_ok-number.ensures.keys
