-- Why the functions of the cycle `flats` in src/stays.rt keep their contracts.

use Rattle.std.proofs.Common.{rules, ◌≡◌, refl, length}
use Rattle.ls_lowered.specs.LoweredTree.{Leavable}
use Rattle.ls_lowered.specs.Plain.{plain_statement, statements_of}
use Rattle.ls_finally_copies.proofs.Fronts.{leavable_read}
use Rattle.ls_finally.proofs.Kept.{has_none}
use Rattle.ls_finally.proofs.stays.+flats.Goals as goal

pub is_flat-returns-then-is_empty : goal.is_flat-returns-then-is_empty
is_flat-returns-then-is_empty t c = λ h.
    let body = c.deref-then-is_empty.result.now in
    let own = c.in-Leavable.own in
    let e : plain_statement c.args.s.now ≡ Leavable (plain_statement body) (statements_of own.items) = leavable_read
    c.args.s.now c.in-Leavable.body own body own.items c.deref-then-is_empty.ensures refl c.in-Leavable.is in
    let none : length own.items ≡ 0 = search rules in
    rw e (c.is_flat.ensures h, has_none own.items none)
