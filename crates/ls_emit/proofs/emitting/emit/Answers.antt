-- Why `emit` in src/emitting.rt keeps its clauses `long` and `short` and what `emit_units` requires.

use Rattle.std.proofs.Common.{rules, refl}
use Rattle.ls_lowered.specs.Plain.{plain_method, plain_file}
use Rattle.ls_emit.specs.Small.{IsSmallStatement}
use Rattle.ls_emit.proofs.Files.{all_small_bodies, short_methods, methods_short, no_truth, not_long, wants_memory, made}
use Rattle.ls_emit.proofs.Files.{same_of}
use Rattle.ls_emit.proofs.emitting.emit.Goals as goal

pub returns-then-not-are_short-clause-long : goal.returns-then-not-are_short-clause-long
returns-then-not-are_short-clause-long c = (
  λ _ all. no_truth
      (c.if-not-are_short.ensures.1 (methods_short c.deref.result.now c.args.tree.now.methods.items
      c.deref.ensures.value all)),
  λ _. refl,
)

pub emit_units-requires-clause-small : goal.emit_units-requires-clause-small
emit_units-requires-clause-small c =
    same_of (λ m. IsSmallStatement (plain_method m).body) c.deref-2.result.now c.args.tree.now.methods.items
    c.deref-2.ensures.value
    (all_small_bodies (plain_file c.args.tree.now) c.args.tree.now.methods.items c.requires)

pub returns-in_err-units-clause-long : goal.returns-in_err-units-clause-long
returns-in_err-units-clause-long c =
    not_long (plain_file c.args.tree.now) c.from_residual.result
    (short_methods c.deref.result.now c.args.tree.now.methods.items c.deref.ensures.value
    (c.if-not-are_short.ensures.0 (search rules)))
    (wants_memory c.from_residual.result (search rules))

pub returns-clause-long : goal.returns-clause-long
returns-clause-long c =
    not_long (plain_file c.args.tree.now) _ (short_methods c.deref.result.now c.args.tree.now.methods.items
    c.deref.ensures.value (c.if-not-are_short.ensures.0 (search rules)))
    (made c.in_ok-units.units _ refl)

pub returns-clause-short : goal.returns-clause-short
returns-clause-short c =
    short_methods c.deref.result.now c.args.tree.now.methods.items c.deref.ensures.value
    (c.if-not-are_short.ensures.0 (search rules))
