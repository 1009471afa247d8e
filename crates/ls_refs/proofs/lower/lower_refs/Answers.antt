-- Why `lower_refs` in src/lower.rt keeps its clauses `refused`, `tree` and `fits` and what `lower_method` requires.

use Rattle.std.proofs.Common.{rules, ◌≤◌, ◌<◌, refl, subst, map, length}
use Rattle.std.specs.Prelude.{All}
use Rattle.ls_checked.specs.Plain.{plain_statement as checked_statement, plain_method as checked_method, plain_class}
use Rattle.ls_checked.specs.Plain.{plain_file as checked_file}
use Rattle.ls_types_judgement.specs.Leaving.{JumpsInLoops}
use Rattle.ls_refs.proofs.Files.{fitting, not_fitting, wants_memory, all_lowered_so, found_at}
use Rattle.ls_refs.proofs.Jumps.{all_in_loops}
use Rattle.ls_lowered.proofs.Taken.{all_of_map, no_truth}
use Rattle.ls_refs.proofs.lower.lower_refs.Goals as goal

pub returns-then-not-all_fit-clause-refused : goal.returns-then-not-all_fit-clause-refused
returns-then-not-all_fit-clause-refused c = λ h. no_truth (c.if-not-all_fit.ensures.1
    (not_fitting c.deref.result.now c.args.file.now.methods.items c.deref.ensures.value h))

pub lower_method-requires-clause-slots : goal.lower_method-requires-clause-slots
lower_method-requires-clause-slots c =
    let all : All (λ m. m.parameters < length m.slots.items) c.args.file.now.methods.items = all_of_map
    (λ m. m.parameters < length m.slots) checked_method c.args.file.now.methods.items c.requires.slots in
    found_at (λ m. m.parameters < length m.slots.items) c.deref-method-items.result.now c.args.file.now.methods.items
    c.loop-method.method-index c.method-item.result c.deref-method-items.ensures.value c.loop-method-test.true
    c.method-item.is all

pub lower_method-requires-clause-loops : goal.lower_method-requires-clause-loops
lower_method-requires-clause-loops c =
    let all : All (λ m. JumpsInLoops 0 (checked_statement m.body)) c.args.file.now.methods.items = all_of_map
    (λ m. JumpsInLoops 0 m.body) checked_method c.args.file.now.methods.items
    (all_in_loops (checked_file c.args.file.now) c.requires.loops) in
    found_at (λ m. JumpsInLoops 0 (checked_statement m.body)) c.deref-method-items.result.now
    c.args.file.now.methods.items c.loop-method.method-index c.method-item.result c.deref-method-items.ensures.value
    c.loop-method-test.true c.method-item.is all

pub returns-in_err-lower_method-clause-refused : goal.returns-in_err-lower_method-clause-refused
returns-in_err-lower_method-clause-refused c = wants_memory (checked_file c.args.file.now) c.from_residual.result
    (fitting c.deref.result.now c.args.file.now.methods.items c.deref.ensures.value
    (c.if-not-all_fit.ensures.0 (search rules))) (search rules)

pub returns-in_err-push-clause-refused : goal.returns-in_err-push-clause-refused
returns-in_err-push-clause-refused c = wants_memory (checked_file c.args.file.now) c.from_residual-in_err-push.result
    (fitting c.deref.result.now c.args.file.now.methods.items c.deref.ensures.value
    (c.if-not-all_fit.ensures.0 (search rules))) (search rules)

pub returns-clause-tree : goal.returns-clause-tree
returns-clause-tree c =
    let items = c.args.file.now.methods.items in
    let over : length items ≤ c.loop-method.method-index = subst (λ ms. length ms ≤ c.loop-method.method-index)
    c.deref-method-items.ensures.value (search rules) in
    all_lowered_so (map plain_class c.args.file.now.classes.items) c.loop-method.methods.items items items
    c.loop-method.method-index refl over c.loop-method.invariant

pub returns-clause-fits : goal.returns-clause-fits
returns-clause-fits c = fitting c.deref.result.now c.args.file.now.methods.items c.deref.ensures.value
    (c.if-not-all_fit.ensures.0 (search rules))
