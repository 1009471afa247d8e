-- Why `lower_finally` in src/files.rt keeps its clauses `refused` and `asks`.

use Rattle.std.proofs.Common.{rules, ap, ◌≡◌, ◌∙◌, List, length, map}
use Rattle.std.proofs.lemmas.List.{with_items_is}
use Rattle.ls_lowered.specs.declared.tree.Method.{Method}
use Rattle.ls_lowered.specs.LoweredTree as lowered
use Rattle.ls_lowered.specs.Plain.{plain_method, plain_file}
use Rattle.ls_lowered.specs.Methods.{invoke}
use Rattle.ls_finally.specs.Flat.{flat_file}
use Rattle.ls_finally.proofs.Methods.{keeps}
use Rattle.ls_finally.proofs.Whole.{not_few_locals}
use Rattle.ls_lowered.proofs.Taken.{no_truth}
use Rattle.ls_finally.proofs.files.lower_finally.Goals as goal

pub returns-then-not-have_few_locals-clause-refused : goal.returns-then-not-have_few_locals-clause-refused
returns-then-not-have_few_locals-clause-refused c =
    λ h. no_truth
    (c.if-not-have_few_locals.ensures.1 (not_few_locals c.deref.result.now c.args.tree.methods.items
    c.deref.ensures.value h))

pub returns-clause-asks : goal.returns-clause-asks
returns-clause-asks c = λ depth m arguments answers takes.
    let v = c.args.tree.methods in
    let new = c.lower_methods.new.methods in
    let long : length new ≡ v.len = search rules in
    let e : map plain_method new ≡ flat_file (plain_file c.args.tree) = search rules in
    ap (λ (ms : List Method). invoke (map plain_method ms) depth m arguments answers) (with_items_is v new long)
    ∙ ap (λ (f : lowered.File). invoke f depth m arguments answers) e
    ∙ keeps (plain_file c.args.tree) c.requires depth m arguments answers takes
