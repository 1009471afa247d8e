-- Why `lower_methods` in src/files.rt keeps its contract, its loop and what it calls with.

use Rattle.ls_lowered.specs.Limits.{most_locals}
use Rattle.std.proofs.Common.{rules, ◌≡◌, ◌≤◌, length, refl, sym, ◌∙◌, subst, arith}
use Rattle.std.specs.Prelude.{IfErr, slice_index_or}
use Rattle.std.proofs.lemmas.Simd.{map-map}
use Rattle.ls_lowered.specs.Plain.{plain_method}
use Rattle.ls_finally.specs.Flat.{flat_method}
use Rattle.ls_finally.specs.Code.{TooMany}
use Rattle.ls_finally.specs.Counts.{locals_of, copies_of}
use Rattle.ls_finally.proofs.InPlace.{still, one_changed_more, all_changed}
use Rattle.ls_finally.proofs.Whole.{few_copies, passes_on}
use Rattle.ls_lowered.proofs.Taken.{all_more, all_done}
use Rattle.ls_finally.proofs.files.lower_methods.Goals as goal

pub lower_method-requires : goal.lower_method-requires
lower_method-requires c =
    let x = c.method-item.result in
    let i = c.loop-method.method-index in
    let at = still plain_method (λ m. flat_method (plain_method m)) c.args.methods.now c.loop-method.methods i x
    (search rules) c.method-item.is c.loop-method.invariant.0 in
    subst (λ z. locals_of (plain_method z) ≤ most_locals) (sym at.1 ∙ c.method-item.is) (c.requires i x at.0)

pub loop-method-preserved : goal.loop-method-preserved
loop-method-preserved c =
    let x = c.method-item.result in
    let i = c.loop-method.method-index in
    let at = still plain_method (λ m. flat_method (plain_method m)) c.args.methods.now c.loop-method.methods i x
    (search rules) c.method-item.is c.loop-method.invariant.0 in (
      one_changed_more plain_method (λ m. flat_method (plain_method m)) c.args.methods.now c.loop-method.methods i x
          c.lower_method.new.method (search rules) c.method-item.is c.in_ok-lower_method.ensures.tree
          c.loop-method.invariant.0,
      all_more (λ m. copies_of (plain_method m) ≤ 4096) c.args.methods.now i x at.0 at.1 c.loop-method.invariant.1
          (subst (λ z. copies_of (plain_method z) ≤ 4096) (sym c.method-item.is) c.in_ok-lower_method.ensures.few),
    )

pub returns-in_err-lower_method-clause-refused : goal.returns-in_err-lower_method-clause-refused
returns-in_err-lower_method-clause-refused c =
    let x = c.method-item.result in
    let i = c.loop-method.method-index in
    let at = still plain_method (λ m. flat_method (plain_method m)) c.args.methods.now c.loop-method.methods i x
    (search rules) c.method-item.is c.loop-method.invariant.0 in
    let told : IfErr c.from_residual.result
    (λ e. TooMany e (copies_of (plain_method (slice_index_or c.loop-method.methods i x)))) = search rules in
    passes_on c.args.methods.now i x c.from_residual.result at.0 at.1 c.requires
    (subst (λ z. IfErr c.from_residual.result (λ e. TooMany e (copies_of (plain_method z))))
    (sym c.method-item.is) told)

pub returns-clause-tree : goal.returns-clause-tree
returns-clause-tree c =
    all_changed plain_method (λ m. flat_method (plain_method m)) c.args.methods.now c.loop-method.methods
    c.loop-method.method-index (search rules) (search rules) c.loop-method.invariant.0
    ∙ sym (map-map flat_method plain_method c.args.methods.now)

pub returns-clause-few : goal.returns-clause-few
returns-clause-few c =
    let same : length c.loop-method.methods ≡ length c.args.methods.now = search rules in
    let end : length c.loop-method.methods ≤ c.loop-method.method-index = search rules in
    few_copies c.args.methods.now c.args.methods.now refl (all_done (λ m. copies_of (plain_method m) ≤ 4096)
    c.args.methods.now c.loop-method.method-index (omega (arith, same, end)) c.loop-method.invariant.1)
