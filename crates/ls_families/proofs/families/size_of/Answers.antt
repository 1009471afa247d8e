-- Why `size_of` in src/families.rt keeps its contract.

use Rattle.std.proofs.Common.{◌≡◌, ◌∙◌, ◌*◌, ◌^◌, ◌<◌, ap, subst, sym}
use Rattle.std.specs.Prelude.{SomeIff}
use Rattle.ls_families.specs.Families.{size_of}
use Rattle.ls_families.proofs.Counted.{made_over, setup_over, threads_over}
use Rattle.ls_families.proofs.families.size_of.Goals as goal

pub returns-in_err-of_setup : goal.returns-in_err-of_setup
returns-in_err-of_setup c =
    let size = size_of c.args.sizes c.args.shape.now in
    subst (λ r. SomeIff r (size < 2 ^ 64) size) (sym c.from_residual.ensures)
    (setup_over c.args.sizes c.args.shape.now (2 ^ 64) c.requires
    (subst (λ k. ¬ (c.args.sizes.setup ^ k < 2 ^ 64)) c.of_setup.ensures c.in_err-of_setup.ensures))

pub returns-in_err-of_threads : goal.returns-in_err-of_threads
returns-in_err-of_threads c =
    let size = size_of c.args.sizes c.args.shape.now in
    subst (λ r. SomeIff r (size < 2 ^ 64) size) (sym c.from_residual-in_err-of_threads.ensures)
    (threads_over c.args.sizes c.args.shape.now (2 ^ 64) c.requires
    (subst (λ k. ¬ (c.args.sizes.threads ^ k < 2 ^ 64)) c.of_threads.ensures c.in_err-of_threads.ensures))

pub returns-in_err-checked_mul : goal.returns-in_err-checked_mul
returns-in_err-checked_mul c =
    let size = size_of c.args.sizes c.args.shape.now in
    let power : c.in_ok-of_setup.of_setup ≡ c.args.sizes.setup ^ c.args.shape.now.setup =
    c.in_ok-of_setup.ensures.1 ∙ ap (λ k. c.args.sizes.setup ^ k) c.of_setup.ensures in
    subst (λ r. SomeIff r (size < 2 ^ 64) size) (sym c.from_residual-in_err-checked_mul.ensures)
    (made_over c.args.sizes c.args.shape.now (2 ^ 64) c.requires
    (subst (λ k. ¬ (c.args.sizes.makings * k < 2 ^ 64)) power c.in_err-checked_mul.ensures))
