-- How many programs of a shape there are, where a part of the product is too great.
use Rattle.std.proofs.Common.{◌*◌, ◌^◌, ◌<◌, ◌≤◌, ℕ, arith, sum}
use Rattle.std.proofs.Math.Nat.{mul-le-mul}
use Rattle.ls_families.specs.Families.{HaveNone, of_setup, of_threads, size_of}
use Rattle.ls_families.specs.Shapes.{Shape}
use Rattle.ls_families.specs.declared.menus.MenuSizes.{MenuSizes}
use Rattle.ls_families.proofs.Belongs.{some_makings, some_of_setup, some_of_threads}

-- a number times some is no less
times_some : (x b : ℕ) → 0 < b → x ≤ x * b
times_some x b some =
    let same : x ≤ x = omega arith in
    let one : 1 ≤ b = omega (arith, some) in
    omega (arith, mul-le-mul same one)

some_times : (x b : ℕ) → 0 < b → x ≤ b * x
some_times x b some =
    let same : x ≤ x = omega arith in
    let one : 1 ≤ b = omega (arith, some) in
    omega (arith, mul-le-mul one same)

pub made_over : (z : MenuSizes) (s : Shape) (m : ℕ) → ¬ HaveNone z →
    ¬ (z.makings * of_setup z s < m) → ¬ (size_of z s < m)
made_over z s m some over below =
    over (omega (arith, times_some (z.makings * of_setup z s) (of_threads z s) (some_of_threads z s some), below))

pub setup_over : (z : MenuSizes) (s : Shape) (m : ℕ) → ¬ HaveNone z →
    ¬ (z.setup ^ s.setup < m) → ¬ (size_of z s < m)
setup_over z s m some over below =
    made_over z s m some
    (λ less. over (omega (arith, some_times (of_setup z s) z.makings (some_makings z some), less))) below

pub threads_over : (z : MenuSizes) (s : Shape) (m : ℕ) → ¬ HaveNone z →
    ¬ (z.threads ^ sum s.threads < m) → ¬ (size_of z s < m)
threads_over z s m some over below =
    let product = z.makings * of_setup z s in
    let made : 1 ≤ z.makings = omega (arith, some_makings z some) in
    let had : 1 ≤ of_setup z s = omega (arith, some_of_setup z s some) in
    let both : 0 < product = omega (arith, mul-le-mul made had) in
    over (omega (arith, some_times (of_threads z s) product both, below))
