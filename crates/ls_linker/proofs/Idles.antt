-- The setup that idles before its first call.
use Rattle.std.proofs.Common.{ℕ, [], ◌∷◌, refl, arith}
use Rattle.ls_checked.specs.CheckedProgram.{ThreadProgram, Making}
use Rattle.ls_code.specs.Thread.{Thread}
use Rattle.ls_code.specs.Machine.{started}
use Rattle.ls_preservation.specs.Example.{file, program}
use Rattle.ls_linker.specs.Quick.{InFrame}
use Rattle.ls_linker.specs.Own.{ThreadsAreQuick}
use Rattle.ls_linker.specs.Idling.{start, idles}

abbrev setup : ThreadProgram
setup = record { name = []; calls = Making 0 0 [] [] ∷ [] }

abbrev at : ℕ → Thread
at place = started (record start { place = place })

-- four of its jumps
jumps : InFrame idles 4 (at 22) (at 26)
jumps = (refl, at 23, refl, refl, (refl, at 24, refl, refl, (refl, at 25, refl, refl, (refl, at 26, refl, refl, refl))))

-- the image with 30 jumps isn't quick
pub idles_not : ThreadsAreQuick file program idles → ⊥
idles_not h = let few = h 0 setup start refl refl 4 (at 22) (at 26) (omega arith) (omega arith) jumps in
    absurd (omega (arith, few))
