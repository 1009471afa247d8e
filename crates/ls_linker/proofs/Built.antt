-- What each step answers, put together.
use Rattle.std.proofs.Common.{◌≡◌, sym, subst, ap, ◌∙◌}
use Rattle.ls_checked.specs.CheckedTree.{File}
use Rattle.ls_checked.specs.CheckedProgram.{Program}
use Rattle.ls_code.specs.Code.{Code}
use Rattle.ls_lowered.specs.LoweredTree as low
use Rattle.ls_refs.specs.Lowered.{lowered_file}
use Rattle.ls_finally.specs.Flat.{flat_file}
use Rattle.ls_finally.specs.Placed.{AllPlaced}
use Rattle.ls_emit.specs.Units.{CodeUnit, units_of}
use Rattle.ls_emit.specs.Emittable.{IsEmittableFile}
use Rattle.ls_emit.specs.Short.{AllShort}
use Rattle.ls_linker.specs.Linked.{linked}
use Rattle.ls_linker.specs.Links.{Links}
use Rattle.ls_linker.specs.Compiled.{flat_of, code_of}
use Rattle.std.specs.Prelude.{List}

-- the lowered tree of the code is the one that the law is of
pub placed_here : (file : File) (refs : low.File) →
    refs ≡ lowered_file file →
    AllPlaced (lowered_file file) (lowered_file file) →
    AllPlaced refs refs
placed_here file refs r p = subst (λ x. AllPlaced x x) (sym r) p

module _ (file : File) (program : Program) (refs flat : low.File) (r : refs ≡ lowered_file file)
    (f : flat ≡ flat_file refs) where
  flat_here : flat ≡ flat_of file
  flat_here = f ∙ ap flat_file r

  -- if the tree of the law without `try` may be emitted, so may this one
  pub emittable_here : IsEmittableFile (flat_of file) → IsEmittableFile flat
  emittable_here e = subst IsEmittableFile (sym flat_here) e

  -- the code is the one of the law
  pub code_here : (units : List CodeUnit) (code : Code) →
      units ≡ units_of flat →
      code ≡ linked file program units →
      code ≡ code_of file program
  code_here units code u c = c ∙ ap (linked file program) (u ∙ ap units_of flat_here)

  -- if the methods of the law are short, so are these
  pub short_here : AllShort flat → AllShort (flat_of file)
  short_here short = subst AllShort flat_here short

  -- the units of this tree link, if those of the law do
  pub links_here : (units : List CodeUnit) →
      units ≡ units_of flat →
      Links file program (units_of (flat_of file)) →
      Links file program units
  links_here units u l = subst (Links file program) (sym (u ∙ ap units_of flat_here)) l

-- what is so of two is so of their equals
pub both : {A B : Type 0} (P : A → B → Type 0) {x x' : A} {y y' : B} → x ≡ x' → y ≡ y' → P x y → P x' y'
both P {y} ex ey p = subst (P _) ey (subst (λ a. P a y) ex p)
