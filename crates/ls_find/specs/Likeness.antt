-- Whether rows are linearizable to a specification.
use Rattle.std.specs.Prelude.{◌≡◌, List, Some, Contains, slice_get}
use Rattle.ls_checked.specs.CheckedTree.{File}
use Rattle.ls_checked.specs.CheckedProgram.{Program}
use Rattle.ls_explore.specs.Rows.{Told}
use Rattle.ls_linearity.specs.Meant.{IsUndecided}
use Rattle.ls_linearizable.specs.Linearizable.{IsLinearizable}
use Rattle.ls_find.specs.declared.likeness.Likeness.{Likeness}
use Rattle.ls_find.specs.declared.likeness.Likeness.TheVariants as likeness

-- what the rows are: each is linearizable to it, or the one at a place isn't, or one isn't judged
abbrev pub IsLikeness : File → Program → List Told → Likeness → Type 0
IsLikeness sfile sprogram rows likeness.AllLike =
    (r : Told) → Contains rows r → IsLinearizable sfile sprogram r.history
IsLikeness sfile sprogram rows (likeness.UnlikeAt at) =
    (r : Told) × (slice_get rows at ≡ Some r) × (IsLinearizable sfile sprogram r.history → ⊥)
IsLikeness sfile sprogram rows likeness.NotJudged =
    (r : Told) × Contains rows r × IsUndecided sfile sprogram r.history
