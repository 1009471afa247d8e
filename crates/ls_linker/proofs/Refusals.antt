-- What each layer's fault says of the checked file.
use Rattle.ls_code.specs.Limits.{most_instructions}
use Rattle.std.proofs.Common.{◌≡◌, ◌<◌, ◌≤◌, List, length, arith, refl, sym, subst, ap, ◌∙◌}
use Rattle.ls_checked.specs.CheckedTree.{File}
use Rattle.ls_checked.specs.CheckedProgram.{Program}
use Rattle.ls_lowered.specs.LoweredTree as low
use Rattle.ls_lowered.specs.declared.fault.LowerFault.{LowerFault}
use Rattle.ls_lowered.specs.declared.fault.LowerFault.TheVariants.{Memory, TooManyLocals, TooManyCopies}
use Rattle.ls_refs.specs.Lowered.{lowered_file}
use Rattle.ls_refs.specs.Refused.{AllFit}
use Rattle.ls_finally.specs.Flat.{flat_file}
use Rattle.ls_finally.specs.Counts.{FewLocals, FewCopies, Refused}
use Rattle.ls_linker.specs.declared.count_fault.CountFault.{CountFault}
use Rattle.ls_linker.specs.declared.count_fault.CountFault.TheVariants as counts
use Rattle.ls_linker.specs.Refused as counted
use Rattle.ls_emit.specs.Short.{AllShort}
use Rattle.ls_emit.specs.declared.fault.EmitFault.{EmitFault}
use Rattle.ls_emit.specs.declared.fault.EmitFault.TheVariants as emit
use Rattle.ls_emit.specs.Units.{CodeUnit, units_of, file_size}
use Rattle.ls_linker.specs.Linked.{linked}
use Rattle.ls_linker.specs.Floor.{CodeHoldsMethods, KeepsFloor}
use Rattle.ls_linker.specs.declared.fault.LinkFault.{LinkFault}
use Rattle.ls_linker.specs.declared.fault.LinkFault.TheVariants as link
use Rattle.ls_linker.specs.declared.fault.BuildFault.TheVariants.{Lower, Emit, Link}
use Rattle.ls_linker.specs.Compiled.{flat_of, code_of, count}
use Rattle.ls_linker.specs.Limits.{GoesPast}
use Rattle.ls_linker.specs.Counted.{of_counts}

-- code that is too long has a count over 4,096
long_unit : (file : File) (program : Program) → KeepsFloor → ¬ AllShort (flat_of file) → 4096 < count file program
long_unit file program floor long =
    let no : ¬ (count file program ≤ 4096) = λ le. long (floor file program (flat_of file) le).0 in
    omega (arith, no)

long_code : (file : File) (program : Program) →
    KeepsFloor →
    most_instructions < length (code_of file program).instructions →
    4096 < count file program
long_code file program floor long =
    let no : ¬ (count file program ≤ 4096) = λ le. (let short = (floor file program (flat_of file) le).1 in
    omega (arith, short, long)) in
    omega (arith, no)

module _ (file : File) (program : Program) (refs : low.File) (r : refs ≡ lowered_file file) where
  -- a fault of the second lowering names the first limit that isn't kept
  pub finally_past : (f : LowerFault) →
      AllFit file.methods →
      FewLocals (lowered_file file) →
      Refused refs f →
      GoesPast file program (Lower f)
  finally_past Memory fits few refused = tt
  finally_past TooManyLocals fits few refused = absurd (refused (subst FewLocals (sym r) few))
  finally_past TooManyCopies fits few refused = (fits, λ copies. refused (subst FewCopies (sym r) copies))

  -- so does a fault of counting
  pub counts_past : (f : CountFault) →
      CodeHoldsMethods →
      KeepsFloor →
      AllFit file.methods →
      counted.Refused refs f →
      GoesPast file program (of_counts f)
  counts_past counts.Memory holds floor fits refused = tt
  counts_past counts.TooManyCopies holds floor fits refused = (fits, λ copies. refused (subst FewCopies (sym r) copies))
  counts_past counts.TooLong holds floor fits refused =
      let too_long : ¬ AllShort (flat_of file) = λ short. refused.1 (subst AllShort (sym (ap flat_file r)) short) in
      (fits, subst FewCopies r refused.0, too_long, long_unit file program floor too_long)
  counts_past counts.TooLongTogether holds floor fits refused =
      let here : flat_file refs ≡ flat_of file = ap flat_file r in
      let no : ¬ (file_size (flat_of file) ≤ most_instructions) = λ le.
      refused.2 (subst (λ f. file_size f ≤ most_instructions) (sym here) le) in
      let too_long : most_instructions < length (code_of file program).instructions = omega
      (arith, no, holds file program (flat_of file)) in (
        fits,
        subst FewCopies r refused.0,
        subst AllShort here refused.1,
        too_long,
        long_code file program floor too_long,
      )

  pub units_past : (flat : low.File) (f : EmitFault) →
      KeepsFloor →
      AllFit file.methods →
      FewCopies refs →
      flat ≡ flat_file refs →
      (f ≡ emit.CodeTooLong → ¬ AllShort flat) →
      GoesPast file program (Emit f)
  units_past flat emit.Memory floor fits few e long = tt
  units_past flat emit.CodeTooLong floor fits few e long =
      let too_long : ¬ AllShort (flat_of file) = λ short. long refl (subst AllShort (sym (e ∙ ap flat_file r)) short) in
      (fits, subst FewCopies r few, too_long, long_unit file program floor too_long)

  -- so does a fault of linking
  pub link_past : (flat : low.File) (units : List CodeUnit) (f : LinkFault) →
      KeepsFloor →
      AllFit file.methods →
      FewCopies refs →
      flat ≡ flat_file refs →
      AllShort flat →
      units ≡ units_of flat →
      (f ≡ link.CodeTooLong → most_instructions < length (linked file program units).instructions) →
      GoesPast file program (Link f)
  link_past flat units link.Memory floor fits few e short u long = tt
  link_past flat units link.CodeTooLong floor fits few e short u long =
      let flat_here : flat ≡ flat_of file = e ∙ ap flat_file r in
      let too_long : most_instructions < length (code_of file program).instructions = subst
      (λ us. most_instructions < length (linked file program us).instructions) (u ∙ ap units_of flat_here)
      (long refl) in
      (fits, subst FewCopies r few, subst AllShort flat_here short, too_long, long_code file program floor too_long)
