-- Why a file has no tree without `try`.
use Rattle.ls_code.specs.Limits.{most_instructions}
use Rattle.std.specs.Prelude.{ℕ, ◌<◌, ◌≤◌, Result, Ok, Err, All, List}
use Rattle.ls_lowered.specs.LoweredTree.{File}
use Rattle.ls_lowered.specs.Plain.{plain_statement}
use Rattle.ls_lowered.specs.declared.tree.Method.{Method}
use Rattle.ls_finally.specs.Flat.{flat_file}
use Rattle.ls_finally.specs.Counts.{FewCopies}
use Rattle.ls_emit.specs.Units.{method_size, file_size}
use Rattle.ls_linker.specs.Costs.{copied}
use Rattle.ls_linker.specs.declared.count_fault.CountFault.{CountFault}
use Rattle.ls_linker.specs.declared.count_fault.CountFault.TheVariants.{Memory, TooManyCopies, TooLong}
use Rattle.ls_linker.specs.declared.count_fault.CountFault.TheVariants.{TooLongTogether}

-- no method's code has over 65,536 instructions
abbrev pub AreShort : File → Type 0
AreShort methods = All (λ m. method_size m ≤ most_instructions) (flat_file methods)

-- all methods have at most 65,536 instructions together
abbrev pub AreShortTogether : File → Type 0
AreShortTogether methods = file_size (flat_file methods) ≤ most_instructions

-- Copies come before lengths, and the length of each method comes before that of all. "Out of memory" says nothing.
abbrev pub Refused : File → CountFault → Type 0
Refused methods Memory = Unit {0}
Refused methods TooManyCopies = ¬ FewCopies methods
Refused methods TooLong = FewCopies methods × ¬ AreShort methods
Refused methods TooLongTogether = FewCopies methods × AreShort methods × ¬ AreShortTogether methods

-- a statement that makes n copies with those before it is refused: it has too many, or memory ran out
abbrev pub TooMany : CountFault → ℕ → Type 0
TooMany Memory n = Unit {0}
TooMany TooManyCopies n = 4096 < n
TooMany TooLong n = ⊥
TooMany TooLongTogether n = ⊥

-- n copies are few enough, or refused
abbrev pub Fits : {X : Type 0} → Result X CountFault → ℕ → Type 0
Fits (Ok x) n = n ≤ 4096
Fits (Err e) n = TooMany e n

-- one of these methods has too many copies, or memory ran out
abbrev pub TooManyOf : List Method → CountFault → Type 0
TooManyOf methods Memory = Unit {0}
TooManyOf methods TooManyCopies = ¬ All (λ m. copied (plain_statement m.body) ≤ 4096) methods
TooManyOf methods TooLong = ⊥
TooManyOf methods TooLongTogether = ⊥
