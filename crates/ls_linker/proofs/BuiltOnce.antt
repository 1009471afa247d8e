-- That code runs as a file and a program has at most one proof. So it follows if these merely are well typed.
use Rattle.std.proofs.Common.{◌≡◌, ◌∙◌, sym, Option, Some, None}
use Rattle.std.proofs.Props.{props}
use mathlib.Core.HLevel.{Σ_prop_path}
use Rattle.ls_checked.specs.CheckedTree.{File}
use Rattle.ls_checked.specs.CheckedProgram.{Program, ThreadProgram}
use Rattle.ls_code.specs.Code.{Code, Start}
use Rattle.ls_code.specs.declared.code.Method.{Method}
use Rattle.ls_preservation.specs.Threads.{calls_of}
use Rattle.ls_preservation.proofs.Once.{acting_prop, ends_prop}
use Rattle.ls_linker.specs.Runs.{Runs}

inner : {A : Type 0} {x y : A} → Some x ≡ Some y → x ≡ y
inner h = cc

row_once : (o : Option Method) → IsProp ((row : Method) × (o ≡ Some row))
row_once o = λ p q. Σ_prop_path (λ row. hlevel props) (inner (sym p.1 ∙ q.1))

calls_once : (s : Option Start) (t : Option ThreadProgram) → IsProp (calls_of s t)
calls_once None None = hlevel
calls_once None (Some t) = hlevel
calls_once (Some s) None = hlevel
calls_once (Some s) (Some t) = hlevel props

-- that a code runs as a file and a program has at most one proof
pub runs_once : (file : File) (program : Program) (code : Code) → IsProp (Runs file program code)
runs_once file program code = hlevel (props, row_once, calls_once, acting_prop, ends_prop)
