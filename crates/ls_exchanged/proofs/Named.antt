-- Names of threads, one by one.
use Rattle.std.proofs.Common.{◌≡◌, ◌∙◌, ℕ, Bool, List, map, string_bytes, sym}
use Rattle.std.specs.Bool.{Decides}
use Rattle.ls_checked.specs.CheckedProgram as plain
use Rattle.ls_checked.specs.PlainProgram.{plain_thread}
use Rattle.ls_checked.specs.declared.program.ThreadProgram.{ThreadProgram}
use Rattle.ls_exchanged.specs.Doubles.{names_of}
use Rattle.ls_same_calls.proofs.Same.{map_twice}

abbrev pub name_in : ThreadProgram → List ℕ
name_in t = string_bytes t.name

pub named : (ts : List ThreadProgram) → names_of (map plain_thread ts) ≡ map name_in ts
named ts = map_twice (λ (t : plain.ThreadProgram). t.name) plain_thread ts

pub by_names : (xs ys : List ThreadProgram) (r : Bool) → Decides r (map name_in xs ≡ map name_in ys) →
    Decides r (names_of (map plain_thread xs) ≡ names_of (map plain_thread ys))
by_names xs ys r h = ((λ e. named xs ∙ h.0 e ∙ sym (named ys)), (λ e. h.1 (sym (named xs) ∙ e ∙ named ys)))
