-- Places of a code stay small enough, and so a machine can be made of it.
use Rattle.ls_code.specs.Limits.{most_instructions}
use Rattle.std.proofs.Common.{◌≡◌, ℕ, zero, suc, ◌+◌, ◌*◌, ◌^◌, ◌≤◌, List, [], ◌∷◌, length, map, ap, ◌∙◌, arith}
use Rattle.std.specs.Prelude.{All}
use Rattle.std.proofs.lemmas.List.{length-append, length-map}
use Rattle.ls_checked.specs.CheckedTree.{Class, File}
use Rattle.ls_checked.specs.CheckedProgram.{ThreadProgram, Program}
use Rattle.ls_code.specs.Code.{Code, IsSmall}
use Rattle.ls_emit.specs.Units.{CodeUnit}
use Rattle.ls_preservation.specs.Threads.{call_result}
use Rattle.ls_linker.specs.Threads.{thread_size}
use Rattle.ls_linker.specs.Linked.{linked, words_of, units_code, method_rows, starts}
use Rattle.ls_linker.specs.Landing.{UnitLands}
use Rattle.ls_linker.specs.Links.{ThreadLinks, Links}
use Rattle.ls_linker.specs.Added.{AddsUnits}
use Rattle.ls_linker.proofs.Wholes.{units_length}

-- the first of all items has the property
pub first_of_all : {A : Type 0} (P : A → Type 0) (x : A) (xs : List A) → All P (x ∷ xs) → P x
first_of_all P x xs h = h 0 x (omega arith)

-- the other items have the property
pub others_of_all : {A : Type 0} (P : A → Type 0) (x : A) (xs : List A) → All P (x ∷ xs) → All P xs
others_of_all P x xs h = λ k d below. h (suc k) d (omega (arith, below))

-- a property of mapped items
pub all_unmapped : {A B : Type 0} (P : B → Type 0) (f : A → B) (xs : List A) → All P (map f xs) → All (λ x. P (f x)) xs
all_unmapped P f [] h k d below = absurd (let no : ⊥ = omega (arith, below) in no)
all_unmapped P f (x ∷ xs) h zero d below = h 0 (f d) (omega arith)
all_unmapped P f (x ∷ xs) h (suc k) d below = all_unmapped P f xs (others_of_all P (f x) (map f xs) h) k d
    (omega (arith, below))

-- after a unit there is room for those that follow it
pub unit_room : (old new : Code) (u : CodeUnit) (us : List CodeUnit) → AddsUnits old (u ∷ []) new → UnitLands u →
    length old.instructions + most_instructions * length (u ∷ us) ≤ 2 ^ 26 →
    length new.instructions + most_instructions * length us ≤ 2 ^ 26
unit_room old new u us a lands room =
    let all = ap length a.instructions ∙ length-append old.instructions (units_code (length old.instructions) (u ∷ []))
    in
    let many = units_length (length old.instructions) (u ∷ []) in
    let short = lands.short in
    omega (arith, all, many, short, room)

few_starts : (classes : List Class) (place : ℕ) (ts : List ThreadProgram) → length (starts classes place ts) ≡ length ts
few_starts classes place [] = omega arith
few_starts classes place (t ∷ ts) = omega (arith, few_starts classes (place + thread_size classes t) ts)

few_calls : (classes : List Class) (place : ℕ) (ts : List ThreadProgram) →
    All (ThreadLinks classes) ts →
    All (λ s. length s.calls ≤ 2 ^ 20) (starts classes place ts)
few_calls classes place [] h k d below = absurd (let f : ⊥ = omega (arith, below) in f)
few_calls classes place (t ∷ ts) h zero d below =
    let few = (first_of_all (ThreadLinks classes) t ts h).few in
    omega (arith, few, length-map t.calls call_result)
few_calls classes place (t ∷ ts) h (suc k) d below =
    few_calls classes (place + thread_size classes t) ts (others_of_all (ThreadLinks classes) t ts h) k d
    (omega (arith, below))

few_locals : (place : ℕ) (us : List CodeUnit) →
    All UnitLands us →
    All (λ m. (m.arguments ≤ 2 ^ 20) × (m.more ≤ 2 ^ 20)) (method_rows place us)
few_locals place [] h k d below = absurd (let f : ⊥ = omega (arith, below) in f)
few_locals place (u ∷ us) h zero d below =
    let lands = first_of_all UnitLands u us h in
    let arguments = lands.arguments in
    let more = lands.more in
    (omega (arith, arguments), omega (arith, more))
few_locals place (u ∷ us) h (suc k) d below = few_locals (place + length u.instructions) us
    (others_of_all UnitLands u us h) k d (omega (arith, below))

-- a machine can be made of linked units and threads
pub small_linked : (file : File) (program : Program) (units : List CodeUnit) →
    Links file program units →
    IsSmall (linked file program units)
small_linked file program units l =
    let few = l.few_threads in
    record {
      threads = omega (arith, few, few_starts file.classes (words_of units) program.threads);
      calls = few_calls file.classes (words_of units) program.threads l.threads;
      locals = few_locals 0 units l.all;
    }
